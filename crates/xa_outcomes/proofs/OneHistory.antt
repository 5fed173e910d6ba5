-- The one history of all sessions, of which each is a part, tells what they commit and undo.
use Rattle.std.proofs.Common.{◌≡◌, ◌∙◌, ◌⊎◌, inl, inr, true, false, sym, ap, subst}
use Rattle.std.proofs.lemmas.Bool.{or_right}
use Rattle.xa_base.specs.StateTable.{broken}
use Rattle.xa_base.specs.declared.state.Standing.TheVariants.{Committed}
use Rattle.xa_base.specs.declared.state.Standing.{Standing}
use Rattle.xa_model.proofs.AgreementLemmas.Alike.{undone_no_row}
use Rattle.xa_model.proofs.Invariant.Now.{older_not_started}
use Rattle.xa_model.proofs.Invariant.Preservation.{always, begun_is_started}
use Rattle.xa_model.proofs.Invariant.{HasBegun, Inv, IsOlder}
use Rattle.xa_model.proofs.ProcessLemmas.Joining.{gone_right}
use Rattle.xa_model.specs.Facts.{adds_row, doubt, ever, had_row, handed_over, standing}
use Rattle.xa_model.specs.Promises.Agreement.{IsUndone}
use Rattle.xa_model.specs.Promises.Processes.{gone}
use Rattle.xa_model.specs.Protocol.{AllRight}
use Rattle.xa_model.specs.Trace.{Branch, Gtrid, Trace}
use Rattle.xa_monitor.specs.Sessions.{AfterSessions, Log}
use Rattle.xa_outcomes.proofs.Reached.{IsOneHistory, reached}
use Rattle.xa_outcomes.specs.Parts.{SessionsAreParts}

-- a branch is committed by its row, or in one phase
pub committed_by : (tr : Trace) → AllRight tr → (b : Branch) → standing tr b ≡ Committed → (had_row tr b.gtrid ≡ true) ⊎ (handed_over tr b.gtrid ≡ true)
committed_by tr right b e = by (always tr right) ((always tr right).committed b e)
  where
    by : Inv tr → ((had_row tr b.gtrid ≡ true) ⊎ (handed_over tr b.gtrid ≡ true)) ⊎ IsOlder tr b
        → (had_row tr b.gtrid ≡ true) ⊎ (handed_over tr b.gtrid ≡ true)
    by inv (inl one) = one
    by inv (inr older) = absurd (older_not_started tr b inv older (begun_is_started tr b right (subst HasBegun (sym e) tt)))

broken_undone : (s : Standing) → IsUndone s → IsUndone (broken s)
broken_undone s (inl e) = inl (ap broken e)
broken_undone s (inr e) = inr (ap broken e)

had_or_handed : (tr : Trace) (g : Gtrid) → (had_row tr g ≡ true) ⊎ (handed_over tr g ≡ true) → (ever tr g ≡ true) ⊎ (handed_over tr g ≡ true)
had_or_handed tr g (inl had) = inl (or_right (adds_row (doubt tr) g) (had_row tr g) had)
had_or_handed tr g (inr handed) = inr handed

module _ (log : Log) (f : Branch → Standing) (after : AfterSessions log f) (m : IsOneHistory log f after) where
  pub gone_so : AllRight (gone m.whole)
  gone_so = gone_right m.whole m.right

  pub committed_so : (b : Branch) → f b ≡ Committed → (had_row m.whole b.gtrid ≡ true) ⊎ (handed_over m.whole b.gtrid ≡ true)
  committed_so b e = committed_by (gone m.whole) gone_so b (m.there b ∙ ap broken e)

  pub undone_so : (b : Branch) → IsUndone (f b) → ever m.whole b.gtrid ≡ false
  undone_so b u = undone_no_row (gone m.whole) b gone_so (subst IsUndone (sym (m.there b)) (broken_undone (f b) u))

pub are_parts : SessionsAreParts
are_parts log f after =
    let m = reached log f after in
    record {
      history = record {
        whole = m.whole;
        right = m.right;
        there = m.there;
        finds = m.finds;
        committed = λ b e. had_or_handed m.whole b.gtrid (committed_so log f after m b e);
        undone = undone_so log f after m;
      };
      parts = m.parts;
    }
