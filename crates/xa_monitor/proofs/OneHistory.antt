-- What the one right history of all sessions says of the log that is left.
use Rattle.std.proofs.Common.{◌≡◌, ◌⊎◌, inl, inr, length, Bool, true, false, refl, sym, ap, ◌∙◌, subst}
use Rattle.std.proofs.lemmas.Bool.{or_right, true≢false}
use Rattle.xa_base.specs.StateTable.{broken}
use Rattle.xa_base.specs.declared.state.Standing.{Standing}
use Rattle.xa_base.specs.declared.state.Standing.TheVariants.{Committed, Prepared}
use Rattle.xa_model.proofs.AgreementLemmas.Alike.{are_alike, undone_no_row, prepared_not_at_rest}
use Rattle.xa_model.proofs.Invariant.{HasBegun, Inv, IsOlder}
use Rattle.xa_model.proofs.Invariant.Now.{older_not_started, settled_at_rest}
use Rattle.xa_model.proofs.Invariant.Preservation.{always, begun_is_started}
use Rattle.xa_model.proofs.Invariant.Rows.{rowed_kept}
use Rattle.xa_model.proofs.ProcessLemmas.Joining.{gone_right}
use Rattle.xa_model.proofs.ProcessLemmas.SameLogs.{same_listed}
use Rattle.xa_model.specs.Facts.{adds_row, doubt, ever, had_row, handed_over, has_row, lists_row, log as rows_of, standing, started}
use Rattle.xa_model.specs.Promises.Agreement.{IsUndone}
use Rattle.xa_model.specs.Promises.Processes.{gone, resumed}
use Rattle.xa_model.specs.Protocol.{AllRight}
use Rattle.xa_model.specs.Trace.{Branch, Gtrid, Happening.Restarted, Origin, Trace}
use Rattle.xa_monitor.proofs.ReachedStandings.{IsReached}
use Rattle.xa_monitor.proofs.Chains.{reached}
use Rattle.xa_monitor.specs.Agreement.{StandAlike}
use Rattle.xa_monitor.proofs.Commits.{HasCommit, broken_commits, whole_commits}
use Rattle.xa_monitor.specs.Sessions.{AfterSessions, CommitStands, Finds, FindsLog, HaveOneHistory, IsCommitting, Log, RowsDecide, WasFoundDecided}

-- ** standings

broken_committed : (s : Standing) → s ≡ Committed → broken s ≡ Committed
broken_committed s e = ap broken e

broken_prepared : (s : Standing) → s ≡ Prepared → broken s ≡ Prepared
broken_prepared s e = ap broken e

broken_undone : (s : Standing) → IsUndone s → IsUndone (broken s)
broken_undone s (inl e) = inl (ap broken e)
broken_undone s (inr e) = inr (ap broken e)

-- ** a right history

module _ (tr : Trace) (right : AllRight tr) where
  inv : Inv tr
  inv = always tr right

  -- a branch is committed by its row, or in one phase
  committed_by : (b : Branch) → standing tr b ≡ Committed → (had_row tr b.gtrid ≡ true) ⊎ (handed_over tr b.gtrid ≡ true)
  committed_by b e = by (inv.committed b e)
    where
      by : ((had_row tr b.gtrid ≡ true) ⊎ (handed_over tr b.gtrid ≡ true)) ⊎ IsOlder tr b
          → (had_row tr b.gtrid ≡ true) ⊎ (handed_over tr b.gtrid ≡ true)
      by (inl one) = one
      by (inr older) = absurd (older_not_started tr b inv older (begun_is_started tr b right (subst HasBegun (sym e) tt)))

  -- its row is there as long as another branch is prepared
  row_stays : (b c : Branch) → b.gtrid ≡ c.gtrid → standing tr b ≡ Committed → standing tr c ≡ Prepared → has_row tr b.gtrid ≡ true
  row_stays b c same committed prepared = by (committed_by b committed)
    where
      b_started : started tr b ≡ true
      b_started = begun_is_started tr b right (subst HasBegun (sym committed) tt)

      c_started : started tr c ≡ true
      c_started = begun_is_started tr c right (subst HasBegun (sym prepared) tt)

      there : had_row tr b.gtrid ≡ true → (t : Bool) → has_row tr b.gtrid ≡ t → t ≡ true
      there had true e = refl
      there had false e =
          absurd (prepared_not_at_rest (standing tr c) prepared
          (settled_at_rest tr c inv c_started (inv.row_left b.gtrid had e c (sym same) c_started)))

      by : (had_row tr b.gtrid ≡ true) ⊎ (handed_over tr b.gtrid ≡ true) → has_row tr b.gtrid ≡ true
      by (inl had) = there had (has_row tr b.gtrid) refl
      by (inr handed) =
          absurd (let one : Committed ≡ Prepared =
          sym committed ∙ (ap (standing tr) (inv.handed_one b c handed (sym same) b_started c_started) ∙ prepared) in cc)

  -- and so it is as long as the branch itself is prepared
  own_row_stays : (b : Branch) → had_row tr b.gtrid ≡ true → standing tr b ≡ Prepared → has_row tr b.gtrid ≡ true
  own_row_stays b had prepared = by (has_row tr b.gtrid) refl
    where
      b_started : started tr b ≡ true
      b_started = begun_is_started tr b right (subst HasBegun (sym prepared) tt)

      by : (t : Bool) → has_row tr b.gtrid ≡ t → t ≡ true
      by true e = refl
      by false e = absurd (prepared_not_at_rest (standing tr b) prepared
          (settled_at_rest tr b inv b_started (inv.row_left b.gtrid had e b refl b_started)))

  -- no row is there of a transaction that was undone
  none_undone : (b : Branch) → IsUndone (standing tr b) → has_row tr b.gtrid ≡ false
  none_undone b undone = by (has_row tr b.gtrid) refl
    where
      none : had_row tr b.gtrid ≡ true → ⊥
      none had = true≢false (sym (or_right (adds_row (doubt tr) b.gtrid) (had_row tr b.gtrid) had) ∙ undone_no_row tr b right undone)

      by : (t : Bool) → has_row tr b.gtrid ≡ t → t ≡ false
      by true has = absurd (none (inv.row_rowed b.gtrid has))
      by false has = refl

-- ** the next start

module _ (whole : Trace) (right : AllRight whole) (f : Branch → Standing) (there : (b : Branch) → standing (gone whole) b ≡ broken (f b)) where
  last_right : AllRight (gone whole)
  last_right = gone_right whole right

  there_committed : (b : Branch) → f b ≡ Committed → standing (gone whole) b ≡ Committed
  there_committed b e = there b ∙ broken_committed (f b) e

  there_prepared : (b : Branch) → f b ≡ Prepared → standing (gone whole) b ≡ Prepared
  there_prepared b e = there b ∙ broken_prepared (f b) e

  there_undone : (b : Branch) → IsUndone (f b) → IsUndone (standing (gone whole) b)
  there_undone b u = subst IsUndone (sym (there b)) (broken_undone (f b) u)

  alike : StandAlike f
  alike b c same e u = are_alike (gone whole) last_right b c same (there_committed b e) (there_undone c u)

  module _ (next : Origin) (found : FindsLog whole next) where
    next_right : AllRight (resumed whole next)
    next_right = (last_right, (refl, found.later, found.rows.number, found.records.number))

    listed : (g : Gtrid) → lists_row next.rows g ≡ has_row (resumed whole next) g
    listed g = same_listed next.rows (rows_of (resumed whole next)) found.rows g

    decides : RowsDecide f next
    decides = record {
      committed = λ b c same committed prepared. listed b.gtrid ∙ row_stays (resumed whole next) next_right b c same
          (there_committed b committed) (there_prepared c prepared);
      undone = λ b u. listed b.gtrid ∙ none_undone (resumed whole next) next_right b (there_undone b u);
    }

    stands : (b : Branch) → HasCommit whole b → CommitStands f next b
    stands b has = record {
      commits = whole_commits (f b) (subst IsCommitting (there b) (broken_commits (standing whole b) has.commits));
      row_stays = λ prepared. listed b.gtrid ∙ own_row_stays (resumed whole next) next_right b
          (rowed_kept (gone whole) (Restarted next.incarnation (length next.rows) (length next.heuristic_rows)) b.gtrid has.had) (there_prepared b prepared);
    }

-- what follows from one history of all
pub history_alike : (log : Log) (f : Branch → Standing) → HaveOneHistory log f → StandAlike f
history_alike log f one = alike one.whole one.right f one.there

pub history_decides : (log : Log) (f : Branch → Standing) (next : Origin) → HaveOneHistory log f → Finds log next → RowsDecide f next
history_decides log f next one finds = decides one.whole one.right f one.there next (one.finds next finds)

-- ** the sessions

module _ (log : Log) (f : Branch → Standing) (after : AfterSessions log f) where
  r : IsReached log f (λ b. WasFoundDecided b log f after)
  r = reached log f after

  pub sessions_alike : StandAlike f
  sessions_alike = r.alike

  pub one_history : HaveOneHistory log f
  one_history = record {
    whole = r.whole;
    right = r.right;
    there = r.there;
    finds = r.finds;
    committed = λ b e. by b (committed_by (gone r.whole) (last_right r.whole r.right f r.there) b (there_committed r.whole r.right f r.there b e));
    undone = λ b u. undone_no_row (gone r.whole) b (last_right r.whole r.right f r.there) (there_undone r.whole r.right f r.there b u);
  }
    where
      by : (b : Branch) → (had_row r.whole b.gtrid ≡ true) ⊎ (handed_over r.whole b.gtrid ≡ true)
          → (ever r.whole b.gtrid ≡ true) ⊎ (handed_over r.whole b.gtrid ≡ true)
      by b (inl had) = inl (or_right (adds_row (doubt r.whole) b.gtrid) (had_row r.whole b.gtrid) had)
      by b (inr handed) = inr handed

  module _ (next : Origin) (finds : Finds log next) where
    pub rows_decide : RowsDecide f next
    rows_decide = decides r.whole r.right f r.there next (r.finds next finds)

    pub commit_stands : (b : Branch) → WasFoundDecided b log f after → CommitStands f next b
    commit_stands b was = stands r.whole r.right f r.there next (r.finds next finds) b (r.decided b was)
