-- What holds at every moment, read off the invariant.
use Rattle.std.proofs.Common.{◌≡◌, true, false, Bool, refl, sym, subst, arith, ◌⊎◌}
use Rattle.std.specs.Prelude.{Some}
use mathlib.Core.Logic.{◌⊎◌.inl, ◌⊎◌.inr}
use Rattle.std.proofs.lemmas.Bool.{and_parts, false_from_ne_true, or_cases}
use Rattle.xa_base.specs.StateTable.{State.S0, State.S5, state_of}
use Rattle.xa_base.specs.declared.state.Standing.{Standing}
use Rattle.xa_base.specs.declared.state.Standing.TheVariants.{Unstarted, Active, Idle, Prepared, RollbackOnly, Completed, Committed, RolledBack, Lost, ReadOnly, Forgotten}
use Rattle.xa_base.specs.declared.step.Outcome.TheVariants as Outcome
use Rattle.xa_model.specs.Promises.AgreementInvariant.{IsWaiting, CommitHasRow, RollbackHasNoRow, NoStartAfterCommit, RowsWerePrepared, IsReadyToCommit, ClaimedIsPrepared, SettledIsOver, MayBegin, FreshGtrids, HandedOverAlone}
use Rattle.xa_model.specs.Promises.Commitment.{Phase, phase_of}
use Rattle.xa_model.specs.Facts.{decided_so, claimed, outlived, counts_as_committed, handed_over, live, has_row, had_row, ever, is_settled, heuristic_rows, recorded_as, standing}
use Rattle.xa_model.specs.Protocol.{HasVoted, AllAreSettled, IsRun}
use Rattle.xa_base.specs.declared.call.Call.TheVariants as Calls
use Rattle.xa_model.specs.Trace.{Gtrid, Branch, Line, Kind.Start, Kind.Join, Kind.Commit, Kind.Rollback, Call, How, Trace}
use Rattle.xa_model.proofs.Replies.DeterminedReplies.{handed_some}
use Rattle.xa_model.proofs.Invariant.{Old, IsAtRest, IsGood, IsOlder, HasBegun, Waits, WaitingStart, Inv}
use Rattle.xa_model.proofs.Invariant.Now.{closed_handed, older_not_live, ever_up, row_fact_ever, settled_at_rest}
use Rattle.xa_model.proofs.Invariant.Records.{has_of}
use Rattle.xa_model.proofs.Invariant.PreservedRows.{voted_good}

good_phase : (f : Standing) → IsGood f → (phase_of f ≡ Phase.Prepared) ⊎ (phase_of f ≡ Phase.Committed)
good_phase Prepared h = inl refl
good_phase (Completed how) h = inl refl
good_phase Committed h = inr refl
good_phase ReadOnly h = inl refl
good_phase (Forgotten how) h = inl refl
good_phase _ h = absurd h

rest_state : (f : Standing) → IsAtRest f → (state_of f ≡ S0) ⊎ ((how : How) × (state_of f ≡ S5 how))
rest_state (Completed how) h = inr (how, refl)
rest_state Committed h = inl refl
rest_state RolledBack h = inl refl
rest_state Lost h = inl refl
rest_state ReadOnly h = inl refl
rest_state (Forgotten how) h = inl refl
rest_state _ h = absurd h

not_begun : (tr : Trace) (g : Gtrid) → MayBegin tr g → Old tr g → ⊥
not_begun tr g (inl m) (inl o) = let i = m.0 in omega arith
not_begun tr g (inl m) (inr o) = let s = m.1 in let k = o.1 in omega arith
not_begun tr g (inr m) (inl o) = omega arith
not_begun tr g (inr m) (inr o) = let k = o.0 in omega arith

waits_of : (tr : Trace) (l : Line) (c : Call) → IsWaiting tr l c → Waits tr l c
waits_of tr l c w = record { place = w.0; not_taken = w.1; is = w.2 }

-- ** calls that wait

pub commit_has_row : (tr : Trace) → Inv tr → CommitHasRow tr
commit_has_row tr inv l b s w = by_row (has_row tr b.gtrid) refl
  where
    h : had_row tr b.gtrid ≡ true
    h = inv.waiting l Commit b (waits_of tr l (Calls.Commit b false) w)

    by_row : (t : Bool) → has_row tr b.gtrid ≡ t → (t ≡ true) ⊎ (is_settled tr b ≡ true)
    by_row true n = inl refl
    by_row false n = inr (inv.row_left b.gtrid h n b refl s)

pub rollback_has_no_row : (tr : Trace) → Inv tr → RollbackHasNoRow tr
rollback_has_no_row tr inv l b s w = by_row (waits_of tr l (Calls.Rollback b) w) (ever tr b.gtrid) refl
  where
    by_row : Waits tr l (Calls.Rollback b) → (t : Bool) → ever tr b.gtrid ≡ t → (t ≡ false) ⊎ AllAreSettled tr b.gtrid
    by_row v true e = inr (inv.row_left b.gtrid (ever_up tr b.gtrid inv (inv.waiting_up l (Calls.Rollback b) v) e) (inv.waiting l Rollback b v).no_row)
    by_row v false e = inl refl

no_vote : (tr : Trace) (b : Branch) → Inv tr → standing tr b ≡ Unstarted → HasVoted tr b → ⊥
no_vote tr b inv u (inl h) = subst HasBegun u (inv.voted_yes b h).has_begun
no_vote tr b inv u (inr h) = let k = inv.voted_read_only b h in cc

no_start : (tr : Trace) (l : Line) (b : Branch) → Inv tr → WaitingStart tr l b
    → (decided_so Outcome.Commit tr b.gtrid ≡ true) ⊎ (outlived tr b.gtrid ≡ true) → ⊥
no_start tr l b inv f (inl d) = no_vote tr b inv f.unstarted (inv.all_voted b.gtrid d b refl f.is_started)
no_start tr l b inv f (inr o) = subst IsGood f.unstarted ((inv.rows b.gtrid (inv.row_rowed b.gtrid (and_parts _ _ o).1)).good b refl f.is_started)

not_closed_yet : (tr : Trace) (l : Line) (b : Branch) → Inv tr → WaitingStart tr l b → (counts_as_committed tr b.gtrid ≡ false) × (claimed tr b.gtrid ≡ false)
not_closed_yet tr l b inv f = (
  false_from_ne_true _ (λ d. no_start tr l b inv f (or_cases _ _ d)),
  false_from_ne_true _
      (λ c. no_vote tr b inv f.unstarted (inv.claimed_voted b.gtrid c b refl f.is_started)),
)

pub no_start_after_commit : (tr : Trace) → Inv tr → NoStartAfterCommit tr
no_start_after_commit tr inv l Start b s w = not_closed_yet tr l b inv (inv.waiting l Start b (waits_of tr l (Calls.Start b false) w))
no_start_after_commit tr inv l Join b s w = not_closed_yet tr l b inv (inv.waiting l Join b (waits_of tr l (Calls.Start b true) w))
no_start_after_commit tr inv l _ b s w = absurd s

-- ** branches

pub rows_were_prepared : (tr : Trace) → Inv tr → RowsWerePrepared tr
rows_were_prepared tr inv b s e = good_phase _ ((row_fact_ever tr b.gtrid inv e).good b refl s)

-- a good branch of a live transaction has no end but by a vote to only read
no_end : (tr : Trace) (b : Branch) → Inv tr → live tr b.gtrid ≡ true → (had_row tr b.gtrid ≡ true) ⊎ (handed_over tr b.gtrid ≡ true) → ⊥
no_end tr b inv l (inl h) = let n = (inv.rows b.gtrid h).closed.not_live in cc
no_end tr b inv l (inr h) = let n = (closed_handed tr b.gtrid inv h).not_live in cc

ready : (tr : Trace) (b : Branch) → Inv tr → IsGood (standing tr b) → live tr b.gtrid ≡ true → (f : Standing) → standing tr b ≡ f → IsReadyToCommit f
ready tr b inv h l Prepared e = tt
ready tr b inv h l (Completed how) e = tt
ready tr b inv h l ReadOnly e = tt
ready tr b inv h l Committed e = absurd (by_case (inv.committed b e))
  where
    by_case : ((had_row tr b.gtrid ≡ true) ⊎ (handed_over tr b.gtrid ≡ true)) ⊎ IsOlder tr b → ⊥
    by_case (inl k) = no_end tr b inv l k
    by_case (inr o) = older_not_live tr b inv o l
ready tr b inv h l (Forgotten how) e = absurd (by_case (inv.forgotten b how e))
  where
    by_case : (recorded_as tr b ≡ Some how) ⊎ IsOlder tr b → ⊥
    by_case (inl k) = let n = (inv.recorded_closed b (has_of (heuristic_rows tr) b how k)).not_live in cc
    by_case (inr o) = older_not_live tr b inv o l
ready tr b inv h l Unstarted e = absurd (subst IsGood e h)
ready tr b inv h l Active e = absurd (subst IsGood e h)
ready tr b inv h l Idle e = absurd (subst IsGood e h)
ready tr b inv h l RollbackOnly e = absurd (subst IsGood e h)
ready tr b inv h l RolledBack e = absurd (subst IsGood e h)
ready tr b inv h l Lost e = absurd (subst IsGood e h)

pub claimed_is_prepared : (tr : Trace) → Inv tr → ClaimedIsPrepared tr
claimed_is_prepared tr inv b s c =
    ready tr b inv (voted_good tr b inv (inv.claimed_live b.gtrid c) (inv.claimed_voted b.gtrid c b refl s)) (inv.claimed_live b.gtrid c) (standing tr b) refl

pub settled_is_over : (tr : Trace) → Inv tr → SettledIsOver tr
settled_is_over tr inv = record {
  over = λ b s t. rest_state _ (settled_at_rest tr b inv s t);
  rows_leave = inv.row_left;
}

-- ** transactions

pub fresh_gtrids : (tr : Trace) → Inv tr → FreshGtrids tr
fresh_gtrids tr inv = record {
  rows = λ g m. false_from_ne_true _ (λ e. not_begun tr g m (row_fact_ever tr g inv e).closed.old);
  branches = λ b m. false_from_ne_true _ (λ e. not_begun tr b.gtrid m (inv.started_old b e));
}

pub handed_over_alone : (tr : Trace) → IsRun tr → Inv tr → HandedOverAlone tr
handed_over_alone tr right inv = record {
  some = λ g h. handed_some tr g right h;
  one = λ b c h q s t. inv.handed_one b c h (sym q) s t;
  no_row = λ g h. false_from_ne_true _ (λ e. let n = (row_fact_ever tr g inv e).not_handed in cc);
}
