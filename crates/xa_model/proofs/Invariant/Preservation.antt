-- Each right happening keeps the invariant.
use Rattle.std.proofs.Common.{◌≡◌, arith, ℕ, [], length, Bool, true, false, refl, sym, subst, ◌⊎◌}
use Rattle.std.specs.Prelude.{if◌then◌else◌, Some}
use mathlib.Core.Logic.{◌⊎◌.inl, ◌⊎◌.inr}
use Rattle.xa_base.specs.declared.call.Call.TheVariants as Calls
use Rattle.xa_base.specs.StateTable.{on}
use Rattle.xa_base.specs.declared.answer.Answer.TheVariants.{Page}
use Rattle.xa_base.specs.declared.state.Standing.TheVariants.{Committed, Forgotten, Unstarted}
use Rattle.xa_model.specs.Trace.{Branch, Gtrid, How, Line, Name, Call, Answer, Outcome, Happening, Happening.Claimed, Happening.Heard, Happening.Decided, Origin, Trace, Trace.From, Trace.Then, line_eq, line}
use Rattle.xa_model.specs.Facts.{origin, had_row, handed_over, held_of, recorded_as, standing, started, decided_so, claimed, live, lists_row, breaks, heard, page, page_after}
use Rattle.xa_model.specs.Protocol.{Lists, AllHaveVoted, RightClaim, RightDecision, Right, OldOrigin, IsRun, AllRight}
use Rattle.xa_model.proofs.Invariant.{HasBegun, IsOlder, Old, IsStarted, RowFact, Inv}
use Rattle.xa_model.proofs.Invariant.Moves.{unstarted_moves}
use Rattle.xa_model.proofs.Invariant.Grows.{NewDecision, NewDecision.Was_decided, NewDecision.By_decide, NewDecision.By_recovery, decided_new, claimed_new, live_kept}
use Rattle.xa_model.proofs.Invariant.Rows.{row_rowed_after}
use Rattle.xa_base.proofs.Lists.{get_none}
use Rattle.xa_model.proofs.Invariant.Now.{closed_decided, step_move}
use Rattle.xa_model.proofs.Invariant.OneMore.{claimed_voted_kept, decided_voted, all_voted_kept, is_started_kept}
use Rattle.xa_model.proofs.Invariant.WaitingCalls.{waiting_after, waiting_up_after, start_once_after, start_issued_after}
use Rattle.xa_model.proofs.Invariant.PreservedTransactions.{begun_since_after, not_started_before, since_start_after, started_since_after, begun_old_after, started_old_after, decided_old_after, handed_old_after, handed_one_after, unstarted_after, committed_after}
use Rattle.xa_model.proofs.Invariant.PreservedRows.{rows_after, row_left_after, covered_after, doubt_down_after, in_doubt_after}
use Rattle.xa_model.proofs.Invariant.HeardAnswers.{answered_after, voted_yes_after, voted_read_only_after, acknowledged_after, recorded_after, recorded_closed_after, forgotten_after}

-- ** pages

page_heard : (tr : Trace) (l : Line) (c : Call) (a : Answer) (r : ℕ) (x : Name) → Inv tr → Right tr (Heard l c a)
    → Lists (page_after (page tr r) (Heard l c a) r) x → IsStarted tr x
page_heard tr l (Calls.Recover n s t) (Page names) r x inv rt h = by_line (line_eq l (line 0 r)) h
  where
    by_line : (u : Bool) → Lists (if u then names else page tr r) x → IsStarted tr x
    by_line true h = inv.answered l (length (heard tr l)) (Calls.Recover n s t) (Page names) rt.1 x h
    by_line false h = inv.paged r x h
page_heard tr l _ _ r x inv rt h = inv.paged r x h

page_event : (tr : Trace) (e : Happening) (r : ℕ) (x : Name) → Inv tr → Right tr e → Lists (page_after (page tr r) e r) x → IsStarted tr x
page_event tr (Heard l c a) r x inv rt h = page_heard tr l c a r x inv rt h
page_event tr _ r x inv rt h = inv.paged r x h

paged_after : (tr : Trace) (e : Happening) (r : ℕ) (x : Name) → Inv tr → Right tr e → Lists (page (Then tr e) r) x → IsStarted (Then tr e) x
paged_after tr e r x inv rt h = is_started_kept tr e x (by_break (breaks tr e (line 0 r)) h)
  where
    by_break : (t : Bool) → Lists (if t then [] else page_after (page tr r) e r) x → IsStarted tr x
    by_break true h = absurd (get_none h.0 x h.1)
    by_break false h = page_event tr e r x inv rt h

-- ** votes

all_voted_after : (tr : Trace) (e : Happening) (g : Gtrid) → Inv tr → Right tr e → decided_so Outcome.Commit (Then tr e) g ≡ true → AllHaveVoted (Then tr e) g
all_voted_after tr e g inv r h = by_case (decided_new tr e Outcome.Commit g h)
  where
    now : (e : Happening) → e ≡ Decided g Outcome.Commit → Right tr e → AllHaveVoted (Then tr e) g
    now e q r = subst (λ x. AllHaveVoted (Then tr x) g) (sym q) (let d : RightDecision tr g Outcome.Commit = subst (Right tr) q r in decided_voted tr g inv d)

    by_case : NewDecision tr e Outcome.Commit g → AllHaveVoted (Then tr e) g
    by_case (By_recovery n q o l) = absurd (cc)
    by_case (Was_decided k) = all_voted_kept tr e g r (closed_decided tr Outcome.Commit g inv k).not_live (inv.all_voted g k)
    by_case (By_decide k) = now e k r

-- ** claims

claimed_live_after : (tr : Trace) (e : Happening) (g : Gtrid) → Inv tr → Right tr e → claimed (Then tr e) g ≡ true → live (Then tr e) g ≡ true
claimed_live_after tr e g inv r h = by_case (claimed_new tr e g h)
  where
    now : RightClaim tr g → live (Then tr (Claimed g)) g ≡ true
    now c = c.is_live

    by_case : (claimed tr g ≡ true) ⊎ (e ≡ Claimed g) → live (Then tr e) g ≡ true
    by_case (inl k) = live_kept tr e g r k h (inv.claimed_live g k)
    by_case (inr k) = subst (λ x. live (Then tr x) g ≡ true) (sym k) (now (subst (Right tr) k r))

claimed_voted_after : (tr : Trace) (e : Happening) (g : Gtrid) → Inv tr → Right tr e → claimed (Then tr e) g ≡ true → AllHaveVoted (Then tr e) g
claimed_voted_after tr e g inv r h = by_case (claimed_new tr e g h)
  where
    now : RightClaim tr g → AllHaveVoted (Then tr (Claimed g)) g
    now c b q s = c.votes b q s

    by_case : (claimed tr g ≡ true) ⊎ (e ≡ Claimed g) → AllHaveVoted (Then tr e) g
    by_case (inl k) = claimed_voted_kept tr e g r k (inv.claimed_voted g k)
    by_case (inr k) = subst (λ x. AllHaveVoted (Then tr x) g) (sym k) (now (subst (Right tr) k r))

-- ** the invariant

pub step : (tr : Trace) (e : Happening) → Inv tr → Right tr e → Inv (Then tr e)
step tr e inv r = record {
  since_start = since_start_after tr e inv r;
  begun_since = λ g h. begun_since_after tr e g inv r h;
  started_since = λ b h. started_since_after tr e b inv r h;
  begun_old = λ g h. begun_old_after tr e g inv r h;
  started_old = λ b h. started_old_after tr e b inv r h;
  decided_old = λ o g h. decided_old_after tr e o g inv r h;
  handed_old = λ g h. handed_old_after tr e g inv r h;
  handed_one = λ b c h q s t. handed_one_after tr e b c inv r h q s t;
  unstarted = λ b h. unstarted_after tr e b inv r h;
  committed = λ b h. committed_after tr e b inv r h;
  rows = λ g h. rows_after tr e g inv r h;
  row_rowed = λ g h. row_rowed_after tr e g (inv.row_rowed g) h;
  row_left = λ g h n. row_left_after tr e g inv r h n;
  covered = λ g h. covered_after tr e g inv r h;
  doubt_down = λ u. doubt_down_after tr e inv r u;
  in_doubt = in_doubt_after tr e inv r;
  waiting_up = λ l c w. waiting_up_after tr e l c inv r w;
  waiting = λ l k b w. waiting_after tr e l k b inv r w;
  start_once = λ l b x y j k s t p q. start_once_after tr e l b x y j k inv r s t p q;
  start_issued = λ l b x j s p. start_issued_after tr e l b x j inv r s p;
  answered = λ l k c a h. answered_after tr e l k c a inv r h;
  voted_yes = λ b h. voted_yes_after tr e b inv r h;
  voted_read_only = λ b h. voted_read_only_after tr e b inv r h;
  acknowledged = λ b h. (acknowledged_after tr e b inv r h).at_rest;
  acknowledged_fixed = λ b h. (acknowledged_after tr e b inv r h).is_fixed;
  recorded_closed = λ b h. recorded_closed_after tr e b inv r h;
  heuristic = λ b how h. (recorded_after tr e b how inv r h).heuristic;
  forgotten = λ b how h. forgotten_after tr e b how inv r h;
  paged = λ n x h. paged_after tr e n x inv r h;
  claimed_live = λ g h. claimed_live_after tr e g inv r h;
  claimed_voted = λ g h. claimed_voted_after tr e g inv r h;
  all_voted = λ g h. all_voted_after tr e g inv r h;
}

-- ** the start

origin_row : (o : Origin) (g : Gtrid) → OldOrigin o → lists_row o.rows g ≡ true → RowFact (From o) g
origin_row o g r h = record {
  closed = record { old = inl (r.rows_old g h); not_live = refl };
  good = λ b q s. absurd (false_is_true s);
  not_handed = refl;
  not_rolled_back = refl;
}
  where
    false_is_true : false ≡ true → ⊥
    false_is_true e = cc

pub at_start : (o : Origin) → OldOrigin o → Inv (From o)
at_start o r = record {
  since_start = omega arith;
  begun_since = λ g h. absurd (cc);
  started_since = λ b h. absurd (cc);
  begun_old = λ g h. cc;
  started_old = λ b h. cc;
  decided_old = λ x g h. no_decision x g h;
  handed_old = λ g h. cc;
  handed_one = λ b c h q s t. cc;
  unstarted = λ b h. r.held_old b;
  committed = λ b h. was_committed b (r.held_old b) h;
  rows = λ g h. origin_row o g r h;
  row_rowed = λ g h. h;
  row_left = λ g h n. cc;
  covered = λ g h b q s. absurd (cc);
  doubt_down = λ u. refl;
  in_doubt = tt;
  waiting_up = λ l c w. refl;
  waiting = λ l k b w. absurd (get_none w.place (on k b) w.is);
  start_once = λ l b x y j k s t p q. absurd (get_none j (on x b) p);
  start_issued = λ l b x j s p. absurd (get_none j (on x b) p);
  answered = λ l k c a h. absurd (get_none k (c, a) h);
  voted_yes = λ b h. cc;
  voted_read_only = λ b h. cc;
  acknowledged = λ b h s. cc;
  acknowledged_fixed = λ b h. cc;
  recorded_closed = λ b h. record { old = inl (r.record_old b h); not_live = refl };
  heuristic = λ b how h s. absurd (cc);
  forgotten = λ b how h. was_forgotten b how (r.held_old b) h;
  paged = λ n x h. absurd (get_none h.0 x h.1);
  claimed_live = λ g h. absurd (cc);
  claimed_voted = λ g h. absurd (cc);
  all_voted = λ g h. cc;
}
  where
    was_committed : (b : Branch) → ((held_of o b).standing ≡ Unstarted) ⊎ IsOlder (From o) b → (held_of o b).standing ≡ Committed
        → ((had_row (From o) b.gtrid ≡ true) ⊎ (handed_over (From o) b.gtrid ≡ true)) ⊎ IsOlder (From o) b
    was_committed b (inl u) h = absurd (cc)
    was_committed b (inr k) h = inr k

    was_forgotten : (b : Branch) (how : How) → ((held_of o b).standing ≡ Unstarted) ⊎ IsOlder (From o) b → (held_of o b).standing ≡ Forgotten how
        → (recorded_as (From o) b ≡ Some how) ⊎ IsOlder (From o) b
    was_forgotten b how (inl u) h = absurd (cc)
    was_forgotten b how (inr k) h = inr k

    no_decision : (x : Outcome) (g : Gtrid) → decided_so x (From o) g ≡ true → Old (From o) g
    no_decision Outcome.Commit g h = cc
    no_decision Outcome.Rollback g h = cc

pub run_always : (tr : Trace) → IsRun tr → Inv tr
run_always (From o) r = at_start o r
run_always (Then tr e) r = step tr e (run_always tr r.0) r.1

-- a right history is a run
pub run_of : (tr : Trace) → AllRight tr → IsRun tr
run_of (From o) r = record { rows_old = r.rows_old; record_old = r.record_old; held_old = λ b. inl (r.clear b) }
run_of (Then tr e) r = (run_of tr r.0, r.1)

pub always : (tr : Trace) → AllRight tr → Inv tr
always tr r = run_always tr (run_of tr r)

-- what the start found unstarted was started since, or is so still
pub never_found : (tr : Trace) (b : Branch) → IsRun tr → (held_of (origin tr) b).standing ≡ Unstarted → started tr b ≡ false → standing tr b ≡ Unstarted
never_found (From o) b r u s = u
never_found (Then tr e) b r u s =
    let m = not_started_before tr e b s in unstarted_moves tr b _ _ (step_move tr e b (run_always tr r.0) r.1) m (never_found tr b r.0 u m)

-- and its start found nothing
pub never_started : (tr : Trace) (b : Branch) → AllRight tr → started tr b ≡ false → standing tr b ≡ Unstarted
never_started (From o) b r s = r.clear b
never_started (Then tr e) b r s =
    let m = not_started_before tr e b s in unstarted_moves tr b _ _ (step_move tr e b (always tr r.0) r.1) m (never_started tr b r.0 m)

pub begun_is_started : (tr : Trace) (b : Branch) → AllRight tr → HasBegun (standing tr b) → started tr b ≡ true
begun_is_started tr b r h = by_test (started tr b) refl
  where
    by_test : (t : Bool) → started tr b ≡ t → t ≡ true
    by_test true s = refl
    by_test false s = absurd (subst HasBegun (never_started tr b r s) h)
