-- Facts that one right happening more keeps.
use Rattle.std.proofs.Common.{◌≡◌, List, true, false, refl, sym, ap, ◌∙◌, subst, ◌⊎◌}
use Rattle.std.proofs.lemmas.Bool.{false_from_ne_true}
use mathlib.Core.Logic.{◌⊎◌.inl, ◌⊎◌.inr}
use Rattle.xa_base.specs.declared.call.Call.TheVariants as Calls
use Rattle.xa_base.specs.declared.answer.Answer.TheVariants.{Ret, Page}
use Rattle.xa_model.specs.Trace.{Gtrid, Branch, Line, Name, Name.Ours, Name.Foreign, Call, How, Answer, Outcome, Happening, Happening.Issued, Trace, Trace.Then}
use Rattle.xa_base.specs.declared.code.Code.TheVariants as Codes
use Rattle.xa_base.specs.declared.state.Standing.{Standing}
use Rattle.xa_base.specs.declared.state.Standing.TheVariants.{Committed, ReadOnly}
use Rattle.xa_model.specs.Facts.{decided_so, handed_over, claimed, live, started, says_yes, says_read_only, was_told, has_branch, participants_in, adds_row, ever, Change, Change.AddRows, Change.DropRows, Change.AddRecord, Change.NoChange, standing}
use Rattle.xa_model.specs.Protocol.{HasVoted, AllHaveVoted, AllAreSettled, RightDecision, Right}
use Rattle.xa_model.proofs.Invariant.{Closed, IsEnded, IsGood, IsHeuristic, IsOlder, IsStarted, YesFact, NotKnownFact, HeuristicFact, AnswerFact, RowFact, Covers, DoubtFact, Inv}
use Rattle.xa_model.proofs.Invariant.Moves.{begun_moves, ended_moves, heuristic_moves, rest_moves, good_moves}
use Rattle.xa_model.proofs.Invariant.Grows.{both, live_back, closed_kept, started_kept, handed_new, NewDecision, NewDecision.Was_decided, NewDecision.By_decide, NewDecision.By_recovery, decided_new, told_kept}
use Rattle.xa_model.proofs.Invariant.Rows.{settled_kept}
use Rattle.xa_model.proofs.Invariant.Now.{begun_or_older, older_closed, step_move, started_back, started_unclaimed}

not_ever : (tr : Trace) (g : Gtrid) → Closed tr g → live tr g ≡ true → ⊥
not_ever tr g c l = let n = c.not_live in cc

pub yes_kept : (tr : Trace) (e : Happening) (b : Branch) → Inv tr → Right tr e → YesFact tr b → YesFact (Then tr e) b
yes_kept tr e b inv r y = record {
  has_begun = begun_moves tr b _ _ (step_move tr e b inv r) y.has_begun;
  good = λ l. by_case (begun_or_older tr b inv y.has_begun) l;
}
  where
    by_case : (started tr b ≡ true) ⊎ IsOlder tr b → live (Then tr e) b.gtrid ≡ true → IsGood (standing (Then tr e) b)
    by_case (inl s) l =
        let n = live_back tr e b.gtrid r (inv.started_old b s) l in
        good_moves tr b _ _ (step_move tr e b inv r) s (λ c. absurd (not_ever tr b.gtrid c n)) (y.good n)
    by_case (inr o) l = let c = older_closed tr b inv o in absurd (not_ever tr b.gtrid c (live_back tr e b.gtrid r c.old l))

pub not_known_kept : (tr : Trace) (e : Happening) (b : Branch) → Inv tr → Right tr e → NotKnownFact tr b → NotKnownFact (Then tr e) b
not_known_kept tr e b inv r f = record {
  closed = closed_kept tr e b.gtrid r f.closed;
  at_rest = λ s. rest_moves tr b _ _ (step_move tr e b inv r) (f.at_rest (started_back tr e b r f.closed.not_live s));
}

pub ended_kept : (tr : Trace) (e : Happening) (b : Branch) (f : Standing) → Inv tr → Right tr e → IsEnded f → standing tr b ≡ f → standing (Then tr e) b ≡ f
ended_kept tr e b f inv r h q = ended_moves tr b _ _ (step_move tr e b inv r) (subst IsEnded (sym q) h) ∙ q

pub heuristic_kept : (tr : Trace) (e : Happening) (b : Branch) (how : How) → Inv tr → Right tr e → IsHeuristic how (standing tr b)
    → IsHeuristic how (standing (Then tr e) b)
heuristic_kept tr e b how inv r h = heuristic_moves tr b how _ _ (step_move tr e b inv r) h

pub heuristic_fact_kept : (tr : Trace) (e : Happening) (b : Branch) (how : How) → Inv tr → Right tr e → HeuristicFact tr b how → HeuristicFact (Then tr e) b how
heuristic_fact_kept tr e b how inv r h = record { heuristic = heuristic_kept tr e b how inv r h.heuristic; closed = closed_kept tr e b.gtrid r h.closed }

pub is_started_kept : (tr : Trace) (e : Happening) (x : Name) → IsStarted tr x → IsStarted (Then tr e) x
is_started_kept tr e (Ours b) (inl h) = inl (started_kept tr e b h)
is_started_kept tr e (Ours b) (inr o) = inr o
is_started_kept tr e (Foreign n) h = tt

pub answer_kept : (tr : Trace) (e : Happening) (c : Call) (a : Answer) → Inv tr → Right tr e → AnswerFact tr c a → AnswerFact (Then tr e) c a
answer_kept tr e (Calls.Prepare b) (Ret Codes.Success) inv r h = yes_kept tr e b inv r h
answer_kept tr e (Calls.Prepare b) (Ret Codes.ReadOnly) inv r h = ended_kept tr e b ReadOnly inv r tt h
answer_kept tr e (Calls.Commit b false) (Ret Codes.Success) inv r h = ended_kept tr e b Committed inv r tt h
answer_kept tr e (Calls.Commit b false) (Ret Codes.NotAnXid) inv r h = not_known_kept tr e b inv r h
answer_kept tr e (Calls.Start b false) (Ret (Codes.Heuristic how)) inv r h = heuristic_fact_kept tr e b how inv r h
answer_kept tr e (Calls.Start b true) (Ret (Codes.Heuristic how)) inv r h = heuristic_fact_kept tr e b how inv r h
answer_kept tr e (Calls.End b f) (Ret (Codes.Heuristic how)) inv r h = heuristic_fact_kept tr e b how inv r h
answer_kept tr e (Calls.Prepare b) (Ret (Codes.Heuristic how)) inv r h = heuristic_fact_kept tr e b how inv r h
answer_kept tr e (Calls.Commit b false) (Ret (Codes.Heuristic how)) inv r h = heuristic_fact_kept tr e b how inv r h
answer_kept tr e (Calls.Commit b true) (Ret (Codes.Heuristic how)) inv r h = heuristic_fact_kept tr e b how inv r h
answer_kept tr e (Calls.Rollback b) (Ret (Codes.Heuristic how)) inv r h = heuristic_fact_kept tr e b how inv r h
answer_kept tr e (Calls.Forget b) (Ret (Codes.Heuristic how)) inv r h = heuristic_fact_kept tr e b how inv r h
answer_kept tr e (Calls.Recover n s t) (Page names) inv r h = λ x i. is_started_kept tr e x (h x i)
answer_kept tr e Calls.OpenRm (Ret (Codes.Heuristic how)) inv r h = tt
answer_kept tr e Calls.CloseRm (Ret (Codes.Heuristic how)) inv r h = tt
answer_kept tr e (Calls.Recover n s t) (Ret (Codes.Heuristic how)) inv r h = tt
answer_kept tr e _ _ inv r h = tt

pub not_handed_kept : (tr : Trace) (e : Happening) (g : Gtrid) → Right tr e → live tr g ≡ false → handed_over tr g ≡ false → handed_over (Then tr e) g ≡ false
not_handed_kept tr e g r n h = false_from_ne_true _ (λ k. by_case (handed_new tr e g k))
  where
    by_case : (handed_over tr g ≡ true) ⊎ ((l : Line) × (b : Branch) × (e ≡ Issued l (Calls.Commit b true)) × (b.gtrid ≡ g)) → ⊥
    by_case (inl k) = cc
    by_case (inr k) =
        let q : Right tr (Issued k.0 (Calls.Commit k.1 true)) = subst (Right tr) k.2 r in let c = q.1 in let m = c.may_be in
        let lv = m.0.is_live in let w : live tr g ≡ true = sym (ap (live tr) k.3) ∙ lv in cc

pub not_decided_kept : (tr : Trace) (e : Happening) (o : Outcome) (g : Gtrid) → Right tr e → live tr g ≡ false
    → decided_so o tr g ≡ false → decided_so o (Then tr e) g ≡ false
not_decided_kept tr e o g r n h = false_from_ne_true _ (λ k. by_case (decided_new tr e o g k))
  where
    by_case : NewDecision tr e o g → ⊥
    by_case (Was_decided k) = both (decided_so o tr g) k h
    by_case (By_decide k) = let q : RightDecision tr g o = subst (Right tr) k r in both (live tr g) q.is_live n
    by_case (By_recovery m k q l) = both (live tr g) l n

pub row_fact_kept : (tr : Trace) (e : Happening) (g : Gtrid) → Inv tr → Right tr e → ever tr g ≡ true → RowFact tr g → RowFact (Then tr e) g
row_fact_kept tr e g inv r v f = record {
  closed = closed_kept tr e g r f.closed;
  good = λ b q s. good_after b q (started_back tr e b r (ap (live tr) q ∙ f.closed.not_live) s);
  not_handed = not_handed_kept tr e g r f.closed.not_live f.not_handed;
  not_rolled_back = not_decided_kept tr e Outcome.Rollback g r f.closed.not_live f.not_rolled_back;
}
  where
    good_after : (b : Branch) → b.gtrid ≡ g → started tr b ≡ true → IsGood (standing (Then tr e) b)
    good_after b q s = good_moves tr b _ _ (step_move tr e b inv r) s (λ c. ap (ever tr) q ∙ v) (f.good b q s)

pub all_settled_kept : (tr : Trace) (e : Happening) (g : Gtrid) → Right tr e → Closed tr g → AllAreSettled tr g → AllAreSettled (Then tr e) g
all_settled_kept tr e g r c f b q s = settled_kept tr e b (f b q (started_back tr e b r (ap (live tr) q ∙ c.not_live) s))

pub voted_kept : (tr : Trace) (e : Happening) (b : Branch) → HasVoted tr b → HasVoted (Then tr e) b
voted_kept tr e b (inl h) = inl (told_kept tr e (says_yes b) h)
voted_kept tr e b (inr h) = inr (told_kept tr e (says_read_only b) h)

pub all_voted_kept : (tr : Trace) (e : Happening) (g : Gtrid) → Right tr e → live tr g ≡ false → AllHaveVoted tr g → AllHaveVoted (Then tr e) g
all_voted_kept tr e g r n f b q s = voted_kept tr e b (f b q (started_back tr e b r (ap (live tr) q ∙ n) s))

pub covers_kept : (tr : Trace) (e : Happening) (bs : List Branch) (g : Gtrid) → Right tr e → Closed tr g → Covers tr bs g → Covers (Then tr e) bs g
covers_kept tr e bs g r c f b q s = by_case (f b q (started_back tr e b r (ap (live tr) q ∙ c.not_live) s))
  where
    by_case : (has_branch bs b ≡ true) ⊎ (was_told tr (says_read_only b) ≡ true) → (has_branch bs b ≡ true) ⊎ (was_told (Then tr e) (says_read_only b) ≡ true)
    by_case (inl h) = inl h
    by_case (inr h) = inr (told_kept tr e (says_read_only b) h)

pub claimed_voted_kept : (tr : Trace) (e : Happening) (g : Gtrid) → Right tr e → claimed tr g ≡ true → AllHaveVoted tr g → AllHaveVoted (Then tr e) g
claimed_voted_kept tr e g r c f b q s = voted_kept tr e b (f b q (started_unclaimed tr e b r (ap (claimed tr) q ∙ c) s))

-- all branches have voted where a commit is decided
pub decided_voted : (tr : Trace) (g : Gtrid) → Inv tr → RightDecision tr g Outcome.Commit → AllHaveVoted tr g
decided_voted tr g inv d = by_votes (d.votes refl)
  where
    by_votes : AllHaveVoted tr g ⊎ (claimed tr g ≡ true) → AllHaveVoted tr g
    by_votes (inl v) = v
    by_votes (inr c) = inv.claimed_voted g c

pub doubt_kept : (tr : Trace) (e : Happening) → Inv tr → Right tr e → (c : Change)
    → ((g : Gtrid) → adds_row c g ≡ true → ever tr g ≡ true) → DoubtFact tr c → DoubtFact (Then tr e) c
doubt_kept tr e inv r (AddRows xs) v f = λ g h.
    let k = f g h in (row_fact_kept tr e g inv r (v g h) k.0, covers_kept tr e (participants_in xs g) g r k.0.closed k.1)
doubt_kept tr e inv r (DropRows gs) v f = λ g h. let k = f g h in (closed_kept tr e g r k.0, all_settled_kept tr e g r k.0 k.1)
doubt_kept tr e inv r (AddRecord x) v f = heuristic_fact_kept tr e x.branch x.how inv r f
doubt_kept tr e inv r NoChange v f = tt
