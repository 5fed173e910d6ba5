-- Answers that are heard, and the records of heuristic ends, after one happening more.
use Rattle.std.proofs.Common.{◌≡◌, ℕ, length, Bool, true, false, refl, sym, ap, ◌∙◌, subst, ◌⊎◌}
use Rattle.std.specs.Prelude.{Some, slice_get}
use mathlib.Core.Logic.{◌⊎◌.inl, ◌⊎◌.inr}
use Rattle.xa_base.specs.declared.call.Call.TheVariants as Calls
use Rattle.xa_base.specs.declared.answer.Answer.TheVariants.{Ret}
use Rattle.xa_model.specs.Trace.{Branch, Line, Call, How, Answer, Happening, Happening.Heard, Recorded, Trace, Trace.Then}
use Rattle.xa_base.specs.declared.code.Code.TheVariants as Codes
use Rattle.xa_base.specs.declared.state.Standing.TheVariants.{Unstarted, Completed, Committed, ReadOnly, Forgotten}
use Rattle.xa_model.specs.Facts.{started, was_told, says_yes, says_read_only, acknowledges, recorded, recorded_as, heuristic_rows, record_of, record_of, Change.AddRecord, taken, heard, standing}
use Rattle.xa_model.specs.Protocol.{Right}
use Rattle.xa_model.proofs.Invariant.{Closed, HasBegun, IsAtRest, IsHeuristic, IsOlder, YesFact, NotKnownFact, HeuristicFact, AnswerFact, DoubtFact, IsFixed, Inv}
use Rattle.xa_base.proofs.BranchKeys.{branch_eq-true}
use Rattle.xa_model.proofs.Invariant.Moves.{rest_moves, forgotten_moves}
use Rattle.xa_model.proofs.Invariant.Grows.{closed_kept, told_new}
use Rattle.xa_model.proofs.Invariant.Records.{has_of, recorded_how, recorded_as_kept, NewRecord, NewRecord.Had_record, NewRecord.By_answer, NewRecord.By_doubt_too, recorded_new}
use Rattle.xa_model.proofs.Invariant.Lines.{NewTaken, NewTaken.Was, NewTaken.Now, taken_back}
use Rattle.xa_model.proofs.Invariant.Now.{begun_or_older, older_closed, step_move, started_back, fixed_back, fixed_kept}
use Rattle.xa_model.proofs.Invariant.OneMore.{ended_kept, heuristic_kept, yes_kept, answer_kept}
use Rattle.xa_model.proofs.Invariant.NewFacts.{answer_new}

-- ** answers

pub answered_after : (tr : Trace) (e : Happening) (l : Line) (k : ℕ) (c : Call) (a : Answer) → Inv tr → Right tr e
    → slice_get (taken (Then tr e) l) k ≡ Some (c, a) → AnswerFact (Then tr e) c a
answered_after tr e l k c a inv r h = by_case (taken_back tr e l k c a h)
  where
    by_case : NewTaken tr e l k c a → AnswerFact (Then tr e) c a
    by_case (Was p) = answer_kept tr e c a inv r (inv.answered l k c a p)
    by_case (Now q) = subst (λ x. AnswerFact (Then tr x) c a) (sym q) (answer_new tr l c a inv (subst (Right tr) q r))

-- what an answer that is heard says
heard_fact : (tr : Trace) (e : Happening) (l : Line) (c : Call) (a : Answer) → Inv tr → Right tr e → e ≡ Heard l c a → AnswerFact (Then tr e) c a
heard_fact tr e l c a inv r q =
    let h : Right tr (Heard l c a) = subst (Right tr) q r in answer_kept tr e c a inv r (inv.answered l (length (heard tr l)) c a h.1)

yes_test : (tr : Trace) (b : Branch) (c : Call) (a : Answer) → says_yes b c a ≡ true → AnswerFact tr c a → YesFact tr b
yes_test tr b (Calls.Prepare d) (Ret Codes.Success) t h = subst (YesFact tr) (branch_eq-true d b t) h
yes_test tr b _ _ t h = cc

read_only_test : (tr : Trace) (b : Branch) (c : Call) (a : Answer) → says_read_only b c a ≡ true → AnswerFact tr c a → standing tr b ≡ ReadOnly
read_only_test tr b (Calls.Prepare d) (Ret Codes.ReadOnly) t h = subst (λ x. standing tr x ≡ ReadOnly) (branch_eq-true d b t) h
read_only_test tr b _ _ t h = cc

-- what an acknowledgement says: the branch takes no xa_start, and is at rest
pub record AckFact (tr : Trace) (b : Branch) : Type 0 where
  pub is_fixed : IsFixed tr b
  pub at_rest : started tr b ≡ true → IsAtRest (standing tr b)

committed_ack : (tr : Trace) (b : Branch) → Inv tr → standing tr b ≡ Committed → AckFact tr b
committed_ack tr b inv h = record { is_fixed = by_test (started tr b) refl; at_rest = λ s. subst IsAtRest (sym h) tt }
  where
    by_case : (standing tr b ≡ Unstarted) ⊎ IsOlder tr b → IsFixed tr b
    by_case (inl u) = absurd (cc)
    by_case (inr o) = inr (older_closed tr b inv o)

    by_test : (t : Bool) → started tr b ≡ t → IsFixed tr b
    by_test true s = inl s
    by_test false s = by_case (inv.unstarted b s)

ack_now : (tr : Trace) (b : Branch) (c : Call) (a : Answer) → Inv tr → acknowledges b c a ≡ true → AnswerFact tr c a → AckFact tr b
ack_now tr b (Calls.Commit d false) (Ret Codes.Success) inv t h = committed_ack tr b inv (subst (λ x. standing tr x ≡ Committed) (branch_eq-true d b t) h)
ack_now tr b (Calls.Commit d false) (Ret Codes.NotAnXid) inv t h =
    let f = subst (NotKnownFact tr) (branch_eq-true d b t) h in record { is_fixed = inr f.closed; at_rest = f.at_rest }
ack_now tr b _ _ inv t h = cc

ack_kept : (tr : Trace) (e : Happening) (b : Branch) → Inv tr → Right tr e → AckFact tr b → AckFact (Then tr e) b
ack_kept tr e b inv r f =
    record {
      is_fixed = fixed_kept tr e b r f.is_fixed;
      at_rest = λ s. rest_moves tr b _ _ (step_move tr e b inv r) (f.at_rest (fixed_back tr e b r f.is_fixed s));
    }

pub voted_yes_after : (tr : Trace) (e : Happening) (b : Branch) → Inv tr → Right tr e → was_told (Then tr e) (says_yes b) ≡ true → YesFact (Then tr e) b
voted_yes_after tr e b inv r h = by_case (told_new tr e (says_yes b) h)
  where
    by_case : (was_told tr (says_yes b) ≡ true) ⊎ ((l : Line) × (c : Call) × (a : Answer) × (e ≡ Heard l c a) × (says_yes b c a ≡ true)) → YesFact (Then tr e) b
    by_case (inl k) = yes_kept tr e b inv r (inv.voted_yes b k)
    by_case (inr k) = yes_test (Then tr e) b k.1 k.2 k.4 (heard_fact tr e k.0 k.1 k.2 inv r k.3)

pub voted_read_only_after : (tr : Trace) (e : Happening) (b : Branch) → Inv tr → Right tr e
    → was_told (Then tr e) (says_read_only b) ≡ true → standing (Then tr e) b ≡ ReadOnly
voted_read_only_after tr e b inv r h = by_case (told_new tr e (says_read_only b) h)
  where
    by_case : (was_told tr (says_read_only b) ≡ true) ⊎ ((l : Line) × (c : Call) × (a : Answer) × (e ≡ Heard l c a) × (says_read_only b c a ≡ true))
        → standing (Then tr e) b ≡ ReadOnly
    by_case (inl k) = ended_kept tr e b ReadOnly inv r tt (inv.voted_read_only b k)
    by_case (inr k) = read_only_test (Then tr e) b k.1 k.2 k.4 (heard_fact tr e k.0 k.1 k.2 inv r k.3)

pub acknowledged_after : (tr : Trace) (e : Happening) (b : Branch) → Inv tr → Right tr e → was_told (Then tr e) (acknowledges b) ≡ true → AckFact (Then tr e) b
acknowledged_after tr e b inv r h = by_case (told_new tr e (acknowledges b) h)
  where
    by_case : (was_told tr (acknowledges b) ≡ true) ⊎ ((l : Line) × (c : Call) × (a : Answer) × (e ≡ Heard l c a) × (acknowledges b c a ≡ true))
        → AckFact (Then tr e) b
    by_case (inl k) = ack_kept tr e b inv r (record { is_fixed = inv.acknowledged_fixed b k; at_rest = inv.acknowledged b k })
    by_case (inr k) =
        let h' : Right tr (Heard k.0 k.1 k.2) = subst (Right tr) k.3 r in
        ack_kept tr e b inv r (ack_now tr b k.1 k.2 inv k.4 (inv.answered k.0 (length (heard tr k.0)) k.1 k.2 h'.1))

-- ** the record

-- what a record says of a branch
pub record RecordFact (tr : Trace) (b : Branch) (how : How) : Type 0 where
  pub closed : Closed tr b.gtrid
  pub heuristic : started tr b ≡ true → IsHeuristic how (standing tr b)

record_kept : (tr : Trace) (e : Happening) (b : Branch) (how : How) → Inv tr → Right tr e → RecordFact tr b how → RecordFact (Then tr e) b how
record_kept tr e b how inv r f =
    record {
      closed = closed_kept tr e b.gtrid r f.closed;
      heuristic = λ s. heuristic_kept tr e b how inv r (f.heuristic (started_back tr e b r f.closed.not_live s));
    }

heuristic_record_fact : (tr : Trace) (b : Branch) (how : How) → HeuristicFact tr b how → RecordFact tr b how
heuristic_record_fact tr b how h = record { closed = h.closed; heuristic = λ s. h.heuristic }

-- the parts of a record
same_record : (tr : Trace) (d b : Branch) (k how : How)
    → AddRecord (record { branch = d; how = k }) ≡ AddRecord (record { branch = b; how = how }) → HeuristicFact tr d k → HeuristicFact tr b how
same_record tr d b k how q h =
    let p : record { branch = d; how = k } ≡ record { branch = b; how = how } = cc in subst (λ (x : Recorded). HeuristicFact tr x.branch x.how) p h

answer_record : (tr : Trace) (b : Branch) (how : How) (c : Call) (a : Answer)
    → record_of c a ≡ AddRecord (record { branch = b; how = how }) → AnswerFact tr c a → HeuristicFact tr b how
answer_record tr b how (Calls.Commit d false) (Ret (Codes.Heuristic k)) q h = same_record tr d b k how q h
answer_record tr b how (Calls.Commit d true) (Ret (Codes.Heuristic k)) q h = same_record tr d b k how q h
answer_record tr b how (Calls.Rollback d) (Ret (Codes.Heuristic k)) q h = same_record tr d b k how q h
answer_record tr b how _ _ q h = absurd (cc)

pub recorded_after : (tr : Trace) (e : Happening) (b : Branch) (how : How) → Inv tr → Right tr e
    → recorded_as (Then tr e) b ≡ Some how → RecordFact (Then tr e) b how
recorded_after tr e b how inv r h = record_kept tr e b how inv r (by_case (recorded_new tr e b how h))
  where
    by_case : NewRecord tr e b how → RecordFact tr b how
    by_case (Had_record k) = record { closed = inv.recorded_closed b (has_of (heuristic_rows tr) b how k); heuristic = inv.heuristic b how k }
    by_case (By_answer l c a q k) =
        let h' : Right tr (Heard l c a) = subst (Right tr) q r in
        heuristic_record_fact tr b how (answer_record tr b how c a k (inv.answered l (length (heard tr l)) c a h'.1))
    by_case (By_doubt_too q) = heuristic_record_fact tr b how (subst (DoubtFact tr) q inv.in_doubt)

pub recorded_closed_after : (tr : Trace) (e : Happening) (b : Branch) → Inv tr → Right tr e → recorded (Then tr e) b ≡ true → Closed (Then tr e) b.gtrid
recorded_closed_after tr e b inv r h = let k = recorded_how (Then tr e) b h in (recorded_after tr e b k.0 inv r k.1).closed

-- a branch that is forgotten now was recorded as what it is
forgets_recorded : (tr : Trace) (b : Branch) (how : How) → Inv tr → standing tr b ≡ Completed how → recorded tr b ≡ true
    → (recorded_as tr b ≡ Some how) ⊎ IsOlder tr b
forgets_recorded tr b how inv q r = by_case (begun_or_older tr b inv (subst HasBegun (sym q) tt))
  where
    k : (h : How) × (recorded_as tr b ≡ Some h)
    k = recorded_how tr b r

    by_case : (started tr b ≡ true) ⊎ IsOlder tr b → (recorded_as tr b ≡ Some how) ⊎ IsOlder tr b
    by_case (inl s) = let p : how ≡ k.0 = subst (IsHeuristic k.0) q (inv.heuristic b k.0 k.1 s) in inl (k.1 ∙ ap (λ x. Some x) (sym p))
    by_case (inr o) = inr o

pub forgotten_after : (tr : Trace) (e : Happening) (b : Branch) (how : How) → Inv tr → Right tr e
    → standing (Then tr e) b ≡ Forgotten how → (recorded_as (Then tr e) b ≡ Some how) ⊎ IsOlder (Then tr e) b
forgotten_after tr e b how inv r f = kept (by_case (forgotten_moves tr b _ _ how (step_move tr e b inv r) f))
  where
    by_case : (standing tr b ≡ Forgotten how) ⊎ ((standing tr b ≡ Completed how) × (recorded tr b ≡ true)) → (recorded_as tr b ≡ Some how) ⊎ IsOlder tr b
    by_case (inl h) = inv.forgotten b how h
    by_case (inr h) = forgets_recorded tr b how inv h.0 h.1

    kept : (recorded_as tr b ≡ Some how) ⊎ IsOlder tr b → (recorded_as (Then tr e) b ≡ Some how) ⊎ IsOlder (Then tr e) b
    kept (inl k) = inl (recorded_as_kept tr e b how k)
    kept (inr o) = inr o
