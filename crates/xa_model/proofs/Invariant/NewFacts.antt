-- Facts that a right happening brings.
use Rattle.std.proofs.Common.{◌≡◌, ℕ, zero, suc, Bool, true, false, refl, sym, ap, ◌∙◌, subst}
use Rattle.std.specs.Prelude.{if◌then◌else◌}
use Rattle.xa_base.specs.declared.call.Call.TheVariants as Calls
use Rattle.xa_base.specs.Branch.{branch_eq}
use Rattle.xa_base.specs.StateTable.{on, State, State.S0, State.S1, State.S2, State.S5, state_of, answer, moved}
use Rattle.xa_base.specs.declared.answer.Answer.TheVariants.{Ret, Page}
use Rattle.xa_model.specs.Trace.{Branch, Line, Kind, Kind.Start, Kind.Join, Kind.End, Kind.Prepare, Kind.Commit, Kind.OnePhase, Kind.Rollback, Kind.Forget, Call, How, Code, Answer, Happening.Took, Trace, Trace.Then, Vote}
use Rattle.xa_base.specs.declared.code.Code.TheVariants as Codes
use Rattle.xa_base.specs.declared.vote.Vote.TheVariants as Votes
use Rattle.xa_base.specs.declared.state.Standing.{Standing}
use Rattle.xa_base.specs.declared.state.Standing.TheVariants.{Unstarted, Active, Idle, Prepared, RollbackOnly, Completed, Committed, RolledBack, Lost, ReadOnly, Forgotten}
use Rattle.xa_model.specs.Facts.{standing}
use Rattle.xa_model.specs.Protocol.{Right}
use Rattle.xa_model.proofs.Invariant.{IsAtRest, IsGood, IsHeuristic, HasBegun, Closed, HeuristicFact, AnswerFact, Inv}
use Rattle.xa_base.proofs.BranchKeys.{branch_eq-refl}
use Rattle.xa_model.proofs.Invariant.Grows.{closed_kept}
use Rattle.xa_model.proofs.RecoveryLemmas.Pages.{page_started}
use Rattle.xa_model.proofs.Invariant.Now.{closed_handed, front_waits, code_of}

-- ** what an answer says of the standing before it

prepare_fine : (f : Standing) (v : Vote) (n : ℕ) → Codes.Success ≡ answer Prepare (state_of f) v n → moved f Prepare Codes.Success ≡ Prepared
prepare_fine Idle v n e = refl
prepare_fine Unstarted v n e = cc
prepare_fine _ v n e = cc

prepare_only : (f : Standing) (v : Vote) (n : ℕ) → Codes.ReadOnly ≡ answer Prepare (state_of f) v n → moved f Prepare Codes.ReadOnly ≡ ReadOnly
prepare_only Idle v n e = refl
prepare_only _ v n e = cc

commit_fine : (f : Standing) (v : Vote) (n : ℕ) → Codes.Success ≡ answer Commit (state_of f) v n → moved f Commit Codes.Success ≡ Committed
commit_fine Prepared v n e = refl
commit_fine _ v n e = cc

commit_retry : (n : ℕ) → Codes.NotAnXid ≡ answer Commit (state_of Prepared) Votes.Yes n → ⊥
commit_retry zero e = cc
commit_retry (suc n) e = cc

commit_not_known : (f : Standing) (v : Vote) (n : ℕ) → Codes.NotAnXid ≡ answer Commit (state_of f) v n → IsGood f → IsAtRest (moved f Commit Codes.NotAnXid)
commit_not_known Prepared v n e h = absurd (commit_retry n e)
commit_not_known (Completed how) v n e h = tt
commit_not_known Committed v n e h = tt
commit_not_known ReadOnly v n e h = tt
commit_not_known (Forgotten how) v n e h = tt
commit_not_known _ v n e h = absurd h

no_heuristic_vote : (v : Vote) (how : How) → Codes.Heuristic how ≡ answer Prepare (state_of Idle) v 0 → ⊥
no_heuristic_vote Votes.Yes how e = cc
no_heuristic_vote Votes.ReadOnly how e = cc
no_heuristic_vote (Votes.No c) how e = cc

no_heuristic_one : (v : Vote) (how : How) → Codes.Heuristic how ≡ answer OnePhase (state_of Idle) v 0 → ⊥
no_heuristic_one Votes.Yes how e = cc
no_heuristic_one Votes.ReadOnly how e = cc
no_heuristic_one (Votes.No c) how e = cc

no_heuristic_commit : (n : ℕ) (how : How) → Codes.Heuristic how ≡ answer Commit (state_of Prepared) Votes.Yes n → ⊥
no_heuristic_commit zero how e = cc
no_heuristic_commit (suc n) how e = cc

no_heuristic_end : (t : Bool) (how : How) → Codes.Heuristic how ≡ answer (End t) (state_of Active) Votes.Yes 0 → ⊥
no_heuristic_end true how e = cc
no_heuristic_end false how e = cc

heuristic_answer : (f : Standing) (k : Kind) (v : Vote) (n : ℕ) (how : How) → Codes.Heuristic how ≡ answer k (state_of f) v n
    → IsHeuristic how (moved f k (Codes.Heuristic how))
heuristic_answer (Completed h) Commit v n how e = cc
heuristic_answer (Completed h) OnePhase v n how e = cc
heuristic_answer (Completed h) Rollback v n how e = cc
heuristic_answer (Completed h) Forget v n how e = absurd (cc)
heuristic_answer Active (End t) v n how e = absurd (no_heuristic_end t how e)
heuristic_answer Idle Prepare v n how e = absurd (no_heuristic_vote v how e)
heuristic_answer Idle OnePhase v n how e = absurd (no_heuristic_one v how e)
heuristic_answer Prepared Commit v n how e = absurd (no_heuristic_commit n how e)
heuristic_answer Unstarted Start v n how e = absurd (cc)
heuristic_answer RollbackOnly Start v n how e = absurd (cc)
heuristic_answer Committed Start v n how e = absurd (cc)
heuristic_answer RolledBack Start v n how e = absurd (cc)
heuristic_answer Lost Start v n how e = absurd (cc)
heuristic_answer ReadOnly Start v n how e = absurd (cc)
heuristic_answer (Forgotten h) Start v n how e = absurd (cc)
heuristic_answer f k v n how e = absurd (cc)

-- ** the answer that was given

took_same : (tr : Trace) (k : Kind) (b : Branch) (a : Code) → moved (standing tr b) k a ≡ (if branch_eq b b then moved (standing tr b) k a else standing tr b)
took_same tr k b a = ap (λ t. if t then moved (standing tr b) k a else standing tr b) (sym (branch_eq-refl b))

took_standing : (tr : Trace) (l : Line) (k : Kind) (b : Branch) (a : Code) → moved (standing tr b) k a ≡ standing (Then tr (Took l (on k b) (Ret a))) b
took_standing tr l Start b a = took_same tr Start b a
took_standing tr l Join b a = took_same tr Join b a
took_standing tr l (End fail) b a = took_same tr (End fail) b a
took_standing tr l Prepare b a = took_same tr Prepare b a
took_standing tr l Commit b a = took_same tr Commit b a
took_standing tr l OnePhase b a = took_same tr OnePhase b a
took_standing tr l Rollback b a = took_same tr Rollback b a
took_standing tr l Forget b a = took_same tr Forget b a

good_begun : (f : Standing) → f ≡ Prepared → HasBegun f × IsGood f
good_begun f e = subst (λ x. HasBegun x × IsGood x) (sym e) (tt, tt)

-- calls that a heuristic completion doesn't answer
quiet_start : (s : State) (v : Vote) (n : ℕ) (how : How) → Codes.Heuristic how ≡ answer Start s v n → ⊥
quiet_start S0 v n how e = cc
quiet_start _ v n how e = cc

quiet_join : (s : State) (v : Vote) (n : ℕ) (how : How) → Codes.Heuristic how ≡ answer Join s v n → ⊥
quiet_join S0 v n how e = cc
quiet_join _ v n how e = cc

quiet_end : (s : State) (t : Bool) (v : Vote) (n : ℕ) (how : How) → Codes.Heuristic how ≡ answer (End t) s v n → ⊥
quiet_end S1 true v n how e = cc
quiet_end S1 false v n how e = cc
quiet_end _ t v n how e = cc

quiet_prepare : (s : State) (v : Vote) (n : ℕ) (how : How) → Codes.Heuristic how ≡ answer Prepare s v n → ⊥
quiet_prepare S2 Votes.Yes n how e = cc
quiet_prepare S2 Votes.ReadOnly n how e = cc
quiet_prepare S2 (Votes.No c) n how e = cc
quiet_prepare _ v n how e = cc

quiet_forget : (s : State) (v : Vote) (n : ℕ) (how : How) → Codes.Heuristic how ≡ answer Forget s v n → ⊥
quiet_forget (S5 h) v n how e = cc
quiet_forget _ v n how e = cc

heuristic_new : (tr : Trace) (l : Line) (k : Kind) (b : Branch) (how : How)
    → Right tr (Took l (on k b) (Ret (Codes.Heuristic how))) → Closed tr b.gtrid
    → IsHeuristic how (standing (Then tr (Took l (on k b) (Ret (Codes.Heuristic how)))) b)
    → HeuristicFact (Then tr (Took l (on k b) (Ret (Codes.Heuristic how)))) b how
heuristic_new tr l k b how r c h = record { heuristic = h; closed = closed_kept tr (Took l (on k b) (Ret (Codes.Heuristic how))) b.gtrid r c }

pub answer_new : (tr : Trace) (l : Line) (c : Call) (a : Answer) → Inv tr → Right tr (Took l c a) → AnswerFact (Then tr (Took l c a)) c a
answer_new tr l (Calls.Prepare b) (Ret Codes.Success) inv r =
    let p = good_begun _ (sym (took_standing tr l Prepare b Codes.Success) ∙ prepare_fine (standing tr b) _ _ (code_of r.1)) in
    record { has_begun = p.0; good = λ v. p.1 }
answer_new tr l (Calls.Prepare b) (Ret Codes.ReadOnly) inv r =
    sym (took_standing tr l Prepare b Codes.ReadOnly) ∙ prepare_only (standing tr b) _ _ (code_of r.1)
answer_new tr l (Calls.Commit b false) (Ret Codes.Success) inv r =
    sym (took_standing tr l Commit b Codes.Success) ∙ commit_fine (standing tr b) _ _ (code_of r.1)
answer_new tr l (Calls.Commit b false) (Ret Codes.NotAnXid) inv r =
    let w = inv.waiting l Commit b (front_waits tr l (Calls.Commit b false) r.0) in
    let f = inv.rows b.gtrid w in
    record {
      closed = closed_kept tr (Took l (Calls.Commit b false) (Ret Codes.NotAnXid)) b.gtrid r f.closed;
      at_rest = λ s. subst IsAtRest (took_standing tr l Commit b Codes.NotAnXid) (commit_not_known (standing tr b) _ _ (code_of r.1) (f.good b refl s));
    }
answer_new tr l (Calls.Start b false) (Ret (Codes.Heuristic how)) inv r = absurd (quiet_start (state_of (standing tr b)) _ _ how (code_of r.1))
answer_new tr l (Calls.Start b true) (Ret (Codes.Heuristic how)) inv r = absurd (quiet_join (state_of (standing tr b)) _ _ how (code_of r.1))
answer_new tr l (Calls.End b t) (Ret (Codes.Heuristic how)) inv r = absurd (quiet_end (state_of (standing tr b)) t _ _ how (code_of r.1))
answer_new tr l (Calls.Prepare b) (Ret (Codes.Heuristic how)) inv r = absurd (quiet_prepare (state_of (standing tr b)) _ _ how (code_of r.1))
answer_new tr l (Calls.Commit b false) (Ret (Codes.Heuristic how)) inv r =
    heuristic_new tr l Commit b how r ((inv.rows b.gtrid (inv.waiting l Commit b (front_waits tr l (Calls.Commit b false) r.0))).closed)
    (subst (IsHeuristic how) (took_standing tr l Commit b (Codes.Heuristic how)) (heuristic_answer (standing tr b) Commit _ _ how (code_of r.1)))
answer_new tr l (Calls.Commit b true) (Ret (Codes.Heuristic how)) inv r =
    heuristic_new tr l OnePhase b how r
    (closed_handed tr b.gtrid inv (inv.waiting l OnePhase b (front_waits tr l (Calls.Commit b true) r.0)))
    (subst (IsHeuristic how) (took_standing tr l OnePhase b (Codes.Heuristic how)) (heuristic_answer (standing tr b) OnePhase _ _ how (code_of r.1)))
answer_new tr l (Calls.Rollback b) (Ret (Codes.Heuristic how)) inv r =
    heuristic_new tr l Rollback b how r ((inv.waiting l Rollback b (front_waits tr l (Calls.Rollback b) r.0)).closed)
    (subst (IsHeuristic how) (took_standing tr l Rollback b (Codes.Heuristic how)) (heuristic_answer (standing tr b) Rollback _ _ how (code_of r.1)))
answer_new tr l (Calls.Forget b) (Ret (Codes.Heuristic how)) inv r = absurd (quiet_forget (state_of (standing tr b)) _ _ how (code_of r.1))
answer_new tr l (Calls.Recover n s t) (Page names) inv r = page_started tr l.rm names inv r.1
answer_new tr l Calls.OpenRm (Ret (Codes.Heuristic how)) inv r = tt
answer_new tr l Calls.CloseRm (Ret (Codes.Heuristic how)) inv r = tt
answer_new tr l (Calls.Recover n s t) (Ret (Codes.Heuristic how)) inv r = tt
answer_new tr l _ _ inv r = tt
