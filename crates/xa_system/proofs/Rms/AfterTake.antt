-- A resource manager after it took a call: its branches, its scan, and the answer that it gave.
use Rattle.std.proofs.Common.{◌≡◌, ◌⊎◌, inl, inr, ℕ, zero, suc, Bool, true, false, refl, sym, ap, ◌∙◌}
use Rattle.std.proofs.lemmas.Bool.{cases_Bool, true≢false}
use Rattle.xa_base.specs.StateTable.{on, State, State.S0, State.S1, State.S2, State.S3, State.S4, State.S5, answer, broken, moved, state_of, Kind, Kind.Start, Kind.Join, Kind.End, Kind.Prepare, Kind.Commit, Kind.OnePhase, Kind.Rollback, Kind.Forget}
use Rattle.xa_base.specs.declared.answer.Answer.TheVariants.{Ret}
use Rattle.xa_base.specs.Branch.{IsBranch, branch_eq, xid_of_branch}
use Rattle.xa_model.specs.Facts as facts
use Rattle.xa_base.specs.HeldBranch.{HeldBranch, answer_of, called, retries_after, starter_after}
use Rattle.xa_model.specs.Trace.{Happening.Took, Line, Trace, Trace.Then}
use Rattle.xa_base.specs.Xid.{Xid, xid_eq}
use Rattle.xa_base.specs.declared.branch.Branch.{Branch}
use Rattle.xa_base.specs.declared.code.Code.{Code}
use Rattle.xa_base.specs.declared.code.Code.TheVariants as Codes
use Rattle.xa_base.specs.declared.state.Standing.{Standing}
use Rattle.xa_base.specs.declared.state.Standing.TheVariants.{Unstarted, Active, Idle, Prepared, RollbackOnly, Completed, Committed, RolledBack, Lost, ReadOnly, Forgotten}
use Rattle.xa_base.specs.declared.vote.Vote.{Vote}
use Rattle.xa_base.specs.declared.vote.Vote.TheVariants as Votes
use Rattle.xa_base.proofs.BranchKeys.{branch_eq-refl, branch_eq-true}
use Rattle.xa_base.proofs.XidOrder.{xid_eq-refl, xid_eq-same}
use Rattle.xa_system.specs.RmInHistory.{IsHeldAs, IsOther}
use Rattle.xa_system.proofs.OnBranch.{standing_on}
use Rattle.xa_system.proofs.Rms.InDoubt.{same_branch}

-- identifiers tell branches apart
pub same_tests : (b c : Branch) → IsBranch b → IsBranch c → xid_eq (xid_of_branch c) (xid_of_branch b) ≡ branch_eq c b
same_tests b c h k = by_test (branch_eq c b) refl
  where
    by_test : (t : Bool) → branch_eq c b ≡ t → xid_eq (xid_of_branch c) (xid_of_branch b) ≡ t
    by_test true e = ap (λ d. xid_eq (xid_of_branch d) (xid_of_branch b)) (branch_eq-true c b e) ∙ xid_eq-refl (xid_of_branch b)
    by_test false e = elim (cases_Bool (xid_eq (xid_of_branch c) (xid_of_branch b))) [
      | inl same ↦ (
          let one = same_branch c b k h (xid_eq-same (xid_of_branch c) (xid_of_branch b) same) in
          absurd (true≢false (sym (branch_eq-refl b) ∙ ap (λ d. branch_eq d b) (sym one) ∙ e)))
      | inr apart ↦ apart
    ]

pub other_apart : (r : ℕ) (x : Xid) (c : Branch) → IsBranch c → c.rm ≡ r → IsOther r x → xid_eq (xid_of_branch c) x ≡ false
other_apart r x c h at other = elim (cases_Bool (xid_eq (xid_of_branch c) x)) [
  | inl same ↦ absurd (other c h at (sym (xid_eq-same (xid_of_branch c) x same)))
  | inr apart ↦ apart
]

-- ** retries

-- only an xa_commit in two phases is put off
kept_retries : (k : Kind) → (k ≡ Commit → ⊥) → (s : State) (v : Vote) (n m : ℕ) → retries_after (answer k s v n) m ≡ m
kept_retries Start f S0 v n m = refl
kept_retries Start f S1 v n m = refl
kept_retries Start f S2 v n m = refl
kept_retries Start f S3 v n m = refl
kept_retries Start f S4 v n m = refl
kept_retries Start f (S5 how) v n m = refl
kept_retries Join f S0 v n m = refl
kept_retries Join f S1 v n m = refl
kept_retries Join f S2 v n m = refl
kept_retries Join f S3 v n m = refl
kept_retries Join f S4 v n m = refl
kept_retries Join f (S5 how) v n m = refl
kept_retries (End true) f S0 v n m = refl
kept_retries (End true) f S1 v n m = refl
kept_retries (End true) f S2 v n m = refl
kept_retries (End true) f S3 v n m = refl
kept_retries (End true) f S4 v n m = refl
kept_retries (End true) f (S5 how) v n m = refl
kept_retries (End false) f S0 v n m = refl
kept_retries (End false) f S1 v n m = refl
kept_retries (End false) f S2 v n m = refl
kept_retries (End false) f S3 v n m = refl
kept_retries (End false) f S4 v n m = refl
kept_retries (End false) f (S5 how) v n m = refl
kept_retries Prepare f S0 v n m = refl
kept_retries Prepare f S1 v n m = refl
kept_retries Prepare f S2 Votes.Yes n m = refl
kept_retries Prepare f S2 Votes.ReadOnly n m = refl
kept_retries Prepare f S2 (Votes.No code) n m = refl
kept_retries Prepare f S3 v n m = refl
kept_retries Prepare f S4 v n m = refl
kept_retries Prepare f (S5 how) v n m = refl
kept_retries OnePhase f S0 v n m = refl
kept_retries OnePhase f S1 v n m = refl
kept_retries OnePhase f S2 Votes.Yes n m = refl
kept_retries OnePhase f S2 Votes.ReadOnly n m = refl
kept_retries OnePhase f S2 (Votes.No code) n m = refl
kept_retries OnePhase f S3 v n m = refl
kept_retries OnePhase f S4 v n m = refl
kept_retries OnePhase f (S5 how) v n m = refl
kept_retries Commit f s v n m = absurd (f refl)
kept_retries Rollback f S0 v n m = refl
kept_retries Rollback f S1 v n m = refl
kept_retries Rollback f S2 v n m = refl
kept_retries Rollback f S3 v n m = refl
kept_retries Rollback f S4 v n m = refl
kept_retries Rollback f (S5 how) v n m = refl
kept_retries Forget f S0 v n m = refl
kept_retries Forget f S1 v n m = refl
kept_retries Forget f S2 v n m = refl
kept_retries Forget f S3 v n m = refl
kept_retries Forget f S4 v n m = refl
kept_retries Forget f (S5 how) v n m = refl

-- the retries of the history after a call on the branch
retries_then : (tr : Trace) (l : Line) (k : Kind) (b c : Branch) (code : Code) → branch_eq c b ≡ true
    → ((k ≡ Commit → ⊥) → retries_after code (facts.retries tr b) ≡ facts.retries tr b)
    → facts.retries (Then tr (Took l (on k c) (Ret code))) b ≡ retries_after code (facts.retries tr b)
retries_then tr l Commit b c Codes.Retry same f = rw same refl
retries_then tr l Commit b c code same f = refl
retries_then tr l k b c code same f = sym (f (λ e. absurd cc))

-- ** who started a branch

-- if a break would lose a branch, its own thread started it
abbrev pub IsOwned : (thread : ℕ) → Standing → (starter : ℕ) → Type 0
IsOwned thread f starter = (broken f ≡ f) ⊎ (starter ≡ thread)

by_active : {thread starter : ℕ} → IsOwned thread Active starter → starter ≡ thread
by_active (inl e) = absurd (cc)
by_active (inr e) = e

-- so it is after a call, if an xa_start is of that thread
owned_then : (thread t : ℕ) (k : Kind) (f : Standing) (v : Vote) (n starter : ℕ) → (k ≡ Start → t ≡ thread) → IsOwned thread f starter
    → IsOwned thread (moved f k (answer k (state_of f) v n)) (starter_after t k (answer k (state_of f) v n) starter)
owned_then thread t Start Unstarted v n starter own o = inr (own refl)
owned_then thread t Start Committed v n starter own o = inr (own refl)
owned_then thread t Start RolledBack v n starter own o = inr (own refl)
owned_then thread t Start Lost v n starter own o = inr (own refl)
owned_then thread t Start ReadOnly v n starter own o = inr (own refl)
owned_then thread t Start (Forgotten how) v n starter own o = inr (own refl)
owned_then thread t Start Active v n starter own o = o
owned_then thread t Start Idle v n starter own o = o
owned_then thread t Start RollbackOnly v n starter own o = o
owned_then thread t Start Prepared v n starter own o = inl refl
owned_then thread t Start (Completed how) v n starter own o = inl refl
owned_then thread t Join Unstarted v n starter own o = inl refl
owned_then thread t Join Active v n starter own o = o
owned_then thread t Join Idle v n starter own o = o
owned_then thread t Join Prepared v n starter own o = inl refl
owned_then thread t Join RollbackOnly v n starter own o = o
owned_then thread t Join (Completed how) v n starter own o = inl refl
owned_then thread t Join Committed v n starter own o = inl refl
owned_then thread t Join RolledBack v n starter own o = inl refl
owned_then thread t Join Lost v n starter own o = inl refl
owned_then thread t Join ReadOnly v n starter own o = inl refl
owned_then thread t Join (Forgotten how) v n starter own o = inl refl
owned_then thread t (End true) Unstarted v n starter own o = inl refl
owned_then thread t (End true) Active v n starter own o = inr (by_active o)
owned_then thread t (End true) Idle v n starter own o = o
owned_then thread t (End true) Prepared v n starter own o = inl refl
owned_then thread t (End true) RollbackOnly v n starter own o = o
owned_then thread t (End true) (Completed how) v n starter own o = inl refl
owned_then thread t (End true) Committed v n starter own o = inl refl
owned_then thread t (End true) RolledBack v n starter own o = inl refl
owned_then thread t (End true) Lost v n starter own o = inl refl
owned_then thread t (End true) ReadOnly v n starter own o = inl refl
owned_then thread t (End true) (Forgotten how) v n starter own o = inl refl
owned_then thread t (End false) Unstarted v n starter own o = inl refl
owned_then thread t (End false) Active v n starter own o = inr (by_active o)
owned_then thread t (End false) Idle v n starter own o = o
owned_then thread t (End false) Prepared v n starter own o = inl refl
owned_then thread t (End false) RollbackOnly v n starter own o = o
owned_then thread t (End false) (Completed how) v n starter own o = inl refl
owned_then thread t (End false) Committed v n starter own o = inl refl
owned_then thread t (End false) RolledBack v n starter own o = inl refl
owned_then thread t (End false) Lost v n starter own o = inl refl
owned_then thread t (End false) ReadOnly v n starter own o = inl refl
owned_then thread t (End false) (Forgotten how) v n starter own o = inl refl
owned_then thread t Prepare Unstarted v n starter own o = inl refl
owned_then thread t Prepare Active v n starter own o = o
owned_then thread t Prepare Idle Votes.Yes n starter own o = inl refl
owned_then thread t Prepare Idle Votes.ReadOnly n starter own o = inl refl
owned_then thread t Prepare Idle (Votes.No code) n starter own o = inl refl
owned_then thread t Prepare Prepared v n starter own o = inl refl
owned_then thread t Prepare RollbackOnly v n starter own o = o
owned_then thread t Prepare (Completed how) v n starter own o = inl refl
owned_then thread t Prepare Committed v n starter own o = inl refl
owned_then thread t Prepare RolledBack v n starter own o = inl refl
owned_then thread t Prepare Lost v n starter own o = inl refl
owned_then thread t Prepare ReadOnly v n starter own o = inl refl
owned_then thread t Prepare (Forgotten how) v n starter own o = inl refl
owned_then thread t Commit Unstarted v n starter own o = inl refl
owned_then thread t Commit Active v n starter own o = o
owned_then thread t Commit Idle v n starter own o = o
owned_then thread t Commit Prepared v zero starter own o = inl refl
owned_then thread t Commit Prepared v (suc n) starter own o = inl refl
owned_then thread t Commit RollbackOnly v n starter own o = o
owned_then thread t Commit (Completed how) v n starter own o = inl refl
owned_then thread t Commit Committed v n starter own o = inl refl
owned_then thread t Commit RolledBack v n starter own o = inl refl
owned_then thread t Commit Lost v n starter own o = inl refl
owned_then thread t Commit ReadOnly v n starter own o = inl refl
owned_then thread t Commit (Forgotten how) v n starter own o = inl refl
owned_then thread t OnePhase Unstarted v n starter own o = inl refl
owned_then thread t OnePhase Active v n starter own o = o
owned_then thread t OnePhase Idle Votes.Yes n starter own o = inl refl
owned_then thread t OnePhase Idle Votes.ReadOnly n starter own o = inl refl
owned_then thread t OnePhase Idle (Votes.No code) n starter own o = inl refl
owned_then thread t OnePhase Prepared v n starter own o = inl refl
owned_then thread t OnePhase RollbackOnly v n starter own o = o
owned_then thread t OnePhase (Completed how) v n starter own o = inl refl
owned_then thread t OnePhase Committed v n starter own o = inl refl
owned_then thread t OnePhase RolledBack v n starter own o = inl refl
owned_then thread t OnePhase Lost v n starter own o = inl refl
owned_then thread t OnePhase ReadOnly v n starter own o = inl refl
owned_then thread t OnePhase (Forgotten how) v n starter own o = inl refl
owned_then thread t Rollback Unstarted v n starter own o = inl refl
owned_then thread t Rollback Active v n starter own o = o
owned_then thread t Rollback Idle v n starter own o = inl refl
owned_then thread t Rollback Prepared v n starter own o = inl refl
owned_then thread t Rollback RollbackOnly v n starter own o = inl refl
owned_then thread t Rollback (Completed how) v n starter own o = inl refl
owned_then thread t Rollback Committed v n starter own o = inl refl
owned_then thread t Rollback RolledBack v n starter own o = inl refl
owned_then thread t Rollback Lost v n starter own o = inl refl
owned_then thread t Rollback ReadOnly v n starter own o = inl refl
owned_then thread t Rollback (Forgotten how) v n starter own o = inl refl
owned_then thread t Forget Unstarted v n starter own o = inl refl
owned_then thread t Forget Active v n starter own o = o
owned_then thread t Forget Idle v n starter own o = o
owned_then thread t Forget Prepared v n starter own o = inl refl
owned_then thread t Forget RollbackOnly v n starter own o = o
owned_then thread t Forget (Completed how) v n starter own o = inl refl
owned_then thread t Forget Committed v n starter own o = inl refl
owned_then thread t Forget RolledBack v n starter own o = inl refl
owned_then thread t Forget Lost v n starter own o = inl refl
owned_then thread t Forget ReadOnly v n starter own o = inl refl
owned_then thread t Forget (Forgotten how) v n starter own o = inl refl

-- ** a call on a branch

pub took_own : (tr : Trace) (l : Line) (k : Kind) (c b : Branch) (h : HeldBranch) → (k ≡ Start → l.thread ≡ c.thread)
    → IsHeldAs tr b h → c ≡ b → IsHeldAs (Then tr (Took l (on k c) (Ret (answer_of h k)))) b (called l.thread k h)
took_own tr l k c b h own stand same = record {
  standing = ap (λ f. moved f k (answer_of h k)) stand.standing ∙ sym (standing_on tr l k c b (answer_of h k) true there);
  vote = stand.vote;
  retries =
      ap (retries_after (answer_of h k)) stand.retries
      ∙ sym (retries_then tr l k b c (answer_of h k) there (λ n. kept_retries k n (state_of h.standing) h.vote h.retries (facts.retries tr b)));
  starter = owned_then b.thread l.thread k h.standing h.vote h.retries h.starter (λ e. own e ∙ ap (λ (d : Branch). d.thread) same) stand.starter;
}
  where
    there : branch_eq c b ≡ true
    there = ap (λ d. branch_eq d b) same ∙ branch_eq-refl b

-- another branch stays
pub retries_stay : (tr : Trace) (l : Line) (k : Kind) (b c : Branch) (code : Code) → branch_eq c b ≡ false
    → facts.retries (Then tr (Took l (on k c) (Ret code))) b ≡ facts.retries tr b
retries_stay tr l Commit b c Codes.Retry apart = rw apart refl
retries_stay tr l Commit b c code apart = refl
retries_stay tr l k b c code apart = refl

pub took_other : (tr : Trace) (l : Line) (k : Kind) (c b : Branch) (code : Code) (h : HeldBranch) → branch_eq c b ≡ false
    → IsHeldAs tr b h → IsHeldAs (Then tr (Took l (on k c) (Ret code))) b h
took_other tr l k c b code h apart stand = record {
  standing = stand.standing ∙ sym (standing_on tr l k c b code false apart);
  vote = stand.vote;
  retries = stand.retries ∙ sym (retries_stay tr l k b c code apart);
  starter = stand.starter;
}
