-- A whole recovery leaves nothing prepared but for live transactions.
use Rattle.std.proofs.Common.{◌≡◌, ℕ, zero, suc, ◌+◌, List, [], ◌∷◌, ◌++◌, length, length-append, Bool, true, false, refl, sym, ap, ◌∙◌, subst, arith, ◌⊎◌}
use Rattle.std.specs.Prelude.{if◌then◌else◌, Some, slice_get}
use mathlib.Core.Logic.{◌⊎◌.inl, ◌⊎◌.inr}
use Rattle.std.proofs.lemmas.List.{append-nil}
use Rattle.xa_base.specs.StateTable.{state_of, answer, moved}
use Rattle.xa_base.specs.Branch.{branch_eq}
use Rattle.xa_base.specs.Call.{map_call}
use Rattle.xa_base.specs.declared.code.Code.TheVariants as Codes
use Rattle.xa_base.specs.declared.vote.Vote.TheVariants as Votes
use Rattle.xa_base.specs.declared.state.Standing.{Standing}
use Rattle.xa_base.specs.declared.state.Standing.TheVariants.{Unstarted, Active, Idle, Prepared, RollbackOnly, Completed, Committed}
use Rattle.xa_model.specs.Replies.Allowed.{with_steps, AllAllowed}
use Rattle.xa_model.specs.Facts.{live, taken, new_taken, issued, next_call, standing, vote, retries}
use Rattle.xa_model.specs.Promises.Recovery.{in_turn, NonePutOff, IsRecovered}
use Rattle.xa_model.specs.Protocol.{SoundAnswer, Right}
use Rattle.xa_base.specs.declared.reply.Reply.TheVariants as Replies
use Rattle.xa_base.specs.declared.step.Step.TheVariants as Steps
use Rattle.xa_model.specs.Replies.Steps.{if_ours, happened}
use Rattle.xa_base.specs.declared.call.Call.TheVariants as Calls
use Rattle.xa_base.specs.declared.answer.Answer.TheVariants.{Ret, Page}
use Rattle.xa_model.specs.Trace.{Branch, Line, Code, Kind.Commit, Kind.Rollback, Kind.Forget, Call, Name.Ours, Answer, Vote, Happening.Took, Happening.Heard, Trace, Trace.Then, line}
use Rattle.xa_model.proofs.Invariant.Grows.{both}
use Rattle.xa_base.proofs.BranchKeys.{branch_eq-true, branch_eq-refl}
use Rattle.xa_model.proofs.Keys.{line_eq-refl}
use Rattle.xa_model.proofs.Invariant.Now.{code_of}
use Rattle.xa_model.proofs.Replies.Replies.{accepted_ours, allowed_right}

abbrev pub In : {X : Type 0} → List X → X → Type 0
In [] x = ⊥
In (y ∷ ys) x = (y ≡ x) ⊎ In ys x

-- ** calls that wait

-- these are the calls that wait on the line, in order
pub record Pending (t : Trace) (l : Line) (cs : List Call) : Type 0 where
  pub at : (k : ℕ) (c : Call) → slice_get cs k ≡ Some c → slice_get (issued t l) (length (taken t l) + k) ≡ Some c

pub pending_of : (t u : Trace) (l : Line) (cs ds : List Call) (n : ℕ) → issued u l ≡ issued t l
    → length (taken u l) ≡ length (taken t l) + n → ((k : ℕ) (c : Call) → slice_get ds k ≡ Some c → slice_get cs (n + k) ≡ Some c)
    → Pending t l cs → Pending u l ds
pending_of t u l cs ds n i m f p = record { at = λ k c e. place k c (p.at (n + k) c (f k c e)) }
  where
    place : (k : ℕ) (c : Call) → slice_get (issued t l) (length (taken t l) + (n + k)) ≡ Some c → slice_get (issued u l) (length (taken u l) + k) ≡ Some c
    place k c h =
        let q : length (taken t l) + (n + k) ≡ length (taken u l) + k = omega (arith, m) in
        subst (λ xs. slice_get xs (length (taken u l) + k) ≡ Some c) (sym i) (subst (λ j. slice_get (issued t l) j ≡ Some c) q h)

pub taken_one : (t : Trace) (l : Line) (c : Call) (a : Answer) → length (taken (Then t (Took l c a)) l) ≡ length (taken t l) + 1
taken_one t l c a =
    let k : length (new_taken (Took l c a) l) ≡ 1 = ap (λ u. length {A = Call × Answer} (if u then (c, a) ∷ [] else [])) (line_eq-refl l) in
    omega (arith, k, length-append (taken t l) (new_taken (Took l c a) l))

-- the next one was taken and heard
pub pending_next : (t : Trace) (l : Line) (c d : Call) (a : Answer) (ds : List Call) → Pending t l (d ∷ ds)
    → Pending (Then (Then t (Took l c a)) (Heard l c a)) l ds
pending_next t l c d a ds p = pending_of t (Then (Then t (Took l c a)) (Heard l c a)) l (d ∷ ds) ds 1
    (append-nil (issued t l ++ []) ∙ append-nil (issued t l))
    (ap (length {A = Call × Answer}) (append-nil (taken (Then t (Took l c a)) l)) ∙ taken_one t l c a)
    (λ k e h. later k e h) p
  where
    later : (k : ℕ) (e : Call) → slice_get ds k ≡ Some e → slice_get (d ∷ ds) (1 + k) ≡ Some e
    later k e h = let q : suc k ≡ 1 + k = omega arith in subst (λ j. slice_get (d ∷ ds) j ≡ Some e) q h

pub pending_first : (t : Trace) (l : Line) (c d : Call) (ds : List Call) → Pending t l (d ∷ ds) → next_call t l ≡ Some c → c ≡ d
pending_first t l c d ds p h =
    let q : length (taken t l) + 0 ≡ length (taken t l) = omega arith in
    let k : slice_get (issued t l) (length (taken t l)) ≡ Some d = subst (λ j. slice_get (issued t l) j ≡ Some d) q (p.at 0 d refl) in
    let s : Some c ≡ Some d = sym h ∙ k in
    cc

-- ** calls that end branches

abbrev pub EndsBranch : Call → Type 0
EndsBranch (Calls.Commit b false) = Unit
EndsBranch (Calls.Rollback b) = Unit
EndsBranch (Calls.Forget b) = Unit
EndsBranch _ = ⊥

abbrev pub AllEnd : List Call → Type 0
AllEnd [] = Unit
AllEnd (c ∷ cs) = EndsBranch c × AllEnd cs

-- a commit or a rollback of the branch waits
abbrev pub IsToEnd : List Call → Branch → Type 0
IsToEnd cs b = In cs (Calls.Commit b false) ⊎ In cs (Calls.Rollback b)

pub committed_code : (n : ℕ) (code : Code) → code ≡ answer Commit (state_of Prepared) Votes.Yes n → (code ≡ Codes.Retry → ⊥)
    → moved Prepared Commit code ≡ Prepared → ⊥
committed_code zero code e f q = let p : moved Prepared Commit code ≡ Committed = ap (moved Prepared Commit) e in cc
committed_code (suc n) code e f q = f e

pub no_commit : (f : Standing) (v : Vote) (n : ℕ) (code : Code) → code ≡ answer Commit (state_of f) v n → (code ≡ Codes.Retry → ⊥)
    → moved f Commit code ≡ Prepared → ⊥
no_commit Prepared v n code e g q = committed_code n code e g q
no_commit Unstarted v n code e g q = cc
no_commit Active v n code e g q = cc
no_commit Idle v n code e g q = cc
no_commit RollbackOnly v n code e g q = cc
no_commit _ v n code e g q = cc

pub no_rollback : (f : Standing) (code : Code) → moved f Rollback code ≡ Prepared → ⊥
no_rollback Idle code q = cc
no_rollback Prepared code q = cc
no_rollback RollbackOnly code q = cc
no_rollback _ code q = cc

pub forget_keeps : (f : Standing) (code : Code) → moved f Forget code ≡ Prepared → f ≡ Prepared
forget_keeps (Completed how) code q = cc
forget_keeps Prepared code q = refl
forget_keeps _ code q = cc

-- ** one call

pub to_end_later : (d : Call) (ds : List Call) (b : Branch) → (d ≡ Calls.Commit b false → ⊥) → (d ≡ Calls.Rollback b → ⊥) → IsToEnd (d ∷ ds) b → IsToEnd ds b
to_end_later d ds b f g (inl (inl e)) = absurd (f e)
to_end_later d ds b f g (inl (inr i)) = inl i
to_end_later d ds b f g (inr (inl e)) = absurd (g e)
to_end_later d ds b f g (inr (inr i)) = inr i

pub not_same : (x b : Branch) → branch_eq x b ≡ false → x ≡ b → ⊥
not_same x b n e = both (branch_eq b b) (branch_eq-refl b) (sym (ap (λ y. branch_eq y b) e) ∙ n)

-- a branch that is prepared after the call was so before, and the call that ends it still waits
pub took_left : (t : Trace) (l : Line) (d : Call) (ds : List Call) (a : Code) (b : Branch) → EndsBranch d
    → SoundAnswer t l d (Ret a) → (a ≡ Codes.Retry → ⊥) → (standing t b ≡ Prepared → (live t b.gtrid ≡ true) ⊎ IsToEnd (d ∷ ds) b)
    → standing (Then t (Took l d (Ret a))) b ≡ Prepared → (live t b.gtrid ≡ true) ⊎ IsToEnd ds b
took_left t l (Calls.Commit x false) ds a b k r n f s = by_branch (branch_eq x b) refl s
  where
    waits : branch_eq x b ≡ false → (live t b.gtrid ≡ true) ⊎ IsToEnd (Calls.Commit x false ∷ ds) b → (live t b.gtrid ≡ true) ⊎ IsToEnd ds b
    waits q (inl h) = inl h
    waits q (inr h) = inr (to_end_later (Calls.Commit x false) ds b (λ e. not_same x b q (cc)) (λ e. cc) h)

    by_branch : (u : Bool) → branch_eq x b ≡ u → (if u then moved (standing t b) Commit a else standing t b) ≡ Prepared → (live t b.gtrid ≡ true) ⊎ IsToEnd ds b
    by_branch true q s =
        let e : a ≡ answer Commit (state_of (standing t b)) (vote t b) (retries t b) =
        subst (λ y. a ≡ answer Commit (state_of (standing t y)) (vote t y) (retries t y)) (branch_eq-true x b q) (code_of r) in
        absurd (no_commit (standing t b) (vote t b) (retries t b) a e n s)
    by_branch false q s = waits q (f s)
took_left t l (Calls.Rollback x) ds a b k r n f s = by_branch (branch_eq x b) refl s
  where
    waits : branch_eq x b ≡ false → (live t b.gtrid ≡ true) ⊎ IsToEnd (Calls.Rollback x ∷ ds) b → (live t b.gtrid ≡ true) ⊎ IsToEnd ds b
    waits q (inl h) = inl h
    waits q (inr h) = inr (to_end_later (Calls.Rollback x) ds b (λ e. cc) (λ e. not_same x b q (cc)) h)

    by_branch : (u : Bool) → branch_eq x b ≡ u → (if u then moved (standing t b) Rollback a else standing t b) ≡ Prepared
        → (live t b.gtrid ≡ true) ⊎ IsToEnd ds b
    by_branch true q s = absurd (no_rollback (standing t b) a s)
    by_branch false q s = waits q (f s)
took_left t l (Calls.Forget x) ds a b k r n f s = by_branch (branch_eq x b) s
  where
    waits : (live t b.gtrid ≡ true) ⊎ IsToEnd (Calls.Forget x ∷ ds) b → (live t b.gtrid ≡ true) ⊎ IsToEnd ds b
    waits (inl h) = inl h
    waits (inr h) = inr (to_end_later (Calls.Forget x) ds b (λ e. cc) (λ e. cc) h)

    by_branch : (u : Bool) → (if u then moved (standing t b) Forget a else standing t b) ≡ Prepared → (live t b.gtrid ≡ true) ⊎ IsToEnd ds b
    by_branch true s = waits (f (forget_keeps (standing t b) a s))
    by_branch false s = waits (f s)
took_left t l _ ds a b k r n f s = absurd k

-- ** all calls

-- what is left to do: these calls wait, and each prepared branch of a transaction that is not live is among them
pub record Left (t : Trace) (r : ℕ) (cs : List Call) : Type 0 where
  pub pending : Pending t (line 0 r) cs
  pub end : AllEnd cs
  pub left : (b : Branch) → b.rm ≡ r → standing t b ≡ Prepared → (live t b.gtrid ≡ true) ⊎ IsToEnd cs b

pub left_next : (t : Trace) (r : ℕ) (d : Call) (ds : List Call) (a : Answer) → SoundAnswer t (line 0 r) d a
    → (a ≡ Ret Codes.Retry → ⊥) → Left t r (d ∷ ds) → Left (Then (Then t (Took (line 0 r) d a)) (Heard (line 0 r) d a)) r ds
left_next t r d ds (Ret a) h n p = record {
  pending = pending_next t (line 0 r) d d (Ret a) ds p.pending;
  end = p.end.1;
  left = λ b q s. took_left t (line 0 r) d ds a b p.end.0 h (λ e. n (ap (λ x. Ret x) e)) (p.left b q) s;
}
left_next t r d ds (Page names) h n p = absurd (no_page d p.end.0 h)
  where
    no_page : (d : Call) → EndsBranch d → SoundAnswer t (line 0 r) d (Page names) → ⊥
    no_page (Calls.Commit b false) k h = cc
    no_page (Calls.Rollback b) k h = cc
    no_page (Calls.Forget b) k h = cc
    no_page _ k h = absurd k

pub all_taken : (t : Trace) (r : ℕ) (cs : List Call) (answers : List (Call × Answer)) → Left t r cs → length answers ≡ length cs
    → NonePutOff answers → AllAllowed t (in_turn r answers) → IsRecovered (with_steps t (in_turn r answers)) r
all_taken t r [] [] p e n a b q s = by_case (p.left b q s)
  where
    by_case : (live t b.gtrid ≡ true) ⊎ IsToEnd [] b → live t b.gtrid ≡ true
    by_case (inl h) = h
    by_case (inr (inl h)) = absurd h
    by_case (inr (inr h)) = absurd h
all_taken t r [] (x ∷ xs) p e n a b q s = absurd (omega (arith, e))
all_taken t r (d ∷ ds) [] p e n a b q s = absurd (omega (arith, e))
all_taken t r (d ∷ ds) (x ∷ xs) p e n a b q s =
    subst (λ tr. AllAllowed tr (in_turn r xs)
    → IsRecovered (with_steps tr (in_turn r xs)) r) (sym after) (λ m. all_taken
    (Then (Then t (Took (line 0 r) x.0 x.1)) (Heard (line 0 r) x.0 x.1)) r ds xs next (omega (arith, e)) n.1 m) a.1.1 b q s
  where
    takes : happened (Steps.Take 0 r) (Replies.Took (map_call Ours x.0) x.1) ≡ Took (line 0 r) x.0 x.1
    takes = ap (if_ours (λ c. Took (line 0 r) c x.1)) (accepted_ours x.0)

    hears : happened (Steps.Hear 0 r) (Replies.Heard (map_call Ours x.0) x.1) ≡ Heard (line 0 r) x.0 x.1
    hears = ap (if_ours (λ c. Heard (line 0 r) c x.1)) (accepted_ours x.0)

    after : Then (Then t (happened (Steps.Take 0 r) (Replies.Took (map_call Ours x.0) x.1)))
        (happened (Steps.Hear 0 r) (Replies.Heard (map_call Ours x.0) x.1)) ≡ Then (Then t (Took (line 0 r) x.0 x.1)) (Heard (line 0 r) x.0 x.1)
    after = λ i. Then (Then t (takes i)) (hears i)

    took : (next_call t (line 0 r) ≡ Some x.0) × SoundAnswer t (line 0 r) x.0 x.1
    took = subst (Right t) takes (allowed_right t (Steps.Take 0 r) (Replies.Took (map_call Ours x.0) x.1) a.0)

    first : x.0 ≡ d
    first = pending_first t (line 0 r) x.0 d ds p.pending took.0

    next : Left (Then (Then t (Took (line 0 r) x.0 x.1)) (Heard (line 0 r) x.0 x.1)) r ds
    next = subst (λ c. Left (Then (Then t (Took (line 0 r) c x.1)) (Heard (line 0 r) c x.1)) r ds) (sym first)
        (left_next t r d ds x.1 (subst (λ c. SoundAnswer t (line 0 r) c x.1) first took.1) n.0 p)
