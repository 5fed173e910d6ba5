-- A call is taken with an answer that is explained: what resource managers do by themselves before it, and where branches stand behind it.
use Rattle.std.proofs.Common.{◌≡◌, ℕ, List, [], ◌∷◌, ◌++◌, length, ◌-◌, Bool, true, false, ◌⊎◌, refl, sym, ap, ◌∙◌, subst}
use Rattle.std.proofs.lemmas.List.{append-nil}
use Rattle.std.specs.Prelude.{if◌then◌else◌, Some, slice_get}
use mathlib.Core.Logic.{◌⊎◌.inl, ◌⊎◌.inr}
use Rattle.xa_base.proofs.BranchKeys.{branch_eq-true, branch_eq-refl}
use Rattle.xa_base.specs.Branch.{branch_eq}
use Rattle.xa_base.specs.StateTable.{Kind, Kind.Commit, answer, asks_of, completed, moved, state_of}
use Rattle.xa_base.specs.declared.answer.Answer.TheVariants.{Ret}
use Rattle.xa_base.specs.declared.call.Call.TheVariants as Calls
use Rattle.xa_base.specs.declared.code.Code.TheVariants as Codes
use Rattle.xa_base.specs.declared.state.Standing.{Standing}
use Rattle.xa_base.specs.declared.state.Standing.TheVariants.{Completed, Prepared}
use Rattle.xa_model.proofs.Keys.{line_eq-refl}
use Rattle.xa_model.specs.Facts.{heard, issued, next_answer, next_call, origin, retries, standing, taken, up, vote}
use Rattle.xa_model.specs.Facts.Standings.{moved_by}
use Rattle.xa_model.specs.Protocol.{IsRun, SoundAnswer, call_code}
use Rattle.xa_model.specs.Trace.{Answer, Branch, Call, Code, Happening.Took, How, Line, Trace, Trace.Then, Happening.CompletedAlone, Happening.PutOff, Happening.Voted}
use Rattle.xa_monitor.specs.Seen.{Alone, Alone.Ends, Alone.NoMore, Alone.PutsOff, Alone.Votes}
use Rattle.xa_monitor.specs.Standings.{Explains}

-- ** what resource managers do by themselves

-- it is nothing on any line, and the start is the same
pub record SameLines (tr now : Trace) : Type 0 where
  pub start : origin now ≡ origin tr
  pub is_up : up now ≡ up tr
  pub calls : (l : Line) → issued now l ≡ issued tr l
  pub taken_are : (l : Line) → taken now l ≡ taken tr l
  pub heard_are : (l : Line) → heard now l ≡ heard tr l

pub same_lines : (tr now : Trace) → Alone tr now → SameLines tr now
same_lines tr _ NoMore = record { start = refl; is_up = refl; calls = λ l. refl; taken_are = λ l. refl; heard_are = λ l. refl }
same_lines tr _ (Votes now b v a) = let s = same_lines tr now a in record {
  start = s.start;
  is_up = s.is_up;
  calls = λ l. append-nil _ ∙ s.calls l;
  taken_are = λ l. append-nil _ ∙ s.taken_are l;
  heard_are = λ l. append-nil _ ∙ s.heard_are l;
}
same_lines tr _ (PutsOff now b n a) = let s = same_lines tr now a in record {
  start = s.start;
  is_up = s.is_up;
  calls = λ l. append-nil _ ∙ s.calls l;
  taken_are = λ l. append-nil _ ∙ s.taken_are l;
  heard_are = λ l. append-nil _ ∙ s.heard_are l;
}
same_lines tr _ (Ends now b how a p) = let s = same_lines tr now a in record {
  start = s.start;
  is_up = s.is_up;
  calls = λ l. append-nil _ ∙ s.calls l;
  taken_are = λ l. append-nil _ ∙ s.taken_are l;
  heard_are = λ l. append-nil _ ∙ s.heard_are l;
}

-- it is right
pub alone_runs : (tr now : Trace) → Alone tr now → IsRun tr → IsRun now
alone_runs tr _ NoMore r = r
alone_runs tr _ (Votes now b v a) r = (alone_runs tr now a r, tt)
alone_runs tr _ (PutsOff now b n a) r = (alone_runs tr now a r, tt)
alone_runs tr _ (Ends now b how a p) r = (alone_runs tr now a r, p)

-- the call that waited first still does
pub first_still : (tr now : Trace) (l : Line) → Alone tr now → next_call now l ≡ next_call tr l
first_still tr now l a =
    let s = same_lines tr now a in
    ap (λ xs. slice_get xs (length (taken now l))) (s.calls l) ∙ ap (λ xs. slice_get (issued tr l) (length xs)) (s.taken_are l)

at_end : {X : Type 0} (xs : List X) (x : X) (n : ℕ) → n ≡ length xs → slice_get (xs ++ x ∷ []) n ≡ Some x
at_end xs x n e = ap (slice_get (xs ++ x ∷ [])) e ∙ last xs x
  where
    last : {X : Type 0} (xs : List X) (x : X) → slice_get (xs ++ x ∷ []) (length xs) ≡ Some x
    last [] x = refl
    last (y ∷ xs) x = last xs x

-- where every answer was heard, the one that is taken next is heard next
pub heard_next : (tr now : Trace) (l : Line) (c : Call) (a : Answer) → Alone tr now → length (heard tr l) ≡ length (taken tr l)
    → next_answer (Then now (Took l c a)) l ≡ Some (c, a)
heard_next tr now l c a al e =
    let s = same_lines tr now al in
    ap (λ t. slice_get (taken now l ++ (if t then (c, a) ∷ [] else [])) (length (heard now l ++ []))) (line_eq-refl l)
    ∙ at_end (taken now l) (c, a) (length (heard now l ++ []))
    (ap length (append-nil (heard now l) ∙ s.heard_are l) ∙ (e ∙ sym (ap length (s.taken_are l))))

-- ** the answer of one branch

-- the branch was brought to where it stood as it was called
record Reached (tr : Trace) (d : Branch) (at : Standing) : Type 0 where
  now : Trace
  alone : Alone tr now
  there : standing now d ≡ at
  others : (b : Branch) → branch_eq d b ≡ false → standing now b ≡ standing tr b
  votes : (b : Branch) → vote now b ≡ vote tr b
  retries_are : (b : Branch) → retries now b ≡ retries tr b

reached : (tr : Trace) (d : Branch) (from at : Standing) → standing tr d ≡ from
    → (at ≡ from) ⊎ ((from ≡ Prepared) × ((how : How) × (at ≡ Completed how))) → Reached tr d at
reached tr d from at e (inl s) =
    record { now = tr; alone = NoMore; there = e ∙ sym s; others = λ b n. refl; votes = λ b. refl; retries_are = λ b. refl }
reached tr d from at e (inr (p, (how, s))) = record {
  now = Then tr (CompletedAlone d how);
  alone = Ends tr d how NoMore (e ∙ p);
  there = ap (λ t. if t then completed (standing tr d) how else standing tr d) (branch_eq-refl d)
      ∙ (ap (λ f. completed f how) (e ∙ p) ∙ sym s);
  others = λ b n. ap (λ t. if t then completed (standing tr b) how else standing tr b) n;
  votes = λ b. refl;
  retries_are = λ b. refl;
}

-- a call asks nothing of this branch
abbrev pub IsOtherThan : Call → Branch → Type 0
IsOtherThan c b = (k : Kind) (d : Branch) → asks_of c ≡ Some (k, d) → branch_eq d b ≡ false

-- all that a resource manager holds of the branch is as it was
pub record IsKept (tr now : Trace) (b : Branch) : Type 0 where
  pub stands : standing now b ≡ standing tr b
  pub votes : vote now b ≡ vote tr b
  pub retries_are : retries now b ≡ retries tr b

pub retries_kept : (tr : Trace) (l : Line) (c : Call) (a : Answer) (b : Branch) → IsOtherThan c b → retries (Then tr (Took l c a)) b ≡ retries tr b
retries_kept tr l (Calls.Commit x false) (Ret Codes.Retry) b other = ap (λ t. if t then retries tr b - 1 else retries tr b) (other Commit x refl)
retries_kept tr l c a b other = refl

-- a call is taken, and each branch then stands there
pub record TakenThere (tr : Trace) (l : Line) (c : Call) (code : Code) (to : Branch → Standing) : Type 0 where
  pub now : Trace
  pub alone : Alone tr now
  pub sound : SoundAnswer now l c (Ret code)
  pub there : (b : Branch) → standing (Then now (Took l c (Ret code))) b ≡ to b
  pub kept : (b : Branch) → IsOtherThan c b → IsKept tr (Then now (Took l c (Ret code))) b

sound_of : (now : Trace) (l : Line) (c : Call) (code : Code) (k : Kind) (d : Branch) → asks_of c ≡ Some (k, d)
    → code ≡ answer k (state_of (standing now d)) (vote now d) (retries now d) → SoundAnswer now l c (Ret code)
sound_of now l (Calls.Start x join) code k d e s = ap Ret (s ∙ sym (ap (λ o. call_code now o) e))
sound_of now l (Calls.End x fail) code k d e s = ap Ret (s ∙ sym (ap (λ o. call_code now o) e))
sound_of now l (Calls.Prepare x) code k d e s = ap Ret (s ∙ sym (ap (λ o. call_code now o) e))
sound_of now l (Calls.Commit x one_phase) code k d e s = ap Ret (s ∙ sym (ap (λ o. call_code now o) e))
sound_of now l (Calls.Rollback x) code k d e s = ap Ret (s ∙ sym (ap (λ o. call_code now o) e))
sound_of now l (Calls.Forget x) code k d e s = ap Ret (s ∙ sym (ap (λ o. call_code now o) e))
sound_of now l (Calls.Recover n s e) code k d a b = tt
sound_of now l c code k d e s = absurd (cc)

pub taken_there : (tr : Trace) (l : Line) (c : Call) (code : Code) (k : Kind) (d : Branch) (from to : Branch → Standing)
    → asks_of c ≡ Some (k, d) → ((b : Branch) → standing tr b ≡ from b) → Explains (from d) k code (to d)
    → ((b : Branch) → branch_eq d b ≡ false → to b ≡ from b) → TakenThere tr l c code to
taken_there tr l c code k d from to asks stands x others = record {
  now = last;
  alone = PutsOff _ d x.retries (Votes _ d x.vote r.alone);
  sound = sound_of last l c code k d asks
      (sym x.answers
      ∙ ((λ i. answer k (state_of (sym r.there i)) x.vote x.retries)
      ∙ (λ i. answer k (state_of (standing r.now d)) (sym vote_is i) (sym retries_are i))));
  there = stands_there;
  kept = λ b other. record {
    stands = stands_there b ∙ (others b (other k d asks) ∙ sym (stands b));
    votes = ap (λ t. if t then x.vote else vote r.now b) (other k d asks) ∙ r.votes b;
    retries_are = retries_kept last l c (Ret code) b other
        ∙ (ap (λ t. if t then x.retries else retries r.now b) (other k d asks) ∙ r.retries_are b);
  };
}
  where
    r : Reached tr d x.as_called
    r = reached tr d (from d) x.as_called (stands d) x.alone

    last : Trace
    last = Then (Then r.now (Voted d x.vote)) (PutOff d x.retries)

    vote_is : vote last d ≡ x.vote
    vote_is = ap (λ t. if t then x.vote else vote r.now d) (branch_eq-refl d)

    retries_are : retries last d ≡ x.retries
    retries_are = ap (λ t. if t then x.retries else retries r.now d) (branch_eq-refl d)

    at_branch : moved (standing r.now d) k code ≡ to d
    at_branch = ap (λ f. moved f k code) r.there ∙ sym x.moves

    by_test : (b : Branch) (t : Bool) → branch_eq d b ≡ t → (if branch_eq d b then moved (standing r.now b) k code else standing r.now b) ≡ to b
    by_test b true e =
        ap (λ t. if t then moved (standing r.now b) k code else standing r.now b) e
        ∙ subst (λ z. moved (standing r.now z) k code ≡ to z) (branch_eq-true d b e) at_branch
    by_test b false e =
        ap (λ t. if t then moved (standing r.now b) k code else standing r.now b) e
        ∙ (r.others b e ∙ (stands b ∙ sym (others b e)))

    stands_there : (b : Branch) → standing (Then last (Took l c (Ret code))) b ≡ to b
    stands_there b = ap (λ o. moved_by o code b (standing r.now b)) asks ∙ by_test b (branch_eq d b) refl
