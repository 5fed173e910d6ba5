-- What holds of each history of a system, after one event more.
use Rattle.std.proofs.Common.{◌≡◌, ◌<◌, ◌-◌, ℕ, zero, suc, List, [], ◌∷◌, ◌++◌, length, Bool, true, false, refl, sym, ap, ◌∙◌, subst}
use Rattle.std.specs.Prelude.{if◌then◌else◌, ◌||◌, Some}
use Rattle.std.specs.List.{slice_get}
use Rattle.std.proofs.lemmas.Bool.{and_parts, eqb-true}
use Rattle.xa_base.specs.StateTable.{on}
use Rattle.xa_base.specs.declared.answer.Answer.TheVariants.{Ret, Page}
use Rattle.xa_base.specs.Branch.{IsBranch, branch_eq}
use Rattle.xa_model.specs.Replies.Allowed.{Allowed}
use Rattle.xa_model.specs.Facts as facts
use Rattle.xa_model.specs.Replies.History.{step_of}
use Rattle.xa_model.specs.Replies.ReadBack.{StepHasXids}
use Rattle.xa_model.specs.Protocol.{IsRun, Lists, Right, SoundAnswer}
use Rattle.xa_model.specs.Replies.Steps.{Reply, happened}
use Rattle.xa_model.specs.Trace.{Answer, Call, Happening, Happening.Heard, Happening.Issued, Happening.PutOff, Happening.Resolved, Happening.ResolvedOpen, Happening.Took, Happening.Voted, Line, Name, Name.Foreign, Name.Ours, Origin, Trace, Trace.Then, line, line_eq}
use Rattle.xa_base.specs.Xid.{Xid}
use Rattle.xa_base.specs.declared.branch.Branch.{Branch}
use Rattle.xa_base.specs.declared.call.Call.TheVariants as Calls
use Rattle.xa_base.specs.declared.step.Step as Given
use Rattle.xa_model.proofs.Keys.{line_eq-true}
use Rattle.xa_model.proofs.Replies.Replies.{allowed_right}
use Rattle.xa_base.specs.declared.code.Code.TheVariants as Codes
use Rattle.xa_base.specs.declared.vote.Vote.TheVariants.{Yes}
use Rattle.xa_base.proofs.BranchKeys.{branch_eq-true}
use Rattle.xa_model.proofs.Invariant.Moves.{unstarted_moves}
use Rattle.xa_model.proofs.Invariant.Now.{step_move}
use Rattle.xa_model.proofs.Invariant.Preservation.{run_always}
use Rattle.xa_system.specs.Trace.{Each, IsAt, IsElsewhere, IsHome, IsKept, IsUnknown, ListsHome}
use Rattle.xa_system.proofs.Histories.StartedBranches.{HappensWithin, allowed_within}
use Rattle.xa_system.proofs.OnBranch.{on_home}
use Rattle.xa_system.proofs.Histories.FittingEvents.{HappensFit, allowed_fits, step_fits}

each_append : {X : Type 0} (P : X → Type 0) (xs ys : List X) → Each P xs → Each P ys → Each P (xs ++ ys)
each_append P [] ys h k = k
each_append P (x ∷ xs) ys h k = (h.0, each_append P xs ys h.1 k)

each_unless : {X : Type 0} (P : X → Type 0) (t : Bool) (xs : List X) → Each P xs → Each P (if t then [] else xs)
each_unless P true xs h = tt
each_unless P false xs h = h

pub each_item : {X : Type 0} (P : X → Type 0) (xs : List X) → Each P xs → (i : ℕ) (x : X) → slice_get xs i ≡ Some x → P x
each_item P [] h i x e = absurd (cc)
each_item P (y ∷ ys) h zero x e = subst P (let same : y ≡ x = cc in same) h.0
each_item P (y ∷ ys) h (suc i) x e = each_item P ys h.1 i x e

-- ** one happening more

numbers_then : (tr : Trace) (e : Happening) → HappensFit e → Each IsBranch (facts.branches tr) → Each IsBranch (facts.branches (Then tr e))
numbers_then tr (Issued l (Calls.Start b false)) f h = (f, h)
numbers_then tr (Issued l (Calls.Start b true)) f h = (f, h)
numbers_then tr e f h = h

added_home : (l m : Line) (c : Call) → IsHome m c → (t : Bool) → line_eq m l ≡ t → Each (IsHome l) (if t then c ∷ [] else [])
added_home l m c h true e = (subst (λ k. IsHome k c) (line_eq-true m l e) h, tt)
added_home l m c h false e = tt

resolving_home : (tr : Trace) (r : ℕ) (ns : List Name) → Each (IsAt r) ns → Each (IsHome (line 0 r)) (facts.resolving_calls tr ns)
resolving_home tr r [] h = tt
resolving_home tr r (Ours b ∷ ns) h = by_live (facts.live tr b.gtrid) (resolving_home tr r ns h.1)
  where
    by_live : (t : Bool) → Each (IsHome (line 0 r)) (facts.resolving_calls tr ns)
        → Each (IsHome (line 0 r)) (if t then facts.resolving_calls tr ns else on (facts.resolving_kind tr b) b ∷ facts.resolving_calls tr ns)
    by_live true k = k
    by_live false k = (on_home (line 0 r) (facts.resolving_kind tr b) b h.0, k)
resolving_home tr r (Foreign x ∷ ns) h = resolving_home tr r ns h.1

some_home : (l : Line) (r : ℕ) (cs : List Call) → Each (IsHome (line 0 r)) cs → (t : Bool) → line_eq (line 0 r) l ≡ t → Each (IsHome l) (if t then cs else [])
some_home l r cs h true e = subst (λ k. Each (IsHome k) cs) (line_eq-true (line 0 r) l e) h
some_home l r cs h false e = tt

new_home : (tr : Trace) (e : Happening) (l : Line) → Right tr e → HappensFit e → ((r : ℕ) → Each (IsAt r) (facts.page tr r))
    → Each (IsHome l) (facts.new_calls tr e l)
new_home tr (Issued m (Calls.Start b j)) l rt f p = added_home l m (Calls.Start b j) (sym rt.1.own_rm) (line_eq m l) refl
new_home tr (Issued m (Calls.End b i)) l rt f p = added_home l m (Calls.End b i) (sym rt.1.own_rm) (line_eq m l) refl
new_home tr (Issued m (Calls.Prepare b)) l rt f p = added_home l m (Calls.Prepare b) (sym rt.1.own_rm) (line_eq m l) refl
new_home tr (Issued m (Calls.Commit b o)) l rt f p = added_home l m (Calls.Commit b o) (sym rt.1.own_rm) (line_eq m l) refl
new_home tr (Issued m (Calls.Rollback b)) l rt f p = added_home l m (Calls.Rollback b) (sym rt.1.own_rm) (line_eq m l) refl
new_home tr (Issued m (Calls.Forget b)) l rt f p = added_home l m (Calls.Forget b) (sym rt.1.own_rm) (line_eq m l) refl
new_home tr (Issued m (Calls.Recover count start end)) l rt f p = added_home l m (Calls.Recover count start end) f (line_eq m l) refl
new_home tr (Issued m Calls.OpenRm) l rt f p = added_home l m Calls.OpenRm tt (line_eq m l) refl
new_home tr (Issued m Calls.CloseRm) l rt f p = added_home l m Calls.CloseRm tt (line_eq m l) refl
new_home tr (Resolved r) l rt f p = some_home l r _ (resolving_home tr r (facts.page tr r) (p r)) (line_eq (line 0 r) l) refl
new_home tr (ResolvedOpen r) l rt f p = some_home l r _ (resolving_home (Then tr (ResolvedOpen r)) r (facts.page tr r) (p r)) (line_eq (line 0 r) l) refl
new_home tr e l rt f p = tt

-- a sound page lists what is there
listed_at : (r : ℕ) (ns : List Name) → ((b : Branch) → Lists ns (Ours b) → b.rm ≡ r) → Each (IsAt r) ns
listed_at r [] h = tt
listed_at r (Ours b ∷ ns) h = (h b (0, refl), listed_at r ns (λ c l. h c (suc l.0, l.1)))
listed_at r (Foreign x ∷ ns) h = (tt, listed_at r ns (λ c l. h c (suc l.0, l.1)))

-- the answer to a call lists what is there
answer_home : (tr : Trace) (m : Line) (c : Call) (a : Answer) → SoundAnswer tr m c a → ListsHome m (c, a)
answer_home tr m c (Ret code) h = tt
answer_home tr m (Calls.Start b j) (Page ns) h = absurd (cc)
answer_home tr m (Calls.End b i) (Page ns) h = absurd (cc)
answer_home tr m (Calls.Prepare b) (Page ns) h = absurd (cc)
answer_home tr m (Calls.Commit b o) (Page ns) h = absurd (cc)
answer_home tr m (Calls.Rollback b) (Page ns) h = absurd (cc)
answer_home tr m (Calls.Forget b) (Page ns) h = absurd (cc)
answer_home tr m Calls.OpenRm (Page ns) h = absurd (cc)
answer_home tr m Calls.CloseRm (Page ns) h = absurd (cc)
answer_home tr m (Calls.Recover count start end) (Page ns) h =
    listed_at m.rm ns (λ b l. eqb-true b.rm m.rm (and_parts _ _ (h b l)).0)

taken_home : (tr : Trace) (e : Happening) (l : Line) → Right tr e → Each (ListsHome l) (facts.new_taken e l)
taken_home tr (Took m c a) l rt = by_line (line_eq m l) refl
  where
    by_line : (t : Bool) → line_eq m l ≡ t → Each (ListsHome l) (if t then (c, a) ∷ [] else [])
    by_line true e = (subst (λ k. ListsHome k (c, a)) (line_eq-true m l e) (answer_home tr m c a rt.1), tt)
    by_line false e = tt
taken_home tr e l rt = tt

page_home : (tr : Trace) (e : Happening) (r : ℕ) → Right tr e → ((l : Line) → Each (ListsHome l) (facts.taken tr l))
    → Each (IsAt r) (facts.page tr r) → Each (IsAt r) (facts.page_after (facts.page tr r) e r)
page_home tr (Heard l (Calls.Recover count start end) (Page ns)) r rt answers p = by_line (line_eq l (line 0 r)) refl
  where
    by_line : (t : Bool) → line_eq l (line 0 r) ≡ t → Each (IsAt r) (if t then ns else facts.page tr r)
    by_line true e =
        subst (λ k. Each (IsAt (k.rm)) ns) (line_eq-true l (line 0 r) e)
        (each_item (ListsHome l) (facts.taken tr l) (answers l) (length (facts.heard tr l)) (Calls.Recover count start end, Page ns) rt.1)
    by_line false e = p
page_home tr e r rt answers p = p

-- ** branches that are elsewhere

-- a branch that fits and is at a resource manager of the system is not elsewhere
apart : (o : Origin) (b c : Branch) → IsElsewhere o b → IsBranch c → c.rm < o.rms → branch_eq c b ≡ false
apart o b c away fits within = by_test (branch_eq c b) refl
  where
    by_test : (t : Bool) → branch_eq c b ≡ t → t ≡ false
    by_test true is = absurd (away (subst (λ d. IsBranch d × (d.rm < o.rms)) (branch_eq-true c b is) (fits, within)))
    by_test false is = refl

unstarted_then : (tr : Trace) (e : Happening) (b : Branch) → HappensFit e → HappensWithin (facts.origin tr) e → IsElsewhere (facts.origin tr) b
    → facts.started tr b ≡ false → facts.started (Then tr e) b ≡ false
unstarted_then tr (Issued l (Calls.Start c false)) b f w away never = (λ i. apart (facts.origin tr) b c away f w.1 i || never i)
unstarted_then tr (Issued l (Calls.Start c true)) b f w away never = (λ i. apart (facts.origin tr) b c away f w.1 i || never i)
unstarted_then tr e b f w away never = never

vote_then : (tr : Trace) (e : Happening) (b : Branch) → HappensFit e → HappensWithin (facts.origin tr) e → IsElsewhere (facts.origin tr) b
    → facts.vote tr b ≡ Yes → facts.vote (Then tr e) b ≡ Yes
vote_then tr (Voted c v) b f w away same = ap (λ (t : Bool). if t then v else facts.vote tr b) (apart (facts.origin tr) b c away f w) ∙ same
vote_then tr e b f w away same = same

retries_then : (tr : Trace) (e : Happening) (b : Branch) → HappensFit e → HappensWithin (facts.origin tr) e → IsElsewhere (facts.origin tr) b
    → facts.retries tr b ≡ 0 → facts.retries (Then tr e) b ≡ 0
retries_then tr (PutOff c n) b f w away none =
    ap (λ (t : Bool). if t then n else facts.retries tr b) (apart (facts.origin tr) b c away f w) ∙ none
retries_then tr (Took l (Calls.Commit c false) (Ret Codes.Retry)) b f w away none = by_test (branch_eq c b)
  where
    by_test : (t : Bool) → (if t then facts.retries tr b - 1 else facts.retries tr b) ≡ 0
    by_test true = ap (λ n. n - 1) none
    by_test false = none
retries_then tr e b f w away none = none

unknown_then : (tr : Trace) (e : Happening) (b : Branch) → IsRun tr → Right tr e → HappensFit e → HappensWithin (facts.origin tr) e
    → IsElsewhere (facts.origin tr) b → IsUnknown tr b → IsUnknown (Then tr e) b
unknown_then tr e b run rt f w away known = record {
  unstarted = unstarted_then tr e b f w away known.unstarted;
  never = unstarted_moves tr b (facts.standing tr b) (facts.standing (Then tr e) b) (step_move tr e b (run_always tr run) rt) known.unstarted known.never;
  vote_is = vote_then tr e b f w away known.vote_is;
  retries_are = retries_then tr e b f w away known.retries_are;
}

-- ** the whole

pub happens_kept : (tr : Trace) (e : Happening) → IsKept tr → Right tr e → HappensFit e → HappensWithin (facts.origin tr) e → IsKept (Then tr e)
happens_kept tr e kept rt f w = record {
  run = (kept.run, rt);
  numbers = numbers_then tr e f kept.numbers;
  elsewhere = λ b away. unknown_then tr e b kept.run rt f w away (kept.elsewhere b away);
  calls =
      λ l. each_unless (IsHome l) (facts.breaks tr e l) _
      (each_append (IsHome l) (facts.issued tr l) (facts.new_calls tr e l) (kept.calls l) (new_home tr e l rt f kept.pages));
  answers =
      λ l. each_unless (ListsHome l) (facts.breaks tr e l) _
      (each_append (ListsHome l) (facts.taken tr l) (facts.new_taken e l) (kept.answers l) (taken_home tr e l rt));
  pages = λ r. each_unless (IsAt r) (facts.breaks tr e (line 0 r)) _ (page_home tr e r rt kept.answers (kept.pages r));
}

-- an event whose reply is demanded
pub kept_then : (tr : Trace) (s : Given.Step Xid) (r : Reply) → IsKept tr → StepHasXids s → Allowed tr (step_of s) r
    → IsKept (Then tr (happened (step_of s) r))
kept_then tr s r kept has d =
    happens_kept tr _ kept (allowed_right tr (step_of s) r d) (allowed_fits tr (step_of s) r (step_fits s has) d) (allowed_within tr (step_of s) r d)
