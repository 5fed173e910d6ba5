-- The calls of a recovery, and what the whole of it does.
use Rattle.std.proofs.Common.{◌≡◌, ℕ, zero, suc, ◌+◌, List, [], ◌∷◌, ◌++◌, length, length-append, Bool, true, false, refl, sym, ap, ◌∙◌, subst, arith, ℤ, pos, ◌⊎◌}
use Rattle.std.specs.Prelude.{if◌then◌else◌, take, Some, slice_get}
use mathlib.Core.Logic.{◌⊎◌.inl, ◌⊎◌.inr}
use Rattle.std.proofs.lemmas.List.{append-nil, take_all}
use Rattle.xa_base.specs.Standing.{is_in_doubt}
use Rattle.xa_base.specs.declared.state.Standing.TheVariants.{Prepared}
use Rattle.xa_model.specs.Replies.Allowed.{Allowed, Allowed.By_rule, Allowed.As_value, Allowed.For_memory, Allowed.For_log, Takes, Takes.Takes_none, Takes.Takes_one, with_steps, AllAllowed}
use Rattle.xa_model.specs.Facts.{started, live, has_row, recorded, taken, issued, page, resolving_kind, resolving_calls, standing}
use Rattle.xa_model.specs.Facts.InDoubt.{in_doubt, scan_answer}
use Rattle.xa_model.specs.Promises.Recovery.{recovery, MayComplete, IsRecovered}
use Rattle.xa_base.specs.Call.{map_call}
use Rattle.xa_model.specs.Protocol.{RightAnswer, AllRight}
use Rattle.xa_model.specs.Replies.Steps.{Reply}
use Rattle.xa_base.specs.declared.reply.Reply.TheVariants as Replies
use Rattle.xa_base.specs.declared.step.Step.TheVariants as Steps
use Rattle.xa_base.specs.declared.call.Call.TheVariants as Calls
use Rattle.xa_base.specs.StateTable.{on}
use Rattle.xa_base.specs.declared.answer.Answer.TheVariants.{Page}
use Rattle.xa_model.specs.Trace.{Branch, Name, Name.Ours, Name.Foreign, Kind.Commit, Kind.Rollback, Kind.Forget, Call, Answer, Line, Happening.Issued, Happening.Resolved, Happening.Took, Happening.Heard, Trace, Trace.Then, line}
use Rattle.xa_model.proofs.Invariant.{IsHeuristic, Inv}
use Rattle.xa_model.proofs.Keys.{line_eq-refl}
use Rattle.xa_model.proofs.Invariant.Preservation.{always}
use Rattle.xa_model.proofs.Invariant.Records.{recorded_how}
use Rattle.xa_model.proofs.RecoveryLemmas.WholeRecovery.{In, Pending, EndsBranch, AllEnd, IsToEnd, Left, all_taken}
use Rattle.xa_model.proofs.RecoveryLemmas.RecoveredStart.{in_doubt_started, listed}

-- ** the calls of recovery

pub all_end : (t : Trace) (names : List Name) → AllEnd (resolving_calls t names)
all_end t [] = tt
all_end t (Ours b ∷ names) = by_live (live t b.gtrid) (all_end t names)
  where
    by_live : (u : Bool) → AllEnd (resolving_calls t names)
        → AllEnd (if u then resolving_calls t names else on (resolving_kind t b) b ∷ resolving_calls t names)
    by_live true h = h
    by_live false h = (by_kind (recorded t b) (has_row t b.gtrid), h)
      where
        by_kind : (u v : Bool) → EndsBranch (on (if u then Forget else if v then Commit else Rollback) b)
        by_kind true v = tt
        by_kind false true = tt
        by_kind false false = tt
all_end t (Foreign x ∷ names) = all_end t names

pub resolved : (t : Trace) (names : List Name) (b : Branch) → In names (Ours b) → live t b.gtrid ≡ false
    → In (resolving_calls t names) (on (resolving_kind t b) b)
resolved t [] b i n = absurd i
resolved t (Foreign x ∷ names) b (inl e) n = absurd (cc)
resolved t (Foreign x ∷ names) b (inr i) n = resolved t names b i n
resolved t (Ours c ∷ names) b i n = by_live (live t c.gtrid) refl i (λ k. resolved t names b k n)
  where
    same : Ours c ≡ Ours b → c ≡ b
    same e = cc

    by_live : (u : Bool) → live t c.gtrid ≡ u → (Ours c ≡ Ours b) ⊎ In names (Ours b)
        → (In names (Ours b) → In (resolving_calls t names) (on (resolving_kind t b) b))
        → In (if u then resolving_calls t names else on (resolving_kind t c) c ∷ resolving_calls t names) (on (resolving_kind t b) b)
    by_live true q (inl e) f = absurd (clash (ap (λ x. live t x.gtrid) (same e)))
      where
        clash : live t c.gtrid ≡ live t b.gtrid → ⊥
        clash s = cc
    by_live true q (inr k) f = f k
    by_live false q (inl e) f = inl (ap (λ x. on (resolving_kind t x) x) (same e))
    by_live false q (inr k) f = inr (f k)

-- a prepared branch isn't recorded, so it is committed or rolled back
pub to_end : (t : Trace) (cs : List Call) (b : Branch) → recorded t b ≡ false → In cs (on (resolving_kind t b) b) → IsToEnd cs b
to_end t cs b n i = by_row (has_row t b.gtrid) (subst (λ u. In cs (on (if u then Forget else if has_row t b.gtrid then Commit else Rollback) b)) n i)
  where
    by_row : (u : Bool) → In cs (on (if u then Commit else Rollback) b) → IsToEnd cs b
    by_row true k = inl k
    by_row false k = inr k

pub not_recorded : (t : Trace) (b : Branch) → Inv t → started t b ≡ true → standing t b ≡ Prepared → recorded t b ≡ false
not_recorded t b inv s p = by_test (recorded t b) refl
  where
    by_test : (u : Bool) → recorded t b ≡ u → u ≡ false
    by_test true r = let h = recorded_how t b r in absurd (subst (IsHeuristic h.0) p (inv.heuristic b h.0 h.1 s))
    by_test false r = refl

-- ** the line after the page is resolved

pub get_behind : (xs ys : List Call) (j k : ℕ) → j ≡ length xs + k → slice_get (xs ++ ys) j ≡ slice_get ys k
get_behind [] ys j k e = let q : j ≡ k = omega (arith, e) in ap (slice_get ys) q
get_behind (x ∷ xs) ys zero k e = absurd (omega (arith, e))
get_behind (x ∷ xs) ys (suc j) k e = get_behind xs ys j k (omega (arith, e))

-- the history up to the resolving of its page
abbrev pub paged : Trace → (r count : ℕ) → List Name → Trace
paged t r count names =
    Then (Then (Then t (Issued (line 0 r) (Calls.Recover (pos count) true true))) (Took (line 0 r) (Calls.Recover (pos count) true true) (Page names)))
    (Heard (line 0 r) (Calls.Recover (pos count) true true) (Page names))

pub page_is : (t : Trace) (r count : ℕ) (names : List Name) → page (paged t r count names) r ≡ names
page_is t r count names = ap (λ u. if u then names else page t r) (line_eq-refl (line 0 r))

pub issued_is : (t : Trace) (r count : ℕ) (names : List Name)
    → issued (Then (paged t r count names) (Resolved r)) (line 0 r)
    ≡ (issued t (line 0 r) ++ (Calls.Recover (pos count) true true ∷ [])) ++ resolving_calls (paged t r count names) names
issued_is t r count names = λ i.
    append-nil (append-nil (issued t (line 0 r) ++ (if line_eq-refl (line 0 r) i then Calls.Recover (pos count) true true ∷ [] else [])) i) i
    ++ (if line_eq-refl (line 0 r) i then resolving_calls (paged t r count names) (page_is t r count names i) else [])

pub taken_is : (t : Trace) (r count : ℕ) (names : List Name)
    → taken (Then (paged t r count names) (Resolved r)) (line 0 r) ≡ taken t (line 0 r) ++ ((Calls.Recover (pos count) true true, Page names) ∷ [])
taken_is t r count names = λ i.
    append-nil (append-nil (append-nil (taken t (line 0 r)) i
    ++ (if line_eq-refl (line 0 r) i then (Calls.Recover (pos count) true true, Page names) ∷ [] else [])) i) i

pub pending_calls : (t : Trace) (r count : ℕ) (names : List Name) → length (taken t (line 0 r)) ≡ length (issued t (line 0 r))
    → Pending (Then (paged t r count names) (Resolved r)) (line 0 r) (resolving_calls (paged t r count names) names)
pending_calls t r count names e = record { at = λ k c h. at k c h }
  where
    calls : List Call
    calls = issued t (line 0 r) ++ (Calls.Recover (pos count) true true ∷ [])

    many : length (taken (Then (paged t r count names) (Resolved r)) (line 0 r)) ≡ length calls
    many = ap (length {A = Call × Answer}) (taken_is t r count names)
        ∙ omega (
          arith,
          e,
          length-append (taken t (line 0 r)) ((Calls.Recover (pos count) true true, Page names) ∷ []),
          length-append (issued t (line 0 r)) (Calls.Recover (pos count) true true ∷ []),
        )

    at : (k : ℕ) (c : Call) → slice_get (resolving_calls (paged t r count names) names) k ≡ Some c
        → slice_get (issued (Then (paged t r count names) (Resolved r)) (line 0 r))
        (length (taken (Then (paged t r count names) (Resolved r)) (line 0 r)) + k) ≡ Some c
    at k c h =
        subst (λ xs. slice_get xs (length (taken (Then (paged t r count names) (Resolved r)) (line 0 r)) + k) ≡ Some c)
        (sym (issued_is t r count names)) (get_behind calls (resolving_calls (paged t r count names) names) _ k (ap (λ n. n + k) many) ∙ h)

-- ** the whole recovery

pub number_of : (t : Trace) (r n : ℕ) → Allowed t (Steps.Resolve r) (Replies.Resolved n) → n ≡ length (resolving_calls t (page t r))
number_of t r n (By_rule x e q) = absurd (cc)
number_of t r n (As_value e q) = cc
number_of t r n (For_memory e m q) = absurd (cc)
number_of t r n (For_log e m q) = absurd (cc)

-- the page that is demanded
page_given : (t : Trace) (l : Line) (c : Call) (a : Answer) (k : ℤ) (x y : Bool) (names : List Name) → RightAnswer t l c a
    → ◌≡◌ {A = Reply} (Replies.Took (map_call Ours c) a) (Replies.Took (Calls.Recover k x y) (Page names)) → Page names ≡ scan_answer t l.rm k x
page_given t l (Calls.Recover n s u) a k x y names h e =
    let one : n ≡ k = cc in let two : s ≡ x = cc in let three : a ≡ Page names = cc in
    sym three ∙ (h ∙ (λ i. scan_answer t l.rm (one i) (two i)))
page_given t l Calls.OpenRm a k x y names h e = absurd (cc)
page_given t l Calls.CloseRm a k x y names h e = absurd (cc)
page_given t l (Calls.Start b join) a k x y names h e = absurd (cc)
page_given t l (Calls.End b fail) a k x y names h e = absurd (cc)
page_given t l (Calls.Prepare b) a k x y names h e = absurd (cc)
page_given t l (Calls.Commit b one_phase) a k x y names h e = absurd (cc)
page_given t l (Calls.Rollback b) a k x y names h e = absurd (cc)
page_given t l (Calls.Forget b) a k x y names h e = absurd (cc)

page_taken_by : (t : Trace) (l : Line) (q : Reply) (k : ℤ) (x y : Bool) (names : List Name) → Takes t l q
    → q ≡ Replies.Took (Calls.Recover k x y) (Page names) → Page names ≡ scan_answer t l.rm k x
page_taken_by t l q k x y names (Takes_one c a h r) e = page_given t l c a k x y names r e
page_taken_by t l q k x y names (Takes_none h) e = absurd (cc)

page_allowed : (t : Trace) (r : ℕ) (k : ℤ) (x y : Bool) (names : List Name)
    → Allowed t (Steps.Take 0 r) (Replies.Took (Calls.Recover k x y) (Page names)) → Page names ≡ scan_answer t r k x
page_allowed t r k x y names (By_rule n e q) = absurd (cc)
page_allowed t r k x y names (As_value e v) = page_taken_by t (line 0 r) _ k x y names v refl
page_allowed t r k x y names (For_memory e m q) = absurd (cc)
page_allowed t r k x y names (For_log e m q) = absurd (cc)

-- where each branch that is prepared there is listed, and not recorded
pub recovered_by : (t : Trace) (r count : ℕ) (names : List Name) (answers : List (Call × Answer))
    → ((b : Branch) → b.rm ≡ r → standing t b ≡ Prepared → recorded t b ≡ false)
    → ((b : Branch) → b.rm ≡ r → standing t b ≡ Prepared → In (in_doubt t r) (Ours b))
    → MayComplete t r count answers → AllAllowed t (recovery r count names answers) → IsRecovered (with_steps t (recovery r count names answers)) r
recovered_by t r count names answers unrecorded is_listed m d =
    all_taken (Then (paged t r count names) (Resolved r)) r (resolving_calls (paged t r count names) names) answers left number m.none_put_off d.1.1.1.1
  where
    listed_now : Page names ≡ Page (take count (in_doubt t r))
    listed_now = page_allowed (Then t (Issued (line 0 r) (Calls.Recover (pos count) true true))) r (pos count) true true names d.1.0

    page_taken : Page names ≡ Page (take count (in_doubt t r)) → names ≡ take count (in_doubt t r)
    page_taken e = cc

    whole : names ≡ in_doubt t r
    whole = page_taken listed_now ∙ take_all count (in_doubt t r) m.enough

    number : length answers ≡ length (resolving_calls (paged t r count names) names)
    number =
        number_of (paged t r count names) r (length answers) d.1.1.1.0
        ∙ ap (λ ns. length (resolving_calls (paged t r count names) ns)) (page_is t r count names)

    by_live : (b : Branch) → b.rm ≡ r → standing t b ≡ Prepared → (u : Bool) → live t b.gtrid ≡ u
        → (u ≡ true) ⊎ IsToEnd (resolving_calls (paged t r count names) names) b
    by_live b q s true l = inl refl
    by_live b q s false l =
        inr (to_end (paged t r count names) _ b (unrecorded b q s)
        (resolved (paged t r count names) names b (subst (λ ns. In ns (Ours b)) (sym whole) (is_listed b q s)) l))

    left : Left (Then (paged t r count names) (Resolved r)) r (resolving_calls (paged t r count names) names)
    left = record {
      pending = pending_calls t r count names m.none_waits;
      end = all_end (paged t r count names) names;
      left = λ b q s. by_live b q s (live t b.gtrid) refl;
    }

pub recovered : (t : Trace) (r count : ℕ) (names : List Name) (answers : List (Call × Answer)) → AllRight t
    → MayComplete t r count answers → AllAllowed t (recovery r count names answers) → IsRecovered (with_steps t (recovery r count names answers)) r
recovered t r count names answers a m d =
    recovered_by t r count names answers
    (λ b q s. not_recorded t b (always t a) (in_doubt_started t b a (ap is_in_doubt s)) s) (λ b q s. listed t r b a m.numbers q s) m d
