-- What a page lists.
use Rattle.std.proofs.Common.{◌≡◌, ℕ, zero, suc, List, [], ◌∷◌, ◌++◌, Bool, true, false, refl, subst, ℤ, pos, negsuc}
use Rattle.std.specs.Prelude.{cond, map, filter, take, Option, Some, None, slice_get}
use Rattle.std.specs.BTreeSet.{insert_key}
use Rattle.std.specs.declared.cmp.Ordering.{Ordering}
use Rattle.std.specs.declared.cmp.Ordering.TheVariants.{Less, Equal, Greater}
use Rattle.std.specs.Ordering.{match_ordering, is_lt}
use Rattle.std.proofs.lemmas.Bool.{and_parts}
use Rattle.xa_base.specs.declared.answer.Answer.TheVariants.{Page, Ret}
use Rattle.xa_base.specs.declared.call.Call.TheVariants as Calls
use Rattle.xa_model.specs.Trace.{Answer, Branch, Call, Line, Name, Name.Ours, Name.Foreign, Trace}
use Rattle.xa_model.specs.Facts.{origin, branches, standing}
use Rattle.xa_base.specs.Scan.{reads_from, behind, page_of}
use Rattle.xa_base.specs.Standing.{is_in_doubt}
use Rattle.xa_model.specs.Facts.InDoubt.{name_cmp, name_of, in_order, is_in_doubt_at, is_still_in_doubt, in_doubt, scan, scan_answer}
use Rattle.xa_base.specs.Recover.{page_answer}
use Rattle.xa_model.specs.Protocol.{IsSoundPage, Lists, RightAnswer, SoundAnswer}
use Rattle.xa_base.specs.declared.state.Standing.{Standing}
use Rattle.xa_base.specs.declared.state.Standing.TheVariants.{Unstarted}
use Rattle.xa_model.proofs.Invariant.{HasBegun, IsStarted, Inv}
use Rattle.xa_model.proofs.Invariant.Now.{begun_or_older}

abbrev pub Each : (Name → Type 0) → List Name → Type 0
Each P [] = Unit
Each P (x ∷ xs) = P x × Each P xs

pub each_listed : (P : Name → Type 0) (xs : List Name) → Each P xs → (x : Name) → Lists xs x → P x
each_listed P xs h x l = at_place xs h l.0 l.1
  where
    at_place : (xs : List Name) → Each P xs → (i : ℕ) → slice_get xs i ≡ Some x → P x
    at_place [] h i e = absurd (cc)
    at_place (y ∷ ys) h zero e = subst P (let p : y ≡ x = cc in p) h.0
    at_place (y ∷ ys) h (suc i) e = at_place ys h.1 i e

pub each_append : (P : Name → Type 0) (xs ys : List Name) → Each P xs → Each P ys → Each P (xs ++ ys)
each_append P [] ys h k = k
each_append P (x ∷ xs) ys h k = (h.0, each_append P xs ys h.1 k)

pub each_take : (P : Name → Type 0) (n : ℕ) (xs : List Name) → Each P xs → Each P (take n xs)
each_take P zero xs h = tt
each_take P (suc n) [] h = tt
each_take P (suc n) (x ∷ xs) h = (h.0, each_take P n xs h.1)

pub each_filter : (P : Name → Type 0) (test : Name → Bool) (xs : List Name) → Each P xs → Each P (filter test xs)
each_filter P test [] h = tt
each_filter P test (x ∷ xs) h = by_test (test x) (each_filter P test xs h.1)
  where
    by_test : (t : Bool) → Each P (filter test xs) → Each P (cond t (x ∷ filter test xs) (filter test xs))
    by_test true k = (h.0, k)
    by_test false k = k

pub each_insert : (P : Name → Type 0) (xs : List Name) (y : Name) → Each P xs → P y → Each P (insert_key name_cmp xs y)
each_insert P [] y h p = (p, tt)
each_insert P (x ∷ xs) y h p = by_order (name_cmp y x) (each_insert P xs y h.1 p)
  where
    by_order : (o : Ordering) → Each P (insert_key name_cmp xs y) → Each P (match_ordering o (y ∷ x ∷ xs) (x ∷ xs) (x ∷ insert_key name_cmp xs y))
    by_order Less k = (p, h)
    by_order Equal k = h
    by_order Greater k = (h.0, k)

pub each_in_order : (P : Name → Type 0) (xs : List Name) → Each P xs → Each P (in_order xs)
each_in_order P [] h = tt
each_in_order P (x ∷ xs) h = each_insert P (in_order xs) x (each_in_order P xs h.1) h.0

-- ** a page

pub each_behind : (P : Name → Type 0) (last : Option Name) (xs : List Name) → Each P xs → Each P (behind name_cmp last xs)
each_behind P None xs h = h
each_behind P (Some last) xs h = each_filter P (λ x. is_lt (name_cmp last x)) xs h

pub page_each : (P : Name → Type 0) (count : ℤ) (from : Option (Option Name)) (xs names : List Name)
    → Page names ≡ page_answer (page_of name_cmp count from xs) → Each P xs → Each P names
page_each P (pos n) (Some last) xs names e h =
    subst (Each P) (let p : take n (behind name_cmp last xs) ≡ names = cc in p) (each_take P n (behind name_cmp last xs) (each_behind P last xs h))
page_each P (pos n) None xs names e h = absurd (cc)
page_each P (negsuc n) from xs names e h = absurd (cc)

doubtful_begun : (f : Standing) → is_in_doubt f ≡ true → HasBegun f
doubtful_begun Unstarted h = absurd (cc)
doubtful_begun _ h = tt

-- a name of this manager's is of a branch that is in doubt there
abbrev IsDoubtful : Trace → (rm : ℕ) → Name → Type 0
IsDoubtful tr r (Ours b) = is_in_doubt_at tr r b ≡ true
IsDoubtful tr r (Foreign x) = Unit

still_doubtful : (tr : Trace) (r : ℕ) (n : Name) → is_still_in_doubt tr r n ≡ true → IsDoubtful tr r n
still_doubtful tr r (Ours b) h = h
still_doubtful tr r (Foreign x) h = tt

found_doubtful : (tr : Trace) (r : ℕ) (ns : List Name) → Each (IsDoubtful tr r) (filter (is_still_in_doubt tr r) ns)
found_doubtful tr r [] = tt
found_doubtful tr r (n ∷ ns) = by_test (is_still_in_doubt tr r n) refl (found_doubtful tr r ns)
  where
    by_test : (t : Bool) → is_still_in_doubt tr r n ≡ t → Each (IsDoubtful tr r) (filter (is_still_in_doubt tr r) ns)
        → Each (IsDoubtful tr r) (cond t (n ∷ filter (is_still_in_doubt tr r) ns) (filter (is_still_in_doubt tr r) ns))
    by_test true q k = (still_doubtful tr r n q, k)
    by_test false q k = k

own_doubtful : (tr : Trace) (r : ℕ) (bs : List Branch) → Each (IsDoubtful tr r) (map (λ b. Ours b) (filter (is_in_doubt_at tr r) bs))
own_doubtful tr r [] = tt
own_doubtful tr r (b ∷ bs) = by_test (is_in_doubt_at tr r b) refl (own_doubtful tr r bs)
  where
    by_test : (t : Bool) → is_in_doubt_at tr r b ≡ t → Each (IsDoubtful tr r) (map (λ b. Ours b) (filter (is_in_doubt_at tr r) bs))
        → Each (IsDoubtful tr r) (map (λ b. Ours b) (cond t (b ∷ filter (is_in_doubt_at tr r) bs) (filter (is_in_doubt_at tr r) bs)))
    by_test true q k = (q, k)
    by_test false q k = k

-- the page that comes next is sound
sound_page : (tr : Trace) (r : ℕ) (count : ℤ) (start : Bool) (names : List Name) (b : Branch) → Page names ≡ scan_answer tr r count start
    → Lists names (Ours b) → is_in_doubt_at tr r b ≡ true
sound_page tr r count start names b e l =
    each_listed (IsDoubtful tr r) names
    (page_each (IsDoubtful tr r) count (reads_from (scan tr r) start) (in_doubt tr r) names e
    (each_in_order (IsDoubtful tr r) _
    (each_append (IsDoubtful tr r) _ _ (found_doubtful tr r (map name_of ((origin tr).in_doubt r))) (own_doubtful tr r (branches tr)))))
    (Ours b) l

sound_answer : (tr : Trace) (r : ℕ) (count : ℤ) (start : Bool) (a : Answer) → a ≡ scan_answer tr r count start → IsSoundPage tr r a
sound_answer tr r count start (Page names) e = λ b l. sound_page tr r count start names b e l
sound_answer tr r count start (Ret code) e = tt

-- the answer that is demanded is sound
pub right_is_sound : (tr : Trace) (l : Line) (c : Call) (a : Answer) → RightAnswer tr l c a → SoundAnswer tr l c a
right_is_sound tr l (Calls.Recover n s e) a h = sound_answer tr l.rm n s a h
right_is_sound tr l Calls.OpenRm a h = h
right_is_sound tr l Calls.CloseRm a h = h
right_is_sound tr l (Calls.Start b join) a h = h
right_is_sound tr l (Calls.End b fail) a h = h
right_is_sound tr l (Calls.Prepare b) a h = h
right_is_sound tr l (Calls.Commit b one_phase) a h = h
right_is_sound tr l (Calls.Rollback b) a h = h
right_is_sound tr l (Calls.Forget b) a h = h

-- what a sound page lists was started
pub page_started : (tr : Trace) (r : ℕ) (names : List Name) → Inv tr → IsSoundPage tr r (Page names) → (x : Name) → Lists names x → IsStarted tr x
page_started tr r names inv h (Ours b) l = begun_or_older tr b inv (doubtful_begun (standing tr b) (and_parts _ _ (h b l)).1)
page_started tr r names inv h (Foreign x) l = tt
