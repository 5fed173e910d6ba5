-- What was taken is a prefix of what was issued, and nothing comes after xa_close.
use Rattle.std.proofs.Common.{◌≡◌, ℕ, zero, suc, ◌+◌, List, [], ◌∷◌, ◌++◌, length, length-append, Bool, true, false, ◌||◌, refl, sym, ap, ◌∙◌, subst, arith, ◌⊎◌}
use Rattle.std.specs.Prelude.{if◌then◌else◌, Some, slice_get, map}
use mathlib.Core.Logic.{◌⊎◌.inl, ◌⊎◌.inr}
use Rattle.xa_base.specs.declared.call.Call.TheVariants as Calls
use Rattle.xa_base.specs.StateTable.{on, Kind.Commit, Kind.Rollback, Kind.Forget}
use Rattle.xa_model.specs.Trace.{Branch, Line, Name, Name.Ours, Name.Foreign, Call, Answer, Happening, Happening.Issued, Happening.Resolved, Happening.ResolvedOpen, Happening.Took, Trace, Trace.From, Trace.Then, line_eq, line}
use Rattle.xa_model.specs.Facts.{recorded, has_row, live, breaks, new_taken, new_calls, taken, issued, page, resolving_kind, resolving_calls, is_closed}
use Rattle.xa_model.specs.Protocol.{Right, AllRight}
use Rattle.xa_model.proofs.Keys.{line_eq-true}
use Rattle.xa_base.proofs.Lists.{get_append, get_if, get_none}
use Rattle.xa_model.specs.Promises.Agreement.{IsPrefixOf, call_of, ClosesLast}
use Rattle.std.proofs.lemmas.List.{append-nil, append_assoc}
use Rattle.std.specs.List.{list_any}
use Rattle.xa_base.specs.Opening.{closes}

-- ** taken is a prefix of issued

prefix_more : (xs ys : List Call) (c : Call) → IsPrefixOf xs ys → slice_get ys (length xs) ≡ Some c → IsPrefixOf (xs ++ c ∷ []) ys
prefix_more xs ys c p h = grow xs ys p.0 c p.1 h
  where
    first : (rest : List Call) (c : Call) → slice_get rest 0 ≡ Some c → IsPrefixOf (c ∷ []) rest
    first [] c h = absurd (get_none 0 c h)
    first (d ∷ rest) c h = (rest, cc)

    cons : (x : Call) (xs ys : List Call) → IsPrefixOf xs ys → IsPrefixOf (x ∷ xs) (x ∷ ys)
    cons x xs ys p = (p.0, ap (λ z. x ∷ z) p.1)

    grow : (xs ys rest : List Call) (c : Call) → xs ++ rest ≡ ys → slice_get ys (length xs) ≡ Some c → IsPrefixOf (xs ++ c ∷ []) ys
    grow [] ys rest c q h = first ys c h
    grow (x ∷ xs) ys rest c q h =
        subst (λ z. IsPrefixOf (x ∷ (xs ++ c ∷ [])) z) q
        (cons x (xs ++ c ∷ []) (xs ++ rest) (grow xs (xs ++ rest) rest c refl (subst (λ z. slice_get z (suc (length xs)) ≡ Some c) (sym q) h)))

map_append : (xs ys : List (Call × Answer)) → map call_of (xs ++ ys) ≡ map call_of xs ++ map call_of ys
map_append [] ys = refl
map_append (x ∷ xs) ys = ap (λ z. call_of x ∷ z) (map_append xs ys)

map_length : (xs : List (Call × Answer)) → length (map call_of xs) ≡ length xs
map_length [] = refl
map_length (x ∷ xs) = ap suc (map_length xs)

longer : (xs ys zs : List Call) → IsPrefixOf xs ys → IsPrefixOf xs (ys ++ zs)
longer xs ys zs p = (p.0 ++ zs, sym (append_assoc xs p.0 zs) ∙ ap (λ y. y ++ zs) p.1)

-- what a list of answers grows by is the first call that has none
new_prefix : (tr : Trace) (e : Happening) (l : Line) → Right tr e → IsPrefixOf (map call_of (taken tr l)) (issued tr l)
    → IsPrefixOf (map call_of (taken tr l ++ new_taken e l)) (issued tr l)
new_prefix tr (Took m c a) l r p = by_line (line_eq m l) refl
  where
    by_line : (t : Bool) → line_eq m l ≡ t → IsPrefixOf (map call_of (taken tr l ++ (if t then (c, a) ∷ [] else []))) (issued tr l)
    by_line true s =
        let h : slice_get (issued tr l) (length (taken tr l)) ≡ Some c =
        subst (λ z. slice_get (issued tr z) (length (taken tr z)) ≡ Some c) (line_eq-true m l s) r.0 in
        let k : slice_get (issued tr l) (length (map call_of (taken tr l))) ≡ Some c =
        subst (λ z. slice_get (issued tr l) z ≡ Some c) (sym (map_length (taken tr l))) h in
        subst (λ z. IsPrefixOf z (issued tr l)) (sym (map_append (taken tr l) ((c, a) ∷ []))) (prefix_more (map call_of (taken tr l)) (issued tr l) c p k)
    by_line false s = subst (λ z. IsPrefixOf (map call_of z) (issued tr l)) (sym (append-nil (taken tr l))) p
new_prefix tr _ l r p = subst (λ z. IsPrefixOf (map call_of z) (issued tr l)) (sym (append-nil (taken tr l))) p

pub prefix : (tr : Trace) (l : Line) → AllRight tr → IsPrefixOf (map call_of (taken tr l)) (issued tr l)
prefix (From o) l r = ([], refl)
prefix (Then tr e) l r =
    by_break (breaks tr e l) (longer (map call_of (taken tr l ++ new_taken e l)) (issued tr l) (new_calls tr e l) (new_prefix tr e l r.1 (prefix tr l r.0)))
  where
    by_break : (t : Bool) → IsPrefixOf (map call_of (taken tr l ++ new_taken e l)) (issued tr l ++ new_calls tr e l)
        → IsPrefixOf (map call_of (if t then [] else taken tr l ++ new_taken e l)) (if t then [] else issued tr l ++ new_calls tr e l)
    by_break true p = ([], refl)
    by_break false p = p

-- ** nothing comes after xa_close

not_closed : (calls : List Call) (i : ℕ) → list_any closes calls ≡ false → slice_get calls i ≡ Some Calls.CloseRm → ⊥
not_closed [] i n h = get_none i Calls.CloseRm h
not_closed (c ∷ calls) zero n h = let k = some_parts c h in absurd (first c calls n k)
  where
    some_parts : (c : Call) → Some c ≡ Some Calls.CloseRm → c ≡ Calls.CloseRm
    some_parts c h = cc

    first : (c : Call) (calls : List Call) → (closes c || list_any closes calls) ≡ false → c ≡ Calls.CloseRm → ⊥
    first c calls n k =
        let e : (closes {X = Branch} Calls.CloseRm || list_any closes calls) ≡ false = subst (λ x. (closes x || list_any closes calls) ≡ false) k n in cc
not_closed (c ∷ calls) (suc i) n h = not_closed calls i (rest (closes c) (list_any closes calls) n) h
  where
    rest : (s t : Bool) → (s || t) ≡ false → t ≡ false
    rest true t e = cc
    rest false t e = e

resolving_no_close : (tr : Trace) (names : List Name) (i : ℕ) → slice_get (resolving_calls tr names) i ≡ Some Calls.CloseRm → ⊥
resolving_no_close tr [] i h = get_none i Calls.CloseRm h
resolving_no_close tr (Ours b ∷ names) i h = by_live (live tr b.gtrid) (λ j k. resolving_no_close tr names j k) i h
  where
    by_live : (t : Bool) → ((j : ℕ) → slice_get (resolving_calls tr names) j ≡ Some Calls.CloseRm → ⊥) → (i : ℕ)
        → slice_get (if t then resolving_calls tr names else on (resolving_kind tr b) b ∷ resolving_calls tr names) i ≡ Some Calls.CloseRm → ⊥
    by_live true f i h = f i h
    by_live false f zero h = no_close (recorded tr b) (has_row tr b.gtrid) h
      where
        no_close : (u v : Bool) → Some (on (if u then Forget else if v then Commit else Rollback) b) ≡ Some Calls.CloseRm → ⊥
        no_close true v h = cc
        no_close false true h = cc
        no_close false false h = cc
    by_live false f (suc i) h = f i h
resolving_no_close tr (Foreign n ∷ names) i h = resolving_no_close tr names i h

-- a new xa_close is the only new call, on a line with none before
new_close : (tr : Trace) (e : Happening) (l : Line) (i : ℕ) → Right tr e → slice_get (new_calls tr e l) i ≡ Some Calls.CloseRm
    → i + 1 ≡ length (new_calls tr e l)
new_close tr (Issued m c) l i r h =
    let g = get_if (line_eq m l) c i Calls.CloseRm h in
    let k : length (if line_eq m l then c ∷ [] else []) ≡ 1 = ap (λ t. length (if t then c ∷ [] else [])) g.0 in let z = g.1 in omega arith
new_close tr (Resolved n) l i r h = by_line (line_eq (line 0 n) l) h
  where
    by_line : (t : Bool) → slice_get (if t then resolving_calls tr (page tr n) else []) i ≡ Some Calls.CloseRm
        → i + 1 ≡ length (if t then resolving_calls tr (page tr n) else [])
    by_line true h = absurd (resolving_no_close tr (page tr n) i h)
    by_line false h = absurd (get_none i Calls.CloseRm h)
new_close tr (ResolvedOpen n) l i r h = by_line (line_eq (line 0 n) l) h
  where
    by_line : (t : Bool) → slice_get (if t then resolving_calls (Then tr (ResolvedOpen n)) (page tr n) else []) i ≡ Some Calls.CloseRm
        → i + 1 ≡ length (if t then resolving_calls (Then tr (ResolvedOpen n)) (page tr n) else [])
    by_line true h = absurd (resolving_no_close (Then tr (ResolvedOpen n)) (page tr n) i h)
    by_line false h = absurd (get_none i Calls.CloseRm h)
new_close tr _ l i r h = absurd (get_none i Calls.CloseRm h)

-- where a line is closed, nothing is added
closed_is_shut : (tr : Trace) (e : Happening) (l : Line) → Right tr e → (new_calls tr e l ≡ []) ⊎ (is_closed tr l ≡ false)
closed_is_shut tr (Issued m c) l r = by_line (line_eq m l) refl
  where
    by_line : (t : Bool) → line_eq m l ≡ t → ((if t then c ∷ [] else []) ≡ []) ⊎ (is_closed tr l ≡ false)
    by_line true s = inr (subst (λ z. is_closed tr z ≡ false) (line_eq-true m l s) r.2)
    by_line false s = inl refl
closed_is_shut tr (Resolved n) l r = by_line (line_eq (line 0 n) l) refl
  where
    by_line : (t : Bool) → line_eq (line 0 n) l ≡ t → ((if t then resolving_calls tr (page tr n) else []) ≡ []) ⊎ (is_closed tr l ≡ false)
    by_line true s = inr (subst (λ z. is_closed tr z ≡ false) (line_eq-true (line 0 n) l s) r.1)
    by_line false s = inl refl
closed_is_shut tr (ResolvedOpen n) l r = by_line (line_eq (line 0 n) l) refl
  where
    by_line : (t : Bool) → line_eq (line 0 n) l ≡ t
        → ((if t then resolving_calls (Then tr (ResolvedOpen n)) (page tr n) else []) ≡ []) ⊎ (is_closed tr l ≡ false)
    by_line true s = inr (subst (λ z. is_closed tr z ≡ false) (line_eq-true (line 0 n) l s) r.1)
    by_line false s = inl refl
closed_is_shut tr _ l r = inl refl

pub closes_last : (tr : Trace) (l : Line) → AllRight tr → ClosesLast (issued tr l)
closes_last (From o) l r i h = absurd (get_none i Calls.CloseRm h)
closes_last (Then tr e) l r i h = by_break (breaks tr e l) (closes_last tr l r.0) h
  where
    old : ClosesLast (issued tr l) → (new_calls tr e l ≡ []) ⊎ (is_closed tr l ≡ false)
        → slice_get (issued tr l) i ≡ Some Calls.CloseRm → i + 1 ≡ length (issued tr l ++ new_calls tr e l)
    old f (inl n) p = let q = f i p in let k = ap (λ z. length (issued tr l ++ z)) n in let m = ap (length {A = Call}) (append-nil (issued tr l)) in omega arith
    old f (inr n) p = absurd (not_closed (issued tr l) i n p)

    by_place : ClosesLast (issued tr l)
        → (slice_get (issued tr l) i ≡ Some Calls.CloseRm)
        ⊎ ((j : ℕ) × (i ≡ length (issued tr l) + j) × (slice_get (new_calls tr e l) j ≡ Some Calls.CloseRm)) → i + 1 ≡ length (issued tr l ++ new_calls tr e l)
    by_place f (inl p) = old f (closed_is_shut tr e l r.1) p
    by_place f (inr p) = let k = new_close tr e l p.0 r.1 p.2 in let q = p.1 in omega (arith, length-append (issued tr l) (new_calls tr e l))

    by_break : (t : Bool) → ClosesLast (issued tr l)
        → slice_get (if t then [] else issued tr l ++ new_calls tr e l) i ≡ Some Calls.CloseRm
        → i + 1 ≡ length (if t then [] else issued tr l ++ new_calls tr e l)
    by_break true f p = absurd (get_none i Calls.CloseRm p)
    by_break false f p = by_place f (get_append (issued tr l) (new_calls tr e l) i Calls.CloseRm p)
