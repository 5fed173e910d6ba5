-- Lists of transactions: which ones are named, and that none comes twice.
use Rattle.std.proofs.Common.{◌≡◌, ℕ, ◌+◌, ◌-◌, ◌<◌, length, length-drop, arith, drop, take, get_or, List, [], ◌∷◌, ◌++◌, filter, Bool, true, false, not, ◌&&◌, ◌||◌, cond, refl, sym, ap, ◌∙◌}
use Rattle.std.specs.Global.{Vec}
use Rattle.std.specs.Prelude.{nat_eq, vec_len, ◌==◌}
use Rattle.std.specs.List.{list_any, AllByRecursion}
use Rattle.std.proofs.lemmas.Bool.{and_from, and_parts, eq-eqb, eqb-true, or_left, or_right, or_parts, or_from, true≢false}
use Rattle.std.proofs.lemmas.List.{drop_more, nil_from_length, take_all}
use Rattle.xa_base.specs.Branch.{gtrid_eq}
use Rattle.xa_base.specs.declared.branch.Gtrid.{Gtrid}
use Rattle.xa_base.proofs.BranchOrder.{gtrid_numbers}
use Rattle.xa_base.proofs.BranchKeys.{gtrid_eq-refl, gtrid_eq-true}
use Rattle.xa_model.specs.Facts.{has_gtrid}
use Rattle.xa_model.specs.Facts.Distinct.{EachOnce}
use Rattle.xa_log.specs.declared.decision.Decision.{Decision}
use Rattle.xa_tm.specs.LedgerBook.{gtrids_of}
use Rattle.xa_tm.specs.Swaps.{each_once}

-- what stands past the end of a list
abbrev pub past_end : Gtrid
past_end = record { incarnation = 0; sequence = 0 }

-- what stands after, as a slice gives it
pub rest_of : (gs : List Gtrid) (m : ℕ) → take (length gs - m) (drop m gs) ≡ drop m gs
rest_of gs m = take_all (length gs - m) (drop m gs) (let long = length-drop m gs in omega (arith, long))

-- ** who is named

-- transactions are compared number by number
abbrev by_numbers : Gtrid → Gtrid → Bool
by_numbers g h = nat_eq g.incarnation h.incarnation && nat_eq g.sequence h.sequence

pub named : (g : Gtrid) (gs : List Gtrid) → list_any (λ h. by_numbers h g) gs ≡ has_gtrid gs g
named g [] = refl
named g (h ∷ gs) = λ i. gtrid_numbers h g i || named g gs i

pub named_decided : (g : Gtrid) (ds : List Decision) → list_any (λ (d : Decision). gtrid_eq d.gtrid g) ds ≡ has_gtrid (gtrids_of ds) g
named_decided g [] = refl
named_decided g (d ∷ ds) = ap (λ t. gtrid_eq d.gtrid g || t) (named_decided g ds)

-- either way round
pub gtrid_away : (g h : Gtrid) → gtrid_eq g h ≡ false → gtrid_eq h g ≡ false
gtrid_away g h away = by (gtrid_eq h g) refl
  where
    by : (t : Bool) → gtrid_eq h g ≡ t → t ≡ false
    by false e = refl
    by true e = absurd (true≢false (sym (ap (λ p. gtrid_eq p h) (sym (gtrid_eq-true h g e)) ∙ gtrid_eq-refl h) ∙ away))

pub other_of : (gs : List Gtrid) (g h : Gtrid) → has_gtrid gs g ≡ false → has_gtrid gs h ≡ true → gtrid_eq g h ≡ false
other_of gs g h none some = by (gtrid_eq g h) refl
  where
    by : (t : Bool) → gtrid_eq g h ≡ t → t ≡ false
    by false e = refl
    by true e = absurd (true≢false (sym some ∙ sym (ap (has_gtrid gs) (gtrid_eq-true g h e)) ∙ none))

pub named_first : (g : Gtrid) (gs : List Gtrid) → has_gtrid (g ∷ gs) g ≡ true
named_first g gs = or_left _ _ (gtrid_eq-refl g)

pub named_push : (gs : List Gtrid) (h g : Gtrid) → has_gtrid (gs ++ h ∷ []) g ≡ (gtrid_eq h g || has_gtrid gs g)
named_push [] h g = refl
named_push (x ∷ gs) h g = ap (λ t. gtrid_eq x g || t) (named_push gs h g) ∙ turned (gtrid_eq x g) (gtrid_eq h g) (has_gtrid gs g)
  where
    turned : (a b c : Bool) → (a || (b || c)) ≡ (b || (a || c))
    turned true true c = refl
    turned true false c = refl
    turned false true c = refl
    turned false false c = refl

pub named_filter : (p : Gtrid → Bool) (gs : List Gtrid) (g : Gtrid) → has_gtrid gs g ≡ false → has_gtrid (filter p gs) g ≡ false
named_filter p [] g e = refl
named_filter p (h ∷ gs) g e = let parts = or_parts (gtrid_eq h g) (has_gtrid gs g) e in by (p h) (named_filter p gs g parts.1) parts.0
  where
    by : (t : Bool) → has_gtrid (filter p gs) g ≡ false → gtrid_eq h g ≡ false → has_gtrid (cond t (h ∷ filter p gs) (filter p gs)) g ≡ false
    by true rest away = or_from _ _ away rest
    by false rest away = rest

-- ** none comes twice

pub once_among : (P Q : Gtrid → Type 0) (gs : List Gtrid) → ((g : Gtrid) → has_gtrid gs g ≡ true → P g → Q g) → EachOnce P gs → EachOnce Q gs
once_among P Q [] f e = tt
once_among P Q (g ∷ gs) f e = (f g (named_first g gs) e.0, e.1, once_among P Q gs (λ h is. f h (or_right (gtrid_eq g h) (has_gtrid gs h) is)) e.2)

pub once_so : (P Q : Gtrid → Type 0) (gs : List Gtrid) → ((g : Gtrid) → P g → Q g) → EachOnce P gs → EachOnce Q gs
once_so P Q gs f e = once_among P Q gs (λ g is. f g) e

pub once_filter : (P : Gtrid → Type 0) (p : Gtrid → Bool) (gs : List Gtrid) → EachOnce P gs → EachOnce P (filter p gs)
once_filter P p [] e = tt
once_filter P p (g ∷ gs) e = by (p g) (once_filter P p gs e.2)
  where
    by : (t : Bool) → EachOnce P (filter p gs) → EachOnce P (cond t (g ∷ filter p gs) (filter p gs))
    by true rest = (e.0, named_filter p gs g e.1, rest)
    by false rest = rest

pub once_all : (P : Gtrid → Type 0) (gs : List Gtrid) → EachOnce P gs → AllByRecursion P gs
once_all P [] e = tt
once_all P (g ∷ gs) e = (e.0, once_all P gs e.2)

-- ** the test

module _ (p : Gtrid → Bool) (gs : List Gtrid) (i : ℕ) (d : Gtrid) (low : i < length gs) where
  pub once_more : (p (get_or gs i d) && not (has_gtrid (drop (i + 1) gs) (get_or gs i d))) ≡ true → each_once p (drop (i + 1) gs) ≡ each_once p (drop i gs)
  once_more is = sym (ap (each_once p) (drop_more gs i d low) ∙ joined (p (get_or gs i d)) (not (has_gtrid (drop (i + 1) gs) (get_or gs i d))) is)
    where
      joined : (a b : Bool) → (a && b) ≡ true → (a && (b && each_once p (drop (i + 1) gs))) ≡ each_once p (drop (i + 1) gs)
      joined true true e = refl
      joined true false e = absurd (cc)
      joined false b e = absurd (cc)

  pub once_fails : (p (get_or gs i d) && not (has_gtrid (drop (i + 1) gs) (get_or gs i d))) ≡ false → each_once p (drop i gs) ≡ false
  once_fails is = ap (each_once p) (drop_more gs i d low) ∙ joined (p (get_or gs i d)) (not (has_gtrid (drop (i + 1) gs) (get_or gs i d))) is
    where
      joined : (a b : Bool) → (a && b) ≡ false → (a && (b && each_once p (drop (i + 1) gs))) ≡ false
      joined true true e = absurd (cc)
      joined true false e = refl
      joined false b e = refl

pub once_is : (p : Gtrid → Bool) (gs : List Gtrid) → each_once p gs ≡ true → EachOnce (λ g. p g ≡ true) gs
once_is p [] e = tt
once_is p (g ∷ gs) e =
    let parts = and_parts (p g) (not (has_gtrid gs g) && each_once p gs) e in
    let more = and_parts (not (has_gtrid gs g)) (each_once p gs) parts.1 in
    (parts.0, no (has_gtrid gs g) more.0, once_is p gs more.1)
  where
    no : (t : Bool) → not t ≡ true → t ≡ false
    no true e = absurd (cc)
    no false e = refl

pub once_back : (p : Gtrid → Bool) (gs : List Gtrid) → EachOnce (λ g. p g ≡ true) gs → each_once p gs ≡ true
once_back p [] e = refl
once_back p (g ∷ gs) e = and_from (p g) _ e.0 (and_from (not (has_gtrid gs g)) _ (ap not e.1) (once_back p gs e.2))

-- ** whether there is one

pub no_items : {X : Type 0} (v : Vec X) → (vec_len v == 0) ≡ true → v.items ≡ []
no_items v e = nil_from_length v.items (sym v.ok.0 ∙ eqb-true (vec_len v) 0 e)

pub some_items : {X : Type 0} (v : Vec X) → (vec_len v == 0) ≡ false → v.items ≡ [] → ⊥
some_items v e none = true≢false (sym (eq-eqb (vec_len v) 0 (v.ok.0 ∙ ap length none)) ∙ e)
