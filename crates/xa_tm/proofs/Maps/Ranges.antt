-- The branches of one transaction stand in a row.
use Rattle.std.proofs.Common.{◌≡◌, ℕ, ◌+◌, List, [], ◌∷◌, Bool, true, false, not, ◌&&◌, ◌||◌, filter, cond, refl, sym, ap, ◌∙◌, arith, Ordering, Less, Equal, Greater, nat_cmp, is_eq}
use Rattle.std.specs.Prelude.{nat_eq}
use Rattle.std.specs.Ordering.{is_gt, is_le, is_lt, ordering_then}
use Rattle.std.proofs.lemmas.Bool.{eq-eqb}
use Rattle.std.specs.BTreeMap.Range.{is_past_end, range_contains}
use Rattle.std.specs.List.{list_any}
use Rattle.std.specs.declared.ops.Bound.{Bound}
use Rattle.std.specs.declared.ops.Bound.TheVariants.{Included, Excluded}
use Rattle.xa_base.specs.Branch.{branch_cmp, gtrid_eq}
use Rattle.xa_base.specs.declared.branch.Branch.{Branch}
use Rattle.xa_base.proofs.BranchOrder.{gtrid_numbers}
use Rattle.xa_base.specs.declared.branch.Gtrid.{Gtrid}

-- an order by three keys, of which the last is at its least
in_between : (a b c z : Ordering) → is_le z ≡ true → is_le c ≡ is_lt b
    → (is_le (ordering_then (ordering_then a b) z) && not (is_le (ordering_then (ordering_then a c) z))) ≡ (is_eq a && is_eq b)
in_between Less b c z least next = refl
in_between Greater b c z least next = refl
in_between Equal Less Less z least next = refl
in_between Equal Less Equal z least next = ap not least
in_between Equal Less Greater z least next = absurd (cc)
in_between Equal Equal Less z least next = absurd (cc)
in_between Equal Equal Equal z least next = absurd (cc)
in_between Equal Equal Greater z least next = ap (λ t. t && true) least
in_between Equal Greater c z least next = refl

least : (t r : ℕ) → is_le (ordering_then (nat_cmp 0 t) (nat_cmp 0 r)) ≡ true
least t r = grind arith

next_is_more : (s y : ℕ) → is_le (nat_cmp (s + 1) y) ≡ is_lt (nat_cmp s y)
next_is_more s y = grind (arith, eq-eqb)

same_number : (x y : ℕ) → is_eq (nat_cmp y x) ≡ nat_eq x y
same_number x y = grind (arith, eq-eqb)

-- from the first branch of a transaction to the first of the next there are its own
pub within : (g : Gtrid) (q : Branch)
    → range_contains branch_cmp (Included (record { gtrid = g; thread = 0; rm = 0 }))
    (Excluded (record { gtrid = record g { sequence = g.sequence + 1 }; thread = 0; rm = 0 })) q ≡ gtrid_eq q.gtrid g
within g q = in_between (nat_cmp g.incarnation q.gtrid.incarnation) (nat_cmp g.sequence q.gtrid.sequence) (nat_cmp (g.sequence + 1) q.gtrid.sequence)
    (ordering_then (nat_cmp 0 q.thread) (nat_cmp 0 q.rm)) (least q.thread q.rm) (next_is_more g.sequence q.gtrid.sequence)
    ∙ (λ i. same_number q.gtrid.incarnation g.incarnation i && same_number q.gtrid.sequence g.sequence i)
    ∙ gtrid_numbers q.gtrid g

-- the one runs before the other
pub forward : (g : Gtrid)
    → is_gt (branch_cmp (record { gtrid = g; thread = 0; rm = 0 }) (record { gtrid = record g { sequence = g.sequence + 1 }; thread = 0; rm = 0 })) ≡ false
forward g = by (nat_cmp g.incarnation g.incarnation) (same_number g.incarnation g.incarnation) (nat_cmp g.sequence (g.sequence + 1)) (up g.sequence)
  where
    up : (s : ℕ) → is_lt (nat_cmp s (s + 1)) ≡ true
    up s = grind arith

    by : (a : Ordering) → is_eq a ≡ nat_eq g.incarnation g.incarnation → (b : Ordering) → is_lt b ≡ true
        → is_gt (ordering_then (ordering_then a b) (ordering_then (nat_cmp 0 0) (nat_cmp 0 0))) ≡ false
    by Less e b l = refl
    by Equal e Less l = refl
    by Equal e Equal l = absurd (cc)
    by Equal e Greater l = absurd (cc)
    by Greater e b l = absurd (let no : false ≡ true = e ∙ eq-eqb g.incarnation g.incarnation refl in cc)

-- two tests, one after the other
pub in_turn : {E : Type 0} (r p v : E → Bool) → ((e : E) → r e ≡ p e) → (es : List E) → filter v (filter r es) ≡ filter (λ e. p e && v e) es
in_turn r p v same [] = refl
in_turn r p v same (e ∷ es) = by (r e) (p e) (same e) (in_turn r p v same es)
  where
    by : (s t : Bool) → s ≡ t → filter v (filter r es) ≡ filter (λ e. p e && v e) es
        → filter v (cond s (e ∷ filter r es) (filter r es)) ≡ cond (t && v e) (e ∷ filter (λ e. p e && v e) es) (filter (λ e. p e && v e) es)
    by true true is tail = ap (λ xs. cond (v e) (e ∷ xs) xs) tail
    by false false is tail = tail
    by true false is tail = absurd (cc)
    by false true is tail = absurd (cc)

-- ** what is looked for among the branches of one transaction

-- its own are in a range that begins with its least and doesn't end before one of them
pub inside : (g : Gtrid) (end : Bound Branch) → ((q : Branch) → gtrid_eq q.gtrid g ≡ true → is_past_end branch_cmp end q ≡ false) → (q : Branch)
    → gtrid_eq q.gtrid g ≡ true → range_contains branch_cmp (Included (record { gtrid = g; thread = 0; rm = 0 })) end q ≡ true
inside g end own q is = by _ _ (from_first _ _ (within g q ∙ is)) (own q is)
  where
    from_first : (a b : Bool) → (a && b) ≡ true → a ≡ true
    from_first true b e = refl
    from_first false b e = absurd (cc)

    by : (a b : Bool) → a ≡ true → b ≡ false → (a && not b) ≡ true
    by true false s t = refl
    by true true s t = absurd (cc)
    by false b s t = absurd (cc)

-- what only some pass is found among those
pub any_inside : {E : Type 0} (r p : E → Bool) → ((e : E) → p e ≡ true → r e ≡ true) → (es : List E) → list_any p (filter r es) ≡ list_any p es
any_inside r p some [] = refl
any_inside r p some (e ∷ es) = by (r e) (p e) refl refl (any_inside r p some es)
  where
    by : (s t : Bool) → r e ≡ s → p e ≡ t → list_any p (filter r es) ≡ list_any p es
        → list_any p (cond s (e ∷ filter r es) (filter r es)) ≡ (p e || list_any p es)
    by true t is of tail = ap (λ b. p e || b) tail
    by false false is of tail = tail ∙ sym (ap (λ b. b || list_any p es) of)
    by false true is of tail = absurd (let no : true ≡ false = sym (some e of) ∙ is in cc)
