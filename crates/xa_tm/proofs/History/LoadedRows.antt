-- The rows that a start loads: of earlier incarnations, and what a log that is honest says.
use Rattle.std.proofs.Common.{◌≡◌, ℕ, ◌<◌, ◌≤◌, List, [], ◌∷◌, length, drop, Bool, true, false, ◌||◌, Option, Some, None, is_some, refl, sym, ap, ◌∙◌, arith, map, ◌++◌, cond, is_eq, Less, subst}
use Rattle.std.specs.Prelude.{if◌then◌else◌, nat_lt, nat_le}
use Rattle.std.specs.List.{AllByRecursion, list_all, list_any}
use Rattle.std.specs.List.Sorted.{IsStrictlySortedBy}
use Rattle.std.specs.Ordering.{eq_by_cmp}
use Rattle.std.specs.FinMap.{find}
use Rattle.std.proofs.lemmas.Bool.{and_parts, leb-true, ltb-true}
use Rattle.std.proofs.lemmas.Cmp.{eq_by_cmp_equiv}
use Rattle.std.proofs.lemmas.List.Sums.{take_while-cons}
use Rattle.std.proofs.Math.Seq.{drop-append_seam}
use Rattle.std.specs.Option.{option_or}
use Rattle.xa_base.specs.Branch.{gtrid_cmp, gtrid_eq, branch_eq, branch_cmp}
use Rattle.xa_base.proofs.BranchOrder.{branches_total, exact_branches, gtrids_total, exact_gtrids}
use Rattle.xa_base.proofs.BranchKeys.{gtrid_eq-refl, gtrid_eq-true, branch_eq-true}
use Rattle.xa_base.specs.declared.branch.Branch.{Branch}
use Rattle.xa_base.specs.declared.branch.Gtrid.{Gtrid}
use Rattle.xa_base.specs.declared.code.How.{How}
use Rattle.xa_base.proofs.Options.{or_none}
use Rattle.xa_base.proofs.Orders.{all_among, branch_swap, equal_is, gtrid_swap, less_differs}
use Rattle.xa_log.specs.Content.{all_listed, last_number}
use Rattle.xa_log.specs.Contract.{FitsRow}
use Rattle.xa_log.specs.KeySet.{KeySet, contains, contains-from_list, contains-items, from_list, items, same_set}
use Rattle.xa_tm.specs.Book.{Waiting}
use Rattle.xa_log.specs.Starting.{fits_before}
use Rattle.xa_tm.specs.Starting.{ended_among, loaded, run_of}

-- ** rows of earlier incarnations

run_own : (g : Gtrid) (q : Branch) (bs : List Branch) → list_any (eq_by_cmp branch_cmp q) (run_of g bs) ≡ true → q.gtrid ≡ g
run_own g q [] e = absurd (cc)
run_own g q (b ∷ bs) e =
    by (gtrid_eq b.gtrid g) refl (sym (ap (list_any (eq_by_cmp branch_cmp q)) (take_while-cons (λ (x : Branch). gtrid_eq x.gtrid g) b bs)) ∙ e)
    (run_own g q bs)
  where
    next : (s : Bool) → gtrid_eq b.gtrid g ≡ true → eq_by_cmp branch_cmp q b ≡ s → (s || list_any (eq_by_cmp branch_cmp q) (run_of g bs)) ≡ true
        → (list_any (eq_by_cmp branch_cmp q) (run_of g bs) ≡ true → q.gtrid ≡ g) → q.gtrid ≡ g
    next true own same some rest = ap (λ (x : Branch). x.gtrid) (exact_branches q b (equal_is _ same)) ∙ gtrid_eq-true b.gtrid g own
    next false own other some rest = rest some

    by : (t : Bool) → gtrid_eq b.gtrid g ≡ t → list_any (eq_by_cmp branch_cmp q) (cond t (b ∷ run_of g bs) []) ≡ true
        → (list_any (eq_by_cmp branch_cmp q) (run_of g bs) ≡ true → q.gtrid ≡ g) → q.gtrid ≡ g
    by true own some rest = next (eq_by_cmp branch_cmp q b) own refl some rest
    by false own some rest = absurd (cc)

-- the rows that are read wait for branches of their own transactions
pub loaded_own : (gs : List Gtrid) (bs : List Branch) (q : Gtrid) (set : Waiting) (b : Branch) → loaded gs bs q ≡ Some set → contains set b ≡ true
    → b.gtrid ≡ q
loaded_own [] bs q set b is among = absurd (cc)
loaded_own (g ∷ gs) bs q set b is among =
    by (loaded gs (drop (length (run_of g bs)) bs) q) (gtrid_eq g q) refl refl is (λ e. loaded_own gs (drop (length (run_of g bs)) bs) q set b e among)
  where
    there : Some (from_list (run_of g bs)) ≡ Some set → contains (from_list {R = branch_cmp} (run_of g bs)) b ≡ true
    there e = subst (λ (o : Option Waiting). holds o) (sym e) among
      where
        holds : Option Waiting → Type 0
        holds (Some x) = contains x b ≡ true
        holds None = Unit

    by : (o : Option Waiting) (t : Bool) → loaded gs (drop (length (run_of g bs)) bs) q ≡ o → gtrid_eq g q ≡ t
        → option_or o (if t then Some (from_list (run_of g bs)) else None) ≡ Some set
        → (loaded gs (drop (length (run_of g bs)) bs) q ≡ Some set → b.gtrid ≡ q) → b.gtrid ≡ q
    by (Some s) t e f row later = later (e ∙ row)
    by None true e f row later =
        run_own g b bs (sym (contains-from_list branches_total (run_of g bs) b) ∙ there row) ∙ gtrid_eq-true g q f
    by None false e f row later = absurd (cc)

pub loaded_old : (i : ℕ) (gs : List Gtrid) (bs : List Branch) (q : Gtrid) → list_all (fits_before i) gs ≡ true
    → is_some (loaded gs bs q) ≡ true → fits_before i q ≡ true
loaded_old i [] bs q all has = absurd (cc)
loaded_old i (g ∷ gs) bs q all has =
    let parts = and_parts (fits_before i g) (list_all (fits_before i) gs) all in
    by (loaded gs (drop (length (run_of g bs)) bs) q) (gtrid_eq g q) refl refl parts.0 (loaded_old i gs (drop (length (run_of g bs)) bs) q parts.1) has
  where
    by : (o : Option Waiting) (t : Bool) → loaded gs (drop (length (run_of g bs)) bs) q ≡ o → gtrid_eq g q ≡ t
        → fits_before i g ≡ true → (is_some (loaded gs (drop (length (run_of g bs)) bs) q) ≡ true → fits_before i q ≡ true)
        → is_some (option_or o (if t then Some (from_list {R = branch_cmp} (run_of g bs)) else None)) ≡ true → fits_before i q ≡ true
    by (Some w) t e f first later h = later (ap is_some e)
    by None true e f first later h = ap (fits_before i) (sym (gtrid_eq-true g q f)) ∙ first
    by None false e f first later h = absurd (cc)

pub ended_old : (i : ℕ) (xs : List (Branch × How)) (q : Branch) → list_all (λ (e : Branch × How). fits_before i e.0.gtrid) xs ≡ true
    → is_some (ended_among xs q) ≡ true → fits_before i q.gtrid ≡ true
ended_old i [] q all has = absurd (cc)
ended_old i (x ∷ xs) q all has =
    let parts = and_parts (fits_before i x.0.gtrid) (list_all (λ (e : Branch × How). fits_before i e.0.gtrid) xs) all in
    by (ended_among xs q) (branch_eq x.0 q) refl refl parts.0 (ended_old i xs q parts.1) has
  where
    by : (o : Option How) (t : Bool) → ended_among xs q ≡ o → branch_eq x.0 q ≡ t → fits_before i x.0.gtrid ≡ true
        → (is_some (ended_among xs q) ≡ true → fits_before i q.gtrid ≡ true)
        → is_some (option_or o (if t then Some x.1 else None)) ≡ true → fits_before i q.gtrid ≡ true
    by (Some w) t e f first later h = later (ap is_some e)
    by None true e f first later h = ap (λ (p : Branch). fits_before i p.gtrid) (sym (branch_eq-true x.0 q f)) ∙ first
    by None false e f first later h = absurd (cc)

pub before_incarnation : (i : ℕ) (g : Gtrid) → fits_before i g ≡ true → g.incarnation < i
before_incarnation i g h = let parts = and_parts (nat_lt g.incarnation i) (nat_le g.sequence last_number) h in ltb-true _ _ parts.0

pub fits_row : (i : ℕ) (g : Gtrid) → fits_before i g ≡ true → i ≤ last_number → FitsRow g
fits_row i g h most =
    let parts = and_parts (nat_lt g.incarnation i) (nat_le g.sequence last_number) h in
    let below = before_incarnation i g h in
    let low : g.incarnation ≤ last_number = omega (arith, below, most) in (low, leb-true _ _ parts.1)

-- ** what a log that is honest tells

find_none : (g : Gtrid) (es : List (Gtrid × KeySet branch_cmp))
    → AllByRecursion (λ h. gtrid_cmp g h ≡ Less) (map (λ (e : Gtrid × KeySet branch_cmp). e.0) es) → find gtrid_cmp g es ≡ None
find_none g [] low = refl
find_none g (e ∷ es) low = ap (λ o. cond (is_eq o) (Some e.1) (find gtrid_cmp g es)) low.0 ∙ find_none g es low.1

end_none : (b : Branch) (es : List (Branch × How))
    → AllByRecursion (λ c. branch_cmp b c ≡ Less) (map (λ (e : Branch × How). e.0) es) → find branch_cmp b es ≡ None
end_none b [] low = refl
end_none b (e ∷ es) low = ap (λ o. cond (is_eq o) (Some e.1) (find branch_cmp b es)) low.0 ∙ end_none b es low.1

pub ended_is : (es : List (Branch × How)) → IsStrictlySortedBy branch_cmp (map (λ (e : Branch × How). e.0) es) → (q : Branch)
    → ended_among es q ≡ find branch_cmp q es
unfolding IsStrictlySortedBy
ended_is [] up q = refl
ended_is (e ∷ es) up q =
    ap (λ o. option_or o (if branch_eq e.0 q then Some e.1 else None)) (ended_is es up.1 q) ∙ by (branch_eq e.0 q) refl
    ∙ ap (λ t. cond t (Some e.1) (find branch_cmp q es)) (sym (branch_swap e.0 q))
  where
    by : (t : Bool) → branch_eq e.0 q ≡ t → option_or (find branch_cmp q es) (if t then Some e.1 else None) ≡ cond t (Some e.1) (find branch_cmp q es)
    by true same = ap (λ o. option_or o (Some e.1)) (ap (λ p. find branch_cmp p es) (sym (branch_eq-true e.0 q same)) ∙ end_none e.0 es up.0)
    by false other = or_none (find branch_cmp q es)

abbrev IsOwnSet : Gtrid → List Branch → Type 0
IsOwnSet g bs = AllByRecursion (λ (b : Branch). b.gtrid ≡ g) bs

abbrev pub OwnAll : List (Gtrid × KeySet branch_cmp) → Type 0
OwnAll [] = Unit
OwnAll (e ∷ es) = AllByRecursion (λ (b : Branch). b.gtrid ≡ e.0) (items e.1) × OwnAll es

pub own_all : (es : List (Gtrid × KeySet branch_cmp)) → IsStrictlySortedBy gtrid_cmp (map (λ (e : Gtrid × KeySet branch_cmp). e.0) es)
    → ((g : Gtrid) (set : KeySet branch_cmp) (b : Branch) → find gtrid_cmp g es ≡ Some set → contains set b ≡ true → b.gtrid ≡ g) → OwnAll es
unfolding IsStrictlySortedBy
own_all [] up own = tt
own_all (e ∷ es) up own = (
  all_among (λ b. b.gtrid ≡ e.0) (items e.1)
      (λ b h. own e.0 e.1 b (ap (λ t. cond t (Some e.1) (find gtrid_cmp e.0 es)) ((eq_by_cmp_equiv gtrids_total).refl e.0)) (contains-items e.1 b ∙ h)),
  own_all es up.1 (λ g set b is has. later g set b (eq_by_cmp gtrid_cmp g e.0) refl is has),
)
  where
    later : (g : Gtrid) (set : KeySet branch_cmp) (b : Branch) (t : Bool) → eq_by_cmp gtrid_cmp g e.0 ≡ t
        → find gtrid_cmp g es ≡ Some set → contains set b ≡ true → b.gtrid ≡ g
    later g set b false other is has = own g set b (ap (λ t. cond t (Some e.1) (find gtrid_cmp g es)) other ∙ is) has
    later g set b true same is has =
        let no : None ≡ Some set = sym (find_none e.0 es up.0) ∙ ap (λ p. find gtrid_cmp p es) (sym (exact_gtrids g e.0 (equal_is _ same))) ∙ is in absurd (cc)

abbrev IsApart : Gtrid → List Branch → Type 0
IsApart g bs = AllByRecursion (λ (b : Branch). gtrid_eq b.gtrid g ≡ false) bs

joined : (g : Gtrid) (xs ys : List Branch) → IsApart g xs → IsApart g ys → IsApart g (xs ++ ys)
joined g [] ys a b = b
joined g (x ∷ xs) ys a b = (a.0, joined g xs ys a.1 b)

apart_set : (g h : Gtrid) (xs : List Branch) → gtrid_eq h g ≡ false → AllByRecursion (λ (b : Branch). b.gtrid ≡ h) xs → IsApart g xs
apart_set g h [] other own = tt
apart_set g h (x ∷ xs) other own = (ap (λ p. gtrid_eq p g) own.0 ∙ other, apart_set g h xs other own.1)

apart_all : (g : Gtrid) (es : List (Gtrid × KeySet branch_cmp))
    → AllByRecursion (λ h. gtrid_cmp g h ≡ Less) (map (λ (e : Gtrid × KeySet branch_cmp). e.0) es) → OwnAll es → IsApart g (all_listed es)
apart_all g [] low own = tt
apart_all g (e ∷ es) low own = joined g (items e.1) (all_listed es) (apart_set g e.0 (items e.1) (less_differs g e.0 low.0) own.0) (apart_all g es low.1 own.1)

-- the run of a transaction is its participants
run_is : (g : Gtrid) (xs ys : List Branch) → AllByRecursion (λ (b : Branch). b.gtrid ≡ g) xs → IsApart g ys → run_of g (xs ++ ys) ≡ xs
run_is g [] [] own apart = refl
run_is g [] (y ∷ ys) own apart = take_while-cons (λ (b : Branch). gtrid_eq b.gtrid g) y ys ∙ ap (λ t. cond t (y ∷ run_of g ys) []) apart.0
run_is g (x ∷ xs) ys own apart = take_while-cons (λ (b : Branch). gtrid_eq b.gtrid g) x (xs ++ ys)
    ∙ ap (λ t. cond t (x ∷ run_of g (xs ++ ys)) []) (ap (λ p. gtrid_eq p g) own.0 ∙ gtrid_eq-refl g) ∙ ap (λ zs. x ∷ zs) (run_is g xs ys own.1 apart)

pub items_again : (s : KeySet branch_cmp) → from_list (items s) ≡ s
items_again s = same_set branches_total exact_branches (from_list (items s)) s (λ q. contains-from_list branches_total (items s) q ∙ sym (contains-items s q))

pub loaded_is : (es : List (Gtrid × KeySet branch_cmp)) → IsStrictlySortedBy gtrid_cmp (map (λ (e : Gtrid × KeySet branch_cmp). e.0) es) → OwnAll es
    → (q : Gtrid) → loaded (map (λ (e : Gtrid × KeySet branch_cmp). e.0) es) (all_listed es) q ≡ find gtrid_cmp q es
unfolding IsStrictlySortedBy
loaded_is [] up own q = refl
loaded_is (e ∷ es) up own q =
    (λ i. option_or (loaded gs (rest i) q) (if gtrid_eq e.0 q then Some (from_list (run i)) else None))
    ∙ (λ i. option_or (loaded_is es up.1 own.1 q i) (if gtrid_eq e.0 q then Some (items_again e.1 i) else None))
    ∙ by (gtrid_eq e.0 q) refl ∙ ap (λ t. cond t (Some e.1) (find gtrid_cmp q es)) (sym (gtrid_swap e.0 q))
  where
    gs : List Gtrid
    gs = map (λ (e : Gtrid × KeySet branch_cmp). e.0) es

    run : run_of e.0 (items e.1 ++ all_listed es) ≡ items e.1
    run = run_is e.0 (items e.1) (all_listed es) own.0 (apart_all e.0 es up.0 own.1)

    rest : drop (length (run_of e.0 (items e.1 ++ all_listed es))) (items e.1 ++ all_listed es) ≡ all_listed es
    rest = ap (λ xs. drop (length xs) (items e.1 ++ all_listed es)) run ∙ drop-append_seam (items e.1) (all_listed es)

    by : (t : Bool) → gtrid_eq e.0 q ≡ t → option_or (find gtrid_cmp q es) (if t then Some e.1 else None) ≡ cond t (Some e.1) (find gtrid_cmp q es)
    by true same = ap (λ o. option_or o (Some e.1)) (ap (λ p. find gtrid_cmp p es) (sym (gtrid_eq-true e.0 q same)) ∙ find_none e.0 es up.0)
    by false other = or_none (find gtrid_cmp q es)
