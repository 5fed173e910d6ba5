-- A manager begins as a history does that starts with what its log gave.
use Rattle.std.proofs.Common.{◌≡◌, ℕ, List, [], ◌∷◌, length, drop, map, Bool, true, false, ◌||◌, Option, Some, None, refl, sym, ap, ◌∙◌, Ordering, Less, Equal, Greater, is_lt, suc}
use Rattle.std.specs.Prelude.{if◌then◌else◌}
use Rattle.std.specs.Cmp.{IsTotalOrder}
use Rattle.std.specs.List.{AllByRecursion}
use Rattle.std.specs.List.Sorted.{IsStrictlySortedBy}
use Rattle.std.specs.Option.{option_or}
use Rattle.std.proofs.lemmas.Bool.{and_parts}
use Rattle.std.proofs.lemmas.List.{length-map}
use Rattle.xa_base.specs.Branch.{branch_cmp, gtrid_cmp, gtrid_eq}
use Rattle.xa_model.specs.Facts.Distinct.{ApartRows}
use Rattle.xa_model.specs.Facts.{how_in, lists_row}
use Rattle.xa_model.specs.Trace.{Origin, Trace.From}
use Rattle.xa_base.specs.declared.branch.Branch.{Branch}
use Rattle.xa_base.specs.declared.branch.Gtrid.{Gtrid}
use Rattle.xa_base.specs.declared.code.How.{How}
use Rattle.xa_base.proofs.BranchOrder.{branches_total, gtrids_total}
use Rattle.xa_base.proofs.BranchKeys.{gtrid_eq-true}
use Rattle.xa_base.proofs.Orders.{less_differs}
use Rattle.xa_log.specs.KeySet.{from_list}
use Rattle.xa_log.specs.Starting.{ascends, ascends_behind, is_behind}
use Rattle.xa_tm.specs.Begins.{records_listed, rows_listed}
use Rattle.xa_tm.specs.Book.{Waiting, book_of, row_in}
use Rattle.xa_tm.specs.Starting.{ended_among, loaded, run_of, start_book}
use Rattle.xa_tm.proofs.History.OneMore.{book_is}
use Rattle.xa_tm.proofs.History.Starts.{end_found}
use Rattle.xa_tm.proofs.History.LoadedRows.{ended_is}

-- ** order

is_less : (o : Ordering) → is_lt o ≡ true → o ≡ Less
is_less Less e = refl
is_less Equal e = absurd cc
is_less Greater e = absurd cc

-- what ascends after an item stands after it
behind_all : {X : Type 0} {R : X → X → Ordering} → IsTotalOrder R → (p : X) (xs : List X) → ascends_behind R (Some p) xs ≡ true
    → AllByRecursion (λ x. R p x ≡ Less) xs
behind_all total p [] up = tt
behind_all {R = R} total p (x ∷ xs) up =
    let parts = and_parts (is_behind R (Some p) x) (ascends_behind R (Some x) xs) up in
    let low = is_less (R p x) parts.0 in
    (low, further xs (behind_all total x xs parts.1))
  where
    further : (ys : List _) → AllByRecursion (λ y. R x y ≡ Less) ys → AllByRecursion (λ y. R p y ≡ Less) ys
    further [] all = tt
    further (y ∷ ys) all =
        (total.trans p x y (is_less (R p x) (and_parts (is_behind R (Some p) x) (ascends_behind R (Some x) xs) up).0) all.0, further ys all.1)

sorted_behind : {X : Type 0} {R : X → X → Ordering} → IsTotalOrder R → (p : Option X) (xs : List X) → ascends_behind R p xs ≡ true → IsStrictlySortedBy R xs
unfolding IsStrictlySortedBy
sorted_behind total p [] up = tt
sorted_behind {R = R} total p (x ∷ xs) up =
    let parts = and_parts (is_behind R p x) (ascends_behind R (Some x) xs) up in
    (behind_all total x xs parts.1, sorted_behind total (Some x) xs parts.1)

-- ** rows

none_loaded : (g : Gtrid) (gs : List Gtrid) (bs : List Branch) → AllByRecursion (λ h. gtrid_cmp g h ≡ Less) gs → loaded gs bs g ≡ None
none_loaded g [] bs low = refl
none_loaded g (h ∷ gs) bs low =
    (λ i. option_or (none_loaded g gs (drop (length (run_of h bs)) bs) low.1 i) (if less_differs g h low.0 i then Some (from_list (run_of h bs)) else None))

rows_loaded : (gs : List Gtrid) (bs : List Branch) → IsStrictlySortedBy gtrid_cmp gs → (q : Gtrid) → row_in (rows_listed gs bs) q ≡ loaded gs bs q
unfolding IsStrictlySortedBy
rows_loaded [] bs up q = refl
rows_loaded (g ∷ gs) bs up q =
    ap (λ o. if gtrid_eq g q then Some (from_list (run_of g bs)) else o) (rows_loaded gs (drop (length (run_of g bs)) bs) up.1 q) ∙ by (gtrid_eq g q) refl
  where
    by : (t : Bool) → gtrid_eq g q ≡ t
        → (if t then Some (from_list {R = branch_cmp} (run_of g bs)) else loaded gs (drop (length (run_of g bs)) bs) q)
        ≡ option_or (loaded gs (drop (length (run_of g bs)) bs) q) (if t then Some (from_list {R = branch_cmp} (run_of g bs)) else None)
    by true same =
        sym (ap (λ o. option_or o (Some (from_list {R = branch_cmp} (run_of g bs))))
        (ap (loaded gs (drop (length (run_of g bs)) bs)) (sym (gtrid_eq-true g q same)) ∙ none_loaded g gs (drop (length (run_of g bs)) bs) up.0))
    by false other = or_none (loaded gs (drop (length (run_of g bs)) bs) q)
      where
        or_none : (o : Option Waiting) → o ≡ option_or o None
        or_none None = refl
        or_none (Some w) = refl

rows_counted : (gs : List Gtrid) (bs : List Branch) → length (rows_listed gs bs) ≡ length gs
rows_counted [] bs = refl
rows_counted (g ∷ gs) bs = ap suc (rows_counted gs (drop (length (run_of g bs)) bs))

none_listed : (g : Gtrid) (gs : List Gtrid) (bs : List Branch) → AllByRecursion (λ h. gtrid_cmp g h ≡ Less) gs → lists_row (rows_listed gs bs) g ≡ false
none_listed g [] bs low = refl
none_listed g (h ∷ gs) bs low =
    ap (λ t. t || lists_row (rows_listed gs (drop (length (run_of h bs)) bs)) g) (less_differs g h low.0)
    ∙ none_listed g gs (drop (length (run_of h bs)) bs) low.1

rows_apart : (gs : List Gtrid) (bs : List Branch) → IsStrictlySortedBy gtrid_cmp gs → ApartRows (rows_listed gs bs)
unfolding IsStrictlySortedBy
rows_apart [] bs up = tt
rows_apart (g ∷ gs) bs up = (none_listed g gs (drop (length (run_of g bs)) bs) up.0, rows_apart gs (drop (length (run_of g bs)) bs) up.1)

pub begun_apart : (gs : List Gtrid) (bs : List Branch) → ascends gtrid_cmp gs ≡ true → ApartRows (rows_listed gs bs)
begun_apart gs bs up = rows_apart gs bs (sorted_behind gtrids_total None gs up)

-- ** the book

pub begun_book : (t r i : ℕ) (gs : List Gtrid) (bs : List Branch) (hs : List (Branch × How)) (o : Origin)
    → ascends gtrid_cmp gs ≡ true → ascends branch_cmp (map (λ (e : Branch × How). e.0) hs) ≡ true
    → o.threads ≡ t → o.rms ≡ r → o.incarnation ≡ i → o.rows ≡ rows_listed gs bs → o.heuristic_rows ≡ records_listed hs
    → start_book t r i (loaded gs bs) (length gs) (ended_among hs) (length hs) ≡ book_of (From o)
begun_book t r i gs bs hs o up ends_up threads rms incarnation rows records =
    book_is _ _ (sym threads) (sym rms) refl (sym incarnation) refl refl refl (λ g. refl) (λ b. refl) refl (λ m. refl)
    (λ g. sym (rows_loaded gs bs (sorted_behind gtrids_total None gs up) g) ∙ ap (λ xs. row_in xs g) (sym rows))
    (sym (rows_counted gs bs) ∙ ap length (sym rows))
    (λ b. ended_is hs (sorted_behind branches_total None (map (λ (e : Branch × How). e.0) hs) ends_up) b ∙ sym (end_found hs b) ∙ ap
    (λ xs. how_in xs b) (sym records))
    (sym (length-map hs (λ (e : Branch × How). record { branch = e.0; how = e.1 })) ∙ ap length (sym records)) refl
