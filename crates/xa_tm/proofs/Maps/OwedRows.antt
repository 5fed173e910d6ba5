-- The branches that rows of earlier incarnations wait for, by the map of rows.
use Rattle.std.proofs.Common.{◌≡◌, ◌≤◌, ℕ, List, [], ◌∷◌, filter, Bool, true, false, ◌&&◌, ◌||◌, cond, Option, Some, None, Less, is_eq, refl, sym, ap, ◌∙◌}
use Rattle.std.specs.Prelude.{nat_eq, nat_lt, unwrap_or}
use Rattle.std.specs.BTreeMap.{IsOrdered, get, is_at}
use Rattle.std.specs.Global.{Vec}
use Rattle.std.specs.List.{AllByRecursion, list_any}
use Rattle.std.specs.List.Sorted.{IsStrictlySortedBy}
use Rattle.std.specs.Map.{keys_of, lookup}
use Rattle.std.specs.Option.{option_map}
use Rattle.std.specs.Ordering.{eq_by_cmp}
use Rattle.std.proofs.lemmas.Bool.{le-ltb, true≢false}
use Rattle.std.proofs.lemmas.Cmp.{eq_by_cmp_equiv}
use Rattle.xa_base.specs.Branch.{branch_cmp, gtrid_cmp, gtrid_eq}
use Rattle.xa_base.specs.declared.branch.Branch.{Branch}
use Rattle.xa_base.specs.declared.branch.Gtrid.{Gtrid}
use Rattle.xa_base.proofs.BranchKeys.{gtrid_eq-refl, gtrid_eq-true}
use Rattle.xa_base.proofs.BranchOrder.{branches_total, exact_gtrids, gtrids_total}
use Rattle.xa_base.proofs.Orders.{equal_is}
use Rattle.xa_log.specs.KeySet.{contains-from_list}
use Rattle.xa_tm.specs.Owed.{is_own_at, owes, waits_for}
use Rattle.xa_tm.specs.LedgerBook.{as_book, waiting_of}
use Rattle.xa_tm.specs.declared.ledger.Ledger.{Ledger}
use Rattle.xa_tm.proofs.History.OneMore.{any_filter}

-- ** a row

-- those of its branches that are at the resource manager
abbrev pub own_of : Gtrid → (rm : ℕ) → Option (Vec Branch) → List Branch
own_of g rm None = []
own_of g rm (Some waiting) = filter (is_own_at g rm) waiting.items

-- the row is of an earlier incarnation, and waits for the branch
abbrev pub row_owes : (incarnation rm : ℕ) → Branch → Gtrid × Option (Vec Branch) → Bool
row_owes i rm q e = nat_lt e.0.incarnation i && list_any (eq_by_cmp branch_cmp q) (own_of e.0 rm e.1)

abbrev pub any_owes : (incarnation rm : ℕ) → Branch → List (Gtrid × Option (Vec Branch)) → Bool
any_owes i rm q es = list_any (row_owes i rm q) es

-- it waits only for branches of its own
only_own : (i rm : ℕ) (q : Branch) (e : Gtrid × Option (Vec Branch)) → gtrid_eq q.gtrid e.0 ≡ false → row_owes i rm q e ≡ false
only_own i rm q (g, None) other = never (nat_lt g.incarnation i)
  where
    never : (t : Bool) → (t && false) ≡ false
    never true = refl
    never false = refl
only_own i rm q (g, Some waiting) other =
    ap (λ t. nat_lt g.incarnation i && t) (any_filter (is_own_at g rm) q waiting.items)
    ∙ ap (λ s. nat_lt g.incarnation i && ((s && nat_eq q.rm rm) && list_any (eq_by_cmp branch_cmp q) waiting.items)) other
    ∙ never (nat_lt g.incarnation i)
  where
    never : (t : Bool) → (t && false) ≡ false
    never true = refl
    never false = refl

-- a row that isn't of an earlier incarnation owes nothing
pub not_earlier : (i rm : ℕ) (q : Branch) (e : Gtrid × Option (Vec Branch)) (es : List (Gtrid × Option (Vec Branch))) → i ≤ e.0.incarnation
    → any_owes i rm q (e ∷ es) ≡ any_owes i rm q es
not_earlier i rm q e es late = ap (λ t. (t && list_any (eq_by_cmp branch_cmp q) (own_of e.0 rm e.1)) || any_owes i rm q es) (le-ltb e.0.incarnation i late)

-- ** the rows

-- a transaction before all of a list isn't among them
not_among : (x q : Gtrid) (es : List (Gtrid × Option (Vec Branch))) → q ≡ x → AllByRecursion (λ y. gtrid_cmp x y ≡ Less) (keys_of es)
    → lookup (is_at (gtrid_cmp q)) es ≡ None
not_among x q [] same below = refl
not_among x q (e ∷ es) same below =
    ap (λ b. cond b (Some e.1) (lookup (is_at (gtrid_cmp q)) es)) (ap (λ p. is_eq (gtrid_cmp p e.0)) same ∙ ap is_eq below.0)
    ∙ not_among x q es same below.1

-- what the row says that is found
abbrev found_owes : (i rm : ℕ) → Branch → Option (Option (Vec Branch)) → Bool
found_owes i rm q None = false
found_owes i rm q (Some row) = row_owes i rm q (q.gtrid, row)

-- whether a row waits for the branch, its own transaction's says
own_row : (i rm : ℕ) (q : Branch) (es : List (Gtrid × Option (Vec Branch))) → IsStrictlySortedBy gtrid_cmp (keys_of es)
    → any_owes i rm q es ≡ found_owes i rm q (lookup (is_at (gtrid_cmp q.gtrid)) es)
unfolding IsStrictlySortedBy
own_row i rm q [] up = refl
own_row i rm q (e ∷ es) up = by (is_at (gtrid_cmp q.gtrid) e.0) refl (own_row i rm q es up.1)
  where
    or_none : (t : Bool) → (t || false) ≡ t
    or_none true = refl
    or_none false = refl

    apart : (t : Bool) → is_at (gtrid_cmp q.gtrid) e.0 ≡ false → gtrid_eq q.gtrid e.0 ≡ t → gtrid_eq q.gtrid e.0 ≡ false
    apart false other is = is
    apart true other is =
        absurd (true≢false (sym ((eq_by_cmp_equiv gtrids_total).refl q.gtrid) ∙ ap (is_at (gtrid_cmp q.gtrid)) (gtrid_eq-true q.gtrid e.0 is) ∙ other))

    by : (t : Bool) → is_at (gtrid_cmp q.gtrid) e.0 ≡ t → any_owes i rm q es ≡ found_owes i rm q (lookup (is_at (gtrid_cmp q.gtrid)) es)
        → (row_owes i rm q e || any_owes i rm q es) ≡ found_owes i rm q (cond t (Some e.1) (lookup (is_at (gtrid_cmp q.gtrid)) es))
    by true same rest =
        let is : q.gtrid ≡ e.0 = exact_gtrids q.gtrid e.0 (equal_is _ same) in
        ap (λ t. row_owes i rm q e || t) (rest ∙ ap (found_owes i rm q) (not_among e.0 q.gtrid es is up.0)) ∙ or_none (row_owes i rm q e)
        ∙ ap (λ g. row_owes i rm q (g, e.1)) (sym is)
    by false other rest = ap (λ t. t || any_owes i rm q es) (only_own i rm q e (apart (gtrid_eq q.gtrid e.0) other refl)) ∙ rest

-- what is owed by the map is owed by the book
pub owed_is : (k : Ledger) (rm : ℕ) (q : Branch) → IsOrdered gtrid_cmp k.rows → any_owes k.incarnation rm q k.rows.entries ≡ owes (as_book k) rm q
owed_is k rm q up = own_row k.incarnation rm q k.rows.entries up ∙ by (get gtrid_cmp k.rows q.gtrid)
  where
    nothing : (s t : Bool) → false ≡ (s && (t && false))
    nothing true true = refl
    nothing true false = refl
    nothing false t = refl

    none : (s t : Bool) → (t && false) ≡ (s && (t && false))
    none true t = refl
    none false true = refl
    none false false = refl

    turned : (s t u : Bool) → (t && ((true && s) && u)) ≡ (s && (t && u))
    turned true t u = refl
    turned false true u = refl
    turned false false u = refl

    by : (o : Option (Option (Vec Branch)))
        → found_owes k.incarnation rm q o
        ≡ (nat_eq q.rm rm && (nat_lt q.gtrid.incarnation k.incarnation && waits_for (option_map waiting_of (unwrap_or o None)) q))
    by None = nothing (nat_eq q.rm rm) (nat_lt q.gtrid.incarnation k.incarnation)
    by (Some None) = none (nat_eq q.rm rm) (nat_lt q.gtrid.incarnation k.incarnation)
    by (Some (Some waiting)) =
        ap (λ t. nat_lt q.gtrid.incarnation k.incarnation && t) (any_filter (is_own_at q.gtrid rm) q waiting.items)
        ∙ ap (λ s. nat_lt q.gtrid.incarnation k.incarnation && ((s && nat_eq q.rm rm) && list_any (eq_by_cmp branch_cmp q) waiting.items))
        (gtrid_eq-refl q.gtrid)
        ∙ turned (nat_eq q.rm rm) (nat_lt q.gtrid.incarnation k.incarnation) (list_any (eq_by_cmp branch_cmp q) waiting.items)
        ∙ ap (λ t. nat_eq q.rm rm && (nat_lt q.gtrid.incarnation k.incarnation && t)) (sym (contains-from_list branches_total waiting.items q))
