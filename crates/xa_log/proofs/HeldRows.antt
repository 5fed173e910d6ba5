-- What a log in memory holds, by its collections.
use Rattle.std.proofs.Common.{◌≡◌, List, [], ◌∷◌, map, Bool, true, false, cond, Option, Some, None, is_some, refl, sym, ap, ◌∙◌}
use Rattle.std.specs.Ordering.{eq_by_cmp}
use Rattle.std.specs.Option.{option_map}
use Rattle.std.specs.Map.{lookup}
use Rattle.std.specs.Set.{is_member}
use Rattle.std.specs.BTreeMap.{BTreeMap, is_at}
use Rattle.std.specs.BTreeMap as tree
use Rattle.std.specs.BTreeSet.{BTreeSet}
use Rattle.std.specs.BTreeSet as sorted
use Rattle.std.specs.FinMap.{get, find, insert, remove, get-from_entries, get-insert, get-remove, same_map}
use Rattle.xa_log.specs.KeySet.{KeySet, from_list}
use Rattle.xa_log.specs.KeySet.{same_set, contains-from_list}
use Rattle.std.proofs.lemmas.Cmp.{eq_by_cmp_equiv}
use Rattle.xa_base.specs.declared.branch.Gtrid.{Gtrid}
use Rattle.xa_base.specs.declared.branch.Branch.{Branch}
use Rattle.xa_base.specs.declared.code.How.{How}
use Rattle.xa_base.specs.Branch.{gtrid_cmp, branch_cmp}
use Rattle.xa_base.proofs.BranchOrder.{gtrids_total, exact_gtrids, branches_total, exact_branches}
use Rattle.xa_log.specs.Memory.{row_held, decisions_in, heuristics_in}

abbrev pub Rows : Type 0
Rows = BTreeMap Gtrid (BTreeSet Branch)

abbrev pub set_of : BTreeSet Branch → KeySet branch_cmp
set_of set = from_list set.keys

-- ** the two maps, as look-ups

find_rows : (es : List (Gtrid × BTreeSet Branch)) (q : Gtrid) → find gtrid_cmp q (map row_held es) ≡ option_map set_of (lookup (is_at (gtrid_cmp q)) es)
find_rows [] q = refl
find_rows (e ∷ es) q = by (is_at (gtrid_cmp q) e.0) (find_rows es q)
  where
    by : (b : Bool) → find gtrid_cmp q (map row_held es) ≡ option_map set_of (lookup (is_at (gtrid_cmp q)) es)
        → cond b (Some (set_of e.1)) (find gtrid_cmp q (map row_held es)) ≡ option_map set_of (cond b (Some e.1) (lookup (is_at (gtrid_cmp q)) es))
    by true rest = refl
    by false rest = rest

pub get_decisions : (rows : Rows) (q : Gtrid) → get (decisions_in rows) q ≡ option_map set_of (tree.get gtrid_cmp rows q)
get_decisions rows q = get-from_entries gtrids_total (map row_held rows.entries) q ∙ find_rows rows.entries q

find_records : (es : List (Branch × How)) (q : Branch) → find branch_cmp q es ≡ lookup (is_at (branch_cmp q)) es
find_records [] q = refl
find_records (e ∷ es) q = ap (cond (is_at (branch_cmp q) e.0) (Some e.1)) (find_records es q)

pub get_heuristics : (rows : BTreeMap Branch How) (q : Branch) → get (heuristics_in rows) q ≡ tree.get branch_cmp rows q
get_heuristics rows q = get-from_entries branches_total rows.entries q ∙ find_records rows.entries q

some_mapped : {X Y : Type 0} (f : X → Y) (o : Option X) → is_some (option_map f o) ≡ is_some o
some_mapped f None = refl
some_mapped f (Some x) = refl

pub has_row : (rows : Rows) (q : Gtrid) → is_some (get (decisions_in rows) q) ≡ is_some (tree.get gtrid_cmp rows q)
has_row rows q = ap is_some (get_decisions rows q) ∙ some_mapped set_of (tree.get gtrid_cmp rows q)

pub has_record : (rows : BTreeMap Branch How) (q : Branch) → is_some (get (heuristics_in rows) q) ≡ is_some (tree.get branch_cmp rows q)
has_record rows q = ap is_some (get_heuristics rows q)

-- ** what each change does

mapped_if : {X Y : Type 0} (f : X → Y) (b : Bool) (x y : Option X) → option_map f (cond b x y) ≡ cond b (option_map f x) (option_map f y)
mapped_if f true x y = refl
mapped_if f false x y = refl

-- one entry of the map has become w
changed : (old new : Rows) (g : Gtrid) (w : Option (BTreeSet Branch))
    → ((q : Gtrid) → tree.get gtrid_cmp new q ≡ cond (is_at (gtrid_cmp g) q) w (tree.get gtrid_cmp old q))
    → (q : Gtrid) → get (decisions_in new) q ≡ cond (eq_by_cmp gtrid_cmp q g) (option_map set_of w) (get (decisions_in old) q)
changed old new g w h q =
    get_decisions new q ∙ ap (option_map set_of) (h q) ∙ mapped_if set_of (is_at (gtrid_cmp g) q) w (tree.get gtrid_cmp old q)
    ∙ ap (λ b. cond b (option_map set_of w) (option_map set_of (tree.get gtrid_cmp old q))) ((eq_by_cmp_equiv gtrids_total).symm g q)
    ∙ ap (cond (eq_by_cmp gtrid_cmp q g) (option_map set_of w)) (sym (get_decisions old q))

pub put_row : (old new : Rows) (g : Gtrid) (set : BTreeSet Branch)
    → ((q : Gtrid) → tree.get gtrid_cmp new q ≡ cond (is_at (gtrid_cmp g) q) (Some set) (tree.get gtrid_cmp old q))
    → decisions_in new ≡ insert (decisions_in old) g (set_of set)
put_row old new g set h =
    same_map gtrids_total exact_gtrids _ _ (λ q. changed old new g (Some set) h q ∙ sym (get-insert gtrids_total (decisions_in old) g (set_of set) q))

pub removed_row : (old new : Rows) (g : Gtrid) → ((q : Gtrid) → tree.get gtrid_cmp new q ≡ cond (is_at (gtrid_cmp g) q) None (tree.get gtrid_cmp old q))
    → decisions_in new ≡ remove (decisions_in old) g
removed_row old new g h = same_map gtrids_total exact_gtrids _ _ (λ q. changed old new g None h q ∙ sym (get-remove gtrids_total (decisions_in old) g q))

pub put_record : (old new : BTreeMap Branch How) (b : Branch) (how : How)
    → ((q : Branch) → tree.get branch_cmp new q ≡ cond (is_at (branch_cmp b) q) (Some how) (tree.get branch_cmp old q))
    → heuristics_in new ≡ insert (heuristics_in old) b how
put_record old new b how h = same_map branches_total exact_branches _ _ (λ q.
    get_heuristics new q ∙ h q ∙ ap (λ t. cond t (Some how) (tree.get branch_cmp old q)) ((eq_by_cmp_equiv branches_total).symm b q)
    ∙ ap (cond (eq_by_cmp branch_cmp q b) (Some how)) (sym (get_heuristics old q)) ∙ sym (get-insert branches_total (heuristics_in old) b how q))

-- ** sets of branches

-- a set that a list was collected into
pub collected_set : (list : List Branch) (set : BTreeSet Branch) → ((q : Branch) → sorted.contains branch_cmp set q ≡ is_member (eq_by_cmp branch_cmp) list q)
    → set_of set ≡ from_list list
collected_set list set h = same_set branches_total exact_branches _ _ (λ q.
    contains-from_list branches_total set.keys q ∙ h q ∙ sym (contains-from_list branches_total list q))
