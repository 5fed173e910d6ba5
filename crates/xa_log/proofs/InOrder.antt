-- A map or a set of a list in order is that list.
use Rattle.std.proofs.Common.{◌≡◌, List, [], ◌∷◌, ◌++◌, map, Some, None, unwrap_or, refl, sym, ap, subst, ◌∙◌}
use Rattle.std.specs.List.{flat_map}
use Rattle.std.specs.List.Sorted.{IsStrictlySortedBy}
use Rattle.std.specs.Map.{keys_of, values_of}
use Rattle.std.specs.Option.{option_map}
use Rattle.std.specs.BTreeMap.{BTreeMap}
use Rattle.std.specs.BTreeMap as tree
use Rattle.std.specs.BTreeSet.{BTreeSet}
use Rattle.std.specs.BTreeSet as sorted
use Rattle.std.specs.FinMap.{entries, get, keys}
use Rattle.xa_log.specs.KeySet.{items, empty}
use Rattle.std.proofs.lemmas.Map.Made.{keys_of-map_values}
use Rattle.xa_base.specs.declared.branch.Gtrid.{Gtrid}
use Rattle.xa_base.specs.declared.branch.Branch.{Branch}
use Rattle.xa_base.specs.declared.code.How.{How}
use Rattle.xa_base.specs.Branch.{gtrid_cmp, branch_cmp}
use Rattle.xa_base.proofs.BranchOrder.{gtrids_total, branches_total}
use Rattle.xa_log.specs.Content.{all_listed}
use Rattle.xa_log.specs.Memory.{row_held, decisions_in, heuristics_in}
use Rattle.xa_log.proofs.KeySets.{entries-from_entries, items-from_list}
use Rattle.xa_log.proofs.HeldRows.{Rows, set_of, get_decisions}

-- ** what a log in memory holds

sorted_rows : (rows : Rows) → tree.IsOrdered gtrid_cmp rows → IsStrictlySortedBy gtrid_cmp (keys_of (map row_held rows.entries))
sorted_rows rows up = subst (IsStrictlySortedBy gtrid_cmp) (sym (keys_of-map_values set_of rows.entries)) up

pub decisions_listed : (rows : Rows) → tree.IsOrdered gtrid_cmp rows → entries (decisions_in rows) ≡ map row_held rows.entries
decisions_listed rows up = entries-from_entries gtrids_total (map row_held rows.entries) (sorted_rows rows up)

pub decision_keys : (rows : Rows) → tree.IsOrdered gtrid_cmp rows → keys (decisions_in rows) ≡ keys_of rows.entries
decision_keys rows up = ap keys_of (decisions_listed rows up) ∙ keys_of-map_values set_of rows.entries

pub heuristics_listed : (rows : BTreeMap Branch How) → tree.IsOrdered branch_cmp rows → entries (heuristics_in rows) ≡ rows.entries
heuristics_listed rows up = entries-from_entries branches_total rows.entries up

-- the participants of one transaction
pub row_listed : (rows : Rows) (g : Gtrid) (set : BTreeSet Branch) → tree.get gtrid_cmp rows g ≡ Some set → sorted.IsOrdered branch_cmp set
    → set.keys ≡ items (unwrap_or (get (decisions_in rows) g) empty)
row_listed rows g set there up =
    sym (items-from_list branches_total set.keys up)
    ∙ ap (λ o. items (unwrap_or o empty)) (sym (get_decisions rows g ∙ ap (option_map set_of) there))

no_keys : IsStrictlySortedBy branch_cmp []
unfolding IsStrictlySortedBy
no_keys = tt

pub row_missing : (rows : Rows) (g : Gtrid) → tree.get gtrid_cmp rows g ≡ None → [] ≡ items (unwrap_or (get (decisions_in rows) g) empty)
row_missing rows g none =
    sym (items-from_list branches_total [] no_keys) ∙ ap (λ o. items (unwrap_or o empty)) (sym (get_decisions rows g ∙ ap (option_map set_of) none))

-- the participants of these sets, one set's after another's
abbrev pub listed_in : List (BTreeSet Branch) → List Branch
listed_in sets = flat_map (λ set. items (set_of set)) sets

rows_listed : (es : List (Gtrid × BTreeSet Branch)) → all_listed (map row_held es) ≡ listed_in (values_of es)
rows_listed [] = refl
rows_listed (e ∷ es) = ap (λ l. items (set_of e.1) ++ l) (rows_listed es)

pub participants_listed : (rows : Rows) → tree.IsOrdered gtrid_cmp rows → all_listed (entries (decisions_in rows)) ≡ listed_in (values_of rows.entries)
participants_listed rows up = ap all_listed (decisions_listed rows up) ∙ rows_listed rows.entries
