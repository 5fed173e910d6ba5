-- The entries read so far, together with those of the items that are left.
use Rattle.std.proofs.Common.{◌≡◌, ◌∙◌, ℕ, ◌+◌, ◌<◌, ◌≤◌, List, [], ◌∷◌, ◌++◌, length, get_or, drop, Some, None, Result, Ok, Err, refl, sym, ap, append_assoc, append-nil, drop_of_length-le}
use Rattle.toml.specs.Data.{Data, item}
use Rattle.toml.specs.View.{view, items_view}
use Rattle.toml.specs.declared.value.Value.{Value}
use Rattle.toml.proofs.Views.{items_view-drop}
use Rattle.xa_scenario_file.specs.declared.entry.Entry.{Entry}
use Rattle.xa_files.specs.declared.fault.RunFault.{RunFault}
use Rattle.xa_scenario_file.specs.Branches.{BegunNames}
use Rattle.xa_scenario_file.specs.Scenarios.{entry_at, name_in, names_after, entries_from}
use Rattle.xa_files.specs.Reading.{◌>>=◌}

abbrev pub with_front : List Entry → Result (List Entry) RunFault → Result (List Entry) RunFault
with_front front read = read >>= λ others. Ok (front ++ others)

joined : (front : List Entry) (entry : Entry) (read : Result (List Entry) RunFault)
    → with_front front (read >>= λ others. Ok (entry ∷ others)) ≡ with_front (front ++ entry ∷ []) read
joined front entry (Ok others) = ap Ok (sym (append_assoc front (entry ∷ []) others))
joined front entry (Err e) = refl

-- an item in the list, and those after it
at_item : (front : List Entry) (number : ℕ) (begun : BegunNames) (vs : List Value) (i : ℕ) (v : Value) → i < length vs → v ≡ get_or vs i v
    → with_front front (entries_from number begun (items_view (drop i vs)))
    ≡ with_front front (entries_from number begun (item (view v) (items_view (drop (i + 1) vs))))
at_item front number begun vs i v within is =
    ap (λ ds. with_front front (entries_from number begun ds)) (items_view-drop vs i v within ∙ ap (λ w. item (view w) (items_view (drop (i + 1) vs))) (sym is))

pub goes_on : (front : List Entry) (entry : Entry) (number : ℕ) (begun : BegunNames) (vs : List Value) (i : ℕ) (v : Value) (all : Result (List Entry) RunFault)
    → i < length vs → v ≡ get_or vs i v → entry_at number begun (view v) ≡ Ok entry
    → with_front front (entries_from number begun (items_view (drop i vs))) ≡ all
    → with_front (front ++ entry ∷ []) (entries_from (number + 1) (names_after begun (view v)) (items_view (drop (i + 1) vs))) ≡ all
unfolding entries_from
goes_on front entry number begun vs i v all within is asked so_far =
    let others = entries_from (number + 1) (names_after begun (view v)) (items_view (drop (i + 1) vs)) in
    let step : entries_from number begun (item (view v) (items_view (drop (i + 1) vs))) ≡ (others >>= λ more. Ok (entry ∷ more)) = rw asked refl in
    sym (joined front entry others) ∙ ap (with_front front) (sym step) ∙ sym (at_item front number begun vs i v within is) ∙ so_far

pub stops : (front : List Entry) (fault : RunFault) (number : ℕ) (begun : BegunNames) (vs : List Value) (i : ℕ) (v : Value) (all : Result (List Entry) RunFault)
    → i < length vs → v ≡ get_or vs i v → entry_at number begun (view v) ≡ Err fault
    → with_front front (entries_from number begun (items_view (drop i vs))) ≡ all → all ≡ Err fault
unfolding entries_from
stops front fault number begun vs i v all within is asked so_far =
    let step : entries_from number begun (item (view v) (items_view (drop (i + 1) vs))) ≡ Err fault = rw asked refl in
    sym so_far ∙ at_item front number begun vs i v within is ∙ ap (with_front front) step

pub ends : (front : List Entry) (number : ℕ) (begun : BegunNames) (vs : List Value) (i : ℕ) (all : Result (List Entry) RunFault)
    → length vs ≤ i → with_front front (entries_from number begun (items_view (drop i vs))) ≡ all → all ≡ Ok front
unfolding entries_from
ends front number begun vs i all past so_far =
    sym so_far ∙ ap (λ ds. with_front front (entries_from number begun (items_view ds))) (drop_of_length-le vs past) ∙ ap Ok (append-nil front)

-- the names after a table that begins one, and after one that begins none
pub names_after-some : (begun : BegunNames) (value : Data) (name : List ℕ) → name_in value ≡ Some name → names_after begun value ≡ begun ++ name ∷ []
names_after-some begun value name is = rw (is, names_after) refl

pub names_after-none : (begun : BegunNames) (value : Data) → name_in value ≡ None → names_after begun value ≡ begun
names_after-none begun value is = rw (is, names_after) refl
