-- Reading in turn, seen table by table.
use Rattle.std.proofs.Common.{◌≡◌, ◌∙◌, ℕ, zero, suc, ◌+◌, List, [], ◌∷◌, ◌++◌, Option, Some, None, refl, sym, ap, append_assoc, append-nil, arith}
use Rattle.toml.specs.Data.{Data, Items, no_items, item}
use Rattle.xa_files.proofs.TablesInTurnLemmas as listed
use Rattle.xa_files.proofs.TablesInTurnLemmas.{state_before}
use Rattle.xa_files.specs.TablesInTurn.{EachIsRead, FirstIsFaulty}
use Rattle.xa_scenario_file.specs.Branches.{BegunNames}
use Rattle.xa_scenario_file.specs.StepTables.{names_before, asked_at}
use Rattle.xa_scenario_file.specs.Scenarios.{name_in, names_after, entry_at, entries_from}

by_name : (begun : BegunNames) (name : Option (List ℕ)) (rest : BegunNames)
    → (elim name [ None ↦ begun | Some n ↦ begun ++ n ∷ [] ]) ++ rest ≡ begun ++ ((elim name [ None ↦ [] | Some n ↦ n ∷ [] ]) ++ rest)
by_name begun None rest = refl
by_name begun (Some n) rest = append_assoc begun (n ∷ []) rest

-- the names that are begun before a table
begun_before : (k : ℕ) (begun : BegunNames) (items : Items) → state_before names_after k begun items ≡ begun ++ names_before k items
begun_before zero begun items = sym (append-nil begun)
begun_before (suc k) begun no_items = sym (append-nil begun)
begun_before (suc k) begun (item value items) =
    begun_before k (names_after begun value) items ∙ by_name begun (name_in value) (names_before k items)

asked : (items : Items) (k : ℕ) (value : Data) → asked_at items k value ≡ entry_at (1 + k) (state_before names_after k [] items) value
asked items k value =
    let place : k + 1 ≡ 1 + k = omega arith in
    ap (λ n. entry_at n (names_before k items) value) place ∙ ap (λ names. entry_at (1 + k) names value) (sym (begun_before k [] items))

pub each_is_read : EachIsRead asked_at (entries_from 1 [])
unfolding entries_from
each_is_read =
    listed.each_is_read entry_at names_after entries_from (λ n begun. refl) (λ n begun value items. refl) asked_at [] asked

pub first_is_faulty : FirstIsFaulty asked_at (entries_from 1 [])
unfolding entries_from
first_is_faulty =
    listed.first_is_faulty entry_at names_after entries_from (λ n begun. refl) (λ n begun value items. refl) asked_at [] asked
