use Rattle.std.proofs.Common.{◌≡◌, ◌+◌, drop, map, string_bytes}
use Rattle.toml.specs.View.{items_view}
use Rattle.xa_scenario_file.specs.Scenarios.{entries_from}
use Rattle.xa_scenario_file.proofs.EntryLemmas.{with_front}
use Rattle.xa_scenario_file.proofs.document.entries_of.Given as goal

abbrev pub invariant-loop-i : goal.invariant-loop-i
invariant-loop-i l =
    with_front l.entries.items (entries_from (l.i + 1) (map (λ name. name.now) l.begun.items) (items_view (drop l.i l.items)))
    ≡ entries_from 1 (map string_bytes l.names) (items_view l.items)
