use Rattle.std.proofs.Common.{◌≡◌, drop, map, string_bytes}
use Rattle.toml.specs.View.{items_view}
use Rattle.xa_scenario_file.specs.Files.{names_with}
use Rattle.xa_scenario_file.proofs.document.add_names.Given as goal

abbrev pub invariant-loop-value : goal.invariant-loop-value
invariant-loop-value l =
    names_with (map string_bytes l.names.items) (items_view (drop l.value-index l.items))
    ≡ names_with (map string_bytes l.fn.names.items) (items_view l.items)
