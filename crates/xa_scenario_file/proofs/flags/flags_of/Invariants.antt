use Rattle.std.proofs.Common.{◌≡◌, length}
use Rattle.toml.specs.View.{items_view}
use Rattle.xa_scenario_file.specs.Flags.{flags_of}
use Rattle.xa_scenario_file.proofs.FlagLemmas.{with_flags}
use Rattle.xa_scenario_file.proofs.flags.flags_of.Given as goal

abbrev pub invariant-items : goal.invariant-items
invariant-items l = with_flags l.flags (flags_of (items_view l.rest)) ≡ flags_of (items_view l.items)

abbrev pub decreases-items : goal.decreases-items
decreases-items l = length l.rest
