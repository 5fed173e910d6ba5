use Rattle.std.proofs.Common.{◌≡◌, ◌++◌, map}
use Rattle.xa_base.specs.Xid.{Xid}
use Rattle.xa_base.specs.declared.state.Fate.{Fate}
use Rattle.xa_scenario.proofs.processes.add_names.Given as goal

abbrev pub invariant-loop-xid : goal.invariant-loop-xid
invariant-loop-xid l = l.names.items ≡ l.fn.names.items ++ map (λ (line : Xid × Fate). line.0) l.yielded
