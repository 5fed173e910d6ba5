use Rattle.std.proofs.Common.{◌≡◌, map, take}
use Rattle.xa_commands.proofs.rm_names.with_one_more.Given as goal

abbrev pub invariant-loop-name : goal.invariant-loop-name
invariant-loop-name l = map (λ name. name.now) l.all.items ≡ map (λ name. name.now) (take l.name-index l.names)
