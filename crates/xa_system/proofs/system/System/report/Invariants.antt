use Rattle.std.proofs.Common.{◌≡◌, ◌≤◌, length, map, take}
use Rattle.std.specs.Prelude.{vec_len}
use Rattle.std.specs.Vec.{vec_capacity}
use Rattle.xa_system.specs.SystemView.{trace_in}
use Rattle.xa_system.proofs.Histories.Report.{reported}
use Rattle.xa_system.proofs.system.System.report.Given as goal

-- the branches so far are listed, and the rest has room
abbrev pub invariant-loop-branch : goal.invariant-loop-branch
invariant-loop-branch g l = record {
  listed : l.list.items ≡ map (reported (trace_in g.R.ResourceManager.look l.self))
      (take l.branch-index l.branch-items);
  room : length l.branch-items ≤ vec_capacity l.list;
  count : vec_len l.list ≡ l.branch-index;
}
