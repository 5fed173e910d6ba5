use Rattle.std.proofs.Common.{◌≡◌, ◌≤◌, ◌+◌, length, take}
use Rattle.xa_system.specs.declared.system.TheConstants.{EVENT_LIMIT}
use Rattle.xa_system.specs.KeptLog.{KeepsItsLog}
use Rattle.xa_system.specs.SystemView.{AddsSteps, observes, origin_in}
use Rattle.xa_system.proofs.system.System.run.Given as goal

-- the steps so far are done, and the rest has room
abbrev pub invariant-loop-step : goal.invariant-loop-step
invariant-loop-step g l = record {
  adds : AddsSteps (take l.step-index l.steps) l.fn.self.events l.self.events;
  room : length l.self.events + length l.steps ≤ EVENT_LIMIT + l.step-index;
  start : origin_in g.R.ResourceManager.look l.self ≡ origin_in g.R.ResourceManager.look l.fn.self;
  log : KeepsItsLog (observes g.R.ResourceManager.look g.L.DecisionLog.moment) l.fn.self l.self;
}
