-- What a log in memory that fails by a plan does at each call.
use Rattle.std.specs.Prelude.{◌≡◌, Option, Some}
use Rattle.xa_log.specs.Content.{Content}
use Rattle.xa_log.specs.FailPlan.{calls_after, turn_of}
use Rattle.xa_log.specs.Memory.{RunsInMemory}
use Rattle.xa_log.specs.declared.decision_log.LogCall.{LogCall}
use Rattle.xa_log.specs.declared.fail_log.FailLog.{FailLog}
use Rattle.xa_log.specs.declared.fail_log.fail_plan.Turn.{Turn}
use Rattle.xa_log.specs.declared.fail_log.fail_plan.Turn.TheVariants.{Runs, FailsAfter, FailsBefore}
use Rattle.xa_log.specs.declared.log_fault.LogFault.{LogFault}
use Rattle.xa_log.specs.declared.log_fault.LogFault.TheVariants.{Store}
use Rattle.xa_log.specs.declared.mem_log.MemLog.{MemLog}

-- what a call does at its turn. One that is to fail after its change is made runs, and answers a failure whether or not it made the change
abbrev pub DoesAt : Turn → LogCall → (Content → Content) → MemLog → MemLog → Option LogFault → Type 0
DoesAt Runs call change old new fault = RunsInMemory call change old new fault
DoesAt FailsAfter call change old new fault = (fault ≡ Some Store) × ((own : Option LogFault) × RunsInMemory call change old new own)
DoesAt FailsBefore call change old new fault = (fault ≡ Some Store) × (new ≡ old)

-- the plan says which turn a call has, and counts it
pub record FollowsPlan (call : LogCall) (change : Content → Content) (old new : FailLog) (fault : Option LogFault) : Type 0 where
  pub turn : DoesAt (turn_of old.plan call old.calls) call change old.log new.log fault
  pub counted : new.calls ≡ calls_after old.plan call old.calls
  pub plan : new.plan ≡ old.plan
