-- What a plan of failures says of a log's calls.
use Rattle.std.specs.Prelude.{ℕ, ◌+◌, ◌-◌, ◌^◌, ◌==◌, min, Bool, true, false, if◌then◌else◌}
use Rattle.xa_log.specs.declared.fail_log.fail_plan.FailPlan.{FailPlan}
use Rattle.xa_log.specs.declared.fail_log.fail_plan.FailPlan.TheVariants.{Once, Every}
use Rattle.xa_log.specs.declared.decision_log.LogCall.{LogCall}
use Rattle.xa_log.specs.declared.decision_log.LogCall.TheVariants.{Commit, Contains, Participants, Done, NoteHeuristic, HeuristicOf, Bump, Rows}
use Rattle.xa_log.specs.declared.fail_log.fail_plan.Turn.{Turn}
use Rattle.xa_log.specs.declared.fail_log.fail_plan.Turn.TheVariants.{Runs, FailsAfter, FailsBefore}

-- whether two calls are of one kind
abbrev pub is_of_kind : LogCall → LogCall → Bool
is_of_kind Commit Commit = true
is_of_kind Contains Contains = true
is_of_kind Participants Participants = true
is_of_kind Done Done = true
is_of_kind NoteHeuristic NoteHeuristic = true
is_of_kind HeuristicOf HeuristicOf = true
is_of_kind Bump Bump = true
is_of_kind Rows Rows = true
is_of_kind kind call = false

-- how many calls of its one kind a plan has counted after a call, up to the greatest number
abbrev pub calls_after : FailPlan → LogCall → ℕ → ℕ
calls_after (Every kind) call n = n
calls_after (Once kind at made) call n = if is_of_kind kind call then min (n + 1) (2 ^ 64 - 1) else n

-- what a call does, where a plan has counted n calls before it
abbrev pub turn_of : FailPlan → LogCall → ℕ → Turn
turn_of (Every kind) call n = if is_of_kind kind call then FailsBefore else Runs
turn_of (Once kind at made) call n =
    if is_of_kind kind call then
    (if calls_after (Once kind at made) call n == at then (if made then FailsAfter else FailsBefore) else Runs)
    else Runs
