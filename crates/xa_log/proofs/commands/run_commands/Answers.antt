use Rattle.std.proofs.Common.{◌<◌, ◌≤◌, arith, length, [], ◌∷◌, ◌++◌, ◌+◌, refl, subst, sym, ap, inl, inr, Result, Ok, Err, IfErr, IsErrAnd, ◌∙◌}
use Rattle.xa_log.specs.Commands.{EndsBy}
use Rattle.xa_log.specs.Contract.{one_more_fault}
use Rattle.xa_log.proofs.InTurn.{HasRun, left, not_run, one_more, stopped, whole}
use Rattle.xa_log.proofs.Parts.{on_err}
use Rattle.xa_log.proofs.commands.run_commands.Goals as goal

pub loop-command-init : goal.loop-command-init
loop-command-init g c =
    subst (HasRun g.L.DecisionLog.moment c.args.log.now c.args.log.now []) (sym c.new-told.ensures.items) (not_run g.L.DecisionLog.moment c.args.log.now)

pub returns-in_err-run_one-clause-order : goal.returns-in_err-run_one-clause-order
returns-in_err-run_one-clause-order g c at_first = c.run_one.ensures.changes.order (c.loop-command.invariant.order at_first)

pub returns-in_err-run_one-clause-honest : goal.returns-in_err-run_one-clause-honest
returns-in_err-run_one-clause-honest g c clean = c.loop-command.invariant.honest (c.run_one.ensures.changes.honest clean)

pub returns-in_err-push-clause-order : goal.returns-in_err-push-clause-order
returns-in_err-push-clause-order g c at_first = c.run_one.ensures.changes.order (c.loop-command.invariant.order at_first)

pub returns-in_err-push-clause-honest : goal.returns-in_err-push-clause-honest
returns-in_err-push-clause-honest g c clean = c.loop-command.invariant.honest (c.run_one.ensures.changes.honest clean)

pub loop-command-preserved : goal.loop-command-preserved
loop-command-preserved g c =
    let low : c.loop-command.command-index < length c.args.commands.now = omega arith in
    one_more g.L.DecisionLog.moment c.args.log.now c.loop-command.log c.run_one.new.log c.args.commands.now c.loop-command.command-index c.command-item.result
    c.loop-command.told.items c.push.new.self.items c.in_ok-run_one.field-0 low c.command-item.is c.in_ok-push.ensures.items c.loop-command.invariant
    c.in_ok-run_one.ensures.changes c.in_ok-run_one.ensures.told

pub returns-clause-told : goal.returns-clause-told
returns-clause-told g c =
    let high : length c.args.commands.now ≤ c.loop-command.command-index = omega arith in
    (whole g.L.DecisionLog.moment c.args.log.now c.loop-command.log c.args.commands.now c.loop-command.command-index c.loop-command.told.items high
    c.loop-command.invariant).told

pub returns-clause-ok : goal.returns-clause-ok
returns-clause-ok g c =
    let high : length c.args.commands.now ≤ c.loop-command.command-index = omega arith in
    (whole g.L.DecisionLog.moment c.args.log.now c.loop-command.log c.args.commands.now c.loop-command.command-index c.loop-command.told.items high
    c.loop-command.invariant).made

pub returns-clause-order : goal.returns-clause-order
returns-clause-order g c = c.loop-command.invariant.order

pub returns-clause-honest : goal.returns-clause-honest
returns-clause-honest g c = c.loop-command.invariant.honest

pub returns-clause-faults : goal.returns-clause-faults
returns-clause-faults g c = c.loop-command.invariant.count

pub returns-in_err-run_one-clause-err : goal.returns-in_err-run_one-clause-err
returns-in_err-run_one-clause-err g c content order clean is =
    let low : c.loop-command.command-index < length c.args.commands.now = omega arith in
    on_err _ _ (stopped g.L.DecisionLog.moment c.args.log.now c.loop-command.log c.run_one.new.log c.args.commands.now c.loop-command.command-index
    c.command-item.result c.loop-command.told.items low c.command-item.is c.loop-command.invariant
    c.in_err-run_one.field-0.0 c.in_err-run_one.ensures.changes content order clean is)

pub returns-in_err-push-clause-err : goal.returns-in_err-push-clause-err
returns-in_err-push-clause-err g c content order clean is =
    let low : c.loop-command.command-index < length c.args.commands.now = omega arith in
    let answers = c.loop-command.told.items ++ c.in_ok-run_one.field-0 ∷ [] in
    let run =
    one_more g.L.DecisionLog.moment c.args.log.now c.loop-command.log c.run_one.new.log c.args.commands.now c.loop-command.command-index c.command-item.result
    c.loop-command.told.items answers c.in_ok-run_one.field-0 low c.command-item.is refl c.loop-command.invariant
    c.in_ok-run_one.ensures.changes c.in_ok-run_one.ensures.told in
    on_err _ _ (left g.L.DecisionLog.moment c.args.log.now c.run_one.new.log c.args.commands.now (c.loop-command.command-index + 1) answers run
    content order clean is)

-- what the exit of a `?` returns
passed_up : {A E : Type 0} {Q : E → Type 0} (P : E → Type 0) (r : Result A E) → IsErrAnd r Q → ((e : E) → Q e → P e) → IfErr r P
passed_up P (Ok x) is holds = tt
passed_up P (Err e) is holds = holds e is

pub returns-in_err-run_one-clause-cause : goal.returns-in_err-run_one-clause-cause
returns-in_err-run_one-clause-cause g c =
    let stops : EndsBy g.L.DecisionLog.says g.L.DecisionLog.moment c.args.commands.now c.args.log.now c.run_one.new.log c.in_err-run_one.field-0.0 = inl (
      record {
        place = c.loop-command.command-index;
        within = omega arith;
        call = c.command-item.result;
        is = c.command-item.is;
        before = c.loop-command.log;
        fails = c.in_err-run_one.ensures.cause;
      },
      c.in_err-run_one.ensures.changes.faults ∙ ap one_more_fault c.loop-command.invariant.count,
    ) in
    passed_up _ c.from_residual.result c.from_residual.ensures.1
    (λ e same. subst (EndsBy g.L.DecisionLog.says g.L.DecisionLog.moment c.args.commands.now c.args.log.now c.run_one.new.log) (sym same) stops)

pub returns-in_err-push-clause-cause : goal.returns-in_err-push-clause-cause
returns-in_err-push-clause-cause g c =
    passed_up _ c.from_residual-in_err-push.result c.from_residual-in_err-push.ensures.1
    (λ e refused. inr (refused, c.in_ok-run_one.ensures.changes.faults ∙ c.loop-command.invariant.count))
