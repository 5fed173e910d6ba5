use Rattle.std.proofs.Common.{arith, sym, ◌∙◌}
use Rattle.std.proofs.lemmas.Result.{IfOk-weaker, IfErr-weaker}
use Rattle.xa_sql_log.specs.contracts.sql_log.SqlLogDecisionLog.TheImpl as sql_log
use Rattle.uses.proofs.LogSwaps.{down_taken, found_left, held_honest}
use Rattle.uses.proofs.Results.{from_both_err}
use Rattle.uses.proofs.crash.restart_after_crash.Goals as goal
use Rattle.xa_log.proofs.Parts.{both_ok}

pub returns-in-Ok-clause-given : goal.returns-in-Ok-clause-given
returns-in-Ok-clause-given g c =
    let rm = g.R.ResourceManager in
    let logs = sql_log.ghosts g.row.S g.S.Alter g.S.Alter-dict g.S.Store g.S.Store-dict in
    let took = c.take_log.ensures in
    let found = c.in-Ok.ensures in
    let went_on = c.restart_over.ensures in
    from_both_err c.restart_over.result _ _ _
    (λ e given back order near honest.
    let left = found_left rm.look logs c.args.system.now c.take_log.new.self c.in-Some.log c.in-Ok.left
    c.take_log.result c.agree.ensures.parts took.up took.taken took.out took.was took.others c.in-Some.is found.honest found.order found.leaves
    order near (back honest) in
    given left.0 left.1 honest) went_on.given went_on.back

pub returns-in-Ok-clause-restarted : goal.returns-in-Ok-clause-restarted
returns-in-Ok-clause-restarted g c =
    let rm = g.R.ResourceManager in
    let logs = sql_log.ghosts g.row.S g.S.Alter g.S.Alter-dict g.S.Store g.S.Store-dict in
    let took = c.take_log.ensures in
    let found = c.in-Ok.ensures in
    let went_on = c.restart_over.ensures in
    both_ok c.restart_over.result _ _ _
    (λ reply restarted back order near honest count.
    let left = found_left rm.look logs c.args.system.now c.take_log.new.self c.in-Some.log c.in-Ok.left
    c.take_log.result c.agree.ensures.parts took.up took.taken took.out took.was took.others c.in-Some.is found.honest found.order found.leaves
    order near (back honest) in
    restarted left.0 left.1 honest (count ∙ sym found.faults) (omega (arith, found.faults))) went_on.restarted went_on.honest

pub returns-in-Ok-clause-back : goal.returns-in-Ok-clause-back
returns-in-Ok-clause-back g c =
    let rm = g.R.ResourceManager in
    let logs = sql_log.ghosts g.row.S g.S.Alter g.S.Alter-dict g.S.Store g.S.Store-dict in
    let took = c.take_log.ensures in
    let old = c.args.system.now in
    let log = c.in-Some.log in
    let some = sym c.in-Some.is in
    let down = down_taken rm.look logs old c.take_log.new.self log c.take_log.result took.up some in
    IfErr-weaker c.restart_over.result _ _
    (λ e back honest. held_honest rm.look logs old log (some ∙ took.taken down)
    (c.in-Ok.ensures.honest (back honest))) c.restart_over.ensures.back

pub returns-in-Ok-clause-honest : goal.returns-in-Ok-clause-honest
returns-in-Ok-clause-honest g c =
    let rm = g.R.ResourceManager in
    let logs = sql_log.ghosts g.row.S g.S.Alter g.S.Alter-dict g.S.Store g.S.Store-dict in
    let took = c.take_log.ensures in
    let old = c.args.system.now in
    let log = c.in-Some.log in
    let some = sym c.in-Some.is in
    let down = down_taken rm.look logs old c.take_log.new.self log c.take_log.result took.up some in
    IfOk-weaker c.restart_over.result _ _
    (λ reply was honest. held_honest rm.look logs old log (some ∙ took.taken down)
    (c.in-Ok.ensures.honest (was honest))) c.restart_over.ensures.honest
