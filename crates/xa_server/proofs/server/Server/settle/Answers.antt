use Rattle.std.proofs.Common.{[], ◌∷◌, refl}
use Rattle.xa_base.specs.declared.step.Outcome.TheVariants as Outcomes
use Rattle.xa_server.proofs.RowLemmas.{settled_up, told_rows}
use Rattle.xa_server.proofs.StandingLemmas.{book_on_ok}
use Rattle.xa_model.specs.Trace.{Happening.Decided}
use Rattle.xa_server.proofs.server.Server.settle.Goals as goal

pub returns-clause-performs : goal.returns-clause-performs
returns-clause-performs g c =
    record { result = c.settle-taken.result; does = c.settle-taken.ensures.settles; told = c.reply_of.ensures; rest = refl }

pub returns-clause-rows : goal.returns-clause-rows
returns-clause-rows g c =
    let call = c.settle-taken in
    let old = c.args.self.now.session in
    let did = call.ensures.settles in
    told_rows g.L.DecisionLog.moment old call.new.self (c.args.gtrid ∷ []) c.reply_of.result call.result c.reply_of.ensures
    (settled_up old c.args.gtrid call.result did.rules.allowed)
    (book_on_ok (Decided c.args.gtrid Outcomes.Commit ∷ []) old call.new.self call.result did.decided) call.ensures.keeps
