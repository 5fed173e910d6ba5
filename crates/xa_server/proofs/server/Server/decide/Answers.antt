use Rattle.std.proofs.Common.{◌≡◌, map, refl, subst}
use Rattle.std.specs.Prelude.{OnOk}
use Rattle.xa_server.proofs.RowLemmas.{decide_up, told_rows}
use Rattle.xa_server.proofs.StandingLemmas.{book_on_ok}
use Rattle.xa_model.specs.Trace.{Happening.Decided}
use Rattle.xa_tm.specs.Book.{after_all}
use Rattle.xa_tm.specs.Calls.{book_in}
use Rattle.xa_server.proofs.server.Server.decide.Goals as goal

pub returns-clause-performs : goal.returns-clause-performs
returns-clause-performs g c =
    record { result = c.decide_all-taken.result; does = c.decide_all-taken.ensures.decides; told = c.reply_of.ensures; rest = refl }

pub returns-clause-rows : goal.returns-clause-rows
returns-clause-rows g c = λ commit.
    let call = c.decide_all-taken in
    let old = c.args.self.now.session in
    let gs = c.args.gtrids.now in
    let did = call.ensures.decides in
    told_rows g.L.DecisionLog.moment old call.new.self gs c.reply_of.result call.result c.reply_of.ensures
    (decide_up old gs c.args.outcome call.result did.rules.allowed)
    (subst (λ o. OnOk call.result (book_in call.new.self.manager ≡ after_all (book_in old.manager) (map (λ g. Decided g o) gs))) commit
    (book_on_ok (map (λ g. Decided g c.args.outcome) gs) old call.new.self call.result did.decided))
    call.ensures.keeps
