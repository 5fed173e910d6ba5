use Rattle.std.proofs.Common.{sym}
use Rattle.xa_tm.proofs.History.HeardAnswers.{if_err}
use Rattle.uses.proofs.LogSwaps.{given_back}
use Rattle.uses.proofs.swaps.give_back.Goals as goal

pub returns-in-Some : goal.returns-in-Some
returns-in-Some g c =
    let took = c.take_log.ensures in
    let gave = c.give_log.ensures in
    given_back g.R.ResourceManager.look g.L.DecisionLog.moment _ _ c.in-Some.log
    c.take_log.result c.give_log.result c.agree.ensures.parts took.up took.taken took.out took.others (sym c.in-Some.is)
    (if_err c.give_log.result _ _ (λ e given. given.looks) gave.back) gave.only_up
    (if_err c.give_log.result _ _ (λ e given. given.other) gave.back)
