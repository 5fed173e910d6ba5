use Rattle.std.proofs.Common.{◌∙◌, sym, arith}
use Rattle.xa_requests.proofs.DecisionLemmas.{decided}
use Rattle.xa_requests.proofs.decisions.decide_request.Goals as goal

pub returns : goal.returns
returns c =
    decided c.args.words.now _ c.in-Some-2.gtrids c.in-Some.outcome (omega arith) (sym c.in-Some-2.is ∙ c.in_ok-gtrids.ensures) c.in-Some.ensures
