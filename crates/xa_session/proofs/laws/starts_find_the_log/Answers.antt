use Rattle.xa_session.proofs.FailedAnswers.{answer_found}
use Rattle.xa_session.proofs.FailedSteps.{decisions_found, done_found, settlement_found}
use Rattle.xa_session.proofs.NextStarts.{finds_the_log}
use Rattle.xa_session.proofs.laws.starts_find_the_log.Goals as goal

pub returns : goal.returns
returns g c = record {
  left = λ o seen s content next keeps tied raised. finds_the_log o seen s content next keeps tied raised;
  decision = λ o seen s outcome ts keeps none. decisions_found s outcome ts none o seen keeps;
  settlement = λ o seen s t keeps none voted. settlement_found s t none voted o seen keeps;
  done = λ o seen s ts keeps none. done_found s ts none o seen keeps;
  answer = λ o seen s t r answer call keeps fit first. answer_found o seen s t r answer call keeps fit first;
}
