use Rattle.xa_line.proofs.TrafficLaws.{next_call_waits, next_answer_waits, as_many_calls, as_many_answers, line_renewed, line_goes_on}
use Rattle.xa_line.proofs.laws.traffic_as_in_histories.Goals as goal

pub returns-clause-front : goal.returns-clause-front
returns-clause-front c tr l t stands = next_call_waits tr l t stands

pub returns-clause-front_answer : goal.returns-clause-front_answer
returns-clause-front_answer c tr l t stands = next_answer_waits tr l t stands

pub returns-clause-calls : goal.returns-clause-calls
returns-clause-calls c tr l t stands = as_many_calls tr l t stands

pub returns-clause-answers : goal.returns-clause-answers
returns-clause-answers c tr l t stands = as_many_answers tr l t stands

pub returns-clause-renewed : goal.returns-clause-renewed
returns-clause-renewed c tr e l b = line_renewed tr e l b

pub returns-clause-goes_on : goal.returns-clause-goes_on
returns-clause-goes_on c tr e l old new stands b grown =
    let calls = grown.calls in
    let answers = grown.answers in
    let hearings = grown.hearings in
    line_goes_on tr e l old new calls.0 answers.0 hearings.0 stands b calls.1 calls.2 answers.1 answers.2 hearings.1 hearings.2
    grown.each_answered
