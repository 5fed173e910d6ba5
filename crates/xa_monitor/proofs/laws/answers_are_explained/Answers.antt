use Rattle.xa_monitor.proofs.Agreeing.{agreed, agreed_across}
use Rattle.xa_monitor.proofs.Choices.{chosen, gone_on}
use Rattle.xa_monitor.proofs.laws.answers_are_explained.Goals as goal

pub returns-clause-each : goal.returns-clause-each
returns-clause-each c o seen old keeps f may = chosen o seen old keeps f may

pub returns-clause-some : goal.returns-clause-some
returns-clause-some c o seen old keeps may = (chosen o seen old keeps (λ b. (may b).0) (λ b. (may b).1)).whole

pub returns-clause-across : goal.returns-clause-across
returns-clause-across c past o seen a r old keeps f may = gone_on past o seen a r old keeps f may

pub returns-clause-agree : goal.returns-clause-agree
returns-clause-agree c o seen old keeps f so = agreed o seen old keeps f so

pub returns-clause-agree_across : goal.returns-clause-agree_across
returns-clause-agree_across c past o seen a r old keeps known f so = agreed_across past o seen a r old keeps known f so
