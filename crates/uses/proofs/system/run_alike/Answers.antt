use Rattle.uses.proofs.Alike.{at_end}
use Rattle.uses.proofs.system.run_alike.Goals as goal

pub returns-clause-alike : goal.returns-clause-alike
returns-clause-alike g c right = at_end _ _ (c.run.ensures.headline right)

pub returns-clause-resumed : goal.returns-clause-resumed
returns-clause-resumed g c past right resumes = at_end _ _ (c.run.ensures.resumed past right resumes)
