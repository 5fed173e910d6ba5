use Rattle.std.proofs.Common.{rules, ap, ◌∙◌}
use Rattle.xa_base.specs.Branch.{branch_of_xid}
use Rattle.xa_conduct.proofs.PlainLemmas.{found_back, own_branch}
use Rattle.xa_conduct.specs.Plain.{is_own}
use Rattle.xa_conduct.proofs.plan.name_of.Goals as goal

pub returns-clause-own : goal.returns-clause-own
returns-clause-own c = ap is_own c.xid.ensures ∙ own_branch c.args.branch (search rules) (search rules) (search rules) (search rules)

pub returns-clause-found : goal.returns-clause-found
returns-clause-found c =
    ap branch_of_xid c.xid.ensures ∙ found_back c.args.branch (search rules) (search rules) (search rules) (search rules)
