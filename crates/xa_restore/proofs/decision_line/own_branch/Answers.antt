use Rattle.std.proofs.Common.{◌≡◌, None, Some}
use Rattle.std.proofs.lemmas.Grind.{common_steps}
use Rattle.std.proofs.Common.{arith}
use Rattle.xa_restore.proofs.DecisionLemmas.{named_before, other_gtrid}
use Rattle.xa_restore.proofs.decision_line.own_branch.Goals as goal
use Rattle.xa_restore.proofs.decision_line.own_branch.Goals.{then-ne-via-then-ne, then-ne-via-else-ne+then-contains}

pub returns-in_err-branch : goal.returns-in_err-branch
returns-in_err-branch c = record {
  own = grind (arith, common_steps);
  once = grind (arith, common_steps);
  found = λ b fits own once is.
      let named = c.branch_named.ensures.found b fits is in
      let lacks : c.branch_named.result ≡ None = c.in_err-branch.was in
      cc;
}

pub returns-then-ne-clause-found : goal.returns-then-ne-clause-found
returns-then-ne-clause-found c = λ b fits own once is.
    let named = c.branch_named.ensures.found b fits is in
    let here : c.branch_named.result ≡ Some c.in_ok-branch.branch = c.in_ok-branch.was in
    let same : c.in_ok-branch.branch ≡ b = cc in
    elim c.then-ne.branch [
      | then-ne-via-then-ne w ↦ absurd (other_gtrid c.in_ok-branch.branch b c.args.gtrid same own w.if-ne.ensures)
      | then-ne-via-else-ne+then-contains w ↦ absurd (named_before c.args.earlier.now c.in_ok-branch.branch b same once w.if-contains.ensures.cases)
    ]
