use Rattle.std.proofs.Common.{◌≡◌, ◌∙◌, None, Some, ap}
use Rattle.std.specs.Result.{result_ok}
use Rattle.xa_base.specs.Branch.{xid_of_branch}
use Rattle.xa_restore.proofs.DecisionLemmas.{spells}
use Rattle.xa_restore.proofs.decision_line.branch_named.Goals as goal

pub returns-in_err-ok : goal.returns-in_err-ok
returns-in_err-ok c = record {
  found = λ b fits is.
      let read = c.parse.ensures.spelled (xid_of_branch b) (spells b c.args.word.now is) in
      let there = c.ok.ensures.value ∙ ap result_ok read in
      let lacks : c.ok.result ≡ None = c.in_err-ok.was in
      cc;
}

pub returns : goal.returns
returns c = record {
  found = λ b fits is.
      let read = c.parse.ensures.spelled (xid_of_branch b) (spells b c.args.word.now is) in
      let there = c.ok.ensures.value ∙ ap result_ok read in
      let here : c.ok.result ≡ Some c.in_ok-ok.field-0 = c.in_ok-ok.was in
      c.branch-branch.ensures.inverse b fits (cc);
}
