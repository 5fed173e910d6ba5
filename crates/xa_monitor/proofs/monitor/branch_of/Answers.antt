use Rattle.std.proofs.Common.{◌≡◌, rules, Some, None, ap, sym, ◌∙◌}
use Rattle.std.specs.Option.{option_and_then}
use Rattle.xa_base.specs.Branch.{branch_of_xid}
use Rattle.xa_base.specs.Call.{xid_in}
use Rattle.xa_monitor.proofs.monitor.branch_of.Goals as goal

pub returns-in_err-xid : goal.returns-in_err-xid
returns-in_err-xid c =
    let none : xid_in c.args.call.now ≡ None = search rules in
    let gives : c.from_residual.result ≡ None = search rules in
    gives ∙ sym (ap (option_and_then branch_of_xid) none)

pub returns : goal.returns
returns c =
    let some : xid_in c.args.call.now ≡ Some c.in_ok-xid.field-0.now = search rules in
    c.branch-branch.ensures.branch ∙ sym (ap (option_and_then branch_of_xid) some)
