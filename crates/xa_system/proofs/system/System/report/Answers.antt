use Rattle.std.proofs.Common.{◌<◌, ◌≤◌, arith, length, rules}
use Rattle.xa_system.specs.SystemView.{observes, trace_in}
use Rattle.xa_system.proofs.Histories.Report.{one_more, own_at, told, told_in_order}
use Rattle.xa_system.proofs.system.System.report.Goals as goal

pub loop-branch-preserved : goal.loop-branch-preserved
loop-branch-preserved g c =
    let see = observes g.R.ResourceManager.look g.L.DecisionLog.moment in
    let xs = c.deref-branch-items.result.now in
    let i = c.loop-branch.branch-index in
    let low : i < length xs = omega (arith, c.loop-branch-test.true) in
    let own =
    own_at _ _ c.self.inside c.self.invariant c.args.self.now c.self.view_is xs c.in_ok-branches.branches.items i _ c.deref-branch-items.ensures.value
    c.in_ok-branches.ensures.all low in
    record {
      listed =
          one_more (trace_in see.look c.args.self.now) xs i _ c.loop-branch.list.items _ c.xid-xid.result c.fate-fate.result low c.loop-branch.invariant.listed
          c.push_reserved.ensures.items c.xid-xid.ensures (c.fate-fate.ensures.own _ own c.xid-xid.ensures);
      room = search rules;
      count = search rules;
    }

pub returns-clause-in_order : goal.returns-clause-in_order
returns-clause-in_order g c =
    let see = observes g.R.ResourceManager.look g.L.DecisionLog.moment in
    let xs = c.deref-branch-items.result.now in
    let i = c.loop-branch.branch-index in
    let past : length xs ≤ i = omega (arith, c.loop-branch-test.false) in
    told_in_order _ _ c.self.inside c.self.invariant c.args.self.now c.self.view_is xs c.in_ok-branches.branches.items i c.loop-branch.list.items
    c.deref-branch-items.ensures.value c.in_ok-branches.ensures.all c.in_ok-branches.ensures.in_order (past, c.loop-branch.invariant.listed)

pub returns-clause-listed : goal.returns-clause-listed
returns-clause-listed g c =
    let see = observes g.R.ResourceManager.look g.L.DecisionLog.moment in
    let xs = c.deref-branch-items.result.now in
    let i = c.loop-branch.branch-index in
    let past : length xs ≤ i = omega (arith, c.loop-branch-test.false) in
    told _ _ c.self.inside c.self.invariant c.args.self.now c.self.view_is xs c.in_ok-branches.branches.items i c.loop-branch.list.items
    c.deref-branch-items.ensures.value c.in_ok-branches.ensures.all (past, c.loop-branch.invariant.listed)
