use Rattle.std.proofs.Common.{ap, ◌∙◌}
use Rattle.std.specs.BTreeMap.{get}
use Rattle.xa_base.specs.Branch.{branch_cmp}
use Rattle.xa_monitor.proofs.EntryLemmas.{kept_at, list_at, room_at, sure}
use Rattle.xa_monitor.specs.Rows.{page_row}
use Rattle.xa_monitor.proofs.entries.list.Goals as goal

pub returns-clause-at : goal.returns-clause-at
returns-clause-at c =
    let m = c.args.branches.now in
    let b = c.in_Some-b.b in
    let put = sure (get branch_cmp m b) c.insert-done.result c.insert-done.ensures.updates c.insert-done.ensures.absent
    (room_at m c.args.xid.now b c.in_Some-b.ensures.branch c.requires) in
    list_at c.args.incarnation m c.insert-done.new.self c.args.xid.now b c.by_page-states.result c.in_Some-b.ensures.branch
    (c.by_page-states.ensures ∙ ap page_row c.states_at.ensures) put.0

pub returns-clause-kept : goal.returns-clause-kept
returns-clause-kept c =
    let m = c.args.branches.now in
    let b = c.in_Some-b.b in
    let put = sure (get branch_cmp m b) c.insert-done.result c.insert-done.ensures.updates c.insert-done.ensures.absent
    (room_at m c.args.xid.now b c.in_Some-b.ensures.branch c.requires) in
    kept_at m c.insert-done.new.self b c.by_page-states.result put.0
