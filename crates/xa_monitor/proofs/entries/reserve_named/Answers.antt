use Rattle.std.proofs.Common.{None}
use Rattle.std.proofs.lemmas.Result.{on_ok_weaker}
use Rattle.xa_monitor.proofs.EntryLemmas.{named_room}
use Rattle.xa_monitor.proofs.entries.reserve_named.Goals as goal

pub returns-in_Some-b-clause-room : goal.returns-in_Some-b-clause-room
returns-in_Some-b-clause-room c = on_ok_weaker c.reserve.result (λ room. named_room c.reserve.new.branches c.args.xid.now _ c.in_Some-b.ensures.branch room)
    c.reserve.ensures.room

pub returns-in_None-b-clause-room : goal.returns-in_None-b-clause-room
returns-in_None-b-clause-room c = named_room c.args.branches.now c.args.xid.now None c.in_None-b.ensures.branch tt
