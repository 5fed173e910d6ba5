use Rattle.std.proofs.Common.{◌≡◌, ◌++◌, take}
use Rattle.std.specs.String.{string_bytes}
use Rattle.xa_files.specs.Replies.{listed_xids}
use Rattle.xa_files.proofs.replies.push_xids.Given as goal

abbrev pub invariant-loop-xid : goal.invariant-loop-xid
invariant-loop-xid l = string_bytes l.text ≡ string_bytes l.fn.text ++ listed_xids (take l.xid-index l.xids)
