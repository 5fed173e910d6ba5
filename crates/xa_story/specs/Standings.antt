-- Where an answer takes a branch: by the branch state table.
use Rattle.std.specs.Prelude.{None, Some}
use Rattle.xa_base.specs.StateTable.{asks_of, moved}
use Rattle.xa_base.specs.Xid.{Xid}
use Rattle.xa_base.specs.declared.call.Call.{Call}
use Rattle.xa_base.specs.declared.code.Code.{Code}
use Rattle.xa_base.specs.declared.code.Code.TheVariants as codes
use Rattle.xa_base.specs.declared.state.Standing.{Standing}
use Rattle.xa_base.specs.declared.state.Standing.TheVariants.{Committed}

-- a branch that stood there, after a call on it was answered so
abbrev pub standing_after_answer : Standing → Call Xid → Code → Standing
standing_after_answer f call a = elim (asks_of call) [ None ↦ f | Some (kind, x) ↦ moved f kind a ]

-- after an xa_commit
abbrev pub committed_or : Standing → Code → Standing
committed_or otherwise codes.Success = Committed
committed_or otherwise code = otherwise
