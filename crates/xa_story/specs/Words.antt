-- The names that XA and the protocol give to calls, codes and votes, as a story has them.
use Rattle.std.specs.Prelude.{List, length, codes, ℕ, true}
use Rattle.std.specs.Fmt.{decimal}
use Rattle.xa_base.specs.Call.{kind_name, kind_of}
use Rattle.xa_base.specs.Xid.{Xid}
use Rattle.xa_base.specs.declared.answer.Answer.{Answer}
use Rattle.xa_base.specs.declared.answer.Answer.TheVariants.{Ret, Page}
use Rattle.xa_base.specs.declared.call.Call.{Call}
use Rattle.xa_base.specs.declared.call.Call.TheVariants as calls
use Rattle.xa_base.specs.declared.code.Code.{Code}
use Rattle.xa_base.specs.declared.code.Code.TheVariants as returned
use Rattle.xa_base.specs.declared.code.How.{How}
use Rattle.xa_base.specs.declared.code.How.TheVariants as hows
use Rattle.xa_base.specs.declared.code.RbCode.{RbCode}
use Rattle.xa_base.specs.declared.code.RbCode.TheVariants as rb
use Rattle.xa_base.specs.declared.state.Standing.{Standing}
use Rattle.xa_base.specs.declared.state.Standing.TheVariants as standings
use Rattle.xa_base.specs.declared.vote.Vote.{Vote}
use Rattle.xa_base.specs.declared.vote.Vote.TheVariants as votes

-- a call, with those flags of it that change what it does
abbrev pub call_name_with_flags : Call Xid → List ℕ
call_name_with_flags (calls.Start xid true) = codes "xa_start(TMJOIN)"
call_name_with_flags (calls.End xid true) = codes "xa_end(TMFAIL)"
call_name_with_flags (calls.Commit xid true) = codes "xa_commit(TMONEPHASE)"
call_name_with_flags call = kind_name (kind_of call)

abbrev pub rb_name : RbCode → List ℕ
rb_name rb.Rollback = codes "XA_RBROLLBACK"
rb_name rb.CommFail = codes "XA_RBCOMMFAIL"
rb_name rb.Deadlock = codes "XA_RBDEADLOCK"
rb_name rb.Integrity = codes "XA_RBINTEGRITY"
rb_name rb.Other = codes "XA_RBOTHER"
rb_name rb.Proto = codes "XA_RBPROTO"
rb_name rb.Timeout = codes "XA_RBTIMEOUT"
rb_name rb.Transient = codes "XA_RBTRANSIENT"

abbrev pub how_name : How → List ℕ
how_name hows.Com = codes "XA_HEURCOM"
how_name hows.Rb = codes "XA_HEURRB"
how_name hows.Mix = codes "XA_HEURMIX"
how_name hows.Haz = codes "XA_HEURHAZ"

abbrev pub code_name : Code → List ℕ
code_name (returned.RolledBack code) = rb_name code
code_name (returned.Heuristic how) = how_name how
code_name returned.Retry = codes "XA_RETRY"
code_name returned.ReadOnly = codes "XA_RDONLY"
code_name returned.Success = codes "XA_OK"
code_name returned.RmError = codes "XAER_RMERR"
code_name returned.NotAnXid = codes "XAER_NOTA"
code_name returned.Invalid = codes "XAER_INVAL"
code_name returned.Protocol = codes "XAER_PROTO"
code_name returned.RmFailed = codes "XAER_RMFAIL"
code_name returned.DuplicateXid = codes "XAER_DUPID"

-- an answer: a code, or how many branches are listed
abbrev pub answer_name : Answer Xid → List ℕ
answer_name (Ret code) = code_name code
answer_name (Page xids) = decimal (length xids)

-- how a resource manager is to vote
abbrev pub vote_text : Vote → List ℕ
vote_text votes.Yes = codes "yes (XA_OK)"
vote_text votes.ReadOnly = codes "read-only (XA_RDONLY)"
vote_text (votes.No code) = rb_name code

-- where a branch stands
abbrev pub standing_text : Standing → List ℕ
standing_text standings.Unstarted = codes "not started"
standing_text standings.Active = codes "active"
standing_text standings.Idle = codes "idle"
standing_text standings.Prepared = codes "prepared"
standing_text standings.RollbackOnly = codes "rollback-only"
standing_text (standings.Completed hows.Com) = codes "committed by the rm itself"
standing_text (standings.Completed hows.Rb) = codes "rolled back by the rm itself"
standing_text (standings.Completed hows.Mix) = codes "ended in part by the rm itself"
standing_text (standings.Completed hows.Haz) = codes "perhaps ended by the rm itself"
standing_text standings.Committed = codes "committed"
standing_text standings.RolledBack = codes "rolled back"
standing_text standings.Lost = codes "lost"
standing_text standings.ReadOnly = codes "over, read only"
standing_text (standings.Forgotten how) = codes "forgotten"
