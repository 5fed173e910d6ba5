-- The branch state table: what a resource manager answers to a call on a branch, and where the
-- branch then stands. After XA, chapter 6, State Tables; the cells are this project's own.
use Rattle.std.specs.Prelude.{ℕ, zero, suc, Bool, true, false, Option, Some, None}
use Rattle.xa_base.specs.declared.call.Call.{Call}
use Rattle.xa_base.specs.declared.call.Call.TheVariants as Calls
use Rattle.xa_base.specs.declared.code.Code.{Code}
use Rattle.xa_base.specs.declared.code.Code.TheVariants as Codes
use Rattle.xa_base.specs.declared.code.How.{How}
use Rattle.xa_base.specs.declared.code.RbCode.TheVariants as Rb
use Rattle.xa_base.specs.declared.state.Standing.{Standing}
use Rattle.xa_base.specs.declared.state.Standing.TheVariants.{Unstarted, Active, Idle, Prepared, RollbackOnly, Completed, Committed, RolledBack, Lost, ReadOnly, Forgotten}
use Rattle.xa_base.specs.declared.vote.Vote.{Vote}
use Rattle.xa_base.specs.declared.vote.Vote.TheVariants as Votes

-- ** the rows and the columns

-- what a call asks of a branch, its flags told apart: the rows of the table
pub data Kind : Type 0 where
  Start : Kind
  Join : Kind
  End : (fail : Bool) → Kind
  Prepare : Kind
  Commit : Kind
  OnePhase : Kind
  Rollback : Kind
  Forget : Kind

-- the columns: S5 is with its heuristic code
pub data State : Type 0 where
  S0 : State
  S1 : State
  S2 : State
  S3 : State
  S4 : State
  S5 : How → State

abbrev pub state_of : Standing → State
state_of Active = S1
state_of Idle = S2
state_of Prepared = S3
state_of RollbackOnly = S4
state_of (Completed how) = S5 how
state_of _ = S0

-- xa_start without and with TMJOIN
abbrev pub start_kind : (join : Bool) → Kind
start_kind true = Join
start_kind false = Start

-- xa_commit without and with TMONEPHASE
abbrev pub commit_kind : (one_phase : Bool) → Kind
commit_kind true = OnePhase
commit_kind false = Commit

-- what a call asks, and of which branch: nothing of any, if it opens, closes or recovers
abbrev pub asks_of : {X : Type 0} → Call X → Option (Kind × X)
asks_of (Calls.Start xid join) = Some (start_kind join, xid)
asks_of (Calls.End xid fail) = Some (End fail, xid)
asks_of (Calls.Prepare xid) = Some (Prepare, xid)
asks_of (Calls.Commit xid one_phase) = Some (commit_kind one_phase, xid)
asks_of (Calls.Rollback xid) = Some (Rollback, xid)
asks_of (Calls.Forget xid) = Some (Forget, xid)
asks_of _ = None

-- the call of a kind on a branch
abbrev pub on : {X : Type 0} → Kind → X → Call X
on Start x = Calls.Start x false
on Join x = Calls.Start x true
on (End fail) x = Calls.End x fail
on Prepare x = Calls.Prepare x
on Commit x = Calls.Commit x false
on OnePhase x = Calls.Commit x true
on Rollback x = Calls.Rollback x
on Forget x = Calls.Forget x

-- ** the answers

-- xa_end of an active branch
abbrev pub end_code : (fail : Bool) → Code
end_code true = Codes.RolledBack Rb.Rollback
end_code false = Codes.Success

-- xa_prepare of an idle branch, by its vote
abbrev pub vote_code : Vote → Code
vote_code Votes.Yes = Codes.Success
vote_code Votes.ReadOnly = Codes.ReadOnly
vote_code (Votes.No code) = Codes.RolledBack code

-- xa_commit of an idle branch in one phase, by its vote
abbrev pub one_phase_code : Vote → Code
one_phase_code (Votes.No code) = Codes.RolledBack code
one_phase_code _ = Codes.Success

-- xa_commit of a prepared branch, by the retries that are left
abbrev pub commit_code : (retries : ℕ) → Code
commit_code zero = Codes.Success
commit_code (suc _) = Codes.Retry

-- the answer, row by row; a cell that isn't named answers XAER_PROTO
abbrev pub answer : Kind → State → Vote → (retries : ℕ) → Code
answer Start S0 v n = Codes.Success
answer Start _ v n = Codes.DuplicateXid
answer _ S0 v n = Codes.NotAnXid
answer (End fail) S1 v n = end_code fail
answer Prepare S2 v n = vote_code v
answer Commit S3 v n = commit_code n
answer Commit (S5 how) v n = Codes.Heuristic how
answer OnePhase S2 v n = one_phase_code v
answer OnePhase (S5 how) v n = Codes.Heuristic how
answer Rollback S2 v n = Codes.Success
answer Rollback S3 v n = Codes.Success
answer Rollback S4 v n = Codes.RolledBack Rb.Rollback
answer Rollback (S5 how) v n = Codes.Heuristic how
answer Forget (S5 how) v n = Codes.Success
answer _ _ v n = Codes.Protocol

-- ** where the branch then stands

abbrev pub after_end : Code → Standing
after_end (Codes.RolledBack code) = RollbackOnly
after_end _ = Idle

abbrev pub after_prepare : Code → Standing
after_prepare Codes.Success = Prepared
after_prepare Codes.ReadOnly = ReadOnly
after_prepare _ = RolledBack

abbrev pub after_one_phase : Code → Standing
after_one_phase Codes.Success = Committed
after_one_phase _ = RolledBack

abbrev pub after_commit : Code → Standing
after_commit Codes.Success = Committed
after_commit _ = Prepared

-- where a branch stands after a call on it was answered so; xa_forget is no further end
abbrev pub moved : Standing → Kind → Code → Standing
moved Active (End fail) a = after_end a
moved Idle Prepare a = after_prepare a
moved Idle OnePhase a = after_one_phase a
moved Idle Rollback a = RolledBack
moved Prepared Commit a = after_commit a
moved Prepared Rollback a = RolledBack
moved RollbackOnly Rollback a = RolledBack
moved (Completed how) Forget a = Forgotten how
moved Unstarted Start a = Active
moved Committed Start a = Active
moved RolledBack Start a = Active
moved Lost Start a = Active
moved ReadOnly Start a = Active
moved (Forgotten how) Start a = Active
moved f _ a = f

-- after a break of the line on which it was started
abbrev pub broken : Standing → Standing
broken Active = Lost
broken Idle = Lost
broken RollbackOnly = Lost
broken f = f

-- after its resource manager ended it by itself
abbrev pub completed : Standing → How → Standing
completed Prepared how = Completed how
completed f how = f
