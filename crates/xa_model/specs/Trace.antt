-- What happens between a transaction manager and its resource managers: where a system starts, and all that happened since.
-- Identifiers, calls and codes are XA's (sections 4.2, 4.4 and 4.5, and chapter 5); lines, steps and the log are this manager's own.
use Rattle.std.specs.Prelude.{ℕ, List, Bool, ◌&&◌, nat_eq}
use Rattle.xa_base.specs.HeldBranch.{HeldBranch}
use Rattle.xa_base.specs.Scan.{Scan}
use Rattle.xa_base.specs.Xid.{Xid}
pub use Rattle.xa_base.specs.StateTable.{Kind, Kind.Start, Kind.Join, Kind.End, Kind.Prepare, Kind.Commit, Kind.OnePhase, Kind.Rollback, Kind.Forget}
pub use Rattle.xa_base.specs.declared.branch.Gtrid.{Gtrid}
pub use Rattle.xa_base.specs.declared.branch.Branch.{Branch}
use Rattle.xa_base.specs.declared.answer.Answer as Given
use Rattle.xa_base.specs.declared.call.Call as Called
pub use Rattle.xa_base.specs.declared.code.Code.{Code}
pub use Rattle.xa_base.specs.declared.code.How.{How}
pub use Rattle.xa_base.specs.declared.vote.Vote.{Vote}
pub use Rattle.xa_base.specs.declared.step.Outcome.{Outcome}
pub use Rattle.xa_base.specs.declared.step.Part.{Part}

-- ** lines, names, calls and answers

-- the line on which a thread calls a resource manager
pub record Line : Type 0 where
  pub thread : ℕ
  pub rm : ℕ

-- an identifier as this manager reads it: one of its own branches, or another manager's
pub data Name : Type 0 where
  Ours : Branch → Name
  Foreign : Xid → Name

-- a call that waits on a line
abbrev pub Call : Type 0
Call = Called.Call Branch

-- an answer: a return code, or what an xa_recover lists
abbrev pub Answer : Type 0
Answer = Given.Answer Name

-- ** what happens

-- a step in which the log failed. One write of the log decides several transactions to commit, or takes the rows of several
pub data Fault : Type 0 where
  InDecide : List Gtrid → Fault
  InDone : List Gtrid → Fault
  InHear : Line → Fault
  InResolve : Fault
  InRestart : Fault

-- what an event, a step with its reply, means. A refused step, and one that found nothing, are `Nothing`
pub data Happening : Type 0 where
  Begun : Gtrid → Happening
  Issued : Line → Call → Happening
  Resolved : (rm : ℕ) → Happening
  ResolvedOpen : (rm : ℕ) → Happening
  Took : Line → Call → Answer → Happening
  Heard : Line → Call → Answer → Happening
  CompletedAlone : Branch → How → Happening
  Voted : Branch → Vote → Happening
  PutOff : Branch → (times : ℕ) → Happening
  Claimed : Gtrid → Happening
  Decided : Gtrid → Outcome → Happening
  Done : Gtrid → Happening
  Crashed : Part → Happening
  Failed : Fault → Happening
  RmRestarted : (rm : ℕ) → Happening
  Restarted : (incarnation decisions heuristics : ℕ) → Happening
  Nothing : Happening

-- ** the start

-- a row of the log: a transaction that is committed, with the branches whose xa_commit it waits for
pub record Row : Type 0 where
  pub gtrid : Gtrid
  pub participants : List Branch

-- a heuristic row of the log: a branch, and how its resource manager ended it
pub record Recorded : Type 0 where
  pub branch : Branch
  pub how : How

-- where a system starts: its size, its incarnation, what the log has, and what each resource manager holds: its branches, the
-- identifiers of other managers that it has in doubt, and where the first thread's scan stands
pub record Origin : Type 0 where
  pub threads : ℕ
  pub rms : ℕ
  pub incarnation : ℕ
  pub rows : List Row
  pub heuristic_rows : List Recorded
  pub held : (rm : ℕ) → Xid → HeldBranch
  pub in_doubt : (rm : ℕ) → List Xid
  pub scans : (rm : ℕ) → Scan Name

-- a start and what happened since, the newest last. Each fact of a history is a recursion on it, by what happened last
pub data Trace : Type 0 where
  From : Origin → Trace
  Then : Trace → Happening → Trace

-- ** lines

-- the line of these two
abbrev pub line : (thread rm : ℕ) → Line
line t r = record { thread = t; rm = r }

-- the line on which a branch is started
abbrev pub line_of : Branch → Line
line_of b = line b.thread b.rm

-- whether two lines are the same
abbrev pub line_eq : Line → Line → Bool
line_eq l m = nat_eq l.thread m.thread && nat_eq l.rm m.rm
