-- Sessions one after another over the same databases and the same log; and where all branches then stand, at databases that obey the
-- branch state table.
use Rattle.std.specs.Prelude.{ℕ, ◌≡◌, ◌⊎◌, ◌<◌, true, false, if◌then◌else◌, List, [], Option, Some, None}
use Rattle.xa_base.specs.Branch.{branch_eq}
use Rattle.xa_base.specs.HeldBranch.{new_branch}
use Rattle.xa_base.specs.Scan.{Scan.NotOpen}
use Rattle.xa_base.specs.StateTable.{broken}
use Rattle.xa_base.specs.declared.state.Standing.{Standing}
use Rattle.xa_base.specs.declared.state.Standing.TheVariants.{Committed, Completed, Forgotten, Prepared, Unstarted}
use Rattle.xa_model.specs.Facts.{ever, handed_over, heuristic_rows, incarnation, lists_row, log as rows_of, standing}
use Rattle.xa_model.specs.Promises.Agreement.{IsUndone}
use Rattle.xa_model.specs.Promises.Processes.{SameRecords, SameRows, gone, resumed}
use Rattle.xa_model.specs.Protocol.{AllRight, IsRun, RightFault}
use Rattle.xa_model.specs.Trace.{Branch, Fault, Fault.InDecide, Fault.InDone, Fault.InResolve, Happening.Failed, How, Line, Origin, Trace, Trace.From, Trace.Then}
use Rattle.xa_monitor.specs.Agreement.{MayAllStand}
use Rattle.xa_monitor.specs.Explained.{HasOnlyOlderRows}
use Rattle.xa_monitor.specs.Named.{AreOnBranches}
use Rattle.xa_monitor.specs.Seen.{IsHistory, KeepsRules, Seen}
use Rattle.xa_monitor.specs.Standings.{Comes}

-- ** the log

-- a start finds what the log of a history has: its rows and records, with or without the change in doubt, in a later incarnation
pub record FindsLog (past : Trace) (o : Origin) : Type 0 where
  pub later : incarnation past < o.incarnation
  pub rows : SameRows o.rows (rows_of (resumed past o))
  pub records : SameRecords o.heuristic_rows (heuristic_rows (resumed past o))

-- a step in which the log is asked for a change of rows, or for none
abbrev pub AsksForRows : Fault → Type 0
AsksForRows (InDecide gs) = Unit
AsksForRows (InDone gs) = Unit
AsksForRows InResolve = Unit
AsksForRows _ = ⊥

-- how a session was left: as all was told; or in a step in which its log failed, as it does for a program that is killed there
abbrev pub failed_in : Option Fault → Trace → Trace
failed_in None tr = tr
failed_in (Some f) tr = Then tr (Failed f)

-- such a step was right, by each right history of what was seen
abbrev pub MayFail : Origin → Seen → Option Fault → Type 0
MayFail o seen None = Unit
MayFail o seen (Some f) = AsksForRows f × ((tr : Trace) → IsHistory o seen tr → IsRun tr → RightFault tr f)

-- before the first session nothing is there
abbrev pub nothing_yet : (incarnation : ℕ) → Trace
nothing_yet i = From (record {
  threads = 0;
  rms = 0;
  incarnation = i;
  rows = [];
  heuristic_rows = [];
  held = λ r x. new_branch;
  in_doubt = λ r. [];
  scans = λ r. NotOpen;
})

-- a log: an empty one, of so late an incarnation, or what a session left
pub data Log : Type 0 where
  Empty : (incarnation : ℕ) → Log
  LeftBy : Origin → Seen → Option Fault → Log

-- a start finds it; what a session left, by each right history of what was seen in that
abbrev pub Finds : Log → Origin → Type 0
Finds (Empty i) next = FindsLog (nothing_yet i) next
Finds (LeftBy o seen fails) next = (tr : Trace) → IsHistory o seen tr → IsRun tr → FindsLog (failed_in fails tr) next

-- ** the sessions

-- A session: its start has what was found in the log; the manager kept its rules in what was seen, in which each call is on a branch that has
-- an identifier; and where its log failed in a step, or the program was killed in one, that was right.
pub record IsSession (o : Origin) (seen : Seen) (fails : Option Fault) : Type 0 where
  pub old : HasOnlyOlderRows o
  pub keeps : KeepsRules o seen
  pub on_branches : AreOnBranches seen
  pub may_fail : MayFail o seen fails

-- Where all branches may stand after sessions one after another, and what log these leave. Between two sessions what was open is lost, and
-- a database may end a prepared branch by itself. `OfProcesses` of `xa_model` says the same of processes whose resource managers are known,
-- and whose events are stored.
pub data AfterSessions : Log → (Branch → Standing) → Type 0 where
  NoneYet : (i : ℕ) → AfterSessions (Empty i) (λ b. Unstarted)
  OneMore :
      (log : Log) (from to : Branch → Standing) (o : Origin) (seen : Seen) (fails : Option Fault) (done cut : List Line)
      → AfterSessions log from → Finds log o → IsSession o seen fails → MayAllStand o seen (λ b. Comes seen b (broken (from b))) done cut to
      → AfterSessions (LeftBy o seen fails) to
  Between :
      (log : Log) (from to : Branch → Standing) (d : Branch) (how : How) → AfterSessions log from → from d ≡ Prepared
      → ((b : Branch) → to b ≡ (if branch_eq d b then Completed how else from b)) → AfterSessions log to

-- ** what follows

-- The log that is left decides of what is prepared still: a start finds the row of each transaction of which a branch stands committed beside
-- one that stands prepared, and no row of one of which a branch stands rolled back or lost.
pub record RowsDecide (f : Branch → Standing) (next : Origin) : Type 0 where
  pub committed : (b c : Branch) → b.gtrid ≡ c.gtrid → f b ≡ Committed → f c ≡ Prepared → lists_row next.rows b.gtrid ≡ true
  pub undone : (b : Branch) → IsUndone (f b) → lists_row next.rows b.gtrid ≡ false

-- The branch is to commit: it stands prepared still, or committed, or its database ended it by itself, which may be forgotten since.
abbrev pub IsCommitting : Standing → Type 0
IsCommitting Prepared = Unit
IsCommitting Committed = Unit
IsCommitting (Completed how) = Unit
IsCommitting (Forgotten how) = Unit
IsCommitting _ = ⊥

-- One of these sessions began where the branch stood prepared, over a log with the row of its transaction.
abbrev pub WasFoundDecided : Branch → (log : Log) (f : Branch → Standing) → AfterSessions log f → Type 0
WasFoundDecided b _ _ (NoneYet i) = ⊥
WasFoundDecided b _ _ (OneMore log from to o seen fails done cut before found session may) =
    ((from b ≡ Prepared) × (lists_row o.rows b.gtrid ≡ true)) ⊎ WasFoundDecided b log from before
WasFoundDecided b _ _ (Between log from to d how before was final) = WasFoundDecided b log from before

-- Such a branch is to commit; and as long as it stands prepared, a start finds its row.
pub record CommitStands (f : Branch → Standing) (next : Origin) (b : Branch) : Type 0 where
  pub commits : IsCommitting (f b)
  pub row_stays : f b ≡ Prepared → lists_row next.rows b.gtrid ≡ true

-- There is one right history of all sessions. Once what was open is lost, it leaves each branch where that then stands; and the next start
-- finds its rows and records. So what is promised of right histories (`Promises` of `xa_model`) holds of the branches and the log as well.
-- Of a branch that stands committed its transaction's row was written, if that wasn't committed in one phase; of one that stands rolled back
-- or lost it never was.
pub record HaveOneHistory (log : Log) (f : Branch → Standing) : Type 0 where
  pub whole : Trace
  pub right : AllRight whole
  pub there : (b : Branch) → standing (gone whole) b ≡ broken (f b)
  pub finds : (next : Origin) → Finds log next → FindsLog whole next
  pub committed : (b : Branch) → f b ≡ Committed → (ever whole b.gtrid ≡ true) ⊎ (handed_over whole b.gtrid ≡ true)
  pub undone : (b : Branch) → IsUndone (f b) → ever whole b.gtrid ≡ false
