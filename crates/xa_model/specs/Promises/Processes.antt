-- Several processes of the manager, one after another, over the same resource managers and the same log: each but the first starts
-- over what the processes before it have left, and recovers it (XA, section 2.3, Transaction Completion and Recovery).
use Rattle.std.specs.Prelude.{ℕ, ◌≡◌, ◌≤◌, ◌<◌, Contains, List, length, map, filter, true, false}
use Rattle.xa_base.specs.Branch.{gtrid_eq, xid_of_branch}
use Rattle.xa_base.specs.HeldBranch.{HeldBranch, new_branch}
use Rattle.xa_base.specs.Scan.{Scan.NotOpen}
use Rattle.xa_base.specs.Standing.{is_in_doubt}
use Rattle.xa_base.specs.StateTable.{state_of}
use Rattle.xa_base.specs.declared.reply.Event.{Event}
use Rattle.xa_base.specs.declared.state.Standing.TheVariants.{Committed, Prepared, Unstarted}
use Rattle.xa_base.specs.declared.step.Part.TheVariants as Part
use Rattle.xa_base.specs.declared.vote.Vote.TheVariants.{Yes}
use Rattle.xa_model.specs.Facts.{doubt, fits, has_branch, has_record, held_of, heuristic_rows, heuristics_changed, incarnation, log, origin, participants_in, retries, rows_changed, standing, vote}
use Rattle.xa_model.specs.Facts.InDoubt.{in_doubt, name_of, xid_of_name}
use Rattle.xa_model.specs.Promises.Agreement.{IsUndone}
use Rattle.xa_model.specs.Protocol.{AllRight, RightOrigin}
use Rattle.xa_model.specs.Replies.History.{AreAllowed, and_then, history}
use Rattle.xa_model.specs.Trace.{Gtrid, Branch, Name, Name.Ours, Name.Foreign, How, Happening.CompletedAlone, Happening.Crashed, Happening.Restarted, Row, Recorded, Origin, Trace, Trace.Then}

-- ** the same log

-- how many rows a transaction has among these
abbrev pub row_count : List Row → Gtrid → ℕ
row_count rows g = length (filter (λ x. gtrid_eq x.gtrid g) rows)

-- the same rows in some order, with the same participants in some order
pub record SameRows (xs ys : List Row) : Type 0 where
  pub number : length xs ≡ length ys
  pub count : (g : Gtrid) → row_count xs g ≡ row_count ys g
  pub participants : (g : Gtrid) (b : Branch) → has_branch (participants_in xs g) b ≡ has_branch (participants_in ys g) b

-- records of the same branches in some order
pub record SameRecords (xs ys : List Recorded) : Type 0 where
  pub number : length xs ≡ length ys
  pub branches : (b : Branch) → has_record xs b ≡ has_record ys b

-- ** the next process

-- a process is gone as its manager crashes, whether or not that was seen
abbrev pub gone : Trace → Trace
gone past = Then past (Crashed Part.Manager)

-- and the next one is a restart of the manager, which finds the rows and the records of the start
abbrev pub resumed : Trace → Origin → Trace
resumed past o = Then (gone past) (Restarted o.incarnation (length o.rows) (length o.heuristic_rows))

-- A start resumes a history: its incarnation is a later one; its log has the rows and the records of the history, with or without the
-- change in doubt; and at its resource manager each branch is in the state in which the history leaves it, with its vote and its
-- retries. How a branch ended that is no longer there, the resource manager need not know.
pub record Resumes (past : Trace) (o : Origin) : Type 0 where
  pub later : incarnation past < o.incarnation
  pub rows : SameRows o.rows (log (resumed past o))
  pub records : SameRecords o.heuristic_rows (heuristic_rows (resumed past o))
  pub states : (b : Branch) → state_of (held_of o b).standing ≡ state_of (standing (gone past) b)
  pub votes : (b : Branch) → (held_of o b).vote ≡ vote past b
  pub retries : (b : Branch) → (held_of o b).retries ≡ retries past b

-- a start lists each branch of this manager that its resource manager has in doubt
abbrev pub ListsFound : Origin → Type 0
ListsFound o = (b : Branch) → is_in_doubt (held_of o b).standing ≡ true → Contains (o.in_doubt b.rm) (xid_of_branch b)

-- whatever a process found: of the transactions that were begun since its start no branch is committed beside one that is undone
abbrev pub OwnAreAlike : Trace → Type 0
OwnAreAlike tr =
    (b c : Branch) → (origin tr).incarnation ≤ b.gtrid.incarnation → b.gtrid ≡ c.gtrid → standing tr b ≡ Committed → IsUndone (standing tr c) → ⊥

-- ** what a process leaves

-- what is held of a name in the end: of a branch of this manager what the history says
abbrev pub held_in : Trace → Name → HeldBranch
held_in past (Ours b) = record { standing = standing (gone past) b; starter = b.thread; vote = vote past b; retries = retries past b }
held_in past (Foreign x) = new_branch

-- the rows and the records that are left: the change in doubt was made, or it was not
pub data IsLeft (past : Trace) : List Row → List Recorded → Type 0 where
  Unmade : IsLeft past (log past) (heuristic_rows past)
  Made : IsLeft past (rows_changed (doubt past) (log past)) (heuristics_changed (doubt past) (heuristic_rows past))

-- the next start over what is left
abbrev pub next_start : Trace → (incarnation : ℕ) → List Row → List Recorded → Origin
next_start past i rows records = record {
  threads = (origin past).threads;
  rms = (origin past).rms;
  incarnation = i;
  rows = rows;
  heuristic_rows = records;
  held = λ r x. held_in past (name_of x);
  in_doubt = λ r. map xid_of_name (in_doubt (gone past) r);
  scans = λ r. NotOpen;
}

-- nothing is known of a branch that has no identifier
abbrev pub AllAreNamed : Trace → Type 0
AllAreNamed tr = (b : Branch) → fits b ≡ false → (standing tr b ≡ Unstarted) × (vote tr b ≡ Yes) × (retries tr b ≡ 0)

-- ** the whole

-- a process resumed a right history, and these are its events
pub record IsNext (past : Trace) (o : Origin) (events : List Event) : Type 0 where
  pub right : AllRight past
  pub resumes : Resumes past o
  pub allowed : AreAllowed o events

-- the history that goes on with the events of the next process
abbrev pub joined : Trace → Origin → List Event → Trace
joined past o events = and_then (resumed past o) events

-- histories of several processes: the first started where none had been before, and a resource manager may end a branch alone also
-- while no process is there
pub data OfProcesses : Trace → Type 0 where
  First : (o : Origin) (events : List Event) → RightOrigin o → AreAllowed o events → OfProcesses (history o events)
  Next :
      (past : Trace) (o : Origin) (events : List Event) → OfProcesses past → Resumes past o → AreAllowed o events
      → OfProcesses (joined past o events)
  Alone :
      (past : Trace) (b : Branch) (how : How) → OfProcesses past → standing past b ≡ Prepared
      → OfProcesses (Then past (CompletedAlone b how))
