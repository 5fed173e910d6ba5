-- Words for worked histories.
pub mod Answers
pub mod Claims
pub mod Commits
pub mod Crashes
pub mod Events
pub mod Faults
pub mod Lines
pub mod MisplacedSteps
pub mod Processes
pub mod Refusals
pub mod Scans
use Rattle.std.proofs.Common.{ℕ, zero, suc, ℤ, pos, negsuc, List, [], ◌∷◌, ◌++◌, Bool, false}
use Rattle.xa_base.specs.HeldBranch.{new_branch}
use Rattle.xa_base.specs.Scan.{Scan.NotOpen}
use Rattle.xa_base.specs.Xid.{Xid}
use Rattle.xa_base.specs.declared.code.Code.TheVariants as Codes
use Rattle.xa_base.specs.declared.reply.Reply.TheVariants as Replies
use Rattle.xa_base.specs.declared.step.Step.TheVariants as Steps
use Rattle.xa_model.specs.Replies.Steps.{Step, Reply}
use Rattle.xa_base.specs.declared.call.Call.TheVariants as Calls
use Rattle.xa_base.specs.Call.{map_call}
use Rattle.xa_base.specs.declared.call.Call as Called
use Rattle.xa_base.specs.declared.answer.Answer.TheVariants.{Ret}
use Rattle.xa_model.specs.Trace.{Gtrid, Branch, How, Name, Name.Ours, Call, Answer, Row, Recorded, Origin}

-- ** starts

-- a fresh log, and resource managers that hold nothing
abbrev pub fresh : (threads rms : ℕ) → Origin
fresh threads rms = record {
  threads = threads;
  rms = rms;
  incarnation = 1;
  rows = [];
  heuristic_rows = [];
  held = λ r x. new_branch;
  in_doubt = λ r. [];
  scans = λ r. NotOpen;
}

abbrev pub gtrid : (incarnation sequence : ℕ) → Gtrid
gtrid incarnation sequence = record { incarnation = incarnation; sequence = sequence }

-- a branch of a transaction of the first incarnation
abbrev pub own : (sequence thread rm : ℕ) → Branch
own sequence thread rm = record { gtrid = gtrid 1 sequence; thread = thread; rm = rm }

abbrev pub row : Gtrid → List Branch → Row
row g participants = record { gtrid = g; participants = participants }

abbrev pub recorded_so : Branch → How → Recorded
recorded_so b how = record { branch = b; how = how }

-- a log of before, whose row has no participants
abbrev pub with_old_row : Origin
with_old_row = record (fresh 1 1) { incarnation = 2; rows = row (gtrid 1 1) [] ∷ [] }

-- an identifier of another manager, and a start that has some in doubt
abbrev pub foreign : ℤ → List ℕ → Xid
foreign format bqual = record { format = format; gtrid = 1 ∷ []; bqual = bqual }

abbrev pub with_foreign : Origin
with_foreign =
    record (fresh 1 1) { in_doubt = λ r. foreign (pos 1) (2 ∷ 1 ∷ []) ∷ foreign (pos 8) (2 ∷ []) ∷ foreign (negsuc 1) (9 ∷ []) ∷ foreign (pos 1) (2 ∷ []) ∷ [] }

-- ** steps

abbrev pub asking : Call → Called.Call Name
asking c = map_call Ours c

abbrev pub once : Step → Reply → List (Step × Reply)
once step reply = (step, reply) ∷ []

-- a call that waits is taken, and its answer heard
abbrev pub answered : (thread rm : ℕ) → Call → Answer → List (Step × Reply)
answered t r c a = (Steps.Take t r, Replies.Took (asking c) a) ∷ (Steps.Hear t r, Replies.Heard (asking c) a) ∷ []

-- a call is issued, taken and answered
abbrev pub called : (thread rm : ℕ) → Call → Answer → List (Step × Reply)
called t r c a = (Steps.Issue t r (asking c), Replies.Issued) ∷ answered t r c a

-- the work of a branch: xa_start and xa_end
abbrev pub worked : (thread rm : ℕ) → Branch → List (Step × Reply)
worked t r b = called t r (Calls.Start b false) (Ret Codes.Success) ++ called t r (Calls.End b false) (Ret Codes.Success)

-- xa_open, and the work of a branch of the first thread
abbrev pub ready : (rm : ℕ) → Branch → List (Step × Reply)
ready r b = called 0 r Calls.OpenRm (Ret Codes.Success) ++ worked 0 r b

-- xa_recover
abbrev pub scanned : (rm : ℕ) → (count : ℤ) → (start end : Bool) → Answer → List (Step × Reply)
scanned r n start end a = (Steps.Recover r n start end, Replies.Issued) ∷ answered 0 r (Calls.Recover n start end) a

-- a call is issued so many times
abbrev pub issued_times : ℕ → Call → List (Step × Reply)
issued_times zero c = []
issued_times (suc n) c = (Steps.Issue 0 0 (asking c), Replies.Issued) ∷ issued_times n c

-- and is taken so many times
abbrev pub taken_times : ℕ → Call → List (Step × Reply)
taken_times zero c = []
taken_times (suc n) c = (Steps.Take 0 0, Replies.Took (asking c) (Ret Codes.Success)) ∷ taken_times n c
