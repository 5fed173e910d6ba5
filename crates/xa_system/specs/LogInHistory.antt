-- What a decision log holds, as the history of its system knows it.
use Rattle.std.specs.Prelude.{◌≡◌, ◌≤◌, ◌⊎◌, ◌&&◌, not, ◌+◌, ◌-◌, ◌^◌, ℕ, Bool, true, false, filter, List, length, Option, Some, IsSomeAnd}
use Rattle.xa_model.specs.Replies.Allowed.{failed_restarts}
use Rattle.xa_model.specs.Facts.{fault_change, incarnation, up}
use Rattle.xa_model.specs.Trace.{Fault, Fault.InRestart, Happening, Happening.Failed, Trace}
use Rattle.xa_base.specs.Xid.{Xid}
use Rattle.xa_base.specs.declared.refusal.Refusal.TheVariants as Refusals
use Rattle.xa_base.specs.declared.reply.Event.{Event}
use Rattle.xa_base.specs.declared.reply.Reply.{Reply}
use Rattle.xa_base.specs.declared.reply.Reply.TheVariants as Replies
use Rattle.xa_base.specs.declared.step.Side.TheVariants as Sides
use Rattle.xa_base.specs.declared.step.Step.TheVariants as Steps
use Rattle.xa_model.specs.Replies.History.{step_of}
use Rattle.xa_model.specs.Replies.Steps as known
use Rattle.xa_log.specs.Content.{Content, with_bump}
use Rattle.xa_log.specs.Contract.{Honestly, MayMake, Moment, one_more_fault}
use Rattle.xa_tm.specs.Book.{Book}
use Rattle.xa_tm.specs.Calls.{book_in, log_in}
use Rattle.xa_tm.specs.BookAndLog.{IsTied}
use Rattle.xa_tm.specs.declared.manager.Manager.{Manager}
pub use Rattle.xa_tm.specs.LogRows.{HoldsRows, MayHoldRows, StartsOver, after_change, participants_of_row}

-- ** the log of a manager that is up, and of one that is down

pub record IsAsTold (tr : Trace) (c : Content) : Type 0 where
  pub rows : HoldsRows tr c
  pub incarnation_is : c.incarnation ≡ incarnation tr

abbrev pub LogStandsBy : (is_up : Bool) → Trace → Option Content → Type 0
LogStandsBy true tr held = IsSomeAnd held (IsAsTold tr)
LogStandsBy false tr held = (c : Content) → held ≡ Some c → MayHoldRows tr c

-- the log is where the history leaves it. One that a failure has shut holds nothing that is known
abbrev pub LogStands : Trace → Option Content → Type 0
LogStands tr held = LogStandsBy (up tr) tr held

-- what a crash may leave of it: exactly that while the manager is up, and while it is down those
-- rows and that record, with or without the change in doubt
abbrev pub LeftBy : (is_up : Bool) → Trace → Content → Type 0
LeftBy true tr c = IsAsTold tr c
LeftBy false tr c = MayHoldRows tr c

abbrev pub MayBeLeft : Trace → Content → Type 0
MayBeLeft tr c = LeftBy (up tr) tr c

-- its incarnation is one that a restart may follow: restarts that failed may have raised it
pub record IsBeforeNext (tr : Trace) (c : Content) : Type 0 where
  pub least : incarnation tr ≤ c.incarnation
  pub most : c.incarnation ≤ incarnation tr + failed_restarts tr

abbrev pub MayRestartOver : Trace → Option Content → Type 0
MayRestartOver tr held = (c : Content) → held ≡ Some c → IsBeforeNext tr c

-- ** failures

-- the change that a step is to make in which the log fails: that of its fault, and a restart's is
-- the next incarnation
abbrev pub change_in : Trace → Fault → Content → Content
change_in tr InRestart c = with_bump c
change_in tr f c = after_change (fault_change tr f) c

-- if the log failed, it is shut, or as before, or has that change
abbrev pub MayHaveFailed : Trace → Happening → (old new : Option Content) → Type 0
MayHaveFailed tr (Failed f) old new = MayMake (change_in tr f) old new
MayHaveFailed tr e old new = Unit {0}

-- a log counts each of its failures, up to this number
abbrev pub greatest_count : ℕ
greatest_count = 2 ^ 64 - 1

-- its count after a happening
abbrev pub count_after : Happening → ℕ → ℕ
count_after (Failed f) n = one_more_fault n
count_after e n = n

-- the reply says that the log failed
abbrev pub says_log_fault : Reply Xid → Bool
says_log_fault (Replies.Refused Refusals.LogFault) = true
says_log_fault reply = false

-- how many of these events were answered so
abbrev pub log_faults : List Event → ℕ
log_faults events = length (filter (λ event. says_log_fault event.reply) events)

-- how many of those that are no restarts of the manager
abbrev pub is_restart : known.Step → Bool
is_restart (Steps.Restart Sides.Manager) = true
is_restart step = false

abbrev pub log_faults_but_restarts : List Event → ℕ
log_faults_but_restarts events =
    length (filter (λ event. says_log_fault event.reply && not (is_restart (step_of event.step))) events)

-- ** what a crash may leave

-- each content that it may leave is tied to the book
abbrev pub AreTied : (near : Bool) → Book → (Content → Type 0) → Type 0
AreTied near k may = (c : Content) → may c → IsTied near k (Some c)

-- of a log in order that holds something it leaves exactly that
abbrev pub IsDurable : {L : Type 0} → (L → Moment) → Type 0
IsDurable moment = (log : _) (c d : Content) → (moment log).is_in_order → (moment log).content ≡ Some c
    → (moment log).may_leave d → d ≡ c

-- ** one happening more

-- what it does to the log of a manager. Its rows follow the book if they followed it before
pub record LogFollows {L : Type 0} (moment : L → Moment) (tr : Trace) (e : Happening) (old new : Manager L) : Type 0 where
  pub order : (moment (log_in old)).is_in_order → (moment (log_in new)).is_in_order
  pub honest : (moment (log_in new)).is_honest → (moment (log_in old)).is_honest
  pub tied : (near : Bool) → Honestly (moment (log_in old)) (moment (log_in new))
      (IsTied near (book_in old) (moment (log_in old)).content → IsTied near (book_in new) (moment (log_in new)).content)
  pub counted : Honestly (moment (log_in old)) (moment (log_in new))
      (IsTied true (book_in old) (moment (log_in old)).content → (moment (log_in new)).fault_count ≡ count_after e (moment (log_in old)).fault_count)
  -- whatever the log, but that nothing is counted if a restart finds what it may not
  pub counts : ((moment (log_in new)).fault_count ≡ count_after e (moment (log_in old)).fault_count)
      ⊎ ((e ≡ Failed InRestart) × ((moment (log_in new)).fault_count ≡ (moment (log_in old)).fault_count))
  pub failed : Honestly (moment (log_in old)) (moment (log_in new)) (MayHaveFailed tr e (moment (log_in old)).content (moment (log_in new)).content)
  pub left : (near : Bool) → IsDurable moment → Honestly (moment (log_in old)) (moment (log_in new))
      (IsTied near (book_in old) (moment (log_in old)).content → AreTied near (book_in old) (moment (log_in old)).may_leave
      → AreTied near (book_in new) (moment (log_in new)).may_leave)
