-- What is known of the log in a slot, or of the one that was taken out of it.
use Rattle.std.specs.Prelude.{◌≡◌, ℕ, Option, Some, None}
use Rattle.xa_log.specs.Content.{AreOwn, Content, unchanged}
use Rattle.xa_log.specs.Contract.{AllFit, IsShutOrSame, LeavesNoMore, Makes, Moment, one_more_fault}
use Rattle.xa_log.specs.declared.decision_log.DecisionLog as DecisionLog
use Rattle.xa_log.specs.declared.decision_log.LogCall.{LogCall}
use Rattle.xa_log.specs.declared.decision_log.LogCall.TheVariants.{Rows}
use Rattle.xa_log.specs.declared.log_fault.LogFault.{LogFault}
use Rattle.xa_log.specs.declared.log_fault.LogFault.TheVariants.{Store}
use Rattle.xa_tm.specs.declared.slot.Slot.{Slot}

module _ {L : Type 0} where
  -- an empty slot holds nothing
  abbrev pub content_in : (L → Option Content) → Option L → Option Content
  content_in content (Some log) = content log
  content_in content None = None

  abbrev pub order_in : (L → Type 0) → Option L → Type 0
  order_in order (Some log) = order log
  order_in order None = Unit {0}

  -- of an empty slot: the log that was taken out was honest then
  abbrev pub honest_in : (L → Type 0) → L → Option L → Type 0
  honest_in honest was (Some log) = honest log
  honest_in honest was None = honest was

  -- of an empty slot: what a crash might have left of the log as it was taken out
  abbrev pub leaves_in : (L → Content → Type 0) → L → Option L → Content → Type 0
  leaves_in leaves was (Some log) c = leaves log c
  leaves_in leaves was None c = leaves was c

  -- an empty slot counts by itself
  abbrev pub faults_in : (L → ℕ) → Option L → (own : ℕ) → ℕ
  faults_in faults (Some log) own = faults log
  faults_in faults None own = own

  -- a slot with a log in it is as the log; an empty one holds nothing
  abbrev pub moment_in : (L → Moment) → L → Option L → (faults : ℕ) → Moment
  moment_in moment was log faults = record {
    content = content_in (λ l. (moment l).content) log;
    is_in_order = order_in (λ l. (moment l).is_in_order) log;
    is_honest = honest_in (λ l. (moment l).is_honest) was log;
    may_leave = leaves_in (λ l. (moment l).may_leave) was log;
    fault_count = faults_in (λ l. (moment l).fault_count) log faults;
  }

  -- the log in the slot says what it says, and an empty slot fails and stays empty
  abbrev pub says_in : (LogCall → (Content → Content) → L → L → Option LogFault → Type 0) → LogCall → (Content → Content)
      → Option L → Option L → Option LogFault → Type 0
  says_in says call change (Some old) (Some new) fault = says call change old new fault
  says_in says call change (Some old) None fault = ⊥
  says_in says call change None new fault = (new ≡ None) × (fault ≡ Some Store)

  pub durable_in : (content : L → Option Content) (order : L → Type 0) (leaves : L → Content → Type 0)
      → ((log : L) (c d : Content) → order log → content log ≡ Some c → leaves log d → d ≡ c)
      → (it : Option L) (was : L) (c d : Content) → order_in order it → content_in content it ≡ Some c → leaves_in leaves was it d → d ≡ c
  durable_in content order leaves law (Some log) was c d is holds left = law log c d is holds left
  durable_in content order leaves law None was c d is holds left = absurd (cc)

  pub own_in : (content : L → Option Content) (order : L → Type 0)
      → ((log : L) (c : Content) → order log → content log ≡ Some c → AreOwn c)
      → (it : Option L) (c : Content) → order_in order it → content_in content it ≡ Some c → AreOwn c
  own_in content order law (Some log) c is holds = law log c is holds
  own_in content order law None c is holds = absurd (cc)

  pub fits_in : (content : L → Option Content) (order : L → Type 0)
      → ((log : L) (c : Content) → order log → content log ≡ Some c → AllFit c)
      → (it : Option L) (c : Content) → order_in order it → content_in content it ≡ Some c → AllFit c
  fits_in content order law (Some log) c is holds = law log c is holds
  fits_in content order law None c is holds = absurd (cc)

-- the log in a slot, and the one that was last taken out of it
abbrev pub log_held : {L : Type 0} → Slot L → Option L
log_held slot = slot.log

abbrev pub last_out : {L : Type 0} → Slot L → L
last_out slot = slot.was.value

-- a slot as a log
abbrev pub slot_moment : {L : Type 0} → (L → Moment) → Slot L → Moment
slot_moment moment slot = moment_in moment slot.was.value slot.log slot.faults

-- a look at a log leaves it as it was, or has shut it, and a crash leaves nothing more of it
pub record LooksAt (old new : Moment) : Type 0 where
  pub kept : old.is_in_order → new.is_honest → IsShutOrSame old.content new.content
  pub crash : old.is_in_order → new.is_honest → LeavesNoMore old.may_leave new.may_leave
  pub order : old.is_in_order → new.is_in_order
  pub honest : new.is_honest → old.is_honest

-- a log's rows were read
pub record ReadsRows {L : Type 0} (logs : DecisionLog.Ghosts L) (old new : L) : Type 0 where
  pub says : logs.says Rows unchanged old new None
  pub faults : (logs.moment new).fault_count ≡ (logs.moment old).fault_count

-- a log's rows couldn't be read, for this cause
pub record FailsToRead {L : Type 0} (logs : DecisionLog.Ghosts L) (old new : L) (cause : LogFault) : Type 0 where
  pub says : logs.says Rows unchanged old new (Some cause)
  pub faults : (logs.moment new).fault_count ≡ one_more_fault (logs.moment old).fault_count

-- the log that was handed in is in the slot, as a look at its rows leaves it
pub record TakesIn {L : Type 0} (logs : DecisionLog.Ghosts L) (handed : L) (slot : Option L) : Type 0 where
  pub log : L
  pub is : slot ≡ Some log
  pub same : (logs.moment handed).is_in_order → (logs.moment log).is_honest
      → Makes unchanged (logs.moment handed).content (logs.moment log).content
  pub looks : LooksAt (logs.moment handed) (logs.moment log)
  pub faults : (logs.moment log).fault_count ≡ (logs.moment handed).fault_count
