-- What a call of a log may do to its content, to the contents that a crash may leave, and to its count of faults.
use Rattle.std.specs.Prelude.{◌≡◌, ◌≢◌, ◌⊎◌, ◌≤◌, ℕ, ◌+◌, ◌-◌, ◌^◌, min, true, Option, Some, None, IsSomeAnd, OnErr, OnOk, Result, Ok, Err}
use Rattle.std.specs.FinMap.{contains_key}
use Rattle.xa_base.specs.declared.branch.Branch.{Branch}
use Rattle.xa_base.specs.declared.branch.Gtrid.{Gtrid}
use Rattle.xa_log.specs.Content.{Content, last_number, unchanged}
use Rattle.xa_log.specs.declared.log_fault.LogFault.{LogFault}
use Rattle.xa_log.specs.declared.log_fault.LogFault.TheVariants.{Store, Memory, Spent}
use Rattle.xa_log.specs.declared.decision_log.LogCall.{LogCall}
use Rattle.xa_log.specs.declared.decision_log.LogCall.TheVariants.{Bump}

-- the log was there, and has the change
abbrev pub Makes : (Content → Content) → Option Content → Option Content → Type 0
Makes change old new = IsSomeAnd old (λ c. new ≡ Some (change c))

-- the log is shut, or is as before, or has the change
abbrev pub MayMake : (Content → Content) → Option Content → Option Content → Type 0
MayMake change old new = (new ≡ None) ⊎ ((new ≡ old) ⊎ Makes change old new)

-- the log is shut or as before
abbrev pub IsShutOrSame : Option Content → Option Content → Type 0
IsShutOrSame old new = (new ≡ None) ⊎ (new ≡ old)

-- a crash leaves what it might have left before, or the content with the change
abbrev pub LeavesAlso : (Content → Content) → Option Content → (Content → Type 0) → (Content → Type 0) → Type 0
LeavesAlso change now old new = (c : Content) → new c → old c ⊎ IsSomeAnd now (λ before. c ≡ change before)

-- a crash leaves nothing new
abbrev pub LeavesNoMore : (Content → Type 0) → (Content → Type 0) → Type 0
LeavesNoMore old new = (c : Content) → new c → old c

-- both numbers fit into a row
abbrev pub FitsRow : Gtrid → Type 0
FitsRow g = (g.incarnation ≤ last_number) × (g.sequence ≤ last_number)

-- the numbers of each transaction that has a row and of each branch that has a record fit into a row
pub record AllFit (c : Content) : Type 0 where
  pub decisions : (g : Gtrid) → contains_key c.decisions g ≡ true → FitsRow g
  pub heuristics : (b : Branch) → contains_key c.heuristics b ≡ true → FitsRow b.gtrid

-- a fault is counted, up to the greatest number
abbrev pub one_more_fault : ℕ → ℕ
one_more_fault n = min (n + 1) (2 ^ 64 - 1)

abbrev pub faults_after : {A E : Type 0} → Result A E → ℕ → ℕ
faults_after (Ok x) n = n
faults_after (Err e) n = one_more_fault n

-- why a call failed, if it did
abbrev pub fault_of : {A : Type 0} → Result A LogFault → Option LogFault
fault_of (Ok x) = None
fault_of (Err e) = Some e

-- no call but a bump ends for want of incarnations
abbrev pub MayEnd : LogCall → Option LogFault → Type 0
MayEnd Bump fault = Unit {0}
MayEnd call fault = fault ≢ Some Spent

-- What a log says of one moment: what it holds, whether it is in order and what it rests on has been honest so far, what a
-- crash may leave of it, and how many of its calls have failed.
pub record Moment : Type 1 where
  pub content : Option Content
  pub is_in_order : Type 0
  pub is_honest : Type 0
  pub may_leave : Content → Type 0
  pub fault_count : ℕ

-- so far as the log was in order before, and what it rests on has been honest up to the end
abbrev pub Honestly : Moment → Moment → Type 0 → Type 0
Honestly old new P = old.is_in_order → new.is_honest → P

-- A call that changes something, by the log's moments before and after it.
pub record Changes {A : Type 0} (change : Content → Content) (old new : Moment) (result : Result A LogFault) : Type 0 where
  -- one that succeeds has made its one change
  pub ok : Honestly old new (OnOk result (Makes change old.content new.content))
  -- one that fails has shut the log, or left it as it was, or made the change
  pub err : old.is_in_order → OnErr result (MayMake change old.content new.content)
  -- at its end a crash leaves what it might have left before the call, or the content with the change
  pub crash : Honestly old new (LeavesAlso change old.content old.may_leave new.may_leave)
  pub order : old.is_in_order → new.is_in_order
  pub honest : new.is_honest → old.is_honest
  -- a failure is counted
  pub faults : new.fault_count ≡ faults_after result old.fault_count

-- A call that changes nothing.
pub record Reads {A : Type 0} (old new : Moment) (result : Result A LogFault) : Type 0 where
  pub ok : Honestly old new (OnOk result (Makes unchanged old.content new.content))
  pub err : old.is_in_order → OnErr result (IsShutOrSame old.content new.content)
  pub crash : Honestly old new (LeavesNoMore old.may_leave new.may_leave)
  pub order : old.is_in_order → new.is_in_order
  pub honest : new.is_honest → old.is_honest
  pub faults : new.fault_count ≡ faults_after result old.fault_count

-- the store failed, or memory was refused
abbrev pub IsStoreFault : LogFault → Type 0
IsStoreFault fault = (fault ≡ Store) ⊎ (fault ≡ Memory)
