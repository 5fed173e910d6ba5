-- What a manager keeps: its book and its log.
use Rattle.std.specs.Prelude.{ℕ, ◌≡◌, ◌⊎◌, ◌+◌, ◌-◌, ◌^◌, ◌&&◌, List, filter, min, true, false, Some, Result, Err}
use Rattle.xa_model.specs.Trace.{Fault, Happening.Failed}
use Rattle.xa_base.specs.declared.branch.Gtrid.{Gtrid}
use Rattle.xa_base.specs.declared.refusal.Refusal.{Refusal}
use Rattle.xa_base.specs.declared.refusal.Refusal.TheVariants.{LogFault, Memory}
use Rattle.xa_base.specs.declared.step.Outcome.{Outcome}
use Rattle.xa_log.specs.Content.{Content}
use Rattle.xa_log.specs.Contract.{LeavesAlso, MayMake, Moment}
use Rattle.xa_tm.specs.Book.{Book, TransactionNotes, Doubt, book_after}
use Rattle.xa_tm.specs.Outcomes.{is_commit}
use Rattle.xa_tm.specs.LedgerBook.{as_book}
use Rattle.xa_tm.specs.declared.manager.Manager.{Manager}

-- its book
abbrev pub book_in : {L : Type 0} → Manager L → Book
book_in m = as_book m.ledger

-- its log
abbrev pub log_in : {L : Type 0} → Manager L → L
log_in m = m.log

-- a call that no rule refuses fails for want of memory, and leaves the book; or by its log, which
-- may have made the change that it was asked for
abbrev pub FailsBy : Doubt → Fault → (old new : Book) → Refusal → Type 0
FailsBy asked f old new n = ((n ≡ Memory) × (new ≡ old)) ⊎ ((n ≡ LogFault) × (new ≡ book_after old asked (Failed f)))

-- the log's count of faults after a call of the manager: one more if the log failed in it, up to
-- the greatest number
abbrev pub faults_by : {A : Type 0} → Result A Refusal → ℕ → ℕ
faults_by (Err LogFault) n = min (n + 1) (2 ^ 64 - 1)
faults_by _ n = n

-- What a call of the manager does to its log, by the log's moments before and after it: it asks for
-- this change, or for none.
pub record AsksFor {A : Type 0} (change : Content → Content) (old new : Moment) (result : Result A Refusal) : Type 0 where
  -- if the log failed, it is shut, or as before, or has the change
  pub fault : old.is_in_order → result ≡ Err LogFault → MayMake change old.content new.content
  pub crash : old.is_in_order → new.is_honest → LeavesAlso change old.content old.may_leave new.may_leave
  pub order : old.is_in_order → new.is_in_order
  pub honest : new.is_honest → old.is_honest
  pub faults : new.fault_count ≡ faults_by result old.fault_count

-- the transaction was begun in this incarnation and isn't decided
pub record IsOpenIn (k : Book) (g : Gtrid) : Type 0 where
  pub up : k.up ≡ true
  pub begun : (k.transaction g).begun ≡ true
  pub uncommitted : (k.transaction g).committed ≡ false
  pub not_rolled_back : (k.transaction g).rolled_back ≡ false

-- the decision writes a row, so that the log is asked: a commit that some branch voted XA_OK for
abbrev pub AddsRow : Outcome → TransactionNotes → Type 0
AddsRow o d = (is_commit (Some o) && d.has_yes) ≡ true

-- those of these transactions whose decision writes a row
abbrev pub written_by : Outcome → Book → List Gtrid → List Gtrid
written_by o k gs = filter (λ g. is_commit (Some o) && (k.transaction g).has_yes) gs
