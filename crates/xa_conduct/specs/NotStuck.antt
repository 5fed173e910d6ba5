-- That a transaction isn't stuck: which moves of its thread are taken, that an answer of the table to a call that was told is one of them, and that
-- there is one as long as the transaction isn't over.
use Rattle.std.specs.Prelude.{◌≡◌, ◌≤◌, ◌⊎◌, ◌&&◌, ℕ, Bool, true, false, not, nat_le, nat_lt, List, [], ◌∷◌, Option, Some, None, length, slice_get, if◌then◌else◌}
use Rattle.std.specs.List.{list_all}
use Rattle.xa_base.specs.declared.code.Code.{Code}
use Rattle.xa_base.specs.declared.code.Code.TheVariants as codes
use Rattle.xa_base.specs.declared.code.How.TheVariants as hows
use Rattle.xa_conduct.specs.Over.{has_calls, is_all_answered}
use Rattle.xa_conduct.specs.Places.{is_asked}
use Rattle.xa_conduct.specs.Progress.{are_working, is_new_at}
use Rattle.xa_conduct.specs.declared.moves.Move.{Move}
use Rattle.xa_conduct.specs.declared.moves.Move.TheVariants.{Commit, Join, Rollback, Tell}
use Rattle.xa_conduct.specs.declared.notes.Reply.{Reply}
use Rattle.xa_conduct.specs.declared.notes.Reply.TheVariants as replies
use Rattle.xa_conduct.specs.declared.part.Part.{Part}
use Rattle.xa_conduct.specs.declared.place.Place.{Place}
use Rattle.xa_conduct.specs.declared.place.Place.TheVariants.{Preparing, AtOnce, Committing, RollingBack, Undoing, Refusing, Forgetting}
use Rattle.xa_conduct.specs.declared.report.Report.{Report}
use Rattle.xa_conduct.specs.declared.report.Report.TheVariants as reports
use Rattle.xa_conduct.specs.declared.transaction.Standing.{Standing}
use Rattle.xa_conduct.specs.declared.transaction.Standing.TheVariants as standings
use Rattle.xa_conduct.specs.declared.transaction.Transaction.{Transaction}

-- ** the table of answers (docs/MOVES.md), by the call that was told

abbrev pub answers_prepare : Code → Bool
answers_prepare codes.Success = true
answers_prepare codes.ReadOnly = true
answers_prepare (codes.RolledBack why) = true
answers_prepare code = false

-- xa_commit in one phase
abbrev pub answers_at_once : Code → Bool
answers_at_once codes.Success = true
answers_at_once (codes.RolledBack why) = true
answers_at_once codes.RmError = true
answers_at_once code = false

-- xa_commit of a prepared branch
abbrev pub answers_commit : Code → Bool
answers_commit codes.Success = true
answers_commit codes.Retry = true
answers_commit (codes.Heuristic how) = true
answers_commit codes.RmError = true
answers_commit (codes.RolledBack why) = true
answers_commit codes.NotAnXid = true
answers_commit code = false

-- xa_rollback of one
abbrev pub answers_rollback : Code → Bool
answers_rollback codes.Success = true
answers_rollback (codes.RolledBack why) = true
answers_rollback (codes.Heuristic how) = true
answers_rollback codes.NotAnXid = true
answers_rollback code = false

-- xa_rollback of one that isn't prepared
abbrev pub answers_undo : Code → Bool
answers_undo codes.Success = true
answers_undo (codes.RolledBack why) = true
answers_undo (codes.Heuristic hows.Rb) = true
answers_undo codes.NotAnXid = true
answers_undo code = false

abbrev pub answers_forget : Code → Bool
answers_forget codes.Success = true
answers_forget codes.NotAnXid = true
answers_forget codes.RmError = true
answers_forget code = false

-- such an answer to the call that the branch at this place was told; or the loss of its connection
abbrev pub is_in_table : Place → Report → Bool
is_in_table place reports.Lost = is_asked place
is_in_table Preparing (reports.Code code) = answers_prepare code
is_in_table AtOnce (reports.Code code) = answers_at_once code
is_in_table Committing (reports.Code code) = answers_commit code
is_in_table RollingBack (reports.Code code) = answers_rollback code
is_in_table Undoing (reports.Code code) = answers_undo code
is_in_table Refusing (reports.Code code) = answers_undo code
is_in_table Forgetting (reports.Code code) = answers_forget code
is_in_table place (reports.Code code) = false

-- the calls that were told, by the places of their branches
abbrev pub calls_of : List Part → List Place
calls_of [] = []
calls_of (part ∷ parts) = if is_asked part.place then part.place ∷ calls_of parts else calls_of parts

-- one for each, in turn
abbrev pub are_answers : List Place → List Report → Bool
are_answers [] [] = true
are_answers (place ∷ calls) (report ∷ told) = is_in_table place report && are_answers calls told
are_answers calls told = false

-- ** the moves that are taken of a transaction

abbrev pub is_undecided : Standing → Bool
is_undecided standings.Open = true
is_undecided standing = false

-- no call to commit it in one phase was told, and none behind its vote
abbrev pub may_be_undone : Place → Bool
may_be_undone AtOnce = false
may_be_undone Committing = false
may_be_undone RollingBack = false
may_be_undone Undoing = false
may_be_undone Refusing = false
may_be_undone Forgetting = false
may_be_undone place = true

abbrev pub are_undone : List Part → Bool
are_undone parts = list_all (λ (part : Part). may_be_undone part.place) parts

abbrev pub may_roll_back : Transaction → Bool
may_roll_back t = not t.has_moved && (is_undecided t.standing && are_undone t.parts.items)

-- with one branch or none, at which work goes on
abbrev pub may_commit : Transaction → Bool
may_commit t = may_roll_back t && (nat_le (length t.parts.items) 1 && are_working t.parts.items)

-- the first at each of these resource managers, of which there are so many
abbrev pub may_join : (rms : List ℕ) (count : ℕ) → Transaction → Bool
may_join rms count t =
    nat_lt 0 (length rms) && (may_roll_back t && (list_all (λ (rm : ℕ). nat_lt rm count) rms && list_all (is_new_at t.parts.items) rms))

abbrev pub may_tell : List Report → Transaction → Bool
may_tell told t = has_calls t && (are_answers (calls_of t.parts.items) told && not t.has_moved)

-- that of a thread is so
abbrev pub is_so_of : (Transaction → Bool) → Option Transaction → Bool
is_so_of p None = false
is_so_of p (Some t) = p t

-- the reply to its move: of the transaction, exactly if it is so
abbrev pub reply_if : List Transaction → (thread : ℕ) → (Transaction → Bool) → Reply
reply_if ts i p = if is_so_of p (slice_get ts i) then replies.Thread i else replies.NotNow

-- each move of a thread whose first transaction has begun is taken exactly if it may be, and is replied by an error otherwise
abbrev pub IsTakenSo : (rms : ℕ) → List Transaction → Move → Reply → Type 0
IsTakenSo count ts (Join i rms) reply = reply ≡ reply_if ts i (may_join rms.items count)
IsTakenSo count ts (Commit i) reply = reply ≡ reply_if ts i may_commit
IsTakenSo count ts (Rollback i) reply = reply ≡ reply_if ts i may_roll_back
IsTakenSo count ts (Tell i told) reply = reply ≡ reply_if ts i (may_tell told.items)
IsTakenSo count ts move reply = Unit {0}

-- ** between two lines

-- its votes are in, and the decision isn't made
abbrev pub is_ready : Standing → Bool
is_ready standings.Ready = true
is_ready standing = false

-- no line moves it, and what is due is decided
abbrev pub is_at_rest : Transaction → Bool
is_at_rest t = not t.has_moved && not (is_ready t.standing)

-- ** it isn't stuck

-- a report for each, that its connection is lost
abbrev pub all_lost : List Place → List Report
all_lost [] = []
all_lost (place ∷ calls) = reports.Lost ∷ all_lost calls

-- Calls wait, each list of answers of the table to them is taken, and there is one at least.
pub record IsToBeTold (t : Transaction) : Type 0 where
  pub calls : has_calls t ≡ true
  pub taken : (told : List Report) → are_answers (calls_of t.parts.items) told ≡ true → may_tell told t ≡ true
  pub some : are_answers (calls_of t.parts.items) (all_lost (calls_of t.parts.items)) ≡ true

-- The program may roll it back; and commit it, if it has one branch at which work goes on, or none.
pub record IsToBeMoved (t : Transaction) : Type 0 where
  pub rolls_back : may_roll_back t ≡ true
  pub commits : length t.parts.items ≤ 1 → are_working t.parts.items ≡ true → may_commit t ≡ true

-- Between two lines a transaction that has begun is over, or has calls whose answers are taken, or a move of its program is.
abbrev pub TransactionsAreNotStuck : Type 0
TransactionsAreNotStuck =
    (t : Transaction) → is_at_rest t ≡ true → (t.standing ≡ standings.Idle → ⊥)
    → (is_all_answered t ≡ true) ⊎ (IsToBeTold t ⊎ IsToBeMoved t)
