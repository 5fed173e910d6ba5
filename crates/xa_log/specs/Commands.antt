-- What any list of calls leaves of a log's content, and what they are told.
use Rattle.std.specs.Prelude.{◌≡◌, ◌⊎◌, ◌+◌, ◌<◌, ℕ, List, [], ◌∷◌, take, get_or, length, Option, Some, None}
use Rattle.std.specs.FinMap.{contains_key, entries, get, keys}
use Rattle.std.specs.List.{AllByRecursion}
use Rattle.xa_base.specs.declared.branch.Branch.{Branch}
use Rattle.xa_log.specs.KeySet.{from_list, items}
use Rattle.xa_log.specs.Content.{Content, all_listed, with_bump, with_commit, logged_as, participants_of, with_heuristic_record, without_decision}
use Rattle.xa_log.specs.Contract.{FitsRow, Moment, one_more_fault}
use Rattle.xa_log.specs.declared.decision_log.LogCall.{LogCall}
use Rattle.xa_log.specs.declared.decision_log.LogCall.TheVariants as kind
use Rattle.xa_log.specs.declared.log_fault.LogFault.{LogFault}
use Rattle.xa_log.specs.declared.log_fault.LogFault.TheVariants.{Memory}
use Rattle.xa_log.specs.declared.commands.Command.{Command}
use Rattle.xa_log.specs.declared.commands.Command.TheVariants.{Commit, Contains, Participants, Done, NoteHeuristic, HeuristicOf, Bump, Rows}
use Rattle.xa_log.specs.declared.commands.Told.{Told}
use Rattle.xa_log.specs.declared.commands.Told.TheVariants as told

-- both numbers fit into a row, and the participants are branches of the transaction
abbrev pub Fits : Command → Type 0
Fits (Commit g participants) = FitsRow g × AllByRecursion (λ (b : Branch). b.gtrid ≡ g) participants.items
Fits (Contains g) = FitsRow g
Fits (Participants g) = FitsRow g
Fits (Done g) = FitsRow g
Fits (NoteHeuristic b how) = FitsRow b.gtrid
Fits (HeuristicOf b) = FitsRow b.gtrid
Fits Bump = Unit {0}
Fits Rows = Unit {0}

-- ** one call

-- what it leaves
abbrev pub content_after : Command → Content → Content
content_after (Commit g participants) c = with_commit g (from_list participants.items) c
content_after (Done g) c = without_decision g c
content_after (NoteHeuristic b how) c = with_heuristic_record b how c
content_after Bump c = with_bump c
content_after (Contains g) c = c
content_after (Participants g) c = c
content_after (HeuristicOf b) c = c
content_after Rows c = c

abbrev pub kind_of : Command → LogCall
kind_of (Commit g participants) = kind.Commit
kind_of (Done g) = kind.Done
kind_of (NoteHeuristic b how) = kind.NoteHeuristic
kind_of Bump = kind.Bump
kind_of (Contains g) = kind.Contains
kind_of (Participants g) = kind.Participants
kind_of (HeuristicOf b) = kind.HeuristicOf
kind_of Rows = kind.Rows

-- what it is told of a log with this content
abbrev pub AnswersCommand : Content → Command → Told → Type 0
AnswersCommand c (Commit g participants) answer = answer ≡ told.Logged (logged_as c g)
AnswersCommand c (Contains g) answer = answer ≡ told.Found (contains_key c.decisions g)
AnswersCommand c (Done g) answer = answer ≡ told.Found (contains_key c.decisions g)
AnswersCommand c (NoteHeuristic b how) answer = answer ≡ told.Noted
AnswersCommand c (HeuristicOf b) answer = answer ≡ told.Ended (get c.heuristics b)
AnswersCommand c Bump answer = answer ≡ told.Incarnation (c.incarnation + 1)
AnswersCommand c (Participants g) (told.Waiting list) = list.items ≡ items (participants_of c g)
AnswersCommand c (Participants g) _ = ⊥
AnswersCommand c Rows (told.Rows rows) =
    (rows.decisions.items ≡ keys c.decisions)
    × (rows.participants.items ≡ all_listed (entries c.decisions))
    × (rows.heuristics.items ≡ entries c.heuristics)
AnswersCommand c Rows _ = ⊥

-- ** a list of calls

abbrev pub content_after_all : List Command → Content → Content
content_after_all [] c = c
content_after_all (call ∷ calls) c = content_after_all calls (content_after call c)

-- the log is shut, or holds what some first calls leave
abbrev pub LeavesFirst : List Command → Content → Option Content → Type 0
LeavesFirst calls c new = (new ≡ None) ⊎ ((n : ℕ) × (new ≡ Some (content_after_all (take n calls) c)))

abbrev pub AreTold : Content → List Command → List Told → Type 0
AreTold c [] [] = Unit {0}
AreTold c (call ∷ calls) (answer ∷ answers) = AnswersCommand c call answer × AreTold (content_after call c) calls answers
AreTold c _ _ = ⊥

-- one of the calls failed, and this is its fault; none was made after it
pub record StopsAt {Log : Type 0} (says : LogCall → (Content → Content) → Log → Log → Option LogFault
    → Type 0) (calls : List Command) (new : Log) (e : LogFault) : Type 0 where
  pub place : ℕ
  pub within : place < length calls
  pub call : Command
  pub is : call ≡ get_or calls place call
  pub before : Log
  pub fails : says (kind_of call) (content_after call) before new (Some e)

-- it was a call that failed, which is counted; or the calls that were made succeeded, and memory for the answers was refused
abbrev pub EndsBy : {Log : Type 0} → (LogCall → (Content → Content) → Log → Log → Option LogFault → Type 0) → (Log → Moment)
    → List Command → Log → Log → LogFault → Type 0
EndsBy says moment calls old new e =
    (StopsAt says calls new e × ((moment new).fault_count ≡ one_more_fault (moment old).fault_count))
    ⊎ ((e ≡ Memory) × ((moment new).fault_count ≡ (moment old).fault_count))
