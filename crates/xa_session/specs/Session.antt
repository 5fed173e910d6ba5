-- What a session stands at, and what it refuses.
use Rattle.std.specs.Prelude.{ℕ, ◌≡◌, ◌≤◌, ◌-◌, ◌+◌, ◌&&◌, Bool, true, false, not, nat_le, if◌then◌else◌, List, [], length, slice_get, Option, Some, None, Result, Ok, Err}
use Rattle.std.specs.Option.{option_and_then, option_map, option_or}
use Rattle.xa_base.specs.Answer.{map_answer}
use Rattle.xa_base.specs.Call.{map_call}
use Rattle.xa_base.specs.Xid.{Xid}
use Rattle.xa_base.specs.declared.answer.Answer.{Answer}
use Rattle.xa_base.specs.declared.branch.Gtrid.{Gtrid}
use Rattle.xa_base.specs.declared.call.Call.{Call}
use Rattle.xa_base.specs.declared.call.Call.TheVariants as Calls
use Rattle.xa_base.specs.declared.refusal.Refusal.{Refusal}
use Rattle.xa_base.specs.declared.refusal.Refusal.TheVariants.{Busy, Full, Limit, LogFault}
use Rattle.xa_base.specs.declared.step.Outcome.{Outcome}
use Rattle.xa_base.specs.declared.step.Part.TheVariants as Parts
use Rattle.xa_base.specs.declared.step.Step.TheVariants as Steps
use Rattle.xa_line.specs.Grid.{Grid, HasLine, grid_has_line, line_at, new_grid, with_line}
use Rattle.xa_line.specs.Histories.{AreKnownAs, known, lines_in}
use Rattle.xa_line.specs.Traffic.{Traffic, with_more}
use Rattle.xa_model.specs.Replies.Guards.{recovery_guards, refusal_by, refusal_of}
use Rattle.xa_model.specs.Replies.History.{name_of}
use Rattle.xa_model.specs.Replies.Steps.{Step}
use Rattle.xa_model.specs.Replies.View.{LineView}
use Rattle.xa_model.specs.Trace.{Branch, Call as KnownCall, line}
use Rattle.xa_monitor.specs.Monitor.{CanExplain, IsSomewhere, states_of}
use Rattle.xa_tm.specs.Book.{Book}
use Rattle.xa_tm.specs.Calls.{book_in}
use Rattle.xa_tm.specs.InTurn as turns
use Rattle.xa_tm.specs.Refusing.{resolved_in, resolved_open_in, service_refusal_in, view_in}
use Rattle.xa_session.specs.Headroom.{HasHeadroom, first_headroom}
use Rattle.xa_session.specs.Hearing.{can_hear}
use Rattle.xa_session.specs.declared.session.Session.{Session}
use Rattle.xa_session.specs.declared.session.answers.Unfit.{Unfit}
use Rattle.xa_session.specs.declared.session.answers.Unfit.TheVariants as Unfits

-- ** what it stands at

-- each answer was heard as it came, so that none waits
abbrev pub AllHeard : Grid → Type 0
AllHeard g = (t r : ℕ) → HasLine g t r → (line_at g t r).answers.waiting ≡ []

-- the book has headroom for all that may still happen
pub record IsReady {L : Type 0} (s : Session L) : Type 0 where
  pub few : s.happenings ≤ first_headroom
  pub headroom : HasHeadroom (first_headroom - s.happenings) (book_in s.manager)
  pub heard : AllHeard s.lines

-- ** what it refuses

-- so much has happened that nothing more may
abbrev pub is_over : {L : Type 0} → Session L → Bool
is_over s = nat_le first_headroom s.happenings

-- what the table of refusals sees of its lines, and of the recoveries that its book would begin
abbrev pub lines_seen : {L : Type 0} → Session L → LineView
lines_seen s = record (lines_in s.lines) {
  resolving = λ r. length (resolved_in (book_in s.manager) r);
  resolving_open = λ r. length (resolved_open_in (book_in s.manager) r);
}

-- why it refuses a step, the first reason that applies: that so much has happened, or what the
-- table of refusals says
abbrev pub refusal_at : {L : Type 0} → Session L → Step → Option Refusal
refusal_at s step = if is_over s then Some Limit else refusal_of (view_in (book_in s.manager)) (lines_seen s) step

-- there is room for so many happenings more, and for one
abbrev pub has_room_for : {L : Type 0} → Session L → ℕ → Bool
has_room_for s n = not (is_over s) && nat_le n (first_headroom - s.happenings)

-- why it refuses steps that ask no line, one for each of these transactions and in turn, by why the
-- manager does: the first reason that applies
abbrev pub refusal_of_all : {L : Type 0} → Session L → (of_manager : Book → List Gtrid → Option Refusal) → List Gtrid → Option Refusal
refusal_of_all s of_manager gs = if has_room_for s (length gs) then of_manager (book_in s.manager) gs else Some Limit

-- why it refuses to decide these transactions so
abbrev pub decide_all_refusal : {L : Type 0} → Session L → Outcome → List Gtrid → Option Refusal
decide_all_refusal s outcome gs = refusal_of_all s (turns.decide_refusal outcome) gs

-- why it refuses that these are done
abbrev pub done_all_refusal : {L : Type 0} → Session L → List Gtrid → Option Refusal
done_all_refusal s gs = refusal_of_all s turns.done_refusal gs

-- why it refuses a thread's begin, the first reason that applies
abbrev pub begin_refusal : {L : Type 0} → Session L → (thread : ℕ) → Option Refusal
begin_refusal s t = if is_over s then Some Limit else service_refusal_in (book_in s.manager) t

-- ** what a call of the manager leaves that may ask the log

-- how much has happened, if so much does if it succeeds: no refusal is a happening, but a failure
-- of the log is
abbrev pub happenings_by : {A : Type 0} → Result A Refusal → (count : ℕ) → ℕ → ℕ
happenings_by (Ok x) count n = n + count
happenings_by (Err LogFault) count n = n + 1
happenings_by _ count n = n

-- the lines: if the log failed, the manager is down and all of them broke
abbrev pub lines_by : {A : Type 0} → Result A Refusal → Grid → Grid
lines_by (Err LogFault) g = new_grid g.threads g.rms
lines_by _ g = g

-- ** what it refuses of a line

-- the call that waits first on the line; none if the session has no such line
abbrev pub first_waiting : Grid → (thread rm : ℕ) → Option (Call Xid)
first_waiting g t r = if grid_has_line g t r then slice_get (line_at g t r).calls.waiting 0 else None

-- the same as a history knows it
abbrev pub known_waiting : Grid → (thread rm : ℕ) → Option KnownCall
known_waiting g t r = option_and_then known (first_waiting g t r)

-- the call that waits on the line after so many others, as a history knows it
abbrev pub known_at : Grid → (thread rm : ℕ) → ℕ → Option KnownCall
known_at g t r n = option_and_then known (if grid_has_line g t r then slice_get (line_at g t r).calls.waiting n else None)

-- why it refuses whatever is told of a line: as its loss, so an answer
abbrev pub line_refusal : {L : Type 0} → Session L → (thread rm : ℕ) → Option Refusal
line_refusal s t r = refusal_at s (Steps.Crash (Parts.Line t r))

-- why it refuses a call on the line
abbrev pub issue_refusal : {L : Type 0} → Session L → (thread rm : ℕ) → Call Xid → Option Refusal
issue_refusal s t r call = refusal_at s (Steps.Issue t r (map_call name_of call))

-- the call is an xa_recover
abbrev pub is_scan : Option (Call Xid) → Bool
is_scan (Some (Calls.Recover count start_scan end_scan)) = true
is_scan call = false

-- the call that waits first is an xa_recover: its page wasn't told yet, or was refused
abbrev pub awaits_page : Traffic → Bool
awaits_page t = is_scan (slice_get t.calls.waiting 0)

-- while a page is awaited, a recovery is Busy: before Full, which comes after it in the order of
-- the refusals, and if nothing else applies
abbrev pub behind_page : (awaited : Bool) → Option Refusal → Option Refusal
behind_page true None = Some Busy
behind_page true (Some Full) = Some Busy
behind_page awaited why = why

-- why it refuses a recovery of so many calls at a resource manager, which goes over the line of the
-- first thread
abbrev pub recovery_refusal : {L : Type 0} → Session L → (rm calls : ℕ) → Option Refusal
recovery_refusal s r n =
    behind_page (awaits_page (line_at s.lines 0 r))
    (if is_over s then Some Limit
    else refusal_by (grid_has_line s.lines 0 r) (recovery_guards (view_in (book_in s.manager)) (lines_seen s) r n))

-- of one that ends what was listed, and of one that first rolls back what is open of that
abbrev pub resolve_refusal : {L : Type 0} → Session L → (rm : ℕ) → Option Refusal
resolve_refusal s r = recovery_refusal s r ((lines_seen s).resolving r)

abbrev pub resolve_open_refusal : {L : Type 0} → Session L → (rm : ℕ) → Option Refusal
resolve_open_refusal s r = recovery_refusal s r ((lines_seen s).resolving_open r)

-- why it doesn't hear an answer to the call that waits first
abbrev pub unfit_for : Option (Call Xid) → Answer Xid → Option Unfit
unfit_for None answer = Some Unfits.NothingWaits
unfit_for (Some call) answer =
    if can_hear (map_call name_of call) (map_answer name_of answer) then None else Some Unfits.NoSuchAnswer

-- why it doesn't hear an answer on a line, the first reason that applies
abbrev pub unfit : {L : Type 0} → Session L → (thread rm : ℕ) → Answer Xid → Option Unfit
unfit s t r answer =
    option_or (option_map Unfits.Refused (line_refusal s t r)) (unfit_for (slice_get (line_at s.lines t r).calls.waiting 0) answer)

-- the states of the branch, as the session knows them, explain such an answer to the call that
-- waits first on the line
abbrev pub BranchExplains : {L : Type 0} → Session L → (thread rm : ℕ) → Answer Xid → Branch → Type 0
BranchExplains s t r answer b =
    (c : KnownCall) → known_waiting s.lines t r ≡ Some c → CanExplain (states_of s.monitor) (line t r) c (map_answer name_of answer) b

-- those of each branch do that is in some state
abbrev pub IsExplainable : {L : Type 0} → Session L → (thread rm : ℕ) → Answer Xid → Type 0
IsExplainable s t r answer = (b : Branch) → IsSomewhere (states_of s.monitor) b → BranchExplains s t r answer b

-- ** recoveries

-- calls wait last on the first thread's line to a resource manager, which a history knows as these.
-- No other line changed
pub record LetsWait (rm : ℕ) (known : List KnownCall) (old new : Grid) : Type 0 where
  pub calls : List (Call Xid)
  pub are : AreKnownAs calls known
  pub lines : new ≡ with_line old 0 rm (record (line_at old 0 rm) { calls = with_more (line_at old 0 rm).calls calls })
