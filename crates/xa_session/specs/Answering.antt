-- What it is that a session hears an answer.
use Rattle.std.specs.Prelude.{◌≡◌, ◌⊎◌, ℕ, Some, slice_get}
use Rattle.xa_base.specs.Call.{map_call}
use Rattle.xa_base.specs.Xid.{Xid}
use Rattle.xa_base.specs.declared.branch.Branch.{Branch}
use Rattle.xa_base.specs.declared.call.Call.{Call as Waiting}
use Rattle.xa_base.specs.declared.refusal.Refusal.{Refusal}
use Rattle.xa_line.specs.Grid.{line_at}
use Rattle.xa_model.specs.Facts.{record_of}
use Rattle.xa_model.specs.Replies.History.{name_of}
use Rattle.xa_model.specs.Replies.Steps.{accepted}
use Rattle.xa_model.specs.Trace.{Answer, Call, Fault.InHear, Happening.Heard, line}
use Rattle.xa_session.specs.Following.{FollowsAnswer}
use Rattle.xa_session.specs.declared.session.Session.{Session}
use Rattle.xa_session.specs.declared.session.answers.Unfit.{Unfit}
use Rattle.xa_session.specs.declared.session.answers.Unfit.TheVariants as Unfits
use Rattle.xa_monitor.specs.Seen.{HasAnswer}
use Rattle.xa_tm.specs.Book.{after, doubt_of}
use Rattle.xa_tm.specs.Calls.{FailsBy, book_in}

module _ {L : Type 0} where
  -- the call that waits first on a line, as a history knows it
  abbrev pub IsFirst : Session L → (thread rm : ℕ) → Call → Type 0
  IsFirst s t r c =
      (call : Waiting Xid) × (slice_get (line_at s.lines t r).calls.waiting 0 ≡ Some call) × (accepted (map_call name_of call) ≡ Some c)

  -- that call was answered so
  pub record HearsAs (thread rm : ℕ) (c : Call) (answer : Answer) (old new : Session L) : Type 0 where
    -- the manager has heard it, the call may be answered so, and both session and monitor follow it
    pub book : book_in new.manager ≡ after (book_in old.manager) (Heard (line thread rm) c answer)
    pub has : HasAnswer c answer
    pub follows : FollowsAnswer (line thread rm) c answer old new

  -- that call was answered so, and isn't heard: memory was refused, or the log failed as the end
  -- was to be noted there
  abbrev pub FailsToHear : (thread rm : ℕ) → Call → Answer → (old new : Session L) → Refusal → Type 0
  FailsToHear t r c answer old new n =
      FailsBy (doubt_of (record_of c answer)) (InHear (line t r)) (book_in old.manager) (book_in new.manager) n

-- what an answer may be unfit for that the session and the call allow: no state explains it, memory
-- was refused, or the log failed
abbrev pub IsFoundLater : Unfit → Type 0
IsFoundLater u = ((n : Refusal) × (u ≡ Unfits.Refused n)) ⊎ ((b : Branch) × (u ≡ Unfits.NoSuchState b))
