-- How a session follows a history.
use Rattle.std.specs.Prelude.{ℕ, ◌≡◌, ◌+◌, length, Bool, true, List, [], ◌∷◌, Option, Some}
use Rattle.xa_base.specs.declared.branch.Gtrid.{Gtrid}
use Rattle.xa_line.specs.Grid.{HasLine, IsWhole, line_at}
use Rattle.xa_line.specs.Histories.{LineStands}
use Rattle.xa_model.specs.Facts.{next_call, origin, rm_up}
use Rattle.xa_model.specs.Facts.Distinct.{ApartRows}
use Rattle.xa_model.specs.Protocol.{IsRun, OldOrigin, Right, SoundAnswer}
use Rattle.xa_model.specs.Trace.{Answer, Call, Happening, Happening.Heard, Happening.Took, Line, Origin, Trace, Trace.From, Trace.Then, line}
use Rattle.xa_monitor.specs.Monitor.{HearsAnswer, Loses, Monitors, SaysTheSame}
use Rattle.xa_monitor.specs.Seen.{Seen.Start, Waits, break_of}
use Rattle.xa_tm.specs.Begins.{BeginsWith}
use Rattle.xa_tm.specs.Book.{Book, book_of}
use Rattle.xa_tm.specs.Calls.{book_in, log_in}
use Rattle.xa_tm.specs.Release.{HasReleased}
use Rattle.xa_session.specs.declared.session.Session.{Session}

-- a book is that of a history, except for transactions that were released
abbrev pub BookStands : Trace → Book → Type 0
BookStands tr k = (gone : Gtrid → Bool) × HasReleased gone (book_of tr) k

-- The session stands where the history leaves it: its book is the history's, except for
-- transactions that it has released, and the traffic of each line is the history's. No resource
-- manager of the history is down: what a driver tells of a crash is that lines are lost.
pub record StandsIn {L : Type 0} (tr : Trace) (s : Session L) : Type 0 where
  pub run : IsRun tr
  pub apart : ApartRows (origin tr).rows
  pub threads : s.lines.threads ≡ (origin tr).threads
  pub rms : s.lines.rms ≡ (origin tr).rms
  pub whole : IsWhole s.lines
  pub rms_up : (r : ℕ) → rm_up tr r ≡ true
  pub book : BookStands tr (book_in s.manager)
  pub lines : (t r : ℕ) → HasLine s.lines t r → LineStands tr (line t r) (line_at s.lines t r)

-- in each start that has the rows and records of its log, the session stands, and its monitor has
-- followed that nothing is seen yet
abbrev pub StandsAtStart : {L : Type 0} → (threads rms : ℕ) → Session L → Type 0
StandsAtStart threads rms s =
    (o : Origin) → BeginsWith threads rms s.manager o → (OldOrigin o → StandsIn (From o) s) × Monitors o Start s.monitor

-- ** what happens

-- the history with these after it, in turn
abbrev pub then_all : Trace → List Happening → Trace
then_all tr [] = tr
then_all tr (e ∷ es) = then_all (Then tr e) es

-- these are right to happen in turn, each after those before it
abbrev pub AreRight : Trace → List Happening → Type 0
AreRight tr [] = Unit
AreRight tr (e ∷ es) = Right tr e × AreRight (Then tr e) es

-- wherever the session stood, these were right to happen in turn, and the session then stands where
-- they lead
abbrev pub LeadsTo : {L : Type 0} → List Happening → (old new : Session L) → Type 0
LeadsTo es old new = (tr : Trace) → StandsIn tr old → AreRight tr es × StandsIn (then_all tr es) new

-- Wherever the session stood, this call waited first on the line, and no answer waited. If the
-- resource manager may have answered so, it is right that the answer is heard, and the session then
-- stands where both lead.
abbrev pub LeadsByAnswer : {L : Type 0} → Line → Call → Answer → (old new : Session L) → Type 0
LeadsByAnswer l c a old new =
    (tr : Trace) → StandsIn tr old → Waits tr l c
    × (SoundAnswer tr l c a → Right (Then tr (Took l c a)) (Heard l c a) × StandsIn (Then (Then tr (Took l c a)) (Heard l c a)) new)

-- Wherever the session stood, this call, or none, waited first on the line. The session then stands
-- where the loss of the line leads, whether the call wasn't done, or was with any answer that the
-- resource manager may have given.
abbrev pub LeadsByLoss : {L : Type 0} → Line → Option Call → (old new : Session L) → Type 0
LeadsByLoss l c old new =
    (tr : Trace) → StandsIn tr old → (next_call tr l ≡ c) × StandsIn (Then tr (break_of l)) new
    × ((k : Call) (a : Answer) → c ≡ Some k → SoundAnswer tr l k a → StandsIn (Then (Then tr (Took l k a)) (break_of l)) new)

-- ** and with the monitor

-- the session follows what its manager does in turn, and counts it: no branch is in other states
pub record FollowsAll {L : Type 0} (es : List Happening) (old new : Session L) : Type 0 where
  pub leads : LeadsTo es old new
  pub counted : new.happenings ≡ old.happenings + length es
  pub states : SaysTheSame old.monitor new.monitor

-- and so if it does one thing
abbrev pub Follows : {L : Type 0} → Happening → (old new : Session L) → Type 0
Follows e old new = FollowsAll (e ∷ []) old new

-- it follows an answer, and counts it, and its monitor follows it
pub record FollowsAnswer {L : Type 0} (l : Line) (c : Call) (a : Answer) (old new : Session L) : Type 0 where
  pub leads : LeadsByAnswer l c a old new
  pub counted : new.happenings ≡ old.happenings + 1
  pub states : HearsAnswer l c a old.monitor new.monitor

-- it follows the loss of a line, and counts it, and its monitor follows it
pub record FollowsLoss {L : Type 0} (l : Line) (c : Option Call) (old new : Session L) : Type 0 where
  pub leads : LeadsByLoss l c old new
  pub counted : new.happenings ≡ old.happenings + 1
  pub states : Loses l c old.monitor new.monitor

-- nothing happened, and all is as it was, except for room that was made
pub record StaysAs {L : Type 0} (old new : Session L) : Type 0 where
  pub book : book_in new.manager ≡ book_in old.manager
  pub log : log_in new.manager ≡ log_in old.manager
  pub lines : new.lines ≡ old.lines
  pub happenings : new.happenings ≡ old.happenings
  pub states : SaysTheSame old.monitor new.monitor
