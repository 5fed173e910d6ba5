-- The one right history of sessions, and which part of it is which session.
use Rattle.std.specs.Prelude.{◌≡◌, Option}
use Rattle.xa_base.specs.declared.state.Standing.{Standing}
use Rattle.xa_base.specs.declared.step.Part.TheVariants as Part
use Rattle.xa_model.specs.Promises.Processes.{resumed}
use Rattle.xa_model.specs.Trace.{Branch, Fault, Happening, Happening.CompletedAlone, Happening.Crashed, Happening.PutOff, Happening.Took, Happening.Voted, Origin, Trace, Trace.Then}
use Rattle.xa_monitor.specs.Across.{continued_by}
use Rattle.xa_monitor.specs.Seen.{IsHistory, Seen}
use Rattle.xa_monitor.specs.Sessions.{AfterSessions, AfterSessions.Between, AfterSessions.NoneYet, AfterSessions.OneMore, FindsLog, HaveOneHistory, Log, failed_in, nothing_yet}

-- ** what wasn't told

-- a resource manager did it, or a line broke
abbrev pub IsUntold : Happening → Type 0
IsUntold (Took l c a) = Unit
IsUntold (CompletedAlone b how) = Unit
IsUntold (Voted b v) = Unit
IsUntold (PutOff b n) = Unit
IsUntold (Crashed (Part.Line t r)) = Unit
IsUntold _ = ⊥

-- from the one history to the other only that happened
pub data GoesOnUntold (told : Trace) : Trace → Type 0 where
  NoMore : GoesOnUntold told told
  Goes : (now : Trace) (e : Happening) → IsUntold e → GoesOnUntold told now → GoesOnUntold told (Then now e)

-- ** the parts

-- A session is the last part of the history. Its start finds the rows and records of its past;
-- then comes what was seen in it, what wasn't told of it yet, and the step in which its log
-- failed, if it did.
pub record IsPart (o : Origin) (seen : Seen) (fails : Option Fault) (past whole : Trace) : Type 0 where
  pub finds : FindsLog past o
  pub told : Trace
  pub is_history : IsHistory o seen told
  pub now : Trace
  pub untold : GoesOnUntold told now
  pub joined : whole ≡ continued_by (resumed past o) (failed_in fails now)

-- The history is of these sessions, each a part of it, in their order. Between two, and after the
-- last, only databases did something.
abbrev pub IsOfSessions : (log : Log) (f : Branch → Standing) → AfterSessions log f → Trace → Type 0
IsOfSessions _ _ (NoneYet i) whole = whole ≡ nothing_yet i
IsOfSessions _ _ (OneMore log from to o seen fails done cut before found session may) whole =
    (past : Trace) × IsOfSessions log from before past × IsPart o seen fails past whole
IsOfSessions _ _ (Between log from to d how before was final) whole =
    (past : Trace) × IsOfSessions log from before past × (whole ≡ Then past (CompletedAlone d how))

-- the one right history of them
pub record HaveHistoryInParts (log : Log) (f : Branch → Standing) (after : AfterSessions log f) : Type 0 where
  pub history : HaveOneHistory log f
  pub parts : IsOfSessions log f after history.whole

abbrev pub SessionsAreParts : Type 0
SessionsAreParts = (log : Log) (f : Branch → Standing) (after : AfterSessions log f) → HaveHistoryInParts log f after
