-- What each right happening keeps lasts from a session to the end of all of them.
use Rattle.std.proofs.Common.{◌⊎◌, inl, inr, length, Option, Some, None, sym, subst}
use Rattle.xa_base.specs.declared.state.Standing.{Standing}
use Rattle.xa_base.specs.declared.step.Part.TheVariants as Part
use Rattle.xa_model.specs.Promises.Processes.{gone, resumed}
use Rattle.xa_model.specs.Protocol.{AllRight}
use Rattle.xa_model.specs.Trace.{Branch, Fault, Happening, Happening.CompletedAlone, Happening.Crashed, Happening.Failed, Happening.PutOff, Happening.Restarted, Happening.Voted, Origin, Trace, Trace.From, Trace.Then}
use Rattle.xa_monitor.specs.Across.{continued_by}
use Rattle.xa_monitor.specs.Seen.{Alone, Alone.Ends, Alone.NoMore as AloneNoMore, Alone.PutsOff, Alone.Votes, IsHistory, Seen}
use Rattle.xa_monitor.specs.Sessions.{AfterSessions, AfterSessions.Between, AfterSessions.NoneYet, AfterSessions.OneMore, Log, failed_in}
use Rattle.xa_outcomes.specs.Parts.{GoesOnUntold, GoesOnUntold.Goes, GoesOnUntold.NoMore, IsOfSessions}

module _ (Q : Trace → Type 0) (step : (tr : Trace) (e : Happening) → AllRight (Then tr e) → Q tr → Q (Then tr e)) where
  pub on_continued : (p tr : Trace) → AllRight (continued_by p tr) → Q p → Q (continued_by p tr)
  on_continued p (From o) right q = q
  on_continued p (Then tr e) right q = step (continued_by p tr) e right (on_continued p tr right.0 q)

  pub on_alone : (p tr now : Trace) → Alone tr now → AllRight (continued_by p now) → Q (continued_by p tr) → Q (continued_by p now)
  on_alone p tr _ AloneNoMore right q = q
  on_alone p tr _ (Votes now b v a) right q = step (continued_by p now) (Voted b v) right (on_alone p tr now a right.0 q)
  on_alone p tr _ (PutsOff now b n a) right q = step (continued_by p now) (PutOff b n) right (on_alone p tr now a right.0 q)
  on_alone p tr _ (Ends now b how a s) right q = step (continued_by p now) (CompletedAlone b how) right (on_alone p tr now a right.0 q)

  on_untold : (p told now : Trace) → GoesOnUntold told now → AllRight (continued_by p now) → Q (continued_by p told) → Q (continued_by p now)
  on_untold p told _ NoMore right q = q
  on_untold p told _ (Goes now e u on) right q = step (continued_by p now) e right (on_untold p told now on right.0 q)

  on_failed : (p now : Trace) (fails : Option Fault) → AllRight (continued_by p (failed_in fails now)) → Q (continued_by p now)
      → Q (continued_by p (failed_in fails now))
  on_failed p now None right q = q
  on_failed p now (Some f) right q = step (continued_by p now) (Failed f) right q

pub right_past : (p tr : Trace) → AllRight (continued_by p tr) → AllRight p
right_past p (From o) right = right
right_past p (Then tr e) right = right_past p tr right.0

pub right_alone : (p tr now : Trace) → Alone tr now → AllRight (continued_by p now) → AllRight (continued_by p tr)
right_alone p tr _ AloneNoMore right = right
right_alone p tr _ (Votes now b v a) right = right_alone p tr now a right.0
right_alone p tr _ (PutsOff now b n a) right = right_alone p tr now a right.0
right_alone p tr _ (Ends now b how a s) right = right_alone p tr now a right.0

right_untold : (p told now : Trace) → GoesOnUntold told now → AllRight (continued_by p now) → AllRight (continued_by p told)
right_untold p told _ NoMore right = right
right_untold p told _ (Goes now e u on) right = right_untold p told now on right.0

pub right_failed : (p now : Trace) (fails : Option Fault) → AllRight (continued_by p (failed_in fails now)) → AllRight (continued_by p now)
right_failed p now None right = right
right_failed p now (Some f) right = right.0

-- what was seen in a session lasts, if each right happening keeps it: what any of them saw is so of
-- the whole
module _ (Saw : Seen → Type 0) (Q : Trace → Type 0) (step : (tr : Trace) (e : Happening) → AllRight (Then tr e) → Q tr → Q (Then tr e))
    (saw_so : (p : Trace) (o : Origin) (seen : Seen) (told : Trace) → IsHistory o seen told → AllRight (continued_by p told) → Saw seen
    → Q (continued_by p told)) where
  -- one of these sessions saw it
  abbrev SomeSaw : (log : Log) (f : Branch → Standing) → AfterSessions log f → Type 0
  SomeSaw _ _ (NoneYet i) = ⊥
  SomeSaw _ _ (OneMore log from to o seen fails done cut before found session may) = Saw seen ⊎ SomeSaw log from before
  SomeSaw _ _ (Between log from to d how before was final) = SomeSaw log from before

  pub some_lasts : (log : Log) (f : Branch → Standing) (after : AfterSessions log f) (whole : Trace) → IsOfSessions log f after whole
      → AllRight whole → SomeSaw log f after → Q whole
  some_lasts _ _ (NoneYet i) whole is right was = absurd was
  some_lasts _ _ (OneMore log from to o seen fails done cut before found session may) whole (past, parts, part) right was =
      subst Q (sym part.joined) (by (some_lasts log from before past parts all_past) was)
    where
      all : AllRight (continued_by (resumed past o) (failed_in fails part.now))
      all = subst AllRight part.joined right

      all_past : AllRight past
      all_past = (right_past (resumed past o) (failed_in fails part.now) all).0.0

      all_now : AllRight (continued_by (resumed past o) part.now)
      all_now = right_failed (resumed past o) part.now fails all

      by : (SomeSaw log from before → Q past) → Saw seen ⊎ SomeSaw log from before → Q (continued_by (resumed past o) (failed_in fails part.now))
      by rest (inl here) =
          on_failed Q step (resumed past o) part.now fails all
          (on_untold Q step (resumed past o) part.told part.now part.untold all_now
          (saw_so (resumed past o) o seen part.told part.is_history (right_untold (resumed past o) part.told part.now part.untold all_now) here))
      by rest (inr earlier) =
          let resumes = right_past (resumed past o) (failed_in fails part.now) all in
          on_continued Q step (resumed past o) (failed_in fails part.now) all
          (step (gone past) (Restarted o.incarnation (length o.rows) (length o.heuristic_rows)) resumes
          (step past (Crashed Part.Manager) resumes.0 (rest earlier)))
  some_lasts _ _ (Between log from to d how before was final) whole (past, parts, is) right decided =
      let all : AllRight (Then past (CompletedAlone d how)) = subst AllRight is right in
      subst Q (sym is) (step past (CompletedAlone d how) all (some_lasts log from before past parts all.0 decided))
