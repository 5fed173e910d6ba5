-- The headline of this manager: all that agreement and its invariant say, of a history and the list of events that came after it, the
-- oldest first. A moment is the end of any beginning of the list. For a system that had no past it is a start and the events stored
-- since then.
use Rattle.std.specs.Prelude.{◌≡◌, ◌≤◌, List, length, map}
use Rattle.xa_model.specs.Promises.Agreement.{AreAlike, AsLogged, ClosesLast, DoubtIsDown, HeuristicsAreHeld, IsCommitment, IsFinal, IsPrefixOf, call_of, ends, phases}
use Rattle.xa_model.specs.Promises.AgreementInvariant.{ClaimedIsPrepared, CommitHasRow, FreshGtrids, HandedOverAlone, NoStartAfterCommit, RollbackHasNoRow, RowsWerePrepared, SettledIsOver}
use Rattle.xa_model.specs.Promises.Commitment.{Phase}
use Rattle.xa_model.specs.Facts.{issued, origin, standing, taken}
use Rattle.xa_model.specs.Replies.History.{AtEventsSince, AtMomentsSince}
use Rattle.xa_model.specs.Trace.{Branch, Line, Origin, Trace, Trace.From}
use Rattle.xa_base.specs.declared.reply.Event.{Event}

pub record HeadlineSince (start : Trace) (events : List Event) : Type 0 where
  -- what a resource manager took from a line since it last broke is a prefix of what was issued on it
  pub prefix : AtMomentsSince (λ tr. (l : Line) → IsPrefixOf (map call_of (taken tr l)) (issued tr l)) start events
  -- where xa_close was issued on a line, it is the last call
  pub nothing_after_close : AtMomentsSince (λ tr. (l : Line) → ClosesLast (issued tr l)) start events
  -- each branch ends at most once
  pub ends_once : AtMomentsSince (λ tr. (b : Branch) → length (ends tr b) ≤ 1) start events
  -- a branch that was committed, rolled back, lost, read-only or forgotten stays so to the end
  pub stays_ended :
      AtEventsSince (λ tr e whole. (b : Branch) → IsFinal (standing tr b) → standing whole b ≡ standing tr b) start events
  -- no branch of a transaction is committed beside one that is rolled back or lost
  pub alike : AtMomentsSince AreAlike start events
  -- each transaction runs TCommit of Gray and Lamport: its branches are working at first
  pub at_first : (b : Branch) → phases (From (origin start)) b ≡ Phase.Working
  -- and each event is no step or some steps of it, over the branches that the transaction has in the end
  pub commitment : AtEventsSince IsCommitment start events
  -- a branch that its resource manager ended on its own is still heuristically completed there, or recorded as what it was
  pub heuristics : AtMomentsSince HeuristicsAreHeld start events
  -- a prepared branch is committed only with a row in the log, and rolled back only if there never is one, to the end
  pub logged : AtEventsSince AsLogged start events
  -- at most one change of the log is in doubt, only while the manager is down, and then no line holds anything
  pub doubt : AtMomentsSince DoubtIsDown start events
  -- a waiting xa_commit in two phases has its row, or its branch is settled
  pub commit_has_row : AtMomentsSince CommitHasRow start events
  -- a waiting xa_rollback is of a transaction that never had a row, or all of whose branches are settled
  pub rollback_has_no_row : AtMomentsSince RollbackHasNoRow start events
  -- no waiting xa_start is of a committed or a claimed transaction
  pub no_start_after_commit : AtMomentsSince NoStartAfterCommit start events
  -- each branch of a transaction that ever had a row is prepared, committed, ended alone or read-only
  pub rows_were_prepared : AtMomentsSince RowsWerePrepared start events
  -- a settled branch has ended, and a row leaves only when all branches of its transaction are settled
  pub settled_is_over : AtMomentsSince SettledIsOver start events
  -- no row and no branch is of a transaction that may still be begun
  pub fresh_gtrids : AtMomentsSince FreshGtrids start events
  -- a transaction that was committed in one phase has exactly one branch, and never a row
  pub handed_over_alone : AtMomentsSince HandedOverAlone start events
  -- each branch of a claimed transaction is prepared, heuristically completed or read-only
  pub claimed_is_prepared : AtMomentsSince ClaimedIsPrepared start events

-- the same of a start and all events since
abbrev pub Headline : Origin → List Event → Type 0
Headline o events = HeadlineSince (From o) events
