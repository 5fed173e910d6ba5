-- What a conductor tells of outcomes is so, after all sessions.
use Rattle.std.specs.Prelude.{◌≡◌, ◌<◌, ◌⊎◌, ℕ, Bool, true, List, Option, Some, get_or, is_some, length}
use Rattle.std.specs.FinMap.{get}
use Rattle.std.specs.List.{list_any}
use Rattle.xa_base.specs.declared.branch.Branch.{Branch}
use Rattle.xa_base.specs.declared.branch.Gtrid.{Gtrid}
use Rattle.xa_base.specs.declared.state.Standing.{Standing}
use Rattle.xa_base.specs.declared.state.Standing.TheVariants.{Prepared}
use Rattle.xa_conduct.specs.Acting.{done_of}
use Rattle.xa_conduct.specs.Backing.{TransactionRests}
use Rattle.xa_conduct.specs.Moves.{ArePairedInOrder, parts_of, thread_in}
use Rattle.xa_conduct.specs.Plain.{is_gtrid}
use Rattle.xa_conduct.specs.Told.{AreReplies, joined_replies}
use Rattle.xa_conduct.specs.declared.transaction.Standing.{Standing as NotedStanding}
use Rattle.xa_conduct.specs.declared.transaction.Standing.TheVariants as standings
use Rattle.xa_conduct.specs.declared.transaction.Transaction.{Transaction}
use Rattle.xa_log.specs.Content.{Content}
use Rattle.xa_log.specs.Contract.{Moment}
use Rattle.xa_outcomes.specs.Transactions.{HasNoCommit, HasOneBranch, MayStandCommitted}
use Rattle.xa_requests.specs.declared.request.Request.{Request}
use Rattle.xa_requests.specs.declared.response.Response.{Response}
use Rattle.xa_server.specs.NamedLines.{lines_read}
use Rattle.xa_server.specs.Sessions.{AreServed, AreServed.Between, AreServed.NoneYet, AreServed.OneMore}
use Rattle.xa_server.specs.declared.server.Server.{Server}
use Rattle.xa_session.specs.Logging.{LeavesContent}
use Rattle.xa_truth.specs.Replies.{TellsCommitted, TellsOutcome, TellsRolledBack, TellsUnknown}
use Rattle.xa_truth.specs.Unknown.{WasLeftUnknown}

-- ** how a transaction ends

-- Each branch of it is committed, or stands prepared still with its row in the log, or its database
-- ended it by itself; or it only read, or never began.
pub record IsCommittedInLog (f : Branch → Standing) (log : Content) (g : Gtrid) : Type 0 where
  pub each : (b : Branch) → b.gtrid ≡ g → MayStandCommitted (f b)
  pub row_stays : (b : Branch) → b.gtrid ≡ g → f b ≡ Prepared → is_some (get log.decisions g) ≡ true

-- ** of which transaction a reply tells

-- The part of a line is a move of a thread, and the transaction that was noted of this thread has
-- this name, if the numbers of the name that was noted fit their types.
pub record IsMoved (noted : List Transaction) (part : List ℕ) (g : Gtrid) : Type 0 where
  pub thread : ℕ
  pub moves : thread_in part ≡ Some thread
  pub among : thread < length noted
  pub name : (d : Transaction) → is_gtrid (get_or noted thread d).gtrid ≡ true → g ≡ (get_or noted thread d).gtrid

-- ** what a session rests on

-- a request that passes was asked for by one of these lines, and done
abbrev pub was_done : List (List ℕ) → List Response → (Request → Bool) → Bool
was_done lines replies p = list_any p (done_of lines replies)

module _ {L : Type 0} (moment : L → Moment) (name : List ℕ) where
  -- A conductor that had noted these transactions was told a line of moves in one of these
  -- sessions, and replied so, which rests on what lines of the session asked for, and was done.
  abbrev pub WasReplied : (noted after : List Transaction) (line text : List ℕ) (last : Option (Server L)) (f : Branch → Standing)
      → AreServed moment name last f → Type 0
  WasReplied noted after line text _ _ NoneYet = ⊥
  WasReplied noted after line text _ _ (OneMore last from to handed o told seen now left done cut before handed_on is is_left honest may) =
      AreReplies (was_done (lines_read name is.lines) is.replies) noted after line text ⊎ WasReplied noted after line text last from before
  WasReplied noted after line text _ _ (Between last from to d how before was final) = WasReplied noted after line text last from before

  -- It noted this of a transaction, which rests on the same.
  abbrev pub WasNoted : Transaction → (last : Option (Server L)) (f : Branch → Standing) → AreServed moment name last f → Type 0
  WasNoted t _ _ NoneYet = ⊥
  WasNoted t _ _ (OneMore last from to handed o told seen now left done cut before handed_on is is_left honest may) =
      TransactionRests (was_done (lines_read name is.lines) is.replies) t ⊎ WasNoted t last from before
  WasNoted t _ _ (Between last from to d how before was final) = WasNoted t last from before

  -- ** what is so

  module _ (last : Option (Server L)) (f : Branch → Standing) (served : AreServed moment name last f) (log : Content) where
    -- What a reply to a move tells is so of the transaction of the thread that moved: that it is
    -- committed, and so none of its branches is rolled back or lost; that it is rolled back, and so
    -- none is committed; or that nobody knows, and its one branch was to be committed in one phase
    -- on a line that was lost.
    pub record ReplyIsSo (noted : List Transaction) (part text : List ℕ) : Type 0 where
      pub gtrid : Gtrid
      pub moved : TellsOutcome text → IsMoved noted part gtrid
      pub committed : TellsCommitted text → IsCommittedInLog f log gtrid
      pub rolled_back : TellsRolledBack text → HasNoCommit f gtrid
      pub unknown : TellsUnknown text → WasLeftUnknown moment name gtrid last f served
      pub alone : TellsUnknown text → HasOneBranch f gtrid

    -- what each of the replies to a line tells, of which there is one to each of its parts, in
    -- their order
    pub record RepliesAreSo (noted : List Transaction) (line text : List ℕ) : Type 0 where
      pub replies : List (List ℕ)
      pub are : text ≡ joined_replies replies
      pub each : ArePairedInOrder (ReplyIsSo noted) (parts_of line) replies

    -- and so is how it is noted that a transaction stands
    abbrev pub NoteIsSo : Gtrid → NotedStanding → Type 0
    NoteIsSo g standings.Committed = IsCommittedInLog f log g
    NoteIsSo g (standings.RolledBack why) = HasNoCommit f g
    NoteIsSo g standings.Unknown = WasLeftUnknown moment name g last f served × HasOneBranch f g
    NoteIsSo g _ = Unit {0}

-- ** after all sessions

-- What a conductor told in any of these sessions is so, in the log that the last one left and where
-- branches then stand. Sessions may go on, so it is so for ever.
abbrev pub RepliesAreTrue : {L : Type 0} → (L → Moment) → Type 0
RepliesAreTrue {L} moment =
    (name : List ℕ) (last : Server L) (f : Branch → Standing) (c : Content) (served : AreServed moment name (Some last) f)
    (noted after : List Transaction) (line text : List ℕ) → LeavesContent moment last.session.manager c
    → WasReplied moment name noted after line text (Some last) f served → RepliesAreSo moment name (Some last) f served c noted line text

-- The same of what it noted of any transaction, if the numbers of its name fit their types.
abbrev pub NotesAreTrue : {L : Type 0} → (L → Moment) → Type 0
NotesAreTrue {L} moment =
    (name : List ℕ) (last : Server L) (f : Branch → Standing) (c : Content) (served : AreServed moment name (Some last) f) (t : Transaction)
    → LeavesContent moment last.session.manager c → WasNoted moment name t (Some last) f served → is_gtrid t.gtrid ≡ true
    → NoteIsSo moment name (Some last) f served c t.gtrid t.standing
