-- Two sessions of a server over one log, worked out: of a transaction with a branch at each of two
-- databases. The first tells both votes, and is left in its `decide`; the second has one of the two
-- branches committed.
use Rattle.std.specs.Prelude.{◌≡◌, ℕ, Bool, true, false, if◌then◌else◌, codes, List, [], ◌∷◌, Some}
use Rattle.xa_base.specs.Branch.{branch_eq}
use Rattle.xa_base.specs.declared.answer.Answer.TheVariants.{Ret}
use Rattle.xa_base.specs.declared.branch.Gtrid.{Gtrid}
use Rattle.xa_base.specs.declared.call.Call.TheVariants as Calls
use Rattle.xa_base.specs.declared.code.Code.TheVariants.{Success}
use Rattle.xa_base.specs.declared.state.Standing.{Standing}
use Rattle.xa_base.specs.declared.refusal.Refusal.TheVariants.{LogFault}
use Rattle.xa_base.specs.declared.state.Standing.TheVariants.{Committed, Completed, Prepared, Unstarted}
use Rattle.xa_log.specs.Content.{Content}
use Rattle.xa_log.specs.Contract.{Moment}
use Rattle.xa_model.specs.Trace.{Branch, Call, Happening.Begun, Happening.Issued, How, Line, Origin, line_of}
use Rattle.xa_monitor.specs.Seen.{Seen, Seen.Answered, Seen.Did, Seen.Start}
use Rattle.xa_requests.specs.Requests.{request_of}
use Rattle.xa_requests.specs.declared.request.Request.{Request}
use Rattle.xa_requests.specs.declared.response.Response.{Response}
use Rattle.xa_requests.specs.declared.response.Response.TheVariants as responses
use Rattle.xa_server.specs.Performing.{Performs}
use Rattle.xa_server.specs.Sessions.{AreServed, HoldsLeft, IsEmptyLog, IsSession, IsSessionLeft, StartsOver}
use Rattle.xa_server.specs.Transactions.{AreServedFor}
use Rattle.xa_server.specs.Votes.{is_heard}
use Rattle.xa_server.specs.declared.server.Server.{Server}
use Rattle.xa_session.specs.Logging.{LeavesContent}
use Rattle.xa_tm.specs.Calls.{log_in}

-- ** what is told

-- a branch of the transaction at each of two databases
abbrev pub at_one : Gtrid → Branch
at_one g = record { gtrid = g; thread = 0; rm = 0 }

abbrev pub at_two : Gtrid → Branch
at_two g = record { gtrid = g; thread = 0; rm = 1 }

-- each of these calls was issued on the line, and answered XA_OK
abbrev pub made : Line → List Call → Seen → Seen
made l [] seen = seen
made l (c ∷ cs) seen = made l cs (Answered (Did seen (Issued l c)) l c (Ret Success))

-- the calls on a branch, up to its vote
abbrev pub to_vote : Branch → Seen → Seen
to_vote b seen = made (line_of b) (Calls.OpenRm ∷ Calls.Start b false ∷ Calls.End b false ∷ Calls.Prepare b ∷ []) seen

-- the first session tells both votes
abbrev pub votes_told : Gtrid → Seen
votes_told g = to_vote (at_two g) (to_vote (at_one g) (Did Start (Begun g)))

-- the second session tells that the branch at the one database is committed
abbrev pub told_second : Gtrid → Seen
told_second g = made (line_of (at_one g)) (Calls.OpenRm ∷ Calls.Commit (at_one g) false ∷ []) Start

-- ** two sessions that tell it

-- Two sessions of a manager of this name told this. The first was over an empty log; the second
-- over one that holds what the first left, or what a crash of its store left of that.
pub record TellThis {L : Type 0} (moment : L → Moment) (name : List ℕ) (g : Gtrid) (last : Server L) : Type 0 where
  pub empty : Content
  pub is_empty : IsEmptyLog empty
  pub handed : L
  pub holds : HoldsLeft moment empty handed
  pub one : Origin
  pub now : Server L
  pub first : Server L
  pub session : IsSession moment name handed one (votes_told g) now
  pub is_left : IsSessionLeft moment (votes_told g) now (votes_told g) first
  pub honest : (moment (log_in first.session.manager)).is_honest
  pub mid : Content
  pub leaves_mid : LeavesContent moment first.session.manager mid
  pub next : L
  pub holds_mid : HoldsLeft moment mid next
  pub two : Origin
  pub second : IsSession moment name next two (told_second g) last
  pub honest_last : (moment (log_in last.session.manager)).is_honest

-- ** where the branches stand

abbrev pub stand_at : Gtrid → (one two : Standing) → Branch → Standing
stand_at g one two b = if branch_eq (at_one g) b then one else (if branch_eq (at_two g) b then two else Unstarted)

-- Then one branch may stand committed and the other prepared still, and all others unstarted: so it
-- is told of all branches, and of those of this transaction alone.
pub record MayStandApart {L : Type 0} (moment : L → Moment) (name : List ℕ) (g : Gtrid) (last : Server L) : Type 0 where
  pub served : AreServed moment name (Some last) (stand_at g Committed Prepared)
  pub alone : (left : Content) → LeavesContent moment last.session.manager left → AreServedFor moment name g left (stand_at g Committed Prepared)
  pub committed : stand_at g Committed Prepared (at_one g) ≡ Committed
  pub prepared : stand_at g Committed Prepared (at_two g) ≡ Prepared

-- ** the lines of a driver that comes to this

-- a line of a driver that lets a call wait, and the one that tells its answer
pub record Spoken : Type 0 where
  pub issue : List ℕ
  pub answer : List ℕ

-- the first transaction of a new log
abbrev pub first_gtrid : Gtrid
first_gtrid = record { incarnation = 1; sequence = 1 }

-- the calls on its branch at the one database, up to its vote
abbrev pub lines_of_one : List Spoken
lines_of_one =
    record { issue = codes "issue 0 0 xa_open"; answer = codes "answer 0 0 xa_open 0" }
    ∷ record {
      issue = codes "issue 0 0 xa_start 00000000000000010000000000000001";
      answer = codes "answer 0 0 xa_start 00000000000000010000000000000001 0";
    }
    ∷ record {
      issue = codes "issue 0 0 xa_end 00000000000000010000000000000001 TMSUCCESS";
      answer = codes "answer 0 0 xa_end 00000000000000010000000000000001 0";
    }
    ∷ record {
      issue = codes "issue 0 0 xa_prepare 00000000000000010000000000000001";
      answer = codes "answer 0 0 xa_prepare 00000000000000010000000000000001 0";
    }
    ∷ []

-- and at the other
abbrev pub lines_of_two : List Spoken
lines_of_two =
    record { issue = codes "issue 0 1 xa_open"; answer = codes "answer 0 1 xa_open 0" }
    ∷ record {
      issue = codes "issue 0 1 xa_start 00000000000000010000000000000001";
      answer = codes "answer 0 1 xa_start 00000000000000010000000000000001 0";
    }
    ∷ record {
      issue = codes "issue 0 1 xa_end 00000000000000010000000000000001 TMSUCCESS";
      answer = codes "answer 0 1 xa_end 00000000000000010000000000000001 0";
    }
    ∷ record {
      issue = codes "issue 0 1 xa_prepare 00000000000000010000000000000001";
      answer = codes "answer 0 1 xa_prepare 00000000000000010000000000000001 0";
    }
    ∷ []

-- the second session commits the branch at the one database
abbrev pub lines_of_commit : List Spoken
lines_of_commit =
    record { issue = codes "issue 0 0 xa_open"; answer = codes "answer 0 0 xa_open 0" }
    ∷ record {
      issue = codes "issue 0 0 xa_commit 00000000000000010000000000000001";
      answer = codes "answer 0 0 xa_commit 00000000000000010000000000000001 0";
    }
    ∷ []

-- the reply tells that the call waits
abbrev pub is_issued : Response → Bool
is_issued (responses.Issued call) = true
is_issued reply = false

module _ {L : Type 0} (moment : L → Moment) where
  -- what the line asks for is done, and so replied
  pub record IsReplied (line : List ℕ) (old : Server L) (reply : Response) (new : Server L) : Type 0 where
    pub request : Request
    pub asked : request_of line ≡ Some request
    pub performed : Performs moment request old reply new

  -- the call waits then, and its answer is heard
  pub record IsMade (spoken : Spoken) (old new : Server L) : Type 0 where
    pub mid : Server L
    pub told : Response
    pub heard : Response
    pub issued : IsReplied spoken.issue old told mid
    pub waits : is_issued told ≡ true
    pub answered : IsReplied spoken.answer mid heard new
    pub hears : is_heard heard ≡ true

  -- all of these in turn
  abbrev pub AreMade : List Spoken → (old new : Server L) → Type 0
  AreMade [] old new = new ≡ old
  AreMade (s ∷ ss) old new = (mid : Server L) × IsMade s old mid × AreMade ss mid new

  -- The first session: it begins the transaction, hears both votes, and its log fails in the
  -- decision.
  pub record LeavesDeciding (old left : Server L) : Type 0 where
    pub begun : Server L
    pub begins : IsReplied (codes "begin 0") old (responses.Begun first_gtrid) begun
    pub mid : Server L
    pub one : AreMade lines_of_one begun mid
    pub now : Server L
    pub two : AreMade lines_of_two mid now
    pub deciding : IsReplied (codes "decide 00000000000000010000000000000001 commit") now (responses.Refused LogFault) left

  -- a server over this log was left so, and left this log
  pub record IsLeftInDecide (handed left : L) : Type 0 where
    pub first : Server L
    pub last : Server L
    pub starts : StartsOver moment 1 2 handed first
    pub leaves : LeavesDeciding first last
    pub log_is : left ≡ log_in last.session.manager

  -- a server over this log commits the one branch
  pub record Commits (handed : L) (last : Server L) : Type 0 where
    pub first : Server L
    pub starts : StartsOver moment 1 2 handed first
    pub commits : AreMade lines_of_commit first last

-- ** what follows

-- Of a transaction of two branches, at two databases, the one is committed and the other prepared
-- still after these two sessions, or its database has ended it by itself since: as they are
-- sessions that a server served, the last of them left so.
pub record AreWorkedOut {L : Type 0} (moment : L → Moment) (last : Server L) : Type 0 where
  pub told : TellThis moment [] first_gtrid last
  pub stand : MayStandApart moment [] first_gtrid last
  pub ended : (how : How) → AreServed moment [] (Some last) (stand_at first_gtrid Committed (Completed how))
