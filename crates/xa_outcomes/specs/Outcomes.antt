-- What a session saw of the outcome of a transaction is so, after all sessions.
use Rattle.std.specs.Prelude.{◌≡◌, ◌⊎◌, true, Option, Some, None}
use Rattle.xa_base.specs.Branch.{branch_eq, gtrid_eq}
use Rattle.xa_base.specs.StateTable.{Kind, asks_of}
use Rattle.xa_base.specs.declared.answer.Answer.TheVariants.{Ret}
use Rattle.xa_base.specs.declared.branch.Gtrid.{Gtrid}
use Rattle.xa_base.specs.declared.call.Call.TheVariants as Calls
use Rattle.xa_base.specs.declared.code.Code.TheVariants.{Heuristic, Success}
use Rattle.xa_base.specs.declared.state.Standing.{Standing}
use Rattle.xa_base.specs.declared.state.Standing.TheVariants.{Committed, Completed, Forgotten, Prepared}
use Rattle.xa_base.specs.declared.step.Outcome.TheVariants as Outcomes
use Rattle.xa_model.specs.Facts.{has_gtrid, lists_row}
use Rattle.xa_model.specs.Promises.Agreement.{IsUndone}
use Rattle.xa_model.specs.Trace.{Branch, Fault, Fault.InDecide, Happening.Decided, Happening.Issued, How, Origin}
use Rattle.xa_monitor.specs.Seen.{Seen, Seen.Answered, Seen.Did, Seen.Lost, Seen.Start}
use Rattle.xa_monitor.specs.Sessions.{AfterSessions, AfterSessions.Between, AfterSessions.NoneYet, AfterSessions.OneMore, Finds, IsCommitting, Log}

-- ** what is seen of a transaction

-- it was decided to commit
abbrev pub IsSeenDecided : Gtrid → Seen → Type 0
IsSeenDecided g Start = ⊥
IsSeenDecided g (Did seen (Decided h Outcomes.Commit)) = (gtrid_eq h g ≡ true) ⊎ IsSeenDecided g seen
IsSeenDecided g (Did seen e) = IsSeenDecided g seen
IsSeenDecided g (Answered seen l c a) = IsSeenDecided g seen
IsSeenDecided g (Lost seen l c) = IsSeenDecided g seen

-- an xa_commit in one phase was issued of a branch of it
abbrev pub IsHandedOver : Gtrid → Seen → Type 0
IsHandedOver g Start = ⊥
IsHandedOver g (Did seen (Issued l (Calls.Commit b true))) = (gtrid_eq b.gtrid g ≡ true) ⊎ IsHandedOver g seen
IsHandedOver g (Did seen e) = IsHandedOver g seen
IsHandedOver g (Answered seen l c a) = IsHandedOver g seen
IsHandedOver g (Lost seen l c) = IsHandedOver g seen

-- the log failed in a decision to commit it, with others perhaps
abbrev pub IsLeftDeciding : Gtrid → Option Fault → Type 0
IsLeftDeciding g (Some (InDecide gs)) = has_gtrid gs g ≡ true
IsLeftDeciding g _ = ⊥

-- the branch voted XA_OK
abbrev pub SaidYes : Branch → Seen → Type 0
SaidYes b Start = ⊥
SaidYes b (Did seen e) = SaidYes b seen
SaidYes b (Answered seen l (Calls.Prepare c) (Ret Success)) = (branch_eq c b ≡ true) ⊎ SaidYes b seen
SaidYes b (Answered seen l c a) = SaidYes b seen
SaidYes b (Lost seen l c) = SaidYes b seen

-- it was decided to commit, after the vote XA_OK of this branch of it
abbrev pub IsDecidedAfterVote : Branch → Seen → Type 0
IsDecidedAfterVote b Start = ⊥
IsDecidedAfterVote b (Did seen (Decided h Outcomes.Commit)) = ((gtrid_eq h b.gtrid ≡ true) × SaidYes b seen) ⊎ IsDecidedAfterVote b seen
IsDecidedAfterVote b (Did seen e) = IsDecidedAfterVote b seen
IsDecidedAfterVote b (Answered seen l c a) = IsDecidedAfterVote b seen
IsDecidedAfterVote b (Lost seen l c) = IsDecidedAfterVote b seen

-- what was asked is asked of the branch
abbrev pub IsAskedOf : Option (Kind × Branch) → Branch → Type 0
IsAskedOf (Some (k, c)) b = branch_eq c b ≡ true
IsAskedOf None b = ⊥

-- an answer told that the database had ended the branch by itself, and how
abbrev pub TellsHeuristic : Branch → How → Seen → Type 0
TellsHeuristic b how Start = ⊥
TellsHeuristic b how (Did seen e) = TellsHeuristic b how seen
TellsHeuristic b how (Answered seen l c (Ret (Heuristic h))) = (IsAskedOf (asks_of c) b × (h ≡ how)) ⊎ TellsHeuristic b how seen
TellsHeuristic b how (Answered seen l c a) = TellsHeuristic b how seen
TellsHeuristic b how (Lost seen l c) = TellsHeuristic b how seen

-- ** never decided

-- None of these sessions decided to commit it, nor issued an xa_commit in one phase of a branch of
-- it, nor was left in a decision to commit it.
abbrev pub WasNeverDecided : Gtrid → (log : Log) (f : Branch → Standing) → AfterSessions log f → Type 0
WasNeverDecided g _ _ (NoneYet i) = Unit
WasNeverDecided g _ _ (OneMore log from to o seen fails done cut before found session may) =
    (IsSeenDecided g seen → ⊥) × (IsHandedOver g seen → ⊥) × (IsLeftDeciding g fails → ⊥) × WasNeverDecided g log from before
WasNeverDecided g _ _ (Between log from to d how before was final) = WasNeverDecided g log from before

-- Then none of its branches is committed.
abbrev pub NeverDecidedIsNeverCommitted : Type 0
NeverDecidedIsNeverCommitted =
    (log : Log) (f : Branch → Standing) (after : AfterSessions log f) (b : Branch) → WasNeverDecided b.gtrid log f after → f b ≡ Committed → ⊥

-- The same, except that the last of them may have been left in such a decision.
abbrev pub IsUndecidedSoFar : Gtrid → (log : Log) (f : Branch → Standing) → AfterSessions log f → Type 0
IsUndecidedSoFar g _ _ (NoneYet i) = Unit
IsUndecidedSoFar g _ _ (OneMore log from to o seen fails done cut before found session may) =
    (IsSeenDecided g seen → ⊥) × (IsHandedOver g seen → ⊥) × WasNeverDecided g log from before
IsUndecidedSoFar g _ _ (Between log from to d how before was final) = IsUndecidedSoFar g log from before

-- Then none of its branches is committed yet.
abbrev pub UndecidedIsUncommitted : Type 0
UndecidedIsUncommitted =
    (log : Log) (f : Branch → Standing) (after : AfterSessions log f) (b : Branch) → IsUndecidedSoFar b.gtrid log f after → f b ≡ Committed → ⊥

-- ** decided

-- One of these sessions decided to commit the branch's transaction, after the branch's vote XA_OK.
abbrev pub WasDecided : Branch → (log : Log) (f : Branch → Standing) → AfterSessions log f → Type 0
WasDecided b _ _ (NoneYet i) = ⊥
WasDecided b _ _ (OneMore log from to o seen fails done cut before found session may) = IsDecidedAfterVote b seen ⊎ WasDecided b log from before
WasDecided b _ _ (Between log from to d how before was final) = WasDecided b log from before

-- The branch is committed, or stands prepared still, or its database ended it by itself. No branch
-- of its transaction is rolled back or lost; and as long as one stands prepared, each start over
-- the log finds the row.
pub record WillCommit (log : Log) (f : Branch → Standing) (b : Branch) : Type 0 where
  pub commits : IsCommitting (f b)
  pub none_undone : (c : Branch) → c.gtrid ≡ b.gtrid → IsUndone (f c) → ⊥
  pub row_stays : (c : Branch) (next : Origin) → c.gtrid ≡ b.gtrid → f c ≡ Prepared → Finds log next → lists_row next.rows b.gtrid ≡ true

abbrev pub DecidedWillCommit : Type 0
DecidedWillCommit =
    (log : Log) (f : Branch → Standing) (after : AfterSessions log f) (b : Branch) → WasDecided b log f after → WillCommit log f b

-- One of these sessions saw the branch's vote XA_OK.
abbrev pub HasSaidYes : Branch → (log : Log) (f : Branch → Standing) → AfterSessions log f → Type 0
HasSaidYes b _ _ (NoneYet i) = ⊥
HasSaidYes b _ _ (OneMore log from to o seen fails done cut before found session may) = SaidYes b seen ⊎ HasSaidYes b log from before
HasSaidYes b _ _ (Between log from to d how before was final) = HasSaidYes b log from before

-- One of these sessions found the row of the branch's transaction, and one before it had seen the
-- branch's vote XA_OK.
abbrev pub WasFoundVoted : Branch → (log : Log) (f : Branch → Standing) → AfterSessions log f → Type 0
WasFoundVoted b _ _ (NoneYet i) = ⊥
WasFoundVoted b _ _ (OneMore log from to o seen fails done cut before found session may) =
    ((lists_row o.rows b.gtrid ≡ true) × HasSaidYes b log from before) ⊎ WasFoundVoted b log from before
WasFoundVoted b _ _ (Between log from to d how before was final) = WasFoundVoted b log from before

-- So will it be then.
abbrev pub FoundWillCommit : Type 0
FoundWillCommit =
    (log : Log) (f : Branch → Standing) (after : AfterSessions log f) (b : Branch) → WasFoundVoted b log f after → WillCommit log f b

-- ** ended by a database

-- One of these sessions was told so.
abbrev pub WasToldHeuristic : Branch → How → (log : Log) (f : Branch → Standing) → AfterSessions log f → Type 0
WasToldHeuristic b how _ _ (NoneYet i) = ⊥
WasToldHeuristic b how _ _ (OneMore log from to o seen fails done cut before found session may) =
    TellsHeuristic b how seen ⊎ WasToldHeuristic b how log from before
WasToldHeuristic b how _ _ (Between log from to d by before was final) = WasToldHeuristic b how log from before

-- the database ended the branch by itself, and so; it may have forgotten that since
abbrev pub IsEndedAs : How → Standing → Type 0
IsEndedAs how (Completed h) = h ≡ how
IsEndedAs how (Forgotten h) = h ≡ how
IsEndedAs how _ = ⊥

-- So it is after all of them, whatever was asked and answered since.
abbrev pub HeuristicEndsStay : Type 0
HeuristicEndsStay =
    (log : Log) (f : Branch → Standing) (after : AfterSessions log f) (b : Branch) (how : How) → WasToldHeuristic b how log f after
    → IsEndedAs how (f b)
