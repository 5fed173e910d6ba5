-- Ends that were heard: where a database has answered that a branch is committed or rolled back, it is so for ever.
use Rattle.std.specs.Prelude.{◌≡◌, ◌⊎◌, ℕ, true, List, Option, Some, None}
use Rattle.xa_base.specs.Branch.{branch_eq}
use Rattle.xa_base.specs.StateTable.{Kind, Kind.Commit, Kind.OnePhase, Kind.Prepare, Kind.Rollback, asks_of, broken}
use Rattle.xa_base.specs.declared.answer.Answer.TheVariants.{Page, Ret}
use Rattle.xa_base.specs.declared.code.Code.TheVariants as Codes
use Rattle.xa_base.specs.declared.state.Standing.{Standing}
use Rattle.xa_base.specs.declared.state.Standing.TheVariants.{Committed, RolledBack}
use Rattle.xa_log.specs.Content.{Content}
use Rattle.xa_log.specs.Contract.{Moment}
use Rattle.xa_model.specs.Trace.{Branch, Code, Line, Origin}
use Rattle.xa_monitor.specs.Agreement.{MayAllStand}
use Rattle.xa_monitor.specs.Seen.{Seen, Seen.Answered, Seen.Did, Seen.Lost, Seen.Start}
use Rattle.xa_monitor.specs.Sessions.{AfterSessions, AfterSessions.Between, AfterSessions.NoneYet, AfterSessions.OneMore, Log}
use Rattle.xa_monitor.specs.Standings.{Comes}
use Rattle.xa_server.specs.LeftSessions.{Databases, HaveLeft, under}
use Rattle.xa_server.specs.Sessions.{AreServed, AreServed.Between as EndsBetween, AreServed.NoneYet as NoneServed, AreServed.OneMore as OneServed, HoldsLeft, IsSession, IsSessionLeft}
use Rattle.xa_server.specs.declared.server.Server.{Server}
use Rattle.xa_tm.specs.Calls.{log_in}

-- how a branch ended, by the answer to what was asked of it: XA_OK to xa_commit or xa_rollback, or an XA_RB code
abbrev pub end_told : Kind → Code → Option Standing
end_told Commit Codes.Success = Some Committed
end_told OnePhase Codes.Success = Some Committed
end_told OnePhase (Codes.RolledBack code) = Some RolledBack
end_told Rollback Codes.Success = Some RolledBack
end_told Rollback (Codes.RolledBack code) = Some RolledBack
end_told Prepare (Codes.RolledBack code) = Some RolledBack
end_told _ _ = None

-- the answer to what was asked tells that this branch ended so
abbrev pub AnswerTellsEnd : Option (Kind × Branch) → Code → Branch → Standing → Type 0
AnswerTellsEnd (Some (k, c)) a b s = (branch_eq c b ≡ true) × (end_told k a ≡ Some s)
AnswerTellsEnd None a b s = ⊥

-- such an answer was heard in what was seen
abbrev pub TellsEnd : Branch → Standing → Seen → Type 0
TellsEnd b s Start = ⊥
TellsEnd b s (Did seen e) = TellsEnd b s seen
TellsEnd b s (Answered seen l c (Ret a)) = AnswerTellsEnd (asks_of c) a b s ⊎ TellsEnd b s seen
TellsEnd b s (Answered seen l c (Page names)) = TellsEnd b s seen
TellsEnd b s (Lost seen l c) = TellsEnd b s seen

-- one of these sessions heard it
abbrev pub WasToldEnd : Branch → Standing → (log : Log) (f : Branch → Standing) → AfterSessions log f → Type 0
WasToldEnd b s _ _ (NoneYet i) = ⊥
WasToldEnd b s _ _ (OneMore log from to o seen fails done cut before found session may) = TellsEnd b s seen ⊎ WasToldEnd b s log from before
WasToldEnd b s _ _ (Between log from to d how before was final) = WasToldEnd b s log from before

-- Behind all sessions the branch stands so, whatever was asked and answered since.
abbrev pub HeardEndsStay : Type 0
HeardEndsStay = (log : Log) (f : Branch → Standing) (after : AfterSessions log f) (b : Branch) (s : Standing) → WasToldEnd b s log f after → f b ≡ s

-- ** of sessions that a server serves

-- the branch ended: it stands committed or rolled back
abbrev pub IsEnd : Standing → Type 0
IsEnd s = (s ≡ Committed) ⊎ (s ≡ RolledBack)

-- the lines of one of these sessions and their replies tell such an answer
abbrev pub WasToldEndServed : {L : Type 0} (moment : L → Moment) (name : List ℕ) (b : Branch) (s : Standing) (last : Option (Server L))
    (f : Branch → Standing) → AreServed moment name last f → Type 0
WasToldEndServed moment name b s _ _ NoneServed = ⊥
WasToldEndServed moment name b s _ _ (OneServed last from to handed o told seen now left done cut before handed_on is is_left honest may) =
    TellsEnd b s told ⊎ WasToldEndServed moment name b s last from before
WasToldEndServed moment name b s _ _ (EndsBetween last from to d how before was final) = WasToldEndServed moment name b s last from before

-- So it stands behind all of them.
abbrev pub ServedEndsStay : {L : Type 0} → (L → Moment) → Type 0
ServedEndsStay {L} moment =
    (name : List ℕ) (last : Option (Server L)) (f : Branch → Standing) (served : AreServed moment name last f) (b : Branch) (s : Standing)
    → WasToldEndServed moment name b s last f served → f b ≡ s

-- And where each session has a log of a type of its own: what had ended before one, and what was heard in it to have ended, stands so behind it.
abbrev pub SessionsKeepEnds : {L : Type 0} → (L → Moment) → Type 0
SessionsKeepEnds {L} moment =
    (name : List ℕ) (from to : Databases) (c : Content) (found : List Branch) (handed : L) (o : Origin) (told seen : Seen) (now left : Server L)
    (done cut : List Line) (b : Branch) (s : Standing) → HaveLeft name from c found → HoldsLeft moment c handed
    → IsSession moment name handed o told now → IsSessionLeft moment told now seen left → (moment (log_in left.session.manager)).is_honest
    → MayAllStand o seen (λ x. Comes seen x (broken (under name from x))) done cut (under name to)
    → (IsEnd s × (under name from b ≡ s)) ⊎ TellsEnd b s seen → under name to b ≡ s
