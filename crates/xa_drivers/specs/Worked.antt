-- A faithful driver, worked out; and drivers that aren't, one for each rule.
use Rattle.std.specs.Prelude.{◌≡◌, ◌≢◌, true, false, List, [], ◌∷◌, Some, None, pos}
use Rattle.xa_base.specs.declared.answer.Answer.TheVariants.{Page, Ret}
use Rattle.xa_base.specs.declared.call.Call.TheVariants as Calls
use Rattle.xa_base.specs.declared.code.Code.TheVariants.{NotAnXid, RolledBack, Success}
use Rattle.xa_base.specs.declared.code.RbCode.TheVariants.{Rollback}
use Rattle.xa_base.specs.declared.state.Standing.{Standing}
use Rattle.xa_base.specs.declared.state.Standing.TheVariants.{Active, Committed, Idle, Prepared, Unstarted}
use Rattle.xa_base.specs.declared.step.Outcome.TheVariants as Outcomes
use Rattle.xa_drivers.specs.Deeds.{Deeds, Deeds.Did, Deeds.Made, Deeds.Nothing, Deeds.Severed, Deeds.Told, Deeds.ToldLost, ObeyTable, stands}
use Rattle.xa_drivers.specs.Faithful.{IsFaithful, StandByTold, is_open_branch}
use Rattle.xa_model.specs.Trace.{Answer, Branch, Call, Gtrid, Happening.Begun, Happening.Decided, Happening.Issued, Line, Name.Ours, Origin, line, line_eq, line_of}
use Rattle.xa_monitor.specs.Agreement.{IsLineOf}
use Rattle.xa_monitor.specs.Explained.{HasOnlyOlderRows}

-- ** a faithful one

-- the branch of a transaction that is begun on this line
abbrev pub at : Gtrid → Line → Branch
at g l = record { gtrid = g; thread = l.thread; rm = l.rm }

-- each of these calls is issued on the line, made, and answered XA_OK, which is told
abbrev pub calls_done : Line → List Call → Deeds → Deeds
calls_done l [] ds = ds
calls_done l (c ∷ cs) ds = calls_done l cs (Told (Made (Did ds (Issued l c)) l c (Ret Success)) l c (Ret Success))

-- the calls on a branch up to its vote
abbrev pub votes : Gtrid → Line → Deeds → Deeds
votes g l ds = calls_done l (Calls.OpenRm ∷ Calls.Start (at g l) false ∷ Calls.End (at g l) false ∷ Calls.Prepare (at g l) ∷ []) ds

abbrev pub commit : Gtrid → Line → Call
commit g l = Calls.Commit (at g l) false

-- A branch on each of two lines votes. The transaction is decided to commit, and an xa_commit of
-- each is issued.
abbrev pub both_issued : Gtrid → (l m : Line) → Deeds
both_issued g l m =
    Did (Did (Did (votes g m (votes g l (Did Nothing (Begun g)))) (Decided g Outcomes.Commit)) (Issued l (commit g l))) (Issued m (commit g m))

-- The one is committed, which isn't told yet. The other's connection is gone before its xa_commit
-- was made, and that is told.
abbrev pub half_committed : Gtrid → (l m : Line) → Deeds
half_committed g l m = ToldLost (Severed (Made (both_issued g l m) l (commit g l) (Ret Success)) m) m (Some (commit g m))

-- This driver is faithful over databases that obey the table, and one branch stands committed
-- beside one that is prepared still.
pub record IsWorked (o : Origin) (g : Gtrid) (l m : Line) : Type 0 where
  pub faithful : IsFaithful o (λ b. Unstarted) (half_committed g l m)
  pub obey : ObeyTable (λ b. true) (λ b. Unstarted) (half_committed g l m)
  pub committed : stands (λ b. Unstarted) (half_committed g l m) (at g l) ≡ Committed
  pub prepared : stands (λ b. Unstarted) (half_committed g l m) (at g m) ≡ Prepared

abbrev pub FaithfulDriversAreThere : Type 0
FaithfulDriversAreThere =
    (o : Origin) (g : Gtrid) (l m : Line) → line_eq l m ≡ false → IsLineOf o l → IsLineOf o m → IsWorked o g l m

-- ** and some that aren't

-- these calls were issued
abbrev pub asked : List (Line × Call) → Deeds
asked [] = Nothing
asked ((l, c) ∷ cs) = Did (asked cs) (Issued l c)

-- a page that lists this branch alone
abbrev pub recover : Call
recover = Calls.Recover (pos 32) true true

abbrev pub listing : Branch → Answer
listing b = Page (Ours b ∷ [])

-- Whatever was issued, no driver is faithful that
-- - `unissued`: makes a call although none was issued;
-- - `gone`: makes one on a connection that is gone, before that is told;
-- - `elsewhere`: calls an open branch on another line;
-- - `order`: tells the answer to a second call before that to the first;
-- - `connected`: tells that a line is lost whose connection is there;
-- - `two_made`: tells that a line is lost before the answer to the first of two calls made on it;
-- - `page`: tells a page before the xa_prepare of a branch that it lists;
-- - `answer`: tells an answer that wasn't given.
pub record RulesRefuse (o : Origin) (from : Branch → Standing) : Type 0 where
  pub unissued : HasOnlyOlderRows o → (l : Line) (c : Call) (a : Answer) → IsFaithful o from (Made Nothing l c a) → ⊥
  pub gone : (ds : Deeds) (l : Line) (c : Call) (a : Answer) → IsFaithful o from (Made (Severed ds l) l c a) → ⊥
  pub elsewhere :
      (ds : Deeds) (l : Line) (b : Branch) (a : Answer) → is_open_branch (stands from ds b) ≡ true → l ≢ line_of b
      → IsFaithful o from (Made ds l (Calls.Rollback b) a) → ⊥
  pub order :
      (cs : List (Line × Call)) (l : Line) (c d : Call) (a x : Answer) → c ≢ d
      → IsFaithful o from (Told (Made (Made (asked cs) l c a) l d x) l d x) → ⊥
  pub connected :
      (cs : List (Line × Call)) (l : Line) (c d : Call) (a : Answer) → IsFaithful o from (ToldLost (Made (asked cs) l c a) l (Some d)) → ⊥
  pub two_made :
      (cs : List (Line × Call)) (l : Line) (c d : Call) (a x : Answer)
      → IsFaithful o from (ToldLost (Severed (Made (Made (asked cs) l c a) l d x) l) l (Some c)) → ⊥
  pub page :
      (cs : List (Line × Call)) (l m : Line) (b : Branch)
      → IsFaithful o from (Told (Made (Made (asked cs) l (Calls.Prepare b) (Ret Success)) m recover (listing b)) m recover (listing b)) → ⊥
  pub answer :
      (cs : List (Line × Call)) (l : Line) (c : Call) (a x : Answer) → a ≢ x → IsFaithful o from (Told (Made (asked cs) l c a) l c x) → ⊥

abbrev pub RulesRefuseOthers : Type 0
RulesRefuseOthers = (o : Origin) (from : Branch → Standing) → RulesRefuse o from

-- ** and why they must not

-- Databases obey the table, and yet the branches don't stand where the theorem of sessions
-- supposes that they do.
pub record IsMisled (from : Branch → Standing) (ds : Deeds) : Type 0 where
  pub obey : ObeyTable (λ b. true) from ds
  pub unexplained : (o : Origin) → HasOnlyOlderRows o → StandByTold o from ds → ⊥

abbrev pub prepare_call : Branch → Call
prepare_call b = Calls.Prepare b

abbrev pub ending : Branch → Call
ending b = Calls.End b false

abbrev pub commit_call : Branch → Call
commit_call b = Calls.Commit b false

-- the line of recoveries to the branch's resource manager
abbrev pub first : Branch → Line
first b = line 0 b.rm

-- A coordinator is misled by a driver that
-- - `unissued`: makes a call although none was issued;
-- - `gone`: makes an xa_prepare on a connection that is gone;
-- - `elsewhere`: rolls an open branch back on another line;
-- - `order`: tells the answer to xa_prepare before that to xa_end;
-- - `connected`: tells that a line is lost whose connection is there, on which xa_end and
--   xa_prepare are made then;
-- - `two_made`: tells that a line is lost before the answers to xa_end and xa_prepare;
-- - `page`: tells a page before the xa_prepare of the branch that it lists;
-- - `answer`: tells a vote that wasn't given.
pub record BrokenRulesMislead (b : Branch) : Type 0 where
  pub unissued : IsMisled (λ x. Unstarted) (Made Nothing (line_of b) (Calls.Start b false) (Ret Success))
  pub gone :
      IsMisled (λ x. Idle)
      (Told (Made (Severed (asked ((line_of b, prepare_call b) ∷ [])) (line_of b)) (line_of b) (prepare_call b) (Ret NotAnXid)) (line_of b) (prepare_call b)
      (Ret NotAnXid))
  pub elsewhere :
      IsMisled (λ x. Idle)
      (Told (ToldLost (Severed (Made (asked ((first b, Calls.Rollback b) ∷ [])) (first b) (Calls.Rollback b) (Ret Success)) (line_of b))
      (line_of b) None) (first b) (Calls.Rollback b) (Ret Success))
  pub order :
      IsMisled (λ x. Active)
      (Told (Made (Made (asked ((line_of b, prepare_call b) ∷ (line_of b, ending b) ∷ [])) (line_of b) (ending b) (Ret Success)) (line_of b)
      (prepare_call b) (Ret Success)) (line_of b) (prepare_call b) (Ret Success))
  pub connected :
      IsMisled (λ x. Active)
      (Told (Made (Made (Made
      (ToldLost (asked ((first b, commit_call b) ∷ (line_of b, prepare_call b) ∷ (line_of b, ending b) ∷ [])) (line_of b) (Some (ending b)))
      (line_of b) (ending b) (Ret Success)) (line_of b) (prepare_call b) (Ret Success)) (first b) (commit_call b) (Ret Success)) (first b)
      (commit_call b) (Ret Success))
  pub two_made :
      IsMisled (λ x. Active)
      (Told (Made (ToldLost (Severed (Made (Made
      (asked ((first b, commit_call b) ∷ (line_of b, prepare_call b) ∷ (line_of b, ending b) ∷ [])) (line_of b) (ending b) (Ret Success)) (line_of b)
      (prepare_call b) (Ret Success)) (line_of b)) (line_of b) (Some (ending b))) (first b) (commit_call b) (Ret Success)) (first b) (commit_call b)
      (Ret Success))
  pub page :
      IsMisled (λ x. Idle)
      (Told (Made (Made (asked ((first b, recover) ∷ (line_of b, prepare_call b) ∷ [])) (line_of b) (prepare_call b) (Ret Success)) (first b) recover
      (listing b)) (first b) recover (listing b))
  pub answer :
      IsMisled (λ x. Idle)
      (Told (Made (Told (Made (asked ((first b, commit_call b) ∷ (line_of b, prepare_call b) ∷ [])) (line_of b) (prepare_call b)
      (Ret (RolledBack Rollback))) (line_of b) (prepare_call b) (Ret Success)) (first b) (commit_call b) (Ret NotAnXid)) (first b) (commit_call b)
      (Ret NotAnXid))

abbrev pub CoordinatorsAreMisled : Type 0
CoordinatorsAreMisled = (b : Branch) → BrokenRulesMislead b
