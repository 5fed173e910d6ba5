-- What the report of a call means, by the place of the branch that waited for it: how the call was answered, as the session is told, or that the
-- line is lost; how far the branch has come then; and what that means to the transaction. (XA, chapter 5, xa_prepare and those behind it.)
use Rattle.std.specs.Prelude.{◌≡◌, Bool, true, false, ◌&&◌, Option, Some, None, is_some}
use Rattle.xa_base.specs.declared.call.CallKind.{CallKind}
use Rattle.xa_base.specs.declared.call.CallKind.TheVariants as kinds
use Rattle.xa_base.specs.declared.code.Code.{Code}
use Rattle.xa_base.specs.declared.code.Code.TheVariants as codes
use Rattle.xa_base.specs.declared.code.How.TheVariants as hows
use Rattle.xa_base.specs.declared.code.RbCode.TheVariants as whys
use Rattle.xa_conduct.specs.Places.{is_asked}
use Rattle.xa_conduct.specs.declared.meaning.Heard.{Heard}
use Rattle.xa_conduct.specs.declared.meaning.Heard.TheVariants as heards
use Rattle.xa_conduct.specs.declared.meaning.Step.{Step}
use Rattle.xa_conduct.specs.declared.place.Place.{Place}
use Rattle.xa_conduct.specs.declared.place.Place.TheVariants.{Working, Preparing, AtOnce, Prepared, Committing, RollingBack, Undoing, Refusing, Forgetting, Over, Owed}
use Rattle.xa_conduct.specs.declared.report.Report.{Report}
use Rattle.xa_conduct.specs.declared.report.Report.TheVariants.{Lost}
use Rattle.xa_conduct.specs.declared.report.Report.TheVariants as reports

-- ** kinds of steps

-- the call is answered by this code, and the branch then is there
abbrev pub step_by_answer : Code → Place → Step
step_by_answer code place = record { code = Some code; place = place; heard = heards.Nothing }

-- so it is, and that is the outcome, or a reason against a commit
abbrev pub step_to_end : Code → Heard → Step
step_to_end code heard = record { code = Some code; place = Over; heard = heard }

-- nobody knows: the line is lost, and the end of the branch is left to the recovery
abbrev pub step_by_loss : Heard → Step
step_by_loss heard = record { code = None; place = Owed; heard = heard }

-- ** by call

-- of xa_prepare
abbrev pub step_after_vote : Report → Step
step_after_vote (reports.Code codes.Success) = step_by_answer codes.Success Prepared
step_after_vote (reports.Code codes.ReadOnly) = step_by_answer codes.ReadOnly Over
step_after_vote (reports.Code (codes.RolledBack why)) = step_to_end (codes.RolledBack why) (heards.No why)
step_after_vote _ = step_by_loss heards.LostVote

-- of xa_commit in one phase: XAER_RMERR says that the branch's work was rolled back
abbrev pub step_after_at_once : Report → Step
step_after_at_once (reports.Code codes.Success) = step_to_end codes.Success heards.Committed
step_after_at_once (reports.Code (codes.RolledBack why)) = step_to_end (codes.RolledBack why) (heards.RolledBack why)
step_after_at_once (reports.Code codes.RmError) = step_to_end (codes.RolledBack whys.Other) (heards.RolledBack whys.Other)
step_after_at_once _ = step_by_loss heards.LostAtOnce

-- of the first xa_commit of a prepared branch: one that isn't there any more was ended by somebody else, and one that was rolled back against
-- its vote has ended by itself, as XAER_RMERR says too
abbrev pub step_after_commit : Report → Step
step_after_commit (reports.Code codes.Success) = step_by_answer codes.Success Over
step_after_commit (reports.Code codes.Retry) = step_by_answer codes.Retry Owed
step_after_commit (reports.Code (codes.Heuristic how)) = step_by_answer (codes.Heuristic how) Forgetting
step_after_commit (reports.Code (codes.RolledBack why)) = step_by_answer (codes.Heuristic hows.Rb) Forgetting
step_after_commit (reports.Code codes.RmError) = step_by_answer (codes.Heuristic hows.Rb) Forgetting
step_after_commit (reports.Code codes.NotAnXid) = step_by_answer (codes.Heuristic hows.Haz) Forgetting
step_after_commit _ = step_by_loss heards.LostEnd

-- of the first xa_rollback of a prepared branch
abbrev pub step_after_rollback : Report → Step
step_after_rollback (reports.Code codes.Success) = step_by_answer codes.Success Over
step_after_rollback (reports.Code (codes.RolledBack why)) = step_by_answer codes.Success Over
step_after_rollback (reports.Code (codes.Heuristic how)) = step_by_answer (codes.Heuristic how) Forgetting
step_after_rollback (reports.Code codes.NotAnXid) = step_by_answer (codes.Heuristic hows.Haz) Forgetting
step_after_rollback _ = step_by_loss heards.LostEnd

-- of xa_rollback of a branch that isn't prepared, where this is the answer to the call that waits: xa_rollback, or the xa_prepare that wasn't made
abbrev pub step_after_undo : Code → Report → Step
step_after_undo code (reports.Code codes.Success) = step_by_answer code Over
step_after_undo code (reports.Code (codes.RolledBack why)) = step_by_answer code Over
step_after_undo code (reports.Code codes.NotAnXid) = step_by_answer code Over
step_after_undo code (reports.Code (codes.Heuristic hows.Rb)) = step_by_answer code Over
step_after_undo code _ = step_by_loss heards.LostEnd

-- of xa_forget: a resource manager that keeps no such ends says that there is no such branch, or that it can't
abbrev pub step_after_forget : Report → Step
step_after_forget (reports.Code codes.Success) = step_by_answer codes.Success Over
step_after_forget (reports.Code codes.NotAnXid) = step_by_answer codes.Success Over
step_after_forget (reports.Code codes.RmError) = step_by_answer codes.Success Over
step_after_forget _ = step_by_loss heards.LostEnd

-- ** by place

abbrev pub step_at : Place → Report → Step
step_at Preparing report = step_after_vote report
step_at AtOnce report = step_after_at_once report
step_at Committing report = step_after_commit report
step_at RollingBack report = step_after_rollback report
step_at Undoing report = step_after_undo codes.Success report
step_at Refusing report = step_after_undo (codes.RolledBack whys.Rollback) report
step_at Forgetting report = step_after_forget report
step_at place report = record { code = None; place = place; heard = heards.Nothing }

-- the call that waits behind xa_end, or alone
abbrev pub kind_at : Place → CallKind
kind_at Preparing = kinds.Prepare
kind_at Refusing = kinds.Prepare
kind_at AtOnce = kinds.Commit
kind_at Committing = kinds.Commit
kind_at Forgetting = kinds.Forget
kind_at _ = kinds.Rollback

-- there is such an answer to the call that was told
abbrev pub takes : Place → Report → Bool
takes place Lost = is_asked place
takes place report = is_asked place && is_some (step_at place report).code
