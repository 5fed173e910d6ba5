-- A worked history as a system keeps it: events with identifiers, read as steps and replies with names.
use Rattle.std.proofs.Common.{◌≡◌, pos, List, [], ◌∷◌, ◌++◌, true, false, refl}
use Rattle.std.specs.Prelude.{map}
use Rattle.xa_base.specs.Branch.{xid_of_branch}
use Rattle.xa_base.specs.Xid.{Xid}
use Rattle.xa_base.specs.declared.answer.Answer as Given
use Rattle.xa_base.specs.declared.answer.Answer.TheVariants as Answers
use Rattle.xa_base.specs.declared.call.Call as Called
use Rattle.xa_base.specs.declared.call.Call.TheVariants as Calls
use Rattle.xa_base.specs.declared.code.Code.TheVariants as Codes
use Rattle.xa_base.specs.declared.refusal.Refusal.TheVariants as Refusal
use Rattle.xa_base.specs.declared.reply.Event.{Event}
use Rattle.xa_base.specs.declared.reply.Reply as Replied
use Rattle.xa_base.specs.declared.reply.Reply.TheVariants as Replies
use Rattle.xa_base.specs.declared.step.Step as Asked
use Rattle.xa_base.specs.declared.step.Step.TheVariants as Steps
use Rattle.xa_base.specs.declared.state.Fate.TheVariants as Fates
use Rattle.xa_model.specs.Facts.{fate}
use Rattle.xa_model.specs.Replies.History.{read, history, AreAllowed}
use Rattle.xa_model.specs.Trace.{Origin}
use Rattle.xa_model.proofs.Replies.ComputedReplies.{computed}
use Rattle.xa_model.proofs.WorkedHistories.{fresh, gtrid, own, foreign}
use Rattle.xa_model.proofs.WorkedHistories.Commits.{first_run}

abbrev event : Asked.Step Xid → Replied.Reply Xid → Event
event step reply = record { step = step; reply = reply }

-- a call of the first thread at the first resource manager is issued, taken and heard
abbrev through : Called.Call Xid → Given.Answer Xid → List Event
through call answer =
    event (Steps.Issue 0 0 call) Replies.Issued
    ∷ event (Steps.Take 0 0) (Replies.Took call answer)
    ∷ event (Steps.Hear 0 0) (Replies.Heard call answer)
    ∷ []

abbrev first_run_events : List Event
first_run_events =
    (event (Steps.Begin 0) (Replies.Begun (gtrid 1 1)) ∷ [])
    ++ through Calls.OpenRm (Answers.Ret Codes.Success)
    ++ through (Calls.Start (xid_of_branch (own 1 0 0)) false) (Answers.Ret Codes.Success)
    ++ through (Calls.End (xid_of_branch (own 1 0 0)) false) (Answers.Ret Codes.Success)
    ++ through (Calls.Commit (xid_of_branch (own 1 0 0)) true) (Answers.Ret Codes.Success)

first_run_events-read : map read first_run_events ≡ first_run
unfolding first_run
first_run_events-read = refl

first_run_events-allowed : AreAllowed (fresh 1 1) first_run_events
first_run_events-allowed = computed _ (map read first_run_events) refl

first_run_events-fate : fate (history (fresh 1 1) first_run_events) (own 1 0 0) ≡ Fates.Committed
first_run_events-fate = refl

-- a page lists the identifier of a prepared branch beside one of another manager, on which no call is accepted
abbrev page_events : List Event
page_events =
    (event (Steps.Begin 0) (Replies.Begun (gtrid 1 1)) ∷ [])
    ++ through Calls.OpenRm (Answers.Ret Codes.Success)
    ++ through (Calls.Start (xid_of_branch (own 1 0 0)) false) (Answers.Ret Codes.Success)
    ++ through (Calls.End (xid_of_branch (own 1 0 0)) false) (Answers.Ret Codes.Success)
    ++ through (Calls.Prepare (xid_of_branch (own 1 0 0))) (Answers.Ret Codes.Success)
    ++ through (Calls.Recover (pos 2) true true) (Answers.Page (foreign (pos 1) (2 ∷ 1 ∷ []) ∷ xid_of_branch (own 1 0 0) ∷ []))
    ++ (event (Steps.Issue 0 0 (Calls.Rollback (foreign (pos 1) (2 ∷ 1 ∷ [])))) (Replies.Refused Refusal.UnknownTransaction) ∷ [])

abbrev one_foreign : Origin
one_foreign = record (fresh 1 1) { in_doubt = λ r. foreign (pos 1) (2 ∷ 1 ∷ []) ∷ [] }

page_events-allowed : AreAllowed one_foreign page_events
page_events-allowed = computed _ (map read page_events) refl
