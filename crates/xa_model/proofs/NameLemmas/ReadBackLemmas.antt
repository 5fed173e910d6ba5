-- Nothing of a step or a reply is lost in what a history knows of it, and a history answers no call on another manager's identifier.
use Rattle.std.proofs.Common.{◌≡◌, refl, sym, ap, subst}
use Rattle.xa_base.specs.declared.answer.Answer as Given
use Rattle.xa_base.specs.declared.answer.Answer.TheVariants as Answers
use Rattle.xa_base.specs.declared.call.Call as Called
use Rattle.xa_base.specs.declared.call.Call.TheVariants as Calls
use Rattle.xa_base.specs.declared.reply.Reply as Replied
use Rattle.xa_base.specs.declared.reply.Reply.TheVariants as Replies
use Rattle.xa_base.specs.declared.step.Step as Asked
use Rattle.xa_base.specs.declared.step.Step.TheVariants as Steps
use Rattle.xa_base.specs.Answer.{map_answer}
use Rattle.xa_base.specs.Call.{map_call}
use Rattle.xa_base.specs.declared.step.Side.TheVariants as Side
use Rattle.xa_model.specs.Replies.Allowed.{Takes, Takes_one, Takes_none, Hears, Hears_one, Hears_none, Restarts, Restarts_as, IsValue, Allowed, By_rule, As_value, For_memory, For_log}
use Rattle.xa_model.specs.Replies.Steps.{Step, Reply}
use Rattle.xa_model.specs.Trace.{Line, Trace}
use Rattle.xa_model.specs.Replies.History.{name_of, step_of, reply_of}
use Rattle.xa_model.specs.Facts.InDoubt.{xid_of_name}
use Rattle.xa_model.specs.Replies.ReadBack.{step_back, reply_back, CallHasXid, AnswerHasXids, StepHasXids, ReplyHasXids, AnswersOurs}
use Rattle.xa_base.specs.Xid.{Xid}
use Rattle.xa_model.proofs.NameLemmas.OwnNames.{name_back, pages_back}

call_is_back : (call : Called.Call Xid) → CallHasXid call → map_call xid_of_name (map_call name_of call) ≡ call
call_is_back (Calls.Start xid join) h = ap (λ x. Calls.Start x join) (name_back xid h)
call_is_back (Calls.End xid fail) h = ap (λ x. Calls.End x fail) (name_back xid h)
call_is_back (Calls.Prepare xid) h = ap Calls.Prepare (name_back xid h)
call_is_back (Calls.Commit xid one_phase) h = ap (λ x. Calls.Commit x one_phase) (name_back xid h)
call_is_back (Calls.Rollback xid) h = ap Calls.Rollback (name_back xid h)
call_is_back (Calls.Forget xid) h = ap Calls.Forget (name_back xid h)
call_is_back _ h = refl

answer_is_back : (answer : Given.Answer Xid) → AnswerHasXids answer → map_answer xid_of_name (map_answer name_of answer) ≡ answer
answer_is_back (Answers.Ret code) h = refl
answer_is_back (Answers.Page xids) h = ap Answers.Page (pages_back xids h)

pub step_is_back : (step : Asked.Step Xid) → StepHasXids step → step_back (step_of step) ≡ step
step_is_back (Steps.Issue thread rm call) h = ap (Steps.Issue thread rm) (call_is_back call h)
step_is_back (Steps.Vote rm xid vote) h = ap (λ x. Steps.Vote rm x vote) (name_back xid h)
step_is_back (Steps.Busy rm xid times) h = ap (λ x. Steps.Busy rm x times) (name_back xid h)
step_is_back (Steps.Heuristic rm xid how) h = ap (λ x. Steps.Heuristic rm x how) (name_back xid h)
step_is_back _ h = refl

pub reply_is_back : (reply : Replied.Reply Xid) → ReplyHasXids reply → reply_back (reply_of reply) ≡ reply
reply_is_back (Replies.Took call answer) h = λ i. Replies.Took (call_is_back call h.0 i) (answer_is_back answer h.1 i)
reply_is_back (Replies.Heard call answer) h = λ i. Replies.Heard (call_is_back call h.0 i) (answer_is_back answer h.1 i)
reply_is_back _ h = refl

-- ** what a history answers

takes_ours : (tr : Trace) (l : Line) (reply : Reply) → Takes tr l reply → AnswersOurs reply
takes_ours tr l reply (Takes_one c a n r) = (c, refl)
takes_ours tr l reply (Takes_none n) = tt

hears_ours : (tr : Trace) (l : Line) (reply : Reply) → Hears tr l reply → AnswersOurs reply
hears_ours tr l reply (Hears_one c a n) = (c, refl)
hears_ours tr l reply (Hears_none n) = tt

restarts_none : (tr : Trace) (reply : Reply) → Restarts tr reply → AnswersOurs reply
restarts_none tr reply (Restarts_as i d h a b p q) = tt

value_ours : (tr : Trace) (s : Step) (reply : Reply) → IsValue tr s reply → AnswersOurs reply
value_ours tr (Steps.Take t r) reply h = takes_ours tr _ reply h
value_ours tr (Steps.Hear t r) reply h = hears_ours tr _ reply h
value_ours tr (Steps.Restart Side.Manager) reply h = restarts_none tr reply h
value_ours tr _ reply h = subst AnswersOurs (sym h) tt

pub allowed_ours : (tr : Trace) (s : Step) (reply : Reply) → Allowed tr s reply → AnswersOurs reply
allowed_ours tr s reply (By_rule n m e) = subst AnswersOurs (sym e) tt
allowed_ours tr s reply (As_value m v) = value_ours tr s reply v
allowed_ours tr s reply (For_memory m l e) = subst AnswersOurs (sym e) tt
allowed_ours tr s reply (For_log m l e) = subst AnswersOurs (sym e) tt
