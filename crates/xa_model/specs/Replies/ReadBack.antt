-- Steps and replies, read back from what a history knows of them: names stand for their identifiers again.
use Rattle.std.specs.Prelude.{◌≡◌, All, IfSome}
use Rattle.xa_base.specs.Call.{xid_in, map_call}
use Rattle.xa_base.specs.Xid.{Xid, IsXid}
use Rattle.xa_base.specs.declared.answer.Answer as Given
use Rattle.xa_base.specs.declared.answer.Answer.TheVariants as Answers
use Rattle.xa_base.specs.declared.call.Call as Called
use Rattle.xa_base.specs.declared.reply.Reply as Replied
use Rattle.xa_base.specs.declared.reply.Reply.TheVariants as Replies
use Rattle.xa_base.specs.declared.step.Step as Asked
use Rattle.xa_base.specs.declared.step.Step.TheVariants as Steps
use Rattle.xa_model.specs.Facts.InDoubt.{xid_of_name}
use Rattle.xa_model.specs.Replies.Steps.{Step, Reply, map_step, map_reply}
use Rattle.xa_model.specs.Trace.{Call, Name.Ours}

abbrev pub step_back : Step → Asked.Step Xid
step_back step = map_step xid_of_name step

abbrev pub reply_back : Reply → Replied.Reply Xid
reply_back reply = map_reply xid_of_name reply

-- ** what is an identifier in them

abbrev pub CallHasXid : Called.Call Xid → Type 0
CallHasXid call = IfSome (xid_in call) IsXid

abbrev pub AnswerHasXids : Given.Answer Xid → Type 0
AnswerHasXids (Answers.Ret code) = Unit {0}
AnswerHasXids (Answers.Page xids) = All IsXid xids

abbrev pub StepHasXids : Asked.Step Xid → Type 0
StepHasXids (Steps.Issue thread rm call) = CallHasXid call
StepHasXids (Steps.Vote rm xid vote) = IsXid xid
StepHasXids (Steps.Busy rm xid times) = IsXid xid
StepHasXids (Steps.Heuristic rm xid how) = IsXid xid
StepHasXids _ = Unit {0}

abbrev pub ReplyHasXids : Replied.Reply Xid → Type 0
ReplyHasXids (Replies.Took call answer) = CallHasXid call × AnswerHasXids answer
ReplyHasXids (Replies.Heard call answer) = CallHasXid call × AnswerHasXids answer
ReplyHasXids _ = Unit {0}

-- ** what a history answers

-- an answered call is on a branch of this manager, or on none
abbrev pub AnswersOurs : Reply → Type 0
AnswersOurs (Replies.Took call answer) = (c : Call) × (call ≡ map_call Ours c)
AnswersOurs (Replies.Heard call answer) = (c : Call) × (call ≡ map_call Ours c)
AnswersOurs _ = Unit {0}
