-- What an event was replied, in words.
use Rattle.std.specs.Prelude.{List, [], ◌++◌, codes, ℕ, if◌then◌else◌, ◌==◌}
use Rattle.std.specs.Fmt.{decimal}
use Rattle.xa_base.specs.Xid.{Xid}
use Rattle.xa_base.specs.declared.branch.Gtrid.{Gtrid}
use Rattle.xa_base.specs.declared.refusal.Refusal.{Refusal}
use Rattle.xa_base.specs.declared.reply.Event.{Event}
use Rattle.xa_base.specs.declared.reply.Reply.{Reply}
use Rattle.xa_base.specs.declared.reply.Reply.TheVariants as replies
use Rattle.xa_base.specs.declared.step.Part.TheVariants as parts
use Rattle.xa_base.specs.declared.step.Step.{Step}
use Rattle.xa_base.specs.declared.step.Step.TheVariants as steps
use Rattle.xa_files.specs.Replies.{refused_text}
use Rattle.xa_story.specs.Words.{answer_name}

-- a script, or the end of a row
abbrev pub noted_text : Step Xid → List ℕ
noted_text (steps.Done g) = codes "done"
noted_text step = []

-- a crash: a part is down, and a line isn't
abbrev pub crashed_text : Step Xid → List ℕ
crashed_text (steps.Crash (parts.Line thread rm)) = []
crashed_text (steps.Crash part) = codes "down"
crashed_text step = []

abbrev pub count_text : ℕ → List ℕ
count_text n = if n == 1 then codes "1 call" else decimal n ++ codes " calls"

-- a refusal, by its number and its name; its reason follows
abbrev pub told_refusal_text : Refusal → List ℕ
told_refusal_text refusal = refused_text refusal ++ codes ":"

-- a transaction by its numbers
abbrev pub begun_numbers_text : Gtrid → List ℕ
begun_numbers_text g = codes "transaction " ++ decimal g.sequence ++ codes " of incarnation " ++ decimal g.incarnation

-- what a step was replied
abbrev pub text_for : Step Xid → Reply Xid → List ℕ
text_for step (replies.Begun g) = begun_numbers_text g
text_for step replies.Issued = codes "waits"
text_for step (replies.Took call answer) = answer_name answer
text_for step (replies.Heard call answer) = answer_name answer
text_for step replies.Nothing = []
text_for step replies.Noted = noted_text step
text_for step replies.Claimed = codes "claimed"
text_for step replies.Decided = codes "decided"
text_for step (replies.Resolved calls) = count_text calls
text_for step replies.Crashed = crashed_text step
text_for step replies.RmRestarted = codes "up"
text_for step (replies.Restarted incarnation decisions heuristics) = codes "up"
text_for step (replies.Refused refusal) = told_refusal_text refusal

abbrev pub told_reply_text : Event → List ℕ
told_reply_text event = text_for event.step event.reply
