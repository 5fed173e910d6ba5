-- The lines of a trace: what each event was replied.
use Rattle.std.specs.Prelude.{ℕ, ◌+◌, List, [], ◌∷◌, ◌++◌, codes}
use Rattle.std.specs.Fmt.{decimal, signed_decimal}
use Rattle.xa_base.specs.Answer.{answer_number}
use Rattle.xa_base.specs.Call.{kind_name, kind_of}
use Rattle.xa_base.specs.Xid.{Xid}
use Rattle.xa_base.specs.declared.answer.Answer.{Answer}
use Rattle.xa_base.specs.declared.answer.Answer.TheVariants.{Ret, Page}
use Rattle.xa_base.specs.declared.reply.Event.{Event}
use Rattle.xa_base.specs.declared.reply.Reply.{Reply}
use Rattle.xa_base.specs.declared.reply.Reply.TheVariants as replies
use Rattle.xa_files.specs.Replies.{begun_text, listed_xids, refused_text, restarted_text}

-- the number of an answer and, for a page, the identifiers that it lists
abbrev pub answer_text : Answer Xid → List ℕ
answer_text (Ret code) = signed_decimal (answer_number {X = Xid} (Ret code))
answer_text (Page xids) = signed_decimal (answer_number (Page xids)) ++ listed_xids xids

abbrev pub reply_text : Reply Xid → List ℕ
reply_text (replies.Begun gtrid) = begun_text gtrid
reply_text replies.Issued = codes "issued"
reply_text (replies.Took call answer) = codes "took " ++ kind_name (kind_of call) ++ codes " " ++ answer_text answer
reply_text (replies.Heard call answer) = codes "heard " ++ kind_name (kind_of call) ++ codes " " ++ answer_text answer
reply_text replies.Nothing = codes "nothing"
reply_text replies.Noted = codes "noted"
reply_text replies.Claimed = codes "claimed"
reply_text replies.Decided = codes "decided"
reply_text (replies.Resolved calls) = codes "resolved " ++ decimal calls
reply_text replies.Crashed = codes "crashed"
reply_text replies.RmRestarted = codes "restarted"
reply_text (replies.Restarted incarnation decisions heuristics) = restarted_text incarnation decisions heuristics
reply_text (replies.Refused refusal) = refused_text refusal

-- the line of the event of a number
abbrev pub trace_line : ℕ → Event → List ℕ
trace_line number event = decimal number ++ codes " " ++ reply_text event.reply ++ codes "\n"

-- a line for each event, from this number on
abbrev pub trace_lines : ℕ → List Event → List ℕ
trace_lines number [] = []
trace_lines number (event ∷ events) = trace_line number event ++ trace_lines (number + 1) events
