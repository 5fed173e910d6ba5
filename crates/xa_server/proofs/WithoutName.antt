-- Without a name of the manager, each line is read and written as it is.
use Rattle.std.proofs.Common.{◌≡◌, ◌∙◌, ℕ, Bool, true, false, cond, List, [], ◌∷◌, ◌++◌, Option, refl, ap, subst}
use Rattle.std.specs.Prelude.{Result, Ok, Err, OnErr}
use Rattle.std.specs.Io.KnownBytes.{Appends}
use Rattle.xa_files.specs.Outputs.{AppendsBeginning}
use Rattle.xa_log.specs.Contract.{Moment}
use Rattle.xa_server.specs.Lines.{marks, reply_line}
use Rattle.xa_server.specs.NamedLines.{BreaksSessionUnder, InputFailsUnder, ServesUnder, line_read, line_written, lines_read, text_written}
use Rattle.xa_server.specs.Serving.{BreaksSession, HaveReplies, InputFails, Serves, WritesUpToLast, replies_given, replies_text, requests_done, told_in}
use Rattle.xa_server.specs.declared.server.Server.{Server}
use Rattle.xa_server.specs.declared.lines.LineReply.{LineReply}
use Rattle.xa_names.specs.Laws.{LinesStay}
use Rattle.xa_names.specs.Lines.{line_renamed}
use Rattle.xa_requests.specs.Responses.{response_text}
use Rattle.xa_requests.specs.declared.response.Response.{Response}

module _ (law : LinesStay) where
  read_as_is : (line : List ℕ) → line_read [] line ≡ line
  read_as_is line = by_test _
    where
      by_test : (t : Bool) → cond t (line_renamed [] line) line ≡ line
      by_test true = law line
      by_test false = refl

  pub lines_as_are : (lines : List (List ℕ)) → lines_read [] lines ≡ lines
  lines_as_are [] = refl
  lines_as_are (line ∷ lines) = ap (λ l. l ∷ lines_read [] lines) (read_as_is line) ∙ ap (λ ls. line ∷ ls) (lines_as_are lines)

  written_as_is : (told : LineReply) → line_written [] told ≡ reply_line told
  written_as_is told = ap (λ t. marks told.before ++ t ++ 10 ∷ []) (law (response_text told.reply))

  pub text_as_is : (replies : List LineReply) → text_written [] replies ≡ replies_text replies
  text_as_is [] = refl
  text_as_is (r ∷ rs) = ap (λ t. t ++ text_written [] rs) (written_as_is r) ∙ ap (λ t. reply_line r ++ t) (text_as_is rs)

  writes_as_is : (written all : Option (List ℕ)) (replies : List LineReply) → WritesUpToLast (line_written []) written all replies
      → WritesUpToLast reply_line written all replies
  writes_as_is written all replies writes = record {
    others = writes.others;
    last = writes.last;
    are = writes.are;
    between = writes.between;
    appended = subst (Appends written writes.between) (text_as_is writes.others) writes.appended;
    begun = subst (AppendsBeginning writes.between all) (written_as_is writes.last) writes.begun;
  }

  module _ {L : Type 0} (moment : L → Moment) where
    pub serves_as_is : (greeting : Response) (unread left written all : Option (List ℕ)) (a b : Server L)
        → ServesUnder moment [] greeting unread left written all a b → Serves moment greeting unread left written all a b
    serves_as_is greeting unread left written all a b serves = record {
      read = serves.read;
      turns = serves.turns;
      consumed = serves.consumed;
      lines = serves.lines;
      replied = subst (λ ls. HaveReplies moment ls (replies_given serves.turns) a b) (lines_as_are (requests_done serves.turns)) serves.replied;
      appended = subst (Appends written all) (text_as_is (told_in greeting serves.turns)) serves.appended;
      ends = serves.ends;
      keeps = serves.keeps;
    }

    pub breaks_as_is : (greeting : Response) (unread written all : Option (List ℕ)) (a b : Server L)
        → BreaksSessionUnder moment [] greeting unread written all a b → BreaksSession moment greeting unread written all a b
    breaks_as_is greeting unread written all a b breaks = record {
      read = breaks.read;
      left = breaks.left;
      turns = breaks.turns;
      reads = breaks.reads;
      lines = breaks.lines;
      replied = subst (λ ls. HaveReplies moment ls (replies_given breaks.turns) a b) (lines_as_are (requests_done breaks.turns)) breaks.replied;
      writes = writes_as_is written all (told_in greeting breaks.turns) breaks.writes;
      keeps = breaks.keeps;
    }

    pub fails_as_is : (greeting : Response) (unread left written all : Option (List ℕ)) (a b : Server L)
        → InputFailsUnder moment [] greeting unread left written all a b → InputFails moment greeting unread left written all a b
    fails_as_is greeting unread left written all a b fails = record {
      read = fails.read;
      behind = fails.behind;
      turns = fails.turns;
      consumed = fails.consumed;
      whole = fails.whole;
      next = fails.next;
      lines = fails.lines;
      replied = subst (λ ls. HaveReplies moment ls (replies_given fails.turns) a b) (lines_as_are (requests_done fails.turns)) fails.replied;
      appended = subst (Appends written all) (text_as_is (told_in greeting fails.turns)) fails.appended;
    }

pub on_err_as : {A E : Type 0} (result : Result A E) (P Q : Type 0) → (P → Q) → OnErr result P → OnErr result Q
on_err_as (Ok x) P Q leads holds = tt
on_err_as (Err e) P Q leads holds = leads holds
