-- The lines of a manager that has a name.
use Rattle.std.specs.Prelude.{ℕ, ◌&&◌, if◌then◌else◌, nat_le, List, ◌++◌, codes, length, map, Option}
use Rattle.std.specs.Io.KnownBytes.{Appends, Consumes, IsAtEnd}
use Rattle.std.specs.List.{flat_map}
use Rattle.std.specs.Str.{is_utf8}
use Rattle.xa_server.specs.Lines.{IsWholeLines, ReadsBeginning, ReadsWholeLines, marks, text_lines}
use Rattle.xa_server.specs.Serving.{AreTurns, EndsAtLastOr, HaveReplies, Turn, WritesUpToLast, replies_given, requests_done, told_in}
use Rattle.xa_server.specs.declared.server.Server.{Server}
use Rattle.xa_server.specs.declared.lines.LineReply.{LineReply}
use Rattle.xa_server.specs.declared.lines.TheConstants.{LINE_LIMIT}
use Rattle.xa_log.specs.Contract.{Moment}
use Rattle.xa_names.specs.Lines.{line_renamed}
use Rattle.xa_requests.specs.Responses.{response_text}
use Rattle.xa_requests.specs.declared.response.Response.{Response}
use Rattle.xa_session.specs.Logging.{KeepsLog}

-- a line of one request, as a manager of this name means it; one that is too long, or no text, is as it is, and asks for nothing
abbrev pub line_read : List ℕ → List ℕ → List ℕ
line_read name line = if nat_le (length line) LINE_LIMIT && is_utf8 line then line_renamed name line else line

abbrev pub lines_read : List ℕ → List (List ℕ) → List (List ℕ)
lines_read name lines = map (line_read name) lines

-- the line of a reply, as a manager of this name means it
abbrev pub line_written : List ℕ → LineReply → List ℕ
line_written name told = marks told.before ++ line_renamed name (response_text told.reply) ++ codes "\n"

abbrev pub text_written : List ℕ → List LineReply → List ℕ
text_written name replies = flat_map (line_written name) replies

module _ {L : Type 0} (moment : L → Moment) where
  -- A session of a manager of this name: what was written is its first line and a line for each line of what was read, each as it is
  -- meant. It ends behind `quit`, or at the end of the input.
  pub record ServesUnder (name : List ℕ) (greeting : Response) (unread left : Option (List ℕ)) (written all : Option (List ℕ))
      (old new : Server L) : Type 0 where
    pub read : List ℕ
    pub turns : List Turn
    pub consumed : Consumes unread left read
    pub lines : AreTurns (text_lines read) turns
    pub replied : HaveReplies moment (lines_read name (requests_done turns)) (replies_given turns) old new
    pub appended : Appends written all (text_written name (told_in greeting turns))
    pub ends : EndsAtLastOr (map (λ turn. turn.reply) turns) (IsAtEnd left)
    -- the log has what the book says at the end, if it had at the start
    pub keeps : KeepsLog moment old.session.manager new.session.manager

  -- A session that was broken off: what was done is what whole lines that were read ask for, as they are meant, and the reply to the last of
  -- them, or the first line of the session, may not be written whole. More may have been read, of which nothing was done.
  pub record BreaksSessionUnder (name : List ℕ) (greeting : Response) (unread written all : Option (List ℕ)) (old new : Server L) : Type 0 where
    pub read : List ℕ
    pub left : Option (List ℕ)
    pub turns : List Turn
    pub reads : ReadsWholeLines unread left read
    pub lines : AreTurns (text_lines read) turns
    pub replied : HaveReplies moment (lines_read name (requests_done turns)) (replies_given turns) old new
    pub writes : WritesUpToLast (line_written name) written all (told_in greeting turns)
    pub keeps : KeepsLog moment old.session.manager new.session.manager

  -- A session whose input failed: each line that was read is done, as it is meant, and its reply was written whole. Of the next line at most a
  -- beginning was read, of which nothing is done.
  pub record InputFailsUnder (name : List ℕ) (greeting : Response) (unread left : Option (List ℕ)) (written all : Option (List ℕ))
      (old new : Server L) : Type 0 where
    pub read : List ℕ
    pub behind : Option (List ℕ)
    pub turns : List Turn
    pub consumed : Consumes unread behind read
    pub whole : IsWholeLines read
    pub next : ReadsBeginning behind left
    pub lines : AreTurns (text_lines read) turns
    pub replied : HaveReplies moment (lines_read name (requests_done turns)) (replies_given turns) old new
    pub appended : Appends written all (text_written name (told_in greeting turns))
