-- What is written to the lines that are read.
use Rattle.std.specs.Prelude.{◌≡◌, ◌⊎◌, ℕ, suc, Bool, true, false, MatchBool, All, List, [], ◌∷◌, ◌++◌, length, map, take, Option, Some, None}
use Rattle.std.specs.Io.KnownBytes.{Appends, Consumes, IsAtEnd}
use Rattle.std.specs.List.{flat_map, list_any}
use Rattle.xa_server.specs.Lines.{IsWholeLines, ReadsBeginning, ReadsWholeLines, asked_in, lone_reply, reply_line, requests_in, text_lines}
use Rattle.xa_server.specs.Performing.{Performs}
use Rattle.xa_server.specs.Standing.{OnlyTells}
use Rattle.xa_server.specs.declared.server.Server.{Server}
use Rattle.xa_server.specs.declared.lines.LineReply.{LineReply}
use Rattle.xa_files.specs.Outputs.{AppendsBeginning}
use Rattle.xa_log.specs.Contract.{Moment}
use Rattle.xa_requests.specs.declared.request.Request.{Request}
use Rattle.xa_requests.specs.declared.response.RequestFault.TheVariants as faults
use Rattle.xa_requests.specs.declared.response.Response.{Response}
use Rattle.xa_requests.specs.declared.response.Response.TheVariants as responses
use Rattle.xa_session.specs.Logging.{KeepsLog}

-- ** requests and replies

abbrev pub is_bye : Response → Bool
is_bye responses.Bye = true
is_bye reply = false

-- the requests behind this reply on its line aren't done: it is a refusal, or ends the session
abbrev pub ends_line : Response → Bool
ends_line (responses.Refused n) = true
ends_line (responses.Fault fault) = true
ends_line responses.Bye = true
ends_line reply = false

module _ {L : Type 0} (moment : L → Moment) where
  abbrev pub RepliesBy : Option Request → (old : Server L) → Response → (new : Server L) → Type 0
  RepliesBy None old reply new = OnlyTells (responses.Fault faults.NoRequest) old reply new
  RepliesBy (Some request) old reply new = Performs moment request old reply new

  -- what a line of one request asks for is done, and so replied; a line that asks for nothing is a fault
  abbrev pub RepliesTo : List ℕ → (old : Server L) → Response → (new : Server L) → Type 0
  RepliesTo line old reply new = RepliesBy (asked_in line) old reply new

  -- the lines, of one request each, have these replies in turn
  abbrev pub HaveReplies : List (List ℕ) → List Response → (old new : Server L) → Type 0
  HaveReplies [] [] old new = new ≡ old
  HaveReplies (line ∷ lines) (reply ∷ replies) old new = (next : Server L) × RepliesTo line old reply next × HaveReplies lines replies next new
  HaveReplies lines replies old new = ⊥

  -- What is asked for is done in turn, up to the first that is refused: the last that was done or refused is replied so, those before it so.
  abbrev pub RepliesInTurn : List (Option Request) → (before : List Response) → (old : Server L) → Response → (new : Server L) → Type 0
  RepliesInTurn [] before old reply new = ⊥
  RepliesInTurn (asked ∷ others) [] old reply new = RepliesBy asked old reply new × ((others ≡ []) ⊎ (ends_line reply ≡ true))
  RepliesInTurn (asked ∷ others) (first ∷ before) old reply new =
      (ends_line first ≡ false) × ((mid : Server L) × RepliesBy asked old first mid × RepliesInTurn others before mid reply new)

  -- so what the requests of a line ask for is replied
  abbrev pub RepliesToLine : List (Option Request) → (old : Server L) → LineReply → (new : Server L) → Type 0
  RepliesToLine asked old told new = (before : List Response) × (length before ≡ told.before) × RepliesInTurn asked before old told.reply new

-- ** lines

-- A line that was read and done: the reply to the last of its requests that was done or refused, and those to the requests before it.
pub record Turn : Type 0 where
  pub line : List ℕ
  pub before : List Response
  pub reply : Response

-- what is written of it
abbrev pub told_of : Turn → LineReply
told_of turn = record { before = length turn.before; reply = turn.reply }

-- its requests that were done or refused, each as a line of its own, and the reply to each
abbrev pub requests_of : Turn → List (List ℕ)
requests_of turn = take (suc (length turn.before)) (requests_in turn.line)

abbrev pub replies_of : Turn → List Response
replies_of turn = turn.before ++ turn.reply ∷ []

-- up to the first that was refused, or to the last
pub record IsTurn (turn : Turn) : Type 0 where
  pub done : list_any ends_line turn.before ≡ false
  pub whole : (length (requests_in turn.line) ≡ suc (length turn.before)) ⊎ (ends_line turn.reply ≡ true)

-- these lines were done so
pub record AreTurns (lines : List (List ℕ)) (turns : List Turn) : Type 0 where
  pub are : map (λ turn. turn.line) turns ≡ lines
  pub each : All IsTurn turns

-- of all of them
abbrev pub requests_done : List Turn → List (List ℕ)
requests_done turns = flat_map requests_of turns

abbrev pub replies_given : List Turn → List Response
replies_given turns = flat_map replies_of turns

-- what is written of the first line of a session and of these lines
abbrev pub told_in : (greeting : Response) → List Turn → List LineReply
told_in greeting turns = lone_reply greeting ∷ map told_of turns

-- the lines of these replies
abbrev pub replies_text : List LineReply → List ℕ
replies_text replies = flat_map reply_line replies

-- the last reply, and no other, ends the session; or none does, and this holds
abbrev pub EndsAtLastOr : List Response → Type 0 → Type 0
EndsAtLastOr [] P = P
EndsAtLastOr (reply ∷ replies) P = MatchBool (is_bye reply) (replies ≡ []) (EndsAtLastOr replies P)

-- of these replies each but the last was written, and of the last a beginning
pub record WritesUpToLast (line_for : LineReply → List ℕ) (written all : Option (List ℕ)) (replies : List LineReply) : Type 0 where
  pub others : List LineReply
  pub last : LineReply
  pub are : replies ≡ others ++ last ∷ []
  pub between : Option (List ℕ)
  pub appended : Appends written between (flat_map line_for others)
  pub begun : AppendsBeginning between all (line_for last)

module _ {L : Type 0} (moment : L → Moment) where
  -- A session: what was written is its first line and a line for each line of what was read. It ends behind `quit`, or at the end of
  -- the input.
  pub record Serves (greeting : Response) (unread left : Option (List ℕ)) (written all : Option (List ℕ)) (old new : Server L) : Type 0 where
    pub read : List ℕ
    pub turns : List Turn
    pub consumed : Consumes unread left read
    pub lines : AreTurns (text_lines read) turns
    pub replied : HaveReplies moment (requests_done turns) (replies_given turns) old new
    pub appended : Appends written all (replies_text (told_in greeting turns))
    pub ends : EndsAtLastOr (map (λ turn. turn.reply) turns) (IsAtEnd left)
    -- the log has what the book says at the end, if it had at the start
    pub keeps : KeepsLog moment old.session.manager new.session.manager

  -- A session that was broken off: what was done is what whole lines that were read ask for, and the reply to the last of them, or the first
  -- line of the session, may not be written whole. More may have been read, of which nothing was done.
  pub record BreaksSession (greeting : Response) (unread written all : Option (List ℕ)) (old new : Server L) : Type 0 where
    pub read : List ℕ
    pub left : Option (List ℕ)
    pub turns : List Turn
    pub reads : ReadsWholeLines unread left read
    pub lines : AreTurns (text_lines read) turns
    pub replied : HaveReplies moment (requests_done turns) (replies_given turns) old new
    pub writes : WritesUpToLast reply_line written all (told_in greeting turns)
    pub keeps : KeepsLog moment old.session.manager new.session.manager

  -- A session whose input failed: each line that was read is done, and its reply was written whole. Of the next line at most a beginning was
  -- read, of which nothing is done.
  pub record InputFails (greeting : Response) (unread left : Option (List ℕ)) (written all : Option (List ℕ)) (old new : Server L) : Type 0 where
    pub read : List ℕ
    pub behind : Option (List ℕ)
    pub turns : List Turn
    pub consumed : Consumes unread behind read
    pub whole : IsWholeLines read
    pub next : ReadsBeginning behind left
    pub lines : AreTurns (text_lines read) turns
    pub replied : HaveReplies moment (requests_done turns) (replies_given turns) old new
    pub appended : Appends written all (replies_text (told_in greeting turns))
