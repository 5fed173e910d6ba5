-- One line of a driver is served.
use Rattle.std.specs.Prelude.{◌≡◌, ◌⊎◌, ℕ, Bool, true, false, List, [], ◌∷◌, map, Option}
use Rattle.std.specs.Io.KnownBytes.{Appends, Consumes, IsAtEnd, Keeps}
use Rattle.std.specs.List.{list_any}
use Rattle.xa_server.specs.Lines.{IsWholeLines, ReadsBeginning, ReadsWholeLines, text_lines}
use Rattle.xa_server.specs.NamedLines.{line_written, lines_read, text_written}
use Rattle.xa_server.specs.Serving.{AreTurns, EndsAtLastOr, HaveReplies, Turn, is_bye, replies_given, requests_done, told_of}
use Rattle.xa_server.specs.declared.server.Server.{Server}
use Rattle.xa_files.specs.Outputs.{AppendsBeginning}
use Rattle.xa_log.specs.Contract.{Moment}

module _ {L : Type 0} (moment : L → Moment) where
  -- One line was served, or none at the end of the input, and the session goes on or not.
  pub record ServesLine (name : List ℕ) (unread left : Option (List ℕ)) (written all : Option (List ℕ)) (old new : Server L)
      (goes_on : Bool) : Type 0 where
    pub read : List ℕ
    pub turns : List Turn
    pub consumed : Consumes unread left read
    pub lines : AreTurns (text_lines read) turns
    pub replied : HaveReplies moment (lines_read name (requests_done turns)) (replies_given turns) old new
    pub appended : Appends written all (text_written name (map told_of turns))
    pub whole : goes_on ≡ true → IsWholeLines read
    pub silent : goes_on ≡ true → list_any is_bye (map (λ turn. turn.reply) turns) ≡ false
    pub ends : goes_on ≡ false → EndsAtLastOr (map (λ turn. turn.reply) turns) (IsAtEnd left)

  -- One line was served, and its reply wasn't written whole.
  pub record LosesReply (name : List ℕ) (unread : Option (List ℕ)) (written all : Option (List ℕ)) (old new : Server L) : Type 0 where
    pub read : List ℕ
    pub left : Option (List ℕ)
    pub turn : Turn
    pub reads : ReadsWholeLines unread left read
    pub lines : AreTurns (text_lines read) (turn ∷ [])
    pub replied : HaveReplies moment (lines_read name (requests_done (turn ∷ []))) (replies_given (turn ∷ [])) old new
    pub begun : AppendsBeginning written all (line_written name (told_of turn))

  -- It was broken off there, or before anything was done.
  abbrev pub BreaksOff : (name : List ℕ) → (unread written all : Option (List ℕ)) → (old new : Server L) → Type 0
  BreaksOff name unread written all old new = (Keeps written all × (new ≡ old)) ⊎ LosesReply name unread written all old new

-- The input failed before a line was read whole: nothing was done or written.
pub record FindsNoLine {L : Type 0} (unread left : Option (List ℕ)) (written all : Option (List ℕ)) (old new : Server L) : Type 0 where
  pub begun : ReadsBeginning unread left
  pub keeps : Keeps written all
  pub same : new ≡ old
