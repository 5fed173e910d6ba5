-- Which events a story tells.
use Rattle.std.specs.Prelude.{◌≡◌, ℕ, ◌+◌, List, [], ◌∷◌, ◌++◌, codes}
use Rattle.std.specs.List.{flat_map}
use Rattle.std.specs.String.{string_bytes}
use Rattle.xa_base.specs.Xid.{Xid}
use Rattle.xa_base.specs.declared.reply.Event.{Event}
use Rattle.xa_base.specs.declared.state.Fate.{Fate}
use Rattle.xa_story.specs.Asked.{asked_text}
use Rattle.xa_story.specs.Ends.{branch_end_line}
use Rattle.xa_story.specs.Lines.{line_text}
use Rattle.xa_story.specs.Naming.{Naming, unbegun, with_events, with_step}
use Rattle.xa_story.specs.Parties.{sides_of}
use Rattle.xa_story.specs.Replied.{told_reply_text}
use Rattle.xa_story.specs.declared.line.StoryLine.{StoryLine}

-- a line tells the event of this number: who took part, what was asked, and what that was replied
pub record IsToldOf (n : Naming) (number : ℕ) (event : Event) (line : StoryLine) : Type 0 where
  pub number_is : line.number ≡ number
  pub sides : line.sides ≡ sides_of event.step
  pub asked : string_bytes line.asked ≡ asked_text n event
  pub reply : string_bytes line.reply ≡ told_reply_text event

-- the lines tell the events in turn, from this number on, each by the names that were begun before
-- it
abbrev pub TellEvents : Naming → ℕ → List Event → List StoryLine → Type 0
TellEvents n number [] [] = Unit
TellEvents n number (event ∷ events) (line ∷ lines) =
    IsToldOf n number event line × TellEvents (with_step n event.step event.reply) (number + 1) events lines
TellEvents n number events lines = ⊥

-- a text has these lines, then one for each branch with its fate, and then the reasons
pub record IsSpelled (n : Naming) (lines : List StoryLine) (fates : List (Xid × Fate)) (text : List ℕ) : Type 0 where
  pub reasons : List ℕ
  pub is : text ≡ flat_map line_text lines ++ codes "\n" ++ flat_map (branch_end_line n) fates ++ reasons

-- a text is the story of a run of these events whose branches have these fates, by the names that
-- the file gives
pub record IsStory (names : List (List ℕ)) (events : List Event) (fates : List (Xid × Fate)) (text : List ℕ) : Type 0 where
  pub lines : List StoryLine
  pub told : TellEvents (unbegun names) 1 events lines
  pub spelled : IsSpelled (with_events (unbegun names) events) lines fates text
