-- The text of a line of a story.
use Rattle.std.specs.Prelude.{ℕ, ◌-◌, ◌^◌, ◌==◌, if◌then◌else◌, false, List, [], ◌++◌, length, codes, Option, Some}
use Rattle.std.specs.Fmt.{digits, format_spec, padded, padded_integral}
use Rattle.std.specs.String.{string_bytes}
use Rattle.xa_story.specs.Parties.{sides_text}
use Rattle.xa_story.specs.declared.line.StoryLine.{StoryLine}
use Rattle.xa_story.specs.declared.party.Party.TheVariants.{Rm}
use Rattle.xa_story.specs.declared.party.Sides.{Sides}
use Rattle.xa_story.specs.declared.party.Sides.TheVariants.{Sends, Hears}
use Rattle.xa_story.specs.declared.waits.Waiting.{Waiting}

-- ** columns

-- a text at the left of a column, and a number at the right of one
abbrev pub left : (width : ℕ) → List ℕ → List ℕ
left width text = padded (format_spec 32 1 0 width (2 ^ 64 - 1)) text

abbrev pub right : (width : ℕ) → ℕ → List ℕ
right width number = padded_integral (format_spec 32 3 0 width (2 ^ 64 - 1)) false [] (digits 10 false number)

-- ** lines

-- who takes part, as it is told: what comes goes to or from whoever asked
abbrev pub sides_with : Sides → Option Waiting → Sides
sides_with (Sends (Rm rm) to) (Some item) = Sends (Rm rm) item.asker
sides_with (Hears by of) (Some item) = Hears item.asker of
sides_with sides came = sides

abbrev pub told_sides : StoryLine → Sides
told_sides line = sides_with line.sides line.came

-- what was asked, what that was answered, and what has changed, as far as there is any
abbrev pub columns : (asked reply change : List ℕ) → List ℕ
columns asked reply change = if length change == 0
    then (if length reply == 0 then asked else left 22 asked ++ codes " " ++ reply)
    else left 22 asked ++ codes " " ++ left 13 reply ++ codes " " ++ change

abbrev pub rest_text : StoryLine → List ℕ
rest_text line = columns (string_bytes line.asked) (string_bytes line.reply) (string_bytes line.change)

abbrev pub line_text : StoryLine → List ℕ
line_text line = right 3 line.number ++ codes "  " ++ left 18 (sides_text (told_sides line)) ++ codes " " ++ rest_text line ++ codes "\n"
