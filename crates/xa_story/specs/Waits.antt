-- What waits on the lines, and what a crash takes from it.
use Rattle.std.specs.Prelude.{ℕ, ◌==◌, Bool, true, ◌&&◌, not}
use Rattle.xa_base.specs.declared.step.Part.{Part}
use Rattle.xa_base.specs.declared.step.Part.TheVariants.{Line, Rm, Manager}
use Rattle.xa_story.specs.declared.waits.Waiting.{Waiting}

-- whether the crash of a part breaks the line of a thread to a resource manager
abbrev pub breaks_line : Part → (thread rm : ℕ) → Bool
breaks_line (Line own other) thread rm = own == thread && other == rm
breaks_line (Rm other) thread rm = other == rm
breaks_line Manager thread rm = true

-- what waits on such a line
abbrev pub is_lost_with : Part → Waiting → Bool
is_lost_with part item = breaks_line part item.thread item.rm

-- a call that waits on a line
abbrev pub is_call_on : (thread rm : ℕ) → Waiting → Bool
is_call_on thread rm item = item.thread == thread && item.rm == rm && not item.is_answer
