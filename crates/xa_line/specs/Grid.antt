-- The lines of a system: one for each thread and each resource manager, both numbered from 0.
use Rattle.std.specs.Prelude.{◌≡◌, ◌≢◌, ℕ, ◌+◌, ◌*◌, ◌<◌, Bool, ◌&&◌, nat_lt, List, length, slice_index_or, slice_set, replicate}
use Rattle.xa_line.specs.Traffic.{Traffic, no_traffic}

-- the lines of thread 0 in order of their resource managers, then those of thread 1, and so on
pub record Grid : Type 0 where
  pub threads : ℕ
  pub rms : ℕ
  pub lines : List Traffic

-- each line is there
abbrev pub IsWhole : Grid → Type 0
IsWhole g = length g.lines ≡ g.threads * g.rms

-- where the line of a thread and a resource manager stands
abbrev pub place : Grid → (thread rm : ℕ) → ℕ
place g t r = t * g.rms + r

abbrev pub HasLine : Grid → (thread rm : ℕ) → Type 0
HasLine g t r = (t < g.threads) × (r < g.rms)

-- whether the line is there
abbrev pub grid_has_line : Grid → (thread rm : ℕ) → Bool
grid_has_line g t r = nat_lt t g.threads && nat_lt r g.rms

-- the traffic of that line
abbrev pub line_at : Grid → (thread rm : ℕ) → Traffic
line_at g t r = slice_index_or g.lines (place g t r) no_traffic

-- that line has this traffic now, and the others are as they were
abbrev pub with_line : Grid → (thread rm : ℕ) → Traffic → Grid
with_line g t r l = record { threads = g.threads; rms = g.rms; lines = slice_set g.lines (place g t r) l }

-- all lines are new
abbrev pub new_grid : (threads rms : ℕ) → Grid
new_grid threads rms = record { threads = threads; rms = rms; lines = replicate (threads * rms) no_traffic }

-- the lines of one resource manager are new, and the others are as they were
pub record RenewsRm (old new : Grid) (rm : ℕ) : Type 0 where
  pub threads : new.threads ≡ old.threads
  pub rms : new.rms ≡ old.rms
  pub whole : IsWhole new
  pub renewed : (t : ℕ) → HasLine old t rm → line_at new t rm ≡ no_traffic
  pub others : (t r : ℕ) → HasLine old t r → r ≢ rm → line_at new t r ≡ line_at old t r
