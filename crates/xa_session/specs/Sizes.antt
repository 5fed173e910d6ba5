-- How large a session is.
use Rattle.std.specs.Prelude.{◌≡◌}
use Rattle.xa_line.specs.Grid.{Grid}
use Rattle.xa_tm.specs.Book.{Book}

-- the book has the threads and the resource managers that have lines
abbrev pub HasItsLines : Book → Grid → Type 0
HasItsLines k g = (k.threads ≡ g.threads) × (k.rms ≡ g.rms)
