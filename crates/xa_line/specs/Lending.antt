-- How a line of a grid is lent.
use Rattle.std.specs.Prelude.{ℕ}
use Rattle.std.specs.Borrow.{Lends, MutBor, Fml}
use Rattle.xa_line.specs.Grid.{Grid, with_line}
use Rattle.xa_line.specs.Traffic.{Traffic}
use Rattle.xa_line.specs.contracts.line.Line as Line
use Rattle.xa_line.specs.contracts.lines.Lines as Lines

-- once the loan is over, the line has the traffic that was written there last, and the others are
-- as they were
abbrev pub LendsLine : MutBor Grid → (thread rm : ℕ) → MutBor Traffic → Fml
LendsLine g t r result = Lends Lines.the_row Line.the_row g result (λ l. with_line g.now t r l)
