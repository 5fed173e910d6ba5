-- How a line of a session is lent.
use Rattle.std.specs.Prelude.{ℕ}
use Rattle.std.specs.Borrow.{Lends, MutBor, Fml}
use Rattle.xa_line.specs.Grid.{Grid, with_line}
use Rattle.xa_line.specs.Traffic.{Traffic}
use Rattle.xa_session.specs.contracts.session_lines.SessionLines as Lines
use Rattle.xa_session.specs.contracts.session_line.SessionLine as Line

-- once the loan is over, the line has the traffic that was written there last, and the others are
-- as they were
abbrev pub LendsSessionLine : MutBor Grid → (thread rm : ℕ) → MutBor Traffic → Fml
LendsSessionLine g t r result = Lends Lines.the_row Line.the_row g result (λ l. with_line g.now t r l)
