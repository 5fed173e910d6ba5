-- What a line remembers of the calls that were issued.
use Rattle.std.specs.Prelude.{◌≡◌, List}
use Rattle.xa_base.specs.Xid.{Xid}
use Rattle.xa_base.specs.declared.call.Call.{Call}
use Rattle.xa_base.specs.Opening.{has_opened, has_closed}
use Rattle.xa_line.specs.declared.latch.Latch.{Latch}

-- the latch knows whether these calls opened and closed the line
abbrev pub Knows : Latch → List (Call Xid) → Type 0
Knows latch calls = (latch.opened ≡ has_opened calls) × (latch.closed ≡ has_closed calls)
