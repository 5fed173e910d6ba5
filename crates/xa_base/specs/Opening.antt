-- Which calls open and close a line, and what may be called there (XA, section 3.2, Opening and
-- Closing Resource Managers).
use Rattle.std.specs.Prelude.{Bool, true, false, ◌&&◌, not, List}
use Rattle.std.specs.List.{list_any}
use Rattle.xa_base.specs.declared.call.Call.{Call}
use Rattle.xa_base.specs.declared.call.Call.TheVariants as Calls

module _ {X : Type 0} where
  -- whether a call is xa_open
  abbrev pub opens : Call X → Bool
  opens Calls.OpenRm = true
  opens _ = false

  -- whether a call is xa_close
  abbrev pub closes : Call X → Bool
  closes Calls.CloseRm = true
  closes _ = false

  -- an xa_open was issued
  abbrev pub has_opened : (issued : List (Call X)) → Bool
  has_opened calls = list_any opens calls

  -- an xa_close was issued
  abbrev pub has_closed : (issued : List (Call X)) → Bool
  has_closed calls = list_any closes calls

-- a call other than xa_open if no xa_open was issued
abbrev pub comes_unopened : {X Y : Type 0} → (issued : List (Call X)) → Call Y → Bool
comes_unopened calls call = not (opens call) && not (has_opened calls)
