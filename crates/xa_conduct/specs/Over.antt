-- When a transaction is over, and when no branch needs its row any more.
use Rattle.std.specs.Prelude.{◌&&◌, Bool, true, false, not}
use Rattle.std.specs.List.{list_any}
use Rattle.xa_conduct.specs.Places.{is_asked, is_left}
use Rattle.xa_conduct.specs.declared.part.Part.{Part}
use Rattle.xa_conduct.specs.declared.transaction.Standing.{Standing}
use Rattle.xa_conduct.specs.declared.transaction.Standing.TheVariants.{Committed, Idle, Open, Ready, RolledBack, Unknown}
use Rattle.xa_conduct.specs.declared.transaction.Transaction.{Transaction}

-- it has an outcome
abbrev pub is_decided : Standing → Bool
is_decided Idle = false
is_decided Open = false
is_decided Ready = false
is_decided Committed = true
is_decided (RolledBack why) = true
is_decided Unknown = true

-- calls were told that are yet to be answered
abbrev pub has_calls : Transaction → Bool
has_calls t = list_any (λ (part : Part). is_asked part.place) t.parts.items

abbrev pub is_all_answered : Transaction → Bool
is_all_answered t = is_decided t.standing && not (has_calls t)

-- the end of a branch is left to the recovery, which would need the row
abbrev pub has_left : Transaction → Bool
has_left t = list_any (λ (part : Part). is_left part.place) t.parts.items

-- it has a row that no branch needs any more
abbrev pub has_spare_row : Transaction → Bool
has_spare_row t = not (has_left t) && (t.has_row && is_all_answered t)
