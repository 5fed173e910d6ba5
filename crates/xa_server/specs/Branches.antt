-- What a driver tells is of branches that have identifiers.
use Rattle.std.specs.Prelude.{ℕ, List}
use Rattle.xa_monitor.specs.Named.{AreOnBranches}
use Rattle.xa_monitor.specs.Seen.{Seen}
use Rattle.xa_requests.specs.declared.response.Response.{Response}
use Rattle.xa_server.specs.Telling.{HaveTold}

-- If what was seen before is so, then so is what lines and their replies tell: each call that was made is on a branch that has an identifier,
-- and each branch of this manager that a page listed has one.
abbrev pub CallsAreOnBranches : Type 0
CallsAreOnBranches =
    (threads : ℕ) (lines : List (List ℕ)) (replies : List Response) (seen more : Seen) → HaveTold threads lines replies seen more
    → AreOnBranches seen → AreOnBranches more
