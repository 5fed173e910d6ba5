-- Calls on branches that have an identifier.
use Rattle.std.specs.Prelude.{◌≡◌, true, Some}
use Rattle.xa_base.specs.StateTable.{Kind, asks_of}
use Rattle.xa_base.specs.declared.answer.Answer.TheVariants.{Page, Ret}
use Rattle.xa_model.specs.Facts.{fits}
use Rattle.xa_model.specs.Protocol.{Lists}
use Rattle.xa_model.specs.Trace.{Answer, Branch, Call, Happening, Happening.Issued, Name.Ours}
use Rattle.xa_monitor.specs.Seen.{Seen, Seen.Answered, Seen.Did, Seen.Lost, Seen.Start}

-- a call on a branch is on one that has an identifier
abbrev pub IsNamedCall : Call → Type 0
IsNamedCall c = (k : Kind) (b : Branch) → asks_of c ≡ Some (k, b) → fits b ≡ true

-- each branch of this manager that a page lists has one
abbrev pub IsNamedPage : Answer → Type 0
IsNamedPage (Page names) = (b : Branch) → Lists names (Ours b) → fits b ≡ true
IsNamedPage (Ret code) = Unit

-- if what happens is that a call is made, it is on such a branch
abbrev pub MakesNamedCall : Happening → Type 0
MakesNamedCall (Issued l c) = IsNamedCall c
MakesNamedCall e = Unit

-- Each call that was made is on a branch that has an identifier, and so is each branch of this manager that a page listed.
abbrev pub AreOnBranches : Seen → Type 0
AreOnBranches Start = Unit
AreOnBranches (Did seen e) = AreOnBranches seen × MakesNamedCall e
AreOnBranches (Answered seen l c a) = AreOnBranches seen × IsNamedPage a
AreOnBranches (Lost seen l c) = AreOnBranches seen
