-- Where a branch may stand, by the branch state table and all that was answered (XA, chapter 6, State Tables).
use Rattle.std.specs.Prelude.{ℕ, ◌≡◌, ◌⊎◌, ◌<◌, Bool, true, false, if◌then◌else◌, Option, Some, None}
use Rattle.xa_base.specs.Branch.{branch_eq}
use Rattle.xa_base.specs.Standing.{is_in_doubt}
use Rattle.xa_base.specs.StateTable.{Kind, answer, asks_of, broken, moved, state_of}
use Rattle.xa_base.specs.declared.answer.Answer.TheVariants.{Page, Ret}
use Rattle.xa_base.specs.declared.state.Standing.{Standing}
use Rattle.xa_base.specs.declared.state.Standing.TheVariants.{Completed, Prepared, Unstarted}
use Rattle.xa_model.specs.Facts.{fits}
use Rattle.xa_model.specs.Protocol.{Lists}
use Rattle.xa_model.specs.Trace.{Answer, Branch, Call, Code, How, Line, Name.Ours, Origin, Vote, line_eq, line_of}
use Rattle.xa_monitor.specs.Seen.{Seen, Seen.Answered, Seen.Did, Seen.Lost, Seen.Start}

-- ** one answer

-- from one standing to another by a call that is answered so: the resource manager may have ended a prepared branch by itself before
-- the call, and then the table has that answer, for some vote and some retries
pub record Explains (from : Standing) (k : Kind) (a : Code) (to : Standing) : Type 0 where
  pub as_called : Standing
  pub alone : (as_called ≡ from) ⊎ ((from ≡ Prepared) × ((how : How) × (as_called ≡ Completed how)))
  pub vote : Vote
  pub retries : ℕ
  pub answers : answer k (state_of as_called) vote retries ≡ a
  pub moves : to ≡ moved as_called k a

-- the same of a branch that the call names, or doesn't
abbrev pub ExplainsIf : Bool → (from : Standing) → Kind → Code → (to : Standing) → Type 0
ExplainsIf true from k a to = Explains from k a to
ExplainsIf false from k a to = to ≡ from

-- the same of a branch and what a call asks: nothing of any, or something of one
abbrev pub ExplainsAsked : Option (Kind × Branch) → Code → Branch → (from to : Standing) → Type 0
ExplainsAsked (Some (k, c)) a b from to = ExplainsIf (branch_eq c b) from k a to
ExplainsAsked None a b from to = to ≡ from

-- the same of any answer. What a page of a resource manager lists is in doubt there
abbrev pub Explained : Line → Call → Answer → Branch → (from to : Standing) → Type 0
Explained l c (Ret a) b from to = ExplainsAsked (asks_of c) a b from to
Explained l c (Page names) b from to = (to ≡ from) × (Lists names (Ours b) → (b.rm ≡ l.rm) × (is_in_doubt from ≡ true))

-- a call that waited first on a line that was lost may have been done, or not; and then there may have been none
abbrev pub MayBeDone : Option Call → Branch → (from to : Standing) → Type 0
MayBeDone (Some c) b from to = (to ≡ from) ⊎ ((a : Code) × ExplainsAsked (asks_of c) a b from to)
MayBeDone None b from to = to ≡ from

-- ** all answers

-- a branch of an older incarnation may be found prepared, completed or gone; a younger one isn't started
abbrev pub MayBeFound : Origin → Branch → Standing → Type 0
MayBeFound o b f = (f ≡ Unstarted) ⊎ ((fits b ≡ true) × (b.gtrid.incarnation < o.incarnation) × (broken f ≡ f))

-- where a branch may stand, after what was seen
abbrev pub MayStand : Origin → Seen → Branch → Standing → Type 0
MayStand o Start b f = MayBeFound o b f
MayStand o (Did seen e) b f = MayStand o seen b f
MayStand o (Answered seen l c a) b f = (from : Standing) × MayStand o seen b from × Explained l c a b from f
MayStand o (Lost seen l c) b f =
    (from : Standing) × MayStand o seen b from
    × ((to : Standing) × MayBeDone c b from to × (f ≡ (if line_eq l (line_of b) then broken to else to)))

-- ** from a start that is known

-- a branch may have come from the one standing at the start to the other
abbrev pub Comes : Seen → Branch → (from to : Standing) → Type 0
Comes Start b from to = to ≡ from
Comes (Did seen e) b from to = Comes seen b from to
Comes (Answered seen l c a) b from to = (mid : Standing) × Comes seen b from mid × Explained l c a b mid to
Comes (Lost seen l c) b from to =
    (mid : Standing) × Comes seen b from mid
    × ((end : Standing) × MayBeDone c b mid end × (to ≡ (if line_eq l (line_of b) then broken end else end)))
