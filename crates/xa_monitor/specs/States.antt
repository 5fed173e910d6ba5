-- The states of XA's table in which a branch may be (XA, chapter 6, State Tables).
use Rattle.std.specs.Prelude.{◌≡◌, ◌⊎◌, Bool, true, Option, Some, None}
use Rattle.xa_base.specs.StateTable.{Kind, State, State.S0, State.S1, State.S2, State.S3, State.S4, State.S5, state_of}
use Rattle.xa_base.specs.declared.code.Code.{Code}
use Rattle.xa_base.specs.declared.code.How.{How}
use Rattle.xa_base.specs.declared.code.How.TheVariants.{Com, Haz, Mix, Rb}
use Rattle.xa_base.specs.declared.state.Standing.{Standing}
use Rattle.xa_monitor.specs.Standings.{Explains}
use Rattle.xa_monitor.specs.declared.states.HeuristicEnds.{HeuristicEnds}
use Rattle.xa_monitor.specs.declared.states.States.{States}

-- whether this heuristic end is among them
abbrev pub has_end : HeuristicEnds → How → Bool
has_end ends Com = ends.heurcom
has_end ends Rb = ends.heurrb
has_end ends Mix = ends.heurmix
has_end ends Haz = ends.heurhaz

-- whether this state is among them
abbrev pub has : States → State → Bool
has states S0 = states.s0
has states S1 = states.s1
has states S2 = states.s2
has states S3 = states.s3
has states S4 = states.s4
has states (S5 how) = has_end states.s5 how

-- a step from a standing in one of these states leads into one of those
abbrev pub LeadsInto : States → (Standing → Standing → Type 0) → States → Type 0
LeadsInto before Step after = (f g : Standing) → has before (state_of f) ≡ true → Step f g → has after (state_of g) ≡ true

-- those are no more: into each of them there is a step from one of these, wherever in it the branch stands
abbrev pub LeadsOnto : States → (Standing → Standing → Type 0) → States → Type 0
LeadsOnto before Step after =
    (t : State) → has after t ≡ true
    → (s : State) × (has before s ≡ true) × ((f : Standing) → state_of f ≡ s → (g : Standing) × Step f g × (state_of g ≡ t))

-- from one standing to another by what a call asks that is answered so; one that asks nothing of a branch moves none
abbrev pub MovesAsAsked : {X : Type 0} → Option (Kind × X) → Code → Standing → Standing → Type 0
MovesAsAsked (Some (k, x)) a f g = Explains f k a g
MovesAsAsked None a f g = g ≡ f

-- the same of a call that was done or wasn't, and whose answer isn't known
abbrev pub AskedOrNot : {X : Type 0} → Option (Kind × X) → Standing → Standing → Type 0
AskedOrNot asks f g = (g ≡ f) ⊎ ((a : Code) × MovesAsAsked asks a f g)
