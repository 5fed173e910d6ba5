-- Steps that are done one after the other.
use Rattle.std.proofs.Common.{◌≡◌, ◌<◌, ◌≤◌, ◌+◌, ◌++◌, ◌∙◌, ℕ, arith, List, [], ◌∷◌, take, length, sym, ap}
use Rattle.std.specs.Prelude.{slice_index_or}
use Rattle.std.proofs.lemmas.List.{append_assoc, length-append, map_push, take_more}
use Rattle.xa_base.specs.Xid.{Xid}
use Rattle.xa_base.specs.declared.reply.Event.{Event}
use Rattle.xa_base.specs.declared.reply.Reply.{Reply}
use Rattle.xa_base.specs.declared.step.Step.{Step}
use Rattle.xa_system.specs.SystemView.{AddsSteps}

-- one more of the steps was done
pub adds_more : (steps : List (Step Xid)) (i : ℕ) (first old new : List Event) (step : Step Xid) (reply : Reply Xid) → i < length steps
    → AddsSteps (take i steps) first old → step ≡ slice_index_or steps i step → new ≡ old ++ record { step = step; reply = reply } ∷ []
    → AddsSteps (take (i + 1) steps) first new
adds_more steps i first old new step reply low adds is one =
    let event : Event = record { step = step; reply = reply } in (
      adds.0 ++ event ∷ [],
      map_push (λ (e : Event). e.step) adds.0 event ∙ ap (λ l. l ++ step ∷ []) adds.1 ∙ ap (λ s. take i steps ++ s ∷ []) is
          ∙ sym (take_more steps i step low),
      one ∙ ap (λ l. l ++ event ∷ []) adds.2 ∙ append_assoc first adds.0 (event ∷ []),
    )

pub room_more : (old new : List Event) (event : Event) (n limit i : ℕ) → new ≡ old ++ event ∷ [] → length old + n ≤ limit + i
    → length new + n ≤ limit + (i + 1)
room_more old new event n limit i one room =
    let longer : length new ≡ length old + 1 = ap length one ∙ length-append old (event ∷ []) in
    let a : length new + n ≤ limit + (i + 1) = omega (arith, longer, room) in a
