-- A system over a log of one's own.
use Rattle.std.specs.Prelude.{Option, Some, None, IfOk, Result, Ok, Err}
use Rattle.xa_tm.specs.Slots.{honest_in}

-- a place for a log that is honest always is so too
pub always_honest : {L : Type 0} (honest : L → Type 0) (was : L) (held : Option L) → ((log : L) → honest log) → honest_in honest was held
always_honest honest was (Some log) all = all log
always_honest honest was None all = all was

-- what holds of a result under a premise that always holds
pub without_premise : {A E : Type 0} (result : Result A E) (P Q : A → Type 0) → ((x : A) → Q x) → IfOk result (λ x. Q x → P x) → IfOk result P
without_premise (Ok x) P Q all holds = holds (all x)
without_premise (Err e) P Q all holds = tt
