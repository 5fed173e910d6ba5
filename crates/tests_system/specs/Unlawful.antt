-- A log of which nothing is known but how often it failed.
use Rattle.std.specs.Prelude.{ℕ, None}
use Rattle.xa_log.specs.Contract.{Moment}

-- it is never in order and never honest, so that the clauses of a log say nothing of it
abbrev pub unlawful : (faults : ℕ) → Moment
unlawful faults = record {
  content = None;
  is_in_order = ⊥;
  is_honest = ⊥;
  may_leave = λ c. ⊥;
  fault_count = faults;
}
