use Rattle.std.proofs.Common.{◌≡◌, ℕ, ◌<◌, Some}
use Rattle.std.specs.Prelude.{slice_get}
use Rattle.xa_workers.specs.Jobs.{MayEndAs}
use Rattle.xa_workers.proofs.verify.may_all_end.Given as goal

abbrev pub invariant-loop-job : goal.invariant-loop-job
invariant-loop-job l = (i : ℕ) (p e : _) → i < l.job → slice_get l.planned i ≡ Some p → slice_get l.ends i ≡ Some e → MayEndAs l.sweep p e
