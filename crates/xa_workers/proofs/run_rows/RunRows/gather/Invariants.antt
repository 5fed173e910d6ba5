use Rattle.std.proofs.Common.{◌≡◌, ◌<◌, ℕ, get_or, vec_len}
use Rattle.std.specs.List.{AllByRecursion}
use Rattle.xa_log.specs.Contract.{FitsRow}
use Rattle.xa_workers.specs.Rows.{Adds, IsNoted}
use Rattle.xa_workers.specs.declared.docket.Asked.{Asked}
use Rattle.xa_workers.proofs.run_rows.RunRows.gather.Given as goal

abbrev pub invariant-loop-job : goal.invariant-loop-job
invariant-loop-job g l =
    record {
      log : l.self.log ≡ l.initial.self.log;
      first : l.self.first ≡ l.initial.self.first;
      len : vec_len l.self.written ≡ vec_len l.initial.self.written;
      adds : Adds l.jobs l.incarnation l.initial.self.written.items l.decisions.items l.self.written.items;
      fit : AllByRecursion (λ d. FitsRow d.gtrid) l.decisions.items;
      noted : (k : ℕ) → k < l.job-index → (d : Asked) → IsNoted l.self.written.items (get_or l.asked k d).job;
      own : AllByRecursion (λ d. AllByRecursion (λ b. b.gtrid ≡ d.gtrid) d.participants.items) l.decisions.items;
    }
