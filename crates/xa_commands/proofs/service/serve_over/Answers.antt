use Rattle.std.proofs.Common.{◌≡◌, ◌⊎◌, inl, inr, ℕ, List, Option, refl, sym, subst}
use Rattle.std.specs.Prelude.{Result, Err}
use Rattle.std.proofs.lemmas.Result.{err_from_is_err_and}
use Rattle.xa_server.proofs.LineLemmas.{keeps_all}
use Rattle.xa_log.specs.declared.decision_log.DecisionLog as DecisionLog
use Rattle.xa_tm.specs.StartFaults.{IsOnlyRead, IsToBlame}
use Rattle.xa_tm.specs.declared.manager.start.StartFault.{StartFault}
use Rattle.xa_tm.specs.declared.manager.start.StartFault.TheVariants as starts
use Rattle.xa_files.specs.declared.fault.RunFault.TheVariants as faults
use Rattle.xa_commands.specs.Failures.{failure_of_service, failure_of_start, failure_status}
use Rattle.xa_commands.specs.Services.{StartsNot}
use Rattle.xa_commands.specs.declared.failure.Failure.{Failure}
use Rattle.xa_commands.specs.declared.failure.Failure.TheVariants.{Run}
use Rattle.xa_server.specs.declared.serving.ServeFault.{ServeFault}
use Rattle.xa_server.specs.declared.serving.ServeFault.TheVariants as services
use Rattle.xa_commands.proofs.service.serve_over.Goals as goal

-- why no coordinator starts
why_not : {C : Type 0} (fault : StartFault) (A B : Type 0) → ((let r : Result C StartFault = Err fault in r) ≡ Err starts.Log → A)
    → ((let r : Result C StartFault = Err fault in r) ≡ Err starts.Memory → B)
    → ((failure_of_start fault ≡ Run faults.Log) × A) ⊎ ((failure_of_start fault ≡ Run faults.Memory) × B)
why_not starts.Log A B log memory = inl (refl, log refl)
why_not starts.Memory A B log memory = inr (refl, memory refl)

starts_not : {L C : Type 0} (logs : DecisionLog.Ghosts L) (handed : L) (written : Option (List ℕ)) (fault : StartFault) (failure : Failure)
    → ((let r : Result C StartFault = Err fault in r) ≡ Err starts.Log → IsToBlame logs handed)
    → ((let r : Result C StartFault = Err fault in r) ≡ Err starts.Memory → ((left : L) × IsOnlyRead logs handed left))
    → failure ≡ failure_of_start fault → StartsNot logs handed written written failure
starts_not {L = L} logs handed written fault failure log memory is = record {
  silent = keeps_all written;
  why = subst (λ f. ((f ≡ Run faults.Log) × IsToBlame logs handed) ⊎ ((f ≡ Run faults.Memory) × ((left : L) × IsOnlyRead logs handed left))) (sym is)
      (why_not fault (IsToBlame logs handed) ((left : L) × IsOnlyRead logs handed left) log memory);
}

pub returns-in_err-server-clause-broken : goal.returns-in_err-server-clause-broken
returns-in_err-server-clause-broken g c =
    let p = err_from_is_err_and c.from_residual.result c.from_residual.ensures.1 in
    let e = c.in_err-server.ensures in
    rw p.1 (inl (starts_not g.L.DecisionLog c.args.log (g.W.Write.contents c.args.out.now) _ p.0 e.log_fault e.memory_fault p.2))

-- an early end has the status of a failure
service_status : (fault : ServeFault) → failure_status (failure_of_service fault) ≡ 2
service_status services.Input = refl
service_status services.Output = refl
service_status services.Memory = refl
service_status services.Strange = refl

pub returns-in-Ok-clause-ended : goal.returns-in-Ok-clause-ended
returns-in-Ok-clause-ended g c =
    let made = c.in_ok-server.ensures in (
      c.in_ok-server.server,
      c.serve_under.new.self,
      c.into_log.ensures,
      record {
        starts = record { stands = made.stands; old = made.old; started = made.started; over = made.over; holds = made.holds };
        serves = c.in-Ok.ensures.served;
      },
    )

pub returns-in-Err-Strange-clause-ended : goal.returns-in-Err-Strange-clause-ended
returns-in-Err-Strange-clause-ended g c =
    let made = c.in_ok-server.ensures in (
      c.in_ok-server.server,
      c.serve_under.new.self,
      c.into_log-in-Err-Strange.ensures,
      record {
        starts = record { stands = made.stands; old = made.old; started = made.started; over = made.over; holds = made.holds };
        breaks = c.in-Err-Strange.ensures.broken;
      },
    )

pub returns-in-Err : goal.returns-in-Err
returns-in-Err g c =
    let made = c.in_ok-server.ensures in
    record {
      ended = tt;
      broken = inr (
        c.in_ok-server.server,
        c.serve_under.new.self,
        record {
          starts = record { stands = made.stands; old = made.old; started = made.started; over = made.over; holds = made.holds };
          breaks = c.in-Err.ensures.broken;
        },
      );
      status = subst (λ f. failure_status f ≡ 2) (sym c.from.ensures) (service_status c.in-Err.fault);
    }
