-- What a call of a log that fails by a plan does at its turn.
use Rattle.std.proofs.Common.{◌≡◌, Result, Err, refl, sym, ap, subst}
use Rattle.xa_log.specs.Content.{Content}
use Rattle.xa_log.specs.Contract.{fault_of}
use Rattle.xa_log.specs.FailLog.{DoesAt}
use Rattle.xa_log.specs.Memory.{RunsInMemory}
use Rattle.xa_log.specs.declared.decision_log.LogCall.{LogCall}
use Rattle.xa_log.specs.declared.fail_log.fail_plan.Turn.{Turn}
use Rattle.xa_log.specs.declared.fail_log.fail_plan.Turn.TheVariants.{Runs, FailsAfter, FailsBefore}
use Rattle.xa_log.specs.declared.log_fault.LogFault.{LogFault}
use Rattle.xa_log.specs.declared.log_fault.LogFault.TheVariants.{Store}
use Rattle.xa_log.specs.declared.mem_log.MemLog.{MemLog}

pub planned_before : {A : Type 0} (t : Turn) (call : LogCall) (change : Content → Content) (old new : MemLog) (r : Result A LogFault) → t ≡ FailsBefore
    → r ≡ Err Store → new ≡ old → DoesAt t call change old new (fault_of r)
planned_before t call change old new r is fails same = subst (λ k. DoesAt k call change old new (fault_of r)) (sym is) (ap fault_of fails, same)

planned : {A : Type 0} (t : Turn) (call : LogCall) (change : Content → Content) (old new : MemLog) (answer r : Result A LogFault)
    → (t ≡ FailsBefore → ⊥) → RunsInMemory call change old new (fault_of answer) → (t ≡ Runs → r ≡ answer) → (t ≡ FailsAfter → r ≡ Err Store)
    → DoesAt t call change old new (fault_of r)
planned Runs call change old new answer r apart ran runs fails = subst (λ x. RunsInMemory call change old new (fault_of x)) (sym (runs refl)) ran
planned FailsAfter call change old new answer r apart ran runs fails = (ap fault_of (fails refl), (fault_of answer, ran))
planned FailsBefore call change old new answer r apart ran runs fails = absurd (apart refl)

pub planned_as : {A : Type 0} (t : Turn) (call : LogCall) (change : Content → Content) (old old′ new new′ : MemLog) (answer r : Result A LogFault)
    → old′ ≡ old → new ≡ new′ → (t ≡ FailsBefore → ⊥) → RunsInMemory call change old′ new′ (fault_of answer) → (t ≡ Runs → r ≡ answer)
    → (t ≡ FailsAfter → r ≡ Err Store) → DoesAt t call change old new (fault_of r)
planned_as t call change old old′ new new′ answer r same_old same_new apart ran runs fails =
    subst (λ o. DoesAt t call change o new (fault_of r)) same_old
    (subst (λ n. DoesAt t call change old′ n (fault_of r)) (sym same_new) (planned t call change old′ new′ answer r apart ran runs fails))
