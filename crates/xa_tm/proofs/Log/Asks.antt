-- What a call of the manager does to its log, by what the log's own call did.
use Rattle.std.proofs.Common.{◌≡◌, ℕ, Bool, true, false, inr, Result, Ok, Err, inl, refl}
use Rattle.xa_base.specs.declared.refusal.Refusal.{Refusal}
use Rattle.xa_base.specs.declared.refusal.Refusal.TheVariants.{LogFault}
use Rattle.xa_log.specs.Content.{Content}
use Rattle.xa_log.specs.Contract.{Changes, Moment}
use Rattle.xa_log.specs.declared.log_fault.LogFault.{LogFault as Fault}
use Rattle.xa_tm.specs.Calls.{AsksFor, faults_by}

module _ {A B : Type 0} (old new : Moment) where
  pub asks_made : (change : Content → Content) (x : A) (y : B) → Changes change old new (let r : Result A Fault = Ok x in r)
      → AsksFor change old new (let r : Result B Refusal = Ok y in r)
  asks_made change x y did = record { fault = λ order is. absurd (cc); crash = did.crash; order = did.order; honest = did.honest; faults = did.faults }

  pub asks_failed : (change : Content → Content) (e : Fault) → Changes change old new (let r : Result A Fault = Err e in r)
      → AsksFor change old new (let r : Result B Refusal = Err LogFault in r)
  asks_failed change e did = record { fault = λ order is. did.err order; crash = did.crash; order = did.order; honest = did.honest; faults = did.faults }

  -- ** another answer

  pub same_ok : (change : Content → Content) (x : A) (y : B) → Changes change old new (let r : Result A Fault = Ok x in r)
      → Changes change old new (let r : Result B Fault = Ok y in r)
  same_ok change x y did = record { ok = did.ok; err = λ order. tt; crash = did.crash; order = did.order; honest = did.honest; faults = did.faults }

  pub same_err : (change : Content → Content) (e : Fault) → Changes change old new (let r : Result A Fault = Err e in r)
      → Changes change old new (let r : Result B Fault = Err e in r)
  same_err change e did =
      record { ok = λ order honest. tt; err = did.err; crash = did.crash; order = did.order; honest = did.honest; faults = did.faults }

-- a call that doesn't ask the log
pub asks_none : {A : Type 0} (change : Content → Content) (x : A) (moment : Moment) → AsksFor change moment moment (let r : Result A Refusal = Ok x in r)
asks_none change x moment = record {
  fault = λ order is. absurd (cc);
  crash = λ order honest c left. inl left;
  order = λ order. order;
  honest = λ honest. honest;
  faults = refl;
}

-- whether the log failed
abbrev pub is_fault : Refusal → Bool
is_fault LogFault = true
is_fault _ = false

-- a call that a rule refuses doesn't ask it either
pub asks_refused : {A : Type 0} (change : Content → Content) (n : Refusal) (moment : Moment) → is_fault n ≡ false
    → AsksFor change moment moment (let r : Result A Refusal = Err n in r)
asks_refused {A = A} change n moment other = record {
  fault = λ order is. inr (inl refl);
  crash = λ order honest c left. inl left;
  order = λ order. order;
  honest = λ honest. honest;
  faults = uncounted n moment.fault_count other;
}
  where
    uncounted : (n : Refusal) (m : ℕ) → is_fault n ≡ false → m ≡ faults_by (let r : Result A Refusal = Err n in r) m
    uncounted LogFault m e = absurd (cc)
    uncounted _ m e = refl
