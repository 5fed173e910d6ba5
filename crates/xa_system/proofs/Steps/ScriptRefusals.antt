-- When a script is refused.
use Rattle.std.proofs.Common.{◌≡◌, ℕ, Bool, true, false, [], ◌∷◌, refl, sym, ap, ◌∙◌}
use Rattle.std.specs.Prelude.{not, Option, Some, None, Result, Ok, Err, IfErr}
use Rattle.std.proofs.lemmas.Bool.{eqb-true, eq-eqb, false_from_ne_true}
use Rattle.xa_base.specs.declared.step.Step.TheVariants as Steps
use Rattle.xa_model.specs.Facts as facts
use Rattle.xa_model.specs.Replies.Guards.{is_at, refusal_by}
use Rattle.xa_model.specs.Replies.Rules.{applies}
use Rattle.xa_base.specs.Standing.{is_in_doubt, is_prepared}
use Rattle.xa_model.specs.Trace.{Name, Name.Foreign, Name.Ours, Trace}
use Rattle.xa_base.specs.declared.branch.Branch.{Branch}
use Rattle.xa_base.specs.declared.code.How.{How}
use Rattle.xa_base.specs.declared.refusal.Refusal.{Refusal}
use Rattle.xa_base.specs.declared.refusal.Refusal.TheVariants as Refusals
use Rattle.xa_base.specs.declared.state.Standing.{Standing}
use Rattle.xa_base.specs.declared.vote.Vote.{Vote}
use Rattle.xa_rm.specs.declared.fault.RmFault.{RmFault}
use Rattle.xa_rm.specs.declared.fault.RmFault.TheVariants as Faults

-- the guards of a script, by what they look at
abbrev pub script_why : (there up bad : Bool) → Option Refusal
script_why there up bad = refusal_by there ((Refusals.RmDown, not up) ∷ (Refusals.Script, bad) ∷ [])

-- a script that is refused before it is looked at is refused
pub script_hindered : (there up at bad : Bool) (n : Refusal) → Some n ≡ script_why there up (not at) → (at ≡ false → bad ≡ true)
    → script_why there up bad ≡ Some n
script_hindered true true false bad n e else_bad = ap (script_why true true) (else_bad refl) ∙ sym e
script_hindered true true true bad n e else_bad = absurd cc
script_hindered true false at bad n e else_bad = sym e
script_hindered false up at bad n e else_bad = sym e

-- one that isn't is looked at
pub script_free : (there up at : Bool) → None ≡ script_why there up (not at) → (there ≡ true) × (up ≡ true) × (at ≡ true)
script_free true true true e = (refl, refl, refl)
script_free true true false e = absurd cc
script_free true false at e = absurd cc
script_free false up at e = absurd cc

-- a name of a branch there
pub named_there : (r : ℕ) (n : Name) → is_at r n ≡ true → (b : Branch) × (n ≡ Ours b) × (b.rm ≡ r)
named_there r (Ours b) e = (b, refl, eqb-true b.rm r e)
named_there r (Foreign x) e = absurd (cc)

pub vote_elsewhere : (tr : Trace) (r : ℕ) (n : Name) (v : Vote) → is_at r n ≡ false → applies tr (Steps.Vote r n v) Refusals.Script ≡ true
vote_elsewhere tr r (Ours b) v e = rw e refl
vote_elsewhere tr r (Foreign x) v e = refl

pub heuristic_elsewhere : (tr : Trace) (r : ℕ) (n : Name) (how : How) → is_at r n ≡ false → applies tr (Steps.Heuristic r n how) Refusals.Script ≡ true
heuristic_elsewhere tr r (Ours b) how e = rw e refl
heuristic_elsewhere tr r (Foreign x) how e = refl

-- ** whether the branch is where the script wants it

pub vote_fine : (tr : Trace) (r : ℕ) (n : Name) (b : Branch) (v : Vote) (f : Standing) → n ≡ Ours b → b.rm ≡ r
    → f ≡ facts.standing tr b → (is_in_doubt f ≡ true → ⊥) → applies tr (Steps.Vote r n v) Refusals.Script ≡ false
vote_fine tr r n b v f is at same no_doubt =
    ap (λ m. applies tr (Steps.Vote r m v) Refusals.Script) is ∙ rw (eq-eqb b.rm r at, ← same) (false_from_ne_true (is_in_doubt f) no_doubt)

pub vote_bad : (tr : Trace) (r : ℕ) (n : Name) (b : Branch) (v : Vote) (f : Standing) → n ≡ Ours b → b.rm ≡ r
    → f ≡ facts.standing tr b → is_in_doubt f ≡ true → applies tr (Steps.Vote r n v) Refusals.Script ≡ true
vote_bad tr r n b v f is at same doubt = ap (λ m. applies tr (Steps.Vote r m v) Refusals.Script) is ∙ rw (eq-eqb b.rm r at, ← same) doubt

pub heuristic_fine : (tr : Trace) (r : ℕ) (n : Name) (b : Branch) (how : How) (f : Standing) → n ≡ Ours b → b.rm ≡ r
    → f ≡ facts.standing tr b → (is_prepared f ≡ false → ⊥) → applies tr (Steps.Heuristic r n how) Refusals.Script ≡ false
heuristic_fine tr r n b how f is at same prepared =
    ap (λ m. applies tr (Steps.Heuristic r m how) Refusals.Script) is ∙ rw (eq-eqb b.rm r at, ← same) (by_test (is_prepared f) prepared)
  where
    by_test : (t : Bool) → (t ≡ false → ⊥) → not t ≡ false
    by_test true g = refl
    by_test false g = absurd (g refl)

pub heuristic_bad : (tr : Trace) (r : ℕ) (n : Name) (b : Branch) (how : How) (f : Standing) → n ≡ Ours b → b.rm ≡ r
    → f ≡ facts.standing tr b → is_prepared f ≡ false → applies tr (Steps.Heuristic r n how) Refusals.Script ≡ true
heuristic_bad tr r n b how f is at same unprepared =
    ap (λ m. applies tr (Steps.Heuristic r m how) Refusals.Script) is ∙ rw (eq-eqb b.rm r at, ← same) (ap not unprepared)

-- the branch that a name is of is there
pub is_there : (r : ℕ) (n : Name) (b : Branch) → n ≡ Ours b → b.rm ≡ r → is_at r n ≡ true
is_there r n b is at = ap (is_at r) is ∙ eq-eqb b.rm r at

pub never_scripts : (told : Result (Unit {0}) RmFault) → told ≡ Err Faults.Script → IfErr told (λ fault. fault ≡ Faults.Memory) → ⊥
never_scripts (Ok u) e h = absurd (cc)
never_scripts (Err fault) e h = absurd (let two : Faults.Script ≡ Faults.Memory = sym (fault_is fault e) ∙ h in cc)
  where
    fault_is : (f : RmFault) → (let y : Result (Unit {0}) RmFault = Err f in y) ≡ Err Faults.Script → f ≡ Faults.Script
    fault_is f q = cc
