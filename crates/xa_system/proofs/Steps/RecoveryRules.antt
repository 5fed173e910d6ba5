-- When a recovery is refused.
use Rattle.std.proofs.Common.{◌≡◌, ◌≤◌, ℕ, Bool, true, false, [], ◌∷◌, length, refl, arith}
use Rattle.std.specs.Prelude.{◌+◌, not, if◌then◌else◌, Option, Some, None, nat_lt}
use Rattle.std.specs.Option.{option_or}
use Rattle.std.proofs.lemmas.Bool.Decides.{nat_tests}
use Rattle.xa_model.specs.Facts as facts
use Rattle.xa_model.specs.Facts.{rm_up, waiting}
use Rattle.xa_model.specs.Replies.Guards.{refusal_by}
use Rattle.xa_model.specs.Replies.Rules.{has_rm, must_refuse}
use Rattle.xa_model.specs.Trace.{Happening.ResolvedOpen, Trace, Trace.Then, line}
use Rattle.xa_base.specs.declared.refusal.Refusal.{Refusal}
use Rattle.xa_base.specs.declared.refusal.Refusal.TheVariants as Refusals
use Rattle.xa_base.specs.declared.step.Step.TheVariants as Steps

-- the guards of a recovery, by what they look at
abbrev pub recovery_why : (there up rm_up shut closed full : Bool) → Option Refusal
recovery_why there up rm_up shut closed full =
    refusal_by there ((Refusals.ManagerDown, not up) ∷ (Refusals.RmDown, not rm_up) ∷ (Refusals.NotOpen, shut) ∷ (Refusals.Closed, closed)
    ∷ (Refusals.Full, full) ∷ [])

pub resolve_rule : (tr : Trace) (r : ℕ)
    → must_refuse tr (Steps.Resolve r)
    ≡ recovery_why (has_rm tr r) (facts.up tr) (rm_up tr r) (not (facts.is_open tr (line 0 r))) (facts.is_closed tr (line 0 r))
    (nat_lt 64 (waiting tr (line 0 r) + length (facts.resolving_calls tr (facts.page tr r))))
resolve_rule tr r = refl

pub open_rule : (tr : Trace) (r : ℕ)
    → must_refuse tr (Steps.ResolveOpen r)
    ≡ recovery_why (has_rm tr r) (facts.up tr) (rm_up tr r) (not (facts.is_open tr (line 0 r))) (facts.is_closed tr (line 0 r))
    (nat_lt 64 (waiting tr (line 0 r) + length (facts.resolving_calls (Then tr (ResolvedOpen r)) (facts.page tr r))))
open_rule tr r = refl

-- nothing hinders a recovery
pub recovery_free : (there up rm_is_up shut closed full : Bool) → recovery_why there up rm_is_up shut closed full ≡ None
    → (there ≡ true) × (up ≡ true) × (shut ≡ false) × (closed ≡ false) × (full ≡ false)
recovery_free true true true false false false e = (refl, refl, refl, refl, refl)
recovery_free true true true false false true e = absurd (cc)
recovery_free true true true false true full e = absurd (cc)
recovery_free true true true true closed full e = absurd (cc)
recovery_free true true false shut closed full e = absurd (cc)
recovery_free true false rm_is_up shut closed full e = absurd (cc)
recovery_free false up rm_is_up shut closed full e = absurd (cc)

pub room_for : (waits n : ℕ) → nat_lt 64 (waits + n) ≡ false → waits + n ≤ 64
room_for waits n e = grind (arith, nat_tests, e)

-- what the line says of one, if all are up
pub line_says : (shut closed full : Bool) → recovery_why true true true shut closed full
    ≡ option_or (if shut then Some Refusals.NotOpen else (if closed then Some Refusals.Closed else None)) (if full then Some Refusals.Full else None)
line_says true closed full = refl
line_says false true full = refl
line_says false false full = refl
