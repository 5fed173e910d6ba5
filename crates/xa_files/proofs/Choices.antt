-- What is there only if a test holds.
use Rattle.std.proofs.Common.{◌≡◌, Bool, true, false, Option, Some, None, if◌then◌else◌, refl}

pub choice_true : {A : Type 0} (t : Bool) (x : A) → t ≡ true → (if t then Some x else None) ≡ Some x
choice_true true x h = refl
choice_true false x h = cc

pub choice_parts : {A : Type 0} (t : Bool) (x y : A) → (if t then Some x else None) ≡ Some y → (t ≡ true) × (x ≡ y)
choice_parts true x y h = let same : x ≡ y = cc in (refl, same)
choice_parts false x y h = absurd (cc)

-- what is no value is none
pub none_left : {A : Type 0} (o : Option A) → ((x : A) → o ≡ Some x → ⊥) → o ≡ None
none_left None h = refl
none_left (Some x) h = absurd (h x refl)
