-- What is told of an answer, by whether it gave a value.
use Rattle.std.proofs.Common.{◌≡◌, ◌⊎◌, inl, inr, false, Ok, Err, Result, Some, None, Option, is_some, IfOk, OnOk, OnErr, IsSomeAnd, refl, sym}
use Rattle.std.proofs.lemmas.Bool.{true≢false}

-- a part that gave a value did not stop on the way
pub went : {B E R : Type 0} {b : B} {Stops : E → Type 0} → ((stop : E) × Stops stop × (Ok b ≡ Err stop)) ⊎ R → R
went (inl stopped) = absurd (let e = stopped.2 in cc)
went (inr on) = on

pub same_value : {B E : Type 0} {a b : B} → ◌≡◌ {A = Result B E} (Ok a) (Ok b) → a ≡ b
same_value e = cc

pub if_ok : {A E : Type 0} (r : Result A E) (P Q : A → Type 0) → ((x : A) → P x → Q x) → IfOk r P → IfOk r Q
if_ok (Ok x) P Q gives h = gives x h
if_ok (Err e) P Q gives h = tt

pub on_ok : {A E : Type 0} (r : Result A E) (P : Type 0) → P → OnOk r P
on_ok (Ok x) P h = h
on_ok (Err e) P h = tt

pub on_err : {A E : Type 0} (r : Result A E) (P : Type 0) → P → OnErr r P
on_err (Ok x) P h = tt
on_err (Err e) P h = h

pub both_ok : {A E : Type 0} (r : Result A E) (P P′ Q : A → Type 0)
    → ((x : A) → P x → P′ x → Q x) → IfOk r P → IfOk r P′ → IfOk r Q
both_ok (Ok x) P P′ Q gives h h′ = gives x h h′
both_ok (Err e) P P′ Q gives h h′ = tt

pub on_any_ok : {A E : Type 0} (r : Result A E) (Q : A → Type 0) → ((x : A) → Q x) → IfOk r Q
on_any_ok (Ok x) Q gives = gives x
on_any_ok (Err e) Q gives = tt

pub some_and : {A : Type 0} (o : Option A) (P Q : A → Type 0) → ((x : A) → P x → Q x) → IsSomeAnd o P → IsSomeAnd o Q
some_and (Some x) P Q gives h = gives x h
some_and None P Q gives h = h

pub both3 : {A : Type 0} (o : Option A) (P Q R : A → Type 0) → IsSomeAnd o P → IsSomeAnd o Q → IsSomeAnd o R → IsSomeAnd o (λ x. P x × Q x × R x)
both3 (Some x) P Q R p q r = (p, q, r)
both3 None P Q R p q r = p

pub on_found : {A E : Type 0} (r : Result A E) (P : A → Type 0) (Q R : Type 0) → (Q → R) → IfOk r (λ x. P x × Q) → OnOk r R
on_found (Ok x) P Q R gives h = gives h.1
on_found (Err e) P Q R gives h = tt

pub no_some : {X : Type 0} (o : Option X) → false ≡ is_some o → o ≡ None
no_some None h = refl
no_some (Some x) h = absurd (true≢false (sym h))
