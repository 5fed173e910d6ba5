-- What facts of a result come to.
use Rattle.std.specs.Prelude.{IfErr, IfSome, Err, None, Ok, Option, Result, Some}

pub from_both_err : {A E : Type 0} (result : Result A E) (P Q To : E → Type 0) → ((e : E) → P e → Q e → To e) → IfErr result P → IfErr result Q
    → IfErr result To
from_both_err (Ok x) P Q To both p q = tt
from_both_err (Err e) P Q To both p q = both e p q

pub for_some : {A : Type 0} (o : Option A) (P To : A → Type 0) → ((x : A) → P x → To x) → IfSome o P → IfSome o To
for_some (Some x) P To so p = so x p
for_some None P To so p = tt
