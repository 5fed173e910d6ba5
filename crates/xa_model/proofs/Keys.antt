-- Equality of lines.
use Rattle.std.proofs.Common.{◌≡◌, true, arith}
use Rattle.std.proofs.lemmas.Bool.{eqb-true, eq-eqb, and_parts}
use Rattle.xa_model.specs.Trace.{Line, line_eq}

pub line_eq-true : (l m : Line) → line_eq l m ≡ true → l ≡ m
line_eq-true l m e =
    let p = and_parts _ _ e in
    let x = eqb-true _ _ p.0 in let y = eqb-true _ _ p.1 in
    λ i. record { thread = x i; rm = y i }

pub line_eq-refl : (l : Line) → line_eq l l ≡ true
line_eq-refl l = grind (arith, eq-eqb)
