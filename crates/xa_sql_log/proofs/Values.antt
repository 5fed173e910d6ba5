-- Comparisons and conversions of whole numbers in SQL.
use Rattle.std.proofs.Common.{◌≡◌, ℤ, Bool, true, false, cond, Some, refl, ap, ◌∙◌, int_cmp, is_eq}
use Rattle.std.specs.Cmp.{int_cmp_total, tied_itself}
use Rattle.sqlite.specs.declared.types.Value.{Value}
use Rattle.sqlite.specs.declared.types.Value.TheVariants.{Null, Int}
use Rattle.sqlite.specs.Collation.TheVariants.{Binary}
use Rattle.sqlite.specs.Cast.{cast}
use Rattle.sqlite.specs.Kind.TheVariants.{Integer}
use Rattle.sqlite.specs.Ops.{unary, binary, is_true, from_truth}
use Rattle.sqlite_sql.specs.declared.ops.BinaryOp.TheVariants.{Compare}
use Rattle.sqlite_sql.specs.declared.ops.UnaryOp.TheVariants.{ToNumeric}
use Rattle.sqlite_sql.specs.declared.ops.CompareOp.TheVariants.{Eq}
use Rattle.sqlite_value.specs.Order.{value_cmp}
use Rattle.sqlite_value.proofs.OrderLemmas.{value_cmp-Int}

either : (b : Bool) (x : Value) → cond b x x ≡ x
either true x = refl
either false x = refl

pub cast_int : (n : ℤ) → cast Integer (Int n) ≡ Int n
unfolding unary
cast_int n = either _ (Int n)

pub cast_null : cast Integer Null ≡ Null
unfolding unary
cast_null = either _ Null

abbrev pub equal_to : Value → Value → Bool
equal_to a b = is_true (binary (Compare Eq Binary) a (unary ToNumeric b))

pub known : (b : Bool) → is_true (from_truth (Some b)) ≡ b
known true = refl
known false = refl

pub equal_numbers : (m n : ℤ) → equal_to (Int m) (Int n) ≡ is_eq (int_cmp m n)
unfolding unary binary
equal_numbers m n = known (is_eq (value_cmp (Int m) (Int n))) ∙ ap is_eq (value_cmp-Int m n)

pub same_id : (n : ℤ) → is_eq (value_cmp (Int n) (Int n)) ≡ true
same_id n = ap is_eq (value_cmp-Int n n ∙ tied_itself int_cmp_total n)

-- a comparison of columns, which converts nothing
pub alike_numbers : (m n : ℤ) → is_true (binary (Compare Eq Binary) (Int m) (Int n)) ≡ is_eq (int_cmp m n)
unfolding binary
alike_numbers m n = known (is_eq (value_cmp (Int m) (Int n))) ∙ ap is_eq (value_cmp-Int m n)
