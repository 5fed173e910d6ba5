-- Identifiers of transaction branches (XA, section 4.2, Transaction Identification).
use Rattle.xa_base.specs.declared.xid.TheConstants.{PART_LEN}
use Rattle.std.specs.Prelude.{◌≡◌, refl, ℕ, ◌&&◌, not, ◌++◌, codes, nat_eq, nat_le, Bool, if◌then◌else◌, ℤ, List, length, Result, Ok, Err, negsuc, FitsSigned}
use Rattle.std.specs.Fmt.{signed_decimal}
use Rattle.std.specs.Int.{w32}
use Rattle.hex.specs.Hex.{IsBytes, encode_lower}
use Rattle.std.specs.declared.cmp.Ordering.{Ordering}
use Rattle.std.specs.Ordering.{int_eq, int_cmp, nat_cmp, on, then_cmp, eq_by_cmp, eq_of_both, as_partial_cmp}
use Rattle.std.specs.Cmp.{IsEquivalence, and_equiv, on_equiv, int_eq_equiv, IsTotalOrder, then_total, on_total, int_cmp_total, IsPartialOrder, partial_order_from_agreeing_total, both_tied}
use Rattle.std.specs.Cmp.Lexicographic.{slice_cmp, pointwise, nat_list_eq_equiv, nat_list_cmp_total, texts_ties}
use Rattle.xa_base.specs.declared.fault.XidFault.{XidFault}
use Rattle.xa_base.specs.declared.fault.XidFault.TheVariants.{NullFormat, GtridLength, BqualLength}

-- a format number, a global transaction's identifier and a branch qualifier
pub record Xid : Type 0 where
  pub format : ℤ
  pub gtrid : List ℕ
  pub bqual : List ℕ

-- the format of the null identifier
abbrev pub null_format : ℤ
null_format = negsuc 0

-- whether either part has an allowed length
abbrev pub has_part_length : List ℕ → Bool
has_part_length part = nat_le 1 (length part) && nat_le (length part) PART_LEN

-- an identifier of these parts, or the first fault that they have
abbrev pub xid_of : ℤ → List ℕ → List ℕ → Result Xid XidFault
xid_of format gtrid bqual =
    if int_eq format null_format then Err NullFormat
    else if not (has_part_length gtrid) then Err GtridLength
    else if not (has_part_length bqual) then Err BqualLength
    else Ok (record { format = format; gtrid = gtrid; bqual = bqual })

-- the parts are numbers of their types
pub record IsInRange (x : Xid) : Type 0 where
  pub format : FitsSigned w32 x.format
  pub gtrid : IsBytes x.gtrid
  pub bqual : IsBytes x.bqual

-- the parts are those of an identifier
pub record IsXid (x : Xid) : Type 0 where
  pub in_range : IsInRange x
  pub faultless : xid_of x.format x.gtrid x.bqual ≡ Ok x

-- the text of parts: the format in decimal, and the bytes of each part in lower case hexadecimal
abbrev pub text_of : Xid → List ℕ
text_of x = signed_decimal x.format ++ codes ":" ++ encode_lower x.gtrid ++ codes ":" ++ encode_lower x.bqual

-- the order of identifiers: by format, then by the bytes of either part
abbrev pub xid_cmp : Xid → Xid → Ordering
xid_cmp = then_cmp (on (λ x. x.format) int_cmp) (then_cmp (on (λ x. x.gtrid) (slice_cmp nat_cmp)) (on (λ x. x.bqual) (slice_cmp nat_cmp)))

-- whether two identifiers have the same parts
abbrev pub same_parts : Xid → Xid → Bool
same_parts = eq_of_both (on (λ x. x.format) int_eq) (eq_of_both (on (λ x. x.gtrid) (pointwise nat_eq)) (on (λ x. x.bqual) (pointwise nat_eq)))

-- whether two identifiers are the same, as their order tells
abbrev pub xid_eq : Xid → Xid → Bool
xid_eq = eq_by_cmp xid_cmp

-- ** the laws that comparisons of identifiers owe

pub same_parts_equiv : IsEquivalence same_parts
same_parts_equiv =
    and_equiv (on_equiv (λ (x : Xid). x.format) int_eq_equiv)
    (and_equiv (on_equiv (λ (x : Xid). x.gtrid) nat_list_eq_equiv) (on_equiv (λ (x : Xid). x.bqual) nat_list_eq_equiv))

pub xid_cmp_total : IsTotalOrder xid_cmp
xid_cmp_total =
    then_total (on_total (λ (x : Xid). x.format) int_cmp_total)
    (then_total (on_total (λ (x : Xid). x.gtrid) nat_list_cmp_total) (on_total (λ (x : Xid). x.bqual) nat_list_cmp_total))

-- those with the same parts, and no others, tie
pub xid_ties : (x y : Xid) → same_parts x y ≡ xid_eq x y
xid_ties x y =
    both_tied (int_eq x.format y.format) _ (int_cmp x.format y.format) _ refl
    (both_tied (pointwise nat_eq x.gtrid y.gtrid) (pointwise nat_eq x.bqual y.bqual) (slice_cmp nat_cmp x.gtrid y.gtrid) (slice_cmp nat_cmp x.bqual y.bqual)
    (texts_ties x.gtrid y.gtrid) (texts_ties x.bqual y.bqual))

pub xid_partial_order : IsPartialOrder same_parts (as_partial_cmp xid_cmp)
xid_partial_order = partial_order_from_agreeing_total xid_cmp xid_cmp_total (λ x y. refl) xid_ties
