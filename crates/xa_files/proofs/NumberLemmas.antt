-- The words of numbers.
use Rattle.std.proofs.Common.{◌≡◌, ◌≢◌, ◌∙◌, ℕ, suc, ◌<◌, ◌≤◌, ◌^◌, ◌&&◌, true, false, inl, inr, List, [], ◌∷◌, length, get_or, Some, None, Ok, Err, ℤ, pos, negsuc, refl, sym, ap, subst, arith, w64, FitsSigned, w32, nat_lt, if◌then◌else◌}
use Rattle.std.specs.Fmt.{decimal, signed_decimal}
use Rattle.std.specs.Str.{bytes_eq}
use Rattle.std.specs.Str.Parse.{ParsesSigned, ParsesUnsigned, digits_value, signed_digits_value, without_leading_plus, starts_with_minus}
use Rattle.std.proofs.lemmas.Bool.{and_parts, and_from, cases_eq, lt-ltb, ltb-true, ne_eqb}
use Rattle.std.proofs.lemmas.Fmt.{decimal_nonempty, first_decimal, digits_decimal, digits_value-decimal, decimal-digits_value, parse-decimal, parse-signed_decimal}
use Rattle.std.proofs.lemmas.Slice.Eq.{bytes_eq-Decides}
use Rattle.std.proofs.lemmas.Str.Parse.{digit_at, parse_plain, parse_signed_minus, parse_signed_plain, without_leading_plus_none}
use lib.IntN.{neg_ℤ}
use Rattle.xa_base.proofs.DecimalLemmas.{canonical_decimal, canonical_negative, leading, negative_text, numerals}
use Rattle.xa_base.specs.XidText.{is_canonical_decimal}
use Rattle.xa_files.specs.Numbers.{index_of, is_within, signed_of}
use Rattle.xa_files.proofs.Choices.{choice_true, choice_parts, none_left}

-- ** canonical texts

-- the first digit of a number
digit_first : (n : ℕ) → n < 2 ^ 64 → (48 ≤ get_or (decimal n) 0 0) × (get_or (decimal n) 0 0 ≤ 57)
digit_first n fits =
    let digit = digit_at (decimal n) 0 (digits_decimal numerals n fits) (decimal_nonempty n fits) in (digit.0, digit.1)

canonical_signed : (z : ℤ) → FitsSigned w64 z → is_canonical_decimal (signed_decimal z) ≡ true
canonical_signed (pos n) fits = canonical_decimal n (omega arith)
canonical_signed (negsuc n) fits =
    canonical_negative (decimal (suc n)) (first_decimal (suc n) (omega arith) (omega arith)) (digit_first (suc n) (omega arith)).1

-- a canonical text that begins with 0 is that digit
alone : (bs : List ℕ) → is_canonical_decimal bs ≡ true → get_or bs 0 0 ≡ 48 → length bs ≡ 1
alone [] h e = absurd (cc)
alone (c ∷ []) h e = refl
alone (c ∷ d ∷ rest) h e =
    let no : is_canonical_decimal (48 ∷ d ∷ rest) ≡ true = subst (λ (b : ℕ). is_canonical_decimal (b ∷ d ∷ rest) ≡ true) e h in
    let never : ⊥ = cc in absurd never

-- a canonical text begins with no plus sign
no_plus : (bs : List ℕ) → is_canonical_decimal bs ≡ true → get_or bs 0 0 ≢ 43
no_plus [] h e = cc
no_plus (c ∷ []) h e =
    let no : is_canonical_decimal (43 ∷ []) ≡ true = subst (λ (b : ℕ). is_canonical_decimal (b ∷ []) ≡ true) e h in cc
no_plus (c ∷ d ∷ rest) h e =
    let no : is_canonical_decimal (43 ∷ d ∷ rest) ≡ true = subst (λ (b : ℕ). is_canonical_decimal (b ∷ d ∷ rest) ≡ true) e h in cc

-- ** numbers without a sign

pub index_of-text : (word : List ℕ) (n : ℕ) → n < 2 ^ 32 → word ≡ decimal n → index_of word ≡ Some n
unfolding index_of
index_of-text word n fits e =
    let value : digits_value 10 word ≡ n = ap (digits_value 10) e ∙ digits_value-decimal numerals n (omega arith) in
    let same : bytes_eq (decimal n) word ≡ true = (bytes_eq-Decides (decimal n) word).1 (sym e) in
    ap (λ v. if nat_lt v (2 ^ 32) && bytes_eq (decimal v) word then Some v else None) value
    ∙ choice_true (nat_lt n (2 ^ 32) && bytes_eq (decimal n) word) n (and_from (nat_lt n (2 ^ 32)) (bytes_eq (decimal n) word) (lt-ltb n (2 ^ 32) fits) same)

pub index_of-some : (word : List ℕ) (n : ℕ) → index_of word ≡ Some n → (n < 2 ^ 32) × (word ≡ decimal n)
unfolding index_of
index_of-some word n h =
    let v = digits_value 10 word in
    let c = choice_parts (nat_lt v (2 ^ 32) && bytes_eq (decimal v) word) v n h in
    let both = and_parts (nat_lt v (2 ^ 32)) (bytes_eq (decimal v) word) c.0 in
    let fits : v < 2 ^ 32 = ltb-true v (2 ^ 32) both.0 in
    let text : decimal v ≡ word = (bytes_eq-Decides (decimal v) word).0 both.1 in
    (subst (λ (k : ℕ). k < 2 ^ 32) c.1 fits, sym text ∙ ap decimal c.1)

-- a canonical text that was read
pub index_of-read : (bs : List ℕ) (n : ℕ) → ParsesUnsigned {E = Unit {0}} 32 10 bs (Ok n) → is_canonical_decimal bs ≡ true → index_of bs ≡ Some n
index_of-read bs n h canonical =
    let read = parse_plain numerals {E = Unit {0}} 32 bs (Ok n) h (no_plus bs canonical) in
    let text : decimal (digits_value 10 bs) ≡ bs =
    decimal-digits_value numerals bs read.0.0 read.0.1 (alone bs canonical) (omega (arith, read.0.2)) in
    let small : n < 2 ^ 32 = omega (arith, read.0.2, read.1) in
    index_of-text bs n small (sym text ∙ ap decimal (sym read.1))

-- one that is not canonical, and one that was not read
pub index_of-other : (bs : List ℕ) → is_canonical_decimal bs ≡ false → index_of bs ≡ None
index_of-other bs h = none_left (index_of bs) (λ n is.
    let s = index_of-some bs n is in
    let canonical : is_canonical_decimal bs ≡ true = ap is_canonical_decimal s.1 ∙ canonical_decimal n (omega (arith, s.0)) in
    cc)

pub index_of-unread : (bs : List ℕ) → ParsesUnsigned {E = Unit {0}} 32 10 bs (Err tt) → index_of bs ≡ None
index_of-unread bs h = none_left (index_of bs) (λ n is.
    let s = index_of-some bs n is in
    let read : Err tt ≡ Ok n = parse-decimal {E = Unit {0}} 32 n bs (Err tt) s.0 (omega (arith, s.0)) s.1 h in
    cc read)

-- ** numbers with a sign

value_of_pos : (n : ℕ) (ds : List ℕ) → n < 2 ^ 64 → ds ≡ decimal n → signed_digits_value 10 ds ≡ pos n
value_of_pos n ds fits e =
    let first = digit_first n fits in
    let at : get_or ds 0 0 ≡ get_or (decimal n) 0 0 = ap (λ (l : List ℕ). get_or l 0 0) e in
    let no_minus : starts_with_minus ds ≡ false = ne_eqb (get_or ds 0 0) 45 (λ h. omega (arith, first.0)) in
    let plain : without_leading_plus ds ≡ ds = without_leading_plus_none ds (λ h. omega (arith, first.0)) in
    let value : digits_value 10 ds ≡ n = ap (digits_value 10) e ∙ digits_value-decimal numerals n fits in
    rw (no_minus, plain) (ap pos value)

value_back : (z : ℤ) → FitsSigned w64 z → signed_digits_value 10 (signed_decimal z) ≡ z
value_back (pos n) fits = value_of_pos n (decimal n) (omega arith) refl
value_back (negsuc n) fits = ap (λ v. neg_ℤ (pos v)) (digits_value-decimal numerals (suc n) (omega arith))

pub fits_within : (limit : ℕ) (z : ℤ) → limit ≤ 2 ^ 63 → is_within limit z ≡ true → FitsSigned w64 z
fits_within limit (pos n) most h = let small = ltb-true n limit h in record { sfits = omega arith }
fits_within limit (negsuc n) most h = let small = ltb-true n limit h in record { sfits = omega arith }

pub within_fits : (z : ℤ) → FitsSigned w64 z → is_within (2 ^ 63) z ≡ true
within_fits (pos n) h = lt-ltb n (2 ^ 63) h.sfits
within_fits (negsuc n) h = lt-ltb n (2 ^ 63) h.sfits

-- the same of 32 bits
pub within_of : (z : ℤ) → FitsSigned w32 z → is_within (2 ^ 31) z ≡ true
within_of (pos n) h = lt-ltb n (2 ^ 31) h.sfits
within_of (negsuc n) h = lt-ltb n (2 ^ 31) h.sfits

pub fits_of : (z : ℤ) → is_within (2 ^ 31) z ≡ true → FitsSigned w32 z
fits_of (pos n) h = let small = ltb-true n (2 ^ 31) h in record { sfits = omega arith }
fits_of (negsuc n) h = let small = ltb-true n (2 ^ 31) h in record { sfits = omega arith }

pub signed_of-text : (limit : ℕ) (word : List ℕ) (z : ℤ) → limit ≤ 2 ^ 63 → is_within limit z ≡ true → word ≡ signed_decimal z → signed_of limit word ≡ Some z
unfolding signed_of
signed_of-text limit word z most within e =
    let value : signed_digits_value 10 word ≡ z = ap (signed_digits_value 10) e ∙ value_back z (fits_within limit z most within) in
    let same : bytes_eq (signed_decimal z) word ≡ true = (bytes_eq-Decides (signed_decimal z) word).1 (sym e) in
    ap (λ v. if is_within limit v && bytes_eq (signed_decimal v) word then Some v else None) value
    ∙ choice_true (is_within limit z && bytes_eq (signed_decimal z) word) z (and_from (is_within limit z) (bytes_eq (signed_decimal z) word) within same)

pub signed_of-some : (limit : ℕ) (word : List ℕ) (z : ℤ) → signed_of limit word ≡ Some z → (is_within limit z ≡ true) × (word ≡ signed_decimal z)
unfolding signed_of
signed_of-some limit word z h =
    let v = signed_digits_value 10 word in
    let c = choice_parts (is_within limit v && bytes_eq (signed_decimal v) word) v z h in
    let both = and_parts (is_within limit v) (bytes_eq (signed_decimal v) word) c.0 in
    let text : signed_decimal v ≡ word = (bytes_eq-Decides (signed_decimal v) word).0 both.1 in
    (subst (λ (k : ℤ). is_within limit k ≡ true) c.1 both.0, sym text ∙ ap signed_decimal c.1)

-- the text of what was read
text_of_read : (bs : List ℕ) (z : ℤ) → ParsesSigned {E = Unit {0}} w64 10 bs (Ok z) → is_canonical_decimal bs ≡ true → bs ≡ signed_decimal z
text_of_read [] z h canonical = let no : ⊥ = cc in absurd no
text_of_read (c ∷ rest) z h canonical =
    elim (cases_eq c 45) [
      | inl minus ↦
          let read = parse_signed_minus numerals {E = Unit {0}} w64 (c ∷ rest) (Ok z) h minus in
          let low : 48 < get_or rest 0 0 = leading rest read.0.1 (subst (λ (b : ℕ). is_canonical_decimal (b ∷ rest) ≡ true) minus canonical) in
          let text : decimal (digits_value 10 rest) ≡ rest =
          decimal-digits_value numerals rest read.0.0 read.0.1 (λ e. absurd (omega arith)) (omega (arith, read.0.2)) in
          ap (λ (b : ℕ). b ∷ rest) minus ∙ sym (negative_text (digits_value 10 rest) rest text low) ∙ ap signed_decimal (sym read.1)
      | inr plain ↦
          let read = parse_signed_plain numerals {E = Unit {0}} w64 (c ∷ rest) (Ok z) h (no_plus (c ∷ rest) canonical) plain in
          let text : decimal (digits_value 10 (c ∷ rest)) ≡ c ∷ rest =
          decimal-digits_value numerals (c ∷ rest) read.0.0 read.0.1 (alone (c ∷ rest) canonical) (omega (arith, read.0.2)) in
          sym text ∙ ap signed_decimal (sym read.1)
    ]

pub integer_of-read : (bs : List ℕ) (z : ℤ) → ParsesSigned {E = Unit {0}} w64 10 bs (Ok z) → is_canonical_decimal bs ≡ true → FitsSigned w64 z
    → signed_of (2 ^ 63) bs ≡ Some z
integer_of-read bs z h canonical fits = signed_of-text (2 ^ 63) bs z (omega arith) (within_fits z fits) (text_of_read bs z h canonical)

pub integer_of-other : (bs : List ℕ) → is_canonical_decimal bs ≡ false → signed_of (2 ^ 63) bs ≡ None
integer_of-other bs h = none_left (signed_of (2 ^ 63) bs) (λ z is.
    let s = signed_of-some (2 ^ 63) bs z is in
    let canonical : is_canonical_decimal bs ≡ true =
    ap is_canonical_decimal s.1 ∙ canonical_signed z (fits_within (2 ^ 63) z (omega arith) s.0) in
    cc)

pub integer_of-unread : (bs : List ℕ) → ParsesSigned {E = Unit {0}} w64 10 bs (Err tt) → signed_of (2 ^ 63) bs ≡ None
integer_of-unread bs h = none_left (signed_of (2 ^ 63) bs) (λ z is.
    let s = signed_of-some (2 ^ 63) bs z is in
    let fits = fits_within (2 ^ 63) z (omega arith) s.0 in
    let read : Err tt ≡ Ok z = parse-signed_decimal {E = Unit {0}} w64 z bs (Err tt) fits fits.sfits s.1 h in
    cc read)
