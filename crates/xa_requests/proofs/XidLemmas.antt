-- The words of identifiers.
use Rattle.std.proofs.Common.{◌≡◌, ◌∙◌, ℕ, ◌^◌, ◌==◌, ◌&&◌, Bool, true, false, List, [], ◌∷◌, ◌++◌, get_or, Option, Some, None, Result, Ok, Err, IfOk, ℤ, refl, sym, ap, subst, arith, if◌then◌else◌}
use Rattle.std.specs.Fmt.{signed_decimal}
use Rattle.std.specs.List.{All, join_with_byte, slice_split}
use Rattle.std.specs.Prelude.{option_and_then}
use Rattle.std.specs.Result.{result_ok}
use Rattle.std.proofs.lemmas.Bool.{and_parts, and_from, ne_eqb}
use Rattle.std.proofs.lemmas.List.Elements.{All-from_get_or}
use Rattle.std.proofs.lemmas.List.Splits.{slice_split_at, slice_split_none, join_with_byte-slice_split}
use Rattle.hex.specs.Hex.{IsBytes, encode_lower, decode_of}
use Rattle.hex.proofs.HexLemmas.{decode_of-encode_lower}
use Rattle.xa_base.proofs.HexText.{encode-bytes_of, even_lower, hex-encode}
use Rattle.xa_base.proofs.TextLemmas.{no_colon-hex, no_colon-signed, one_xid, text_parts, xid_of_spells}
use Rattle.xa_base.specs.Xid.{Xid, IsInRange, IsXid, text_of, xid_of}
use Rattle.xa_base.specs.XidText.{HasNoColon, Spells, bytes_of, is_hex}
use Rattle.xa_base.specs.declared.fault.XidFault.{XidFault}
use Rattle.xa_requests.specs.Names.{xid_named, xid_of_texts}
use Rattle.xa_files.specs.Numbers.{signed_of}
use Rattle.xa_files.proofs.Choices.{none_left}
use Rattle.xa_files.proofs.NumberLemmas.{fits_of, signed_of-some, signed_of-text, within_of}

-- ** what spells an identifier is named by its texts

plain : (xs : List ℕ) → HasNoColon xs → All (λ c. (c == 58) ≡ false) xs
plain xs h = All-from_get_or (λ c. (c == 58) ≡ false) xs 0 (λ i below. ne_eqb (get_or xs i 0) 58 (h i below))

texts_of : (x : Xid) → IsInRange x → (text : List ℕ) → text ≡ text_of x
    → slice_split (λ c. c == 58) text ≡ signed_decimal x.format ∷ encode_lower x.gtrid ∷ encode_lower x.bqual ∷ []
texts_of x fits text e =
    let f = signed_decimal x.format in
    let g = encode_lower x.gtrid in
    let b = encode_lower x.bqual in
    ap (slice_split (λ c. c == 58)) (e ∙ text_parts x)
    ∙ slice_split_at (λ c. c == 58) f 58 (g ++ (58 ∷ b)) (plain f (no_colon-signed x.format fits.format)) refl
    ∙ ap (λ ts. f ∷ ts) (slice_split_at (λ c. c == 58) g 58 b (plain g (no_colon-hex x.gtrid fits.gtrid)) refl)
    ∙ ap (λ ts. f ∷ g ∷ ts) (slice_split_none (λ c. c == 58) b (plain b (no_colon-hex x.bqual fits.bqual)))

pub bytes_back : (bytes : List ℕ) → IsBytes bytes → bytes_of (encode_lower bytes) ≡ bytes
bytes_back bytes h =
    let parts = even_lower (encode_lower bytes) (hex-encode bytes h) in
    let back = encode-bytes_of (encode_lower bytes) parts.0 parts.1 in
    let same : Ok (bytes_of (encode_lower bytes)) ≡ Ok bytes =
    sym (decode_of-encode_lower (bytes_of (encode_lower bytes)) back.1) ∙ ap decode_of back.0 ∙ decode_of-encode_lower bytes h in
    cc same

named_texts : (x : Xid) → IsInRange x
    → xid_of_texts (signed_decimal x.format ∷ encode_lower x.gtrid ∷ encode_lower x.bqual ∷ []) ≡ result_ok (xid_of x.format x.gtrid x.bqual)
unfolding xid_of_texts
named_texts x fits =
    let number : signed_of (2 ^ 31) (signed_decimal x.format) ≡ Some x.format =
    signed_of-text (2 ^ 31) (signed_decimal x.format) x.format (omega arith) (within_of x.format fits.format) refl in
    let hexes : (is_hex (encode_lower x.gtrid) && is_hex (encode_lower x.bqual)) ≡ true =
    and_from (is_hex (encode_lower x.gtrid)) (is_hex (encode_lower x.bqual)) (hex-encode x.gtrid fits.gtrid) (hex-encode x.bqual fits.bqual) in
    ap (λ (o : Option ℤ). option_and_then (λ n. if is_hex (encode_lower x.gtrid) && is_hex (encode_lower x.bqual)
    then result_ok (xid_of n (bytes_of (encode_lower x.gtrid)) (bytes_of (encode_lower x.bqual))) else None) o) number
    ∙ ap (λ (t : Bool). if t then result_ok (xid_of x.format (bytes_of (encode_lower x.gtrid)) (bytes_of (encode_lower x.bqual))) else None) hexes
    ∙ ap (λ g. result_ok (xid_of x.format g (bytes_of (encode_lower x.bqual)))) (bytes_back x.gtrid fits.gtrid)
    ∙ ap (λ b. result_ok (xid_of x.format x.gtrid b)) (bytes_back x.bqual fits.bqual)

pub named_if_spelled : (word : List ℕ) (x : Xid) → Spells word x → xid_named word ≡ result_ok (xid_of x.format x.gtrid x.bqual)
unfolding xid_named
named_if_spelled word x h = ap xid_of_texts (texts_of x h.0 word h.1) ∙ named_texts x h.0

-- ** and what texts name is spelled by them

ok_of_some : {A E : Type 0} (r : Result A E) (y : A) → result_ok r ≡ Some y → r ≡ Ok y
ok_of_some (Ok x) y h = let same : x ≡ y = cc in ap Ok same
ok_of_some (Err e) y h = absurd (cc)

abbrev IsNamed : List ℕ → Xid → Type 0
IsNamed word y = Spells word y × (xid_of y.format y.gtrid y.bqual ≡ Ok y)

spelled_texts : (f g b : List ℕ) (n : ℤ) → signed_of (2 ^ 31) f ≡ Some n → is_hex g ≡ true → is_hex b ≡ true
    → let x : Xid = record { format = n; gtrid = bytes_of g; bqual = bytes_of b } in Spells (f ++ (58 ∷ (g ++ (58 ∷ b)))) x
spelled_texts f g b n number hg hb =
    let x : Xid = record { format = n; gtrid = bytes_of g; bqual = bytes_of b } in
    let s = signed_of-some (2 ^ 31) f n number in
    let pg = even_lower g hg in
    let pb = even_lower b hb in
    let eg = encode-bytes_of g pg.0 pg.1 in
    let eb = encode-bytes_of b pb.0 pb.1 in (
      record { format = fits_of n s.0; gtrid = eg.1; bqual = eb.1 },
      ap (λ (l : List ℕ). l ++ (58 ∷ (g ++ (58 ∷ b)))) s.1 ∙ ap (λ (l : List ℕ). signed_decimal n ++ (58 ∷ (l ++ (58 ∷ b)))) (sym eg.0)
          ∙ ap (λ (l : List ℕ). signed_decimal n ++ (58 ∷ (encode_lower (bytes_of g) ++ (58 ∷ l)))) (sym eb.0) ∙ sym (text_parts x),
    )

named_by : (f g b : List ℕ) (n : ℤ) (y : Xid) → signed_of (2 ^ 31) f ≡ Some n → is_hex g ≡ true → is_hex b ≡ true
    → xid_of n (bytes_of g) (bytes_of b) ≡ Ok y → IsNamed (f ++ (58 ∷ (g ++ (58 ∷ b)))) y
named_by f g b n y number hg hb is =
    let x : Xid = record { format = n; gtrid = bytes_of g; bqual = bytes_of b } in
    let text = f ++ (58 ∷ (g ++ (58 ∷ b))) in
    let spells = spelled_texts f g b n number hg hb in
    let kept : Spells text y = xid_of_spells text x (Ok y) spells (sym is) in
    let same : x ≡ y = one_xid text x y spells kept in
    (kept, ap (λ (z : Xid). xid_of z.format z.gtrid z.bqual) (sym same) ∙ is)

by_test : (f g b : List ℕ) (n : ℤ) (y : Xid) (t : Bool) → (is_hex g && is_hex b) ≡ t → signed_of (2 ^ 31) f ≡ Some n
    → (if t then result_ok (xid_of n (bytes_of g) (bytes_of b)) else None) ≡ Some y → IsNamed (f ++ (58 ∷ (g ++ (58 ∷ b)))) y
by_test f g b n y true test number is =
    let both = and_parts (is_hex g) (is_hex b) test in
    named_by f g b n y number both.0 both.1 (ok_of_some (xid_of n (bytes_of g) (bytes_of b)) y is)
by_test f g b n y false test number is = absurd (cc)

by_number : (f g b : List ℕ) (y : Xid) (number : Option ℤ) → signed_of (2 ^ 31) f ≡ number
    → option_and_then (λ n. if is_hex g && is_hex b then result_ok (xid_of n (bytes_of g) (bytes_of b)) else None) number ≡ Some y
    → IsNamed (f ++ (58 ∷ (g ++ (58 ∷ b)))) y
by_number f g b y None reads is = absurd (cc)
by_number f g b y (Some n) reads is = by_test f g b n y (is_hex g && is_hex b) refl reads is

of_texts : (texts : List (List ℕ)) (y : Xid) → xid_of_texts texts ≡ Some y → IsNamed (join_with_byte 58 texts) y
unfolding xid_of_texts
of_texts [] y is = absurd (cc)
of_texts (f ∷ []) y is = absurd (cc)
of_texts (f ∷ g ∷ []) y is = absurd (cc)
of_texts (f ∷ g ∷ b ∷ []) y is = by_number f g b y (signed_of (2 ^ 31) f) refl is
of_texts (f ∷ g ∷ b ∷ d ∷ more) y is = absurd (cc)

spelled_if_named : (word : List ℕ) (y : Xid) → xid_named word ≡ Some y → IsNamed word y
unfolding xid_named
spelled_if_named word y is =
    subst (λ (text : List ℕ). IsNamed text y) (join_with_byte-slice_split 58 word) (of_texts (slice_split (λ c. c == 58) word) y is)

pub xid_if_named : (word : List ℕ) (y : Xid) → xid_named word ≡ Some y → IsXid y × (word ≡ text_of y)
xid_if_named word y is =
    let named = spelled_if_named word y is in (record { in_range = named.0.0; faultless = named.1 }, named.0.1)

-- ** what is parsed

pub parse_names : (word : List ℕ) (r : Result Xid XidFault) → ((x : Xid) → Spells word x → r ≡ xid_of x.format x.gtrid x.bqual) → IfOk r (Spells word)
    → result_ok r ≡ xid_named word
parse_names word (Ok x) spelled read = ap result_ok (spelled x read) ∙ sym (named_if_spelled word x read)
parse_names word (Err e) spelled read = sym (none_left (xid_named word) (λ y is.
    let named = spelled_if_named word y is in
    let no : Err e ≡ Ok y = spelled y named.0 ∙ named.1 in
    cc no))
