-- Texts without a space, and the words of a line of such texts.
use Rattle.std.proofs.Common.{◌≡◌, ◌≢◌, ◌∙◌, ℕ, suc, ◌<◌, ◌^◌, ◌==◌, not, true, false, List, [], ◌∷◌, ◌++◌, get_or, ℤ, pos, negsuc, refl, ap, subst, arith, w64, w32, FitsSigned, append_assoc, append-nil}
use Rattle.std.specs.Fmt.{decimal, signed_decimal}
use Rattle.std.specs.List.{All, list_all}
use Rattle.std.specs.Prelude.{codes}
use Rattle.std.proofs.lemmas.Bool.{and_parts, ne_eqb, not-true}
use Rattle.std.proofs.lemmas.Fmt.{digits_decimal}
use Rattle.std.proofs.lemmas.List.Elements.{All-append, All-cons, All-from_get_or, All-nil}
use Rattle.std.proofs.lemmas.List.Splits.{slice_split_at, slice_split_none}
use Rattle.std.proofs.lemmas.Str.Parse.{digit_at}
use Rattle.hex.specs.Hex.{encode_lower}
use Rattle.xa_base.proofs.DecimalLemmas.{numerals}
use Rattle.xa_base.proofs.HexText.{lower-encode}
use Rattle.xa_base.specs.Xid.{Xid, IsInRange, text_of}
use Rattle.xa_base.specs.XidText.{is_lower_hex}
use Rattle.xa_requests.specs.Words.{words_of}

abbrev pub NoSpace : List ℕ → Type 0
NoSpace text = All (λ c. (c == 32) ≡ false) text

-- a text that is written out
pub spaceless : (text : List ℕ) → list_all (λ c. not (c == 32)) text ≡ true → NoSpace text
spaceless [] h = All-nil (λ c. (c == 32) ≡ false)
spaceless (c ∷ text) h =
    let both = and_parts (not (c == 32)) (list_all (λ c. not (c == 32)) text) h in
    All-cons (λ c. (c == 32) ≡ false) c text (not-true (c == 32) both.0) (spaceless text both.1)

lower_text : (text : List ℕ) → list_all is_lower_hex text ≡ true → NoSpace text
lower_text [] h = All-nil (λ c. (c == 32) ≡ false)
lower_text (c ∷ text) h =
    let both = and_parts (is_lower_hex c) (list_all is_lower_hex text) h in
    let other : c ≢ 32 = λ e. let no : is_lower_hex 32 ≡ true = subst (λ (b : ℕ). is_lower_hex b ≡ true) e both.0 in cc in
    All-cons (λ c. (c == 32) ≡ false) c text (ne_eqb c 32 other) (lower_text text both.1)

pub decimal_text : (n : ℕ) → n < 2 ^ 64 → NoSpace (decimal n)
decimal_text n fits =
    All-from_get_or (λ c. (c == 32) ≡ false) (decimal n) 0 (λ i below.
    let digit = digit_at (decimal n) i (digits_decimal numerals n fits) below in
    ne_eqb (get_or (decimal n) i 0) 32 (λ e. omega (arith, digit.0)))

pub signed_text : (z : ℤ) → FitsSigned w64 z → NoSpace (signed_decimal z)
signed_text (pos n) fits = decimal_text n (omega arith)
signed_text (negsuc n) fits = All-cons (λ c. (c == 32) ≡ false) 45 (decimal (suc n)) refl (decimal_text (suc n) (omega arith))

wider : (z : ℤ) → FitsSigned w32 z → FitsSigned w64 z
wider (pos n) h = record { sfits = omega arith }
wider (negsuc n) h = record { sfits = omega arith }

pub xid_text : (x : Xid) → IsInRange x → NoSpace (text_of x)
xid_text x fits =
    let P : ℕ → Type 0 = λ c. (c == 32) ≡ false in
    let f = signed_decimal x.format in
    let g = encode_lower x.gtrid in
    let b = encode_lower x.bqual in
    let colon = spaceless (codes ":") refl in
    let first = All-append P f (codes ":") (signed_text x.format (wider x.format fits.format)) colon in
    let second = All-append P (f ++ codes ":") g first (lower_text g (lower-encode x.gtrid fits.gtrid)) in
    let third = All-append P (f ++ codes ":" ++ g) (codes ":") second colon in
    All-append P (f ++ codes ":" ++ g ++ codes ":") b third (lower_text b (lower-encode x.bqual fits.bqual))

-- ** words

pub cut_word : (word rest : List ℕ) → NoSpace word → words_of (word ++ (32 ∷ rest)) ≡ word ∷ words_of rest
unfolding words_of
cut_word word rest h = slice_split_at (λ c. c == 32) word 32 rest h refl

pub last_word : (word : List ℕ) → NoSpace word → words_of word ≡ word ∷ []
unfolding words_of
last_word word h = slice_split_none (λ c. c == 32) word h

-- a text after a space, and with another after it
pub two_words : (name t : List ℕ) → NoSpace name → NoSpace t → words_of (name ++ codes " " ++ t ++ []) ≡ name ∷ t ∷ []
two_words name t hn ht =
    let pieces : name ++ codes " " ++ t ++ [] ≡ name ++ (32 ∷ t) = append-nil (name ++ codes " " ++ t) ∙ append_assoc name (codes " ") t in
    ap words_of pieces ∙ cut_word name t hn ∙ ap (λ ws. name ∷ ws) (last_word t ht)

pub three_words : (name t flag : List ℕ) → NoSpace name → NoSpace t → NoSpace flag
    → words_of (name ++ codes " " ++ t ++ (32 ∷ flag)) ≡ name ∷ t ∷ flag ∷ []
three_words name t flag hn ht hf =
    let pieces : name ++ codes " " ++ t ++ (32 ∷ flag) ≡ name ++ (32 ∷ (t ++ (32 ∷ flag))) =
    append_assoc (name ++ codes " ") t (32 ∷ flag) ∙ append_assoc name (codes " ") (t ++ (32 ∷ flag)) in
    ap words_of pieces ∙ cut_word name (t ++ (32 ∷ flag)) hn ∙ ap (λ ws. name ∷ ws) (cut_word t flag ht ∙ ap (λ ws. t ∷ ws) (last_word flag hf))

pub four_words : (name t first second : List ℕ) → NoSpace name → NoSpace t → NoSpace first → NoSpace second
    → words_of (name ++ codes " " ++ t ++ (32 ∷ first) ++ (32 ∷ second)) ≡ name ∷ t ∷ first ∷ second ∷ []
four_words name t first second hn ht hf hs =
    let pieces : name ++ codes " " ++ t ++ (32 ∷ first) ++ (32 ∷ second) ≡ name ++ (32 ∷ (t ++ (32 ∷ (first ++ (32 ∷ second))))) =
    append_assoc (name ++ codes " " ++ t) (32 ∷ first) (32 ∷ second)
    ∙ append_assoc (name ++ codes " ") t (32 ∷ (first ++ (32 ∷ second)))
    ∙ append_assoc name (codes " ") (t ++ (32 ∷ (first ++ (32 ∷ second)))) in
    ap words_of pieces ∙ cut_word name (t ++ (32 ∷ (first ++ (32 ∷ second)))) hn
    ∙ ap (λ ws. name ∷ ws) (cut_word t (first ++ (32 ∷ second)) ht ∙ ap (λ ws. t ∷ ws) (cut_word first second hf ∙ ap (λ ws. first ∷ ws) (last_word second hs)))

-- the words of a line that issues a call
pub issue_words : (t r rest : List ℕ) → NoSpace t → NoSpace r
    → words_of (codes "issue " ++ t ++ codes " " ++ r ++ codes " " ++ rest) ≡ codes "issue" ∷ t ∷ r ∷ words_of rest
issue_words t r rest ht hr =
    let pieces : codes "issue " ++ t ++ codes " " ++ r ++ codes " " ++ rest ≡ codes "issue" ++ (32 ∷ (t ++ (32 ∷ (r ++ (32 ∷ rest))))) =
    append_assoc (codes "issue " ++ t ++ codes " " ++ r) (codes " ") rest
    ∙ append_assoc (codes "issue " ++ t ++ codes " ") r (32 ∷ rest)
    ∙ append_assoc (codes "issue " ++ t) (codes " ") (r ++ (32 ∷ rest))
    ∙ append_assoc (codes "issue ") t (32 ∷ (r ++ (32 ∷ rest))) in
    ap words_of pieces ∙ cut_word (codes "issue") (t ++ (32 ∷ (r ++ (32 ∷ rest)))) (spaceless (codes "issue") refl)
    ∙ ap (λ ws. codes "issue" ∷ ws) (cut_word t (r ++ (32 ∷ rest)) ht ∙ ap (λ ws. t ∷ ws) (cut_word r rest hr))
