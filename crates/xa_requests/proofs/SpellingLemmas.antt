-- Each thing that a word can name has one spelling.
use Rattle.std.proofs.Common.{◌≡◌, ◌∙◌, ℕ, zero, suc, ◌<◌, ◌^◌, ◌==◌, ◌&&◌, Bool, true, false, List, [], ◌∷◌, ◌++◌, length, take, drop, Option, Some, None, option_map, refl, sym, ap, subst, arith, w64, nat_eq, if◌then◌else◌}
use Rattle.std.specs.Int.{byte_at, bytes_high_first, from_be_bytes, to_be_bytes}
use Rattle.std.specs.Result.{result_ok}
use Rattle.std.proofs.lemmas.Bool.{and_parts, and_from, eq-eqb}
use Rattle.hex.specs.Hex.{IsBytes, encode_lower, lower_digits}
use Rattle.hex.proofs.HexLemmas.{length-encode_with}
use Rattle.xa_base.proofs.BranchLemmas.{bytes-drop, bytes-take, bytes-u64_pair, u64_fits, u64_pair-bytes}
use Rattle.xa_base.proofs.HexText.{bytes-cons, encode-bytes_of, even_lower, hex-encode}
use Rattle.xa_base.specs.Branch.{gtrid_bytes, gtrid_text}
use Rattle.xa_base.specs.Bytes.{u64_pair}
use Rattle.xa_base.specs.XidText.{bytes_of, is_hex}
use Rattle.xa_base.specs.declared.branch.Gtrid.{Gtrid}
use Rattle.xa_files.proofs.NumberLemmas.{fits_within, index_of-some, index_of-text, signed_of-some, signed_of-text, within_fits}
use Rattle.xa_requests.specs.Names.{gtrid_named, gtrid_of_bytes}
use Rattle.xa_requests.specs.Spellings.{IndexesHaveOneSpelling, IntegersHaveOneSpelling, TransactionsHaveOneSpelling, XidsHaveOneSpelling}
use Rattle.xa_requests.specs.Words.{Word}
use Rattle.xa_requests.proofs.XidLemmas.{bytes_back, named_if_spelled, xid_if_named}

pub indexes : IndexesHaveOneSpelling
indexes word n = (index_of-some word n, λ h. index_of-text word n h.0 h.1)

pub integers : IntegersHaveOneSpelling
integers word z = (
  λ h. let s = signed_of-some (2 ^ 63) word z h in (fits_within (2 ^ 63) z (omega arith) s.0, s.1),
  λ h. signed_of-text (2 ^ 63) word z (omega arith) (within_fits z h.0) h.1,
)

-- ** transactions

small_byte : (k n : ℕ) → byte_at k n < 256
small_byte zero n = omega arith
small_byte (suc k) n = omega arith

pub number_bytes : (k n : ℕ) → IsBytes (bytes_high_first k n)
number_bytes zero n = λ i. omega arith
number_bytes (suc k) n = bytes-cons (byte_at k n) (bytes_high_first k n) (small_byte k n) (number_bytes k n)

pub append_bytes : (xs ys : List ℕ) → IsBytes xs → IsBytes ys → IsBytes (xs ++ ys)
append_bytes [] ys hx hy = hy
append_bytes (x ∷ xs) ys hx hy = bytes-cons x (xs ++ ys) (hx 0) (append_bytes xs ys (λ i. hx (suc i)) hy)

gtrid_by : ℕ × ℕ → Gtrid
gtrid_by pair = record { incarnation = pair.0; sequence = pair.1 }

gtrid_from_text : (g : Gtrid) → g.incarnation < 2 ^ 64 → g.sequence < 2 ^ 64 → gtrid_named (gtrid_text g) ≡ Some g
unfolding gtrid_named gtrid_by
gtrid_from_text g hi hs =
    let all : IsBytes (gtrid_bytes g) =
    append_bytes (to_be_bytes w64 g.incarnation) (to_be_bytes w64 g.sequence) (number_bytes 8 g.incarnation) (number_bytes 8 g.sequence) in
    let text = gtrid_text g in
    let len : length text ≡ 32 = length-encode_with lower_digits (gtrid_bytes g) in
    let test : (length text == 32 && is_hex text) ≡ true =
    and_from (length text == 32) (is_hex text) (eq-eqb (length text) 32 len) (hex-encode (gtrid_bytes g) all) in
    ap (λ (t : Bool). if t then gtrid_of_bytes (bytes_of text) else None) test
    ∙ ap gtrid_of_bytes (bytes_back (gtrid_bytes g) all)
    ∙ ap (option_map gtrid_by) (u64_pair-bytes g.incarnation g.sequence hi hs)

choice_from : {A : Type 0} (t : Bool) (o : Option A) (y : A) → (if t then o else None) ≡ Some y → (t ≡ true) × (o ≡ Some y)
choice_from true o y h = (refl, h)
choice_from false o y h = absurd (cc)

some_first : (p q : ℕ × ℕ) → Some p ≡ Some q → p.0 ≡ q.0
some_first p q h = let same : p ≡ q = cc in ap (λ (r : ℕ × ℕ). r.0) same

some_second : (p q : ℕ × ℕ) → Some p ≡ Some q → p.1 ≡ q.1
some_second p q h = let same : p ≡ q = cc in ap (λ (r : ℕ × ℕ). r.1) same

pair_of : (o : Option (ℕ × ℕ)) (g : Gtrid) → option_map gtrid_by o ≡ Some g → o ≡ Some (g.incarnation, g.sequence)
unfolding gtrid_by
pair_of None g h = absurd (cc)
pair_of (Some p) g h =
    let same : gtrid_by p ≡ g = cc in
    ap (λ (k : Gtrid). Some (k.incarnation, k.sequence)) same

gtrid_text_if_named : (word : Word) (g : Gtrid) → gtrid_named word ≡ Some g → (g.incarnation < 2 ^ 64) × (g.sequence < 2 ^ 64) × (word ≡ gtrid_text g)
unfolding gtrid_named gtrid_by
gtrid_text_if_named word g h =
    let named = choice_from (length word == 32 && is_hex word) (gtrid_of_bytes (bytes_of word)) g h in
    let both = and_parts (length word == 32) (is_hex word) named.0 in
    let parts = even_lower word both.1 in
    let back = encode-bytes_of word parts.0 parts.1 in
    let bytes = bytes_of word in
    let pair : u64_pair bytes ≡ Some (g.incarnation, g.sequence) = pair_of (u64_pair bytes) g named.1 in
    let numbers =
    choice_from (nat_eq (length bytes) 16) (Some (from_be_bytes w64 (take 8 bytes), from_be_bytes w64 (drop 8 bytes))) (g.incarnation, g.sequence) pair in
    let first : from_be_bytes w64 (take 8 bytes) ≡ g.incarnation = some_first _ _ numbers.1 in
    let second : from_be_bytes w64 (drop 8 bytes) ≡ g.sequence = some_second _ _ numbers.1 in (
      subst (λ (n : ℕ). n < 2 ^ 64) first (u64_fits (take 8 bytes) (bytes-take 8 bytes back.1)),
      subst (λ (n : ℕ). n < 2 ^ 64) second (u64_fits (drop 8 bytes) (bytes-drop 8 bytes back.1)),
      sym back.0 ∙ ap encode_lower (bytes-u64_pair bytes g.incarnation g.sequence back.1 (sym pair)),
    )

pub transactions : TransactionsHaveOneSpelling
transactions word g = (gtrid_text_if_named word g, λ h. ap gtrid_named h.2 ∙ gtrid_from_text g h.0 h.1)

-- ** identifiers

pub xids : XidsHaveOneSpelling
xids word x = (xid_if_named word x, λ h. named_if_spelled word x (h.0.in_range, h.1) ∙ ap result_ok h.0.faultless)
