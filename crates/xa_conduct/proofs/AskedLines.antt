-- For each plain request there is a line that asks for it.
use Rattle.std.proofs.Common.{◌≡◌, ◌∙◌, ℕ, zero, suc, ◌-◌, ◌*◌, ◌<◌, ◌≤◌, ◌^◌, ◌%◌, ◌==◌, ◌&&◌, not, Bool, true, false, List, [], ◌∷◌, ◌++◌, length, take, Option, Some, None, pos, negsuc, refl, sym, ap, subst, arith, w32, w64, FitsSigned, length-append, map, append-nil}
use Rattle.std.specs.Fmt.{decimal, signed_decimal, digits}
use Rattle.std.specs.Int.{byte_at, bytes_high_first, to_be_bytes}
use Rattle.std.specs.List.{list_all}
use Rattle.std.specs.Prelude.{codes, if◌then◌else◌, nat_le, nat_lt, option_and_then, slice_get}
use Rattle.std.specs.Str.{IsAscii, is_utf8}
use Rattle.std.proofs.lemmas.Bool.{and_from, and_left, and_parts, and_right, eq-eqb, le-leb, leb-true, ltb-true, not-true}
use Rattle.std.proofs.lemmas.Bool.Decides.{nat_tests}
use Rattle.std.proofs.lemmas.Grind.{common_steps}
use Rattle.std.proofs.lemmas.Fmt.{digits_decimal, length-decimal-le}
use Rattle.std.proofs.lemmas.List.{length-map}
use Rattle.std.proofs.lemmas.List.Elements.{All-cons, All-nil}
use Rattle.std.proofs.lemmas.Str.{IsUtf8-from_ascii, is_utf8-from_IsUtf8}
use Rattle.std.proofs.lemmas.Str.Ascii.{IsAscii-cons, IsAscii-from_reads, IsAscii-nil}
use Rattle.std.proofs.lemmas.Str.Parse.{digit_at}
use Rattle.hex.proofs.HexLemmas.{length-encode_with}
use Rattle.hex.specs.Hex.{IsBytes, encode_lower, lower_digits}
use Rattle.xa_base.proofs.DecimalLemmas.{numerals}
use Rattle.xa_base.proofs.HexText.{bytes-cons, lower-encode}
use Rattle.xa_base.proofs.TextLemmas.{text_parts}
use Rattle.xa_base.proofs.XidOrder.{xid_eq-same}
use Rattle.xa_base.specs.Branch.{branch_of_xid, gtrid_bytes, gtrid_text, xid_of_branch}
use Rattle.xa_base.specs.Call.{call_with, kind_name}
use Rattle.xa_base.specs.Xid.{Xid, IsXid, text_of, xid_eq}
use Rattle.xa_base.specs.XidText.{is_hex, is_lower_hex}
use Rattle.xa_base.specs.declared.answer.Answer.{Answer}
use Rattle.xa_base.specs.declared.answer.Answer.TheVariants.{Page, Ret}
use Rattle.xa_base.specs.declared.branch.Branch.{Branch}
use Rattle.xa_base.specs.declared.code.Code.{Code}
use Rattle.xa_base.specs.declared.code.Code.TheVariants.{Success, ReadOnly, Retry, Heuristic, RolledBack, RmError, NotAnXid, Invalid, Protocol, RmFailed, DuplicateXid}
use Rattle.xa_base.specs.declared.code.How.TheVariants as hows
use Rattle.xa_base.specs.declared.code.RbCode.TheVariants as rb
use Rattle.xa_base.specs.declared.step.Outcome.{Outcome}
use Rattle.xa_base.specs.declared.step.Outcome.TheVariants as outcomes
use Rattle.xa_base.specs.declared.call.Call.{Call}
use Rattle.xa_base.specs.declared.call.Call.TheVariants as calls
use Rattle.xa_base.specs.declared.call.CallKind.{CallKind}
use Rattle.xa_base.specs.declared.call.CallKind.TheVariants as kinds
use Rattle.xa_base.specs.declared.branch.Gtrid.{Gtrid}
use Rattle.xa_files.specs.Numbers.{index_of, integer_of}
use Rattle.xa_files.specs.Words.{call_named, code_named, code_text, outcome_named}
use Rattle.xa_requests.specs.Answers.{answer_behind, answer_request, bare_answer, branch_answer, page_answered, recover_answer}
use Rattle.xa_requests.specs.Calls.{branch_call, call_in, flags_in, issue_request, recover_call}
use Rattle.xa_requests.specs.Decisions.{decide_request, some_gtrids}
use Rattle.xa_requests.specs.Names.{branch_named, each_named, gtrid_named, xid_named}
use Rattle.xa_requests.specs.Words.{Word, words_of}
use Rattle.xa_requests.specs.Requests.{request_in, request_of}
use Rattle.xa_requests.specs.Recoveries.{line_in_words}
use Rattle.xa_requests.specs.declared.request.Request.{Request}
use Rattle.xa_requests.specs.declared.request.Request.TheVariants as requests
use Rattle.xa_requests.proofs.SpaceLemmas.{NoSpace, cut_word, decimal_text, last_word}
use Rattle.xa_requests.specs.Spellings.{CodesHaveOneSpelling, IndexesHaveOneSpelling, IntegersHaveOneSpelling, KindsHaveOneSpelling, TransactionsHaveOneSpelling, XidsHaveOneSpelling}
use Rattle.xa_server.specs.Lines.{asked_in}
use Rattle.xa_conduct.specs.Plain.{IsAskedInLine, are_few, is_branch, is_gtrid, is_number, is_on_branch, is_open_call, is_own, is_plain, is_plain_answer, is_plain_call, is_recover, is_that_of}

-- ** words

-- it has no space, is ASCII, and is short
pub record IsWord (w : Word) : Type 0 where
  pub spaceless : NoSpace w
  pub ascii : IsAscii w
  pub short : length w ≤ 51

abbrev AreWords : List Word → Type 0
AreWords [] = Unit
AreWords (w ∷ ws) = IsWord w × AreWords ws

-- words with a space between any two
abbrev line_of : List Word → List ℕ
line_of [] = []
line_of (w ∷ []) = w
line_of (w ∷ v ∷ ws) = w ++ (32 ∷ line_of (v ∷ ws))

words_back : (w : Word) (ws : List Word) → AreWords (w ∷ ws) → words_of (line_of (w ∷ ws)) ≡ w ∷ ws
words_back w [] are = last_word w are.0.spaceless
words_back w (v ∷ ws) are = cut_word w (line_of (v ∷ ws)) are.0.spaceless ∙ ap (λ xs. w ∷ xs) (words_back v ws are.1)

both_ascii : (xs ys : List ℕ) → IsAscii xs → IsAscii ys → IsAscii (xs ++ ys)
both_ascii [] ys hx hy = hy
both_ascii (x ∷ xs) ys hx hy = IsAscii-cons x (xs ++ ys) (hx 0) (both_ascii xs ys (λ i. hx (suc i)) hy)

line_ascii : (ws : List Word) → AreWords ws → IsAscii (line_of ws)
line_ascii [] are = IsAscii-nil
line_ascii (w ∷ []) are = are.0.ascii
line_ascii (w ∷ v ∷ ws) are = both_ascii w (32 ∷ line_of (v ∷ ws)) are.0.ascii (IsAscii-cons 32 (line_of (v ∷ ws)) (omega arith) (line_ascii (v ∷ ws) are.1))

line_length : (ws : List Word) → AreWords ws → length (line_of ws) ≤ 52 * length ws
line_length [] are = omega arith
line_length (w ∷ []) are = let short = are.0.short in omega arith
line_length (w ∷ v ∷ ws) are =
    let short = are.0.short in
    let rest = line_length (v ∷ ws) are.1 in
    let len = length-append w (32 ∷ line_of (v ∷ ws)) in
    omega (arith, len)

asked : (w : Word) (ws : List Word) (request : Request) → AreWords (w ∷ ws) → length ws ≤ 1250 → request_in (w ∷ ws) ≡ Some request
    → asked_in (line_of (w ∷ ws)) ≡ Some request
asked w ws request are few reads =
    let line = line_of (w ∷ ws) in
    let short : length line ≤ 65536 = let bound = line_length (w ∷ ws) are in omega arith in
    let text : is_utf8 line ≡ true = is_utf8-from_IsUtf8 line (IsUtf8-from_ascii line (line_ascii (w ∷ ws) are)) in
    let test : (nat_le (length line) 65536 && is_utf8 line) ≡ true =
    and_from (nat_le (length line) 65536) (is_utf8 line) (le-leb (length line) 65536 short) text in
    ap (λ (t : Bool). if t then request_of line else None) test ∙ ap request_in (words_back w ws are) ∙ reads

-- ** words that are written out

abbrev is_plain_byte : ℕ → Bool
is_plain_byte c = not (c == 32) && nat_lt c 128

bytes_spaceless : (w : Word) → list_all is_plain_byte w ≡ true → NoSpace w
bytes_spaceless [] h = All-nil (λ c. (c == 32) ≡ false)
bytes_spaceless (c ∷ w) h =
    let both = and_parts (not (c == 32) && nat_lt c 128) (list_all is_plain_byte w) h in
    let here = and_parts (not (c == 32)) (nat_lt c 128) both.0 in
    All-cons (λ c. (c == 32) ≡ false) c w (not-true (c == 32) here.0) (bytes_spaceless w both.1)

bytes_ascii : (w : Word) → list_all is_plain_byte w ≡ true → IsAscii w
bytes_ascii [] h = IsAscii-nil
bytes_ascii (c ∷ w) h =
    let both = and_parts (not (c == 32) && nat_lt c 128) (list_all is_plain_byte w) h in
    let here = and_parts (not (c == 32)) (nat_lt c 128) both.0 in
    IsAscii-cons c w (ltb-true c 128 here.1) (bytes_ascii w both.1)

plain_word : (w : Word) → list_all is_plain_byte w ≡ true → length w ≤ 51 → IsWord w
plain_word w h short = record { spaceless = bytes_spaceless w h; ascii = bytes_ascii w h; short = short }

-- ** numbers

number_word : (n : ℕ) → n < 2 ^ 32 → IsWord (decimal n)
number_word n fits =
    let wide : n < 2 ^ 64 = omega arith in
    let ten : n < 10 ^ 10 = omega arith in
    record {
      spaceless = decimal_text n wide;
      ascii = IsAscii-from_reads (decimal n) (length (decimal n)) (omega arith) (λ k below.
          let digit = digit_at (decimal n) k (digits_decimal numerals n wide) below in omega (arith, digit.1));
      short = let len = length-decimal-le 10 n (omega arith) ten wide in omega arith;
    }

-- ** hexadecimal digits

hex_bytes : (w : Word) → list_all is_lower_hex w ≡ true → list_all is_plain_byte w ≡ true
hex_bytes [] h = refl
hex_bytes (c ∷ w) h =
    let both = and_parts (is_lower_hex c) (list_all is_lower_hex w) h in
    let here : (not (c == 32) && nat_lt c 128) ≡ true = let lower = both.0 in grind (arith, nat_tests) in
    and_from (not (c == 32) && nat_lt c 128) (list_all is_plain_byte w) here (hex_bytes w both.1)

all_both : (xs ys : List ℕ) → list_all is_plain_byte xs ≡ true → list_all is_plain_byte ys ≡ true → list_all is_plain_byte (xs ++ ys) ≡ true
all_both [] ys hx hy = hy
all_both (x ∷ xs) ys hx hy =
    let both = and_parts (is_plain_byte x) (list_all is_plain_byte xs) hx in
    and_from (is_plain_byte x) (list_all is_plain_byte (xs ++ ys)) both.0 (all_both xs ys both.1 hy)

-- ** codes

code_word : (code : Code) → IsWord (code_text code)
unfolding digits
code_word Success = plain_word (codes "0") refl (omega arith)
code_word ReadOnly = plain_word (codes "3") refl (omega arith)
code_word Retry = plain_word (codes "4") refl (omega arith)
code_word (Heuristic hows.Mix) = plain_word (codes "5") refl (omega arith)
code_word (Heuristic hows.Rb) = plain_word (codes "6") refl (omega arith)
code_word (Heuristic hows.Com) = plain_word (codes "7") refl (omega arith)
code_word (Heuristic hows.Haz) = plain_word (codes "8") refl (omega arith)
code_word (RolledBack rb.Rollback) = plain_word (codes "100") refl (omega arith)
code_word (RolledBack rb.CommFail) = plain_word (codes "101") refl (omega arith)
code_word (RolledBack rb.Deadlock) = plain_word (codes "102") refl (omega arith)
code_word (RolledBack rb.Integrity) = plain_word (codes "103") refl (omega arith)
code_word (RolledBack rb.Other) = plain_word (codes "104") refl (omega arith)
code_word (RolledBack rb.Proto) = plain_word (codes "105") refl (omega arith)
code_word (RolledBack rb.Timeout) = plain_word (codes "106") refl (omega arith)
code_word (RolledBack rb.Transient) = plain_word (codes "107") refl (omega arith)
code_word RmError = plain_word (codes "-3") refl (omega arith)
code_word NotAnXid = plain_word (codes "-4") refl (omega arith)
code_word Invalid = plain_word (codes "-5") refl (omega arith)
code_word Protocol = plain_word (codes "-6") refl (omega arith)
code_word RmFailed = plain_word (codes "-7") refl (omega arith)
code_word DuplicateXid = plain_word (codes "-8") refl (omega arith)

-- ** identifiers

bytes_both : (xs ys : List ℕ) → IsBytes xs → IsBytes ys → IsBytes (xs ++ ys)
bytes_both [] ys hx hy = hy
bytes_both (x ∷ xs) ys hx hy = bytes-cons x (xs ++ ys) (hx 0) (bytes_both xs ys (λ i. hx (suc i)) hy)

small_byte : (k n : ℕ) → byte_at k n < 256
small_byte zero n = omega arith
small_byte (suc k) n = omega arith

number_bytes : (k n : ℕ) → IsBytes (bytes_high_first k n)
number_bytes zero n = λ i. omega arith
number_bytes (suc k) n = bytes-cons (byte_at k n) (bytes_high_first k n) (small_byte k n) (number_bytes k n)

gtrid_is_bytes : (g : Gtrid) → IsBytes (gtrid_bytes g)
gtrid_is_bytes g = bytes_both (to_be_bytes w64 g.incarnation) (to_be_bytes w64 g.sequence) (number_bytes 8 g.incarnation) (number_bytes 8 g.sequence)

bqual_is_bytes : (b : Branch) → IsBytes (to_be_bytes w32 b.thread ++ to_be_bytes w32 b.rm)
bqual_is_bytes b = bytes_both (to_be_bytes w32 b.thread) (to_be_bytes w32 b.rm) (number_bytes 4 b.thread) (number_bytes 4 b.rm)

seven_fits : FitsSigned w32 (pos 7)
seven_fits = omega arith

branch_is : (b : Branch) → IsXid (xid_of_branch b)
branch_is b = record {
  in_range = record { format = seven_fits; gtrid = gtrid_is_bytes b.gtrid; bqual = bqual_is_bytes b };
  faultless = refl;
}

-- what is tested as an own identifier is that of a branch
own_is : (x : Xid) → is_own x ≡ true → (b : Branch) × (x ≡ xid_of_branch b)
own_is x h = by (branch_of_xid x) h
  where
    by : (o : Option Branch) → is_that_of x o ≡ true → (b : Branch) × (x ≡ xid_of_branch b)
    by None h = absurd (cc)
    by (Some b) h = (b, xid_eq-same x (xid_of_branch b) (and_parts (xid_eq x (xid_of_branch b)) (is_branch b) h).0)

own_xid : (x : Xid) → is_own x ≡ true → IsXid x
own_xid x h = let own = own_is x h in subst IsXid (sym own.1) (branch_is own.0)

gtrid_word : (g : Gtrid) → IsWord (gtrid_text g)
gtrid_word g =
    let len : length (gtrid_text g) ≡ 32 = length-encode_with lower_digits (gtrid_bytes g) in
    plain_word (gtrid_text g) (hex_bytes (gtrid_text g) (lower-encode (gtrid_bytes g) (gtrid_is_bytes g))) (omega arith)

seven_first : (rest : List ℕ) → signed_decimal (pos 7) ++ (58 ∷ rest) ≡ 55 ∷ 58 ∷ rest
unfolding digits
seven_first rest = refl

branch_word : (b : Branch) → IsWord (text_of (xid_of_branch b))
branch_word b =
    let x = xid_of_branch b in
    let g = encode_lower x.gtrid in
    let q = encode_lower x.bqual in
    let gh : list_all is_plain_byte g ≡ true = hex_bytes g (lower-encode x.gtrid (gtrid_is_bytes b.gtrid)) in
    let qh : list_all is_plain_byte q ≡ true = hex_bytes q (lower-encode x.bqual (bqual_is_bytes b)) in
    let gl : length g ≡ 32 = length-encode_with lower_digits x.gtrid in
    let ql : length q ≡ 16 = length-encode_with lower_digits x.bqual in
    let front = 55 ∷ 58 ∷ [] in
    let text : text_of x ≡ front ++ (g ++ (58 ∷ q)) = text_parts x ∙ seven_first (g ++ (58 ∷ q)) in
    let all : list_all is_plain_byte (front ++ (g ++ (58 ∷ q))) ≡ true = all_both front (g ++ (58 ∷ q)) refl (all_both g (58 ∷ q) gh qh) in
    let len : length (front ++ (g ++ (58 ∷ q))) ≤ 51 = omega (arith, length-append g (58 ∷ q)) in
    subst IsWord (sym text) (plain_word (front ++ (g ++ (58 ∷ q))) all len)

own_word : (x : Xid) → is_own x ≡ true → IsWord (text_of x)
own_word x h = let own = own_is x h in subst (λ y. IsWord (text_of y)) (sym own.1) (branch_word own.0)

-- ** what the words name

not_all : (p : ℕ → Bool) (xs : List ℕ) (c : ℕ) (ys : List ℕ) → p c ≡ false → list_all p (xs ++ (c ∷ ys)) ≡ false
not_all p [] c ys h = and_left (p c) (list_all p ys) h
not_all p (x ∷ xs) c ys h = and_right (p x) (list_all p (xs ++ (c ∷ ys))) (not_all p xs c ys h)

no_gtrid : (x : Xid) → gtrid_named (text_of x) ≡ None
unfolding gtrid_named
no_gtrid x =
    let rest = encode_lower x.gtrid ++ (58 ∷ encode_lower x.bqual) in
    let lower : list_all is_lower_hex (text_of x) ≡ false =
    ap (list_all is_lower_hex) (text_parts x) ∙ not_all is_lower_hex (signed_decimal x.format) 58 rest refl in
    let hex : is_hex (text_of x) ≡ false = and_right (length (text_of x) % 2 == 0) (list_all is_lower_hex (text_of x)) lower in
    let no : (length (text_of x) == 32 && is_hex (text_of x)) ≡ false = and_right (length (text_of x) == 32) (is_hex (text_of x)) hex in
    rw no refl

-- what is known of the words of requests
pub record Spelled : Type 0 where
  pub indexes : IndexesHaveOneSpelling
  pub integers : IntegersHaveOneSpelling
  pub transactions : TransactionsHaveOneSpelling
  pub xids : XidsHaveOneSpelling
  pub kinds_are : KindsHaveOneSpelling
  pub codes_are : CodesHaveOneSpelling

module _ (laws : Spelled) where
  named : (thread rm : ℕ) (x : Xid) → IsXid x → branch_named thread rm (text_of x) ≡ Some x
  unfolding branch_named
  named thread rm x is =
      ap (λ (o : Option Gtrid). elim o [
        | Some gtrid ↦ Some (xid_of_branch (record { gtrid = gtrid; thread = thread; rm = rm }))
        | None ↦ xid_named (text_of x)
      ]) (no_gtrid x)
      ∙ (laws.xids (text_of x) x).1 (is, refl)

  number_named : (n : ℕ) → n < 2 ^ 32 → index_of (decimal n) ≡ Some n
  number_named n fits = (laws.indexes (decimal n) n).1 (fits, refl)

  -- ** words of requests

  verb : (w : Word) → list_all is_plain_byte w ≡ true → length w ≤ 51 → IsWord w
  verb w h short = plain_word w h short

  by_words : (w : Word) (ws : List Word) (request : Request) → AreWords (w ∷ ws) → length ws ≤ 1250 → request_in (w ∷ ws) ≡ Some request → IsAskedInLine request
  by_words w ws request are few reads = (line_of (w ∷ ws), asked w ws request are few reads)

  begins_read : (t : ℕ) → t < 2 ^ 32 → request_in (codes "begin" ∷ decimal t ∷ []) ≡ Some (requests.Begin t)
  unfolding request_in
  begins_read t ht = ap (option_and_then (λ n. Some (requests.Begin n))) (number_named t ht)

  begins : (t : ℕ) → t < 2 ^ 32 → IsAskedInLine (requests.Begin t)
  begins t ht =
      by_words (codes "begin") (decimal t ∷ []) (requests.Begin t) (verb (codes "begin") refl (omega arith), (number_word t ht, tt)) (omega arith) (begins_read t ht)

  resolves_read : (r : ℕ) → r < 2 ^ 32 → request_in (codes "resolve" ∷ decimal r ∷ []) ≡ Some (requests.Resolve r)
  unfolding request_in
  resolves_read r hr = ap (option_and_then (λ n. Some (requests.Resolve n))) (number_named r hr)

  resolves : (r : ℕ) → r < 2 ^ 32 → IsAskedInLine (requests.Resolve r)
  resolves r hr =
      by_words (codes "resolve") (decimal r ∷ []) (requests.Resolve r) (verb (codes "resolve") refl (omega arith), (number_word r hr, tt)) (omega arith) (resolves_read r hr)

  owes_read : (r : ℕ) → r < 2 ^ 32 → request_in (codes "owed" ∷ decimal r ∷ []) ≡ Some (requests.Owed r)
  unfolding request_in
  owes_read r hr = ap (option_and_then (λ n. Some (requests.Owed n))) (number_named r hr)

  owes : (r : ℕ) → r < 2 ^ 32 → IsAskedInLine (requests.Owed r)
  owes r hr = by_words (codes "owed") (decimal r ∷ []) (requests.Owed r) (verb (codes "owed") refl (omega arith), (number_word r hr, tt)) (omega arith) (owes_read r hr)

  two_numbers : (t r : ℕ) → t < 2 ^ 32 → r < 2 ^ 32 → line_in_words (decimal t ∷ decimal r ∷ []) ≡ Some (t, r)
  unfolding line_in_words
  two_numbers t r ht hr = rw (number_named t ht, number_named r hr) refl

  waits_read : (t r : ℕ) → t < 2 ^ 32 → r < 2 ^ 32 → request_in (codes "waiting" ∷ decimal t ∷ decimal r ∷ []) ≡ Some (requests.Waiting t r)
  unfolding request_in
  waits_read t r ht hr = ap (option_and_then (λ (l : ℕ × ℕ). Some (requests.Waiting l.0 l.1))) (two_numbers t r ht hr)

  waits : (t r : ℕ) → t < 2 ^ 32 → r < 2 ^ 32 → IsAskedInLine (requests.Waiting t r)
  waits t r ht hr =
      by_words (codes "waiting") (decimal t ∷ decimal r ∷ []) (requests.Waiting t r)
      (verb (codes "waiting") refl (omega arith), (number_word t ht, (number_word r hr, tt))) (omega arith) (waits_read t r ht hr)

  loses_read : (t r : ℕ) → t < 2 ^ 32 → r < 2 ^ 32
      → request_in (codes "crash" ∷ codes "line" ∷ decimal t ∷ decimal r ∷ []) ≡ Some (requests.CrashLine t r)
  unfolding request_in
  loses_read t r ht hr = ap (option_and_then (λ (l : ℕ × ℕ). Some (requests.CrashLine l.0 l.1))) (two_numbers t r ht hr)

  loses : (t r : ℕ) → t < 2 ^ 32 → r < 2 ^ 32 → IsAskedInLine (requests.CrashLine t r)
  loses t r ht hr =
      by_words (codes "crash") (codes "line" ∷ decimal t ∷ decimal r ∷ []) (requests.CrashLine t r)
      (verb (codes "crash") refl (omega arith), (verb (codes "line") refl (omega arith), (number_word t ht, (number_word r hr, tt)))) (omega arith)
      (loses_read t r ht hr)

  -- ** calls

  on_branch : (kind : CallKind) (thread rm : ℕ) (x : Xid) (words : List Word) → IsXid x
      → branch_call kind thread rm (text_of x ∷ words) ≡ option_and_then (λ flags. call_with kind (Some x) flags None) (flags_in words)
  unfolding branch_call
  on_branch kind thread rm x words is =
      ap (option_and_then (λ xid. option_and_then (λ flags. call_with kind (Some xid) flags None) (flags_in words))) (named thread rm x is)

  abbrev call_words : Call Xid → List Word
  call_words calls.OpenRm = codes "xa_open" ∷ []
  call_words calls.CloseRm = codes "xa_close" ∷ []
  call_words (calls.Start x true) = codes "xa_start" ∷ text_of x ∷ codes "TMJOIN" ∷ []
  call_words (calls.Start x false) = codes "xa_start" ∷ text_of x ∷ []
  call_words (calls.End x true) = codes "xa_end" ∷ text_of x ∷ codes "TMFAIL" ∷ []
  call_words (calls.End x false) = codes "xa_end" ∷ text_of x ∷ codes "TMSUCCESS" ∷ []
  call_words (calls.Prepare x) = codes "xa_prepare" ∷ text_of x ∷ []
  call_words (calls.Commit x true) = codes "xa_commit" ∷ text_of x ∷ codes "TMONEPHASE" ∷ []
  call_words (calls.Commit x false) = codes "xa_commit" ∷ text_of x ∷ []
  call_words (calls.Rollback x) = codes "xa_rollback" ∷ text_of x ∷ []
  call_words (calls.Forget x) = codes "xa_forget" ∷ text_of x ∷ []
  call_words (calls.Recover n true true) = codes "xa_recover" ∷ signed_decimal n ∷ codes "TMSTARTRSCAN" ∷ codes "TMENDRSCAN" ∷ []
  call_words (calls.Recover n true false) = codes "xa_recover" ∷ signed_decimal n ∷ codes "TMSTARTRSCAN" ∷ []
  call_words (calls.Recover n false true) = codes "xa_recover" ∷ signed_decimal n ∷ codes "TMENDRSCAN" ∷ []
  call_words (calls.Recover n false false) = codes "xa_recover" ∷ signed_decimal n ∷ []

  count_named : (n : ℕ) → n ≤ 64 → integer_of (decimal n) ≡ Some (pos n)
  count_named n few = (laws.integers (decimal n) (pos n)).1 (let fits : FitsSigned w64 (pos n) = omega arith in fits, refl)

  by_count : (n : ℕ) (words : List Word) → n ≤ 64
      → recover_call (decimal n ∷ words) ≡ option_and_then (λ flags. call_with kinds.Recover None flags (Some (pos n))) (flags_in words)
  unfolding recover_call
  by_count n words few =
      ap (option_and_then (λ count. option_and_then (λ flags. call_with kinds.Recover None flags (Some count)) (flags_in words))) (count_named n few)

  call_read : (t r : ℕ) (call : Call Xid) → is_plain_call call ≡ true → call_in t r (call_words call) ≡ Some call
  unfolding call_in
  call_read t r calls.OpenRm h = refl
  call_read t r calls.CloseRm h = refl
  call_read t r (calls.Start x true) h = on_branch kinds.Start t r x (codes "TMJOIN" ∷ []) (own_xid x h)
  call_read t r (calls.Start x false) h = on_branch kinds.Start t r x [] (own_xid x h)
  call_read t r (calls.End x true) h = on_branch kinds.End t r x (codes "TMFAIL" ∷ []) (own_xid x h)
  call_read t r (calls.End x false) h = on_branch kinds.End t r x (codes "TMSUCCESS" ∷ []) (own_xid x h)
  call_read t r (calls.Prepare x) h = on_branch kinds.Prepare t r x [] (own_xid x h)
  call_read t r (calls.Commit x true) h = on_branch kinds.Commit t r x (codes "TMONEPHASE" ∷ []) (own_xid x h)
  call_read t r (calls.Commit x false) h = on_branch kinds.Commit t r x [] (own_xid x h)
  call_read t r (calls.Rollback x) h = on_branch kinds.Rollback t r x [] (own_xid x h)
  call_read t r (calls.Forget x) h = on_branch kinds.Forget t r x [] (own_xid x h)
  call_read t r (calls.Recover (pos n) true true) h = by_count n (codes "TMSTARTRSCAN" ∷ codes "TMENDRSCAN" ∷ []) (leb-true n 64 h)
  call_read t r (calls.Recover (pos n) true false) h = by_count n (codes "TMSTARTRSCAN" ∷ []) (leb-true n 64 h)
  call_read t r (calls.Recover (pos n) false true) h = by_count n (codes "TMENDRSCAN" ∷ []) (leb-true n 64 h)
  call_read t r (calls.Recover (pos n) false false) h = by_count n [] (leb-true n 64 h)
  call_read t r (calls.Recover (negsuc n) s e) h = absurd (cc)

  one_word : (w : Word) → list_all is_plain_byte w ≡ true → length w ≤ 51 → AreWords (w ∷ [])
  one_word w h short = (verb w h short, tt)

  branch_words : (w : Word) (x : Xid) → list_all is_plain_byte w ≡ true → length w ≤ 51 → is_own x ≡ true → AreWords (w ∷ text_of x ∷ [])
  branch_words w x h short own = (verb w h short, (own_word x own, tt))

  flag_words : (w : Word) (x : Xid) (flag : Word) → list_all is_plain_byte w ≡ true → length w ≤ 51 → is_own x ≡ true
      → list_all is_plain_byte flag ≡ true → length flag ≤ 51 → AreWords (w ∷ text_of x ∷ flag ∷ [])
  flag_words w x flag h short own hf shortf = (verb w h short, (own_word x own, (verb flag hf shortf, tt)))

  small_number : (n : ℕ) → n ≤ 64 → IsWord (decimal n)
  small_number n few = number_word n (omega arith)

  call_are_words : (call : Call Xid) → is_plain_call call ≡ true → AreWords (call_words call)
  call_are_words calls.OpenRm h = one_word (codes "xa_open") refl (omega arith)
  call_are_words calls.CloseRm h = one_word (codes "xa_close") refl (omega arith)
  call_are_words (calls.Start x true) h = flag_words (codes "xa_start") x (codes "TMJOIN") refl (omega arith) h refl (omega arith)
  call_are_words (calls.Start x false) h = branch_words (codes "xa_start") x refl (omega arith) h
  call_are_words (calls.End x true) h = flag_words (codes "xa_end") x (codes "TMFAIL") refl (omega arith) h refl (omega arith)
  call_are_words (calls.End x false) h = flag_words (codes "xa_end") x (codes "TMSUCCESS") refl (omega arith) h refl (omega arith)
  call_are_words (calls.Prepare x) h = branch_words (codes "xa_prepare") x refl (omega arith) h
  call_are_words (calls.Commit x true) h = flag_words (codes "xa_commit") x (codes "TMONEPHASE") refl (omega arith) h refl (omega arith)
  call_are_words (calls.Commit x false) h = branch_words (codes "xa_commit") x refl (omega arith) h
  call_are_words (calls.Rollback x) h = branch_words (codes "xa_rollback") x refl (omega arith) h
  call_are_words (calls.Forget x) h = branch_words (codes "xa_forget") x refl (omega arith) h
  call_are_words (calls.Recover (pos n) true true) h = (
    verb (codes "xa_recover") refl (omega arith),
    (
      small_number n (leb-true n 64 h),
      (verb (codes "TMSTARTRSCAN") refl (omega arith), (verb (codes "TMENDRSCAN") refl (omega arith), tt)),
    ),
  )
  call_are_words (calls.Recover (pos n) true false) h =
      (verb (codes "xa_recover") refl (omega arith), (small_number n (leb-true n 64 h), (verb (codes "TMSTARTRSCAN") refl (omega arith), tt)))
  call_are_words (calls.Recover (pos n) false true) h =
      (verb (codes "xa_recover") refl (omega arith), (small_number n (leb-true n 64 h), (verb (codes "TMENDRSCAN") refl (omega arith), tt)))
  call_are_words (calls.Recover (pos n) false false) h = (verb (codes "xa_recover") refl (omega arith), (small_number n (leb-true n 64 h), tt))
  call_are_words (calls.Recover (negsuc n) s e) h = absurd (cc)

  few_call_words : (call : Call Xid) → length (call_words call) ≤ 4
  few_call_words calls.OpenRm = omega arith
  few_call_words calls.CloseRm = omega arith
  few_call_words (calls.Start x true) = omega arith
  few_call_words (calls.Start x false) = omega arith
  few_call_words (calls.End x true) = omega arith
  few_call_words (calls.End x false) = omega arith
  few_call_words (calls.Prepare x) = omega arith
  few_call_words (calls.Commit x true) = omega arith
  few_call_words (calls.Commit x false) = omega arith
  few_call_words (calls.Rollback x) = omega arith
  few_call_words (calls.Forget x) = omega arith
  few_call_words (calls.Recover n true true) = omega arith
  few_call_words (calls.Recover n true false) = omega arith
  few_call_words (calls.Recover n false true) = omega arith
  few_call_words (calls.Recover n false false) = omega arith

  issues_read : (t r : ℕ) (call : Call Xid) → t < 2 ^ 32 → r < 2 ^ 32 → is_plain_call call ≡ true
      → request_in (codes "issue" ∷ decimal t ∷ decimal r ∷ call_words call) ≡ Some (requests.Issue t r call)
  unfolding request_in issue_request
  issues_read t r call ht hr h = rw (number_named t ht, number_named r hr, call_read t r call h) refl

  issues : (t r : ℕ) (call : Call Xid) → t < 2 ^ 32 → r < 2 ^ 32 → is_plain_call call ≡ true → IsAskedInLine (requests.Issue t r call)
  issues t r call ht hr h =
      let few = few_call_words call in
      by_words (codes "issue") (decimal t ∷ decimal r ∷ call_words call) (requests.Issue t r call)
      (verb (codes "issue") refl (omega arith), (number_word t ht, (number_word r hr, call_are_words call h))) (omega arith) (issues_read t r call ht hr h)

  -- ** answers

  kind_word : (kind : CallKind) → IsWord (kind_name kind)
  kind_word kinds.OpenRm = verb (codes "xa_open") refl (omega arith)
  kind_word kinds.CloseRm = verb (codes "xa_close") refl (omega arith)
  kind_word kinds.Start = verb (codes "xa_start") refl (omega arith)
  kind_word kinds.End = verb (codes "xa_end") refl (omega arith)
  kind_word kinds.Prepare = verb (codes "xa_prepare") refl (omega arith)
  kind_word kinds.Commit = verb (codes "xa_commit") refl (omega arith)
  kind_word kinds.Rollback = verb (codes "xa_rollback") refl (omega arith)
  kind_word kinds.Forget = verb (codes "xa_forget") refl (omega arith)
  kind_word kinds.Recover = verb (codes "xa_recover") refl (omega arith)

  kind_named : (kind : CallKind) → call_named (kind_name kind) ≡ Some kind
  kind_named kind = (laws.kinds_are (kind_name kind) kind).1 refl

  code_is_named : (code : Code) → code_named (code_text code) ≡ Some code
  code_is_named code = (laws.codes_are (code_text code) code).1 refl

  branch_answered : (kind : CallKind) (t r : ℕ) (x : Xid) (code : Code) → is_own x ≡ true
      → branch_answer kind t r (text_of x ∷ code_text code ∷ []) ≡ Some (record { kind = kind; xid = Some x }, Ret code)
  unfolding branch_answer
  branch_answered kind t r x code own = rw (named t r x (own_xid x own), code_is_named code) refl

  behind : (kind : CallKind) (t r : ℕ) (x : Xid) (code : Code) → is_on_branch kind ≡ true → is_own x ≡ true
      → answer_behind kind t r (text_of x ∷ code_text code ∷ []) ≡ Some (record { kind = kind; xid = Some x }, Ret code)
  behind kinds.OpenRm t r x code on own = absurd (cc)
  behind kinds.CloseRm t r x code on own = absurd (cc)
  behind kinds.Recover t r x code on own = absurd (cc)
  behind kinds.Start t r x code on own = branch_answered kinds.Start t r x code own
  behind kinds.End t r x code on own = branch_answered kinds.End t r x code own
  behind kinds.Prepare t r x code on own = branch_answered kinds.Prepare t r x code own
  behind kinds.Commit t r x code on own = branch_answered kinds.Commit t r x code own
  behind kinds.Rollback t r x code on own = branch_answered kinds.Rollback t r x code own
  behind kinds.Forget t r x code on own = branch_answered kinds.Forget t r x code own

  bare_answered : (kind : CallKind) (code : Code) → bare_answer kind (code_text code ∷ []) ≡ Some (record { kind = kind; xid = None }, Ret code)
  unfolding bare_answer
  bare_answered kind code = rw (code_is_named code) refl

  bare : (kind : CallKind) (t r : ℕ) (code : Code) → is_open_call kind ≡ true
      → answer_behind kind t r (code_text code ∷ []) ≡ Some (record { kind = kind; xid = None }, Ret code)
  bare kinds.OpenRm t r code h = bare_answered kinds.OpenRm code
  bare kinds.CloseRm t r code h = absurd (cc)
  bare kinds.Recover t r code h = absurd (cc)
  bare kinds.Start t r code h = absurd (cc)
  bare kinds.End t r code h = absurd (cc)
  bare kinds.Prepare t r code h = absurd (cc)
  bare kinds.Commit t r code h = absurd (cc)
  bare kinds.Rollback t r code h = absurd (cc)
  bare kinds.Forget t r code h = absurd (cc)

  all_named : (xs : List Xid) → list_all is_own xs ≡ true → each_named xid_named (map text_of xs) ≡ Some xs
  unfolding each_named
  all_named [] h = refl
  all_named (x ∷ xs) h =
      let both = and_parts (is_own x) (list_all is_own xs) h in
      let first : xid_named (text_of x) ≡ Some x = (laws.xids (text_of x) x).1 (own_xid x both.0, refl) in
      rw (first, all_named xs both.1) refl

  counted : (word : Word) (n : ℕ) (ws : List Word) → index_of word ≡ Some n → (n == length ws) ≡ true → recover_answer (word ∷ ws) ≡ page_answered ws
  unfolding recover_answer
  counted word n ws reads same =
      ap (λ (o : Option ℕ). elim o [
        | Some count ↦ if count == length ws then page_answered ws else None
        | None ↦ bare_answer kinds.Recover (word ∷ ws)
      ]) reads ∙ ap (λ (t : Bool). if t then page_answered ws else None) same

  page_read : (xs : List Xid) → list_all is_own xs ≡ true → length xs ≤ 64
      → recover_answer (decimal (length xs) ∷ map text_of xs) ≡ Some (record { kind = kinds.Recover; xid = None }, Page xs)
  page_read xs own few =
      let count : index_of (decimal (length xs)) ≡ Some (length xs) = number_named (length xs) (omega arith) in
      let same : (length xs == length (map text_of xs)) ≡ true = eq-eqb (length xs) (length (map text_of xs)) (sym (length-map xs text_of)) in
      counted (decimal (length xs)) (length xs) (map text_of xs) count same ∙ ap (option_and_then (λ xids. Some (record { kind = kinds.Recover; xid = None }, Page xids))) (all_named xs own)

  -- the words of an answer, behind those of its line
  abbrev name_words : Option Xid → List Word → List Word
  name_words (Some x) words = text_of x ∷ words
  name_words None words = words

  abbrev answer_words : Option Xid → Answer Xid → List Word
  answer_words xid (Ret code) = name_words xid (code_text code ∷ [])
  answer_words xid (Page xs) = decimal (length xs) ∷ map text_of xs

  page_behind : (kind : CallKind) (t r : ℕ) (xs : List Xid) → is_recover kind ≡ true → list_all is_own xs ≡ true → length xs ≤ 64
      → answer_behind kind t r (decimal (length xs) ∷ map text_of xs) ≡ Some (record { kind = kind; xid = None }, Page xs)
  page_behind kinds.Recover t r xs is own few = page_read xs own few
  page_behind kinds.OpenRm t r xs is own few = absurd (cc)
  page_behind kinds.CloseRm t r xs is own few = absurd (cc)
  page_behind kinds.Start t r xs is own few = absurd (cc)
  page_behind kinds.End t r xs is own few = absurd (cc)
  page_behind kinds.Prepare t r xs is own few = absurd (cc)
  page_behind kinds.Commit t r xs is own few = absurd (cc)
  page_behind kinds.Rollback t r xs is own few = absurd (cc)
  page_behind kinds.Forget t r xs is own few = absurd (cc)

  answered : (t r : ℕ) (kind : CallKind) (xid : Option Xid) (answer : Answer Xid) → is_plain_answer (record { kind = kind; xid = xid }) answer ≡ true
      → answer_behind kind t r (answer_words xid answer) ≡ Some (record { kind = kind; xid = xid }, answer)
  answered t r kind (Some x) (Ret code) h =
      let both = and_parts (is_on_branch kind) (is_own x) h in behind kind t r x code both.0 both.1
  answered t r kind None (Ret code) h = bare kind t r code h
  answered t r kind None (Page xs) h =
      let first = and_parts (is_recover kind) (true && (nat_le (length xs) 64 && list_all is_own xs)) h in
      let rest = and_parts (nat_le (length xs) 64) (list_all is_own xs) first.1 in
      page_behind kind t r xs first.0 rest.1 (leb-true (length xs) 64 rest.0)
  answered t r kind (Some x) (Page xs) h =
      let first = and_parts (is_recover kind) (false && (nat_le (length xs) 64 && list_all is_own xs)) h in
      let no : false ≡ true = first.1 in absurd (cc)

  text_words : (xs : List Xid) → list_all is_own xs ≡ true → AreWords (map text_of xs)
  text_words [] h = tt
  text_words (x ∷ xs) h = let both = and_parts (is_own x) (list_all is_own xs) h in (own_word x both.0, text_words xs both.1)

  answer_are_words : (kind : CallKind) (xid : Option Xid) (answer : Answer Xid) → is_plain_answer (record { kind = kind; xid = xid }) answer ≡ true
      → AreWords (answer_words xid answer) × (length (answer_words xid answer) ≤ 65)
  answer_are_words kind (Some x) (Ret code) h =
      let both = and_parts (is_on_branch kind) (is_own x) h in ((own_word x both.1, (code_word code, tt)), omega arith)
  answer_are_words kind None (Ret code) h = ((code_word code, tt), omega arith)
  answer_are_words kind None (Page xs) h =
      let first = and_parts (is_recover kind) (true && (nat_le (length xs) 64 && list_all is_own xs)) h in
      let rest = and_parts (nat_le (length xs) 64) (list_all is_own xs) first.1 in
      let few = leb-true (length xs) 64 rest.0 in
      ((small_number (length xs) few, text_words xs rest.1), omega (arith, length-map xs text_of))
  answer_are_words kind (Some x) (Page xs) h =
      let first = and_parts (is_recover kind) (false && (nat_le (length xs) 64 && list_all is_own xs)) h in
      let no : false ≡ true = first.1 in absurd (cc)

  answers_read : (t r : ℕ) (kind : CallKind) (xid : Option Xid) (answer : Answer Xid) → t < 2 ^ 32 → r < 2 ^ 32
      → is_plain_answer (record { kind = kind; xid = xid }) answer ≡ true
      → request_in (codes "answer" ∷ decimal t ∷ decimal r ∷ kind_name kind ∷ answer_words xid answer)
      ≡ Some (requests.Answer t r (record { kind = kind; xid = xid }) answer)
  unfolding request_in answer_request
  answers_read t r kind xid answer ht hr h = rw (number_named t ht, number_named r hr, kind_named kind, answered t r kind xid answer h) refl

  answers : (t r : ℕ) (kind : CallKind) (xid : Option Xid) (answer : Answer Xid) → t < 2 ^ 32 → r < 2 ^ 32
      → is_plain_answer (record { kind = kind; xid = xid }) answer ≡ true → IsAskedInLine (requests.Answer t r (record { kind = kind; xid = xid }) answer)
  answers t r kind xid answer ht hr h =
      let words = answer_are_words kind xid answer h in
      by_words (codes "answer") (decimal t ∷ decimal r ∷ kind_name kind ∷ answer_words xid answer)
      (requests.Answer t r (record { kind = kind; xid = xid }) answer)
      (verb (codes "answer") refl (omega arith), (number_word t ht, (number_word r hr, (kind_word kind, words.0)))) (let few = words.1 in omega arith)
      (answers_read t r kind xid answer ht hr h)

  -- ** decisions

  gtrid_fits : (g : Gtrid) → is_gtrid g ≡ true → (g.incarnation < 2 ^ 64) × (g.sequence < 2 ^ 64)
  gtrid_fits g h =
      let both = and_parts (nat_lt g.incarnation (2 ^ 64)) (nat_lt g.sequence (2 ^ 64)) h in
      (ltb-true g.incarnation (2 ^ 64) both.0, ltb-true g.sequence (2 ^ 64) both.1)

  gtrids_read : (gs : List Gtrid) → list_all is_gtrid gs ≡ true → each_named gtrid_named (map gtrid_text gs) ≡ Some gs
  unfolding each_named
  gtrids_read [] h = refl
  gtrids_read (g ∷ gs) h =
      let both = and_parts (is_gtrid g) (list_all is_gtrid gs) h in
      let fits = gtrid_fits g both.0 in
      let first : gtrid_named (gtrid_text g) ≡ Some g = (laws.transactions (gtrid_text g) g).1 (fits.0, fits.1, refl) in
      rw (first, gtrids_read gs both.1) refl

  gtrid_words : (gs : List Gtrid) (ws : List Word) → AreWords ws → AreWords (map gtrid_text gs ++ ws)
  gtrid_words [] ws are = are
  gtrid_words (g ∷ gs) ws are = (gtrid_word g, gtrid_words gs ws are)

  some_read : (gs : List Gtrid) → 0 < length gs → list_all is_gtrid gs ≡ true → some_gtrids (map gtrid_text gs) ≡ Some gs
  some_read [] some h = absurd (omega arith)
  some_read (g ∷ gs) some h = gtrids_read (g ∷ gs) h

  finishes_read : (gs : List Gtrid) → 0 < length gs → list_all is_gtrid gs ≡ true
      → request_in (codes "done" ∷ (map gtrid_text gs ++ [])) ≡ Some (requests.Done gs)
  unfolding request_in
  finishes_read gs some h =
      ap (λ ws. request_in (codes "done" ∷ ws)) (append-nil (map gtrid_text gs)) ∙ ap (option_and_then (λ gtrids. Some (requests.Done gtrids))) (some_read gs some h)

  finishes : (gs : List Gtrid) → are_few gs ≡ true → IsAskedInLine (requests.Done gs)
  finishes gs h =
      let first = and_parts (nat_lt 0 (length gs)) (nat_le (length gs) 1200 && list_all is_gtrid gs) h in
      let rest = and_parts (nat_le (length gs) 1200) (list_all is_gtrid gs) first.1 in
      let some = ltb-true 0 (length gs) first.0 in
      let few = leb-true (length gs) 1200 rest.0 in
      by_words (codes "done") (map gtrid_text gs ++ []) (requests.Done gs) (verb (codes "done") refl (omega arith), gtrid_words gs [] tt)
      (omega (arith, length-append (map gtrid_text gs) [], length-map gs gtrid_text)) (finishes_read gs some rest.1)

  outcome_word : Outcome → Word
  outcome_word outcomes.Commit = codes "commit"
  outcome_word outcomes.Rollback = codes "rollback"

  outcome_is_word : (o : Outcome) → IsWord (outcome_word o)
  unfolding outcome_word
  outcome_is_word outcomes.Commit = verb (codes "commit") refl (omega arith)
  outcome_is_word outcomes.Rollback = verb (codes "rollback") refl (omega arith)

  outcome_is_named : (o : Outcome) → outcome_named (outcome_word o) ≡ Some o
  unfolding outcome_word
  outcome_is_named outcomes.Commit = refl
  outcome_is_named outcomes.Rollback = refl

  front_of : (ws : List Word) (w : Word) → take (length (ws ++ w ∷ []) - 1) (ws ++ w ∷ []) ≡ ws
  front_of ws w = grind (arith, common_steps)

  one_behind : (ws : List Word) (w : Word) → length (ws ++ w ∷ []) - 1 ≡ length ws
  one_behind ws w = let len = length-append ws (w ∷ []) in omega (arith, len)

  behind_all : (ws : List Word) (w : Word) → slice_get (ws ++ w ∷ []) (length ws) ≡ Some w
  behind_all [] w = refl
  behind_all (v ∷ ws) w = behind_all ws w

  last_of : (ws : List Word) (w : Word) → slice_get (ws ++ w ∷ []) (length (ws ++ w ∷ []) - 1) ≡ Some w
  last_of ws w = ap (slice_get (ws ++ w ∷ [])) (one_behind ws w) ∙ behind_all ws w

  decides_read : (gs : List Gtrid) (o : Outcome) → 0 < length gs → list_all is_gtrid gs ≡ true
      → request_in (codes "decide" ∷ (map gtrid_text gs ++ outcome_word o ∷ [])) ≡ Some (requests.Decide gs o)
  unfolding request_in decide_request
  decides_read gs o some h =
      rw (front_of (map gtrid_text gs) (outcome_word o), last_of (map gtrid_text gs) (outcome_word o), some_read gs some h, outcome_is_named o) refl

  decides : (gs : List Gtrid) (o : Outcome) → are_few gs ≡ true → IsAskedInLine (requests.Decide gs o)
  decides gs o h =
      let first = and_parts (nat_lt 0 (length gs)) (nat_le (length gs) 1200 && list_all is_gtrid gs) h in
      let rest = and_parts (nat_le (length gs) 1200) (list_all is_gtrid gs) first.1 in
      let some = ltb-true 0 (length gs) first.0 in
      let few = leb-true (length gs) 1200 rest.0 in
      by_words (codes "decide") (map gtrid_text gs ++ outcome_word o ∷ []) (requests.Decide gs o)
      (verb (codes "decide") refl (omega arith), gtrid_words gs (outcome_word o ∷ []) (outcome_is_word o, tt))
      (omega (arith, length-append (map gtrid_text gs) (outcome_word o ∷ []), length-map gs gtrid_text)) (decides_read gs o some rest.1)

  -- ** all

  number_is : (n : ℕ) → is_number n ≡ true → n < 2 ^ 32
  number_is n h = ltb-true n (2 ^ 32) h

  pub has_line : (request : Request) → is_plain request ≡ true → IsAskedInLine request
  has_line (requests.Begin t) h = begins t (number_is t h)
  has_line (requests.Issue t r call) h =
      let first = and_parts (is_number t) (is_number r && is_plain_call call) h in
      let rest = and_parts (is_number r) (is_plain_call call) first.1 in
      issues t r call (number_is t first.0) (number_is r rest.0) rest.1
  has_line (requests.Answer t r name answer) h =
      let first = and_parts (is_number t) (is_number r && is_plain_answer name answer) h in
      let rest = and_parts (is_number r) (is_plain_answer name answer) first.1 in
      answers t r name.kind name.xid answer (number_is t first.0) (number_is r rest.0) rest.1
  has_line (requests.Decide gs outcome) h = decides gs outcome h
  has_line (requests.Done gs) h = finishes gs h
  has_line (requests.Resolve r) h = resolves r (number_is r h)
  has_line (requests.Waiting t r) h = let both = and_parts (is_number t) (is_number r) h in waits t r (number_is t both.0) (number_is r both.1)
  has_line (requests.Owed r) h = owes r (number_is r h)
  has_line (requests.CrashLine t r) h = let both = and_parts (is_number t) (is_number r) h in loses t r (number_is t both.0) (number_is r both.1)
  has_line (requests.Claim g) h = absurd (cc)
  has_line (requests.Settle g) h = absurd (cc)
  has_line (requests.Abandon g) h = absurd (cc)
  has_line (requests.ResolveOpen r) h = absurd (cc)
  has_line (requests.CrashRm r) h = absurd (cc)
  has_line requests.Status h = absurd (cc)
  has_line requests.Quit h = absurd (cc)
