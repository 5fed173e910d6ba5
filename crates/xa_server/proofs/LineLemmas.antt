-- Lines that are read and written.
use Rattle.std.proofs.Common.{◌≡◌, ◌≢◌, ◌∙◌, ◌≤◌, ◌<◌, ◌+◌, ◌==◌, ◌&&◌, ℕ, Bool, true, false, cond, nat_le, List, [], ◌∷◌, ◌++◌, map, length, get_or, drop, Option, Some, None, refl, sym, ap, subst, append_assoc, add-one, drop-cons, drop_of_length-le, length-append, arith, rules, ◌||◌, ◌⊎◌, inl, inr}
use Rattle.std.proofs.lemmas.Bool.{cases_lt}
use Rattle.std.proofs.lemmas.Bool.Decides.{nat_tests}
use Rattle.std.proofs.lemmas.List.{append-nil, length-map}
use Rattle.std.proofs.lemmas.List.Splits.{length-slice_split}
use Rattle.std.proofs.lemmas.Str.{IsUtf8-from_is_utf8, is_utf8-from_IsUtf8}
use Rattle.std.specs.Io.KnownBytes.{Appends, Consumes, Keeps}
use Rattle.std.specs.Borrow.{Bor}
use Rattle.std.specs.List.{list_any}
use Rattle.std.specs.Str.{IsUtf8, is_utf8}
use Rattle.xa_files.specs.Outputs.{AppendsBeginning}
use Rattle.xa_server.specs.Lines.{IsKeptOf, IsPlain, KeepsShort, ReadsBeginning, ReadsOne, asked_in, cut_at_marks, requests_in}
use Rattle.xa_server.specs.NamedLines.{line_read}
use Rattle.xa_server.specs.declared.lines.TheConstants.{LINE_LIMIT}
use Rattle.xa_names.specs.Laws.{LinesStay}
use Rattle.xa_names.specs.Lines.{line_renamed}
use Rattle.xa_requests.specs.Requests.{request_of}
use Rattle.xa_requests.specs.declared.request.Request.{Request}

-- ** what a line asks for

pub asked_of_text : (line : List ℕ) → length line ≤ LINE_LIMIT → IsUtf8 line → asked_in line ≡ request_of line
asked_of_text line short text =
    let fits : nat_le (length line) LINE_LIMIT ≡ true = grind (arith, nat_tests) in
    rw fits (rw (is_utf8-from_IsUtf8 line text) refl)

pub asked_of_none : (line : List ℕ) → ¬ IsUtf8 line → asked_in line ≡ None
asked_of_none line other = by_test (nat_le (length line) LINE_LIMIT) (is_utf8 line) refl
  where
    by_test : (fits b : Bool) → is_utf8 line ≡ b → cond (fits && b) (request_of line) None ≡ None
    by_test fits true is = absurd (other (IsUtf8-from_is_utf8 line is))
    by_test true false is = refl
    by_test false false is = refl

asked_of_long : (line : List ℕ) → LINE_LIMIT < length line → asked_in line ≡ None
asked_of_long line long =
    let no_fit : nat_le (length line) LINE_LIMIT ≡ false = grind (arith, nat_tests) in
    rw no_fit refl

-- ** what a line asks a manager of a name for

pub read_of_text : (name line : List ℕ) → length line ≤ LINE_LIMIT → IsUtf8 line → line_read name line ≡ line_renamed name line
read_of_text name line short text =
    let fits : nat_le (length line) LINE_LIMIT ≡ true = grind (arith, nat_tests) in
    rw fits (rw (is_utf8-from_IsUtf8 line text) refl)

pub read_of_none : (name line : List ℕ) → ¬ IsUtf8 line → line_read name line ≡ line
read_of_none name line other = by_test (nat_le (length line) LINE_LIMIT) (is_utf8 line) refl
  where
    by_test : (fits b : Bool) → is_utf8 line ≡ b → cond (fits && b) (line_renamed name line) line ≡ line
    by_test fits true is = absurd (other (IsUtf8-from_is_utf8 line is))
    by_test true false is = refl
    by_test false false is = refl

read_of_long : (name line : List ℕ) → LINE_LIMIT < length line → line_read name line ≡ line
read_of_long name line long =
    let no_fit : nat_le (length line) LINE_LIMIT ≡ false = grind (arith, nat_tests) in
    rw no_fit refl

pub asked_of_no_text : (name line : List ℕ) → ¬ IsUtf8 line → asked_in (line_read name line) ≡ None
asked_of_no_text name line other = ap asked_in (read_of_none name line other) ∙ asked_of_none line other

pub asked_of_too_long : (name line : List ℕ) → LINE_LIMIT < length line → asked_in (line_read name line) ≡ None
asked_of_too_long name line long = ap asked_in (read_of_long name line long) ∙ asked_of_long line long

pub asked_without_name : LinesStay → (name line : List ℕ) → name ≡ [] → asked_in (line_read name line) ≡ asked_in line
asked_without_name law name line none = ap (λ n. asked_in (line_read n line)) none ∙ ap asked_in (by_test _)
  where
    by_test : (t : Bool) → cond t (line_renamed [] line) line ≡ line
    by_test true = law line
    by_test false = refl

-- ** the requests of a line

pub one_request : (line : List ℕ) → LINE_LIMIT < length line → requests_in line ≡ line ∷ []
one_request line long =
    let no_fit : nat_le (length line) LINE_LIMIT ≡ false = grind (arith, nat_tests) in
    rw no_fit refl

pub all_requests : (line : List ℕ) → length line ≤ LINE_LIMIT → requests_in line ≡ cut_at_marks line
all_requests line short =
    let fits : nat_le (length line) LINE_LIMIT ≡ true = grind (arith, nat_tests) in
    rw fits refl

-- what the requests of a line ask for at a manager of this name
abbrev pub asks_of : (name line : List ℕ) → List (Option Request)
asks_of name line = map (λ request. asked_in (line_read name request)) (requests_in line)

-- a line that is too long asks for nothing
pub none_asked : (name line : List ℕ) → LINE_LIMIT < length line → asks_of name line ≡ None ∷ []
none_asked name line long =
    ap (map (λ request. asked_in (line_read name request))) (one_request line long)
    ∙ ap (λ asked. asked ∷ []) (asked_of_too_long name line long)

some_requests : (requests : List (List ℕ)) (line : List ℕ) → requests ≡ cut_at_marks line → 0 < length requests
some_requests requests line are =
    let many = length-slice_split (λ c. c == 59) line in
    let as_many : length requests ≡ length (cut_at_marks line) = ap length are in
    omega (arith, many, as_many)

map_of_texts : {A : Type 0} (f : List ℕ → A) (xs : List (Bor (List ℕ))) → map (λ x. f x.now) xs ≡ map f (map (λ x. x.now) xs)
map_of_texts f [] = refl
map_of_texts f (x ∷ xs) = ap (λ ys. f x.now ∷ ys) (map_of_texts f xs)

-- each of the requests of a line is asked for
module _ (name line : List ℕ) (requests : List (Bor (List ℕ))) (asked : List (Option Request)) (short : length line ≤ LINE_LIMIT)
    (are : map (λ request. request.now) requests ≡ cut_at_marks line) (all : asked ≡ map (λ request. asked_in (line_read name request.now)) requests) where
  pub each_is_asked : asked ≡ asks_of name line
  each_is_asked =
      let read : List ℕ → Option Request = λ request. asked_in (line_read name request) in
      all ∙ map_of_texts read requests ∙ ap (map read) (are ∙ sym (all_requests line short))

  pub some_asked : 0 < length asked
  some_asked =
      let many = some_requests (map (λ request. request.now) requests) line are in
      let first = length-map requests (λ request. request.now) in
      let second = length-map requests (λ request. asked_in (line_read name request.now)) in
      let as_many = ap length all in
      omega (arith, many, first, second, as_many)

module _ {A B : Type 0} (f : A → B) where
  -- what was made of the first elements, and what is made of those that are left
  pub mapped_on : (front : List B) (xs : List A) (i : ℕ) (d : A) (all : List B) → i < length xs → front ++ map f (drop i xs) ≡ all
      → (front ++ f (get_or xs i d) ∷ []) ++ map f (drop (i + 1) xs) ≡ all
  mapped_on front xs i d all within so_far =
      let step : drop i xs ≡ get_or xs i d ∷ drop (i + 1) xs = rw (add-one, drop-cons xs i d) in
      append_assoc front (f (get_or xs i d) ∷ []) (map f (drop (i + 1) xs)) ∙ ap (λ ys. front ++ map f ys) (sym step) ∙ so_far

  pub mapped_all : (front : List B) (xs : List A) (i : ℕ) (all : List B) → length xs ≤ i → front ++ map f (drop i xs) ≡ all → front ≡ all
  mapped_all front xs i all past so_far =
      sym (append-nil front) ∙ ap (λ ys. front ++ map f ys) (sym (drop_of_length-le xs past)) ∙ so_far

-- ** known bytes

pub keeps_all : (a : Option (List ℕ)) → Keeps a a
keeps_all None = tt
keeps_all (Some xs) = refl

pub keeps_then : (a b c : Option (List ℕ)) → Keeps a b → Keeps b c → Keeps a c
keeps_then None b c p q = tt
keeps_then (Some xs) None c p q = absurd p
keeps_then (Some xs) (Some ys) None p q = absurd q
keeps_then (Some xs) (Some ys) (Some zs) p q = q ∙ p

pub kept_then_consumed : (a b c : Option (List ℕ)) (bs : List ℕ) → Keeps a b → Consumes b c bs → Consumes a c bs
kept_then_consumed None b c bs p q = tt
kept_then_consumed (Some xs) None c bs p q = absurd p
kept_then_consumed (Some xs) (Some ys) None bs p q = absurd q
kept_then_consumed (Some xs) (Some ys) (Some zs) bs p q = sym p ∙ q

pub consumed_then_kept : (a b c : Option (List ℕ)) (bs : List ℕ) → Consumes a b bs → Keeps b c → Consumes a c bs
consumed_then_kept None b c bs p q = tt
consumed_then_kept (Some xs) None c bs p q = absurd p
consumed_then_kept (Some xs) (Some ys) None bs p q = absurd q
consumed_then_kept (Some xs) (Some ys) (Some zs) bs p q = p ∙ ap (λ l. bs ++ l) (sym q)

pub none_consumed : (a b : Option (List ℕ)) → Consumes a b [] → Keeps a b
none_consumed None b p = tt
none_consumed (Some xs) None p = absurd p
none_consumed (Some xs) (Some ys) p = sym p

pub consumed_none : (a b : Option (List ℕ)) → Keeps a b → Consumes a b []
consumed_none None b p = tt
consumed_none (Some xs) None p = absurd p
consumed_none (Some xs) (Some ys) p = sym p

pub both_consumed : (a b c : Option (List ℕ)) (bs cs : List ℕ) → Consumes a b bs → Consumes b c cs → Consumes a c (bs ++ cs)
both_consumed None b c bs cs p q = tt
both_consumed (Some xs) None c bs cs p q = absurd p
both_consumed (Some xs) (Some ys) None bs cs p q = absurd q
both_consumed (Some xs) (Some ys) (Some zs) bs cs p q = p ∙ ap (λ l. bs ++ l) q ∙ sym (append_assoc bs cs zs)

-- ** what is written

pub appends_none : (a : Option (List ℕ)) → Appends a a []
appends_none None = tt
appends_none (Some xs) = sym (append-nil xs)

pub begins_with_none : (a : Option (List ℕ)) (bs : List ℕ) → AppendsBeginning a a bs
begins_with_none a bs = (bs, record { written = []; whole = refl; appends = appends_none a })

pub begins_with_all : (a b : Option (List ℕ)) (bs : List ℕ) → Appends a b bs → AppendsBeginning a b bs
begins_with_all a b bs p = ([], record { written = bs; whole = sym (append-nil bs); appends = p })

pub kept_then_written : (a b c : Option (List ℕ)) (bs : List ℕ) → Keeps a b → Appends b c bs → Appends a c bs
kept_then_written None b c bs p q = tt
kept_then_written (Some xs) None c bs p q = absurd p
kept_then_written (Some xs) (Some ys) None bs p q = absurd q
kept_then_written (Some xs) (Some ys) (Some zs) bs p q = q ∙ ap (λ l. l ++ bs) p

pub kept_then_begun : (a b c : Option (List ℕ)) (bs : List ℕ) → Keeps a b → AppendsBeginning b c bs → AppendsBeginning a c bs
kept_then_begun a b c bs p begun = (
  begun.0,
  record { written = begun.1.written; whole = begun.1.whole; appends = kept_then_written a b c begun.1.written p begun.1.appends },
)

-- ** lines in parts

-- a part of a line was read, and so much of it is kept
pub record ReadsPart (old new : Option (List ℕ)) (kept : List ℕ) : Type 0 where
  pub line : List ℕ
  pub plain : IsPlain line
  pub keeps : IsKeptOf line kept
  pub consumed : Consumes old new line

any_last : (p : ℕ → Bool) (xs : List ℕ) (b : ℕ) → list_any p xs ≡ false → p b ≡ false → list_any p (xs ++ b ∷ []) ≡ false
any_last p [] b none not_b = rw not_b refl
any_last p (x ∷ xs) b none not_b = by_test (p x) none (λ rest. any_last p xs b rest not_b)
  where
    by_test : (c : Bool) → (c || list_any p xs) ≡ false → (list_any p xs ≡ false → list_any p (xs ++ b ∷ []) ≡ false) → (c || list_any p (xs ++ b ∷ [])) ≡ false
    by_test true h on = h
    by_test false h on = on h

kept_on : (line old new : List ℕ) (b : ℕ) → IsKeptOf line old → KeepsShort b old new → IsKeptOf (line ++ b ∷ []) new
kept_on line old new b so_far more = by_test (nat_le (length old) LINE_LIMIT) refl more
  where
    by_test : (c : Bool) → nat_le (length old) LINE_LIMIT ≡ c → new ≡ cond c (old ++ b ∷ []) old → IsKeptOf (line ++ b ∷ []) new
    by_test true is more = record {
      short = λ h. more ∙ ap (λ xs. xs ++ b ∷ []) (so_far.short (grind (arith, h)));
      long = λ h. grind (arith, nat_tests, h, is, more, so_far.short, so_far.long);
    }
    by_test false is more = record {
      short = λ h.
          let shorter : length line ≤ LINE_LIMIT = omega (arith, h, length-append line (b ∷ [])) in
          let same : length old ≡ length line = ap length (so_far.short shorter) in
          absurd (grind (arith, nat_tests, is, same, shorter));
      long = λ h. grind (arith, nat_tests, h, is, more);
    }

pub no_part : (a : Option (List ℕ)) → ReadsPart a a []
no_part a = record {
  line = [];
  plain = refl;
  keeps = record { short = λ _. refl; long = λ h. absurd (omega (arith, h)) };
  consumed = consumed_none a a
      (keeps_all a);
}

-- one byte more of it
pub part_on : (a b c : Option (List ℕ)) (old new : List ℕ) (x : ℕ) → ReadsPart a b old → ReadsOne b c (Some x) → x ≢ 10 → KeepsShort x old new
    → ReadsPart a c new
part_on a b c old new x so_far more not_end keeps = record {
  line = so_far.line ++ x ∷ [];
  plain = any_last (λ y. y == 10) so_far.line x so_far.plain (search (not_end, rules));
  keeps = kept_on so_far.line old new x so_far.keeps keeps;
  consumed = both_consumed a b c so_far.line (x ∷ []) so_far.consumed more;
}

-- nothing more of it could be read
pub begun_so_far : (a b c : Option (List ℕ)) (kept : List ℕ) → ReadsPart a b kept → Keeps b c → ReadsBeginning a c
begun_so_far a b c kept so_far keeps = record {
  begun = so_far.line;
  plain = so_far.plain;
  consumed = consumed_then_kept a b c so_far.line so_far.consumed keeps;
}

-- the byte behind it was read, and not kept
pub begun_on : (a b c : Option (List ℕ)) (kept : List ℕ) (x : ℕ) → ReadsPart a b kept → ReadsOne b c (Some x) → x ≢ 10 → ReadsBeginning a c
begun_on a b c kept x so_far more not_end = record {
  begun = so_far.line ++ x ∷ [];
  plain = any_last (λ y. y == 10) so_far.line x so_far.plain (search (not_end, rules));
  consumed = both_consumed a b c so_far.line (x ∷ []) so_far.consumed more;
}

-- what is asked of a line that may be too long is what is asked of what is kept of it, at a manager of any name
pub asks_of_kept : (name line kept : List ℕ) → IsKeptOf line kept → asks_of name kept ≡ asks_of name line
asks_of_kept name line kept keeps = by_cases (cases_lt LINE_LIMIT (length line))
  where
    by_cases : (LINE_LIMIT < length line) ⊎ (length line ≤ LINE_LIMIT) → asks_of name kept ≡ asks_of name line
    by_cases (inl long) = none_asked name kept (keeps.long long) ∙ sym (none_asked name line long)
    by_cases (inr short) = ap (asks_of name) (keeps.short short)

nothing_less : LINE_LIMIT < 0 → ⊥
nothing_less h = omega (arith, h)

-- nothing is kept of a line only if it is empty
pub kept_none : (line kept : List ℕ) → IsKeptOf line kept → kept ≡ [] → line ≡ []
kept_none line kept keeps none = by_cases (cases_lt LINE_LIMIT (length line))
  where
    by_cases : (LINE_LIMIT < length line) ⊎ (length line ≤ LINE_LIMIT) → line ≡ []
    by_cases (inl long) = absurd (nothing_less (subst (λ xs. LINE_LIMIT < length xs) none (keeps.long long)))
    by_cases (inr short) = sym (keeps.short short) ∙ none
