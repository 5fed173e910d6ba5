-- What is written of a decision is read as that decision.
use Rattle.std.proofs.Common.{◌≡◌, ◌≢◌, ◌∙◌, ℕ, zero, suc, ◌<◌, ◌^◌, ◌==◌, ◌&&◌, not, true, false, nat_eq, ◌+◌, List, take, [], ◌∷◌, ◌++◌, append_assoc, append-nil, get_or, length, map, pos, refl, sym, ap, subst, arith, w32, w64, FitsSigned}
use Rattle.std.specs.Fmt.{decimal}
use Rattle.std.specs.Borrow.{Bor}
use Rattle.std.specs.Int.{byte_at, bytes_high_first, to_be_bytes}
use Rattle.std.specs.List.{All, list_all}
use Rattle.std.specs.Prelude.{codes}
use Rattle.std.proofs.lemmas.Bool.{and_parts, ne_eqb, true≢false}
use Rattle.std.proofs.lemmas.Grind.{common_steps}
use Rattle.std.proofs.lemmas.List.{get_or-take, get_or_default, length-map, take_more}
use Rattle.std.proofs.lemmas.List.Elements.{All-cons, All-from_recursion, All-nil}
use Rattle.std.proofs.lemmas.List.Quantifiers.{all_pairs_push}
use Rattle.hex.specs.Hex.{IsBytes, encode_lower, encode_with}
use Rattle.xa_base.proofs.BranchKeys.{gtrid_eq-refl}
use Rattle.xa_base.proofs.BranchOrder.{branch_numbers, gtrid_numbers}
use Rattle.xa_base.proofs.HexText.{bytes-cons, lower-encode}
use Rattle.xa_base.proofs.TextLemmas.{text_parts}
use Rattle.xa_base.specs.Branch.{IsBranch, branch_eq, gtrid_bytes, gtrid_eq, gtrid_text, xid_of_branch}
use Rattle.xa_base.specs.Xid.{IsInRange}
use Rattle.xa_base.specs.XidText.{Spells, is_lower_hex}
use Rattle.xa_base.specs.declared.branch.Branch.{Branch}
use Rattle.xa_base.specs.declared.branch.Gtrid.{Gtrid}
use Rattle.xa_log.specs.Contract.{FitsRow}
use Rattle.xa_log.specs.declared.decision.Decision.{Decision}
use Rattle.xa_requests.proofs.SpaceLemmas.{NoSpace, cut_word, decimal_text, last_word, xid_text}
use Rattle.xa_requests.specs.Words.{words_of}
use Rattle.xa_restore.specs.LogLines.{AreBranchesOf, AreOnce, branch_xid_text, branch_words, decision_row_line, decision_words, stated}

-- ** identifiers

bytes_both : (xs ys : List ℕ) → IsBytes xs → IsBytes ys → IsBytes (xs ++ ys)
bytes_both [] ys hx hy = hy
bytes_both (x ∷ xs) ys hx hy = bytes-cons x (xs ++ ys) (hx 0) (bytes_both xs ys (λ i. hx (suc i)) hy)

small_byte : (k n : ℕ) → byte_at k n < 256
small_byte zero n = omega arith
small_byte (suc k) n = omega arith

number_bytes : (k n : ℕ) → IsBytes (bytes_high_first k n)
number_bytes zero n = λ i. omega arith
number_bytes (suc k) n = bytes-cons (byte_at k n) (bytes_high_first k n) (small_byte k n) (number_bytes k n)

gtrid_is_bytes : (g : Gtrid) → IsBytes (gtrid_bytes g)
gtrid_is_bytes g = bytes_both (to_be_bytes w64 g.incarnation) (to_be_bytes w64 g.sequence) (number_bytes 8 g.incarnation) (number_bytes 8 g.sequence)

seven_fits : FitsSigned w32 (pos 7)
seven_fits = omega arith

xid_in_range : (b : Branch) → IsInRange (xid_of_branch b)
xid_in_range b = record {
  format = seven_fits;
  gtrid = gtrid_is_bytes b.gtrid;
  bqual = bytes_both (to_be_bytes w32 b.thread) (to_be_bytes w32 b.rm) (number_bytes 4 b.thread) (number_bytes 4 b.rm);
}

-- the text of a branch spells its identifier
pub spells : (b : Branch) (word : List ℕ) → word ≡ branch_xid_text b → Spells word (xid_of_branch b)
spells b word is = (xid_in_range b, is)

zeros : encode_lower (to_be_bytes w32 0 ++ to_be_bytes w32 0) ≡ codes "0000000000000000"
unfolding encode_with
zeros = refl

-- the text of the first branch of a transaction
first_text : (g : Gtrid) → branch_xid_text (record { gtrid = g; thread = 0; rm = 0 })
    ≡ decimal 7 ++ (58 ∷ (gtrid_text g ++ (58 ∷ codes "0000000000000000")))
first_text g =
    text_parts (xid_of_branch (record { gtrid = g; thread = 0; rm = 0 }))
    ∙ ap (λ (zs : List ℕ). decimal 7 ++ (58 ∷ (gtrid_text g ++ (58 ∷ zs)))) zeros

pub probe : (word : List ℕ) (g : Gtrid) → word ≡ gtrid_text g
    → decimal 7 ++ (58 ∷ (word ++ (58 ∷ codes "0000000000000000"))) ≡ branch_xid_text (record { gtrid = g; thread = 0; rm = 0 })
probe word g is = ap (λ (w : List ℕ). decimal 7 ++ (58 ∷ (w ++ (58 ∷ codes "0000000000000000")))) is ∙ sym (first_text g)

pub first_fits : (g : Gtrid) → FitsRow g → IsBranch (record { gtrid = g; thread = 0; rm = 0 })
first_fits g fits = record { incarnation = omega arith; sequence = omega arith; thread = omega arith; rm = omega arith }

-- ** branches that are apart

-- a branch of another transaction isn't this one
pub other_gtrid : (x b : Branch) (g : Gtrid) → x ≡ b → b.gtrid ≡ g
    → true ≡ not (nat_eq x.gtrid.incarnation g.incarnation && nat_eq x.gtrid.sequence g.sequence) → ⊥
other_gtrid x b g same own differs =
    let is : x.gtrid ≡ g = ap (λ (y : Branch). y.gtrid) same ∙ own in
    let yes = gtrid_numbers x.gtrid g ∙ ap (gtrid_eq x.gtrid) (sym is) ∙ gtrid_eq-refl x.gtrid in
    true≢false (differs ∙ ap not yes)

-- one of these has the numbers of a branch
abbrev IsThere : List Branch → Branch → Type 0
IsThere bs x =
    (k : ℕ) × (k < length bs) × ((d : Branch) → ((nat_eq (get_or bs k d).gtrid.incarnation x.gtrid.incarnation
    && nat_eq (get_or bs k d).gtrid.sequence x.gtrid.sequence) && (nat_eq (get_or bs k d).thread x.thread && nat_eq (get_or bs k d).rm x.rm)) ≡ true)

pub named_before : (earlier : List Branch) (x b : Branch) → x ≡ b → All (λ c. branch_eq c b ≡ false) earlier → IsThere earlier x → ⊥
named_before earlier x b same once (k, short, is) =
    let y = get_or earlier k b in
    let yes : branch_eq y x ≡ true =
    sym (branch_numbers y x) ∙ ap (λ t. t && (nat_eq y.thread x.thread && nat_eq y.rm x.rm)) (sym (gtrid_numbers y.gtrid x.gtrid)) ∙ is b in
    true≢false (sym yes ∙ ap (branch_eq y) same ∙ once k b short)

pub once_more : (bs slice more : List Branch) (b : Branch) → AreOnce bs → slice ≡ bs → All (λ c. branch_eq c b ≡ false) slice
    → more ≡ bs ++ b ∷ [] → AreOnce more
once_more bs slice more b once same others is =
    let Others : List Branch → Type 0 = All (λ c. branch_eq c b ≡ false) in
    let all = subst Others same others in
    subst AreOnce (sym is) (all_pairs_push (λ c e. branch_eq c e ≡ false) bs b once all)

-- ** one of several

-- what stands at a place in two lists that say the same
pub at_place : {X Y : Type 0} (f : X → List ℕ) (g : Y → List ℕ) (xs : List X) (ys : List Y) (i : ℕ) (d : X) (e : Y) → map f xs ≡ map g ys
    → i < length xs → (i < length ys) × (f (get_or xs i d) ≡ g (get_or ys i e))
at_place f g [] ys i d e same short = absurd (omega arith)
at_place f g (x ∷ xs) [] i d e same short = absurd (cc)
at_place f g (x ∷ xs) (y ∷ ys) zero d e same short = let first : f x ≡ g y = cc in (omega arith, first)
at_place f g (x ∷ xs) (y ∷ ys) (suc i) d e same short =
    let others : map f xs ≡ map g ys = cc in
    let there = at_place f g xs ys i d e others (omega arith) in (omega arith, there.1)

pub as_many : {X Y : Type 0} (f : X → List ℕ) (g : Y → List ℕ) (xs : List X) (ys : List Y) → map f xs ≡ map g ys → length xs ≡ length ys
as_many f g xs ys same = sym (length-map xs f) ∙ ap length same ∙ length-map ys g

-- the branch that a word is to name, behind those that others named
pub record IsNext (g : Gtrid) (earlier : List Branch) (text : List ℕ) (b : Branch) : Type 0 where
  pub is : IsBranch b
  pub own : b.gtrid ≡ g
  pub once : All (λ c. branch_eq c b ≡ false) earlier
  pub text_is : text ≡ branch_xid_text b

module _ (g : Gtrid) (words : List (Bor (List ℕ))) (bs earlier slice : List Branch) (i : ℕ) (w : Bor (List ℕ)) (b : Branch) where
  pub next_branch : AreBranchesOf g bs → map (λ word. word.now) words ≡ map branch_xid_text bs → earlier ≡ take i bs → slice ≡ earlier → i < length words
      → IsNext g slice (get_or words i w).now (get_or bs i b)
  next_branch are same got sliced short =
      let here = at_place (λ (word : Bor (List ℕ)). word.now) branch_xid_text words bs i w b same short in
      let Apart : List Branch → Type 0 = All (λ c. branch_eq c (get_or bs i b) ≡ false) in
      record {
        is = All-from_recursion IsBranch bs are.are i b here.0;
        own = All-from_recursion (λ (c : Branch). c.gtrid ≡ g) bs are.own i b here.0;
        once = subst Apart (sym (sliced ∙ got)) (λ k d low.
            let below : k < i = grind (arith, common_steps) in
            let at : get_or (take i bs) k d ≡ get_or bs k b = get_or-take i bs k d below ∙ get_or_default bs k d b (omega arith) in
            ap (λ c. branch_eq c (get_or bs i b)) at ∙ are.once k i b below here.0);
        text_is = here.1;
      }

-- one more of a list, behind the first of it
pub taken_more : {X : Type 0} (xs earlier more : List X) (i : ℕ) (d next : X) → i < length xs → earlier ≡ take i xs → next ≡ get_or xs i d
    → more ≡ earlier ++ next ∷ [] → more ≡ take (i + 1) xs
taken_more xs earlier more i d next short got is pushed =
    pushed ∙ ap (λ ys. ys ++ next ∷ []) got ∙ ap (λ y. take i xs ++ y ∷ []) is ∙ sym (take_more xs i d short)

-- ** words

lower_text : (text : List ℕ) → list_all is_lower_hex text ≡ true → NoSpace text
lower_text [] h = All-nil (λ c. (c == 32) ≡ false)
lower_text (c ∷ text) h =
    let both = and_parts (is_lower_hex c) (list_all is_lower_hex text) h in
    let other : c ≢ 32 = λ e. let no : is_lower_hex 32 ≡ true = subst (λ (b : ℕ). is_lower_hex b ≡ true) e both.0 in cc in
    All-cons (λ c. (c == 32) ≡ false) c text (ne_eqb c 32 other) (lower_text text both.1)

words_after : (word : List ℕ) (bs : List Branch) → NoSpace word → words_of (word ++ branch_words bs) ≡ word ∷ map branch_xid_text bs
words_after word [] plain = ap words_of (append-nil word) ∙ last_word word plain
words_after word (b ∷ bs) plain =
    cut_word word (branch_xid_text b ++ branch_words bs) plain
    ∙ ap (λ ws. word ∷ ws) (words_after (branch_xid_text b) bs (xid_text (xid_of_branch b) (xid_in_range b)))

-- the words of a decision's line
pub line_words : (d : Decision) → length d.participants.items < 2 ^ 64 → words_of (decision_row_line d) ≡ decision_words d
line_words d few =
    let g = gtrid_text d.gtrid in
    let n = decimal (length d.participants.items) in
    let rest = branch_words d.participants.items in
    ap words_of (append_assoc (g ++ codes " ") n rest ∙ append_assoc g (codes " ") (n ++ rest))
    ∙ cut_word g (n ++ rest) (lower_text g (lower-encode (gtrid_bytes d.gtrid) (gtrid_is_bytes d.gtrid)))
    ∙ ap (λ ws. g ∷ ws) (words_after n d.participants.items (decimal_text (length d.participants.items) few))

pub cut_line : (line : List ℕ) (words : List (Bor (List ℕ))) (d : Decision) → map (λ word. word.now) words ≡ words_of line → line ≡ decision_row_line d
    → map (λ word. word.now) words ≡ decision_words d
cut_line line words d cut is = let few : length d.participants.items < 2 ^ 64 = omega arith in cut ∙ ap words_of is ∙ line_words d few

-- ** what decisions state

pub same_gtrid : (d e : Decision) → stated e ≡ stated d → d.gtrid ≡ e.gtrid
same_gtrid d e same = ap (λ (s : Gtrid × List Branch). s.0) (sym same)
