-- Lines whose words are renamed.
use Rattle.std.proofs.Common.{◌≡◌, ◌∙◌, ℕ, List, [], ◌∷◌, ◌++◌, map, Option, Some, None, Result, Ok, Err, IfOk, refl, sym, ap, append-nil}
use Rattle.std.proofs.lemmas.List.Splits.{join_with_byte-slice_split}
use Rattle.std.specs.List.{join_by, join_with_byte}
use Rattle.std.specs.Option.{option_map_or}
use Rattle.std.specs.Result.{result_ok}
use Rattle.xa_base.specs.Xid.{Xid, IsXid, text_of, xid_of}
use Rattle.xa_base.specs.XidText.{Spells}
use Rattle.xa_base.specs.declared.fault.XidFault.{XidFault}
use Rattle.xa_names.proofs.NameLemmas.{none_left, stays}
use Rattle.xa_names.specs.Laws.{LinesStay}
use Rattle.xa_names.specs.Lines.{line_renamed, word_renamed}
use Rattle.xa_names.specs.Names.{renamed}
use Rattle.xa_requests.specs.Names.{xid_named}
use Rattle.xa_requests.specs.Spellings.{XidsHaveOneSpelling}
use Rattle.xa_requests.specs.Words.{Word, words_of}

-- what is parsed is what the word names
pub parsed : XidsHaveOneSpelling → (word : List ℕ) (r : Result Xid XidFault) → ((x : Xid) → Spells word x → r ≡ xid_of x.format x.gtrid x.bqual)
    → IfOk r (Spells word) → result_ok r ≡ xid_named word
parsed law word (Ok x) spelled read =
    let is : IsXid x = record { in_range = read.0; faultless = sym (spelled x read) } in
    sym ((law word x).1 (is, read.1))
parsed law word (Err e) spelled read = sym (none_left (xid_named word) (λ y is.
    let named = (law word y).0 is in
    let never : Err e ≡ Ok y = spelled y (named.0.in_range, named.1) ∙ named.0.faultless in
    cc never))

-- ** words joined

pub joined : {X : Type 0} (f : X → List ℕ) (xs : List X) → join_by f (32 ∷ []) xs ≡ join_with_byte 32 (map f xs)
joined f [] = refl
joined f (x ∷ []) = append-nil (f x)
joined f (x ∷ y ∷ xs) = ap (λ (t : List ℕ). f x ++ (32 ∷ t)) (joined f (y ∷ xs))

pub map_twice : {X Y Z : Type 0} (f : Y → Z) (g : X → Y) (xs : List X) → map (λ x. f (g x)) xs ≡ map f (map g xs)
map_twice f g [] = refl
map_twice f g (x ∷ xs) = ap (λ zs. f (g x) ∷ zs) (map_twice f g xs)

-- each word of a line renamed, and all of them joined
pub all_joined : {X Y : Type 0} (f : X → List ℕ) (g : Y → Word) (name line text : List ℕ) (seen texts : List X) (given words : List Y)
    → text ≡ join_by f (32 ∷ []) seen → seen ≡ texts → map f texts ≡ map (λ w. word_renamed name (g w)) given → given ≡ words
    → map g words ≡ words_of line → text ≡ line_renamed name line
unfolding line_renamed
all_joined f g name line text seen texts given words join are each were cut =
    join ∙ ap (join_by f (32 ∷ [])) are ∙ joined f texts
    ∙ ap (join_with_byte 32) (each ∙ map_twice (word_renamed name) g given ∙ ap (map (word_renamed name)) (ap (map g) were ∙ cut))

-- ** without a name

word_stays : XidsHaveOneSpelling → (word : Word) → word_renamed [] word ≡ word
word_stays law word = by_name (xid_named word) refl
  where
    by_name : (o : Option Xid) → xid_named word ≡ o → option_map_or (λ x. text_of (renamed [] x)) o word ≡ word
    by_name None is = refl
    by_name (Some x) is = ap text_of (stays x) ∙ sym ((law word x).0 is).1

words_stay : XidsHaveOneSpelling → (words : List Word) → map (word_renamed []) words ≡ words
words_stay law [] = refl
words_stay law (word ∷ words) = ap (λ w. w ∷ map (word_renamed []) words) (word_stays law word) ∙ ap (λ ws. word ∷ ws) (words_stay law words)

pub lines_stay : XidsHaveOneSpelling → LinesStay
unfolding line_renamed words_of
lines_stay law line = ap (join_with_byte 32) (words_stay law (words_of line)) ∙ join_with_byte-slice_split 32 line
