-- What is written of a call.
use Rattle.std.proofs.Common.{◌≡◌, ◌∙◌, ℕ, ◌+◌, ◌==◌, not, true, false, List, [], ◌∷◌, ◌++◌, length, map, Option, Some, None, refl, sym, ap, subst, append_assoc, append-nil, arith, codes, if◌then◌else◌, All, count_by}
use Rattle.std.proofs.lemmas.Bool.{and_parts, not-true}
use Rattle.std.proofs.lemmas.List.Elements.{All-cons, All-nil}
use Rattle.std.proofs.lemmas.List.Splits.{length-slice_split, slice_split_at, slice_split_none}
use Rattle.std.specs.List.{join_with_byte, list_all}
use Rattle.std.specs.Option.{option_map_or}
use Rattle.xa_base.specs.Call.{map_call, xid_in}
use Rattle.xa_base.specs.Xid.{Xid, IsXid, text_of}
use Rattle.xa_base.specs.declared.call.Call.{Call}
use Rattle.xa_base.specs.declared.call.Call.TheVariants.{OpenRm, CloseRm, Start, End, Prepare, Commit, Rollback, Forget, Recover}
use Rattle.xa_names.specs.Laws.{WrittenCalls}
use Rattle.xa_names.specs.Lines.{line_renamed, word_renamed}
use Rattle.xa_names.specs.Names.{renamed}
use Rattle.xa_requests.proofs.SpaceLemmas.{NoSpace, spaceless, xid_text}
use Rattle.xa_requests.specs.Names.{xid_named, xid_of_texts}
use Rattle.xa_requests.specs.Responses.{call_text}
use Rattle.xa_requests.specs.Spellings.{XidsHaveOneSpelling}
use Rattle.xa_requests.specs.Words.{Word, words_of}

-- ** words

abbrev NoColon : List ℕ → Type 0
NoColon text = All (λ c. (c == 58) ≡ false) text

colonless : (text : List ℕ) → list_all (λ c. not (c == 58)) text ≡ true → NoColon text
colonless [] h = All-nil (λ c. (c == 58) ≡ false)
colonless (c ∷ text) h =
    let both = and_parts (not (c == 58)) (list_all (λ c. not (c == 58)) text) h in
    All-cons (λ c. (c == 58) ≡ false) c text (not-true (c == 58) both.0) (colonless text both.1)

no_xid : (word : Word) → NoColon word → xid_named word ≡ None
unfolding xid_named xid_of_texts
no_xid word plain = ap xid_of_texts (slice_split_none (λ c. c == 58) word plain)

word_as_is : (name : List ℕ) (word : Word) → list_all (λ c. not (c == 58)) word ≡ true → word_renamed name word ≡ word
word_as_is name word h = ap (λ (o : Option Xid). option_map_or (λ x. text_of (renamed name x)) o word) (no_xid word (colonless word h))

word_of_xid : XidsHaveOneSpelling → (name : List ℕ) (x : Xid) → IsXid x → word_renamed name (text_of x) ≡ text_of (renamed name x)
word_of_xid law name x is = ap (λ (o : Option Xid). option_map_or (λ y. text_of (renamed name y)) o (text_of x)) ((law (text_of x) x).1 (is, refl))

-- ** lines

joined_on : (f : Word → Word) (w : Word) (ws : List Word) (n : ℕ) → length ws ≡ n + 1
    → join_with_byte 32 (map f (w ∷ ws)) ≡ f w ++ (32 ∷ join_with_byte 32 (map f ws))
joined_on f w [] n some = absurd (omega (arith, some))
joined_on f w (v ∷ vs) n some = refl

cut : (name w rest : List ℕ) → NoSpace w → line_renamed name (w ++ (32 ∷ rest)) ≡ word_renamed name w ++ (32 ∷ line_renamed name rest)
unfolding line_renamed words_of
cut name w rest plain =
    ap (λ ws. join_with_byte 32 (map (word_renamed name) ws)) (slice_split_at (λ c. c == 32) w 32 rest plain refl)
    ∙ joined_on (word_renamed name) w (words_of rest) (count_by (λ c. c == 32) rest) (length-slice_split (λ c. c == 32) rest)

one : (name w : List ℕ) → NoSpace w → line_renamed name w ≡ word_renamed name w
unfolding line_renamed words_of
one name w plain = ap (λ ws. join_with_byte 32 (map (word_renamed name) ws)) (slice_split_none (λ c. c == 32) w plain)

-- a word that is written out, and more
cut_as_is : (name w rest : List ℕ) → list_all (λ c. not (c == 32)) w ≡ true → list_all (λ c. not (c == 58)) w ≡ true
    → line_renamed name (w ++ (32 ∷ rest)) ≡ w ++ (32 ∷ line_renamed name rest)
cut_as_is name w rest no_space no_colon =
    cut name w rest (spaceless w no_space) ∙ ap (λ (v : List ℕ). v ++ (32 ∷ line_renamed name rest)) (word_as_is name w no_colon)

last_as_is : (name w : List ℕ) → list_all (λ c. not (c == 32)) w ≡ true → list_all (λ c. not (c == 58)) w ≡ true → line_renamed name w ≡ w
last_as_is name w no_space no_colon = one name w (spaceless w no_space) ∙ word_as_is name w no_colon

-- ** calls

bare_pieces : (k t : List ℕ) → k ++ codes " " ++ t ++ [] ≡ k ++ (32 ∷ t)
bare_pieces k t = append-nil (k ++ codes " " ++ t) ∙ append_assoc k (codes " ") t

flag_pieces : (k t f : List ℕ) → k ++ codes " " ++ t ++ (32 ∷ f) ≡ k ++ (32 ∷ (t ++ (32 ∷ f)))
flag_pieces k t f = append_assoc (k ++ codes " ") t (32 ∷ f) ∙ append_assoc k (codes " ") (t ++ (32 ∷ f))

module _ (law : XidsHaveOneSpelling) (name : List ℕ) (x : Xid) (is : IsXid x) where
  on_branch : (k : List ℕ) → list_all (λ c. not (c == 32)) k ≡ true → list_all (λ c. not (c == 58)) k ≡ true
      → line_renamed name (k ++ codes " " ++ text_of x ++ []) ≡ k ++ codes " " ++ text_of (renamed name x) ++ []
  on_branch k no_space no_colon =
      ap (line_renamed name) (bare_pieces k (text_of x))
      ∙ cut_as_is name k (text_of x) no_space no_colon
      ∙ ap (λ (t : List ℕ). k ++ (32 ∷ t)) (one name (text_of x) (xid_text x is.in_range) ∙ word_of_xid law name x is)
      ∙ sym (bare_pieces k (text_of (renamed name x)))

  with_flag : (k f : List ℕ) → list_all (λ c. not (c == 32)) k ≡ true → list_all (λ c. not (c == 58)) k ≡ true
      → list_all (λ c. not (c == 32)) f ≡ true → list_all (λ c. not (c == 58)) f ≡ true
      → line_renamed name (k ++ codes " " ++ text_of x ++ (32 ∷ f)) ≡ k ++ codes " " ++ text_of (renamed name x) ++ (32 ∷ f)
  with_flag k f k_space k_colon f_space f_colon =
      ap (line_renamed name) (flag_pieces k (text_of x) f)
      ∙ cut_as_is name k (text_of x ++ (32 ∷ f)) k_space k_colon
      ∙ ap (λ (t : List ℕ). k ++ (32 ∷ t))
      (cut name (text_of x) f (xid_text x is.in_range) ∙ ap (λ (t : List ℕ). t ++ (32 ∷ line_renamed name f)) (word_of_xid law name x is)
      ∙ ap (λ (t : List ℕ). text_of (renamed name x) ++ (32 ∷ t)) (last_as_is name f f_space f_colon))
      ∙ sym (flag_pieces k (text_of (renamed name x)) f)

same_xid : (x y : Xid) → IsXid x → Some y ≡ Some x → IsXid y
same_xid x y is e = let same : y ≡ x = cc in subst IsXid (sym same) is

written_call : XidsHaveOneSpelling → (name : List ℕ) (call : Call Xid) (x : Xid) → xid_in call ≡ Some x → IsXid x
    → line_renamed name (call_text call) ≡ call_text (map_call (renamed name) call)
written_call law name OpenRm x e is = absurd (cc)
written_call law name CloseRm x e is = absurd (cc)
written_call law name (Recover n a b) x e is = absurd (cc)
written_call law name (Start y true) x e is =
    with_flag law name y (same_xid x y is e) (codes "xa_start") (codes "TMJOIN") refl refl refl refl
written_call law name (Start y false) x e is = on_branch law name y (same_xid x y is e) (codes "xa_start") refl refl
written_call law name (End y true) x e is =
    with_flag law name y (same_xid x y is e) (codes "xa_end") (codes "TMFAIL") refl refl refl refl
written_call law name (End y false) x e is =
    with_flag law name y (same_xid x y is e) (codes "xa_end") (codes "TMSUCCESS") refl refl refl refl
written_call law name (Prepare y) x e is = on_branch law name y (same_xid x y is e) (codes "xa_prepare") refl refl
written_call law name (Commit y true) x e is =
    with_flag law name y (same_xid x y is e) (codes "xa_commit") (codes "TMONEPHASE") refl refl refl refl
written_call law name (Commit y false) x e is = on_branch law name y (same_xid x y is e) (codes "xa_commit") refl refl
written_call law name (Rollback y) x e is = on_branch law name y (same_xid x y is e) (codes "xa_rollback") refl refl
written_call law name (Forget y) x e is = on_branch law name y (same_xid x y is e) (codes "xa_forget") refl refl

pub written : XidsHaveOneSpelling → WrittenCalls
written law name call x e is =
    let same = written_call law name call x e is in (
      cut_as_is name (codes "issued") (call_text call) refl refl ∙ ap (λ (t : List ℕ). codes "issued" ++ (32 ∷ t)) same,
      cut_as_is name (codes "waits") (call_text call) refl refl ∙ ap (λ (t : List ℕ). codes "waits" ++ (32 ∷ t)) same,
    )
