-- The names that the first lines give.
use Rattle.std.proofs.Common.{◌≡◌, ℕ, ◌+◌, ◌-◌, ◌<◌, ◌≤◌, zero, suc, List, [], ◌∷◌, ◌++◌, length, map, take, drop, get_or}
use Rattle.std.proofs.Common.{Bool, true, false, ap, refl, subst, sym, ◌∙◌, add-zero, arith}
use Rattle.std.specs.Bool.{MatchBool}
use Rattle.std.specs.Borrow.{Bor}
use Rattle.std.specs.Prelude.{codes, slice_get, IsSomeAnd, None}
use Rattle.std.specs.Str.Pattern.{FindsTextPrefix, HasPrefixMatch}
use Rattle.std.specs.List.{AllWithin}
use Rattle.std.specs.Str.{bytes_eq}
use Rattle.std.proofs.lemmas.Bool.{true≢false}
use Rattle.std.proofs.lemmas.List.Quantifiers.{all_pairs_push}
use Rattle.std.proofs.lemmas.List.{length-map, map-append, take-append-drop, take_all, take_more}
use Rattle.xa_names.specs.Names.{is_manager_name}
use Rattle.xa_restore.specs.Headings.{AreApart, IsFaultBehind, IsHeadingOf, IsWrongLine, name_line, name_lines, rm_line, rm_lines, rm_lines_from}
use Rattle.xa_restore.specs.declared.faults.LineFault.TheVariants as Faults
use Rattle.xa_restore.specs.declared.faults.RestoreFault.TheVariants.{Line}

-- what lines say
abbrev pub texts : List (Bor (List ℕ)) → List (List ℕ)
texts lines = map (λ line. line.now) lines

-- one line more
rm_lines-push : (number : ℕ) (rms : List (List ℕ)) (rm : List ℕ)
    → rm_lines_from number (rms ++ rm ∷ []) ≡ rm_lines_from number rms ++ rm_line (number + length rms) rm ∷ []
rm_lines-push number [] rm = ap (λ n. rm_line n rm ∷ []) (sym (add-zero number))
rm_lines-push number (first ∷ rms) rm =
    ap (λ lines. rm_line number first ∷ lines)
    (rm_lines-push (number + 1) rms rm
    ∙ ap (λ n. rm_lines_from (number + 1) rms ++ rm_line n rm ∷ [])
    (let same : (number + 1) + length rms ≡ number + length (first ∷ rms) = omega arith in same))

module _ (lines rms : List (Bor (List ℕ))) (at : ℕ) (rm : Bor (List ℕ)) (d : Bor (List ℕ)) where
  number_is : length rms ≡ at → at ≡ 0 + length (texts rms)
  number_is count = let same : at ≡ 0 + length rms = omega arith in same ∙ ap (λ n. 0 + n) (sym (length-map rms (λ line. line.now)))

  pub rms_pushed : (more : List (Bor (List ℕ))) → at < length lines → texts (take at lines) ≡ rm_lines (texts rms) → length rms ≡ at
      → (get_or lines at d).now ≡ rm_line at rm.now → more ≡ rms ++ rm ∷ [] → texts (take (at + 1) lines) ≡ rm_lines (texts more)
  rms_pushed more short before count is more_is =
      ap texts (take_more lines at d short)
      ∙ map-append (λ line. line.now) (take at lines) (get_or lines at d ∷ [])
      ∙ ap (λ ls. ls ++ (get_or lines at d).now ∷ []) before
      ∙ ap (λ l. rm_lines (texts rms) ++ l ∷ []) (is ∙ ap (λ n. rm_line n rm.now) (number_is count))
      ∙ sym (rm_lines-push 0 (texts rms) rm.now)
      ∙ ap rm_lines (sym (map-append (λ line. line.now) rms (rm ∷ [])))
      ∙ ap (λ it. rm_lines (texts it)) (sym more_is)

-- lines of which the first are these
split_off : (k : ℕ) (lines : List (Bor (List ℕ))) (first : List (List ℕ)) → texts (take k lines) ≡ first → texts lines ≡ first ++ texts (drop k lines)
split_off k lines first is =
    sym (ap texts (take-append-drop k lines)) ∙ map-append (λ line. line.now) (take k lines) (drop k lines) ∙ ap (λ it. it ++ texts (drop k lines)) is

-- the first line, and the others
pub first_and_rest : (lines : List (Bor (List ℕ))) (d : Bor (List ℕ)) → 0 < length lines
    → lines ≡ get_or lines 0 d ∷ take (length lines - 1) (drop 1 lines)
first_and_rest [] d some = absurd (omega arith)
first_and_rest (line ∷ lines) d some = ap (λ rest. line ∷ rest) (sym (take_all (length (line ∷ lines) - 1) lines (omega arith)))

-- a name has one line
name_has_line : (name : List ℕ) → is_manager_name name ≡ true → name_lines name ≡ name_line name ∷ []
name_has_line [] is = absurd (true≢false (sym is))
name_has_line (c ∷ cs) is = refl

module _ (lines : List (Bor (List ℕ))) (name : List ℕ) (rms : List (List ℕ)) (k : ℕ) where
  pub heading_named : (d : Bor (List ℕ)) → 0 < length lines → (get_or lines 0 d).now ≡ name_line name → is_manager_name name ≡ true
      → texts (take k (take (length lines - 1) (drop 1 lines))) ≡ rm_lines rms → IsHeadingOf name rms (texts lines)
  heading_named d some first is others =
      let rest = take (length lines - 1) (drop 1 lines) in
      record {
        rest = texts (drop k rest);
        begins =
            ap texts (first_and_rest lines d some)
            ∙ ap (λ l. l ∷ texts rest) first
            ∙ ap (λ ls. name_line name ∷ ls) (split_off k rest (rm_lines rms) others)
            ∙ ap (λ ns. ns ++ rm_lines rms ++ texts (drop k rest)) (sym (name_has_line name is));
      }

  pub heading_unnamed : name ≡ [] → texts (take k lines) ≡ rm_lines rms → IsHeadingOf name rms (texts lines)
  heading_unnamed none is = record {
    rest = texts (drop k lines);
    begins = split_off k lines (rm_lines rms) is ∙ ap (λ n. name_lines n ++ rm_lines rms ++ texts (drop k lines)) (sym none);
  }

-- ** the line that a fault lies in

-- what a line is, at its place
here : (P : List ℕ → Type 0) (lines : List (Bor (List ℕ))) (at : ℕ) (d : Bor (List ℕ)) → at < length lines → P (get_or lines at d).now
    → IsSomeAnd (slice_get (texts lines) at) P
here P [] at d short p = absurd (omega arith)
here P (line ∷ lines) zero d short p = p
here P (line ∷ lines) (suc at) d short p = here P lines at d (omega arith) p

begins : (r : Bool) (line : List ℕ) → MatchBool r (HasPrefixMatch (FindsTextPrefix (codes "rm ")) line) (FindsTextPrefix (codes "rm ") line None)
    → r ≡ true → IsWrongLine Faults.Rm line
begins true line (k, finds, more) is = (drop k line, finds.1)
begins false line finds is = absurd (true≢false (sym is))

pub rm_fault : (lines : List (Bor (List ℕ))) (at first : ℕ) (d : Bor (List ℕ)) (r : Bool) → at < length lines
    → MatchBool r (HasPrefixMatch (FindsTextPrefix (codes "rm ")) (get_or lines at d).now) (FindsTextPrefix (codes "rm ") (get_or lines at d).now None)
    → r ≡ true → IsFaultBehind first (texts lines) (Line (at + first) Faults.Rm)
rm_fault lines at first d r short cases is =
    let same : at ≡ (at + first) - first = omega arith in
    let low : first ≤ at + first = omega arith in (
      low,
      subst (λ n. IsSomeAnd (slice_get (texts lines) n) (IsWrongLine Faults.Rm)) same
          (here (IsWrongLine Faults.Rm) lines at d short (begins r _ cases is)),
    )

-- ** names of which none comes twice

-- one more that is none of them
pub apart_more : (rms slice more : List (Bor (List ℕ))) (rm : Bor (List ℕ)) → AreApart rms → slice ≡ rms
    → AllWithin (λ (y : Bor (List ℕ)). bytes_eq y.now rm.now ≡ false) slice 0 (length slice) → more ≡ rms ++ rm ∷ [] → AreApart more
apart_more rms slice more rm apart same others is =
    let Others : List (Bor (List ℕ)) → Type 0 = λ s. AllWithin (λ (y : Bor (List ℕ)). bytes_eq y.now rm.now ≡ false) s 0 (length s) in
    let all = subst Others same others in
    subst AreApart (sym is)
    (all_pairs_push (λ a b. bytes_eq a.now b.now ≡ false) rms rm apart (λ k d short. all k d (let low : 0 ≤ k = omega arith in low) short))
