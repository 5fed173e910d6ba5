-- The lines of a text.
use Rattle.std.proofs.Common.{◌≡◌, ◌≢◌, ◌∙◌, ◌==◌, ℕ, Bool, true, false, cond, List, [], ◌∷◌, ◌++◌, refl, sym, ap, append_assoc, ◌||◌}
use Rattle.std.proofs.lemmas.Bool.{true≢false}
use Rattle.std.specs.List.{list_any}
use Rattle.xa_server.specs.Lines.{IsPlain, IsWholeLines, text_lines, with_first}

pub cons_is_not_nil : (b : ℕ) (bs : List ℕ) → b ∷ bs ≡ [] → ⊥
cons_is_not_nil b bs h = cc

-- a line that a line feed ended, and what follows
pub first_line : (line rest : List ℕ) → IsPlain line → text_lines (line ++ 10 ∷ rest) ≡ line ∷ text_lines rest
first_line [] rest plain = refl
first_line (b ∷ bs) rest plain = by_test (b == 10) plain (first_line bs rest)
  where
    by_test : (c : Bool) → (c || list_any (λ b. b == 10) bs) ≡ false → (IsPlain bs → text_lines (bs ++ 10 ∷ rest) ≡ bs ∷ text_lines rest)
        → cond c ([] ∷ text_lines (bs ++ 10 ∷ rest)) (with_first b (text_lines (bs ++ 10 ∷ rest))) ≡ (b ∷ bs) ∷ text_lines rest
    by_test true h on = absurd (true≢false h)
    by_test false h on = ap (with_first b) (on h)

-- a last line, which none ended
pub last_line : (line : List ℕ) → IsPlain line → line ≢ [] → text_lines line ≡ line ∷ []
last_line [] plain some = absurd (some refl)
last_line (b ∷ []) plain some = by_test (b == 10) plain
  where
    by_test : (c : Bool) → (c || false) ≡ false → cond c ([] ∷ []) ((b ∷ []) ∷ []) ≡ (b ∷ []) ∷ []
    by_test true h = absurd (true≢false h)
    by_test false h = refl
last_line (b ∷ x ∷ xs) plain some = by_test (b == 10) plain (λ h. ap (with_first b) (last_line (x ∷ xs) h (cons_is_not_nil x xs)))
  where
    by_test : (c : Bool) → (c || list_any (λ b. b == 10) (x ∷ xs)) ≡ false
        → (IsPlain (x ∷ xs) → with_first b (text_lines (x ∷ xs)) ≡ (b ∷ x ∷ xs) ∷ [])
        → cond c ([] ∷ text_lines (x ∷ xs)) (with_first b (text_lines (x ∷ xs))) ≡ (b ∷ x ∷ xs) ∷ []
    by_test true h on = absurd (true≢false h)
    by_test false h on = on h

pub whole_none : IsWholeLines []
whole_none more = refl

pub whole_line : (line : List ℕ) → IsPlain line → IsWholeLines (line ++ 10 ∷ [])
whole_line line plain more = ap text_lines (append_assoc line (10 ∷ []) more) ∙ first_line line more plain
    ∙ ap (λ ls. ls ++ text_lines more) (sym (first_line line [] plain))

pub whole_both : (read more : List ℕ) → IsWholeLines read → IsWholeLines more → IsWholeLines (read ++ more)
whole_both read more first second rest =
    ap text_lines (append_assoc read more rest) ∙ first (more ++ rest) ∙ ap (λ ls. text_lines read ++ ls) (second rest)
    ∙ sym (append_assoc (text_lines read) (text_lines more) (text_lines rest)) ∙ ap (λ ls. ls ++ text_lines rest) (sym (first more))
