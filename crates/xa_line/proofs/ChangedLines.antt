-- One line changed, and the others stay.
use Rattle.std.proofs.Common.{◌≡◌, ◌≢◌, inl, inr, ℕ, Bool, true, false, [], refl, sym, ap, ◌∙◌, subst}
use Rattle.std.specs.Prelude.{◌&&◌, nat_eq}
use Rattle.std.proofs.lemmas.Bool.{ne_eqb}
use Rattle.std.proofs.lemmas.Bool.Decides.{eqb_tells}
use Rattle.std.proofs.lemmas.List.{append-nil}
use Rattle.xa_model.specs.Facts as facts
use Rattle.xa_model.specs.Trace.{Happening, Line, Trace, Trace.Then, line, line_eq}
use Rattle.xa_line.specs.Grid.{Grid, HasLine, IsWhole, line_at, with_line}
use Rattle.xa_line.specs.Histories.{LineStands}
use Rattle.xa_line.specs.Traffic.{Traffic, answered, answers_heard, calls_issued}
use Rattle.xa_line.proofs.GridLaws.{line_at-with_line_other_rm, line_at-with_line_other_thread, line_at-with_line_same}
use Rattle.xa_line.proofs.TrafficLaws.{line_goes_on}

-- a line that a happening leaves alone
pub line_stays : (tr : Trace) (e : Happening) (l : Line) (t : Traffic) → facts.breaks tr e l ≡ false → facts.new_calls tr e l ≡ []
    → facts.new_taken e l ≡ [] → facts.new_heard e l ≡ []
    → LineStands tr l t → LineStands (Then tr e) l t
line_stays tr e l t b i a h stands =
    line_goes_on tr e l t t [] [] [] stands b (sym (append-nil (calls_issued t))) (rw i refl) (sym (append-nil (answered t))) (rw a refl)
    (sym (append-nil (answers_heard t))) (rw h refl) stands.each_answered

pub lines_apart_rm : (t r u s : ℕ) → s ≢ r → line_eq (line t r) (line u s) ≡ false
lines_apart_rm t r u s apart = by_thread (nat_eq t u)
  where
    by_thread : (b : Bool) → (b && nat_eq r s) ≡ false
    by_thread true = ne_eqb r s (λ e. apart (sym e))
    by_thread false = refl

pub lines_apart_thread : (t r u s : ℕ) → u ≢ t → line_eq (line t r) (line u s) ≡ false
lines_apart_thread t r u s apart = ap (λ b. b && nat_eq r s) (ne_eqb t u (λ e. apart (sym e)))

-- one line changed, and the others stay
pub lines_with : (tr : Trace) (g : Grid) (t r : ℕ) (x : Traffic) → IsWhole g → HasLine g t r → LineStands tr (line t r) x
    → ((u s : ℕ) → HasLine g u s → line_eq (line t r) (line u s) ≡ false → LineStands tr (line u s) (line_at g u s))
    → (u s : ℕ) → HasLine g u s → LineStands tr (line u s) (line_at (with_line g t r x) u s)
lines_with tr g t r x whole has here others u s has_u =
    elim (eqb_tells s r) [
      | inr apart ↦ subst (LineStands tr (line u s)) (sym (line_at-with_line_other_rm g t r u s x has.1 has_u.1 apart.1))
          (others u s has_u (lines_apart_rm t r u s apart.1))
      | inl same_rm ↦ (elim (eqb_tells u t) [
        | inr apart ↦ subst (LineStands tr (line u s)) (sym (line_at-with_line_other_thread g t r u s x has.1 has_u.1 apart.1))
            (others u s has_u (lines_apart_thread t r u s apart.1))
        | inl same_thread ↦ subst (λ n. LineStands tr (line n s) (line_at (with_line g t r x) n s)) (sym same_thread.1)
            (subst (λ n. LineStands tr (line t n) (line_at (with_line g t r x) t n)) (sym same_rm.1)
            (subst (LineStands tr (line t r)) (sym (line_at-with_line_same g t r x whole has)) here))
      ])
    ]

-- one line changed into what it was
pub lines_same : (g : Grid) (t r : ℕ) (x : Traffic) → IsWhole g → HasLine g t r → x ≡ line_at g t r → (u s : ℕ) → HasLine g u s
    → line_at (with_line g t r x) u s ≡ line_at g u s
lines_same g t r x whole has same u s has_u =
    elim (eqb_tells s r) [
      | inr apart ↦ line_at-with_line_other_rm g t r u s x has.1 has_u.1 apart.1
      | inl same_rm ↦ (elim (eqb_tells u t) [
        | inr apart ↦ line_at-with_line_other_thread g t r u s x has.1 has_u.1 apart.1
        | inl same_thread ↦ subst (λ n. line_at (with_line g t r x) n s ≡ line_at g n s) (sym same_thread.1)
            (subst (λ n. line_at (with_line g t r x) t n ≡ line_at g t n) (sym same_rm.1) (line_at-with_line_same g t r x whole has ∙ same))
      ])
    ]
