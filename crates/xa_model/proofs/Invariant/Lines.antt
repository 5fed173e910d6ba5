-- One happening more on a line.
use Rattle.std.proofs.Common.{◌≡◌, ℕ, ◌+◌, ◌≤◌, [], ◌++◌, length, length-append, Bool, true, false, refl, ap, arith, ◌⊎◌}
use Rattle.std.specs.Prelude.{if◌then◌else◌, Some, slice_get}
use mathlib.Core.Logic.{◌⊎◌.inl, ◌⊎◌.inr}
use Rattle.xa_model.specs.Trace.{Line, Call, Answer, Happening, Happening.Took, Trace, Trace.Then, line_eq}
use Rattle.xa_model.specs.Facts.{breaks, new_taken, new_calls, taken, issued}
use Rattle.xa_model.proofs.Invariant.{Waits}
use Rattle.xa_base.proofs.Lists.{get_append, get_if, get_none}
use Rattle.xa_model.proofs.Keys.{line_eq-true}

-- ** what is new on a line

-- a call that waits was waiting on the unbroken line, or is new
pub data NewWait (tr : Trace) (e : Happening) (l : Line) (c : Call) : Type 0 where
  Waited : breaks tr e l ≡ false → (w : Waits tr l c) → length (taken tr l ++ new_taken e l) ≤ w.place → NewWait tr e l c
  IsNew : (i : ℕ) → breaks tr e l ≡ false → slice_get (new_calls tr e l) i ≡ Some c → NewWait tr e l c

pub waits_back : (tr : Trace) (e : Happening) (l : Line) (c : Call) → Waits (Then tr e) l c → NewWait tr e l c
waits_back tr e l c w = by_break (breaks tr e l) refl w.place w.not_taken w.is
  where
    by_place : (p : ℕ) → breaks tr e l ≡ false → length (taken tr l ++ new_taken e l) ≤ p
        → (slice_get (issued tr l) p ≡ Some c) ⊎ ((i : ℕ) × (p ≡ length (issued tr l) + i) × (slice_get (new_calls tr e l) i ≡ Some c)) → NewWait tr e l c
    by_place p b n (inl h) = Waited b (record { place = p; not_taken = omega (arith, length-append (taken tr l) (new_taken e l)); is = h }) n
    by_place p b n (inr h) = IsNew h.0 b h.2

    by_break : (t : Bool) → breaks tr e l ≡ t → (p : ℕ) → length (if t then [] else taken tr l ++ new_taken e l) ≤ p
        → slice_get (if t then [] else issued tr l ++ new_calls tr e l) p ≡ Some c → NewWait tr e l c
    by_break true b p n i = absurd (get_none p c i)
    by_break false b p n i = by_place p b n (get_append (issued tr l) (new_calls tr e l) p c i)

-- an answer on a line was there before, or is the one just given
pub data NewTaken (tr : Trace) (e : Happening) (l : Line) (k : ℕ) (c : Call) (a : Answer) : Type 0 where
  Was : slice_get (taken tr l) k ≡ Some (c, a) → NewTaken tr e l k c a
  Now : e ≡ Took l c a → NewTaken tr e l k c a

pub taken_back : (tr : Trace) (e : Happening) (l : Line) (k : ℕ) (c : Call) (a : Answer)
    → slice_get (taken (Then tr e) l) k ≡ Some (c, a) → NewTaken tr e l k c a
taken_back tr e l k c a h = by_break (breaks tr e l) h
  where
    of_event : (e : Happening) (i : ℕ) → slice_get (new_taken e l) i ≡ Some (c, a) → e ≡ Took l c a
    of_event (Took m d b) i h =
        let g = get_if (line_eq m l) (d, b) i (c, a) h in let s = line_eq-true m l g.0 in
        let p = ap (λ (x : Call × Answer). x.0) g.2 in let q = ap (λ (x : Call × Answer). x.1) g.2 in λ j. Took (s j) (p j) (q j)
    of_event _ i h = absurd (get_none i (c, a) h)

    by_place : (slice_get (taken tr l) k ≡ Some (c, a)) ⊎ ((i : ℕ) × (k ≡ length (taken tr l) + i) × (slice_get (new_taken e l) i ≡ Some (c, a)))
        → NewTaken tr e l k c a
    by_place (inl h) = Was h
    by_place (inr h) = Now (of_event e h.0 h.2)

    by_break : (t : Bool) → slice_get (if t then [] else taken tr l ++ new_taken e l) k ≡ Some (c, a) → NewTaken tr e l k c a
    by_break true h = absurd (get_none k (c, a) h)
    by_break false h = by_place (get_append (taken tr l) (new_taken e l) k (c, a) h)
