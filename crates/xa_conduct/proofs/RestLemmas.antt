-- Which moves are first ones, what is decided, and that transactions are at rest between two lines.
use Rattle.std.proofs.Common.{◌≡◌, ◌∙◌, ◌==◌, ◌+◌, ◌&&◌, ◌||◌, ℕ, ◌<◌, ◌≤◌, Bool, true, false, not, List, [], ◌∷◌, ◌++◌, ap, arith, eq-eqb, get_or, inl, inr, length, ne_eqb, refl, subst, sym, take}
use Rattle.std.proofs.Math.ListN.{set}
use Rattle.std.proofs.lemmas.Bool.{and_from, and_parts, cases_Bool, cases_eq, cases_lt, eqb-true, false≢true, or_cases, or_left, or_parts, or_right, true≢false}
use Rattle.std.proofs.lemmas.List.{get_or-set_other, get_or-set_same, length-set, set-get_or}
use Rattle.std.proofs.lemmas.List.Folds.{list_any-append, list_any_at, list_any_more}
use Rattle.std.proofs.lemmas.Option.{slice_get-get_or, slice_get_past}
use Rattle.std.specs.List.{list_any}
use Rattle.std.specs.Prelude.{Option, Some, None, slice_get}
use Rattle.xa_base.specs.declared.branch.Gtrid.{Gtrid}
use Rattle.xa_log.specs.Contract.{Moment}
use Rattle.xa_conduct.proofs.BackingLemmas.{same_itself}
use Rattle.xa_conduct.proofs.MoveLemmas.{once_push}
use Rattle.xa_conduct.specs.AtRest.{AreAllDue, DecidesAll, IsAtRest, IsFirstMove, KeepAtRest, MovesTheirs, is_due_in, is_moved_in, is_named_in}
use Rattle.xa_conduct.specs.BetweenLines.{KeepsAtRest}
use Rattle.xa_conduct.specs.Decided.{is_same}
use Rattle.xa_conduct.specs.Moves.{AreMovedOnce, is_reply_to, is_told_by}
use Rattle.xa_conduct.specs.NotStuck.{is_at_rest, is_ready, is_so_of}
use Rattle.xa_conduct.specs.Turns.{AllPass, Passes, StepsOn}
use Rattle.xa_conduct.specs.declared.conductor.Conductor.{Conductor}
use Rattle.xa_conduct.specs.declared.notes.Reply.{Reply}
use Rattle.xa_conduct.specs.declared.notes.Reply.TheVariants as replies
use Rattle.xa_conduct.specs.declared.transaction.Standing.{Standing}
use Rattle.xa_conduct.specs.declared.transaction.Transaction.{Transaction}

-- ** the transaction of a thread

so_get : (p : Transaction → Bool) (ts : List Transaction) (i : ℕ) (d : Transaction) → i < length ts → is_so_of p (slice_get ts i) ≡ p (get_or ts i d)
so_get p ts i d within = ap (is_so_of p) (slice_get-get_or ts i d within)

so_at : (p : Transaction → Bool) (ts : List Transaction) (i : ℕ) (from : Transaction) → i < length ts → from ≡ get_or ts i from
    → is_so_of p (slice_get ts i) ≡ p from
so_at p ts i from within at = so_get p ts i from within ∙ ap p (sym at)

so_past : (p : Transaction → Bool) (ts : List Transaction) (i : ℕ) → length ts ≤ i → is_so_of p (slice_get ts i) ≡ false
so_past p ts i past = ap (is_so_of p) (slice_get_past ts i past)

-- of the one that went on
so_set : (p : Transaction → Bool) (ts : List Transaction) (i : ℕ) (to : Transaction) → i < length ts → is_so_of p (slice_get (set ts i to) i) ≡ p to
so_set p ts i to within =
    so_get p (set ts i to) i to (subst (λ (n : ℕ). i < n) (sym (length-set ts i to)) within) ∙ ap p (get_or-set_same ts i to to within)

-- and of another one
so_other : (p : Transaction → Bool) (ts : List Transaction) (i j : ℕ) (to : Transaction) → (j ≡ i → ⊥)
    → is_so_of p (slice_get (set ts i to) j) ≡ is_so_of p (slice_get ts j)
so_other p ts i j to apart =
    elim (cases_lt j (length ts)) [
      | inl within ↦
          so_get p (set ts i to) j to (subst (λ (n : ℕ). j < n) (sym (length-set ts i to)) within) ∙ ap p (get_or-set_other ts i j to to apart)
          ∙ sym (so_get p ts j to within)
      | inr past ↦ so_past p (set ts i to) j (subst (λ (n : ℕ). n ≤ j) (sym (length-set ts i to)) past) ∙ sym (so_past p ts j past)
    ]

so_weaker : (p q : Transaction → Bool) → ((t : Transaction) → p t ≡ true → q t ≡ true) → (o : Option Transaction) → is_so_of p o ≡ true
    → is_so_of q o ≡ true
so_weaker p q all None is = absurd (false≢true is)
so_weaker p q all (Some t) is = all t is

pub not_true : (b : Bool) → not b ≡ true → b ≡ false
not_true true is = absurd (false≢true is)
not_true false is = refl

-- ** moves

or_one : (x y : Bool) → x ≡ true → true ≡ ((x || false) || y)
or_one true y is = refl
or_one false y is = absurd (false≢true is)

or_same : (x y : Bool) → x ≡ false → y ≡ ((x || false) || y)
or_same true y is = absurd (true≢false is)
or_same false y is = refl

moved_set : (ts : List Transaction) (i : ℕ) (to : Transaction) → i < length ts → to.has_moved ≡ true → (j : ℕ)
    → is_moved_in (set ts i to) j ≡ (((j == i) || false) || is_moved_in ts j)
moved_set ts i to within is j =
    elim (cases_eq j i) [
      | inl same ↦
          ap (is_moved_in (set ts i to)) same ∙ so_set (λ (t : Transaction). t.has_moved) ts i to within ∙ is
          ∙ or_one (j == i) (is_moved_in ts j) (eq-eqb j i same)
      | inr apart ↦
          so_other (λ (t : Transaction). t.has_moved) ts i j to apart ∙ or_same (j == i) (is_moved_in ts j) (ne_eqb j i apart)
    ]

-- by one that was taken
pub moves_one : (ts : List Transaction) (i : ℕ) (to : Transaction) → i < length ts → to.has_moved ≡ true
    → MovesTheirs (replies.Thread i ∷ []) ts (set ts i to)
moves_one ts i to within is = record {
  moved = moved_set ts i to within is;
  due =
      λ j none before.
      elim (cases_eq j i) [
        | inl same ↦ absurd (true≢false (sym (or_left (j == i) false (eq-eqb j i same)) ∙ none))
        | inr apart ↦ so_other (λ (t : Transaction). is_ready t.standing) ts i j to apart ∙ before
      ];
}

-- by one that began a transaction
pub moves_begun : (ts before : List Transaction) (i : ℕ) (g : Gtrid) (to : Transaction) → before ≡ ts → i < length ts → to.has_moved ≡ true
    → is_ready to.standing ≡ false → MovesTheirs (replies.Started i g ∷ []) ts (set before i to)
moves_begun ts before i g to is within moved stands =
    subst (λ (us : List Transaction). MovesTheirs (replies.Started i g ∷ []) ts (set us i to)) (sym is) (record {
      moved = moved_set ts i to within moved;
      due =
          λ j none before.
          elim (cases_eq j i) [
            | inl same ↦
                ap (is_due_in (set ts i to)) same ∙ so_set (λ (t : Transaction). is_ready t.standing) ts i to within ∙ stands
            | inr apart ↦ so_other (λ (t : Transaction). is_ready t.standing) ts i j to apart ∙ before
          ];
    })

-- by none
pub moves_nothing : (ts : List Transaction) → MovesTheirs [] ts ts
moves_nothing ts = record { moved = λ i. refl; due = λ i none before. before }

pub moves_none : (ts : List Transaction) (reply : Reply) → ((i : ℕ) → is_reply_to i reply ≡ false) → MovesTheirs (reply ∷ []) ts ts
moves_none ts reply none = record {
  moved = λ i. or_same (is_reply_to i reply) (is_moved_in ts i) (none i);
  due = λ i told before. before;
}

or_turned : (x y z : Bool) → (y || (x || z)) ≡ ((x || y) || z)
or_turned true true z = refl
or_turned true false z = refl
or_turned false true z = refl
or_turned false false z = refl

-- one after another
pub moves_both : (a b : List Reply) (ts us vs : List Transaction) → MovesTheirs a ts us → MovesTheirs b us vs → MovesTheirs (a ++ b) ts vs
moves_both a b ts us vs one other = record {
  moved =
      λ i.
      other.moved i ∙ ap (λ (x : Bool). list_any (is_reply_to i) b || x) (one.moved i)
      ∙ or_turned (list_any (is_reply_to i) a) (list_any (is_reply_to i) b) (is_moved_in ts i)
      ∙ ap (λ (x : Bool). x || is_moved_in ts i) (sym (list_any-append (is_reply_to i) a b));
  due =
      λ i none before.
      let parts = or_parts (list_any (is_told_by i) a) (list_any (is_told_by i) b) (sym (list_any-append (is_told_by i) a b) ∙ none) in
      other.due i parts.1 (one.due i parts.0 before);
}

-- a thread that hasn't moved
pub first_one : (ts : List Transaction) (i : ℕ) (from : Transaction) → i < length ts → from ≡ get_or ts i from → from.has_moved ≡ false → (j : ℕ)
    → (j == i) ≡ true → is_moved_in ts j ≡ false
first_one ts i from within at none j is =
    ap (is_moved_in ts) (eqb-true j i is) ∙ so_at (λ (t : Transaction). t.has_moved) ts i from within at ∙ none

pub first_none : (ts : List Transaction) (reply : Reply) → ((i : ℕ) → is_reply_to i reply ≡ false) → IsFirstMove ts reply
first_none ts reply none i is = absurd (true≢false (sym is ∙ none i))

-- so it moves once
pub once_first : (told : List Reply) (reply : Reply) (ts us : List Transaction) → AreMovedOnce told → MovesTheirs told ts us → IsFirstMove us reply
    → AreMovedOnce (told ++ reply ∷ [])
once_first told reply ts us once moves first =
    once_push told reply once
    (λ t is. (or_parts (list_any (is_reply_to t) told) (is_moved_in ts t) (sym (moves.moved t) ∙ first t is)).0)

-- ** what is due

-- one more is looked at
pub all_due_more : (gtrids : List Gtrid) (ts : List Transaction) (told : List Reply) (k : ℕ) (d : Reply) → k < length told
    → AreAllDue gtrids ts (take k told)
    → ((i : ℕ) → is_told_by i (get_or told k d) ≡ true → is_due_in ts i ≡ true → is_named_in gtrids ts i ≡ true)
    → AreAllDue gtrids ts (take (k + 1) told)
all_due_more gtrids ts told k d within all one i among due =
    elim (or_cases (list_any (is_told_by i) (take k told)) (is_told_by i (get_or told k d)) (sym (list_any_more (is_told_by i) told k d within) ∙ among)) [
      | inl before ↦ all i before due
      | inr here ↦ one i here due
    ]

pub all_due_pushed : (gtrids now : List Gtrid) (g : Gtrid) (ts : List Transaction) (told : List Reply) → now ≡ gtrids ++ g ∷ []
    → AreAllDue gtrids ts told → AreAllDue now ts told
all_due_pushed gtrids now g ts told is all i among due =
    so_weaker (λ (t : Transaction). list_any (is_same t.gtrid) gtrids) (λ (t : Transaction). list_any (is_same t.gtrid) now)
    (λ t named. ap (list_any (is_same t.gtrid)) is ∙ list_any-append (is_same t.gtrid) gtrids (g ∷ []) ∙ or_left (list_any (is_same t.gtrid) gtrids) _ named)
    (slice_get ts i) (all i among due)

-- it is named itself
pub named_pushed : (gtrids now : List Gtrid) (ts : List Transaction) (i : ℕ) (from : Transaction) → now ≡ gtrids ++ from.gtrid ∷ [] → i < length ts
    → from ≡ get_or ts i from → (j : ℕ) → (j == i) ≡ true → is_named_in now ts j ≡ true
named_pushed gtrids now ts i from is within at j here =
    let g = from.gtrid in
    ap (is_named_in now ts) (eqb-true j i here) ∙ so_at (λ (t : Transaction). list_any (is_same t.gtrid) now) ts i from within at
    ∙ ap (list_any (is_same g)) is
    ∙ list_any-append (is_same g) gtrids (g ∷ [])
    ∙ or_right (list_any (is_same g) gtrids) (list_any (is_same g) (g ∷ [])) (or_left (is_same g g) false (same_itself g))

-- of one that isn't due
pub due_not : (ts : List Transaction) (i : ℕ) (from : Transaction) → i < length ts → from ≡ get_or ts i from → is_ready from.standing ≡ false
    → is_due_in ts i ≡ false
due_not ts i from within at stands = so_at (λ (t : Transaction). is_ready t.standing) ts i from within at ∙ stands

pub due_past : (ts : List Transaction) (i : ℕ) → length ts ≤ i → is_due_in ts i ≡ false
due_past ts i past = so_past (λ (t : Transaction). is_ready t.standing) ts i past

-- nor is one that isn't among those that are
pub due_unnamed : (gtrids : List Gtrid) (ts : List Transaction) (told : List Reply) (i : ℕ) (from : Transaction) → AreAllDue gtrids ts told
    → list_any (is_told_by i) told ≡ true → i < length ts → from ≡ get_or ts i from → list_any (is_same from.gtrid) gtrids ≡ false
    → is_due_in ts i ≡ false
due_unnamed gtrids ts told i from all among within at unnamed =
    elim (cases_Bool (is_due_in ts i)) [
      | inl due ↦
          absurd (true≢false (sym (all i among due) ∙ so_at (λ (t : Transaction). list_any (is_same t.gtrid) gtrids) ts i from within at ∙ unnamed))
      | inr none ↦ none
    ]

due_other : (ts : List Transaction) (i : ℕ) (j : ℕ) → is_due_in ts i ≡ false → (j == i) ≡ true → is_due_in ts j ≡ false
due_other ts i j none is = ap (is_due_in ts) (eqb-true j i is) ∙ none

pub due_none : (gtrids : List Gtrid) (ts : List Transaction) (i : ℕ) → is_due_in ts i ≡ false → (j : ℕ) → (j == i) ≡ true
    → is_due_in ts j ≡ true → is_named_in gtrids ts j ≡ true
due_none gtrids ts i none j is due = absurd (true≢false (sym due ∙ due_other ts i j none is))

told_none : (reply : Reply) → ((t : ℕ) → reply ≡ replies.Thread t → ⊥) → (i : ℕ) → is_told_by i reply ≡ false
told_none (replies.Thread t) not i = absurd (not t refl)
told_none (replies.Started t g) not i = refl
told_none replies.NoMove not i = refl
told_none replies.NotNow not i = refl

-- the next one tells of no transaction; or of one that isn't due; or of one that is added
pub all_due_skip : (gtrids : List Gtrid) (ts : List Transaction) (told : List Reply) (k : ℕ) (d : Reply) → k < length told
    → ((t : ℕ) → get_or told k d ≡ replies.Thread t → ⊥) → AreAllDue gtrids ts (take k told) → AreAllDue gtrids ts (take (k + 1) told)
all_due_skip gtrids ts told k d within not before =
    all_due_more gtrids ts told k d within before (λ i here due. absurd (true≢false (sym here ∙ told_none (get_or told k d) not i)))

pub all_due_idle : (gtrids : List Gtrid) (ts : List Transaction) (told : List Reply) (k : ℕ) (d : Reply) (i : ℕ) → k < length told
    → get_or told k d ≡ replies.Thread i → is_due_in ts i ≡ false → AreAllDue gtrids ts (take k told) → AreAllDue gtrids ts (take (k + 1) told)
all_due_idle gtrids ts told k d i within is none before =
    all_due_more gtrids ts told k d within before
    (λ j here due. due_none gtrids ts i none j (sym (ap (is_told_by j) is) ∙ here) due)

pub all_due_added : (gtrids now : List Gtrid) (ts : List Transaction) (told : List Reply) (k : ℕ) (d : Reply) (i : ℕ) (from : Transaction)
    → k < length told → get_or told k d ≡ replies.Thread i → now ≡ gtrids ++ from.gtrid ∷ [] → i < length ts → from ≡ get_or ts i from
    → AreAllDue gtrids ts (take k told) → AreAllDue now ts (take (k + 1) told)
all_due_added gtrids now ts told k d i from within is pushed inside at before =
    all_due_more now ts told k d within (all_due_pushed gtrids now from.gtrid ts (take k told) pushed before)
    (λ j here due. named_pushed gtrids now ts i from pushed inside at j (sym (ap (is_told_by j) is) ∙ here))

-- told by one of these
pub told_at : (told : List Reply) (k i : ℕ) (d : Reply) → k < length told → get_or told k d ≡ replies.Thread i → list_any (is_told_by i) told ≡ true
told_at told k i d within is = list_any_at (is_told_by i) told k d within (ap (is_told_by i) is ∙ eq-eqb i i refl)

-- ** decisions

pub decides_nothing : (ts : List Transaction) → DecidesAll [] ts ts
decides_nothing ts = record { moved = λ i. refl; due = λ i told. absurd (false≢true told); others = λ i before. before }

-- one is written back as it was
pub set_itself : (ts : List Transaction) (i : ℕ) (from : Transaction) → from ≡ get_or ts i from → set ts i from ≡ ts
set_itself ts i from at = ap (set ts i) at ∙ set-get_or ts i from

-- the transaction is decided
pub decides_set : (ts : List Transaction) (i : ℕ) (from to : Transaction) → i < length ts → from ≡ get_or ts i from → to.has_moved ≡ from.has_moved
    → is_ready to.standing ≡ false → DecidesAll (replies.Thread i ∷ []) ts (set ts i to)
decides_set ts i from to within at same stands = record {
  moved =
      λ j.
      elim (cases_eq j i) [
        | inl here ↦
            ap (is_moved_in (set ts i to)) here ∙ so_set (λ (t : Transaction). t.has_moved) ts i to within ∙ same
            ∙ sym (so_at (λ (t : Transaction). t.has_moved) ts i from within at) ∙ sym (ap (is_moved_in ts) here)
        | inr apart ↦ so_other (λ (t : Transaction). t.has_moved) ts i j to apart
      ];
  due = λ j told. due_other (set ts i to) i j decided (one_told j told);
  others =
      λ j before.
      elim (cases_eq j i) [
        | inl here ↦ ap (is_due_in (set ts i to)) here ∙ decided
        | inr apart ↦ so_other (λ (t : Transaction). is_ready t.standing) ts i j to apart ∙ before
      ];
}
  where
    decided : is_due_in (set ts i to) i ≡ false
    decided = so_set (λ (t : Transaction). is_ready t.standing) ts i to within ∙ stands

    one_told : (j : ℕ) → ((j == i) || false) ≡ true → (j == i) ≡ true
    one_told j told = elim (or_cases (j == i) false told) [ inl is ↦ is | inr is ↦ absurd (false≢true is) ]

-- it isn't due
pub decides_same : (ts : List Transaction) (i : ℕ) → is_due_in ts i ≡ false → DecidesAll (replies.Thread i ∷ []) ts ts
decides_same ts i none = record {
  moved = λ j. refl;
  due = λ j told. due_other ts i j none (elim (or_cases (j == i) false told) [ inl is ↦ is | inr is ↦ absurd (false≢true is) ]);
  others = λ j before. before;
}

-- none is told
pub decides_none : (ts : List Transaction) (reply : Reply) → ((i : ℕ) → is_told_by i reply ≡ false) → DecidesAll (reply ∷ []) ts ts
decides_none ts reply none = record {
  moved = λ j. refl;
  due =
      λ j told.
      elim (or_cases (is_told_by j reply) false told) [ inl is ↦ absurd (true≢false (sym is ∙ none j)) | inr is ↦ absurd (false≢true is) ];
  others = λ j before. before;
}

-- one more is looked at
pub decides_more : (told : List Reply) (k : ℕ) (d : Reply) (ts us vs : List Transaction) → k < length told → DecidesAll (take k told) ts us
    → DecidesAll (get_or told k d ∷ []) us vs → DecidesAll (take (k + 1) told) ts vs
decides_more told k d ts us vs within before one = record {
  moved = λ i. one.moved i ∙ before.moved i;
  due =
      λ i among.
      elim (or_cases (list_any (is_told_by i) (take k told)) (is_told_by i (get_or told k d)) (sym (list_any_more (is_told_by i) told k d within) ∙ among)) [
        | inl past ↦ one.others i (before.due i past)
        | inr here ↦ one.due i (or_left (is_told_by i (get_or told k d)) false here)
      ];
  others = λ i none. one.others i (before.others i none);
}

-- which is of a transaction
pub decides_thread : (told : List Reply) (k : ℕ) (d : Reply) (i : ℕ) (ts us vs : List Transaction) → k < length told → get_or told k d ≡ replies.Thread i
    → DecidesAll (take k told) ts us → DecidesAll (replies.Thread i ∷ []) us vs → DecidesAll (take (k + 1) told) ts vs
decides_thread told k d i ts us vs within is before one =
    decides_more told k d ts us vs within before (subst (λ (r : Reply). DecidesAll (r ∷ []) us vs) (sym is) one)

-- or of none
pub decides_skip : (told : List Reply) (k : ℕ) (d : Reply) (ts us : List Transaction) → k < length told
    → ((t : ℕ) → get_or told k d ≡ replies.Thread t → ⊥) → DecidesAll (take k told) ts us → DecidesAll (take (k + 1) told) ts us
decides_skip told k d ts us within not before =
    decides_more told k d ts us us within before (decides_none us (get_or told k d) (told_none (get_or told k d) not))

pub all_due_set : (gtrids : List Gtrid) (ts : List Transaction) (told : List Reply) (i : ℕ) (to : Transaction) → i < length ts
    → is_ready to.standing ≡ false → AreAllDue gtrids ts told → AreAllDue gtrids (set ts i to) told
all_due_set gtrids ts told i to within stands all j among due =
    elim (cases_eq j i) [
      | inl here ↦
          absurd (true≢false (sym due ∙ ap (is_due_in (set ts i to)) here ∙ so_set (λ (t : Transaction). is_ready t.standing) ts i to within ∙ stands))
      | inr apart ↦
          so_other (λ (t : Transaction). list_any (is_same t.gtrid) gtrids) ts i j to apart
          ∙ all j among (sym (so_other (λ (t : Transaction). is_ready t.standing) ts i j to apart) ∙ due)
    ]

-- ** replies

and_out : (x y : Bool) → y ≡ true → false ≡ (x && not y)
and_out true true is = refl
and_out false true is = refl
and_out x false is = absurd (false≢true is)

and_in : (x y : Bool) → y ≡ false → x ≡ (x && not y)
and_in true false is = refl
and_in false false is = refl
and_in x true is = absurd (true≢false is)

and_nots : (x y z : Bool) → ((x && not y) && not z) ≡ (x && not (y || z))
and_nots false y z = refl
and_nots true true z = refl
and_nots true false z = refl

-- the transaction is told, and waits for its next move
pub unmoved_set : (ts : List Transaction) (i : ℕ) (to : Transaction) → i < length ts → to.has_moved ≡ false → (j : ℕ)
    → is_moved_in (set ts i to) j ≡ (is_moved_in ts j && not (j == i))
unmoved_set ts i to within none j =
    elim (cases_eq j i) [
      | inl here ↦
          ap (is_moved_in (set ts i to)) here ∙ so_set (λ (t : Transaction). t.has_moved) ts i to within ∙ none
          ∙ and_out (is_moved_in ts j) (j == i) (eq-eqb j i here)
      | inr apart ↦
          so_other (λ (t : Transaction). t.has_moved) ts i j to apart ∙ and_in (is_moved_in ts j) (j == i) (ne_eqb j i apart)
    ]

pub unmoved_past : (ts : List Transaction) (i : ℕ) → length ts ≤ i → (j : ℕ) → is_moved_in ts j ≡ (is_moved_in ts j && not (j == i))
unmoved_past ts i past j =
    elim (cases_eq j i) [
      | inl here ↦
          ap (is_moved_in ts) here ∙ so_past (λ (t : Transaction). t.has_moved) ts i past ∙ and_out (is_moved_in ts j) (j == i) (eq-eqb j i here)
      | inr apart ↦ and_in (is_moved_in ts j) (j == i) (ne_eqb j i apart)
    ]

pub unmoved_none : (ts : List Transaction) (j : ℕ) → is_moved_in ts j ≡ (is_moved_in ts j && not false)
unmoved_none ts j = and_in (is_moved_in ts j) false refl

pub unmoved_more : (told : List Reply) (k : ℕ) (d : Reply) (ts us vs : List Transaction) → k < length told
    → ((i : ℕ) → is_moved_in us i ≡ (is_moved_in ts i && not (list_any (is_reply_to i) (take k told))))
    → ((i : ℕ) → is_moved_in vs i ≡ (is_moved_in us i && not (is_reply_to i (get_or told k d)))) → (i : ℕ)
    → is_moved_in vs i ≡ (is_moved_in ts i && not (list_any (is_reply_to i) (take (k + 1) told)))
unmoved_more told k d ts us vs within before one i =
    one i ∙ ap (λ (x : Bool). x && not (is_reply_to i (get_or told k d))) (before i)
    ∙ and_nots (is_moved_in ts i) (list_any (is_reply_to i) (take k told)) (is_reply_to i (get_or told k d))
    ∙ ap (λ (x : Bool). is_moved_in ts i && not x) (sym (list_any_more (is_reply_to i) told k d within))

-- ** a line

told_over : (x : Bool) → ((x || false) && not x) ≡ false
told_over true = refl
told_over false = refl

passes_ready : (t u : Transaction) → Passes t u → is_ready t.standing ≡ false → is_ready u.standing ≡ false
passes_ready t u passes none =
    elim passes [
      | inl same ↦ ap is_ready same.standing ∙ none
      | inr ends ↦ ap is_ready ends.1.0
    ]

pub line_rests : (told : List Reply) (ts us vs ws : List Transaction) → MovesTheirs told ts us → DecidesAll told us vs
    → ((i : ℕ) → is_moved_in ws i ≡ (is_moved_in vs i && not (list_any (is_reply_to i) told))) → AllPass vs ws → length vs ≡ length ts
    → KeepAtRest ts ws
line_rests told ts us vs ws moves decides unmoved passes count i d within rest =
    let was = get_or ts i d in
    let parts = and_parts (not was.has_moved) (not (is_ready was.standing)) rest in
    let none : is_moved_in ts i ≡ false = so_get (λ (t : Transaction). t.has_moved) ts i d within ∙ not_true was.has_moved parts.0 in
    let undue : is_due_in ts i ≡ false = so_get (λ (t : Transaction). is_ready t.standing) ts i d within ∙ not_true (is_ready was.standing) parts.1 in
    let inside : i < length vs = subst (λ (n : ℕ). i < n) (sym count) within in
    let behind : i < length ws = subst (λ (n : ℕ). i < n) (sym passes.count) inside in
    let unmoved_now : is_moved_in ws i ≡ false =
    unmoved i
    ∙ ap (λ (x : Bool). x && not (list_any (is_reply_to i) told)) (decides.moved i ∙ moves.moved i ∙ ap (λ (x : Bool). list_any (is_reply_to i) told || x) none)
    ∙ told_over (list_any (is_reply_to i) told) in
    let undue_then : is_due_in vs i ≡ false =
    elim (cases_Bool (list_any (is_told_by i) told)) [
      | inl is ↦ decides.due i is
      | inr not_told ↦ decides.others i (moves.due i not_told undue)
    ] in
    let undue_now : is_ready (get_or ws i d).standing ≡ false =
    passes_ready (get_or vs i d) (get_or ws i d) (passes.each i d inside)
    (sym (so_get (λ (t : Transaction). is_ready t.standing) vs i d inside) ∙ undue_then) in
    and_from _ _ (ap not (sym (so_get (λ (t : Transaction). t.has_moved) ws i d behind) ∙ unmoved_now)) (ap not undue_now)

-- ** a conductor

module _ {L : Type 0} (moment : L → Moment) where
  -- a line that moves no transaction
  pub kept_rests : (old new : Conductor L) → old.notes.is_stopped ≡ false → new.notes.transactions ≡ old.notes.transactions → KeepsAtRest moment old new
  kept_rests old new going same = λ rest stopped.
      subst (λ (ts : List Transaction). (k : ℕ) (d : Transaction) → k < length ts → IsAtRest (get_or ts k d)) (sym (ap (λ v. v.items) same)) (rest going)

  pub stopped_rests : (old new : Conductor L) → new.notes.is_stopped ≡ true → KeepsAtRest moment old new
  stopped_rests old new is = λ rest going. absurd (true≢false (sym is ∙ going))

  pub steps_rest : (old new : Conductor L) (text : List ℕ) → old.notes.is_stopped ≡ false → StepsOn moment old new text → KeepsAtRest moment old new
  steps_rest old new text going steps =
      elim steps [
        | inl turns ↦
            λ rest now k d within.
            let inside : k < length old.notes.transactions.items =
            subst (λ (n : ℕ). k < n) (turns.passes.count ∙ turns.steps.count) within in
            turns.rests k d inside (rest going k d inside)
        | inr none ↦
            elim none [
              | inl same ↦ kept_rests old new going same
              | inr is ↦ stopped_rests old new is
            ]
      ]
