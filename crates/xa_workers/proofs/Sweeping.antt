-- What a seat has seen once it has taken a step, as a rollback of one slot more.
use Rattle.std.proofs.Common.{◌≡◌, ◌≢◌, ℕ, ◌+◌, ◌<◌, [], ◌∷◌, below_more, sym, subst, arith, refl}
use Rattle.std.specs.List.{Contains}
use Rattle.std.proofs.lemmas.List.Elements.{Contains-append_left, Contains-append_right, Contains-push}
use Rattle.xa_workers.specs.Views.{Saw, SawTaken, entry, with_entry}
use Rattle.xa_workers.specs.Words.{after_rollback}
use Rattle.xa_workers.specs.declared.view.Entry.{Entry}
use Rattle.xa_workers.specs.declared.view.View.{View}
use Rattle.xa_workers.specs.declared.word.Word.{Word}
use Rattle.xa_workers.specs.declared.word.Word.TheVariants.{Open, Claimed, Committed, RolledBack}

never_open : (found : Word) → after_rollback found ≢ Open
never_open Open e = cc
never_open Claimed e = cc
never_open Committed e = cc
never_open RolledBack e = cc

itself : (e : Entry) → Contains (e ∷ []) e
itself e = (0, omega arith, refl)

pub swept_more : (job : ℕ) (old new : View) (found left : Word) → left ≡ after_rollback found → new ≡ with_entry old (entry job found left)
    → ((i : ℕ) → i < job → SawTaken old i) → (i : ℕ) → i < job + 1 → SawTaken new i
swept_more job old new found left says is before =
    let e = entry job found left in
    below_more _ _
    (λ i below.
    let had = before i below in (
      had.0,
      (
        had.1.0,
        subst (λ (v : View). Contains v.entries (entry i had.1.0 had.0)) (sym is)
            (Contains-append_left old.entries (e ∷ []) (entry i had.1.0 had.0) had.1.1),
      ),
      had.2,
    )) (
      left,
      (found, subst (λ (v : View). Contains v.entries e) (sym is) (Contains-append_right old.entries (e ∷ []) e (itself e))),
      subst (λ w. w ≢ Open) (sym says) (never_open found),
    )

-- it saw what its last step left
pub saw_last : (old new : View) (job : ℕ) (found left : Word) → new ≡ with_entry old (entry job found left) → Saw new job left
saw_last old new job found left is =
    (found, subst (λ (v : View). Contains v.entries (entry job found left)) (sym is) (Contains-push old.entries (entry job found left)))
