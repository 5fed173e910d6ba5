-- A log that is put in.
use Rattle.std.proofs.Common.{◌≡◌, Bool, true, false, refl, sym, ap, subst, ◌∙◌}
use Rattle.std.specs.Prelude.{Option, IsSomeAnd, OnOk, Result, Ok, Err, is_ok}
use Rattle.std.proofs.lemmas.Bool.{true≢false}
use Rattle.xa_log.specs.Content.{Content}
use Rattle.xa_log.specs.Contract.{Moment}
use Rattle.xa_model.specs.Trace.{Origin}
use Rattle.xa_system.proofs.Log.Changes.{left_of_some}
use Rattle.xa_system.specs.LogInHistory.{IsDurable, StartsOver}
use Rattle.xa_system.specs.Parts.{Sees}
use Rattle.xa_system.specs.SystemView.{KeepsLog, observes_parts}
use Rattle.xa_system.specs.declared.system.System.TheInside.{Inside}
use Rattle.xa_tm.specs.Book.{Book}
use Rattle.xa_tm.specs.Calls.{book_in, log_in}
use Rattle.xa_tm.specs.BookAndLog.{IsTied, MayHold, TiedBy}
use Rattle.xa_tm.specs.declared.slot.Slot.{Slot}

pub on_ok : {A E : Type 0} (r : Result A E) (P : Type 0) → is_ok r ≡ true → OnOk r P → P
on_ok (Ok x) P ok h = h
on_ok (Err e) P ok h = absurd (cc)

-- what would have been refused wasn't so
pub not_refused : {A E : Type 0} (r : Result A E) (e : E) (u : Bool) → is_ok r ≡ true → (u ≡ true → r ≡ Err e) → u ≡ false
not_refused r e true ok refuses = absurd (true≢false (sym ok ∙ ap is_ok (refuses refl)))
not_refused r e false ok refuses = refl

-- a log with the rows of a book whose manager is down is tied to it
tied_so : (k : Book) (held : Option Content) → k.up ≡ false → IsSomeAnd held (MayHold k) → IsTied false k held
tied_so k held down some = subst (λ u. TiedBy u false k held) (sym down) (λ c is. record {
  holds = subst (λ o. IsSomeAnd o (MayHold k)) is some;
  incarnation = λ near. absurd (true≢false (sym near));
})

module _ {R L : Type 0} (see : Sees R (Slot L)) (moment : L → Moment) where
  pub keeps_given : (origin : Origin) (a b : Inside R L) (log : L) → IsDurable see.moment → KeepsLog (observes_parts see moment) origin a
      → b.first ≡ a.first → b.parts.began ≡ a.parts.began → b.handed.value ≡ log → (book_in b.parts.manager).up ≡ false
      → ((moment log).is_in_order → (see.moment (log_in b.parts.manager)).is_in_order)
      → ((see.moment (log_in b.parts.manager)).is_honest → (moment log).is_honest)
      → ((moment log).is_in_order → (see.moment (log_in b.parts.manager)).is_honest
      → IsSomeAnd (see.moment (log_in b.parts.manager)).content (MayHold (book_in b.parts.manager)))
      → KeepsLog (observes_parts see moment) origin b
  keeps_given origin a b log durable keeps first began handed down order honest may_hold =
      let k = book_in b.parts.manager in
      let now = see.moment (log_in b.parts.manager) in
      record {
        order = λ o. order (in_order o);
        honest = λ h. subst (λ l. (moment l).is_honest) (sym handed) (honest h);
        start = λ o h. subst (λ s. IsSomeAnd (moment s.value).content (StartsOver origin)) (sym first)
            (keeps.start (subst (λ s. (moment s.value).is_in_order) first o) (subst (λ m. (see.moment (log_in m.value)).is_honest) began h));
        tied = λ o h. tied_so k now.content down (may_hold (in_order o) h);
        left = λ o h. left_of_some false k now.content now.may_leave (MayHold k) (may_hold (in_order o) h)
            (tied_so k now.content down (may_hold (in_order o) h)) (λ c d. durable (log_in b.parts.manager) c d (order (in_order o)));
      }
    where
      in_order : (moment b.handed.value).is_in_order → (moment log).is_in_order
      in_order o = subst (λ l. (moment l).is_in_order) handed o
