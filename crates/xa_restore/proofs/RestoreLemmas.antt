-- A log that is started again and again, and then given rows.
use Rattle.std.proofs.Common.{◌≡◌, ℕ, ◌+◌, ap, subst, sym, ◌∙◌, arith, add-zero}
use Rattle.std.specs.Prelude.{Some, Ok, IsSomeAnd}
use Rattle.xa_log.specs.Content.{Content, with_bump, with_incarnation}
use Rattle.xa_log.specs.Contract.{Changes, Moment}
use Rattle.xa_restore.specs.Restored.{HasRaised}

-- what a log holds that was made of one that held this
made_of : (change : Content → Content) (old new : _) (c : Content) → old ≡ Some c → IsSomeAnd old (λ c. new ≡ Some (change c)) → new ≡ Some (change c)
made_of change old new c is made = let P : _ = λ it. IsSomeAnd it (λ c. new ≡ Some (change c)) in subst P is made

pub not_raised : (m : Moment) → HasRaised m m 0
not_raised m = record {
  content = λ c is order honest. is ∙ ap (λ n. Some (with_incarnation n c)) (sym (add-zero c.incarnation));
  order = λ order. order;
  honest = λ honest. honest;
}

pub raised_once_more : (first old new : Moment) (count : ℕ) (n : ℕ) → HasRaised first old count → Changes {A = ℕ} with_bump old new (Ok n)
    → HasRaised first new (count + 1)
raised_once_more first old new count n raised changes = record {
  content = λ c is order honest.
      made_of with_bump old.content new.content (with_incarnation (c.incarnation + count) c)
      (raised.content c is order (changes.honest honest)) (changes.ok (raised.order order) honest)
      ∙ ap (λ k. Some (with_incarnation k c)) (let same : (c.incarnation + count) + 1 ≡ c.incarnation + (count + 1) = omega arith in same);
  order = λ order. changes.order (raised.order order);
  honest = λ honest. raised.honest (changes.honest honest);
}
