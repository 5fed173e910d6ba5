-- Each item of a list is done, one after another.
use Rattle.std.proofs.Common.{◌≡◌, ◌≢◌, ◌<◌, ◌≤◌, ◌+◌, ◌⊎◌, inl, inr, ℕ, true, false, List, length, set, get_or, refl, sym, ap, ◌∙◌, subst, arith}
use Rattle.std.specs.Prelude.{Some, nat_eq, slice_get}
use Rattle.std.proofs.lemmas.Bool.Decides.{eqb_tells}
use Rattle.std.proofs.lemmas.List.{length-set}
use Rattle.std.proofs.lemmas.Option.{slice_get_read, slice_get_within}
use Rattle.xa_system.specs.Steps.{AllCrash, AreCrashed, Crashes}
use Rattle.xa_system.specs.declared.site.Site.{Site}
use Rattle.xa_system.proofs.Histories.Standing.{get_set_other, get_set_same}
use Rattle.xa_rm.specs.Look.{Look}

module _ {X : Type 0} (Does : X → X → Type 0) where
  -- those below the index are done, and the others are as they were
  pub record DoneBelow (old now : List X) (n : ℕ) : Type 0 where
    pub count : length now ≡ length old
    pub done : (r : ℕ) (before : X) → slice_get old r ≡ Some before → r < n → (after : X) × (slice_get now r ≡ Some after) × Does before after
    pub rest : (r : ℕ) → n ≤ r → slice_get now r ≡ slice_get old r

  pub done_more : (old now : List X) (n : ℕ) (one put : X) → DoneBelow old now n → n < length now → one ≡ get_or now n one → Does one put
      → DoneBelow old (set now n put) (n + 1)
  done_more old now n one put below within is did = record {
    count = length-set now n put ∙ below.count;
    done = λ r before at lt. by_place r before at lt (eqb_tells r n);
    rest = λ r le. get_set_other now n r put (λ e. absurd (omega (arith, le, e))) ∙ below.rest r (omega (arith, le));
  }
    where
      here : slice_get now n ≡ Some one
      here = slice_get_read now (length now) n one refl within is

      by_place : (r : ℕ) (before : X) → slice_get old r ≡ Some before → r < n + 1 → ((nat_eq r n ≡ true) × (r ≡ n)) ⊎ ((nat_eq r n ≡ false) × (r ≢ n))
          → (after : X) × (slice_get (set now n put) r ≡ Some after) × Does before after
      by_place r before at lt (inl w) =
          let same : Some one ≡ Some before = sym here ∙ below.rest n (omega arith) ∙ ap (slice_get old) (sym w.1) ∙ at in
          let is_same : one ≡ before = cc in
          (put, ap (slice_get (set now n put)) w.1 ∙ get_set_same now n put one here, subst (λ x. Does x put) is_same did)
      by_place r before at lt (inr w) =
          let h = below.done r before at (other_below r n lt w.1) in
          (h.0, get_set_other now n r put w.1 ∙ h.1, h.2)
        where
          other_below : (r n : ℕ) → r < n + 1 → r ≢ n → r < n
          other_below r n lt apart = omega (arith, lt, apart)

  pub none_done : (old : List X) → DoneBelow old old 0
  none_done old = record { count = refl; done = λ r before at lt. absurd (omega (arith, lt)); rest = λ r le. refl }

  pub all_done : (old now : List X) (n : ℕ) → length now ≤ n → DoneBelow old now n
      → (r : ℕ) (before : X) → slice_get old r ≡ Some before → (after : X) × (slice_get now r ≡ Some after) × Does before after
  all_done old now n past below r before at =
      below.done r before at (let within = slice_get_within old r before at in omega (arith, within, below.count, past))

module _ {R : Type 0} (look : R → Look) where
  -- a resource manager crashed, and is up where it was
  abbrev pub SiteCrashes : Site R → Site R → Type 0
  SiteCrashes before after = (after.is_up ≡ before.is_up) × Crashes look before.rm after.rm

  pub all_crashed : (old now : List (Site R)) (n : ℕ) → length now ≤ n → DoneBelow SiteCrashes old now n → AllCrash look old now
  all_crashed old now n past below = record {
    count = below.count;
    each = λ r before at. let h = all_done SiteCrashes old now n past below r before at in (h.0, h.1, h.2.0, h.2.1);
  }

  pub are_crashed : (old now : List R) (n : ℕ) → length now ≤ n → DoneBelow (Crashes look) old now n → AreCrashed look old now
  are_crashed old now n past below = record { count = below.count; each = all_done (Crashes look) old now n past below }
