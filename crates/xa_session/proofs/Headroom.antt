-- The numbers of a book stay small enough, whatever the resource managers answer.
use Rattle.std.proofs.Common.{◌≡◌, ℕ, ◌+◌, ◌-◌, ◌<◌, ◌≤◌, ◌^◌, ◌⊎◌, inl, inr, Bool, true, false, ◌||◌, List, [], ◌∷◌, length, Option, Some, None, is_some, refl, sym, ap, ◌∙◌, subst, arith}
use Rattle.std.specs.Prelude.{if◌then◌else◌, IsSome}
use Rattle.std.proofs.lemmas.Bool.{true≢false}
use Rattle.xa_base.specs.declared.call.Call.TheVariants as Calls
use Rattle.xa_base.specs.Branch.{gtrid_eq}
use Rattle.xa_base.specs.declared.branch.Gtrid.{Gtrid}
use Rattle.xa_base.specs.declared.step.Outcome.TheVariants as Outcome
use Rattle.xa_base.specs.declared.step.Part.TheVariants as Part
use Rattle.xa_base.proofs.BranchKeys.{gtrid_eq-true}
use Rattle.xa_log.specs.Content.{last_number}
use Rattle.xa_log.specs.Contract.{FitsRow}
use Rattle.xa_model.specs.Trace.{Origin, Trace.From, Happening, Happening.Begun, Happening.Issued, Happening.Decided, Happening.Done, Happening.Crashed, Happening.Failed, Happening.Restarted}
use Rattle.xa_tm.specs.Book.{after, after_all, Book, book_after, book_of, Doubt, Doubt.NoDoubt, incarnation_after, row_after, sequence_after, transaction_after, TransactionNotes, voted_yes, Waiting}
use Rattle.xa_tm.specs.LedgerBook.{IsSound}
use Rattle.xa_tm.specs.Limits.{HasRoomForRun}
use Rattle.xa_tm.specs.Starting.{IsOld, no_transaction_notes}
use Rattle.xa_session.specs.Headroom.{HasHeadroom, IsNumbered, MayHappen, ReleasesKeepHeadroom, first_headroom}
use Rattle.xa_session.proofs.GrowingNumbers.{begins_kept, begins_more, branches_more, incarnation_kept, records_more, restarts_kept, rows_more, unsettled_more, unvoted_more}

-- ** rows

module _ (n : ℕ) (k : Book) (head : HasHeadroom (n + 1) k) where
  fits_row : (g : Gtrid) → (k.transaction g).begun ≡ true → FitsRow g
  fits_row g is_begun =
      let past = head.begun_past g is_begun in
      let at = past.0 in let few = past.1 in let fits = head.fits in let begins = head.begins in let most = head.fits_begins in
      (omega (arith, at, fits), omega (arith, few, begins, most))

  rows_fit_kept : (e : Happening) (g : Gtrid) → MayHappen k e → IsSome (row_after k e g (k.row g)) → FitsRow g
  rows_fit_kept (Decided h Outcome.Commit) g m some = by (k.transaction h).has_yes (gtrid_eq h g) refl some
    where
      by : (y t : Bool) → gtrid_eq h g ≡ t → IsSome (if y then (if t then Some (voted_yes k h) else k.row g) else k.row g) → FitsRow g
      by true true e some = fits_row g (subst (λ q. (k.transaction q).begun ≡ true) (gtrid_eq-true h g e) m)
      by true false e some = head.rows_fit g some
      by false t e some = head.rows_fit g some
  rows_fit_kept (Done h) g m some = by (gtrid_eq h g) some
    where
      by : (t : Bool) → IsSome (if t then None else k.row g) → FitsRow g
      by true some = absurd (cc)
      by false some = head.rows_fit g some
  rows_fit_kept (Restarted i d r) g m some = absurd m
  rows_fit_kept _ g m some = head.rows_fit g some

  -- what is said of a row goes over to a transaction that is committed still
  still : (g : Gtrid) (c : Bool) → ((k.transaction g).committed ≡ true → c ≡ true) → IsSome (k.row g) → (g.incarnation < k.incarnation) ⊎ (c ≡ true)
  still g c keeps some = by (head.rows_of g some)
    where
      by : (g.incarnation < k.incarnation) ⊎ ((k.transaction g).committed ≡ true) → (g.incarnation < k.incarnation) ⊎ (c ≡ true)
      by (inl before) = inl before
      by (inr now) = inr (keeps now)

  or_right : (t c : Bool) → c ≡ true → (t || c) ≡ true
  or_right true c h = refl
  or_right false c h = h

  rows_of_kept : (e : Happening) (g : Gtrid) → MayHappen k e → IsSome (row_after k e g (k.row g))
      → (g.incarnation < k.incarnation) ⊎ ((transaction_after k e g (k.transaction g)).committed ≡ true)
  rows_of_kept (Decided h Outcome.Commit) g m some = by (k.transaction h).has_yes (gtrid_eq h g) some
    where
      by : (y t : Bool) → IsSome (if y then (if t then Some (voted_yes k h) else k.row g) else k.row g)
          → (g.incarnation < k.incarnation) ⊎ ((t || (k.transaction g).committed) ≡ true)
      by y true some = inr refl
      by true false some = still g _ (λ now. now) some
      by false false some = still g _ (λ now. now) some
  rows_of_kept (Decided h Outcome.Rollback) g m some = still g _ (λ now. now) some
  rows_of_kept (Done h) g m some = by (gtrid_eq h g) some
    where
      by : (t : Bool) → IsSome (if t then None else k.row g) → (g.incarnation < k.incarnation) ⊎ ((k.transaction g).committed ≡ true)
      by true some = absurd (cc)
      by false some = still g _ (λ now. now) some
  rows_of_kept (Restarted i d r) g m some = absurd m
  rows_of_kept (Issued l (Calls.Start b false)) g m some = still g _ (λ now. now) some
  rows_of_kept (Issued l (Calls.Start b true)) g m some = still g _ (λ now. now) some
  rows_of_kept (Issued l (Calls.Commit b true)) g m some = still g _ (λ now. now) some
  rows_of_kept (Crashed Part.Manager) g m some = still g _ (λ now. now) some
  rows_of_kept _ g m some = still g _ (λ now. now) some

  -- ** what is begun

  numbered : (g : Gtrid) (s : ℕ) → k.sequence ≤ s → (k.transaction g).begun ≡ true → (g.incarnation ≡ k.incarnation) × (g.sequence ≤ s)
  numbered g s more is_begun = let past = head.begun_past g is_begun in let few = past.1 in (past.0, omega (arith, few, more))

  begun_past_kept : (e : Happening) (g : Gtrid) → MayHappen k e → (transaction_after k e g (k.transaction g)).begun ≡ true
      → (g.incarnation ≡ incarnation_after e k.incarnation) × (g.sequence ≤ sequence_after e k.sequence)
  begun_past_kept (Begun h) g m is_begun = by (gtrid_eq h g) refl is_begun
    where
      new : h ≡ g → (g.incarnation ≡ k.incarnation) × (g.sequence ≤ k.sequence + 1)
      new q = let at = sym q ∙ m in (ap (λ x. x.incarnation) at, let s = ap (λ x. x.sequence) at in omega (arith, s))

      by : (t : Bool) → gtrid_eq h g ≡ t → (t || (k.transaction g).begun) ≡ true → (g.incarnation ≡ k.incarnation) × (g.sequence ≤ k.sequence + 1)
      by true e is_begun = new (gtrid_eq-true h g e)
      by false e is_begun = numbered g (k.sequence + 1) (omega arith) is_begun
  begun_past_kept (Crashed Part.Manager) g m is_begun = absurd (cc)
  begun_past_kept (Failed f) g m is_begun = absurd (cc)
  begun_past_kept (Restarted i d r) g m is_begun = absurd m
  begun_past_kept (Issued l (Calls.Start b false)) g m is_begun = numbered g k.sequence (omega arith) is_begun
  begun_past_kept (Issued l (Calls.Start b true)) g m is_begun = numbered g k.sequence (omega arith) is_begun
  begun_past_kept (Issued l (Calls.Commit b true)) g m is_begun = numbered g k.sequence (omega arith) is_begun
  begun_past_kept (Decided h Outcome.Commit) g m is_begun = numbered g k.sequence (omega arith) is_begun
  begun_past_kept (Decided h Outcome.Rollback) g m is_begun = numbered g k.sequence (omega arith) is_begun
  begun_past_kept _ g m is_begun = numbered g k.sequence (omega arith) is_begun

  -- ** the whole

  below : (a b : ℕ) → a ≤ b + 1 → b + (n + 1) < 2 ^ 64 - 1 → a + n < 2 ^ 64 - 1
  below a b more room = omega (arith, more, room)

  below_last : (a b : ℕ) → a ≤ b + 1 → b + (n + 1) < last_number → a + n < last_number
  below_last a b more room = omega (arith, more, room)

  no_more : (a b c : ℕ) → a ≤ b → b < c → a < c
  no_more a b c few less = omega (arith, few, less)

  pub headroom_kept : (asked : Doubt) (e : Happening) → MayHappen k e → HasHeadroom n (book_after k asked e)
  headroom_kept asked e m = record {
    begins = begins_kept k e m head.begins;
    restarts = no_more _ _ _ (restarts_kept k e m) head.restarts;
    rows = below _ k.rows (rows_more k e m) head.rows;
    records = below _ k.records (records_more k e m) head.records;
    fits = subst (λ i. i ≤ last_number) (sym (incarnation_kept k e m)) head.fits;
    fits_begins = below_last _ k.begins (begins_more k e) head.fits_begins;
    branches = λ g. below _ _ (branches_more k e g) (head.branches g);
    unvoted = λ g. below _ _ (unvoted_more k e g) (head.unvoted g);
    unsettled = λ g. below _ _ (unsettled_more k e g) (head.unsettled g);
    rows_fit = λ g some. rows_fit_kept e g m some;
    rows_of = λ g some. subst (λ i. (g.incarnation < i) ⊎ ((transaction_after k e g (k.transaction g)).committed ≡ true)) (sym (incarnation_kept k e m))
        (rows_of_kept e g m some);
    begun_past = λ g is_begun. begun_past_kept e g m is_begun;
  }

-- ** several happenings

-- each may happen in turn
abbrev pub MayHappenInTurn : Book → List Happening → Type 0
MayHappenInTurn k [] = Unit
MayHappenInTurn k (e ∷ es) = MayHappen k e × MayHappenInTurn (after k e) es

pub headroom_kept_by_all : (n : ℕ) (es : List Happening) (k : Book) → MayHappenInTurn k es → HasHeadroom (n + length es) k
    → HasHeadroom n (after_all k es)
headroom_kept_by_all n [] k may head = let none : n + length {A = Happening} [] ≡ n = omega arith in subst (λ m. HasHeadroom m k) none head
headroom_kept_by_all n (e ∷ es) k may head =
    let one_left : n + length (e ∷ es) ≡ n + length es + 1 = omega arith in
    headroom_kept_by_all n es (after k e) may.1
    (headroom_kept (n + length es) k (subst (λ m. HasHeadroom m k) one_left head) NoDoubt e may.0)

-- ** a book with room

module _ (n : ℕ) (k : Book) (head : HasHeadroom n k) where
  fewer : (a b : ℕ) → a + n < b → a < b
  fewer a b less = omega (arith, less)

  no_row : (g : Gtrid) → (k.transaction g).begun ≡ true → (k.transaction g).committed ≡ false → k.row g ≡ None
  no_row g is_begun undecided = by (k.row g) refl
    where
      never : (g.incarnation < k.incarnation) ⊎ ((k.transaction g).committed ≡ true) → ⊥
      never (inl before) = let at = (head.begun_past g is_begun).0 in omega (arith, before, at)
      never (inr now) = true≢false (sym now ∙ undecided)

      by : (o : Option Waiting) → k.row g ≡ o → o ≡ None
      by None e = refl
      by (Some set) e = absurd (never (head.rows_of g (ap is_some e)))

  pub sound : IsSound k
  sound = record {
    begins = head.begins;
    restarts = head.restarts;
    rows = fewer _ _ head.rows;
    records = fewer _ _ head.records;
    fits = head.fits;
    fits_begins = fewer _ _ head.fits_begins;
    branches = λ g. fewer _ _ (head.branches g);
    unvoted = λ g. fewer _ _ (head.unvoted g);
    unsettled = λ g. fewer _ _ (head.unsettled g);
    rows_fit = head.rows_fit;
    no_row = no_row;
  }

-- ** starts

pub starts_have_headroom : (o : Origin) → IsSound (book_of (From o)) → IsOld (book_of (From o)) → HasRoomForRun (book_of (From o))
    → HasHeadroom first_headroom (book_of (From o))
starts_have_headroom o sound old room = record {
  begins = sound.begins;
  restarts = sound.restarts;
  rows = fits _ room.rows;
  records = fits _ room.records;
  fits = sound.fits;
  fits_begins = omega arith;
  branches = λ g. omega arith;
  unvoted = λ g. omega arith;
  unsettled = λ g. omega arith;
  rows_fit = sound.rows_fit;
  rows_of = λ g some. inl (old.rows g some);
  begun_past = λ g is_begun. absurd (cc);
}
  where
    fits : (n : ℕ) → n ≤ last_number → n + first_headroom < 2 ^ 64 - 1
    fits n few = omega (arith, few)

-- ** a release

pub releases_keep_headroom : ReleasesKeepHeadroom
releases_keep_headroom n k g done head = record {
  begins = head.begins;
  restarts = head.restarts;
  rows = head.rows;
  records = head.records;
  fits = head.fits;
  fits_begins = head.fits_begins;
  branches = λ h. few (λ (d : TransactionNotes). d.branches) refl (gtrid_eq g h) h (head.branches h);
  unvoted = λ h. few (λ (d : TransactionNotes). d.unvoted) refl (gtrid_eq g h) h (head.unvoted h);
  unsettled = λ h. few (λ (d : TransactionNotes). d.unsettled) refl (gtrid_eq g h) h (head.unsettled h);
  rows_fit = head.rows_fit;
  rows_of = λ h some. row_of (gtrid_eq g h) h refl some (head.rows_of h some);
  begun_past = λ h. past (gtrid_eq g h) h;
}
  where
    few : (m : TransactionNotes → ℕ) → m no_transaction_notes ≡ 0 → (t : Bool) (h : Gtrid) → m (k.transaction h) + n < 2 ^ 64 - 1
        → m (if t then no_transaction_notes else k.transaction h) + n < 2 ^ 64 - 1
    few m none true h is = let e = none in omega (arith, e, is)
    few m none false h is = is

    row_of : (t : Bool) (h : Gtrid) → gtrid_eq g h ≡ t → IsSome (k.row h)
        → (h.incarnation < k.incarnation) ⊎ ((k.transaction h).committed ≡ true)
        → (h.incarnation < k.incarnation) ⊎ ((if t then no_transaction_notes else k.transaction h).committed ≡ true)
    row_of true h is some old = absurd (never (k.row h) (ap k.row (sym (gtrid_eq-true g h is)) ∙ done.no_row) some)
      where
        never : {X : Type 0} (o : Option X) → o ≡ None → IsSome o → ⊥
        never None e some = let no : ⊥ = cc in no
        never (Some x) e some = let no : ⊥ = cc in no
    row_of false h is some old = old

    past : (t : Bool) (h : Gtrid) → (if t then no_transaction_notes else k.transaction h).begun ≡ true → IsNumbered k h
    past true h begun = absurd (cc)
    past false h begun = head.begun_past h begun
