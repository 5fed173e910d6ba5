-- How much more may happen before the numbers of a book are too great, whatever the resource
-- managers answer.
use Rattle.std.specs.Prelude.{ℕ, ◌≡◌, ◌<◌, ◌≤◌, ◌+◌, ◌-◌, ◌^◌, ◌⊎◌, true, IsSome}
use Rattle.xa_base.specs.declared.branch.Gtrid.{Gtrid}
use Rattle.xa_log.specs.Content.{last_number}
use Rattle.xa_log.specs.Contract.{FitsRow}
use Rattle.xa_model.specs.Trace.{Origin, Trace.From, Fault.InRestart, Happening, Happening.Begun, Happening.Decided, Happening.Failed, Happening.Restarted}
use Rattle.xa_tm.specs.Book.{Book, Doubt, book_after, book_of}
use Rattle.xa_tm.specs.LedgerBook.{IsSound}
use Rattle.xa_tm.specs.Limits.{HasRoomForRun}
use Rattle.xa_tm.specs.Release.{IsOver, book_without}
use Rattle.xa_tm.specs.Starting.{IsOld}

-- a transaction of the book is begun, and its number is one that was given in this incarnation
abbrev pub IsNumbered : Book → Gtrid → Type 0
IsNumbered k g = (g.incarnation ≡ k.incarnation) × (g.sequence ≤ k.sequence)

-- So much more may happen, and the book stays sound. Of no answer is it asked that it be right.
pub record HasHeadroom (n : ℕ) (k : Book) : Type 0 where
  pub begins : k.sequence ≤ k.begins
  pub restarts : k.failed_restarts < 2 ^ 64 - 1
  pub rows : k.rows + n < 2 ^ 64 - 1
  pub records : k.records + n < 2 ^ 64 - 1
  pub fits : k.incarnation ≤ last_number
  pub fits_begins : k.begins + n < last_number
  pub branches : (g : Gtrid) → (k.transaction g).branches + n < 2 ^ 64 - 1
  pub unvoted : (g : Gtrid) → (k.transaction g).unvoted + n < 2 ^ 64 - 1
  pub unsettled : (g : Gtrid) → (k.transaction g).unsettled + n < 2 ^ 64 - 1
  pub rows_fit : (g : Gtrid) → IsSome (k.row g) → FitsRow g
  -- a row is of an earlier incarnation, or of a transaction that is committed
  pub rows_of : (g : Gtrid) → IsSome (k.row g) → (g.incarnation < k.incarnation) ⊎ ((k.transaction g).committed ≡ true)
  -- what is begun was numbered
  pub begun_past : (g : Gtrid) → (k.transaction g).begun ≡ true → IsNumbered k g

-- It may happen while the manager stays the one that was started: numbers are given in turn, and
-- what is decided is begun. An answer may be any.
abbrev pub MayHappen : Book → Happening → Type 0
MayHappen k (Begun g) = g ≡ record { incarnation = k.incarnation; sequence = k.sequence + 1 }
MayHappen k (Decided g o) = (k.transaction g).begun ≡ true
MayHappen k (Restarted i d h) = ⊥
MayHappen k (Failed InRestart) = ⊥
MayHappen k e = Unit

-- one happening more leaves headroom for one less
abbrev pub HeadroomIsUsedUpByOne : Type 0
HeadroomIsUsedUpByOne = (n : ℕ) (k : Book) (asked : Doubt) (e : Happening) → MayHappen k e → HasHeadroom (n + 1) k
    → HasHeadroom n (book_after k asked e)

-- a release uses none up
abbrev pub ReleasesKeepHeadroom : Type 0
ReleasesKeepHeadroom = (n : ℕ) (k : Book) (g : Gtrid) → IsOver k g → HasHeadroom n k → HasHeadroom n (book_without g k)

-- a book with headroom is sound
abbrev pub HeadroomIsSound : Type 0
HeadroomIsSound = (n : ℕ) (k : Book) → HasHeadroom n k → IsSound k

-- how much may happen after a start
abbrev pub first_headroom : ℕ
first_headroom = 2 ^ 62

-- a start that `Manager::new` gives has so much
abbrev pub StartsHaveHeadroom : Type 0
StartsHaveHeadroom = (o : Origin) → IsSound (book_of (From o)) → IsOld (book_of (From o)) → HasRoomForRun (book_of (From o))
    → HasHeadroom first_headroom (book_of (From o))
