-- A book that has released transactions goes on as the whole book does.
pub mod Sets
pub mod ShortBooks
pub mod Refusals
pub mod SameChanges
pub mod Happenings
pub mod OneMore
use Rattle.std.proofs.Common.{◌≡◌, ℕ, ◌-◌, ◌<◌, ◌^◌, Bool, true, false, ◌&&◌, ◌||◌, None, refl, sym, subst, arith}
use Rattle.std.specs.Prelude.{if◌then◌else◌}
use Rattle.xa_base.specs.Branch.{gtrid_eq}
use Rattle.xa_base.specs.declared.branch.Gtrid.{Gtrid}
use Rattle.xa_log.specs.KeySet.{contains}
use Rattle.xa_model.specs.Trace.{Happening.ResolvedOpen}
use Rattle.xa_tm.specs.Book.{Book, TransactionNotes, Doubt.NoDoubt, book_after}
use Rattle.xa_tm.specs.Refusing.{refusal_in, resolved_in, resolved_open_in}
use Rattle.xa_tm.specs.Release.{BooksAreWhole, HasReleased, OneMoreIsReleased, OthersAreRefusedAlike, RecoveriesAreAlike, ReleasedAreSound, ReleasedAreUnknown, WholesFollow, WholesRefuseNoMore, book_without}
use Rattle.xa_tm.specs.Starting.{no_transaction_notes}
use Rattle.xa_tm.proofs.Release.ShortBooks.{IsShortOf, calls_same}
use Rattle.xa_tm.proofs.Release.Happenings.{short_after, same_after}
use Rattle.xa_tm.proofs.Release.Refusals.{others_alike, gone_refused, refuses_no_more}
use Rattle.xa_tm.proofs.Release.OneMore.{short_more}

-- what is so of this book with the parts of the whole is so of the whole
at_whole : (P : Book → Type 0) (k w : Book) → w ≡ record k { transaction = w.transaction; notes = w.notes; known = w.known }
    → P (record k { transaction = w.transaction; notes = w.notes; known = w.known }) → P w
at_whole P k w same holds = subst P (sym same) holds

short_of : (gone : Gtrid → Bool) (whole k : Book) → HasReleased gone whole k → IsShortOf gone k whole.transaction whole.notes whole.known
short_of gone whole k is = record {
  same_transaction = is.transactions;
  same_notes = is.notes;
  same_known = is.known;
  own = is.own;
  unbegun = is.unbegun;
  given = is.given;
  no_row = is.no_row;
  not_live = is.not_live;
  finished = is.finished;
}

-- the same back
released_by : (gone : Gtrid → Bool) (whole k : Book) → whole ≡ record k { transaction = whole.transaction; notes = whole.notes; known = whole.known }
    → IsShortOf gone k whole.transaction whole.notes whole.known → HasReleased gone whole k
released_by gone whole k same short = record {
  same = same;
  transactions = short.same_transaction;
  notes = short.same_notes;
  known = short.same_known;
  own = short.own;
  unbegun = short.unbegun;
  given = short.given;
  no_row = short.no_row;
  not_live = short.not_live;
  finished = short.finished;
}

pub books_are_whole : BooksAreWhole
books_are_whole k own = record {
  same = refl;
  transactions = λ g e. refl;
  notes = λ b e. refl;
  known = λ b. plain (contains k.known b);
  own = own;
  unbegun = λ g e. absurd (cc);
  given = λ g e. absurd (cc);
  no_row = λ g e. absurd (cc);
  not_live = λ g e. absurd (cc);
  finished = λ b e known. absurd (cc);
}
  where
    plain : (t : Bool) → t ≡ (t && true)
    plain true = refl
    plain false = refl

pub one_more_is_released : OneMoreIsReleased
one_more_is_released gone whole k g is done =
    released_by (λ h. gtrid_eq g h || gone h) whole (book_without g k) is.same
    (short_more (short_of gone whole k is) g done)

pub wholes_follow : WholesFollow
wholes_follow gone whole k asked e is may =
    let short = short_of gone whole k is in
    at_whole (λ w. HasReleased gone (book_after w asked e) (book_after k asked e)) k whole is.same
    (released_by gone _ (book_after k asked e)
    (same_after short asked e may)
    (short_after short asked e may))

pub others_are_refused_alike : OthersAreRefusedAlike
others_are_refused_alike gone whole k s is n =
    at_whole (λ w. refusal_in k s ≡ refusal_in w s) k whole is.same
    (others_alike (short_of gone whole k is) s n)

pub released_are_unknown : ReleasedAreUnknown
released_are_unknown gone whole k s is n = gone_refused (short_of gone whole k is) s n

pub wholes_refuse_no_more : WholesRefuseNoMore
wholes_refuse_no_more gone whole k s is e =
    at_whole (λ w. refusal_in w s ≡ None) k whole is.same
    (refuses_no_more (short_of gone whole k is) s e)

pub recoveries_are_alike : RecoveriesAreAlike
recoveries_are_alike gone whole k r is =
    let short = short_of gone whole k is in
    at_whole (λ w. (resolved_in k r ≡ resolved_in w r) × (resolved_open_in k r ≡ resolved_open_in w r)) k whole is.same (
      calls_same short (k.page r),
      calls_same (short_after short NoDoubt (ResolvedOpen r) tt) (k.page r),
    )

pub released_are_sound : ReleasedAreSound
released_are_sound k g sound = record {
  begins = sound.begins;
  restarts = sound.restarts;
  rows = sound.rows;
  records = sound.records;
  fits = sound.fits;
  fits_begins = sound.fits_begins;
  branches = λ h. few (λ d. d.branches) refl (gtrid_eq g h) h (sound.branches h);
  unvoted = λ h. few (λ d. d.unvoted) refl (gtrid_eq g h) h (sound.unvoted h);
  unsettled = λ h. few (λ d. d.unsettled) refl (gtrid_eq g h) h (sound.unsettled h);
  rows_fit = sound.rows_fit;
  no_row = λ h. no_row (gtrid_eq g h) h;
}
  where
    few : (n : TransactionNotes → ℕ) → n no_transaction_notes ≡ 0 → (t : Bool) (h : Gtrid) → n (k.transaction h) < 2 ^ 64 - 1
        → n (if t then no_transaction_notes else k.transaction h) < 2 ^ 64 - 1
    few n none true h is = let e = none in omega (arith, e)
    few n none false h is = is

    no_row : (t : Bool) (h : Gtrid) → (if t then no_transaction_notes else k.transaction h).begun ≡ true
        → (if t then no_transaction_notes else k.transaction h).committed ≡ false → k.row h ≡ None
    no_row true h begun undecided = absurd (cc)
    no_row false h begun undecided = sound.no_row h begun undecided
