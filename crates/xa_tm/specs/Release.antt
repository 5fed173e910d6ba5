-- What the manager need not remember of a transaction that is over.
use Rattle.std.specs.Prelude.{ℕ, ◌≡◌, ◌+◌, Bool, true, false, not, ◌&&◌, ◌||◌, nat_eq, nat_le, nat_lt, if◌then◌else◌, filter, Option, Some, None}
use Rattle.std.specs.BTreeMap.{get}
use Rattle.xa_base.specs.Branch.{branch_cmp, gtrid_cmp, gtrid_eq}
use Rattle.xa_base.specs.Call.{xid_in}
use Rattle.xa_base.specs.declared.branch.Branch.{Branch}
use Rattle.xa_base.specs.declared.branch.Gtrid.{Gtrid}
use Rattle.xa_base.specs.declared.call.Call.TheVariants as Calls
use Rattle.xa_base.specs.declared.refusal.Refusal.{Refusal}
use Rattle.xa_base.specs.declared.refusal.Refusal.TheVariants as Refusals
use Rattle.xa_base.specs.declared.step.Step.TheVariants as Steps
use Rattle.xa_log.specs.KeySet.{contains, from_list, items}
use Rattle.xa_model.specs.Replies.Guards.{is_there}
use Rattle.xa_model.specs.Replies.Steps.{Step}
use Rattle.xa_model.specs.Trace.{Call, Happening, Happening.Begun, Happening.Decided, Happening.Issued, Happening.Restarted, Name, Name.Ours}
use Rattle.xa_tm.specs.Book.{Book, Doubt, Waiting, book_after}
use Rattle.xa_tm.specs.LedgerBook.{IsSound}
use Rattle.xa_tm.specs.Refusing.{live_in, refusal_in, resolved_in, resolved_open_in, view_in}
use Rattle.xa_tm.specs.Starting.{no_notes, no_transaction_notes}
use Rattle.xa_tm.specs.declared.ledger.Ledger.{Ledger}
use Rattle.xa_tm.specs.declared.manager.Manager.{Manager}

-- ** a transaction is released

-- its number was given, in an earlier incarnation or in this one
abbrev pub was_given : Book → Gtrid → Bool
was_given k g = nat_lt g.incarnation k.incarnation || (nat_eq g.incarnation k.incarnation && nat_le g.sequence k.sequence)

-- nothing more can come of its branches: each that was started has given its last answer, and none
-- is recorded as heuristic
pub record AreFinished (k : Book) (g : Gtrid) : Type 0 where
  pub finished : (b : Branch) → b.gtrid ≡ g → contains k.known b ≡ true → (k.notes b).finished ≡ true
  pub unrecorded : (b : Branch) → b.gtrid ≡ g → k.recorded b ≡ None

-- nothing more can come of it, while the manager is up: its number was given, it isn't live, it has
-- no row, and its branches are finished
pub record IsOver (k : Book) (g : Gtrid) : Type 0 where
  pub up : k.up ≡ true
  pub given : was_given k g ≡ true
  pub not_live : live_in k g ≡ false
  pub no_row : k.row g ≡ None
  pub branches : AreFinished k g

-- the book without all that is noted of a transaction and of its branches
abbrev pub book_without : Gtrid → Book → Book
book_without g k = record k {
  transaction = λ h. if gtrid_eq g h then no_transaction_notes else k.transaction h;
  notes = λ b. if gtrid_eq g b.gtrid then no_notes else k.notes b;
  known = from_list (filter (λ b. not (gtrid_eq g b.gtrid)) (items k.known));
}

-- and no map has an entry of it, so that it takes no memory
pub record HasForgotten (g : Gtrid) (l : Ledger) : Type 0 where
  pub transaction : get gtrid_cmp l.transactions g ≡ None
  pub row : get gtrid_cmp l.rows g ≡ None
  pub branches : (b : Branch) → b.gtrid ≡ g → get branch_cmp l.branches b ≡ None

abbrev pub HoldsNothingOf : {L : Type 0} → Gtrid → Manager L → Type 0
HoldsNothingOf g m = HasForgotten g m.ledger

-- ** a book that has released some

-- a row waits for branches of its own transaction
abbrev pub RowsAreOwn : Book → Type 0
RowsAreOwn k = (g : Gtrid) (set : Waiting) (b : Branch) → k.row g ≡ Some set → contains set b ≡ true → b.gtrid ≡ g

-- A book that has released these transactions, and the whole book, which has released none: they
-- say the same of all others. Of those that are gone the whole book says that nothing more can come
-- of them.
pub record HasReleased (gone : Gtrid → Bool) (whole k : Book) : Type 0 where
  pub same : whole ≡ record k { transaction = whole.transaction; notes = whole.notes; known = whole.known }
  pub transactions : (g : Gtrid) → gone g ≡ false → whole.transaction g ≡ k.transaction g
  pub notes : (b : Branch) → gone b.gtrid ≡ false → whole.notes b ≡ k.notes b
  pub known : (b : Branch) → contains k.known b ≡ (contains whole.known b && not (gone b.gtrid))
  pub own : RowsAreOwn k
  -- those that are gone
  pub unbegun : (g : Gtrid) → gone g ≡ true → (k.transaction g).begun ≡ false
  pub given : (g : Gtrid) → gone g ≡ true → was_given k g ≡ true
  pub no_row : (g : Gtrid) → gone g ≡ true → k.row g ≡ None
  pub not_live : (g : Gtrid) → gone g ≡ true → live_in whole g ≡ false
  pub finished : (b : Branch) → gone b.gtrid ≡ true → contains whole.known b ≡ true → (whole.notes b).finished ≡ true

-- a call starts a branch only of a transaction that is begun
abbrev pub StartsBegun : Book → Call → Type 0
StartsBegun k (Calls.Start b join) = (k.transaction b.gtrid).begun ≡ true
StartsBegun k c = Unit

-- It may happen of this book while its manager isn't restarted: the transaction that begins has the
-- next number, and one that is started or decided is begun. An answer may be any.
abbrev pub MayFollow : Book → Happening → Type 0
MayFollow k (Begun g) = g ≡ record { incarnation = k.incarnation; sequence = k.sequence + 1 }
MayFollow k (Issued l c) = StartsBegun k c
MayFollow k (Decided g o) = (k.transaction g).begun ≡ true
MayFollow k (Restarted i d h) = ⊥
MayFollow k e = Unit

-- ** steps on transactions that are gone

abbrev pub is_of : (Gtrid → Bool) → Option Name → Bool
is_of gone (Some (Ours b)) = gone b.gtrid
is_of gone _ = false

-- the step names a transaction that is gone, or a branch of one
abbrev pub names_one_of : (Gtrid → Bool) → Step → Bool
names_one_of gone (Steps.Issue t r c) = is_of gone (xid_in c)
names_one_of gone (Steps.Decide g o) = gone g
names_one_of gone (Steps.Claim g) = gone g
names_one_of gone (Steps.Settle g) = gone g
names_one_of gone (Steps.Abandon g) = gone g
names_one_of gone (Steps.Done g) = gone g
names_one_of gone _ = false

-- what such a step is refused with, as one that names a transaction which was never begun
abbrev pub unknown_in : Book → Step → Refusal
unknown_in k s =
    if not (is_there (view_in k) s) then Refusals.Limit
    else (if k.up then Refusals.UnknownTransaction else Refusals.ManagerDown)

-- ** the laws

-- a book that has released none is its own whole
abbrev pub BooksAreWhole : Type 0
BooksAreWhole = (k : Book) → RowsAreOwn k → HasReleased (λ g. false) k k

-- one more is released
abbrev pub OneMoreIsReleased : Type 0
OneMoreIsReleased = (gone : Gtrid → Bool) (whole k : Book) (g : Gtrid) → HasReleased gone whole k → IsOver k g
    → HasReleased (λ h. gtrid_eq g h || gone h) whole (book_without g k)

-- both books go on alike with whatever may happen
abbrev pub WholesFollow : Type 0
WholesFollow = (gone : Gtrid → Bool) (whole k : Book) (asked : Doubt) (e : Happening) → HasReleased gone whole k → MayFollow k e
    → HasReleased gone (book_after whole asked e) (book_after k asked e)

-- a step that names none of those that are gone is refused with the same
abbrev pub OthersAreRefusedAlike : Type 0
OthersAreRefusedAlike = (gone : Gtrid → Bool) (whole k : Book) (s : Step) → HasReleased gone whole k → names_one_of gone s ≡ false
    → refusal_in k s ≡ refusal_in whole s

-- one that names one of them is always refused
abbrev pub ReleasedAreUnknown : Type 0
ReleasedAreUnknown = (gone : Gtrid → Bool) (whole k : Book) (s : Step) → HasReleased gone whole k → names_one_of gone s ≡ true
    → refusal_in k s ≡ Some (unknown_in k s)

-- so that what is not refused isn't refused by the whole book either
abbrev pub WholesRefuseNoMore : Type 0
WholesRefuseNoMore = (gone : Gtrid → Bool) (whole k : Book) (s : Step) → HasReleased gone whole k → refusal_in k s ≡ None
    → refusal_in whole s ≡ None

-- a recovery ends the same branches
abbrev pub RecoveriesAreAlike : Type 0
RecoveriesAreAlike = (gone : Gtrid → Bool) (whole k : Book) (r : ℕ) → HasReleased gone whole k
    → (resolved_in k r ≡ resolved_in whole r) × (resolved_open_in k r ≡ resolved_open_in whole r)

-- and a book stays sound
abbrev pub ReleasedAreSound : Type 0
ReleasedAreSound = (k : Book) (g : Gtrid) → IsSound k → IsSound (book_without g k)
