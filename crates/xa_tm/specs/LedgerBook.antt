-- What the manager's book says, as functions of names.
use Rattle.std.specs.Prelude.{ℕ, ◌≡◌, ◌<◌, ◌≤◌, ◌-◌, ◌^◌, List, [], ◌∷◌, Bool, true, false, ◌&&◌, filter, map, Option, None, IsSome, not, unwrap_or, nat_eq, nat_le, if◌then◌else◌}
use Rattle.std.specs.BTreeMap.{BTreeMap, get}
use Rattle.std.specs.Option.{option_map}
use Rattle.std.specs.Ordering.{nat_cmp}
use Rattle.std.specs.Global.{Vec}
use Rattle.std.specs.List.{AllByRecursion}
use Rattle.std.specs.Map.{keys_of}
use Rattle.xa_base.specs.Branch.{gtrid_cmp, branch_cmp}
use Rattle.xa_model.specs.Replies.History.{name_of}
use Rattle.xa_base.specs.declared.step.Outcome.{Outcome}
use Rattle.xa_base.specs.declared.step.Part.{Part}
use Rattle.xa_model.specs.Trace.{Name, Happening.Crashed, Happening.Decided, line_of}
use Rattle.xa_base.specs.Xid.{Xid}
use Rattle.xa_base.specs.declared.branch.Branch.{Branch}
use Rattle.xa_base.specs.declared.branch.Gtrid.{Gtrid}
use Rattle.xa_log.specs.Content.{last_number}
use Rattle.xa_log.specs.Contract.{FitsRow}
use Rattle.xa_log.specs.KeySet.{KeySet, from_list}
use Rattle.xa_log.specs.declared.decision.Decision.{Decision}
use Rattle.xa_tm.specs.Book.{TransactionNotes, Notes, Doubt, Doubt.Adds, Doubt.Drops, Doubt.Records, Doubt.NoDoubt, Book, Waiting, breaks_in, row_with, recorded_with, transaction_after}
use Rattle.xa_tm.specs.Outcomes.{is_commit, is_rollback}
use Rattle.xa_tm.specs.declared.change.Change.{Change}
use Rattle.xa_tm.specs.declared.change.Change.TheVariants.{AddRows, DropRows, AddRecord, Nothing}
use Rattle.xa_tm.specs.declared.ledger.Ledger.{Ledger}
use Rattle.xa_tm.specs.declared.notes.BranchNotes.{BranchNotes}
use Rattle.xa_tm.specs.declared.notes.Transaction.{Transaction}

-- ** where nothing is noted

abbrev pub no_transaction : Transaction
no_transaction = record {
  is_begun = false;
  outcome = None;
  is_handed_over = false;
  is_claimed = false;
  has_yes = false;
  branches = 0;
  unvoted = 0;
  unsettled = 0;
}

abbrev pub no_branch : BranchNotes
no_branch = record {
  is_started = false;
  is_on_line = false;
  start_is_answered = false;
  said_yes = false;
  said_read_only = false;
  is_acknowledged = false;
  is_acknowledged_lately = false;
  is_finished = false;
  recorded = None;
}

abbrev pub transaction_at : BTreeMap Gtrid Transaction → Gtrid → Transaction
transaction_at m g = unwrap_or (get gtrid_cmp m g) no_transaction

abbrev pub notes_at : BTreeMap Branch BranchNotes → Branch → BranchNotes
notes_at m b = unwrap_or (get branch_cmp m b) no_branch

-- ** as the book has it

-- its number was given in this incarnation: sequences begin at 1
abbrev pub numbered_by : Bool → (incarnation sequence : ℕ) → Gtrid → Bool
numbered_by u i s g = u && (nat_eq g.incarnation i && (nat_le 1 g.sequence && nat_le g.sequence s))

-- what is noted of a transaction whose number was given in this incarnation, or was not
abbrev pub transaction_notes_of : Bool → Transaction → TransactionNotes
transaction_notes_of numbered t = record {
  begun = numbered && t.is_begun;
  committed = is_commit t.outcome;
  rolled_back = is_rollback t.outcome;
  handed_over = t.is_handed_over;
  claimed = numbered && (t.is_begun && t.is_claimed);
  has_yes = t.has_yes;
  branches = t.branches;
  unvoted = t.unvoted;
  unsettled = t.unsettled;
}

abbrev pub notes_of : BranchNotes → Notes
notes_of n = record {
  started = n.is_started;
  on_line = n.is_on_line;
  start_answered = n.start_is_answered;
  said_yes = n.said_yes;
  said_read_only = n.said_read_only;
  acknowledged = n.is_acknowledged;
  acknowledged_lately = n.is_acknowledged_lately;
  finished = n.is_finished;
}

-- what is noted of a transaction after these decisions
abbrev pub decided_by : Book → Outcome → List Gtrid → Gtrid → TransactionNotes → TransactionNotes
decided_by k o [] q d = d
decided_by k o (g ∷ gs) q d = decided_by k o gs q (transaction_after k (Decided g o) q d)

-- the keys of started branches
abbrev pub started_keys : List (Branch × BranchNotes) → List Branch
started_keys es = keys_of (filter (λ e. e.1.is_started) es)

abbrev pub known_in : BTreeMap Branch BranchNotes → KeySet branch_cmp
known_in m = from_list (started_keys m.entries)

abbrev pub waiting_of : Vec Branch → Waiting
waiting_of v = from_list v.items

abbrev pub row_at : BTreeMap Gtrid (Option (Vec Branch)) → Gtrid → Option Waiting
row_at m g = option_map waiting_of (unwrap_or (get gtrid_cmp m g) None)

abbrev pub names_at : BTreeMap ℕ (List Xid) → ℕ → List Name
names_at pages r = map name_of (unwrap_or (get nat_cmp pages r) [])

-- a branch off its line, if what crashes breaks that
abbrev pub off_line : Part → Branch → BranchNotes → BranchNotes
off_line p b n = record n { is_on_line = not (breaks_in true (Crashed p) (line_of b)) && n.is_on_line }

-- the row that a decision makes, and those of several
abbrev pub decided_row : Decision → Gtrid × Waiting
decided_row d = (d.gtrid, waiting_of d.participants)

abbrev pub decided_rows : List Decision → List (Gtrid × Waiting)
decided_rows ds = map decided_row ds

abbrev pub doubt_of_change : Change → Doubt
doubt_of_change (AddRows v) = Adds (decided_rows v.items)
doubt_of_change (DropRows g others) = Drops (g ∷ others.items)
doubt_of_change (AddRecord b how) = Records b how
doubt_of_change Nothing = NoDoubt

-- the book that the fields say
abbrev pub as_book : Ledger → Book
as_book k = record {
  threads = k.threads;
  rms = k.rms;
  up = k.is_up;
  incarnation = k.incarnation;
  sequence = k.sequence;
  begins = k.begins;
  failed_restarts = k.failed_restarts;
  transaction = λ g. transaction_notes_of (numbered_by k.is_up k.incarnation k.sequence g) (transaction_at k.transactions g);
  notes = λ b. notes_of (notes_at k.branches b);
  known = known_in k.branches;
  page = names_at k.pages;
  row = row_at k.rows;
  rows = k.row_count;
  recorded = λ b. (notes_at k.branches b).recorded;
  records = k.records;
  doubt = doubt_of_change k.doubt;
}

-- ** growth

abbrev pub HasTransaction : Ledger → Gtrid → Type 0
HasTransaction k g = IsSome (get gtrid_cmp k.transactions g)

abbrev pub HasBranch : Ledger → Branch → Type 0
HasBranch k b = IsSome (get branch_cmp k.branches b)

-- what there was room for, there still is
abbrev pub HasKept : {X : Type 0} → (old new : BTreeMap Gtrid X) → Type 0
HasKept old new = (q : Gtrid) → IsSome (get gtrid_cmp old q) → IsSome (get gtrid_cmp new q)

-- there is room for each of these
abbrev pub HaveRoom : {X : Type 0} → BTreeMap Gtrid X → List Gtrid → Type 0
HaveRoom m [] = Unit
HaveRoom m (g ∷ gs) = IsSome (get gtrid_cmp m g) × HaveRoom m gs

-- there is room for decisions of these transactions, and for these rows
pub record HasRoomForDecisions (gs written : List Gtrid) (k : Ledger) : Type 0 where
  pub transactions : HaveRoom k.transactions gs
  pub rows : HaveRoom k.rows written

-- the same, and what there was room for, there still is
pub record MakesRoomForDecisions (gs written : List Gtrid) (old new : Ledger) : Type 0 where
  pub room : HasRoomForDecisions gs written new
  pub kept : HasKept old.transactions new.transactions
  pub rows_kept : HasKept old.rows new.rows

-- the branches that a decision names are its transaction's
abbrev pub NamesOwn : Decision → Type 0
NamesOwn d = AllByRecursion (λ b. b.gtrid ≡ d.gtrid) d.participants.items

-- the transactions of decisions
abbrev pub gtrids_of : List Decision → List Gtrid
gtrids_of ds = map (λ (d : Decision). d.gtrid) ds

-- there is room for what a restart may find made
abbrev pub HasRoomFor : Change → Ledger → Type 0
HasRoomFor (AddRows v) k = HaveRoom k.rows (gtrids_of v.items)
HasRoomFor (DropRows g others) k = HaveRoom k.rows (g ∷ others.items)
HasRoomFor (AddRecord b how) k = HasBranch k b
HasRoomFor Nothing k = Unit

abbrev pub HasRoomForDoubt : Ledger → Type 0
HasRoomForDoubt k = HasRoomFor k.doubt k

-- ** restarts

-- the change in doubt was made if a number of rows changed
abbrev pub without_doubt : Bool → Bool → Book → Book
without_doubt row_changed record_changed k = record k {
  row = λ g. if row_changed then row_with k.doubt g (k.row g) else k.row g;
  recorded = λ b. if record_changed then recorded_with k.doubt b (k.recorded b) else k.recorded b;
  doubt = NoDoubt;
}

-- up in a new incarnation
abbrev pub come_up_with : (incarnation rows records : ℕ) → Book → Book
come_up_with i d h k = record k {
  up = true;
  incarnation = i;
  sequence = 0;
  failed_restarts = 0;
  transaction = λ g. record (k.transaction g) { begun = false; claimed = false };
  notes = λ b. record (k.notes b) { acknowledged_lately = false };
  rows = d;
  records = h;
}

-- ** what a history of at most 10,000 events makes sure of

-- the numbers of a book leave room for one more, what is begun fits a row, and what is live has
-- none
pub record IsSound (k : Book) : Type 0 where
  pub begins : k.sequence ≤ k.begins
  pub restarts : k.failed_restarts < 2 ^ 64 - 1
  pub rows : k.rows < 2 ^ 64 - 1
  pub records : k.records < 2 ^ 64 - 1
  pub fits : k.incarnation ≤ last_number
  pub fits_begins : k.begins < last_number
  pub branches : (g : Gtrid) → (k.transaction g).branches < 2 ^ 64 - 1
  pub unvoted : (g : Gtrid) → (k.transaction g).unvoted < 2 ^ 64 - 1
  pub unsettled : (g : Gtrid) → (k.transaction g).unsettled < 2 ^ 64 - 1
  pub rows_fit : (g : Gtrid) → IsSome (k.row g) → FitsRow g
  pub no_row : (g : Gtrid) → (k.transaction g).begun ≡ true → (k.transaction g).committed ≡ false → k.row g ≡ None
