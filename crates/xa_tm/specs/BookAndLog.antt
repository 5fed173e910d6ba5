-- How the log that a manager holds is tied to its book.
use Rattle.std.specs.Prelude.{ℕ, ◌+◌, ◌-◌, ◌<◌, ◌≡◌, ◌≤◌, ◌⊎◌, Bool, true, false, ◌&&◌, ◌||◌, nat_eq, nat_le, nat_lt, List, [], ◌∷◌, length, map, Option, Some, None, is_some, IsSomeAnd}
use Rattle.std.specs.FinMap.{get, len}
use Rattle.xa_base.specs.declared.branch.Branch.{Branch}
use Rattle.xa_base.specs.declared.branch.Gtrid.{Gtrid}
use Rattle.xa_log.specs.Content.{Content, with_bump, with_commit, without_decisions, with_heuristic_record, unchanged}
use Rattle.xa_log.specs.Contract.{Makes}
use Rattle.xa_log.specs.declared.decision_log.DecisionLog as DecisionLog
use Rattle.xa_log.specs.declared.decision_log.LogCall.TheVariants.{Bump, Rows}
use Rattle.xa_model.specs.Facts.Distinct.{EachOnce}
use Rattle.xa_tm.specs.Book.{Book, Waiting, Doubt, Doubt.Adds, Doubt.Drops, Doubt.Records, Doubt.NoDoubt, records_with}

-- the content has the book's rows, with their participants, and its record
pub record HoldsBook (k : Book) (c : Content) : Type 0 where
  pub rows : (g : Gtrid) → get c.decisions g ≡ k.row g
  pub row_number : len c.decisions ≡ k.rows
  pub records : (b : Branch) → get c.heuristics b ≡ k.recorded b
  pub record_number : len c.heuristics ≡ k.records

-- what a change makes of a content: of several rows for one transaction, the first stays
abbrev pub with_rows : List (Gtrid × Waiting) → Content → Content
with_rows [] c = c
with_rows (x ∷ xs) c = with_rows xs (with_commit x.0 x.1 c)

abbrev pub changed_by : Doubt → Content → Content
changed_by (Adds xs) c = with_rows xs c
changed_by (Drops gs) c = without_decisions gs c
changed_by (Records b how) c = with_heuristic_record b how c
changed_by NoDoubt c = c

-- the content has the rows and the record of another
pub record SameRowsAndRecords (c d : Content) : Type 0 where
  pub decisions : c.decisions ≡ d.decisions
  pub heuristics : c.heuristics ≡ d.heuristics

-- the change is one of these rows: those that it adds are not there, those that it takes away are,
-- and none comes twice
abbrev pub IsChangeOf : (Gtrid → Option Waiting) → Doubt → Type 0
IsChangeOf row (Adds xs) = EachOnce (λ g. row g ≡ None) (map (λ (x : Gtrid × Waiting). x.0) xs)
IsChangeOf row (Drops gs) = EachOnce (λ g. is_some (row g) ≡ true) gs
IsChangeOf row _ = Unit

-- the content has the book's rows and record, or those with the change in doubt
abbrev pub MayHold : Book → Content → Type 0
MayHold k c = (before : Content) × HoldsBook k before
    × (SameRowsAndRecords c before ⊎ (IsChangeOf k.row k.doubt × SameRowsAndRecords c (changed_by k.doubt before)))

-- the content is of an incarnation that the book's restarts may have left
pub record IsReached (k : Book) (c : Content) : Type 0 where
  pub least : k.incarnation ≤ c.incarnation
  pub most : c.incarnation ≤ k.incarnation + k.failed_restarts

-- the log has just what the book says, its incarnation with it
pub record IsTiedUp (k : Book) (c : Content) : Type 0 where
  pub holds : HoldsBook k c
  pub incarnation : c.incarnation ≡ k.incarnation

-- the log, if it isn't shut, has what the book says with or without the change in doubt; a near one
-- is of an incarnation that a restart may follow, if one that was put in may be of any
pub record IsTiedDown (near : Bool) (k : Book) (c : Content) : Type 0 where
  pub holds : MayHold k c
  pub incarnation : near ≡ true → IsReached k c

abbrev pub TiedBy : (up near : Bool) → Book → Option Content → Type 0
TiedBy true near k log = IsSomeAnd log (IsTiedUp k)
TiedBy false near k log = (c : Content) → log ≡ Some c → IsTiedDown near k c

-- the book and what its log holds agree: exactly while the manager is up, except for the change in
-- doubt while it is down
abbrev pub IsTied : (near : Bool) → Book → Option Content → Type 0
IsTied near k log = TiedBy k.up near k log

-- the log was there and has the change, or there was none to make
abbrev pub MakesOf : Doubt → Option Content → Option Content → Type 0
MakesOf NoDoubt old new = new ≡ old
MakesOf d old new = Makes (changed_by d) old new

-- what a restart finds in a log: the next incarnation, and the numbers of rows and of records
pub record FoundIn (i d h : ℕ) (c : Content) : Type 0 where
  pub incarnation : i ≡ c.incarnation + 1
  pub rows : d ≡ len c.decisions
  pub records : h ≡ len c.heuristics

-- a log's rows were read and its incarnation raised, in this order, and these numbers are those
-- that it had
pub record IsReadFrom {L : Type 0} (logs : DecisionLog.Ghosts L) (i d h : ℕ) (old new : L) : Type 0 where
  pub between : L
  pub rows : logs.says Rows unchanged old between None
  pub raised : logs.says Bump with_bump between new None
  pub found : (logs.moment old).is_in_order → (logs.moment new).is_honest → IsSomeAnd (logs.moment old).content (FoundIn i d h)

-- the numbers that a restart may find: the next incarnation after one that the failures since may
-- have reached, and those of the book, or of the book with the change in doubt. A record of a
-- branch that has one adds none
abbrev pub rows_of : Doubt → ℕ → ℕ
rows_of (Adds xs) n = n + length xs
rows_of (Drops gs) n = n - length gs
rows_of _ n = n

pub record IsFound (k : Book) (i d h : ℕ) : Type 0 where
  pub greater : k.incarnation < i
  pub most : i ≤ k.incarnation + 1 + k.failed_restarts
  pub rows : (d ≡ k.rows) ⊎ (d ≡ rows_of k.doubt k.rows)
  pub records : (h ≡ k.records) ⊎ (h ≡ records_with k k.doubt k.records)

-- whether a restart may find these numbers
abbrev pub may_find : Book → (i d h : ℕ) → Bool
may_find k i d h = (nat_lt k.incarnation i && nat_le (i - k.incarnation - 1) k.failed_restarts)
    && ((nat_eq d k.rows || nat_eq d (rows_of k.doubt k.rows))
    && (nat_eq h k.records || nat_eq h (records_with k k.doubt k.records)))
