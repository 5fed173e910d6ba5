-- Whether the rows of a log that is put in are those of the book, without the change in doubt or
-- with it.
use Rattle.std.specs.Prelude.{ℕ, ◌+◌, Bool, true, false, not, ◌≡◌, ◌&&◌, ◌||◌, length, if◌then◌else◌, Option, Some, None, is_some, List, [], ◌∷◌, unwrap_or, nat_eq}
use Rattle.std.specs.Global.{Vec}
use Rattle.std.specs.BTreeMap.{BTreeMap, get}
use Rattle.std.specs.List.{list_all, list_any}
use Rattle.xa_base.specs.Branch.{gtrid_cmp, gtrid_eq, branch_eq}
use Rattle.xa_base.specs.declared.branch.Branch.{Branch}
use Rattle.xa_base.specs.declared.branch.Gtrid.{Gtrid}
use Rattle.xa_base.specs.declared.code.How.{How}
use Rattle.xa_base.specs.declared.code.How.TheVariants.{Haz, Com, Rb, Mix}
use Rattle.xa_log.specs.declared.decision.Decision.{Decision}
use Rattle.xa_log.specs.declared.log_rows.LogRows.{LogRows}
use Rattle.xa_model.specs.Facts.{has_gtrid}
use Rattle.xa_tm.specs.LedgerBook.{notes_at, as_book, gtrids_of}
use Rattle.xa_tm.specs.Starting.{ended_among, loaded, start_book}
use Rattle.xa_tm.specs.declared.change.Change.{Change}
use Rattle.xa_tm.specs.declared.change.Change.TheVariants.{AddRows, DropRows, AddRecord, Nothing}
use Rattle.xa_tm.specs.declared.ledger.Ledger.{Ledger}
use Rattle.xa_tm.specs.declared.notes.BranchNotes.{BranchNotes}

-- the row of a transaction, as it is kept
abbrev pub kept_row : BTreeMap Gtrid (Option (Vec Branch)) → Gtrid → Option (Vec Branch)
kept_row m g = unwrap_or (get gtrid_cmp m g) None

-- whether a branch is among these
abbrev pub is_branch_among : Branch → List Branch → Bool
is_branch_among b bs = list_any (λ c. branch_eq c b) bs

abbrev pub are_among : (branches others : List Branch) → Bool
are_among bs cs = list_all (λ b. is_branch_among b cs) bs

-- whether two lists are of the same branches
abbrev pub same_branches : List Branch → List Branch → Bool
same_branches bs cs = are_among bs cs && are_among cs bs

-- whether a row is there and names exactly these branches
abbrev pub names_just : Option (Vec Branch) → List Branch → Bool
names_just (Some v) bs = same_branches v.items bs
names_just None bs = false

-- whether a row is there in both with the same branches, or in neither
abbrev pub same_row : (own : Option (Vec Branch)) → (read : Option (Vec Branch)) → Bool
same_row own (Some v) = names_just own v.items
same_row own None = not (is_some own)

-- whether two ends are the same
abbrev pub how_eq : How → How → Bool
how_eq Haz Haz = true
how_eq Com Com = true
how_eq Rb Rb = true
how_eq Mix Mix = true
how_eq _ _ = false

-- whether a branch is recorded so
abbrev pub is_how : Option How → How → Bool
is_how (Some h) how = how_eq h how
is_how None how = false

abbrev pub same_how : (own read : Option How) → Bool
same_how own (Some h) = is_how own h
same_how own None = not (is_some own)

-- whether a row is what the first of these decisions on the transaction makes; if there is none, as
-- is said
abbrev pub decided_agrees : List Decision → Option (Vec Branch) → Gtrid → (same : Bool) → Bool
decided_agrees [] read g same = same
decided_agrees (d ∷ ds) read g same = if gtrid_eq d.gtrid g then names_just read d.participants.items else decided_agrees ds read g same

-- whether a row is gone, if the transaction is one of these; if it isn't, as is said
abbrev pub dropped_agrees : List Gtrid → Option (Vec Branch) → Gtrid → (same : Bool) → Bool
dropped_agrees gs read g same = if has_gtrid gs g then not (is_some read) else same

-- whether what is read of a transaction's row is what the book has, with its change in doubt or
-- without it
abbrev pub row_agrees_with : Change → (own : BTreeMap Gtrid (Option (Vec Branch))) → (read : BTreeMap Gtrid (Option (Vec Branch))) → Gtrid → Bool
row_agrees_with (AddRows v) own read g = decided_agrees v.items (kept_row read g) g (same_row (kept_row own g) (kept_row read g))
row_agrees_with (DropRows h others) own read g =
    dropped_agrees (h ∷ others.items) (kept_row read g) g (same_row (kept_row own g) (kept_row read g))
row_agrees_with _ own read g = same_row (kept_row own g) (kept_row read g)

abbrev pub row_agrees : (is_made : Bool) → (k n : Ledger) → Gtrid → Bool
row_agrees true k n g = row_agrees_with k.doubt k.rows n.rows g
row_agrees false k n g = same_row (kept_row k.rows g) (kept_row n.rows g)

-- the same of how a branch is recorded
abbrev pub end_agrees_with : Change → (own read : Option How) → Branch → Bool
end_agrees_with (AddRecord c how) own read b =
    if branch_eq c b then is_how read how && not (is_some own) else same_how own read
end_agrees_with _ own read b = same_how own read

abbrev pub end_agrees : (is_made : Bool) → (k n : Ledger) → Branch → Bool
end_agrees true k n b = end_agrees_with k.doubt (notes_at k.branches b).recorded (notes_at n.branches b).recorded b
end_agrees false k n b = same_how (notes_at k.branches b).recorded (notes_at n.branches b).recorded

-- whether each of these transactions is so, and none comes twice
abbrev pub each_once : (Gtrid → Bool) → List Gtrid → Bool
each_once is_so [] = true
each_once is_so (g ∷ gs) = is_so g && (not (has_gtrid gs g) && each_once is_so gs)

abbrev pub lacks_row : Ledger → Gtrid → Bool
lacks_row k g = not (is_some (kept_row k.rows g))

abbrev pub keeps_row : Ledger → Gtrid → Bool
keeps_row k g = is_some (kept_row k.rows g)

-- and of what the change in doubt is of, which it can make
abbrev pub change_agrees_with : Change → (k n : Ledger) → Bool
change_agrees_with (AddRows v) k n = each_once (lacks_row k) (gtrids_of v.items) && list_all (λ (d : Decision). row_agrees true k n d.gtrid) v.items
change_agrees_with (DropRows g others) k n =
    each_once (keeps_row k) (g ∷ others.items) && list_all (row_agrees true k n) (g ∷ others.items)
change_agrees_with (AddRecord b how) k n = end_agrees true k n b
change_agrees_with Nothing k n = false

abbrev pub change_agrees : (is_made : Bool) → (k n : Ledger) → Bool
change_agrees true k n = change_agrees_with k.doubt k n
change_agrees false k n = true

-- and of the number of rows
abbrev pub rows_agree_with : Change → (own read : ℕ) → Bool
rows_agree_with (AddRows v) own read = nat_eq read (own + length v.items)
rows_agree_with (DropRows g others) own read = nat_eq (read + (length others.items + 1)) own
rows_agree_with _ own read = nat_eq read own

abbrev pub records_agree_with : Change → (own read : ℕ) → Bool
records_agree_with (AddRecord b how) own read = nat_eq read (own + 1)
records_agree_with _ own read = nat_eq read own

abbrev pub counts_agree : (is_made : Bool) → (k n : Ledger) → Bool
counts_agree true k n = rows_agree_with k.doubt k.row_count n.row_count && records_agree_with k.doubt k.records n.records
counts_agree false k n = nat_eq n.row_count k.row_count && nat_eq n.records k.records

-- the same of each of these
abbrev pub rows_agree_at : (is_made : Bool) → (k n : Ledger) → BTreeMap Gtrid (Option (Vec Branch)) → Bool
rows_agree_at is_made k n m = list_all (λ (e : Gtrid × Option (Vec Branch)). row_agrees is_made k n e.0) m.entries

abbrev pub ends_agree_at : (is_made : Bool) → (k n : Ledger) → BTreeMap Branch BranchNotes → Bool
ends_agree_at is_made k n m = list_all (λ (e : Branch × BranchNotes). end_agrees is_made k n e.0) m.entries

-- of all that is there on either side
abbrev pub rows_agree : (is_made : Bool) → (k n : Ledger) → Bool
rows_agree is_made k n = rows_agree_at is_made k n k.rows && rows_agree_at is_made k n n.rows

abbrev pub ends_agree : (is_made : Bool) → (k n : Ledger) → Bool
ends_agree is_made k n = ends_agree_at is_made k n k.branches && ends_agree_at is_made k n n.branches

-- whether all that is read is what the book has, with its change in doubt or without it
abbrev pub agrees : (is_made : Bool) → (k n : Ledger) → Bool
agrees is_made k n =
    counts_agree is_made k n && (change_agrees is_made k n && (rows_agree is_made k n && ends_agree is_made k n))

-- whether the rows that were read are those of the book, with its change in doubt or without it
pub record ReadsOf (k : Ledger) (rows : LogRows) (may : Bool) : Type 0 where
  pub read : Ledger
  pub book : as_book read ≡ start_book k.threads k.rms 0 (loaded rows.decisions.items rows.participants.items)
      (length rows.decisions.items) (ended_among rows.heuristics.items) (length rows.heuristics.items)
  pub agree : may ≡ (agrees false k read || agrees true k read)
