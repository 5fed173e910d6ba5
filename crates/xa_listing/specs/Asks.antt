-- What a log asks of an operator, as text.
use Rattle.std.specs.Prelude.{ℕ, zero, suc, List, [], ◌∷◌, ◌++◌, codes, length, Option, IsSomeAnd}
use Rattle.std.specs.FinMap.{entries, keys}
use Rattle.std.specs.Fmt.{decimal}
use Rattle.std.specs.Io.KnownBytes.{Appends}
use Rattle.std.specs.List.{flat_map}
use Rattle.xa_base.specs.Branch.{gtrid_text, xid_of_branch}
use Rattle.xa_base.specs.Xid.{text_of}
use Rattle.xa_base.specs.declared.branch.Branch.{Branch}
use Rattle.xa_base.specs.declared.branch.Gtrid.{Gtrid}
use Rattle.xa_base.specs.declared.code.How.{How}
use Rattle.xa_files.specs.Outputs.{AppendsBeginning}
use Rattle.xa_listing.specs.Ends.{lists_decision, own_end_line}
use Rattle.xa_listing.specs.Lines.{row_lines}
use Rattle.xa_listing.specs.Statements.{mariadb_commit, postgresql_commit}
use Rattle.xa_log.specs.Content.{Content, all_listed}
use Rattle.xa_log.specs.KeySet.{items}

-- ** of a transaction that is decided to commit

-- that its row waits for so many branches
abbrev pub waits_text : ℕ → List ℕ
waits_text zero = codes "names no branch."
waits_text (suc zero) = codes "waits for 1 branch:"
waits_text (suc (suc more)) = codes "waits for " ++ decimal (suc (suc more)) ++ codes " branches:"

abbrev pub waits_line : Gtrid → ℕ → List ℕ
waits_line g count = gtrid_text g ++ codes " is decided to commit, and its row " ++ waits_text count ++ codes "\n"

-- where one of them is
abbrev pub place_line : Branch → List ℕ
place_line b = codes "    " ++ text_of (xid_of_branch b) ++ codes " at resource manager " ++ decimal b.rm ++ codes "\n"

-- a statement of a database
abbrev pub statement_line : (database statement : List ℕ) → List ℕ
statement_line database statement = codes "        " ++ database ++ codes ": " ++ statement ++ codes "\n"

-- and the statements that commit it, as the manager of this name names it
abbrev pub commit_lines : (manager : List ℕ) → Branch → List ℕ
commit_lines manager b =
    place_line b ++ statement_line (codes "PostgreSQL") (postgresql_commit manager (xid_of_branch b))
    ++ statement_line (codes "MariaDB") (mariadb_commit manager (xid_of_branch b))

abbrev pub decision_asks : (manager : List ℕ) → Gtrid → List Branch → List ℕ
decision_asks manager g branches = waits_line g (length branches) ++ flat_map (commit_lines manager) branches

-- ** of all that a log has

-- of each branch that its resource manager has ended by itself
abbrev pub ends_asked : List Gtrid → List (Branch × How) → List ℕ
ends_asked decisions = flat_map (λ row. own_end_line row (lists_decision decisions row.0.gtrid))

-- what ends the branches that are waited for, if there are some
abbrev pub hint : List Branch → List ℕ
hint [] = []
hint (b ∷ bs) =
    codes "A service over this log commits these branches at its next start, and each as soon as its database is back. "
    ++ codes "By hand it is done only where that can't wait, and where the database still lists the branch: "
    ++ codes "in pg_prepared_xacts, or by XA RECOVER. Nothing waits for a row that xatm run or xatm threads left: "
    ++ codes "its branches ended with that program.\n"

abbrev pub or_nothing : List ℕ → List ℕ
or_nothing [] = codes "Nothing waits: the log has no row and no record.\n"
or_nothing (c ∷ cs) = c ∷ cs

-- the decisions beside the participants of all of them, as a log lists its rows
abbrev pub rows_asks : (manager : List ℕ) → List Gtrid → List Branch → List (Branch × How) → List ℕ
rows_asks manager decisions participants heuristics =
    or_nothing (row_lines (decision_asks manager) decisions participants ++ ends_asked decisions heuristics ++ hint participants)

-- For each transaction that is decided to commit the branches that its row waits for, with the statements that commit them; and for each
-- branch that its resource manager has ended by itself, what there is to do. Both are in the order of the identifiers.
abbrev pub log_asks : (manager : List ℕ) → Content → List ℕ
log_asks manager c =
    or_nothing (flat_map (λ row. decision_asks manager row.0 (items row.1)) (entries c.decisions)
    ++ ends_asked (keys c.decisions) (entries c.heuristics) ++ hint (all_listed (entries c.decisions)))

-- what was written is that of the log that was there
abbrev pub PrintsAsks : (manager : List ℕ) → Option Content → (old new : Option (List ℕ)) → Type 0
PrintsAsks manager content old new = IsSomeAnd content (λ c. Appends old new (log_asks manager c))

-- what was written is a beginning of that
abbrev pub BeginsAsks : (manager : List ℕ) → Option Content → (old new : Option (List ℕ)) → Type 0
BeginsAsks manager content old new = IsSomeAnd content (λ c. AppendsBeginning old new (log_asks manager c))
