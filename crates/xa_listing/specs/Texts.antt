-- A log as text.
use Rattle.std.specs.Prelude.{ℕ, List, ◌++◌, codes, length, Option, IsSomeAnd}
use Rattle.std.specs.FinMap.{entries}
use Rattle.std.specs.Fmt.{decimal}
use Rattle.std.specs.Io.KnownBytes.{Appends}
use Rattle.std.specs.List.{flat_map}
use Rattle.xa_base.specs.Branch.{branch_cmp, gtrid_text, xid_of_branch}
use Rattle.xa_base.specs.declared.branch.Branch.{Branch}
use Rattle.xa_base.specs.declared.branch.Gtrid.{Gtrid}
use Rattle.xa_base.specs.declared.code.How.{How}
use Rattle.xa_base.specs.declared.state.Fate.TheVariants.{Heuristic}
use Rattle.xa_files.specs.Fates.{fate_line}
use Rattle.xa_files.specs.Outputs.{AppendsBeginning}
use Rattle.xa_log.specs.Content.{Content}
use Rattle.xa_log.specs.KeySet.{KeySet, items}

-- a transaction, and how many branches it waits for
abbrev pub count_line : Gtrid → ℕ → List ℕ
count_line g count = gtrid_text g ++ codes " " ++ decimal count ++ codes "\n"

-- a transaction that is decided to commit, with its participants
abbrev pub decision_line : Gtrid × KeySet branch_cmp → List ℕ
decision_line row = count_line row.0 (length (items row.1))

-- a branch that is recorded as heuristic, with its end
abbrev pub heuristic_line : Branch × How → List ℕ
heuristic_line row = fate_line (xid_of_branch row.0, Heuristic row.1)

-- a line for each decision, and then one for each heuristic end; both in the order of the
-- identifiers
abbrev pub log_text : Content → List ℕ
log_text c =
    flat_map decision_line (entries c.decisions)
    ++ flat_map heuristic_line (entries c.heuristics)

-- what was written is the text of the log that was there
abbrev pub PrintsLog : Option Content → (old new : Option (List ℕ)) → Type 0
PrintsLog content old new = IsSomeAnd content (λ c. Appends old new (log_text c))

-- what was written is a beginning of that
abbrev pub BeginsLog : Option Content → (old new : Option (List ℕ)) → Type 0
BeginsLog content old new = IsSomeAnd content (λ c. AppendsBeginning old new (log_text c))
