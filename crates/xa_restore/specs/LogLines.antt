-- The lines of a log.
use Rattle.std.specs.Prelude.{◌≡◌, ◌≤◌, false, ℕ, List, [], ◌∷◌, ◌++◌, codes, length, map, Option, Some, None}
use Rattle.std.specs.Fmt.{decimal}
use Rattle.std.specs.List.{AllByRecursion, AllPairs, flat_map}
use Rattle.std.specs.declared.cmp.Ordering.TheVariants.{Less}
use Rattle.xa_base.specs.Branch.{IsBranch, branch_eq, gtrid_cmp, gtrid_text, xid_of_branch}
use Rattle.xa_base.specs.Xid.{text_of}
use Rattle.xa_base.specs.declared.branch.Branch.{Branch}
use Rattle.xa_base.specs.declared.branch.Gtrid.{Gtrid}
use Rattle.xa_log.specs.Contract.{FitsRow}
use Rattle.xa_log.specs.declared.decision.Decision.{Decision}
use Rattle.xa_names.specs.Lines.{line_renamed}

-- how often the manager has started
abbrev pub incarnation_line : ℕ → List ℕ
incarnation_line n = codes "incarnation " ++ decimal n

-- the identifier of a branch
abbrev pub branch_xid_text : Branch → List ℕ
branch_xid_text b = text_of (xid_of_branch b)

-- and behind a space
abbrev pub branch_word : Branch → List ℕ
branch_word b = codes " " ++ branch_xid_text b

abbrev pub branch_words : List Branch → List ℕ
branch_words = flat_map branch_word

-- a transaction that is decided to commit, how many branches it waits for, and these
abbrev pub decision_row_line : Decision → List ℕ
decision_row_line d = gtrid_text d.gtrid ++ codes " " ++ decimal (length d.participants.items) ++ branch_words d.participants.items

-- the words of that line
abbrev pub decision_words : Decision → List (List ℕ)
decision_words d = gtrid_text d.gtrid ∷ decimal (length d.participants.items) ∷ map branch_xid_text d.participants.items

-- the participants are branches of the transaction
abbrev pub OwnsBranches : Decision → Type 0
OwnsBranches d = AllByRecursion (λ b. b.gtrid ≡ d.gtrid) d.participants.items

-- no branch is named twice
abbrev pub AreOnce : List Branch → Type 0
AreOnce = AllPairs (λ b c. branch_eq b c ≡ false)

-- different branches of a transaction
pub record AreBranchesOf (g : Gtrid) (bs : List Branch) : Type 0 where
  pub are : AllByRecursion IsBranch bs
  pub own : AllByRecursion (λ b. b.gtrid ≡ g) bs
  pub once : AreOnce bs

-- a decision that a log can hold: the numbers of its transaction fit into a row, and its participants are different branches of it
pub record IsRow (d : Decision) : Type 0 where
  pub fits : FitsRow d.gtrid
  pub participants : AreBranchesOf d.gtrid d.participants.items

-- what a decision states: its transaction, and its participants in turn
abbrev pub stated : Decision → Gtrid × List Branch
stated d = (d.gtrid, d.participants.items)

-- a transaction stands behind that of the line before it, if there is one
abbrev pub StandsBehind : Option Gtrid → Gtrid → Type 0
StandsBehind None g = Unit
StandsBehind (Some last) g = gtrid_cmp last g ≡ Less

-- so do those of all these decisions, in turn
abbrev pub RiseBehind : Option Gtrid → List Decision → Type 0
RiseBehind last [] = Unit
RiseBehind last (d ∷ ds) = StandsBehind last d.gtrid × RiseBehind (Some d.gtrid) ds

-- the transactions rise, so that none has two decisions
abbrev pub Rise : List Decision → Type 0
Rise = RiseBehind None

-- the transaction of the last decision, or else the one that comes before all of them
abbrev pub last_behind : Option Gtrid → List Decision → Option Gtrid
last_behind last [] = last
last_behind last (d ∷ ds) = last_behind (Some d.gtrid) ds

-- the decisions of a log of this incarnation: each is a row of it, of a transaction that has begun, and the transactions rise
pub record AreRowsOf (n : ℕ) (decisions : List Decision) : Type 0 where
  pub rows : AllByRecursion IsRow decisions
  pub started : AllByRecursion (λ d. d.gtrid.incarnation ≤ n) decisions
  pub rise : Rise decisions

-- These are the lines of a log of this incarnation with these decisions, whose manager has this name: the incarnation; a line for each
-- decision, as this manager means it; and `end`, so that lines that were cut off are those of no log.
pub record AreLogLinesOf (name : List ℕ) (lines : List (List ℕ)) (n : ℕ) (decisions : List Decision) : Type 0 where
  pub rows : List (List ℕ)
  pub whole : lines ≡ incarnation_line n ∷ rows ++ codes "end" ∷ []
  pub meant : map (line_renamed name) rows ≡ map decision_row_line decisions
