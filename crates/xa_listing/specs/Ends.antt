-- What there is to do about a branch that its resource manager has ended by itself.
use Rattle.std.specs.Prelude.{ℕ, Bool, true, false, List, ◌++◌, codes}
use Rattle.std.specs.Fmt.{decimal}
use Rattle.std.specs.List.{list_any}
use Rattle.xa_base.specs.Branch.{gtrid_eq, xid_of_branch}
use Rattle.xa_base.specs.Xid.{text_of}
use Rattle.xa_base.specs.declared.branch.Branch.{Branch}
use Rattle.xa_base.specs.declared.branch.Gtrid.{Gtrid}
use Rattle.xa_base.specs.declared.code.How.{How}
use Rattle.xa_base.specs.declared.code.How.TheVariants.{Com, Rb, Mix, Haz}

-- whether a transaction has a row among these
abbrev pub lists_decision : List Gtrid → Gtrid → Bool
lists_decision decisions g = list_any (λ h. gtrid_eq h g) decisions

-- what the end is to a decision to commit
abbrev pub against_commit : How → List ℕ
against_commit Com = codes "committed, as was decided: nothing is left to do"
against_commit Rb = codes "rolled back, against the decision to commit: do its work again there, or undo that of the other branches"
against_commit Mix = codes "committed in part, and the rest rolled back against the decision to commit: look which part is lacking there"
against_commit Haz = codes "perhaps rolled back, against the decision to commit: look what is there"

-- what it is to a transaction without a row
abbrev pub without_row : How → List ℕ
without_row Com = codes "committed. Its transaction has no row: it was rolled back, or is committed and over. "
    ++ codes "If another branch of it is rolled back, undo the work of this one"
without_row Rb = codes "rolled back. Its transaction has no row: it was rolled back, or is committed and over. "
    ++ codes "If another branch of it is committed, do the work of this one again"
without_row Mix = codes "committed in part. Its transaction has no row: it was rolled back, or is committed and over. "
    ++ codes "Look how another branch of it ended, and make this one alike"
without_row Haz = codes "perhaps ended. Its transaction has no row: it was rolled back, or is committed and over. "
    ++ codes "Look what is there, and how another branch of it ended"

abbrev pub own_end_text : How → (is_listed : Bool) → List ℕ
own_end_text how true = against_commit how
own_end_text how false = without_row how

abbrev pub own_end_line : Branch × How → (is_listed : Bool) → List ℕ
own_end_line row is_listed =
    text_of (xid_of_branch row.0) ++ codes " was ended by resource manager " ++ decimal row.0.rm
    ++ codes " itself: " ++ own_end_text row.1 is_listed ++ codes "\n"
