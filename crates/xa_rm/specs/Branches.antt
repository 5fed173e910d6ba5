-- The table of branches and its index.
use Rattle.std.specs.Prelude.{◌≡◌, Bool, if◌then◌else◌, Option, Some, None}
use Rattle.std.specs.BTreeSet.{BTreeSet, contains}
use Rattle.std.specs.HashMap.{HashMap, get}
use Rattle.xa_base.specs.HeldBranch.{HeldBranch, new_branch}
use Rattle.xa_base.specs.Standing.{is_in_doubt}
use Rattle.xa_base.specs.Xid.{Xid, xid_cmp, xid_eq}
use Rattle.xa_rm.specs.TableEntries.{held_branch}
use Rattle.xa_rm.specs.declared.table_entry.TableEntry.{TableEntry}

-- the branch of an entry that may be missing
abbrev pub branch_or_new : Option TableEntry → HeldBranch
branch_or_new None = new_branch
branch_or_new (Some h) = held_branch h

-- the branch that a table holds of an identifier
abbrev pub held_at : {S : Type 0} → HashMap Xid TableEntry S → Xid → HeldBranch
held_at table x = branch_or_new (get xid_eq table x)

-- the index has just the identifiers in doubt
pub record IsIndex {S : Type 0} (table : HashMap Xid TableEntry S) (index : BTreeSet Xid) : Type 0 where
  pub indexed : (x : Xid) → contains xid_cmp index x ≡ is_in_doubt (held_at table x).standing

-- the index lists x if this holds, and every other identifier as before
abbrev pub ListsIf : (old new : BTreeSet Xid) → Xid → Bool → Type 0
ListsIf old new x is_listed = (y : Xid) → contains xid_cmp new y ≡ (if xid_eq x y then is_listed else contains xid_cmp old y)
