-- The name of a manager, and the identifiers that stand for each other under it.
use Rattle.std.specs.Prelude.{◌≡◌, ◌≤◌, ℕ, ℤ, Bool, true, ◌&&◌, ◌||◌, ◌==◌, nat_eq, nat_le, if◌then◌else◌, List, [], ◌∷◌, ◌++◌, length, drop}
use Rattle.std.specs.List.{list_all, starts_with}
use Rattle.std.specs.Ordering.{int_eq}
use Rattle.xa_base.specs.Branch.{own_format, xid_of_branch}
use Rattle.xa_base.specs.Xid.{Xid}
use Rattle.xa_base.specs.declared.branch.Branch.{Branch}
use Rattle.xa_names.specs.declared.manager_name.TheConstants.{NAME_LEN}

-- a letter, a digit, `_` or `-`
abbrev pub is_manager_name_byte : ℕ → Bool
is_manager_name_byte c = (nat_le 48 c && nat_le c 57) || (nat_le 65 c && nat_le c 90) || (nat_le 97 c && nat_le c 122) || (c == 95) || (c == 45)

-- a name; a manager without one has the empty name
pub record IsName (name : List ℕ) : Type 0 where
  pub short : length name ≤ NAME_LEN
  pub bytes : list_all is_manager_name_byte name ≡ true

-- the text is a name: it isn't empty
abbrev pub is_manager_name : List ℕ → Bool
is_manager_name text = nat_le 1 (length text) && (nat_le (length text) NAME_LEN && list_all is_manager_name_byte text)

-- ** identifiers

-- the name stands in front of the transaction
abbrev pub with_name : List ℕ → Xid → Xid
with_name name x = record { format = x.format; gtrid = name ++ x.gtrid; bqual = x.bqual }

abbrev pub without_name : List ℕ → Xid → Xid
without_name name x = record { format = x.format; gtrid = drop (length name) x.gtrid; bqual = x.bqual }

-- the shape of an identifier that a manager without a name gives out
abbrev pub is_bare_of : ℤ → (gtrid bqual : List ℕ) → Bool
is_bare_of format gtrid bqual = int_eq format own_format && (nat_eq (length gtrid) 16 && nat_eq (length bqual) 8)

abbrev pub is_bare : Xid → Bool
is_bare x = is_bare_of x.format x.gtrid x.bqual

-- the shape of an identifier that a manager of this name gives out
abbrev pub has_name : List ℕ → Xid → Bool
has_name name x = starts_with nat_eq x.gtrid name && is_bare (without_name name x)

-- The identifier that stands for this one at a manager of this name. Identifiers that a manager
-- without a name gives out, and those that one of this name gives out, stand for each other; any
-- other stands for itself.
abbrev pub renamed : List ℕ → Xid → Xid
renamed name x = if is_bare x then with_name name x else if has_name name x then without_name name x else x

-- it has the shape of those that a manager of this name gives out: the name stands in front of one
-- that a manager without a name would
pub record IsUnder (name : List ℕ) (x : Xid) : Type 0 where
  pub bare : Xid
  pub shape : is_bare bare ≡ true
  pub named : x ≡ with_name name bare

-- the identifier that a manager of this name gives to a branch
abbrev pub xid_under : List ℕ → Branch → Xid
xid_under name b = with_name name (xid_of_branch b)
