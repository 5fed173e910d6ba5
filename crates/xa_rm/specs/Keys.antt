-- Identifiers as keys of a table by hash.
use Rattle.std.specs.Prelude.{◌≡◌, true, [], ◌∷◌, ◌++◌}
use Rattle.std.specs.Cmp.{IsEquivalence}
use Rattle.std.specs.Hash.{HashWrites, i32}
use Rattle.std.proofs.Common.{ap}
use Rattle.std.proofs.lemmas.Cmp.{eq_by_cmp_equiv}
use Rattle.xa_base.proofs.XidOrder.{xid_eq-same}
use Rattle.xa_base.specs.Xid.{Xid, xid_cmp_total, xid_eq}

-- what an identifier feeds a hasher: its format, and then the bytes of either part
abbrev pub xid_writes : Xid → HashWrites
xid_writes x = i32 x.format ++ x.gtrid ∷ x.bqual ∷ []

-- ** the laws that a key owes

pub xid_eq_equiv : IsEquivalence xid_eq
xid_eq_equiv = eq_by_cmp_equiv xid_cmp_total

-- the same identifier feeds the same
pub same_writes : (x y : Xid) → xid_eq x y ≡ true → xid_writes x ≡ xid_writes y
same_writes x y same = ap xid_writes (xid_eq-same x y same)
