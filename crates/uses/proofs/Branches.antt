-- An identifier is the same as itself.
use Rattle.std.proofs.Common.{◌≡◌, true}
use Rattle.xa_base.proofs.XidOrder.{xid_eq-refl}
use Rattle.xa_base.specs.Xid.{Xid, xid_eq}

pub same : (x : Xid) → xid_eq x x ≡ true
same = xid_eq-refl
