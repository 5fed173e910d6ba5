-- Where the recovery scans of threads stand.
use Rattle.std.specs.Prelude.{ℕ, Option, Some, None}
use Rattle.std.specs.BTreeMap.{BTreeMap, get}
use Rattle.std.specs.Ordering.{nat_cmp}
use Rattle.std.specs.declared.ops.Bound.{Bound}
use Rattle.std.specs.declared.ops.Bound.TheVariants.{Unbounded, Excluded}
use Rattle.xa_base.specs.Scan.{Scan, Scan.NotOpen, Scan.Behind}
use Rattle.xa_base.specs.Xid.{Xid}
use Rattle.xa_rm.specs.declared.scans.Cursor.{Cursor}
use Rattle.xa_rm.specs.declared.scans.Cursor.TheVariants as Cursors

-- the identifier after which a cursor stands: none at the start
abbrev pub place_of : Cursor → Option Xid
place_of Cursors.Start = None
place_of (Cursors.Behind x) = Some x

-- the bound of what stands after a cursor
abbrev pub bound_of : Cursor → Bound Xid
bound_of Cursors.Start = Unbounded
bound_of (Cursors.Behind x) = Excluded x

-- the scan of an entry that may be missing
abbrev pub scan_in : Option Cursor → Scan Xid
scan_in None = NotOpen
scan_in (Some cursor) = Behind (place_of cursor)

-- the scan of a thread
abbrev pub scan_at : BTreeMap ℕ Cursor → ℕ → Scan Xid
scan_at open_scans thread = scan_in (get nat_cmp open_scans thread)
