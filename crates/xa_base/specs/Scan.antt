-- Recovery scans: the page that xa_recover lists, and where the scan then stands (XA, chapter 5,
-- xa_recover). Over any entries in an order, of which the identifiers in doubt at a resource
-- manager are one case.
use Rattle.std.specs.Prelude.{ℤ, pos, List, [], ◌∷◌, Bool, true, false, Option, Some, None, filter, take}
use Rattle.std.specs.declared.cmp.Ordering.{Ordering}
use Rattle.std.specs.Ordering.{is_lt}

-- where a thread's scan stands: not open, or after the entry that it listed last, which is none at
-- the start
pub data Scan (X : Type 0) : Type 0 where
  NotOpen : Scan X
  Behind : Option X → Scan X

-- after which entry a call reads: at the start if it asks for that, else where the scan stands;
-- nowhere, if none is open
abbrev pub reads_from : {X : Type 0} → Scan X → (start : Bool) → Option (Option X)
reads_from scan true = Some None
reads_from NotOpen false = None
reads_from (Behind last) false = Some last

-- the entries after a place in the order
abbrev pub behind : {X : Type 0} → (X → X → Ordering) → Option X → List X → List X
behind cmp None xs = xs
behind cmp (Some last) xs = filter (λ x. is_lt (cmp last x)) xs

-- the first `count` entries after the place; no page if the count is negative or no scan is open
abbrev pub page_of : {X : Type 0} → (X → X → Ordering) → (count : ℤ) → Option (Option X) → List X → Option (List X)
page_of cmp (pos n) (Some last) xs = Some (take n (behind cmp last xs))
page_of cmp count from xs = None

-- the last entry of a page; that before it, if the page lists none
abbrev pub last_of : {X : Type 0} → Option X → List X → Option X
last_of last [] = last
last_of last (x ∷ xs) = last_of (Some x) xs

-- where the scan stands after a page, which the call may end
abbrev pub left_at : {X : Type 0} → Option (Option X) → (end : Bool) → List X → Scan X
left_at (Some last) false page = Behind (last_of last page)
left_at from end page = NotOpen

-- where it stands after a call: as before, if that gave no page
abbrev pub scan_after : {X : Type 0} → Scan X → (start end : Bool) → Option (List X) → Scan X
scan_after scan start end (Some page) = left_at (reads_from scan start) end page
scan_after scan start end None = scan
