-- Lists of rows, of records, of branches and of transactions that name nothing twice, so that their lengths count what they name.
use Rattle.std.specs.Prelude.{◌≡◌, List, [], ◌∷◌, map, true, false}
use Rattle.xa_model.specs.Facts.{Change, Change.AddRows, Change.DropRows, lists_row, has_gtrid, has_record, has_branch}
use Rattle.xa_model.specs.Trace.{Gtrid, Branch, Row, Recorded}

-- no transaction has two of these rows
abbrev pub ApartRows : List Row → Type 0
ApartRows [] = Unit
ApartRows (x ∷ xs) = (lists_row xs x.gtrid ≡ false) × ApartRows xs

-- no branch has two of these records
abbrev pub ApartRecords : List Recorded → Type 0
ApartRecords [] = Unit
ApartRecords (x ∷ xs) = (has_record xs x.branch ≡ false) × ApartRecords xs

-- none of these branches comes twice
abbrev pub ApartBranches : List Branch → Type 0
ApartBranches [] = Unit
ApartBranches (b ∷ bs) = (has_branch bs b ≡ false) × ApartBranches bs

-- each of these transactions is so, and none comes twice
abbrev pub EachOnce : (Gtrid → Type 0) → List Gtrid → Type 0
EachOnce IsSo [] = Unit
EachOnce IsSo (g ∷ gs) = IsSo g × (has_gtrid gs g ≡ false) × EachOnce IsSo gs

-- a change is new to these rows: those that it adds are of transactions without one, those that it drops are there, and none
-- comes twice
abbrev pub IsNewTo : List Row → Change → Type 0
IsNewTo rows (AddRows xs) = EachOnce (λ g. lists_row rows g ≡ false) (map (λ (x : Row). x.gtrid) xs)
IsNewTo rows (DropRows gs) = EachOnce (λ g. lists_row rows g ≡ true) gs
IsNewTo rows _ = Unit
