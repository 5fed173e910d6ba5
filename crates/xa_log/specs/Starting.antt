-- Over which rows and records a manager can start.
use Rattle.std.specs.Prelude.{ℕ, Bool, true, ◌&&◌, nat_le, nat_lt, List, [], ◌∷◌, map, Option, Some, None}
use Rattle.std.specs.List.{list_all}
use Rattle.std.specs.Ordering.{is_lt}
use Rattle.std.specs.declared.cmp.Ordering.{Ordering}
use Rattle.xa_base.specs.Branch.{branch_cmp, gtrid_cmp}
use Rattle.xa_base.specs.declared.branch.Branch.{Branch}
use Rattle.xa_base.specs.declared.branch.Gtrid.{Gtrid}
use Rattle.xa_base.specs.declared.code.How.{How}
use Rattle.xa_log.specs.Content.{last_number}

-- ** lists in ascending order

-- it stands behind another, if there is one
abbrev pub is_behind : {X : Type 0} → (X → X → Ordering) → Option X → X → Bool
is_behind cmp (Some p) x = is_lt (cmp p x)
is_behind cmp None x = true

-- each stands behind the one before it, and the first behind another, if there is one
abbrev pub ascends_behind : {X : Type 0} → (X → X → Ordering) → Option X → List X → Bool
ascends_behind cmp p [] = true
ascends_behind cmp p (x ∷ xs) = is_behind cmp p x && ascends_behind cmp (Some x) xs

abbrev pub ascends : {X : Type 0} → (X → X → Ordering) → List X → Bool
ascends cmp xs = ascends_behind cmp None xs

-- ** rows and records

-- a transaction of an earlier incarnation, whose numbers fit a row
abbrev pub fits_before : ℕ → Gtrid → Bool
fits_before i g = nat_lt g.incarnation i && nat_le g.sequence last_number

-- all rows and records are of earlier incarnations, and their numbers fit
abbrev pub are_old : (incarnation : ℕ) → List Gtrid → List (Branch × How) → Bool
are_old i gs ends = list_all (fits_before i) gs && list_all (λ (e : Branch × How). fits_before i e.0.gtrid) ends

-- they stand in ascending order, none twice
abbrev pub are_ascending : List Gtrid → List (Branch × How) → Bool
are_ascending gs ends = ascends gtrid_cmp gs && ascends branch_cmp (map (λ (e : Branch × How). e.0) ends)

-- a manager can start in an incarnation over a log that has these
abbrev pub can_start : (incarnation : ℕ) → List Gtrid → List (Branch × How) → Bool
can_start i gs ends = are_old i gs ends && are_ascending gs ends
