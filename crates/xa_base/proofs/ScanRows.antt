-- Recovery scans, worked over numbers in their order: a call is its count, and whether it starts
-- and ends the scan. Each row computes.
use Rattle.std.proofs.Common.{◌≡◌, ℕ, ℤ, pos, negsuc, Bool, true, false, List, [], ◌∷◌, refl}
use Rattle.std.specs.Ordering.{nat_cmp}
use Rattle.std.specs.Prelude.{Option, Some, None}
use Rattle.xa_base.specs.Scan.{Scan, Scan.NotOpen, Scan.Behind, page_of, reads_from, scan_after}

-- five entries are in doubt
entries : List ℕ
entries = 1 ∷ 2 ∷ 3 ∷ 4 ∷ 5 ∷ []

page : Scan ℕ → (count : ℤ) → (start : Bool) → Option (List ℕ)
unfolding entries
page scan count start = page_of nat_cmp count (reads_from scan start) entries

-- what these calls list, and where the scan stands after each
listed : List (ℤ × Bool × Bool) → Scan ℕ → List (Option (List ℕ) × Scan ℕ)
listed [] scan = []
listed ((count, start, end) ∷ calls) scan =
    (page scan count start, scan_after scan start end (page scan count start))
    ∷ listed calls (scan_after scan start end (page scan count start))

-- a scan in three pages: the last call ends it, and none goes on after that
three_pages : listed ((pos 2, true, false) ∷ (pos 2, false, false) ∷ (pos 2, false, true) ∷ (pos 2, false, false) ∷ []) NotOpen
    ≡ (Some (1 ∷ 2 ∷ []), Behind (Some 2)) ∷ (Some (3 ∷ 4 ∷ []), Behind (Some 4)) ∷ (Some (5 ∷ []), NotOpen) ∷ (None, NotOpen) ∷ []
unfolding listed page entries
three_pages = refl

-- a negative count is refused in the middle of a scan, whatever its flags, and the scan goes on
-- where it stood
refused_in_the_middle : listed ((pos 2, true, false) ∷ (negsuc 0, false, false) ∷ (negsuc 4, true, false) ∷ (negsuc 0, false, true)
    ∷ (pos 2, false, false) ∷ []) NotOpen
    ≡ (Some (1 ∷ 2 ∷ []), Behind (Some 2)) ∷ (None, Behind (Some 2)) ∷ (None, Behind (Some 2)) ∷ (None, Behind (Some 2))
    ∷ (Some (3 ∷ 4 ∷ []), Behind (Some 4)) ∷ []
unfolding listed page entries
refused_in_the_middle = refl

-- an empty page leaves the scan where it stood, and a call that starts it begins anew
started_anew : listed ((pos 0, true, false) ∷ (pos 9, false, false) ∷ (pos 1, false, false) ∷ (pos 1, true, false) ∷ (pos 1, true, true) ∷ []) NotOpen
    ≡ (Some [], Behind None) ∷ (Some (1 ∷ 2 ∷ 3 ∷ 4 ∷ 5 ∷ []), Behind (Some 5)) ∷ (Some [], Behind (Some 5))
    ∷ (Some (1 ∷ []), Behind (Some 1)) ∷ (Some (1 ∷ []), NotOpen) ∷ []
unfolding listed page entries
started_anew = refl

-- no scan is open until one was started
never_started : listed ((pos 2, false, false) ∷ (negsuc 0, true, false) ∷ []) NotOpen ≡ (None, NotOpen) ∷ (None, NotOpen) ∷ []
unfolding listed page entries
never_started = refl
