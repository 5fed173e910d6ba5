-- What the pages of one scan list, with nothing between them.
use Rattle.std.specs.Prelude.{◌≡◌, ℕ, List, [], ◌∷◌, ◌++◌, Option, None, take}
use Rattle.std.specs.List.Sorted.{IsStrictlySortedBy}
use Rattle.xa_base.specs.Scan.{behind, last_of}
use Rattle.xa_base.specs.Xid.{Xid, xid_cmp}

-- the page of up to n identifiers after a place
abbrev pub page_at : Option Xid → ℕ → List Xid → List Xid
page_at place n in_doubt = take n (behind xid_cmp place in_doubt)

-- what the pages of these counts list, from a place on
abbrev pub listed_from : Option Xid → (counts : List ℕ) → (in_doubt : List Xid) → List Xid
listed_from place [] in_doubt = []
listed_from place (n ∷ counts) in_doubt =
    page_at place n in_doubt ++ listed_from (last_of place (page_at place n in_doubt)) counts in_doubt

-- where the scan stands after them
abbrev pub place_after : Option Xid → (counts : List ℕ) → (in_doubt : List Xid) → Option Xid
place_after place [] in_doubt = place
place_after place (n ∷ counts) in_doubt = place_after (last_of place (page_at place n in_doubt)) counts in_doubt

-- what a scan listed from the start, followed by what still stands after it, is all that is in
-- doubt
abbrev pub PagesContinue : Type 0
PagesContinue = (counts : List ℕ) (in_doubt : List Xid) → IsStrictlySortedBy xid_cmp in_doubt
    → listed_from None counts in_doubt ++ behind xid_cmp (place_after None counts in_doubt) in_doubt ≡ in_doubt
