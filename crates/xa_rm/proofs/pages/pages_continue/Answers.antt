use Rattle.std.proofs.Common.{◌≡◌, ℕ, List, [], ◌∷◌, ◌++◌, Option, None, refl, ◌∙◌, ap, append_assoc}
use Rattle.std.specs.List.Sorted.{IsStrictlySortedBy}
use Rattle.xa_base.specs.Xid.{xid_cmp_total, Xid, xid_cmp}
use Rattle.xa_base.specs.Scan.{behind, last_of}
use Rattle.xa_rm.proofs.PageLemmas.{page_and_rest}
use Rattle.xa_rm.specs.Pages.{page_at, listed_from, place_after}
use Rattle.xa_rm.proofs.pages.pages_continue.Goals as goal

continue_from : (counts : List ℕ) (place : Option Xid) (xs : List Xid) → IsStrictlySortedBy xid_cmp xs
    → listed_from place counts xs ++ behind xid_cmp (place_after place counts xs) xs ≡ behind xid_cmp place xs
continue_from [] place xs s = refl
continue_from (n ∷ counts) place xs s =
    append_assoc (page_at place n xs) (listed_from (last_of place (page_at place n xs)) counts xs) _
    ∙ ap (λ ys. page_at place n xs ++ ys) (continue_from counts (last_of place (page_at place n xs)) xs s)
    ∙ page_and_rest xid_cmp_total place xs s n

pub returns : goal.returns
returns c = λ counts xs s. continue_from counts None xs s
