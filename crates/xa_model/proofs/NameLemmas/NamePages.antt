-- A page of names is the page of their identifiers.
use Rattle.std.proofs.Common.{◌≡◌, ℕ, zero, suc, List, [], ◌∷◌, map, filter, take, Bool, true, false, cond, refl, ap, ◌∙◌, ℤ, pos, negsuc}
use Rattle.std.specs.Prelude.{Option, Some, None, option_map}
use Rattle.std.specs.Ordering.{is_lt}
use Rattle.xa_base.specs.Scan.{behind, page_of}
use Rattle.xa_base.specs.Xid.{Xid, xid_cmp}
use Rattle.xa_model.specs.Facts.InDoubt.{xid_of_name, name_cmp}
use Rattle.xa_model.specs.Trace.{Name}

-- whether an identifier comes behind the last one
abbrev is_behind : Xid → Xid → Bool
is_behind last y = is_lt (xid_cmp last y)

behind_same :
    (last : Xid) (xs : List Name)
    → map xid_of_name (filter (λ x. is_behind last (xid_of_name x)) xs) ≡ filter (is_behind last) (map xid_of_name xs)
behind_same last [] = refl
behind_same last (x ∷ xs) = by_test (is_behind last (xid_of_name x)) _ _ (behind_same last xs)
  where
    by_test :
        (t : Bool) (ns : List Name) (ys : List Xid) → map xid_of_name ns ≡ ys
        → map xid_of_name (cond t (x ∷ ns) ns) ≡ cond t (xid_of_name x ∷ ys) ys
    by_test true ns ys e = ap (λ zs. xid_of_name x ∷ zs) e
    by_test false ns ys e = e

map_behind :
    (last : Option Name) (xs : List Name)
    → map xid_of_name (behind name_cmp last xs) ≡ behind xid_cmp (option_map xid_of_name last) (map xid_of_name xs)
map_behind None xs = refl
map_behind (Some last) xs = behind_same (xid_of_name last) xs

map_take : (n : ℕ) (xs : List Name) → map xid_of_name (take n xs) ≡ take n (map xid_of_name xs)
map_take zero xs = refl
map_take (suc n) [] = refl
map_take (suc n) (x ∷ xs) = ap (λ ys. xid_of_name x ∷ ys) (map_take n xs)

pub same_page :
    (count : ℤ) (from : Option (Option Name)) (xs : List Name)
    → option_map (map xid_of_name) (page_of name_cmp count from xs)
    ≡ page_of xid_cmp count (option_map (option_map xid_of_name) from) (map xid_of_name xs)
same_page (pos n) (Some last) xs = ap (λ ys. Some ys) (map_take n (behind name_cmp last xs) ∙ ap (take n) (map_behind last xs))
same_page (pos n) None xs = refl
same_page (negsuc n) (Some last) xs = refl
same_page (negsuc n) None xs = refl
