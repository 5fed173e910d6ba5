-- The branches that a page lists, one after another.
use Rattle.std.proofs.Common.{◌≡◌, ℕ, zero, suc, ◌+◌, ◌<◌, ◌≤◌, Bool, true, false, ◌||◌, List, [], ◌∷◌, map, length, drop, get_or, Some, refl, sym, ap, ◌∙◌, subst}
use Rattle.std.specs.Prelude.{if◌then◌else◌}
use Rattle.std.specs.BTreeMap.{BTreeMap}
use Rattle.std.proofs.lemmas.List.{drop_all, drop_more}
use Rattle.std.proofs.lemmas.Bool.{or_right}
use Rattle.xa_base.proofs.BranchKeys.{branch_eq-refl, branch_eq-true}
use Rattle.xa_base.specs.Branch.{branch_eq}
use Rattle.xa_base.specs.Xid.{Xid}
use Rattle.xa_model.specs.Protocol.{Lists}
use Rattle.xa_model.specs.Replies.History.{name_of}
use Rattle.xa_model.specs.Trace.{Branch, Name, Name.Foreign, Name.Ours}
use Rattle.xa_monitor.specs.Entries.{HasKeptEntries, HasRoom, HasRoomForAll, listed, listed_by, states_at}
use Rattle.xa_monitor.specs.Rows.{page_row}
use Rattle.xa_monitor.specs.declared.states.States.{States}

-- the one that comes next stands before the others
drop_item : (xs : List Xid) (i : ℕ) (x : Xid) → i < length xs → x ≡ get_or xs i x → drop i xs ≡ x ∷ drop (i + 1) xs
drop_item xs i x low is = drop_more xs i x low ∙ ap (λ y. y ∷ drop (i + 1) xs) (sym is)

-- ** room

room_kept : (m n : BTreeMap Branch States) (xs : List Xid) → HasKeptEntries m n → HasRoomForAll m xs → HasRoomForAll n xs
room_kept m n [] kept room = tt
room_kept m n (x ∷ xs) kept room = (by (name_of x) room.0, room_kept m n xs kept room.1)
  where
    by : (name : Name) → HasRoom m name → HasRoom n name
    by (Ours b) has = kept b has
    by (Foreign y) has = tt

still_room : (m n : BTreeMap Branch States) (name : Name) → HasKeptEntries m n → HasRoom m name → HasRoom n name
still_room m n (Ours b) kept has = kept b has
still_room m n (Foreign y) kept has = tt

pub room_first : (m : BTreeMap Branch States) (xs : List Xid) (i : ℕ) (x : Xid) → i < length xs → x ≡ get_or xs i x → HasRoomForAll m (drop i xs)
    → HasRoom m (name_of x)
room_first m xs i x low is room = (subst (HasRoomForAll m) (drop_item xs i x low is) room).0

-- room for one more
pub room_more : (xs : List Xid) (i : ℕ) (x : Xid) (mid now : BTreeMap Branch States) → i < length xs → x ≡ get_or xs i x → HasKeptEntries mid now
    → HasRoom now (name_of x)
    → ((m : BTreeMap Branch States) → HasKeptEntries mid m → HasRoomForAll m (drop i xs) → HasRoomForAll m xs)
    → (m : BTreeMap Branch States) → HasKeptEntries now m → HasRoomForAll m (drop (i + 1) xs) → HasRoomForAll m xs
room_more xs i x mid now low is kept room before m keep rest =
    before m (λ q has. keep q (kept q has)) (subst (HasRoomForAll m) (sym (drop_item xs i x low is)) (still_room now m (name_of x) keep room, rest))

pub room_all : (m : BTreeMap Branch States) (xs : List Xid) (i : ℕ) → length xs ≤ i → HasRoomForAll m (drop i xs)
room_all m xs i past = subst (HasRoomForAll m) (sym (drop_all i xs past)) tt

-- ** states

-- one more is listed
pub listed_more : (k : ℕ) (xs : List Xid) (i : ℕ) (x : Xid) (mid now : BTreeMap Branch States) (all : Branch → States) → i < length xs → x ≡ get_or xs i x
    → HasKeptEntries mid now → ((q : Branch) → states_at k now q ≡ listed (name_of x) q (states_at k mid q))
    → HasRoomForAll mid (drop i xs) × ((q : Branch) → listed_by (drop i xs) q (states_at k mid q) ≡ all q)
    → HasRoomForAll now (drop (i + 1) xs) × ((q : Branch) → listed_by (drop (i + 1) xs) q (states_at k now q) ≡ all q)
listed_more k xs i x mid now all low is kept at before = (
  room_kept mid now (drop (i + 1) xs) kept (subst (HasRoomForAll mid) (drop_item xs i x low is) before.0).1,
  λ q. ap (listed_by (drop (i + 1) xs) q) (at q) ∙ sym (ap (λ ys. listed_by ys q (states_at k mid q)) (drop_item xs i x low is)) ∙ before.1 q,
)

pub listed_all : (k : ℕ) (xs : List Xid) (i : ℕ) (now : BTreeMap Branch States) (all : Branch → States) → length xs ≤ i
    → ((q : Branch) → listed_by (drop i xs) q (states_at k now q) ≡ all q) → (q : Branch) → states_at k now q ≡ all q
listed_all k xs i now all past h q = sym (ap (λ ys. listed_by ys q (states_at k now q)) (drop_all i xs past)) ∙ h q

-- ** what a page lists

-- whether a name is the branch, and whether a page lists it
abbrev is_of : Name → Branch → Bool
is_of (Ours b) q = branch_eq b q
is_of (Foreign x) q = false

abbrev pub is_listed : List Xid → Branch → Bool
is_listed [] q = false
is_listed (x ∷ xs) q = is_of (name_of x) q || is_listed xs q

pub listed_once : (xs : List Xid) (q : Branch) (s : States) → listed_by xs q s ≡ (if is_listed xs q then page_row s else s)
listed_once [] q s = refl
listed_once (x ∷ xs) q s = ap (listed_by xs q) (one (name_of x)) ∙ by (is_of (name_of x) q) (listed_once xs q (page_row s)) (listed_once xs q s)
  where
    one : (n : Name) → listed n q s ≡ (if is_of n q then page_row s else s)
    one (Ours b) = refl
    one (Foreign y) = refl

    again : (t : Bool) → (if t then page_row (page_row s) else page_row s) ≡ page_row s
    again true = refl
    again false = refl

    by : (t : Bool) → listed_by xs q (page_row s) ≡ (if is_listed xs q then page_row (page_row s) else page_row s)
        → listed_by xs q s ≡ (if is_listed xs q then page_row s else s)
        → listed_by xs q (if t then page_row s else s) ≡ (if t || is_listed xs q then page_row s else s)
    by true page plain = page ∙ again (is_listed xs q)
    by false page plain = plain

pub listed_if : (xs : List Xid) (q : Branch) → Lists (map name_of xs) (Ours q) → is_listed xs q ≡ true
listed_if [] q l = absurd (let e = l.1 in let no : ⊥ = cc in no)
listed_if (x ∷ xs) q (zero, e) = ap (λ t. t || is_listed xs q) (here (name_of x) e)
  where
    here : (n : Name) → Some n ≡ Some (Ours q) → is_of n q ≡ true
    here (Ours b) e = let same : b ≡ q = cc in ap (λ z. branch_eq z q) same ∙ branch_eq-refl q
    here (Foreign y) e = absurd (cc)
listed_if (x ∷ xs) q (suc i, e) = or_right (is_of (name_of x) q) (is_listed xs q) (listed_if xs q (i, e))

pub lists_if : (xs : List Xid) (q : Branch) → is_listed xs q ≡ true → Lists (map name_of xs) (Ours q)
lists_if [] q e = absurd (cc)
lists_if (x ∷ xs) q e = by (name_of x) refl (is_of (name_of x) q) refl e (lists_if xs q)
  where
    by : (n : Name) → name_of x ≡ n → (t : Bool) → is_of (name_of x) q ≡ t → (t || is_listed xs q) ≡ true
        → (is_listed xs q ≡ true → Lists (map name_of xs) (Ours q)) → Lists (map name_of (x ∷ xs)) (Ours q)
    by (Ours b) en true et h rest =
        let same : b ≡ q = branch_eq-true b q (sym (ap (λ z. is_of z q) en) ∙ et) in
        (zero, ap Some (en ∙ ap Ours same))
    by (Foreign y) en true et h rest =
        let no : false ≡ true = sym (ap (λ z. is_of z q) en) ∙ et in
        let never : ⊥ = cc in
        absurd never
    by n en false et h rest = let l = rest h in (suc l.0, l.1)
