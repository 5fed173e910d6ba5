-- Identifiers that stand for each other under a name.
use Rattle.std.proofs.Common.{◌≡◌, ◌∙◌, ℕ, Bool, true, false, ◌&&◌, nat_eq, List, [], ◌∷◌, ◌++◌, length, take, drop, Option, Some, None, refl, sym, ap, arith, w32, if◌then◌else◌, length-append, take-append-drop, take_at, drop_at}
use Rattle.std.proofs.lemmas.Bool.{and_from, and_left, and_parts, and_right, eqb-true, ne_eqb}
use Rattle.std.proofs.lemmas.Slice.Eq.{bytes_eq-Decides}
use Rattle.std.specs.Int.{to_be_bytes}
use Rattle.std.specs.List.{starts_with}
use Rattle.std.specs.Ordering.{int_eq}
use Rattle.std.specs.Str.{bytes_eq}
use Rattle.xa_base.proofs.BranchLemmas.{own-found, own_format_of, u32_pair-bytes, u64_pair-bytes}
use Rattle.xa_base.specs.Branch.{IsBranch, branch_of_pairs, branch_of_xid, own_format, xid_of_branch}
use Rattle.xa_base.specs.Bytes.{u32_pair, u64_pair}
use Rattle.xa_base.specs.Xid.{Xid, IsXid}
use Rattle.xa_base.specs.declared.branch.Branch.{Branch}
use Rattle.xa_names.specs.Laws.{BranchesAreRead, BranchesHaveNames, NamesAreApart, OthersAreForeign, OwnHaveName, RenamesBack, StaysWithoutName}
use Rattle.xa_names.specs.Names.{IsUnder, has_name, is_bare, renamed, with_name, without_name}

-- ** which case applies

pub bare_gives : (name : List ℕ) (x : Xid) → is_bare x ≡ true → renamed name x ≡ with_name name x
bare_gives name x h = ap (λ (t : Bool). if t then with_name name x else if has_name name x then without_name name x else x) h

pub named_gives : (name : List ℕ) (x : Xid) → is_bare x ≡ false → has_name name x ≡ true → renamed name x ≡ without_name name x
named_gives name x h k =
    ap (λ (t : Bool). if t then with_name name x else if has_name name x then without_name name x else x) h
    ∙ ap (λ (t : Bool). if t then without_name name x else x) k

pub other_stays : (name : List ℕ) (x : Xid) → is_bare x ≡ false → has_name name x ≡ false → renamed name x ≡ x
other_stays name x h k =
    ap (λ (t : Bool). if t then with_name name x else if has_name name x then without_name name x else x) h
    ∙ ap (λ (t : Bool). if t then without_name name x else x) k

-- what such a shape is
pub record HasBareShape (x : Xid) : Type 0 where
  pub format : x.format ≡ own_format
  pub gtrid : length x.gtrid ≡ 16
  pub bqual : length x.bqual ≡ 8

pub bare_parts : (x : Xid) → is_bare x ≡ true → HasBareShape x
bare_parts x h =
    let first = and_parts (int_eq x.format own_format) (nat_eq (length x.gtrid) 16 && nat_eq (length x.bqual) 8) h in
    let second = and_parts (nat_eq (length x.gtrid) 16) (nat_eq (length x.bqual) 8) first.1 in
    record { format = own_format_of x first.0; gtrid = eqb-true (length x.gtrid) 16 second.0; bqual = eqb-true (length x.bqual) 8 second.1 }

-- ** back

same_bytes : (xs : List ℕ) → bytes_eq xs xs ≡ true
same_bytes xs = (bytes_eq-Decides xs xs).1 refl

name_in_front : (name g : List ℕ) → starts_with nat_eq (name ++ g) name ≡ true
name_in_front name g = ap (bytes_eq name) (take_at name g (length name) refl) ∙ same_bytes name

name_off : (name : List ℕ) (x : Xid) → without_name name (with_name name x) ≡ x
name_off name x =
    ap (λ (g : List ℕ). let y : Xid = record { format = x.format; gtrid = g; bqual = x.bqual } in y) (drop_at name x.gtrid (length name) refl)

pub name_on : (name : List ℕ) (x : Xid) → starts_with nat_eq x.gtrid name ≡ true → with_name name (without_name name x) ≡ x
name_on name x h =
    let is : name ≡ take (length name) x.gtrid = (bytes_eq-Decides name (take (length name) x.gtrid)).0 h in
    ap (λ (g : List ℕ). let y : Xid = record { format = x.format; gtrid = g; bqual = x.bqual } in y)
    (ap (λ (p : List ℕ). p ++ drop (length name) x.gtrid) is ∙ take-append-drop (length name) x.gtrid)

has_it : (name : List ℕ) (x : Xid) → is_bare x ≡ true → has_name name (with_name name x) ≡ true
has_it name x h =
    and_from (starts_with nat_eq (name ++ x.gtrid) name) (is_bare (without_name name (with_name name x))) (name_in_front name x.gtrid)
    (ap is_bare (name_off name x) ∙ h)

too_long : (c : ℕ) (cs g : List ℕ) → length g ≡ 16 → length ((c ∷ cs) ++ g) ≡ 16 → ⊥
too_long c cs g of_16 e = omega (arith, of_16, e, length-append (c ∷ cs) g)

longer : (c : ℕ) (cs : List ℕ) (x : Xid) → is_bare x ≡ true → is_bare (with_name (c ∷ cs) x) ≡ false
longer c cs x h =
    let differs = ne_eqb (length ((c ∷ cs) ++ x.gtrid)) 16 (too_long c cs x.gtrid (bare_parts x h).gtrid) in
    and_right (int_eq x.format own_format) (nat_eq (length ((c ∷ cs) ++ x.gtrid)) 16 && nat_eq (length x.bqual) 8)
    (and_left (nat_eq (length ((c ∷ cs) ++ x.gtrid)) 16) (nat_eq (length x.bqual) 8) differs)

pub bare_back : (name : List ℕ) (x : Xid) → is_bare x ≡ true → renamed name (with_name name x) ≡ x
bare_back [] x h = bare_gives [] x h
bare_back (c ∷ cs) x h = named_gives (c ∷ cs) (with_name (c ∷ cs) x) (longer c cs x h) (has_it (c ∷ cs) x h) ∙ name_off (c ∷ cs) x

named_back : (name : List ℕ) (x : Xid) → has_name name x ≡ true → renamed name (without_name name x) ≡ x
named_back name x h =
    let both = and_parts (starts_with nat_eq x.gtrid name) (is_bare (without_name name x)) h in
    bare_gives name (without_name name x) both.1 ∙ name_on name x both.0

pub twice : RenamesBack
twice name x = by_bare (is_bare x) refl
  where
    by_name : (t : Bool) → has_name name x ≡ t → is_bare x ≡ false → renamed name (renamed name x) ≡ x
    by_name true h other = ap (renamed name) (named_gives name x other h) ∙ named_back name x h
    by_name false h other = ap (renamed name) (other_stays name x other h) ∙ other_stays name x other h

    by_bare : (t : Bool) → is_bare x ≡ t → renamed name (renamed name x) ≡ x
    by_bare true h = ap (renamed name) (bare_gives name x h) ∙ bare_back name x h
    by_bare false h = by_name (has_name name x) refl h

pub stays : StaysWithoutName
stays x = by_bare (is_bare x) refl
  where
    by_name : (t : Bool) → has_name [] x ≡ t → is_bare x ≡ false → renamed [] x ≡ x
    by_name true h other = named_gives [] x other h
    by_name false h other = other_stays [] x other h

    by_bare : (t : Bool) → is_bare x ≡ t → renamed [] x ≡ x
    by_bare true h = bare_gives [] x h
    by_bare false h = by_name (has_name [] x) refl h

-- ** branches

own_bare : (b : Branch) → is_bare (xid_of_branch b) ≡ true
own_bare b = refl

own_read : (b : Branch) → IsBranch b → branch_of_xid (xid_of_branch b) ≡ Some b
own_read b h =
    ap (λ (p : Option (ℕ × ℕ)). branch_of_pairs p (u32_pair (to_be_bytes w32 b.thread ++ to_be_bytes w32 b.rm)))
    (u64_pair-bytes b.gtrid.incarnation b.gtrid.sequence h.incarnation h.sequence)
    ∙ ap (λ (q : Option (ℕ × ℕ)). branch_of_pairs (Some (b.gtrid.incarnation, b.gtrid.sequence)) q) (u32_pair-bytes b.thread b.rm h.thread h.rm)

pub read : BranchesAreRead
read name b h = ap branch_of_xid (bare_back name (xid_of_branch b) (own_bare b)) ∙ own_read b h

pairs_of : (p q : Option (ℕ × ℕ)) (b : Branch) → branch_of_pairs p q ≡ Some b
    → (p ≡ Some (b.gtrid.incarnation, b.gtrid.sequence)) × (q ≡ Some (b.thread, b.rm))
pairs_of (Some (i, s)) (Some (t, r)) b h =
    let made : Branch = record { gtrid = record { incarnation = i; sequence = s }; thread = t; rm = r } in
    let same : made ≡ b = cc in
    (ap (λ (c : Branch). Some (c.gtrid.incarnation, c.gtrid.sequence)) same, ap (λ (c : Branch). Some (c.thread, c.rm)) same)
pairs_of (Some p) None b h = absurd (cc)
pairs_of None r b h = absurd (cc)

-- an identifier that is read as a branch has the format and these pairs
record IsRead (x : Xid) (b : Branch) : Type 0 where
  format : int_eq x.format own_format ≡ true
  first : u64_pair x.gtrid ≡ Some (b.gtrid.incarnation, b.gtrid.sequence)
  second : u32_pair x.bqual ≡ Some (b.thread, b.rm)

is_read : (x : Xid) (b : Branch) → branch_of_xid x ≡ Some b → IsRead x b
is_read x b h = by_test (int_eq x.format own_format) refl h
  where
    by_test : (t : Bool) → int_eq x.format own_format ≡ t → (if t then branch_of_pairs (u64_pair x.gtrid) (u32_pair x.bqual) else None) ≡ Some b
        → IsRead x b
    by_test true f e = let pairs = pairs_of (u64_pair x.gtrid) (u32_pair x.bqual) b e in record { format = f; first = pairs.0; second = pairs.1 }
    by_test false f e = absurd (cc)

own_xid : (x : Xid) (b : Branch) → IsXid x → branch_of_xid x ≡ Some b → x ≡ xid_of_branch b
own_xid x b is h =
    let reads = is_read x b h in
    own-found x b.gtrid.incarnation b.gtrid.sequence b.thread b.rm is.in_range.gtrid is.in_range.bqual (own_format_of x reads.format) (sym reads.first)
    (sym reads.second)

pub named : BranchesHaveNames
named name x b is h = sym (twice name x) ∙ ap (renamed name) (own_xid (renamed name x) b is h) ∙ bare_gives name (xid_of_branch b) (own_bare b)

same_front : (m n p q : List ℕ) → length p ≡ 16 → length q ≡ 16 → m ++ p ≡ n ++ q → m ≡ n
same_front m n p q of_p of_q e =
    let long : length (m ++ p) ≡ length (n ++ q) = ap length e in
    let same : length n ≡ length m = omega (arith, of_p, of_q, long, length-append m p, length-append n q) in
    sym (take_at m p (length m) refl) ∙ ap (take (length m)) e ∙ take_at n q (length m) same

pub apart : NamesAreApart
apart m n x of_m of_n =
    same_front m n of_m.bare.gtrid of_n.bare.gtrid (bare_parts of_m.bare of_m.shape).gtrid (bare_parts of_n.bare of_n.shape).gtrid
    (ap (λ (y : Xid). y.gtrid) (sym of_m.named ∙ of_n.named))

choice_made : {A : Type 0} (t : Bool) (o : Option A) (y : A) → (if t then o else None) ≡ Some y → t ≡ true
choice_made true o y h = refl
choice_made false o y h = absurd (cc)

read_is_bare : (x : Xid) (b : Branch) → branch_of_xid x ≡ Some b → is_bare x ≡ true
read_is_bare x b h =
    let reads = is_read x b h in
    and_from (int_eq x.format own_format) (nat_eq (length x.gtrid) 16 && nat_eq (length x.bqual) 8) reads.format
    (and_from (nat_eq (length x.gtrid) 16) (nat_eq (length x.bqual) 8) (choice_made (nat_eq (length x.gtrid) 16) _ _ reads.first)
    (choice_made (nat_eq (length x.bqual) 8) _ _ reads.second))

pub own_have_name : OwnHaveName
own_have_name name x b h =
    let bare = read_is_bare x b h in
    record { bare = x; shape = bare; named = bare_gives name x bare }

pub none_left : {A : Type 0} (o : Option A) → ((y : A) → o ≡ Some y → ⊥) → o ≡ None
none_left None never = refl
none_left (Some y) never = absurd (never y refl)

pub foreign : OthersAreForeign
foreign m n x of_m differ =
    none_left (branch_of_xid (renamed n x)) (λ c h.
    let bare = read_is_bare (renamed n x) c h in
    let of_n : IsUnder n x = record { bare = renamed n x; shape = bare; named = sym (twice n x) ∙ bare_gives n (renamed n x) bare } in
    differ (apart m n x of_m of_n))
