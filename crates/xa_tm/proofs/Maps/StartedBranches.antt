-- The set of started branches that a map has, by look-ups.
use Rattle.std.proofs.Common.{◌≡◌, List, [], ◌∷◌, filter, Bool, true, false, ◌&&◌, ◌||◌, cond, Option, Some, None, IsSome, Result, Ok, Err, OnOk, OnErr, is_some, is_eq, refl, sym, ap, ◌∙◌, subst, Less}
use Rattle.std.specs.Prelude.{if◌then◌else◌, unwrap_or}
use Rattle.std.specs.Ordering.{eq_by_cmp}
use Rattle.std.specs.BTreeMap.{BTreeMap, get, is_at, IsOrdered, Updates}
use Rattle.std.specs.Map.{keys_of, lookup}
use Rattle.std.specs.List.{AllByRecursion, list_any}
use Rattle.std.specs.List.Sorted.{IsStrictlySortedBy}
use Rattle.std.proofs.lemmas.Cmp.{eq_by_cmp_equiv}
use Rattle.xa_base.specs.Branch.{gtrid_eq, branch_cmp, branch_eq}
use Rattle.xa_base.specs.declared.branch.Branch.{Branch}
use Rattle.xa_base.specs.declared.branch.Gtrid.{Gtrid}
use Rattle.xa_base.proofs.BranchOrder.{branches_total, exact_branches}
use Rattle.xa_base.proofs.BranchKeys.{gtrid_eq-true}
use Rattle.xa_base.proofs.Orders.{same_branch, branch_tie}
use Rattle.xa_log.specs.KeySet.{from_list, insert, items, contains, contains-from_list, contains-insert, contains-items, same_set}
use Rattle.xa_tm.specs.LedgerBook.{no_branch, notes_at, known_in, started_keys, notes_of}
use Rattle.xa_tm.specs.declared.notes.BranchNotes.{BranchNotes}
use Rattle.xa_tm.proofs.History.OneMore.{any_filter}

-- a name below all of a list isn't among them
not_among : (x q : Branch) (es : List (Branch × BranchNotes)) → q ≡ x → AllByRecursion (λ y. branch_cmp x y ≡ Less) (keys_of es)
    → lookup (is_at (branch_cmp q)) es ≡ None
not_among x q [] same below = refl
not_among x q (e ∷ es) same below =
    ap (λ b. cond b (Some e.1) (lookup (is_at (branch_cmp q)) es)) (ap (λ p. is_eq (branch_cmp p e.0)) same ∙ ap is_eq below.0)
    ∙ not_among x q es same below.1

-- whether a name is among those that a test keeps is what the test says of it
pub any_kept : (t : Branch × BranchNotes → Bool) (q : Branch) → t (q, no_branch) ≡ false → (es : List (Branch × BranchNotes))
    → IsStrictlySortedBy branch_cmp (keys_of es)
    → list_any (eq_by_cmp branch_cmp q) (keys_of (filter t es)) ≡ t (q, unwrap_or (lookup (is_at (branch_cmp q)) es) no_branch)
unfolding IsStrictlySortedBy
any_kept t q none [] up = sym none
any_kept t q none (e ∷ es) up = by (is_at (branch_cmp q) e.0) (t e) refl refl (any_kept t q none es up.1)
  where
    rest_of : List (Branch × BranchNotes)
    rest_of = filter t es

    by : (s u : Bool) → is_at (branch_cmp q) e.0 ≡ s → t e ≡ u
        → list_any (eq_by_cmp branch_cmp q) (keys_of (filter t es)) ≡ t (q, unwrap_or (lookup (is_at (branch_cmp q)) es) no_branch)
        → list_any (eq_by_cmp branch_cmp q) (keys_of (cond u (e ∷ filter t es) (filter t es)))
        ≡ t (q, unwrap_or (cond s (Some e.1) (lookup (is_at (branch_cmp q)) es)) no_branch)
    by true true same is rest =
        ap (λ b. b || list_any (eq_by_cmp branch_cmp q) (keys_of (filter t es))) same ∙ sym is ∙ ap (λ k. t (k, e.1)) (sym (same_branch q e.0 same))
    by true false same is rest =
        rest ∙ ap (λ o. t (q, unwrap_or o no_branch)) (not_among e.0 q es (same_branch q e.0 same) up.0) ∙ none
        ∙ sym is ∙ ap (λ k. t (k, e.1)) (sym (same_branch q e.0 same))
    by false true apart is rest = ap (λ b. b || list_any (eq_by_cmp branch_cmp q) (keys_of (filter t es))) apart ∙ rest
    by false false apart is rest = rest

-- a branch is known if its start is noted
pub known_has : (m : BTreeMap Branch BranchNotes) → IsOrdered branch_cmp m → (q : Branch) → contains (known_in m) q ≡ (notes_at m q).is_started
known_has m up q = contains-from_list branches_total (started_keys m.entries) q ∙ any_kept (λ e. e.1.is_started) q refl m.entries up

-- two maps that say the same of each name have the same known branches
pub known_same : (m n : BTreeMap Branch BranchNotes) → IsOrdered branch_cmp m → IsOrdered branch_cmp n
    → ((q : Branch) → (notes_at n q).is_started ≡ (notes_at m q).is_started) → known_in n ≡ known_in m
known_same m n up rise same = same_set branches_total exact_branches _ _ (λ q. known_has n rise q ∙ same q ∙ sym (known_has m up q))

-- room for a name says nothing of it
pub reserved_branch : (m n : BTreeMap Branch BranchNotes) (b : Branch) → false ≡ is_some (get branch_cmp m b)
    → ((q : Branch) → get branch_cmp n q ≡ cond (is_at (branch_cmp b) q) (Some no_branch) (get branch_cmp m q)) → (q : Branch) → notes_at n q ≡ notes_at m q
reserved_branch m n b none h q = ap (λ o. unwrap_or o no_branch) (h q) ∙ by (is_at (branch_cmp b) q) refl
  where
    empty : (o : Option BranchNotes) → false ≡ is_some o → no_branch ≡ unwrap_or o no_branch
    empty None e = refl
    empty (Some t) e = absurd (cc)

    by : (t : Bool) → is_at (branch_cmp b) q ≡ t → unwrap_or (cond t (Some no_branch) (get branch_cmp m q)) no_branch ≡ unwrap_or (get branch_cmp m q) no_branch
    by true e = subst (λ p. no_branch ≡ unwrap_or (get branch_cmp m p) no_branch) (same_branch b q e) (empty (get branch_cmp m b) none)
    by false e = refl

-- one branch is written
pub written_branch : (m n : BTreeMap Branch BranchNotes) (b : Branch) (w : BranchNotes)
    → ((q : Branch) → get branch_cmp n q ≡ cond (is_at (branch_cmp b) q) (Some w) (get branch_cmp m q))
    → (q : Branch) → notes_at n q ≡ (if branch_eq b q then w else notes_at m q)
written_branch m n b w h q =
    ap (λ o. unwrap_or o no_branch) (h q) ∙ by (is_at (branch_cmp b) q) ∙ ap (λ (t : Bool). if t then w else notes_at m q) (branch_tie b q)
  where
    by : (t : Bool) → unwrap_or (cond t (Some w) (get branch_cmp m q)) no_branch ≡ (if t then w else notes_at m q)
    by true = refl
    by false = refl

-- and its start with it
pub known_written : (m n : BTreeMap Branch BranchNotes) (b : Branch) (w : BranchNotes) → IsOrdered branch_cmp m → IsOrdered branch_cmp n
    → ((notes_at m b).is_started ≡ true → w.is_started ≡ true)
    → ((q : Branch) → notes_at n q ≡ (if branch_eq b q then w else notes_at m q))
    → known_in n ≡ (if w.is_started then insert (known_in m) b else known_in m)
known_written m n b w up rise stays h = by w.is_started refl
  where
    tie : (q : Branch) → eq_by_cmp branch_cmp q b ≡ branch_eq b q
    tie q = (eq_by_cmp_equiv branches_total).symm q b ∙ branch_tie b q

    at : (q : Branch) → (notes_at n q).is_started ≡ (if branch_eq b q then w.is_started else (notes_at m q).is_started)
    at q = ap (λ (x : BranchNotes). x.is_started) (h q) ∙ go (branch_eq b q)
      where
        go : (t : Bool) → (if t then w else notes_at m q).is_started ≡ (if t then w.is_started else (notes_at m q).is_started)
        go true = refl
        go false = refl

    or_if : (t o : Bool) → (if t then true else o) ≡ (t || o)
    or_if true o = refl
    or_if false o = refl

    by : (s : Bool) → w.is_started ≡ s → known_in n ≡ (if s then insert (known_in m) b else known_in m)
    by true is = same_set branches_total exact_branches _ _ (λ q.
        known_has n rise q ∙ at q ∙ ap (λ x. if branch_eq b q then x else (notes_at m q).is_started) is ∙ or_if (branch_eq b q) (notes_at m q).is_started
        ∙ sym (contains-insert branches_total (known_in m) b q ∙ ap (λ t. t || contains (known_in m) q) (tie q)
        ∙ ap (λ t. branch_eq b q || t) (known_has m up q)))
    by false is = known_same m n up rise (λ q. at q ∙ go q (branch_eq b q) refl)
      where
        nothing : (o : Bool) → o ≡ (notes_at m b).is_started → w.is_started ≡ o
        nothing true e = stays (sym e)
        nothing false e = is

        go : (q : Branch) (t : Bool) → branch_eq b q ≡ t → (if t then w.is_started else (notes_at m q).is_started) ≡ (notes_at m q).is_started
        go q true e = nothing (notes_at m b).is_started refl ∙ ap (λ p. (notes_at m p).is_started) (same_branch b q (branch_tie b q ∙ e))
        go q false e = refl

-- ** those that voted XA_OK

pub is_voter : Gtrid → Branch × BranchNotes → Bool
is_voter g e = gtrid_eq e.0.gtrid g && (e.1.is_started && e.1.said_yes)

pub voters_are : (m : BTreeMap Branch BranchNotes) (g : Gtrid) (list : List Branch) → IsOrdered branch_cmp m
    → list ≡ keys_of (filter (λ e. gtrid_eq e.0.gtrid g && (e.1.is_started && e.1.said_yes)) m.entries)
    → from_list {R = branch_cmp} list ≡ from_list (filter (λ b. gtrid_eq b.gtrid g && (notes_of (notes_at m b)).said_yes) (items (known_in m)))
voters_are m g list up is = same_set branches_total exact_branches _ _ (λ q.
    contains-from_list branches_total list q ∙ ap (list_any (eq_by_cmp branch_cmp q)) is
    ∙ any_kept (λ e. gtrid_eq e.0.gtrid g && (e.1.is_started && e.1.said_yes)) q (none (gtrid_eq q.gtrid g)) m.entries up
    ∙ shuffled (gtrid_eq q.gtrid g) (notes_at m q).is_started (notes_at m q).said_yes
    ∙ ap (λ t. (gtrid_eq q.gtrid g && (notes_at m q).said_yes) && t) (sym (sym (contains-items (known_in m) q) ∙ known_has m up q))
    ∙ sym (any_filter (λ b. gtrid_eq b.gtrid g && (notes_of (notes_at m b)).said_yes) q (items (known_in m)))
    ∙ sym (contains-from_list branches_total _ q))
  where
    none : (t : Bool) → (t && false) ≡ false
    none true = refl
    none false = refl

    shuffled : (a s y : Bool) → (a && (s && y)) ≡ ((a && y) && s)
    shuffled false s y = refl
    shuffled true true true = refl
    shuffled true true false = refl
    shuffled true false true = refl
    shuffled true false false = refl

-- ** what can't fail was done

pub inserted : {E : Type 0} (r : Result (Option BranchNotes) E) (m n : BTreeMap Branch BranchNotes) (b : Branch) (w : BranchNotes)
    → OnOk r (Updates branch_cmp m n b (Some w)) → OnErr r (get branch_cmp m b ≡ None) → IsSome (get branch_cmp m b)
    → (q : Branch) → get branch_cmp n q ≡ cond (is_at (branch_cmp b) q) (Some w) (get branch_cmp m q)
inserted (Ok v) m n b w done failed some = done.0
inserted (Err e) m n b w done failed some = absurd (never (get branch_cmp m b) some failed)
  where
    never : (o : Option BranchNotes) → IsSome o → o ≡ None → ⊥
    never None s e = let no : ⊥ = cc in no
    never (Some x) s e = let no : ⊥ = cc in no

-- those that voted are branches of the transaction
pub own_listed : (g : Gtrid) (es : List (Branch × BranchNotes)) (list : List Branch)
    → list ≡ keys_of (filter (λ e. gtrid_eq e.0.gtrid g && (e.1.is_started && e.1.said_yes)) es)
    → AllByRecursion (λ b. b.gtrid ≡ g) list
own_listed g es list is = subst (AllByRecursion (λ b. b.gtrid ≡ g)) (sym is) (all es)
  where
    both : (a b : Bool) → (a && b) ≡ true → a ≡ true
    both true b e = refl
    both false b e = absurd (cc)

    all : (xs : List (Branch × BranchNotes))
        → AllByRecursion (λ b. b.gtrid ≡ g) (keys_of (filter (λ e. gtrid_eq e.0.gtrid g && (e.1.is_started && e.1.said_yes)) xs))
    all [] = tt
    all (e ∷ xs) = by (gtrid_eq e.0.gtrid g && (e.1.is_started && e.1.said_yes)) refl (all xs)
      where
        by : (t : Bool) → (gtrid_eq e.0.gtrid g && (e.1.is_started && e.1.said_yes)) ≡ t
            → AllByRecursion (λ b. b.gtrid ≡ g) (keys_of (filter (λ e. gtrid_eq e.0.gtrid g && (e.1.is_started && e.1.said_yes)) xs))
            → AllByRecursion (λ b. b.gtrid ≡ g)
            (keys_of (cond t (e ∷ filter (λ e. gtrid_eq e.0.gtrid g && (e.1.is_started && e.1.said_yes)) xs)
            (filter (λ e. gtrid_eq e.0.gtrid g && (e.1.is_started && e.1.said_yes)) xs)))
        by true is rest = (gtrid_eq-true e.0.gtrid g (both (gtrid_eq e.0.gtrid g) _ is), rest)
        by false is rest = rest

-- no start is noted anew
pub start_stays : (m n : BTreeMap Branch BranchNotes) (b : Branch) (w : BranchNotes)
    → ((q : Branch) → notes_at n q ≡ (if branch_eq b q then w else notes_at m q))
    → w.is_started ≡ (notes_at m b).is_started → (q : Branch) → (notes_at n q).is_started ≡ (notes_at m q).is_started
start_stays m n b w at stays q = ap (λ (x : BranchNotes). x.is_started) (at q) ∙ by (branch_eq b q) refl
  where
    by : (t : Bool) → branch_eq b q ≡ t → (if t then w else notes_at m q).is_started ≡ (notes_at m q).is_started
    by true e = stays ∙ ap (λ p. (notes_at m p).is_started) (same_branch b q (branch_tie b q ∙ e))
    by false e = refl
