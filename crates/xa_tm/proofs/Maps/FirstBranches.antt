-- The first branch of a transaction of which there is an entry, and how the entries of its branches
-- are taken out one by one.
use Rattle.std.proofs.lemmas.Bool.{true≢false}
use Rattle.std.proofs.Common.{◌≡◌, ℕ, List, [], ◌∷◌, filter, Bool, true, false, not, ◌&&◌, cond, Option, Some, None, IsSome, is_some, refl, subst, sym, ap, ◌∙◌, arith, Ordering, nat_cmp}
use Rattle.std.specs.Prelude.{if◌then◌else◌, unwrap_or, IfSome}
use Rattle.std.specs.BTreeMap.{BTreeMap, get, is_at, IsOrdered}
use Rattle.std.specs.BTreeMap.Range.{IsRangeOf, IsEntryInRange, IsLeBy}
use Rattle.std.specs.List.{slice_get}
use Rattle.std.specs.Ordering.{is_gt, ordering_then}
use Rattle.std.specs.declared.ops.Bound.TheVariants.{Included, Unbounded}
use Rattle.xa_base.specs.Branch.{branch_cmp, gtrid_eq}
use Rattle.xa_base.specs.declared.branch.Branch.{Branch}
use Rattle.xa_base.specs.declared.branch.Gtrid.{Gtrid}
use Rattle.xa_base.proofs.BranchKeys.{gtrid_eq-refl, gtrid_eq-true}
use Rattle.xa_base.proofs.BranchOrder.{branches_total, exact_branches}
use Rattle.xa_base.proofs.Orders.{equal_is}
use Rattle.xa_log.specs.KeySet.{from_list, items, same_set}
use Rattle.xa_tm.specs.LedgerBook.{known_in, no_branch, notes_at}
use Rattle.xa_tm.specs.declared.ledger.Ledger.{Ledger}
use Rattle.xa_tm.specs.declared.notes.BranchNotes.{BranchNotes}
use Rattle.xa_tm.proofs.Maps.StartedBranches.{known_has}
use Rattle.xa_tm.proofs.Release.Sets.{set_filtered}

-- ** the first

abbrev least : Gtrid → Branch
least g = record { gtrid = g; thread = 0; rm = 0 }

abbrev IsFrom : Gtrid → BTreeMap Branch BranchNotes → List (Branch × BranchNotes) → Type 0
IsFrom g m r = IsRangeOf branch_cmp (Included (least g)) Unbounded m r

-- what is neither before nor after two of a kind, is of that kind
same_first : (a b s t : ℕ) (z w : Ordering) → is_gt (ordering_then (ordering_then (nat_cmp a b) (nat_cmp s t)) z) ≡ false
    → is_gt (ordering_then (ordering_then (nat_cmp b a) (nat_cmp t s)) w) ≡ false → a ≡ b
same_first a b s t z w up down = grind arith

same_second : (a b s t : ℕ) (z w : Ordering) → is_gt (ordering_then (ordering_then (nat_cmp a b) (nat_cmp s t)) z) ≡ false
    → is_gt (ordering_then (ordering_then (nat_cmp b a) (nat_cmp t s)) w) ≡ false → s ≡ t
same_second a b s t z w up down = grind arith

between_own : (g : Gtrid) (e q : Branch) → IsLeBy branch_cmp (least g) e → IsLeBy branch_cmp e q → q.gtrid ≡ g → e.gtrid ≡ g
between_own g e q up down own =
    let below : IsLeBy branch_cmp e (record { gtrid = g; thread = q.thread; rm = q.rm }) = rw (← own) down in
    λ i. record {
      incarnation = sym (same_first g.incarnation e.gtrid.incarnation g.sequence e.gtrid.sequence _ _ up below) i;
      sequence = sym (same_second g.incarnation e.gtrid.incarnation g.sequence e.gtrid.sequence _ _ up below) i;
    }

-- no branch of the transaction is before its least
from_least : (g : Gtrid) (q : Branch) → q.gtrid ≡ g → IsLeBy branch_cmp (least g) q
from_least g q own = rw own (by g.incarnation g.sequence q.thread q.rm)
  where
    by : (a s t r : ℕ) → is_gt (ordering_then (ordering_then (nat_cmp a a) (nat_cmp s s)) (ordering_then (nat_cmp 0 t) (nat_cmp 0 r))) ≡ false
    by a s t r = grind arith

module _ (g : Gtrid) (m : BTreeMap Branch BranchNotes) (r : List (Branch × BranchNotes)) (range : IsFrom g m r) where
  abbrev FirstIs : (P : Branch × BranchNotes → Type 0) → List (Branch × BranchNotes) → Type 0
  FirstIs P es = IfSome (slice_get es 0) P

  -- the first of them is of another transaction
  pub none_behind : (e : Branch × BranchNotes) (t : List (Branch × BranchNotes)) → r ≡ e ∷ t → gtrid_eq e.0.gtrid g ≡ false
      → (q : Branch) → q.gtrid ≡ g → get branch_cmp m q ≡ None
  none_behind e t is other q own = by (get branch_cmp m q) refl
    where
      by : (o : Option BranchNotes) → get branch_cmp m q ≡ o → o ≡ None
      by None h = refl
      by (Some n) h =
          let from : IsLeBy branch_cmp (least g) e.0 =
          (subst (FirstIs (IsEntryInRange branch_cmp (Included (least g)) Unbounded m)) is range.1).0.0 in
          let there : IsSome (get branch_cmp m q) = ap is_some h in
          let upto : IsLeBy branch_cmp e.0 q = subst (FirstIs (λ e. IsLeBy branch_cmp e.0 q)) is (range.2 q (from_least g q own, tt) there) in
          absurd (true≢false (sym (ap (λ x. gtrid_eq x g) (between_own g e.0 q from upto own) ∙ gtrid_eq-refl g) ∙ other))

  -- there is none of them
  pub none_from : r ≡ [] → (q : Branch) → q.gtrid ≡ g → get branch_cmp m q ≡ None
  none_from is q own = range.5 is q (from_least g q own, tt)

-- ** one by one

-- of the branches of the transaction some are lost, and of all others none; the next is one that is
-- left
pub record HasLost (old new : Ledger) (g : Gtrid) (next : Option Branch) : Type 0 where
  pub same : new ≡ record old { branches = new.branches }
  pub apart : (q : Branch) → gtrid_eq g q.gtrid ≡ false → get branch_cmp new.branches q ≡ get branch_cmp old.branches q
  pub next_is : IfSome next (λ b. (b.gtrid ≡ g) × IsSome (get branch_cmp new.branches b))
  pub none : next ≡ None → (q : Branch) → q.gtrid ≡ g → get branch_cmp new.branches q ≡ None
  pub was_ordered : IsOrdered branch_cmp old.branches
  pub ordered : IsOrdered branch_cmp new.branches

pub lost_one_more : (old l : Ledger) (m : BTreeMap Branch BranchNotes) (g : Gtrid) (b : Branch) (next : Option Branch) → HasLost old l g (Some b)
    → ((q : Branch) → get branch_cmp m q ≡ cond (is_at (branch_cmp b) q) None (get branch_cmp l.branches q)) → IsOrdered branch_cmp m
    → IfSome next (λ c. (c.gtrid ≡ g) × IsSome (get branch_cmp m c)) → (next ≡ None → (q : Branch) → q.gtrid ≡ g → get branch_cmp m q ≡ None)
    → HasLost old (record l { branches = m }) g next
lost_one_more old l m g b next lost taken rise next_is none = record {
  same = ap (λ (k : Ledger). record k { branches = m }) lost.same;
  apart = λ q other. taken q ∙ by q other (is_at (branch_cmp b) q) refl ∙ lost.apart q other;
  next_is = next_is;
  none = none;
  was_ordered = lost.was_ordered;
  ordered = rise;
}
  where
    by : (q : Branch) → gtrid_eq g q.gtrid ≡ false → (t : Bool) → is_at (branch_cmp b) q ≡ t
        → cond t None (get branch_cmp l.branches q) ≡ get branch_cmp l.branches q
    by q other false at = refl
    by q other true at =
        let is : b ≡ q = exact_branches b q (equal_is _ at) in
        let own : g ≡ q.gtrid = sym lost.next_is.0 ∙ ap (λ (x : Branch). x.gtrid) is in
        absurd (let no : true ≡ false = sym (ap (gtrid_eq g) (sym own) ∙ gtrid_eq-refl g) ∙ other in cc)

module _ (old new : Ledger) (g : Gtrid) (lost : HasLost old new g None) where
  pub lost_notes : (q : Branch) → notes_at new.branches q ≡ (if gtrid_eq g q.gtrid then no_branch else notes_at old.branches q)
  lost_notes q = by (gtrid_eq g q.gtrid) refl
    where
      by : (t : Bool) → gtrid_eq g q.gtrid ≡ t → notes_at new.branches q ≡ (if t then no_branch else notes_at old.branches q)
      by true own = ap (λ o. unwrap_or o no_branch) (lost.none refl q (sym (gtrid_eq-true g q.gtrid own)))
      by false other = ap (λ o. unwrap_or o no_branch) (lost.apart q other)

  pub lost_known : known_in new.branches ≡ from_list (filter (λ b. not (gtrid_eq g b.gtrid)) (items (known_in old.branches)))
  lost_known = same_set branches_total exact_branches _ _ (λ q.
      known_has new.branches lost.ordered q ∙ ap (λ (x : BranchNotes). x.is_started) (lost_notes q) ∙ by q (gtrid_eq g q.gtrid)
      ∙ sym (set_filtered (λ b. not (gtrid_eq g b.gtrid)) q (known_in old.branches)
      ∙ ap (λ t. not (gtrid_eq g q.gtrid) && t) (known_has old.branches lost.was_ordered q)))
    where
      by : (q : Branch) (t : Bool) → (if t then no_branch else notes_at old.branches q).is_started ≡ (not t && (notes_at old.branches q).is_started)
      by q true = refl
      by q false = refl
