-- What is open and listed is rolled back.
use Rattle.std.proofs.Common.{◌≡◌, ℕ, ◌+◌, ◌<◌, List, [], ◌∷◌, length, drop, get_or, map, Bool, true, false, not, ◌&&◌, ◌||◌, Option, Some, None, IsSome, refl, sym, ap, ◌∙◌, subst, ◌≤◌}
use Rattle.std.proofs.lemmas.List.{drop_all, drop_more}
use Rattle.std.specs.Prelude.{if◌then◌else◌}
use Rattle.std.specs.BTreeMap.{BTreeMap, get}
use Rattle.std.specs.List.{cons_option, filter_map}
use Rattle.xa_base.proofs.BranchKeys.{gtrid_eq-true}
use Rattle.xa_base.specs.Branch.{branch_of_xid, gtrid_cmp, gtrid_eq}
use Rattle.xa_model.specs.Facts.HeardAnswers.{lists_one_of}
use Rattle.xa_model.specs.Replies.History.{name_by, name_of}
use Rattle.xa_model.specs.Trace.{Happening.ResolvedOpen}
use Rattle.xa_base.specs.Xid.{Xid}
use Rattle.xa_base.specs.declared.branch.Branch.{Branch}
use Rattle.xa_base.specs.declared.branch.Gtrid.{Gtrid}
use Rattle.xa_base.specs.declared.step.Outcome.{Outcome}
use Rattle.xa_base.specs.declared.step.Outcome.TheVariants.{Commit, Rollback}
use Rattle.xa_tm.specs.Book.{Book, TransactionNotes, transaction_after}
use Rattle.xa_tm.specs.LedgerBook.{HasKept, HaveRoom, transaction_notes_of, transaction_at}
use Rattle.xa_tm.specs.Outcomes.{is_commit, is_rollback}
use Rattle.xa_tm.specs.Resolving.{is_one_of, open_gtrid_by, open_gtrid_for, open_in, rolled_back, rolled_back_by}
use Rattle.xa_tm.specs.declared.notes.Transaction.{Transaction}
use Rattle.xa_tm.proofs.Maps.Transactions.{transaction_is}

-- ** room

pub kept_both : {X : Type 0} (m n o : BTreeMap Gtrid X) → HasKept m n → HasKept n o → HasKept m o
kept_both m n o first next q has = next q (first q has)

pub room_kept : {X : Type 0} (m n : BTreeMap Gtrid X) (gs : List Gtrid) → HasKept m n → HaveRoom m gs → HaveRoom n gs
room_kept m n [] kept room = tt
room_kept m n (g ∷ gs) kept room = (kept g room.0, room_kept m n gs kept room.1)

pub room_first : {X : Type 0} (m : BTreeMap Gtrid X) (gs : List Gtrid) (i : ℕ) (d : Gtrid) → i < length gs → HaveRoom m (drop i gs)
    → IsSome (get gtrid_cmp m (get_or gs i d))
room_first m gs i d low room = (subst (HaveRoom m) (drop_more gs i d low) room).0

-- room for one more
pub room_more : {X : Type 0} (gs : List Gtrid) (i : ℕ) (d : Gtrid) (mid now : BTreeMap Gtrid X) → i < length gs → HasKept mid now
    → IsSome (get gtrid_cmp now (get_or gs i d))
    → ((m : BTreeMap Gtrid X) → HasKept mid m → HaveRoom m (drop i gs) → HaveRoom m gs)
    → (m : BTreeMap Gtrid X) → HasKept now m → HaveRoom m (drop (i + 1) gs) → HaveRoom m gs
room_more gs i d mid now low kept room before m keep rest =
    before m (λ q has. keep q (kept q has)) (subst (HaveRoom m) (sym (drop_more gs i d low)) (keep (get_or gs i d) room, rest))

-- one more is rolled back
pub rolled_more : (gs : List Gtrid) (i : ℕ) (d : Gtrid) (mid now : BTreeMap Gtrid Transaction) (all : Gtrid → Transaction) → i < length gs → HasKept mid now
    → ((q : Gtrid) → transaction_at now q ≡ (if gtrid_eq (get_or gs i d) q then rolled_back (transaction_at mid q) else transaction_at mid q))
    → HaveRoom mid (drop i gs) × ((q : Gtrid) → rolled_back_by (drop i gs) q (transaction_at mid q) ≡ all q)
    → HaveRoom now (drop (i + 1) gs) × ((q : Gtrid) → rolled_back_by (drop (i + 1) gs) q (transaction_at now q) ≡ all q)
rolled_more gs i d mid now all low kept at before = (
  room_kept mid now (drop (i + 1) gs) kept (subst (HaveRoom mid) (drop_more gs i d low) before.0).1,
  λ q. ap (rolled_back_by (drop (i + 1) gs) q) (at q) ∙ sym (ap (λ xs. rolled_back_by xs q (transaction_at mid q)) (drop_more gs i d low)) ∙ before.1 q,
)

-- all were
pub room_all : {X : Type 0} (m : BTreeMap Gtrid X) (gs : List Gtrid) (i : ℕ) → length gs ≤ i → HaveRoom m (drop i gs)
room_all m gs i past = subst (HaveRoom m) (sym (drop_all i gs past)) tt

-- ** the list

-- the open ones of a page are listed
pub opens_are : (k : Book) (xs : List Xid) (q : Gtrid) → is_one_of (filter_map (open_gtrid_for k) xs) q ≡ (lists_one_of q (map name_of xs) && open_in k q)
opens_are k [] q = refl
opens_are k (x ∷ xs) q = by (branch_of_xid x) (opens_are k xs q)
  where
    Tail : Type 0
    Tail = is_one_of (filter_map (open_gtrid_for k) xs) q ≡ (lists_one_of q (map name_of xs) && open_in k q)

    here : (b : Branch) (s t : Bool) → gtrid_eq b.gtrid q ≡ s → open_in k b.gtrid ≡ t → Tail
        → is_one_of (cons_option (if t then Some b.gtrid else None) (filter_map (open_gtrid_for k) xs)) q
        ≡ ((s || lists_one_of q (map name_of xs)) && open_in k q)
    here b true true same free tail =
        ap (λ u. u || is_one_of (filter_map (open_gtrid_for k) xs) q) same ∙ sym free ∙ ap (open_in k) (gtrid_eq-true b.gtrid q same)
    here b true false same free tail = tail ∙ shut (lists_one_of q (map name_of xs)) (open_in k q) (ap (open_in k) (sym (gtrid_eq-true b.gtrid q same)) ∙ free)
      where
        shut : (s t : Bool) → t ≡ false → (s && t) ≡ t
        shut true t e = refl
        shut false t e = sym e
    here b false true same free tail = ap (λ u. u || is_one_of (filter_map (open_gtrid_for k) xs) q) same ∙ tail
    here b false false same free tail = tail

    by : (o : Option Branch) → Tail
        → is_one_of (cons_option (open_gtrid_by k o) (filter_map (open_gtrid_for k) xs)) q ≡ (lists_one_of q (name_by x o ∷ map name_of xs) && open_in k q)
    by None tail = tail
    by (Some b) tail = here b (gtrid_eq b.gtrid q) (open_in k b.gtrid) refl refl tail

-- ** what is noted

pub rolled_once : (gs : List Gtrid) (q : Gtrid) (t : Transaction) → rolled_back_by gs q t ≡ (if is_one_of gs q then rolled_back t else t)
rolled_once [] q t = refl
rolled_once (g ∷ gs) q t = by (gtrid_eq g q) (rolled_once gs q (rolled_back t)) (rolled_once gs q t)
  where
    again : (u : Bool) → (if u then rolled_back (rolled_back t) else rolled_back t) ≡ rolled_back t
    again true = refl
    again false = refl

    by : (s : Bool) → rolled_back_by gs q (rolled_back t) ≡ (if is_one_of gs q then rolled_back (rolled_back t) else rolled_back t)
        → rolled_back_by gs q t ≡ (if is_one_of gs q then rolled_back t else t)
        → rolled_back_by gs q (if s then rolled_back t else t) ≡ (if s || is_one_of gs q then rolled_back t else t)
    by true rolled plain = rolled ∙ again (is_one_of gs q)
    by false rolled plain = plain

-- one transaction rolled back is what the book says of it
rolled_transaction : (s b n : Bool) (t : Transaction) (o : Option Outcome) (c h : Bool)
    → t.is_begun ≡ n → t.outcome ≡ o → t.is_claimed ≡ c → t.is_handed_over ≡ h
    → transaction_notes_of b (if s && ((b && n) && not ((b && (n && c)) || (is_commit o || h))) then rolled_back t else t)
    ≡ record (transaction_notes_of b t) { rolled_back = (s && ((b && n) && not ((b && (n && c)) || (is_commit o || h)))) || is_rollback t.outcome }
rolled_transaction false b n t o c h en eo ec eh = refl
rolled_transaction true false n t o c h en eo ec eh = refl
rolled_transaction true true false t o c h en eo ec eh = refl
rolled_transaction true true true t o true h en eo ec eh = refl
rolled_transaction true true true t (Some Commit) false h en eo ec eh = refl
rolled_transaction true true true t (Some Rollback) false true en eo ec eh = refl
rolled_transaction true true true t None false true en eo ec eh = refl
rolled_transaction true true true t (Some Rollback) false false en eo ec eh =
    transaction_is _ _ refl (sym (ap is_commit eo)) refl refl (ap (λ x. t.is_begun && x) (sym ec)) refl refl refl refl
rolled_transaction true true true t None false false en eo ec eh =
    transaction_is _ _ refl (sym (ap is_commit eo)) refl refl (ap (λ x. t.is_begun && x) (sym ec)) refl refl refl refl

pub open_transactions : (k : Book) (r : ℕ) (was : Gtrid → Bool) (old mid new : Gtrid → Transaction) (gs : List Gtrid)
    → ((q : Gtrid) → k.transaction q ≡ transaction_notes_of (was q) (old q))
    → ((q : Gtrid) → mid q ≡ old q)
    → ((q : Gtrid) → new q ≡ rolled_back_by gs q (mid q))
    → ((q : Gtrid) → is_one_of gs q ≡ (lists_one_of q (k.page r) && open_in k q))
    → (q : Gtrid) → transaction_notes_of (was q) (new q) ≡ transaction_after k (ResolvedOpen r) q (transaction_notes_of (was q) (old q))
open_transactions k r was old mid new gs holds same rolled listed q =
    let t = old q in
    ap (transaction_notes_of (was q)) (rolled q ∙ ap (rolled_back_by gs q) (same q) ∙ rolled_once gs q t
    ∙ ap (λ u. if u then rolled_back t else t)
    (listed q ∙ ap (λ (d : TransactionNotes). lists_one_of q (k.page r) && (d.begun && not (d.claimed || (d.committed || d.handed_over)))) (holds q)))
    ∙ rolled_transaction (lists_one_of q (k.page r)) (was q) t.is_begun t t.outcome t.is_claimed t.is_handed_over refl refl refl refl
