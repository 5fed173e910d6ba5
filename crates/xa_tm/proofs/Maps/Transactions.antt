-- From what the map of transactions has at each name to what the book says.
use Rattle.std.proofs.Common.{◌≡◌, ℕ, ◌+◌, Bool, true, false, not, ◌&&◌, ◌||◌, cond, Option, Some, None, IsSome, Result, Ok, Err, OnOk, OnErr, is_some, refl, sym, ap, ◌∙◌, subst, arith}
use Rattle.std.specs.Prelude.{if◌then◌else◌, unwrap_or}
use Rattle.std.specs.Ordering.{eq_by_cmp}
use Rattle.std.specs.BTreeMap.{BTreeMap, Updates, get, is_at}
use Rattle.std.specs.Global.{Vec}
use Rattle.std.specs.Option.{option_map}
use Rattle.std.proofs.lemmas.Bool.{true≢false, eq-eqb}
use Rattle.std.proofs.lemmas.Cmp.{eq_by_cmp_equiv}
use Rattle.std.proofs.Math.Bool.{and-false}
use Rattle.xa_base.specs.declared.call.Call.TheVariants as Calls
use Rattle.xa_base.specs.Branch.{gtrid_eq, gtrid_cmp}
use Rattle.xa_base.specs.declared.branch.Branch.{Branch}
use Rattle.xa_base.specs.declared.branch.Gtrid.{Gtrid}
use Rattle.xa_base.specs.declared.step.Outcome.{Outcome}
use Rattle.xa_base.specs.declared.step.Outcome.TheVariants as Outcomes
use Rattle.xa_model.specs.Trace.{Line, Happening.Begun, Happening.Issued, Happening.Claimed, Happening.Decided}
use Rattle.xa_base.proofs.BranchOrder.{gtrids_total, exact_gtrids}
use Rattle.xa_base.proofs.BranchKeys.{gtrid_eq-true, gtrid_eq-refl}
use Rattle.xa_base.proofs.Orders.{equal_is}
use Rattle.xa_tm.specs.Book.{TransactionNotes, Book, Waiting, transaction_after, with_branch, is_settled_in}
use Rattle.xa_tm.specs.LedgerBook.{HasKept, transaction_at, no_transaction, numbered_by, transaction_notes_of, row_at, waiting_of}
use Rattle.xa_tm.specs.Outcomes.{is_commit, is_rollback}
use Rattle.xa_tm.specs.declared.notes.Transaction.{Transaction}

-- ** names

-- a name ties with itself alone
pub gtrid_tie : (g q : Gtrid) → is_at (gtrid_cmp g) q ≡ gtrid_eq g q
gtrid_tie g q = by (is_at (gtrid_cmp g) q) (gtrid_eq g q) refl refl
  where
    by : (s t : Bool) → is_at (gtrid_cmp g) q ≡ s → gtrid_eq g q ≡ t → s ≡ t
    by true true e f = refl
    by false false e f = refl
    by true false e f = absurd (true≢false (sym (gtrid_eq-refl g) ∙ ap (gtrid_eq g) (exact_gtrids g q (equal_is _ e)) ∙ f))
    by false true e f = absurd (true≢false (sym ((eq_by_cmp_equiv gtrids_total).refl g) ∙ ap (eq_by_cmp gtrid_cmp g) (gtrid_eq-true g q f) ∙ e))

-- ** room

-- room for a name says nothing of it
pub reserved : (m n : BTreeMap Gtrid Transaction) (g : Gtrid) → false ≡ is_some (get gtrid_cmp m g)
    → ((q : Gtrid) → get gtrid_cmp n q ≡ cond (is_at (gtrid_cmp g) q) (Some no_transaction) (get gtrid_cmp m q)) → (q : Gtrid)
    → transaction_at n q ≡ transaction_at m q
reserved m n g none h q = ap (λ o. unwrap_or o no_transaction) (h q) ∙ by (is_at (gtrid_cmp g) q) refl
  where
    empty : (o : Option Transaction) → false ≡ is_some o → no_transaction ≡ unwrap_or o no_transaction
    empty None e = refl
    empty (Some t) e = absurd (cc)

    by : (t : Bool) → is_at (gtrid_cmp g) q ≡ t
        → unwrap_or (cond t (Some no_transaction) (get gtrid_cmp m q)) no_transaction ≡ unwrap_or (get gtrid_cmp m q) no_transaction
    by true e = subst (λ p. no_transaction ≡ unwrap_or (get gtrid_cmp m p) no_transaction) (exact_gtrids g q (equal_is _ e)) (empty (get gtrid_cmp m g) none)
    by false e = refl

-- ** one transaction is written

pub transaction_is : (c d : TransactionNotes) → c.begun ≡ d.begun → c.committed ≡ d.committed → c.rolled_back ≡ d.rolled_back → c.handed_over ≡ d.handed_over
    → c.claimed ≡ d.claimed → c.has_yes ≡ d.has_yes → c.branches ≡ d.branches → c.unvoted ≡ d.unvoted → c.unsettled ≡ d.unsettled → c ≡ d
transaction_is c d b m r h l y n u s =
    λ i. record {
      begun = b i;
      committed = m i;
      rolled_back = r i;
      handed_over = h i;
      claimed = l i;
      has_yes = y i;
      branches = n i;
      unvoted = u i;
      unsettled = s i;
    }

-- what this makes of it, and that the others stay
pub one_transaction : (after : Gtrid → TransactionNotes → TransactionNotes) (was now : Gtrid → Bool) (old mid new : Gtrid
    → Transaction) (g : Gtrid) (t : Transaction)
    → ((q : Gtrid) → mid q ≡ old q)
    → ((q : Gtrid) → new q ≡ (if gtrid_eq g q then t else mid q))
    → (gtrid_eq g g ≡ true → transaction_notes_of (now g) t ≡ after g (transaction_notes_of (was g) (old g)))
    → ((q : Gtrid) → gtrid_eq g q ≡ false → transaction_notes_of (now q) (old q) ≡ after q (transaction_notes_of (was q) (old q)))
    → (q : Gtrid) → transaction_notes_of (now q) (new q) ≡ after q (transaction_notes_of (was q) (old q))
one_transaction after was now old mid new g t same h here away q = ap (transaction_notes_of (now q)) (h q) ∙ by (gtrid_eq g q) refl
  where
    by : (b : Bool) → gtrid_eq g q ≡ b → transaction_notes_of (now q) (if b then t else mid q) ≡ after q (transaction_notes_of (was q) (old q))
    by true e = subst (λ p. transaction_notes_of (now p) t ≡ after p (transaction_notes_of (was p) (old p))) (gtrid_eq-true g q e) (here (gtrid_eq-refl g))
    by false e = ap (transaction_notes_of (now q)) (same q) ∙ away q e

-- ** a transaction is begun

pub numbered_now : (u : Bool) (i s : ℕ) → u ≡ true → numbered_by u i (s + 1) (record { incarnation = i; sequence = s + 1 }) ≡ true
numbered_now u i s e = grind (arith, eq-eqb)

pub not_yet_numbered : (u : Bool) (i s : ℕ) → numbered_by u i s (record { incarnation = i; sequence = s + 1 }) ≡ false
not_yet_numbered u i s = grind (arith, and-false)

pub numbered_others : (u : Bool) (i s : ℕ) (q : Gtrid) → gtrid_eq (record { incarnation = i; sequence = s + 1 }) q ≡ false
    → numbered_by u i (s + 1) q ≡ numbered_by u i s q
numbered_others u i s q e = grind (arith, and-false)

pub begin_transactions : (k : Book) (u : Bool) (i s : ℕ) (old mid new : Gtrid → Transaction) (t : Transaction) → u ≡ true
    → t ≡ mid (record { incarnation = i; sequence = s + 1 })
    → ((q : Gtrid) → mid q ≡ old q)
    → ((q : Gtrid) → new q ≡ (if gtrid_eq (record { incarnation = i; sequence = s + 1 }) q then record t { is_begun = true; is_claimed = false } else mid q))
    → (q : Gtrid) → transaction_notes_of (numbered_by u i (s + 1) q) (new q)
    ≡ transaction_after k (Begun (record { incarnation = i; sequence = s + 1 })) q (transaction_notes_of (numbered_by u i s q) (old q))
begin_transactions k u i s old mid new t up was same h =
    one_transaction (transaction_after k (Begun g)) (numbered_by u i s) (numbered_by u i (s + 1)) old mid new g
    (record t { is_begun = true; is_claimed = false }) same h
    (λ self. transaction_is _ _
    (ap (λ b. b && true) (numbered_now u i s up) ∙ sym (ap (λ b. b || (numbered_by u i s g && (old g).is_begun)) self))
    (ap (λ (x : Transaction). is_commit x.outcome) is) (ap (λ (x : Transaction). is_rollback x.outcome) is) (ap (λ (x : Transaction). x.is_handed_over) is)
    (and-false (numbered_by u i (s + 1) g) ∙ sym (ap (λ b. b && ((old g).is_begun && (old g).is_claimed)) (not_yet_numbered u i s)))
    (ap (λ (x : Transaction). x.has_yes) is) (ap (λ (x : Transaction). x.branches) is) (ap (λ (x : Transaction). x.unvoted) is)
    (ap (λ (x : Transaction). x.unsettled) is))
    (λ q e. transaction_is _ _
    (ap (λ b. b && (old q).is_begun) (numbered_others u i s q e) ∙ sym (ap (λ b. b || (numbered_by u i s q && (old q).is_begun)) e)) refl refl refl
    (ap (λ b. b && ((old q).is_begun && (old q).is_claimed)) (numbered_others u i s q e)) refl refl refl refl)
  where
    g : Gtrid
    g = record { incarnation = i; sequence = s + 1 }

    is : t ≡ old g
    is = was ∙ same g

-- ** a transaction is claimed

pub claim_transactions : (k : Book) (was : Gtrid → Bool) (old mid new : Gtrid → Transaction) (g : Gtrid) (t : Transaction)
    → (was g && (old g).is_begun) ≡ true → t ≡ mid g
    → ((q : Gtrid) → mid q ≡ old q) → ((q : Gtrid) → new q ≡ (if gtrid_eq g q then record t { is_claimed = true } else mid q))
    → (q : Gtrid) → transaction_notes_of (was q) (new q) ≡ transaction_after k (Claimed g) q (transaction_notes_of (was q) (old q))
claim_transactions k was old mid new g t begun there same h = one_transaction (transaction_after k (Claimed g)) was was old mid new g
    (record t { is_claimed = true }) same h
    (λ self. transaction_is _ _ (ap (λ (x : Transaction). was g && x.is_begun) is)
    (ap (λ (x : Transaction). is_commit x.outcome) is) (ap (λ (x : Transaction). is_rollback x.outcome) is) (ap (λ (x : Transaction). x.is_handed_over) is)
    (ap (λ (x : Transaction). was g && (x.is_begun && true)) is ∙ claimed_now (was g) (old g).is_begun begun
    ∙ sym (ap (λ b. b || (was g && ((old g).is_begun && (old g).is_claimed))) self))
    (ap (λ (x : Transaction). x.has_yes) is) (ap (λ (x : Transaction). x.branches) is) (ap (λ (x : Transaction). x.unvoted) is)
    (ap (λ (x : Transaction). x.unsettled) is))
    (λ q e. transaction_is _ _ refl refl refl refl (sym (ap (λ b. b || (was q && ((old q).is_begun && (old q).is_claimed))) e)) refl refl refl refl)
  where
    is : t ≡ old g
    is = there ∙ same g

    claimed_now : (n b : Bool) → (n && b) ≡ true → (n && (b && true)) ≡ true
    claimed_now true true h = refl
    claimed_now true false h = absurd (cc)
    claimed_now false b h = absurd (cc)

-- ** a transaction is handed over

pub hand_over_transactions : (k : Book) (l : Line) (b : Branch) (was : Gtrid → Bool) (old mid new : Gtrid → Transaction) (g : Gtrid) (t : Transaction)
    → b.gtrid ≡ g → t ≡ mid g
    → ((q : Gtrid) → mid q ≡ old q) → ((q : Gtrid) → new q ≡ (if gtrid_eq g q then record t { is_handed_over = true } else mid q))
    → (q : Gtrid) → transaction_notes_of (was q) (new q) ≡ transaction_after k (Issued l (Calls.Commit b true)) q (transaction_notes_of (was q) (old q))
hand_over_transactions k l b was old mid new g t of there same h q =
    one_transaction (λ p d. record d { handed_over = gtrid_eq g p || d.handed_over }) was was old mid new g (record t { is_handed_over = true }) same h
    (λ self. transaction_is _ _ (ap (λ (x : Transaction). was g && x.is_begun) is)
    (ap (λ (x : Transaction). is_commit x.outcome) is) (ap (λ (x : Transaction). is_rollback x.outcome) is) (sym (ap (λ b. b || (old g).is_handed_over) self))
    (ap (λ (x : Transaction). was g && (x.is_begun && x.is_claimed)) is)
    (ap (λ (x : Transaction). x.has_yes) is) (ap (λ (x : Transaction). x.branches) is) (ap (λ (x : Transaction). x.unvoted) is)
    (ap (λ (x : Transaction). x.unsettled) is))
    (λ q e. transaction_is _ _ refl refl refl (sym (ap (λ b. b || (old q).is_handed_over) e)) refl refl refl refl refl) q
    ∙ ap (λ h. record (transaction_notes_of (was q) (old q)) { handed_over = gtrid_eq h q || (old q).is_handed_over }) (sym of)
  where
    is : t ≡ old g
    is = there ∙ same g

-- ** a branch is started

pub with_equal : (old new : Gtrid → Transaction) (g : Gtrid) (t w : Transaction) → t ≡ w → ((q : Gtrid) → new q ≡ (if gtrid_eq g q then t else old q))
    → (q : Gtrid) → new q ≡ (if gtrid_eq g q then w else old q)
with_equal old new g t w is h q = h q ∙ ap (λ x. if gtrid_eq g q then x else old q) is

pub start_transactions : (k : Book) (b : Branch) (was : Gtrid → Bool) (old mid new : Gtrid → Transaction) (t : Transaction) (v s : Bool) → t ≡ old b.gtrid
    → v ≡ ((k.notes b).said_yes || (k.notes b).said_read_only) → s ≡ is_settled_in k b
    → ((q : Gtrid) → mid q ≡ old q)
    → ((q : Gtrid) → new q ≡ (if gtrid_eq b.gtrid q then record t {
      branches = t.branches + 1;
      unvoted = if v then t.unvoted else t.unvoted + 1;
      unsettled = if s then t.unsettled else t.unsettled + 1;
    } else mid q))
    → (q : Gtrid) → transaction_notes_of (was q) (new q) ≡ with_branch k b q (transaction_notes_of (was q) (old q))
start_transactions k b was old mid new t v s is voted settled same h = one_transaction (with_branch k b) was was old mid new b.gtrid _ same h
    (λ self. transaction_is _ _ (ap (λ (x : Transaction). was b.gtrid && x.is_begun) is)
    (ap (λ (x : Transaction). is_commit x.outcome) is) (ap (λ (x : Transaction). is_rollback x.outcome) is) (ap (λ (x : Transaction). x.is_handed_over) is)
    (ap (λ (x : Transaction). was b.gtrid && (x.is_begun && x.is_claimed)) is)
    (ap (λ (x : Transaction). x.has_yes) is)
    (ap (λ (x : Transaction). x.branches + 1) is ∙ sym (ap (λ (e : Bool). if e then (old b.gtrid).branches + 1 else (old b.gtrid).branches) self))
    (pick t.unvoted v (gtrid_eq b.gtrid b.gtrid) self ∙ ap (λ (x : Transaction). if gtrid_eq b.gtrid b.gtrid && not v then x.unvoted + 1 else x.unvoted) is
    ∙ ap (λ y. if gtrid_eq b.gtrid b.gtrid && not y then (old b.gtrid).unvoted + 1 else (old b.gtrid).unvoted) voted)
    (pick t.unsettled s (gtrid_eq b.gtrid b.gtrid) self ∙ ap
    (λ (x : Transaction). if gtrid_eq b.gtrid b.gtrid && not s then x.unsettled + 1 else x.unsettled) is
    ∙ ap (λ y. if gtrid_eq b.gtrid b.gtrid && not y then (old b.gtrid).unsettled + 1 else (old b.gtrid).unsettled) settled))
    (λ q e. transaction_is _ _ refl refl refl refl refl refl
    (sym (ap (λ (t : Bool). if t then (old q).branches + 1 else (old q).branches) e))
    (sym (ap (λ (t : Bool). if t && not ((k.notes b).said_yes || (k.notes b).said_read_only) then (old q).unvoted + 1 else (old q).unvoted) e))
    (sym (ap (λ (t : Bool). if t && not (is_settled_in k b) then (old q).unsettled + 1 else (old q).unsettled) e)))
  where
    pick : (n : ℕ) (v e : Bool) → e ≡ true → (if v then n else n + 1) ≡ (if e && not v then n + 1 else n)
    pick n v false z = absurd (cc)
    pick n true true z = refl
    pick n false true z = refl

-- ** a transaction is decided

pub decide_transactions : (k : Book) (was : Gtrid → Bool) (old new : Gtrid → Transaction) (g : Gtrid) (o : Outcome) (t w : Transaction)
    → t ≡ old g → (old g).outcome ≡ None
    → w ≡ record t { outcome = Some o; is_claimed = false }
    → ((q : Gtrid) → new q ≡ (if gtrid_eq g q then w else old q))
    → (q : Gtrid) → transaction_notes_of (was q) (new q) ≡ transaction_after k (Decided g o) q (transaction_notes_of (was q) (old q))
decide_transactions k was old new g Outcomes.Commit t w is none made h = one_transaction
    (transaction_after k (Decided g Outcomes.Commit)) was was old old new g _ (λ q. refl)
    (with_equal old new g w _ made h)
    (λ self. transaction_is _ _ (ap (λ (x : Transaction). was g && x.is_begun) is)
    (sym (ap (λ b. b || is_commit (old g).outcome) self)) (sym (ap is_rollback none))
    (ap (λ (x : Transaction). x.is_handed_over) is)
    (none_left (was g) t.is_begun ∙ sym (ap (λ b. not b && (was g && ((old g).is_begun && (old g).is_claimed))) self))
    (ap (λ (x : Transaction). x.has_yes) is) (ap (λ (x : Transaction). x.branches) is) (ap (λ (x : Transaction). x.unvoted) is)
    (ap (λ (x : Transaction). x.unsettled) is))
    (λ q e. transaction_is _ _ refl (sym (ap (λ b. b || is_commit (old q).outcome) e)) refl refl
    (sym (ap (λ b. not b && (was q && ((old q).is_begun && (old q).is_claimed))) e)) refl refl refl refl)
  where
    none_left : (n b : Bool) → (n && (b && false)) ≡ false
    none_left true true = refl
    none_left true false = refl
    none_left false b = refl
decide_transactions k was old new g Outcomes.Rollback t w is none made h = one_transaction
    (transaction_after k (Decided g Outcomes.Rollback)) was was old old new g _ (λ q. refl)
    (with_equal old new g w _ made h)
    (λ self. transaction_is _ _ (ap (λ (x : Transaction). was g && x.is_begun) is)
    (sym (ap is_commit none)) (sym (ap (λ b. b || is_rollback (old g).outcome) self))
    (ap (λ (x : Transaction). x.is_handed_over) is)
    (none_left (was g) t.is_begun ∙ sym (ap (λ b. not b && (was g && ((old g).is_begun && (old g).is_claimed))) self))
    (ap (λ (x : Transaction). x.has_yes) is) (ap (λ (x : Transaction). x.branches) is) (ap (λ (x : Transaction). x.unvoted) is)
    (ap (λ (x : Transaction). x.unsettled) is))
    (λ q e. transaction_is _ _ refl refl (sym (ap (λ b. b || is_rollback (old q).outcome) e)) refl
    (sym (ap (λ b. not b && (was q && ((old q).is_begun && (old q).is_claimed))) e)) refl refl refl refl)
  where
    none_left : (n b : Bool) → (n && (b && false)) ≡ false
    none_left true true = refl
    none_left true false = refl
    none_left false b = refl

-- ** rows

-- room for a row is none
pub reserved_row : (m n : BTreeMap Gtrid (Option (Vec Branch))) (g : Gtrid) → false ≡ is_some (get gtrid_cmp m g)
    → ((q : Gtrid) → get gtrid_cmp n q ≡ cond (is_at (gtrid_cmp g) q) (Some None) (get gtrid_cmp m q)) → (q : Gtrid) → row_at n q ≡ row_at m q
reserved_row m n g none h q = ap (λ (o : Option (Option (Vec Branch))). option_map waiting_of (unwrap_or o None)) (h q) ∙ by (is_at (gtrid_cmp g) q) refl
  where
    no_row : Option Waiting
    no_row = None

    empty : (o : Option (Option (Vec Branch))) → false ≡ is_some o → no_row ≡ option_map waiting_of (unwrap_or o None)
    empty None e = refl
    empty (Some t) e = absurd (cc)

    by : (t : Bool) → is_at (gtrid_cmp g) q ≡ t → option_map waiting_of (unwrap_or (cond t (Some None) (get gtrid_cmp m q)) None) ≡ row_at m q
    by true e = subst (λ p. no_row ≡ row_at m p) (exact_gtrids g q (equal_is _ e)) (empty (get gtrid_cmp m g) none)
    by false e = refl

-- what there was room for, there still is
pub kept_by : {X : Type 0} (m n : BTreeMap Gtrid X) (g : Gtrid) (t : X)
    → ((q : Gtrid) → get gtrid_cmp n q ≡ cond (is_at (gtrid_cmp g) q) (Some t) (get gtrid_cmp m q)) → HasKept m n
kept_by m n g t h q has = subst IsSome (sym (h q)) (by (is_at (gtrid_cmp g) q))
  where
    by : (b : Bool) → IsSome (cond b (Some t) (get gtrid_cmp m q))
    by true = search
    by false = has

-- what can't fail was done
pub written : {X E : Type 0} (r : Result (Option X) E) (m n : BTreeMap Gtrid X) (g : Gtrid) (t : X)
    → OnOk r (Updates gtrid_cmp m n g (Some t)) → OnErr r (get gtrid_cmp m g ≡ None) → IsSome (get gtrid_cmp m g) → HasKept m n
written (Ok v) m n g t done failed some = kept_by m n g t done.0
written {X = X} (Err e) m n g t done failed some = absurd (never (get gtrid_cmp m g) some failed)
  where
    never : (o : Option X) → IsSome o → o ≡ None → ⊥
    never None s e = let no : ⊥ = cc in no
    never (Some x) s e = let no : ⊥ = cc in no
