-- What is noted of a transaction is taken out of the maps of the manager's book.
use Rattle.std.proofs.Common.{◌≡◌, filter, Bool, true, false, not, ◌&&◌, ◌||◌, cond, Option, Some, None, is_some, refl, sym, ap, ◌∙◌}
use Rattle.std.specs.Prelude.{if◌then◌else◌, unwrap_or}
use Rattle.std.specs.BTreeMap.{BTreeMap, get, is_at, IsOrdered}
use Rattle.std.specs.Global.{Vec}
use Rattle.std.specs.List.{list_any}
use Rattle.std.specs.Map.{keys_of}
use Rattle.std.specs.Option.{option_map}
use Rattle.std.specs.Ordering.{eq_by_cmp}
use Rattle.std.proofs.lemmas.Bool.{true≢false}
use Rattle.xa_base.specs.Branch.{branch_cmp, gtrid_cmp, gtrid_eq}
use Rattle.xa_base.specs.declared.branch.Branch.{Branch}
use Rattle.xa_base.specs.declared.branch.Gtrid.{Gtrid}
use Rattle.xa_base.specs.declared.code.How.{How}
use Rattle.xa_base.proofs.BranchKeys.{gtrid_eq-refl, gtrid_eq-true}
use Rattle.xa_tm.specs.LedgerBook.{as_book, no_branch, no_transaction, notes_at, notes_of, row_at, transaction_at, transaction_notes_of, waiting_of}
use Rattle.xa_tm.specs.Release.{AreFinished}
use Rattle.xa_tm.specs.Starting.{no_notes, no_transaction_notes}
use Rattle.xa_tm.specs.declared.ledger.Ledger.{Ledger}
use Rattle.xa_tm.specs.declared.notes.BranchNotes.{BranchNotes}
use Rattle.xa_tm.specs.declared.notes.Transaction.{Transaction}
use Rattle.xa_tm.proofs.Maps.Transactions.{gtrid_tie}
use Rattle.xa_tm.proofs.Maps.StartedBranches.{any_kept, known_has}
use Rattle.xa_tm.proofs.History.Members.{passes_among, witness}
use Rattle.xa_tm.proofs.Maps.UnfinishedBranches.{some_left}

-- ** a transaction, and the room for its row

pub removed : (m n : BTreeMap Gtrid Transaction) (g : Gtrid)
    → ((q : Gtrid) → get gtrid_cmp n q ≡ cond (is_at (gtrid_cmp g) q) None (get gtrid_cmp m q)) → (q : Gtrid)
    → transaction_at n q ≡ (if gtrid_eq g q then no_transaction else transaction_at m q)
removed m n g h q =
    ap (λ o. unwrap_or o no_transaction) (h q) ∙ by (is_at (gtrid_cmp g) q)
    ∙ ap (λ (t : Bool). if t then no_transaction else transaction_at m q) (gtrid_tie g q)
  where
    by : (t : Bool) → unwrap_or (cond t None (get gtrid_cmp m q)) no_transaction ≡ (if t then no_transaction else transaction_at m q)
    by true = refl
    by false = refl

pub removed_room : (m n : BTreeMap Gtrid (Option (Vec Branch))) (g : Gtrid) → row_at m g ≡ None
    → ((q : Gtrid) → get gtrid_cmp n q ≡ cond (is_at (gtrid_cmp g) q) None (get gtrid_cmp m q)) → (q : Gtrid) → row_at n q ≡ row_at m q
removed_room m n g none h q =
    ap (λ (o : Option (Option (Vec Branch))). option_map waiting_of (unwrap_or o None)) (h q) ∙ by (is_at (gtrid_cmp g) q) (gtrid_tie g q)
  where
    by : (t : Bool) → t ≡ gtrid_eq g q → option_map waiting_of (unwrap_or (cond t None (get gtrid_cmp m q)) None) ≡ row_at m q
    by true e = sym none ∙ ap (row_at m) (gtrid_eq-true g q (sym e))
    by false e = refl

-- the entry is gone
pub taken_out : {X : Type 0} (m n : BTreeMap Gtrid X) (g : Gtrid)
    → ((q : Gtrid) → get gtrid_cmp n q ≡ cond (is_at (gtrid_cmp g) q) None (get gtrid_cmp m q)) → get gtrid_cmp n g ≡ None
taken_out m n g h = h g ∙ ap (λ t. cond t None (get gtrid_cmp m g)) (gtrid_tie g g ∙ gtrid_eq-refl g)

-- ** nothing more can come of them

-- an entry of a branch of the transaction of which something may still come
abbrev pub is_owed : Gtrid → Branch × BranchNotes → Bool
is_owed g e = ((e.1.is_started && not e.1.is_finished) || is_some e.1.recorded) && gtrid_eq e.0.gtrid g

pub is_of : (g : Gtrid) (e : Branch × BranchNotes) → is_owed g e ≡ true → gtrid_eq e.0.gtrid g ≡ true
is_of g e owed = by _ _ owed
  where
    by : (a b : Bool) → (a && b) ≡ true → b ≡ true
    by a true is = refl
    by true false is = absurd (cc)
    by false false is = absurd (cc)

module _ (k : Ledger) (g : Gtrid) (up : IsOrdered branch_cmp k.branches) where
  at_branch : (q : Branch) → list_any (eq_by_cmp branch_cmp q) (keys_of (filter (is_owed g) k.branches.entries)) ≡ is_owed g (q, notes_at k.branches q)
  at_branch q = any_kept (is_owed g) q refl k.branches.entries up

  none_owed : list_any (is_owed g) k.branches.entries ≡ false → (q : Branch) → is_owed g (q, notes_at k.branches q) ≡ false
  none_owed none q = by (is_owed g (q, notes_at k.branches q)) refl
    where
      by : (t : Bool) → is_owed g (q, notes_at k.branches q) ≡ t → t ≡ false
      by false e = refl
      by true e = absurd (true≢false (sym (passes_among (λ _. true) q (keys_of (filter (is_owed g) k.branches.entries)) refl (at_branch q ∙ e))
          ∙ sym (some_left (is_owed g) k.branches.entries) ∙ none))

  pub all_finished : list_any (is_owed g) k.branches.entries ≡ false → AreFinished (as_book k) g
  all_finished none = record {
    finished = λ b of known.
        by (notes_at k.branches b).is_started (notes_at k.branches b).is_finished (is_some (notes_at k.branches b).recorded) (gtrid_eq b.gtrid g)
        (sym (known_has k.branches up b) ∙ known) (ap (λ x. gtrid_eq x g) of ∙ gtrid_eq-refl g) (none_owed none b);
    unrecorded = λ b of.
        unmade (notes_at k.branches b).recorded ((notes_at k.branches b).is_started && not (notes_at k.branches b).is_finished) (gtrid_eq b.gtrid g)
        (ap (λ x. gtrid_eq x g) of ∙ gtrid_eq-refl g) (none_owed none b);
  }
    where
      by : (s f r t : Bool) → s ≡ true → t ≡ true → (((s && not f) || r) && t) ≡ false → f ≡ true
      by true true r t is of owed = refl
      by true false r true is of owed = absurd (cc)
      by true false r false is of owed = absurd (cc)
      by false f r t is of owed = absurd (cc)

      unmade : {X : Type 0} (o : Option X) (s t : Bool) → t ≡ true → ((s || is_some o) && t) ≡ false → o ≡ None
      unmade None s t of owed = refl
      unmade (Some x) true true of owed = absurd (cc)
      unmade (Some x) false true of owed = absurd (cc)
      unmade (Some x) s false of owed = absurd (cc)

  pub one_owed : list_any (is_owed g) k.branches.entries ≡ true → AreFinished (as_book k) g → ⊥
  one_owed some finished =
      let w = witness (λ _. true) (keys_of (filter (is_owed g) k.branches.entries)) (sym (some_left (is_owed g) k.branches.entries) ∙ some) in
      by w.one (notes_at k.branches w.one).is_started (notes_at k.branches w.one).is_finished (notes_at k.branches w.one).recorded (gtrid_eq w.one.gtrid g)
      refl refl refl refl (sym (at_branch w.one) ∙ w.among)
    where
      never : (x : Bool) → (x && false) ≡ true → ⊥
      never true e = absurd (cc)
      never false e = absurd (cc)

      by : (q : Branch) (s f : Bool) (r : Option How) (t : Bool) → (notes_at k.branches q).is_started ≡ s → (notes_at k.branches q).is_finished ≡ f
          → (notes_at k.branches q).recorded ≡ r → gtrid_eq q.gtrid g ≡ t → (((s && not f) || is_some r) && t) ≡ true → ⊥
      by q s f (Some how) true es ef er et owed =
          let none = sym er ∙ finished.unrecorded q (gtrid_eq-true q.gtrid g et) in true≢false (ap is_some none)
      by q true false None true es ef er et owed =
          true≢false (sym (finished.finished q (gtrid_eq-true q.gtrid g et) (known_has k.branches up q ∙ es)) ∙ ef)
      by q true true None true es ef er et owed = absurd (cc)
      by q false f None true es ef er et owed = absurd (cc)
      by q s f r false es ef er et owed = never ((s && not f) || is_some r) owed

-- ** what the book then says

pub no_longer_noted : (g : Gtrid) (numbered : Bool) (q : Gtrid) (t : Transaction)
    → transaction_notes_of numbered (if gtrid_eq g q then no_transaction else t)
    ≡ (if gtrid_eq g q then no_transaction_notes else transaction_notes_of numbered t)
no_longer_noted g numbered q t = by numbered (gtrid_eq g q)
  where
    by : (n e : Bool) → transaction_notes_of n (if e then no_transaction else t) ≡ (if e then no_transaction_notes else transaction_notes_of n t)
    by true true = refl
    by false true = refl
    by n false = refl

pub no_longer_said : (g : Gtrid) (b : Branch) (n : BranchNotes)
    → notes_of (if gtrid_eq g b.gtrid then no_branch else n) ≡ (if gtrid_eq g b.gtrid then no_notes else notes_of n)
no_longer_said g b n = by (gtrid_eq g b.gtrid)
  where
    by : (e : Bool) → notes_of (if e then no_branch else n) ≡ (if e then no_notes else notes_of n)
    by true = refl
    by false = refl

-- a branch of a transaction that is over was recorded as none
pub still_recorded : (g : Gtrid) (b : Branch) (n : BranchNotes) → (b.gtrid ≡ g → n.recorded ≡ None)
    → (if gtrid_eq g b.gtrid then no_branch else n).recorded ≡ n.recorded
still_recorded g b n none = by (gtrid_eq g b.gtrid) refl
  where
    by : (e : Bool) → gtrid_eq g b.gtrid ≡ e → (if e then no_branch else n).recorded ≡ n.recorded
    by true same = sym (none (sym (gtrid_eq-true g b.gtrid same)))
    by false other = refl
