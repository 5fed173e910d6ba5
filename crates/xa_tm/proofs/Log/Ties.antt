-- The log stays tied to the book.
use Rattle.std.proofs.Common.{◌≡◌, ◌≤◌, ◌⊎◌, inl, inr, ◌+◌, Bool, true, false, cond, Option, Some, None, IsSomeAnd, is_some, refl, sym, ap, ◌∙◌, subst, arith}
use Rattle.std.specs.Prelude.{if◌then◌else◌}
use Rattle.std.specs.Ordering.{eq_by_cmp}
use Rattle.std.specs.FinMap.{get, len, insert, contains_key, get-insert, len-insert}
use Rattle.std.proofs.lemmas.Cmp.{eq_by_cmp_equiv}
use Rattle.xa_base.specs.Branch.{branch_cmp, branch_eq}
use Rattle.xa_base.specs.declared.branch.Branch.{Branch}
use Rattle.xa_base.specs.declared.branch.Gtrid.{Gtrid}
use Rattle.xa_base.specs.declared.code.How.{How}
use Rattle.xa_model.specs.Trace.{Fault, Happening.Failed}
use Rattle.xa_base.proofs.BranchOrder.{branches_total}
use Rattle.xa_base.proofs.BranchKeys.{branch_eq-true}
use Rattle.xa_base.proofs.Options.{some_is}
use Rattle.xa_base.proofs.Orders.{branch_tie}
use Rattle.xa_log.specs.Content.{Content}
use Rattle.xa_log.specs.Contract.{Makes, MayMake}
use Rattle.xa_log.proofs.TakenTogether.{same_incarnation}
use Rattle.xa_tm.specs.Book.{Book, Doubt, Doubt.Adds, Doubt.Drops, Doubt.Records, Doubt.NoDoubt, book_after, failed_restarts_after, row_with, recorded_with, records_with}
use Rattle.xa_tm.specs.BookAndLog.{HoldsBook, IsChangeOf, changed_by, rows_of, SameRowsAndRecords, MayHold, IsReached, IsTiedUp, IsTiedDown, TiedBy, IsTied}
use Rattle.xa_tm.proofs.Several.Contents.{added_incarnation, changed_at, changed_len, of_same}

-- ** what the log doesn't see

-- the two books say the same of the log
pub record SameOfLog (k l : Book) : Type 0 where
  pub up : l.up ≡ k.up
  pub incarnation : l.incarnation ≡ k.incarnation
  pub failed_restarts : l.failed_restarts ≡ k.failed_restarts
  pub row : (g : Gtrid) → l.row g ≡ k.row g
  pub rows : l.rows ≡ k.rows
  pub recorded : (b : Branch) → l.recorded b ≡ k.recorded b
  pub records : l.records ≡ k.records
  pub doubt : l.doubt ≡ k.doubt

holds_same : (k l : Book) (c : Content) → SameOfLog k l → HoldsBook k c → HoldsBook l c
holds_same k l c s h = record {
  rows = λ g. h.rows g ∙ sym (s.row g);
  row_number = h.row_number ∙ sym s.rows;
  records = λ b. h.records b ∙ sym (s.recorded b);
  record_number = h.record_number ∙ sym s.records;
}

may_hold_same : (k l : Book) (c : Content) → SameOfLog k l → MayHold k c → MayHold l c
may_hold_same k l c s h = (h.0, holds_same k l h.0 s h.1, by h.2)
  where
    by : SameRowsAndRecords c h.0 ⊎ (IsChangeOf k.row k.doubt × SameRowsAndRecords c (changed_by k.doubt h.0))
        → SameRowsAndRecords c h.0 ⊎ (IsChangeOf l.row l.doubt × SameRowsAndRecords c (changed_by l.doubt h.0))
    by (inl same) = inl same
    by (inr made) = inr (subst (λ d. IsChangeOf l.row d × SameRowsAndRecords c (changed_by d h.0)) (sym s.doubt)
        (of_same k.row l.row k.doubt s.row made.0, made.1))

down_same : (near : Bool) (k l : Book) (c : Content) → SameOfLog k l → IsTiedDown near k c → IsTiedDown near l c
down_same near k l c s t = record {
  holds = may_hold_same k l c s t.holds;
  incarnation = λ h. record {
    least = subst (λ i. i ≤ c.incarnation) (sym s.incarnation) (t.incarnation h).least;
    most = subst (λ i. c.incarnation ≤ i + l.failed_restarts) (sym s.incarnation)
        (subst (λ n. c.incarnation ≤ k.incarnation + n) (sym s.failed_restarts) (t.incarnation h).most);
  };
}

up_same : (k l : Book) (c : Content) → SameOfLog k l → IsTiedUp k c → IsTiedUp l c
up_same k l c s t = record { holds = holds_same k l c s t.holds; incarnation = t.incarnation ∙ sym s.incarnation }

pub tied_same : (near : Bool) (k l : Book) (log : Option Content) → SameOfLog k l → IsTied near k log → IsTied near l log
tied_same near k l log s tied = subst (λ u. TiedBy u near l log) (sym s.up) (by k.up log tied)
  where
    by : (u : Bool) (log : Option Content) → TiedBy u near k log → TiedBy u near l log
    by true None tied = absurd tied
    by true (Some c) tied = up_same k l c s tied
    by false log tied = λ c is. down_same near k l c s (tied c is)

-- while the manager is up, the log holds something
pub up_content : (near : Bool) (k : Book) (log : Option Content) → k.up ≡ true → IsTied near k log → IsSomeAnd log (IsTiedUp k)
up_content near k log up tied = subst (λ u. TiedBy u near k log) up tied

-- ** changes

made_incarnation : (d : Doubt) (c : Content) → (changed_by d c).incarnation ≡ c.incarnation
made_incarnation (Adds xs) c = added_incarnation xs c
made_incarnation (Drops gs) c = same_incarnation gs c
made_incarnation (Records b how) c = by (contains_key c.heuristics b)
  where
    by : (t : Bool) → (if t then c else record c { heuristics = insert c.heuristics b how }).incarnation ≡ c.incarnation
    by true = refl
    by false = refl
made_incarnation NoDoubt c = refl

-- a failure leaves the change in doubt
pub tied_fault : (near : Bool) (k : Book) (asked : Doubt) (f : Fault) (old new : Option Content) → k.up ≡ true → IsChangeOf k.row asked
    → failed_restarts_after (Failed f) k.failed_restarts ≡ k.failed_restarts
    → MayMake (changed_by asked) old new → IsTied near k old → IsTied near (book_after k asked (Failed f)) new
tied_fault near k asked f old new up of same may tied = go old (up_content near k old up tied) may
  where
    n : Book
    n = book_after k asked (Failed f)

    fresh : n.doubt ≡ asked
    fresh = ap (λ (u : Bool). if u then asked else k.doubt) up

    held_still : (c : Content) → HoldsBook k c → HoldsBook n c
    held_still c h = record { rows = h.rows; row_number = h.row_number; records = h.records; record_number = h.record_number }

    reached : (c : Content) → c.incarnation ≡ k.incarnation → IsReached n c
    reached c e = record {
      least = let a : k.incarnation ≤ c.incarnation = omega arith in a;
      most = subst (λ r. c.incarnation ≤ k.incarnation + r) (sym same) (let a : c.incarnation ≤ k.incarnation + k.failed_restarts = omega arith in a);
    }

    as_before : (d c : Content) → d ≡ c → IsTiedUp k d → IsTiedDown near n c
    as_before d c is t =
        subst (IsTiedDown near n) is (record {
          holds = (d, held_still d t.holds, inl (record { decisions = refl; heuristics = refl }));
          incarnation = λ h. reached d t.incarnation;
        })

    changed : (d c : Content) → changed_by asked d ≡ c → IsTiedUp k d → IsTiedDown near n c
    changed d c is t = subst (IsTiedDown near n) is (record {
      holds = (
        d,
        held_still d t.holds,
        inr (subst (λ x. IsChangeOf k.row x × SameRowsAndRecords (changed_by asked d) (changed_by x d)) (sym fresh)
            (of, record { decisions = refl; heuristics = refl })),
      );
      incarnation = λ h. reached (changed_by asked d) (made_incarnation asked d ∙ t.incarnation);
    })

    go : (old : Option Content) → IsSomeAnd old (IsTiedUp k) → MayMake (changed_by asked) old new → (c : Content) → new ≡ Some c → IsTiedDown near n c
    go None t may c is = absurd t
    go (Some d) t (inl none) c is = absurd (let no : None ≡ Some c = sym none ∙ is in cc)
    go (Some d) t (inr (inl stays)) c is = as_before d c (some_is d c (sym stays ∙ is)) t
    go (Some d) t (inr (inr done)) c is = changed d c (some_is (changed_by asked d) c (sym done ∙ is)) t

-- the change is made
module _ (near : Bool) (k l : Book) (up : k.up ≡ true) (still_up : l.up ≡ true) (same : l.incarnation ≡ k.incarnation) where
  pub tied_made : (asked : Doubt) (old new : Option Content) → ((c : Content) → HoldsBook k c → HoldsBook l (changed_by asked c))
      → Makes (changed_by asked) old new → IsTied near k old → IsTied near l new
  tied_made asked old new holds makes tied = subst (λ u. TiedBy u near l new) (sym still_up) (go old (up_content near k old up tied) makes)
    where
      go : (old : Option Content) → IsSomeAnd old (IsTiedUp k) → Makes (changed_by asked) old new → IsSomeAnd new (IsTiedUp l)
      go None t makes = absurd t
      go (Some c) t makes = subst (λ x. IsSomeAnd x (IsTiedUp l)) (sym makes)
          (record { holds = holds c t.holds; incarnation = made_incarnation asked c ∙ t.incarnation ∙ sym same })

-- rows are written or leave
pub holds_changed : (k l : Book) (d : Doubt) → IsChangeOf k.row d → ((c : Content) → (changed_by d c).heuristics ≡ c.heuristics)
    → ((q : Gtrid) → l.row q ≡ row_with d q (k.row q)) → l.rows ≡ rows_of d k.rows
    → ((b : Branch) → l.recorded b ≡ k.recorded b) → l.records ≡ k.records → (c : Content) → HoldsBook k c → HoldsBook l (changed_by d c)
holds_changed k l d of ends row rows recs number c h = record {
  rows = λ q. changed_at d c here q ∙ ap (row_with d q) (h.rows q) ∙ sym (row q);
  row_number = changed_len d c here ∙ ap (rows_of d) h.row_number ∙ sym rows;
  records = λ b. ap (λ m. get m b) (ends c) ∙ h.records b ∙ sym (recs b);
  record_number = ap len (ends c) ∙ h.record_number ∙ sym number;
}
  where
    here : IsChangeOf (λ g. get c.decisions g) d
    here = of_same k.row (λ g. get c.decisions g) d h.rows of

-- a record is noted: the first of a branch stays
pub holds_record : (k l : Book) (b : Branch) (how : How) → ((g : Gtrid) → l.row g ≡ k.row g) → l.rows ≡ k.rows
    → ((q : Branch) → l.recorded q ≡ recorded_with (Records b how) q (k.recorded q)) → l.records ≡ records_with k (Records b how) k.records
    → (c : Content) → HoldsBook k c → HoldsBook l (changed_by (Records b how) c)
holds_record k l b how row rows recs number c h = by (contains_key c.heuristics b) refl
  where
    is : contains_key c.heuristics b ≡ is_some (k.recorded b)
    is = ap is_some (h.records b)

    swap : (q : Branch) → eq_by_cmp branch_cmp q b ≡ branch_eq b q
    swap q = (eq_by_cmp_equiv branches_total).symm q b ∙ branch_tie b q

    by : (t : Bool) → contains_key c.heuristics b ≡ t → HoldsBook l (if t then c else record c { heuristics = insert c.heuristics b how })
    by true e = record {
      rows = λ g. h.rows g ∙ sym (row g);
      row_number = h.row_number ∙ sym rows;
      records = λ q. h.records q ∙ stays q (k.recorded q) refl ∙ sym (recs q);
      record_number = h.record_number ∙ sym (ap (λ (t : Bool). if t then k.records else k.records + 1) (sym is ∙ e)) ∙ sym number;
    }
      where
        here : (q : Branch) (t : Bool) → branch_eq b q ≡ t → k.recorded q ≡ None → None ≡ (if t then Some how else None)
        here q true same none = absurd (clash (k.recorded b) (ap k.recorded (branch_eq-true b q same) ∙ none) (sym is ∙ e))
          where
            clash : (o : Option How) → o ≡ None → is_some o ≡ true → ⊥
            clash None p r = let no : ⊥ = cc in no
            clash (Some x) p r = let no : ⊥ = cc in no
        here q false same none = refl

        stays : (q : Branch) (o : Option How) → k.recorded q ≡ o → o ≡ recorded_with (Records b how) q o
        stays q None none = here q (branch_eq b q) refl none
        stays q (Some x) some = refl
    by false e = record {
      rows = λ g. h.rows g ∙ sym (row g);
      row_number = h.row_number ∙ sym rows;
      records =
          λ q. get-insert branches_total c.heuristics b how q ∙ ap (λ t. cond t (Some how) (get c.heuristics q)) (swap q)
          ∙ ap (cond (branch_eq b q) (Some how)) (h.records q)
          ∙ put q (k.recorded q) (branch_eq b q) refl refl ∙ sym (recs q);
      record_number =
          len-insert branches_total c.heuristics b how ∙ ap (λ t. cond t (len c.heuristics) (len c.heuristics + 1)) e ∙ ap (λ n. n + 1) h.record_number
          ∙ sym (ap (λ (t : Bool). if t then k.records else k.records + 1) (sym is ∙ e)) ∙ sym number;
    }
      where
        clash : (o : Option How) (x : How) → o ≡ Some x → is_some o ≡ false → ⊥
        clash None x p r = let no : ⊥ = cc in no
        clash (Some y) x p r = let no : ⊥ = cc in no

        put : (q : Branch) (o : Option How) (t : Bool) → k.recorded q ≡ o → branch_eq b q ≡ t → (if t then Some how else o) ≡ recorded_with (Records b how) q o
        put q None t none same = sym (ap (λ (u : Bool). if u then Some how else None) same)
        put q (Some x) true some same = absurd (clash (k.recorded b) x (ap k.recorded (branch_eq-true b q same) ∙ some) (sym is ∙ e))
        put q (Some x) false some same = refl
