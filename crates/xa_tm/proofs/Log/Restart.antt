-- The manager comes up again.
use Rattle.std.proofs.Common.{◌≡◌, ◌≤◌, ◌⊎◌, inl, inr, ℕ, ◌+◌, ◌==◌, Bool, true, false, not, cond, Option, Some, None, IsSomeAnd, is_some, refl, sym, ap, ◌∙◌, subst, arith}
use Rattle.std.specs.Prelude.{if◌then◌else◌, nat_eq}
use Rattle.std.specs.Option.{option_or}
use Rattle.std.specs.FinMap.{get, len, insert, contains_key, get-insert, len-insert}
use Rattle.std.proofs.lemmas.Bool.{true≢false, eqb-true, eq-eqb}
use Rattle.xa_base.specs.Branch.{branch_eq}
use Rattle.xa_model.specs.Trace.{Fault.InRestart, Happening.Failed, Happening.Restarted}
use Rattle.xa_base.specs.declared.branch.Branch.{Branch}
use Rattle.xa_base.specs.declared.branch.Gtrid.{Gtrid}
use Rattle.xa_base.specs.declared.code.How.{How}
use Rattle.xa_base.proofs.BranchOrder.{branches_total}
use Rattle.xa_base.proofs.BranchKeys.{branch_eq-true}
use Rattle.xa_base.proofs.Orders.{branch_swap}
use Rattle.xa_log.specs.Content.{Content, with_bump}
use Rattle.xa_log.specs.Contract.{Makes, MayMake}
use Rattle.xa_log.proofs.TakenTogether.{same_heuristics}
use Rattle.xa_tm.specs.Book.{Book, Waiting, Doubt, Doubt.Adds, Doubt.Drops, Doubt.Records, Doubt.NoDoubt, after, book_after, row_with, recorded_with}
use Rattle.xa_tm.specs.LedgerBook.{come_up_with, without_doubt, notes_of}
use Rattle.xa_tm.specs.News.{found_ended}
use Rattle.xa_tm.specs.declared.notes.BranchNotes.{BranchNotes}
use Rattle.xa_tm.specs.BookAndLog.{FoundIn, IsChangeOf, HoldsBook, changed_by, SameRowsAndRecords, IsTiedUp, IsTiedDown, TiedBy, IsTied}
use Rattle.xa_tm.proofs.History.OneMore.{book_is}
use Rattle.xa_tm.proofs.Several.Contents.{added_heuristics, changed_at, of_same, still_at}

-- a choice the other way round
turned : {X : Type 0} (e : Bool) (x y : X) → (if not e then x else y) ≡ (if e then y else x)
turned true x y = refl
turned false x y = refl

pub up_book : (k : Book) (i d h : ℕ) → come_up_with i d h (without_doubt (not (nat_eq d k.rows)) (not (nat_eq h k.records)) k) ≡ after k (Restarted i d h)
up_book k i d h = book_is _ _ refl refl refl refl refl refl refl (λ g. refl) (λ b. refl) refl (λ r. refl)
    (λ g. turned (nat_eq d k.rows) (row_with k.doubt g (k.row g)) (k.row g)) refl
    (λ b. turned (nat_eq h k.records) (recorded_with k.doubt b (k.recorded b)) (k.recorded b)) refl refl

-- a record doesn't touch the rows
pub no_row_found : (d : Doubt) (b : Branch) (how : How) (t : Bool) (g : Gtrid) (row : Option Waiting) → d ≡ Records b how
    → row ≡ (if t then row_with d g row else row)
no_row_found d b how true g row is = ap (λ x. row_with x g row) (sym is)
no_row_found d b how false g row is = refl

module _ (old new : Branch → BranchNotes) (b : Branch) (how : How) (t : Bool)
    (at : (q : Branch) → new q ≡ (if t then (if branch_eq b q then found_ended how (old b) else old q) else old q)) where
  pub found_notes : (q : Branch) → notes_of (new q) ≡ notes_of (old q)
  found_notes q = ap notes_of (at q) ∙ by t (branch_eq b q) refl
    where
      by : (u s : Bool) → branch_eq b q ≡ s → notes_of (if u then (if s then found_ended how (old b) else old q) else old q) ≡ notes_of (old q)
      by true true e = ap (λ p. notes_of (old p)) (branch_eq-true b q e)
      by true false e = refl
      by false s e = refl

  pub found_records : (d : Doubt) → d ≡ Records b how → (q : Branch) → (new q).recorded ≡ (if t then recorded_with d q (old q).recorded else (old q).recorded)
  found_records d is q =
      ap (λ (x : BranchNotes). x.recorded) (at q) ∙ by t (branch_eq b q) refl
      ∙ ap (λ x. if t then recorded_with x q (old q).recorded else (old q).recorded) (sym is)
    where
      here : (o : Option How) → branch_eq b q ≡ true → option_or o (Some how) ≡ recorded_with (Records b how) q o
      here None e = sym (ap (λ (s : Bool). if s then Some how else None) e)
      here (Some x) e = refl

      there : (o : Option How) → branch_eq b q ≡ false → o ≡ recorded_with (Records b how) q o
      there None e = sym (ap (λ (s : Bool). if s then Some how else None) e)
      there (Some x) e = refl

      by : (u s : Bool) → branch_eq b q ≡ s
          → (if u then (if s then found_ended how (old b) else old q) else old q).recorded
          ≡ (if u then recorded_with (Records b how) q (old q).recorded else (old q).recorded)
      by true true e = ap (λ p. option_or (old p).recorded (Some how)) (branch_eq-true b q e) ∙ here (old q).recorded e
      by true false e = there (old q).recorded e
      by false s e = refl

-- ** what the log has then

same_number : (d m : ℕ) → d ≡ m → (d == m) ≡ true
same_number d m e = ap (λ x. d == x) (sym e) ∙ eq-eqb d d refl

other_number : (d m : ℕ) → (d ≡ m → ⊥) → (d == m) ≡ false
other_number d m never = by (d == m) refl
  where
    by : (t : Bool) → (d == m) ≡ t → (d == m) ≡ false
    by true e = absurd (never (eqb-true d m e))
    by false e = e

module _ (c : Content) (row : Gtrid → Option Waiting) (m : ℕ) (at : (g : Gtrid) → get c.decisions g ≡ row g) (number : len c.decisions ≡ m) where
  stays : (d : ℕ) → d ≡ m → (g : Gtrid) (other : Option Waiting) → get c.decisions g ≡ (if d == m then row g else other)
  stays d e g other = at g ∙ sym (ap (λ (t : Bool). if t then row g else other) (same_number d m e))

  -- the number of rows tells whether the change was made
  pub rows_found : (asked : Doubt) → IsChangeOf row asked → (d : ℕ) → d ≡ len (changed_by asked c).decisions → (g : Gtrid)
      → get (changed_by asked c).decisions g ≡ (if d == m then row g else row_with asked g (row g))
  rows_found asked of d is g = changed_at asked c here g ∙ ap (row_with asked g) (at g) ∙ by (d == m) refl
    where
      here : IsChangeOf (λ q. get c.decisions q) asked
      here = of_same row (λ q. get c.decisions q) asked at of

      by : (t : Bool) → (d == m) ≡ t → row_with asked g (row g) ≡ (if t then row g else row_with asked g (row g))
      by true e = still_at asked c here (sym is ∙ eqb-true d m e ∙ sym number) g (row g)
      by false e = refl

module _ (c : Content) (recs : Branch → Option How) (m : ℕ) (at : (b : Branch) → get c.heuristics b ≡ recs b) (number : len c.heuristics ≡ m) where
  keeps : (d : ℕ) → d ≡ m → (q : Branch) (other : Option How) → get c.heuristics q ≡ (if d == m then recs q else other)
  keeps d e q other = at q ∙ sym (ap (λ (t : Bool). if t then recs q else other) (same_number d m e))

  pub records_found : (asked : Doubt) (d : ℕ) → d ≡ len (changed_by asked c).heuristics → (q : Branch)
      → get (changed_by asked c).heuristics q ≡ (if d == m then recs q else recorded_with asked q (recs q))
  records_found (Adds xs) d is q = ap (λ x. get x q) (added_heuristics xs c) ∙ keeps d (is ∙ ap len (added_heuristics xs c) ∙ number) q (recs q)
  records_found (Drops gs) d is q = ap (λ x. get x q) (same_heuristics gs c) ∙ keeps d (is ∙ ap len (same_heuristics gs c) ∙ number) q (recs q)
  records_found NoDoubt d is q = keeps d (is ∙ number) q (recs q)
  records_found (Records b how) d is q = by (contains_key c.heuristics b) refl is
    where
      put : (o : Option How) (t : Bool) → recs q ≡ o → branch_eq b q ≡ t → is_some (recs b) ≡ false
          → (if t then Some how else o) ≡ recorded_with (Records b how) q o
      put None t none same lacks = sym (ap (λ (u : Bool). if u then Some how else None) same)
      put (Some x) true some same lacks = absurd (true≢false (sym (ap is_some (ap recs (branch_eq-true b q same) ∙ some)) ∙ lacks))
      put (Some x) false some same lacks = refl

      by : (t : Bool) → contains_key c.heuristics b ≡ t → d ≡ len (if t then c else record c { heuristics = insert c.heuristics b how }).heuristics
          → get (if t then c else record c { heuristics = insert c.heuristics b how }).heuristics q
          ≡ (if d == m then recs q else recorded_with (Records b how) q (recs q))
      by true has e = keeps d (e ∙ number) q _
      by false has e =
          let more =
          e ∙ len-insert branches_total c.heuristics b how ∙ ap (λ t. cond t (len c.heuristics) (len c.heuristics + 1)) has ∙ ap (λ n. n + 1) number in
          get-insert branches_total c.heuristics b how q ∙ ap (λ t. cond t (Some how) (get c.heuristics q)) (branch_swap b q)
          ∙ ap (cond (branch_eq b q) (Some how)) (at q)
          ∙ put (recs q) (branch_eq b q) refl refl (ap is_some (sym (at b)) ∙ has)
          ∙ sym (ap (λ (t : Bool). if t then recs q else recorded_with (Records b how) q (recs q))
          (other_number d m (λ same. let no : ⊥ = absurd (omega (arith, more, same)) in no)))

-- ** the log is tied to the book again

pub tied_restart : (near : Bool) (k : Book) (i d h : ℕ) (old new : Option Content) → k.up ≡ false → IsSomeAnd old (FoundIn i d h)
    → Makes with_bump old new → IsTied near k old → IsTied near (after k (Restarted i d h)) new
tied_restart near k i d h old new down found makes tied = go old found makes (subst (λ u. TiedBy u near k old) down tied)
  where
    n : Book
    n = after k (Restarted i d h)

    up_again : (c : Content) → FoundIn i d h c → IsTiedDown near k c → IsTiedUp n (with_bump c)
    up_again c f t = record { holds = by t.holds.2; incarnation = sym f.incarnation }
      where
        b : Content
        b = t.holds.0

        by : SameRowsAndRecords c b ⊎ (IsChangeOf k.row k.doubt × SameRowsAndRecords c (changed_by k.doubt b)) → HoldsBook n (with_bump c)
        by (inl s) = record {
          rows = λ g. ap (λ x. get x g) s.decisions
              ∙ stays b k.row k.rows t.holds.1.rows t.holds.1.row_number d (f.rows ∙ ap len s.decisions ∙ t.holds.1.row_number) g _;
          row_number = sym f.rows;
          records =
              λ q. ap (λ x. get x q) s.heuristics
              ∙ keeps b k.recorded k.records t.holds.1.records t.holds.1.record_number h (f.records ∙ ap len s.heuristics ∙ t.holds.1.record_number) q _;
          record_number = sym f.records;
        }
        by (inr s) = record {
          rows = λ g. ap (λ x. get x g) s.1.decisions
              ∙ rows_found b k.row k.rows t.holds.1.rows t.holds.1.row_number k.doubt s.0 d (f.rows ∙ ap len s.1.decisions) g;
          row_number = sym f.rows;
          records =
              λ q. ap (λ x. get x q) s.1.heuristics
              ∙ records_found b k.recorded k.records t.holds.1.records t.holds.1.record_number k.doubt h (f.records ∙ ap len s.1.heuristics) q;
          record_number = sym f.records;
        }

    go : (old : Option Content) → IsSomeAnd old (FoundIn i d h) → Makes with_bump old new
        → ((c : Content) → old ≡ Some c → IsTiedDown near k c) → IsSomeAnd new (IsTiedUp n)
    go None f makes t = absurd makes
    go (Some c) f makes t = subst (λ x. IsSomeAnd x (IsTiedUp n)) (sym makes) (up_again c f (t c refl))

-- a restart that fails leaves what may be held, one incarnation higher perhaps
pub tied_no_restart : (near : Bool) (k : Book) (old new : Option Content) → k.up ≡ false → MayMake with_bump old new → IsTied near k old
    → IsTied near (book_after k NoDoubt (Failed InRestart)) new
tied_no_restart near k old new down may tied = go may (subst (λ u. TiedBy u near k old) down tied)
  where
    n : Book
    n = book_after k NoDoubt (Failed InRestart)

    stays_in_doubt : n.doubt ≡ k.doubt
    stays_in_doubt = ap (λ (u : Bool). if u then NoDoubt else k.doubt) down

    hold : (c before : Content) → SameRowsAndRecords c before ⊎ (IsChangeOf k.row k.doubt × SameRowsAndRecords c (changed_by k.doubt before))
        → SameRowsAndRecords c before ⊎ (IsChangeOf k.row n.doubt × SameRowsAndRecords c (changed_by n.doubt before))
    hold c before (inl s) = inl s
    hold c before (inr s) = inr (subst (λ x. IsChangeOf k.row x × SameRowsAndRecords c (changed_by x before)) (sym stays_in_doubt) s)

    as_it_was : (c : Content) → IsTiedDown near k c → IsTiedDown near n c
    as_it_was c t = record {
      holds = (
        t.holds.0,
        record { rows = t.holds.1.rows; row_number = t.holds.1.row_number; records = t.holds.1.records; record_number = t.holds.1.record_number },
        hold c t.holds.0 t.holds.2,
      );
      incarnation = λ h. record {
        least = (t.incarnation h).least;
        most = let a : c.incarnation ≤ k.incarnation + (k.failed_restarts + 1) = omega (arith, (t.incarnation h).most) in a;
      };
    }

    hold_bumped : (c before : Content) → SameRowsAndRecords c before ⊎ (IsChangeOf k.row k.doubt × SameRowsAndRecords c (changed_by k.doubt before))
        → SameRowsAndRecords (with_bump c) before ⊎ (IsChangeOf k.row n.doubt × SameRowsAndRecords (with_bump c) (changed_by n.doubt before))
    hold_bumped c before (inl s) = inl (record { decisions = s.decisions; heuristics = s.heuristics })
    hold_bumped c before (inr s) =
        inr (subst (λ x. IsChangeOf k.row x × SameRowsAndRecords (with_bump c) (changed_by x before)) (sym stays_in_doubt)
        (s.0, record { decisions = s.1.decisions; heuristics = s.1.heuristics }))

    raised : (c : Content) → IsTiedDown near k c → IsTiedDown near n (with_bump c)
    raised c t = record {
      holds = (
        t.holds.0,
        record { rows = t.holds.1.rows; row_number = t.holds.1.row_number; records = t.holds.1.records; record_number = t.holds.1.record_number },
        hold_bumped c t.holds.0 t.holds.2,
      );
      incarnation = λ h. record {
        least = let a : k.incarnation ≤ c.incarnation + 1 = omega (arith, (t.incarnation h).least) in a;
        most = let a : c.incarnation + 1 ≤ k.incarnation + (k.failed_restarts + 1) = omega (arith, (t.incarnation h).most) in a;
      };
    }

    same_some : (x y : Content) → Some x ≡ Some y → x ≡ y
    same_some x y e = cc

    go : MayMake with_bump old new → ((c : Content) → old ≡ Some c → IsTiedDown near k c) → (c : Content) → new ≡ Some c → IsTiedDown near n c
    go (inl none) t c is = absurd (let no : None ≡ Some c = sym none ∙ is in cc)
    go (inr (inl same)) t c is = as_it_was c (t c (sym same ∙ is))
    go (inr (inr makes)) t c is = made_of old refl makes t
      where
        made_of : (o : Option Content) → old ≡ o → Makes with_bump o new → ((x : Content) → old ≡ Some x → IsTiedDown near k x) → IsTiedDown near n c
        made_of None e m t = absurd m
        made_of (Some x) e m t = subst (IsTiedDown near n) (same_some (with_bump x) c (sym m ∙ is)) (raised x (t x e))
