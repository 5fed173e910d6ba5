-- The book and the log stay tied at each step.
use Rattle.std.proofs.Common.{ℕ, List, [], ◌∷◌, length, ◌≡◌, ◌≤◌, ◌⊎◌, inl, inr, ◌+◌, ◌-◌, Bool, true, false, not, ◌&&◌, ◌||◌, Option, Some, None, is_some, refl, sym, ap, ◌∙◌, subst, arith}
use Rattle.std.specs.Prelude.{if◌then◌else◌}
use Rattle.xa_base.specs.declared.step.Step.TheVariants as Steps
use Rattle.xa_base.specs.declared.branch.Branch.{Branch}
use Rattle.xa_base.specs.declared.branch.Gtrid.{Gtrid}
use Rattle.xa_base.specs.declared.code.How.{How}
use Rattle.xa_base.specs.declared.step.Outcome.{Outcome}
use Rattle.xa_base.specs.declared.step.Outcome.TheVariants as Outcomes
use Rattle.xa_base.specs.declared.refusal.Refusal.TheVariants as Refusals
use Rattle.xa_base.specs.declared.step.Part.{Part}
use Rattle.xa_base.specs.declared.step.Part.TheVariants as Parts
use Rattle.xa_model.specs.Trace.{Line, Call, Answer, Happening.ResolvedOpen, Happening.Heard, Happening.Crashed, Happening.Decided}
use Rattle.xa_tm.specs.Refusing.{refusal_in, outlived_in, has_row_in, row_settled_in}
use Rattle.xa_model.specs.Facts.{record_of}
use Rattle.xa_base.proofs.Options.{some_is}
use Rattle.xa_log.specs.Content.{Content, without_decisions}
use Rattle.xa_log.specs.Contract.{Makes}
use Rattle.xa_log.proofs.TakenTogether.{same_heuristics}
use Rattle.xa_tm.specs.Book.{Book, Waiting, doubt_of, Doubt.Adds, Doubt.Drops, Doubt.Records, after, row_among, row_with, row_without, recorded_with, records_with, rows_for}
use Rattle.xa_tm.specs.Outcomes.{is_commit}
use Rattle.xa_tm.specs.Release.{book_without}
use Rattle.xa_tm.specs.BookAndLog.{HoldsBook, IsChangeOf, changed_by, SameRowsAndRecords, IsReached, IsTiedUp, IsTiedDown, TiedBy, IsTied, MakesOf}
use Rattle.xa_tm.specs.News.{recording}
use Rattle.xa_tm.proofs.Several.Contents.{added_heuristics, of_same}
use Rattle.xa_tm.proofs.Log.Ties.{tied_same, tied_made, holds_changed, holds_record}

-- ** decisions

-- the rows are written
pub tied_written : (near : Bool) (k l : Book) (xs : List (Gtrid × Waiting)) (old new : Option Content) → k.up ≡ true → l.up ≡ true
    → l.incarnation ≡ k.incarnation → IsChangeOf k.row (Adds xs)
    → ((q : Gtrid) → l.row q ≡ row_among xs q (k.row q)) → l.rows ≡ k.rows + length xs → ((b : Branch) → l.recorded b ≡ k.recorded b) → l.records ≡ k.records
    → Makes (changed_by (Adds xs)) old new → IsTied near k old → IsTied near l new
tied_written near k l xs old new up still_up same of row rows recs number makes tied = tied_made near k l up still_up same (Adds xs) old new
    (holds_changed k l (Adds xs) of (added_heuristics xs) row rows recs number) makes tied

-- if no row is written, the log stays as it is
pub tied_plain : (near : Bool) (k : Book) (g : Gtrid) (o : Outcome) (log : Option Content) → (is_commit (Some o) && (k.transaction g).has_yes) ≡ false
    → IsTied near k log → IsTied near (after k (Decided g o)) log
tied_plain near k g Outcomes.Rollback log none tied = tied_same near k (after k (Decided g Outcomes.Rollback)) log
    (record { up = refl; incarnation = refl; failed_restarts = refl; row = λ q. refl; rows = refl; recorded = λ b. refl; records = refl; doubt = refl }) tied
tied_plain near k g Outcomes.Commit log none tied = tied_same near k (after k (Decided g Outcomes.Commit)) log
    (record {
      up = refl;
      incarnation = refl;
      failed_restarts = refl;
      row = λ q. ap (λ (t : Bool). if t then row_with (Adds (rows_for k (g ∷ []))) q (k.row q) else k.row q) none;
      rows = ap (λ (t : Bool). if t then k.rows + 1 else k.rows) none;
      recorded = λ b. refl;
      records = refl;
      doubt = refl;
    }) tied

-- ** releases

-- what the log has is not released
pub tied_released : (near : Bool) (k : Book) (g : Gtrid) (log : Option Content) → IsTied near k log → IsTied near (book_without g k) log
tied_released near k g log tied = tied_same near k (book_without g k) log
    (record { up = refl; incarnation = refl; failed_restarts = refl; row = λ q. refl; rows = refl; recorded = λ b. refl; records = refl; doubt = refl }) tied

-- ** crashes

-- the manager falls by itself: nothing is in doubt
pub tied_fall : (near : Bool) (k l : Book) (log : Option Content) → l.up ≡ false → l.incarnation ≡ k.incarnation → l.failed_restarts ≡ k.failed_restarts
    → ((g : Gtrid) → l.row g ≡ k.row g) → l.rows ≡ k.rows → ((b : Branch) → l.recorded b ≡ k.recorded b) → l.records ≡ k.records
    → l.doubt ≡ k.doubt → IsTied near k log → IsTied near l log
tied_fall near k l log down inc failed row rows recs number doubt tied = subst (λ u. TiedBy u near l log) (sym down) (by k.up log refl tied)
  where
    held_still : (c : Content) → HoldsBook k c → HoldsBook l c
    held_still c h =
        record {
          rows = λ g. h.rows g ∙ sym (row g);
          row_number = h.row_number ∙ sym rows;
          records = λ b. h.records b ∙ sym (recs b);
          record_number = h.record_number ∙ sym number;
        }

    reached : (c : Content) → IsReached k c → IsReached l c
    reached c r = record {
      least = subst (λ i. i ≤ c.incarnation) (sym inc) r.least;
      most = subst (λ i. c.incarnation ≤ i + l.failed_restarts) (sym inc) (subst (λ n. c.incarnation ≤ k.incarnation + n) (sym failed) r.most);
    }

    at_once : (c : Content) → c.incarnation ≡ k.incarnation → IsReached k c
    at_once c e =
        record {
          least = let a : k.incarnation ≤ c.incarnation = omega arith in a;
          most = let a : c.incarnation ≤ k.incarnation + k.failed_restarts = omega arith in a;
        }

    may : (c before : Content) → SameRowsAndRecords c before ⊎ (IsChangeOf k.row k.doubt × SameRowsAndRecords c (changed_by k.doubt before))
        → SameRowsAndRecords c before ⊎ (IsChangeOf l.row l.doubt × SameRowsAndRecords c (changed_by l.doubt before))
    may c before (inl s) = inl s
    may c before (inr s) =
        inr (subst (λ d. IsChangeOf l.row d × SameRowsAndRecords c (changed_by d before)) (sym doubt) (of_same k.row l.row k.doubt row s.0, s.1))

    fallen : (d c : Content) → d ≡ c → IsTiedUp k d → IsTiedDown near l c
    fallen d c is t =
        subst (IsTiedDown near l) is
        (record {
          holds = (d, held_still d t.holds, inl (record { decisions = refl; heuristics = refl }));
          incarnation = λ h. reached d (at_once d t.incarnation);
        })

    by : (u : Bool) (log : Option Content) → k.up ≡ u → TiedBy u near k log → (c : Content) → log ≡ Some c → IsTiedDown near l c
    by true None e tied c is = absurd tied
    by true (Some d) e tied c is = fallen d c (some_is d c is) tied
    by false log e tied c is =
        let t = tied c is in record {
          holds = (t.holds.0, held_still t.holds.0 t.holds.1, may c t.holds.0 t.holds.2);
          incarnation = λ h. reached c (t.incarnation h);
        }

pub tied_crash : (near : Bool) (k : Book) (p : Part) (log : Option Content) → IsTied near k log → IsTied near (after k (Crashed p)) log
tied_crash near k (Parts.Line t r) log tied = tied_same near k (after k (Crashed (Parts.Line t r))) log
    (record { up = refl; incarnation = refl; failed_restarts = refl; row = λ q. refl; rows = refl; recorded = λ b. refl; records = refl; doubt = refl }) tied
tied_crash near k (Parts.Rm r) log tied = tied_same near k (after k (Crashed (Parts.Rm r))) log
    (record { up = refl; incarnation = refl; failed_restarts = refl; row = λ q. refl; rows = refl; recorded = λ b. refl; records = refl; doubt = refl }) tied
tied_crash near k Parts.Manager log tied = tied_fall near k (after k (Crashed Parts.Manager)) log refl refl refl (λ q. refl) refl (λ b. refl) refl refl tied

-- ** a row leaves

pub done_up : (k : Book) (g : Gtrid) → refusal_in k (Steps.Done g) ≡ None → k.up ≡ true
done_up k g e = go k.up ((k.transaction g).begun || outlived_in k g) (has_row_in k g) (row_settled_in k g) e
  where
    go : (u b r s : Bool) → (if not u then Some Refusals.ManagerDown
        else (if not b then Some Refusals.UnknownTransaction else (if not r then Some Refusals.NotDecided else (if not s then Some Refusals.Busy else None))))
        ≡ None → u ≡ true
    go true b r s e = refl
    go false b r s e = absurd (cc)

pub done_row : (k : Book) (g : Gtrid) → refusal_in k (Steps.Done g) ≡ None → is_some (k.row g) ≡ true
done_row k g e = go k.up ((k.transaction g).begun || outlived_in k g) (has_row_in k g) (row_settled_in k g) e
  where
    go : (u b r s : Bool) → (if not u then Some Refusals.ManagerDown
        else (if not b then Some Refusals.UnknownTransaction else (if not r then Some Refusals.NotDecided else (if not s then Some Refusals.Busy else None))))
        ≡ None → r ≡ true
    go false b r s e = absurd (cc)
    go true false r s e = absurd (cc)
    go true true false s e = absurd (cc)
    go true true true s e = refl

-- rows leave
pub tied_dropped : (near : Bool) (k l : Book) (gs : List Gtrid) (old new : Option Content) → k.up ≡ true → l.up ≡ true → l.incarnation ≡ k.incarnation
    → IsChangeOf k.row (Drops gs) → ((q : Gtrid) → l.row q ≡ row_without gs q (k.row q)) → l.rows ≡ k.rows - length gs
    → ((b : Branch) → l.recorded b ≡ k.recorded b) → l.records ≡ k.records
    → Makes (without_decisions gs) old new → IsTied near k old → IsTied near l new
tied_dropped near k l gs old new up still_up same of row rows recs number makes tied = tied_made near k l up still_up same (Drops gs) old new
    (holds_changed k l (Drops gs) of (same_heuristics gs) row rows recs number) makes tied

-- ** answers

-- a record is no change of rows
pub record_of_rows : (row : Gtrid → Option Waiting) (b : Branch) (how : Option How) → IsChangeOf row (recording b how)
record_of_rows row b (Some how) = tt
record_of_rows row b None = tt

pub tied_heard : (near : Bool) (k : Book) (l : Line) (c : Call) (a : Answer) (b : Branch) (how : Option How) (old new : Option Content) → k.up ≡ true
    → doubt_of (record_of c a) ≡ recording b how → MakesOf (recording b how) old new → IsTied near k old → IsTied near (after k (Heard l c a)) new
tied_heard near k l c a b None old new up is same tied = subst (IsTied near (after k (Heard l c a))) (sym same) (tied_same near k (after k (Heard l c a)) old
    (record {
      up = refl;
      incarnation = refl;
      failed_restarts = refl;
      row = λ q. refl;
      rows = refl;
      recorded = λ q. ap (λ d. recorded_with d q (k.recorded q)) is;
      records = ap (λ d. records_with k d k.records) is;
      doubt = refl;
    }) tied)
tied_heard near k l c a b (Some how) old new up is makes tied = tied_made near k (after k (Heard l c a)) up up refl (Records b how) old new
    (holds_record k (after k (Heard l c a)) b how (λ g. refl) refl (λ q. ap (λ d. recorded_with d q (k.recorded q)) is)
    (ap (λ d. records_with k d k.records) is)) makes tied

-- ** recovery

pub tied_opened : (near : Bool) (k : Book) (r : ℕ) (log : Option Content) → IsTied near k log → IsTied near (after k (ResolvedOpen r)) log
tied_opened near k r log tied = tied_same near k (after k (ResolvedOpen r)) log
    (record { up = refl; incarnation = refl; failed_restarts = refl; row = λ q. refl; rows = refl; recorded = λ b. refl; records = refl; doubt = refl }) tied
