-- The log of a system stands where its history leaves it.
use Rattle.std.proofs.Common.{◌≡◌, ◌≤◌, ◌+◌, ℕ, Bool, true, false, refl, sym, ap, subst, ◌∙◌, arith}
use Rattle.std.specs.Prelude.{Option, Some, None, IsSomeAnd}
use Rattle.xa_model.specs.Facts as facts
use Rattle.xa_model.specs.Replies.Allowed.{failed_restarts}
use Rattle.xa_model.specs.Trace.{Origin, Trace, Trace.From}
use Rattle.xa_log.specs.Content.{Content, with_bump}
use Rattle.xa_log.specs.Contract.{Makes}
use Rattle.xa_tm.specs.Book.{Book, book_of}
use Rattle.xa_tm.specs.Starting.{book_at_start}
use Rattle.xa_tm.specs.BookAndLog.{IsTied, IsTiedUp, TiedBy}
use Rattle.xa_tm.proofs.Log.TellsRows.{holds_rows, may_hold_rows, row_in_is}
use Rattle.xa_system.specs.LogInHistory.{IsBeforeNext, LeftBy, LogStands, LogStandsBy, MayBeLeft, MayRestartOver, StartsOver}

-- what is tied to the book of a history is where the history leaves it
pub tied_stands : (tr : Trace) (held : Option Content) → IsTied false (book_of tr) held → LogStands tr held
tied_stands tr held tied = by (facts.up tr) held tied
  where
    by : (u : Bool) (held : Option Content) → TiedBy u false (book_of tr) held → LogStandsBy u tr held
    by true None tied = absurd tied
    by true (Some c) tied = record { rows = holds_rows tr c tied.holds; incarnation_is = tied.incarnation }
    by false held tied = λ c is. may_hold_rows tr c (tied c is).holds

-- and what is tied is what a crash may leave, if it may be left
pub tied_left : (tr : Trace) (c : Content) → IsTied false (book_of tr) (Some c) → MayBeLeft tr c
tied_left tr c tied = by (facts.up tr) tied
  where
    by : (u : Bool) → TiedBy u false (book_of tr) (Some c) → LeftBy u tr c
    by true tied = record { rows = holds_rows tr c tied.holds; incarnation_is = tied.incarnation }
    by false tied = may_hold_rows tr c (tied c refl).holds

-- a log that is tied and near is of an incarnation that a restart may follow, and the other way
-- round
pub near_restarts : (tr : Trace) (held : Option Content) → IsTied true (book_of tr) held → MayRestartOver tr held
near_restarts tr held tied = by (facts.up tr) held tied
  where
    at_once : (d c : Content) → d ≡ c → IsTiedUp (book_of tr) d → IsBeforeNext tr c
    at_once d c same tied = subst (IsBeforeNext tr) same (record {
      least = let a : facts.incarnation tr ≤ d.incarnation = omega (arith, tied.incarnation) in a;
      most = let a : d.incarnation ≤ facts.incarnation tr + failed_restarts tr = omega (arith, tied.incarnation) in a;
    })

    by : (u : Bool) (held : Option Content) → TiedBy u true (book_of tr) held → MayRestartOver tr held
    by true None tied c is = absurd tied
    by true (Some d) tied c is = at_once d c (let same : d ≡ c = cc in same) tied
    by false held tied c is =
        let reached = (tied c is).incarnation refl in record { least = reached.least; most = reached.most }

pub restarts_near : (tr : Trace) (held : Option Content) → IsTied false (book_of tr) held → MayRestartOver tr held → IsTied true (book_of tr) held
restarts_near tr held tied may = by (facts.up tr) tied
  where
    by : (u : Bool) → TiedBy u false (book_of tr) held → TiedBy u true (book_of tr) held
    by true tied = tied
    by false tied = λ c is. record { holds = (tied c is).holds; incarnation = λ near. let next = may c is in record { least = next.least; most = next.most } }

-- ** the start

-- a history whose book is that of a start over a log starts over that log
pub starts_over : (o : Origin) (threads rms : ℕ) (handed now : Option Content) → Makes with_bump handed now
    → IsSomeAnd now (λ c. book_of (From o) ≡ book_at_start threads rms c) → IsSomeAnd handed (StartsOver o)
starts_over o threads rms None now raised book = absurd raised
starts_over o threads rms (Some c) now raised book =
    let is : book_of (From o) ≡ book_at_start threads rms (with_bump c) =
    subst (λ held. IsSomeAnd held (λ d. book_of (From o) ≡ book_at_start threads rms d)) raised book in
    record {
      rows = record {
        rows = λ g. sym (ap (λ (k : Book). k.row g) is) ∙ row_in_is o.rows g;
        row_number = sym (ap (λ (k : Book). k.rows) is);
        records = λ b. sym (ap (λ (k : Book). k.recorded b) is);
        record_number = sym (ap (λ (k : Book). k.records) is);
      };
      incarnation = ap (λ (k : Book). k.incarnation) is;
    }
