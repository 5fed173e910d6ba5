-- What an answer says of its branch is what the facts of a history say of it.
use Rattle.std.proofs.Common.{◌≡◌, ℕ, ◌+◌, ◌-◌, Bool, true, false, not, ◌&&◌, ◌||◌, List, Option, Some, None, is_some, refl, sym, ap, ◌∙◌}
use Rattle.std.specs.Prelude.{if◌then◌else◌}
use Rattle.std.specs.Option.{option_or}
use Rattle.xa_base.specs.StateTable.{on}
use Rattle.xa_base.specs.declared.answer.Answer.TheVariants.{Ret}
use Rattle.xa_base.specs.Branch.{gtrid_eq, branch_eq}
use Rattle.xa_model.specs.Facts.{says_yes, says_read_only, says_yes_in, acknowledges, record_of, answers_start, finishes}
use Rattle.xa_model.specs.Trace.{Name, Kind, Kind.Start, Kind.Join, Kind.End, Kind.Prepare, Kind.Commit, Kind.OnePhase, Kind.Rollback, Kind.Forget, Line, Happening.Heard}
use Rattle.xa_base.specs.declared.branch.Branch.{Branch}
use Rattle.xa_base.specs.declared.branch.Gtrid.{Gtrid}
use Rattle.xa_base.specs.declared.code.Code.{Code}
use Rattle.xa_base.specs.declared.code.Code.TheVariants as Codes
use Rattle.xa_base.specs.declared.code.How.{How}
use Rattle.xa_tm.specs.Book.{Book, doubt_of, lacks_vote_in, is_unsettled_in, with_answer, notes_after, pages_after, recorded_with, records_with}
use Rattle.xa_tm.specs.Counts.{voter, settler, is_counted}
use Rattle.xa_tm.specs.LedgerBook.{transaction_notes_of, notes_of}
use Rattle.xa_tm.specs.News.{news_by, notes_with, recording}
use Rattle.xa_tm.specs.Outcomes.{is_commit, is_rollback}
use Rattle.xa_tm.specs.declared.news.News.{News}
use Rattle.xa_tm.specs.declared.notes.BranchNotes.{BranchNotes}
use Rattle.xa_tm.specs.declared.notes.Transaction.{Transaction}
use Rattle.xa_base.proofs.BranchKeys.{branch_eq-true}
use Rattle.xa_tm.proofs.Maps.Transactions.{transaction_is, one_transaction}
use Rattle.xa_tm.proofs.Maps.Branches.{notes_is, one_note}

and_true : (t : Bool) → t ≡ (t && true)
and_true true = refl
and_true false = refl

and_false : (t : Bool) → false ≡ (t && false)
and_false true = refl
and_false false = refl

-- ** one by one

pub starts_by : (c b : Branch) (k : Kind) (a : Code) → answers_start c (on k b) (Ret a) ≡ (branch_eq b c && (news_by k a).answers_start)
starts_by c b Start a = and_true _
starts_by c b Join a = and_true _
starts_by c b _ a = and_false _

pub yes_by : (c b : Branch) (k : Kind) (a : Code) → says_yes c (on k b) (Ret a) ≡ (branch_eq b c && (news_by k a).says_yes)
yes_by c b Prepare Codes.Success = and_true _
yes_by c b Prepare a = and_false _
yes_by c b k a = and_false _

pub read_only_by : (c b : Branch) (k : Kind) (a : Code) → says_read_only c (on k b) (Ret a) ≡ (branch_eq b c && (news_by k a).says_read_only)
read_only_by c b Prepare Codes.ReadOnly = and_true _
read_only_by c b Prepare a = and_false _
read_only_by c b k a = and_false _

pub acknowledged_by : (c b : Branch) (k : Kind) (a : Code) → acknowledges c (on k b) (Ret a) ≡ (branch_eq b c && (news_by k a).acknowledges)
acknowledged_by c b Commit Codes.Success = and_true _
acknowledged_by c b Commit Codes.NotAnXid = and_true _
acknowledged_by c b Commit a = and_false _
acknowledged_by c b k a = and_false _

pub finished_by : (c b : Branch) (k : Kind) (a : Code) → finishes c (on k b) (Ret a) ≡ (branch_eq b c && (news_by k a).finishes)
finished_by c b Start Codes.Success = refl
finished_by c b Start a = refl
finished_by c b Join Codes.Success = refl
finished_by c b Join a = refl
finished_by c b Prepare Codes.ReadOnly = and_true _
finished_by c b Prepare (Codes.RolledBack x) = refl
finished_by c b Prepare a = refl
finished_by c b OnePhase Codes.Success = refl
finished_by c b OnePhase Codes.NotAnXid = refl
finished_by c b OnePhase (Codes.RolledBack x) = refl
finished_by c b OnePhase a = refl
finished_by c b Rollback Codes.Success = refl
finished_by c b Rollback Codes.NotAnXid = refl
finished_by c b Rollback (Codes.RolledBack x) = refl
finished_by c b Rollback a = refl
finished_by c b Commit Codes.Success = refl
finished_by c b Commit Codes.NotAnXid = refl
finished_by c b Commit a = refl
finished_by c b Forget Codes.Success = refl
finished_by c b Forget Codes.NotAnXid = refl
finished_by c b Forget a = refl
finished_by c b (End fail) a = and_false _

pub yes_in_by : (g : Gtrid) (b : Branch) (k : Kind) (a : Code) → says_yes_in g (on k b) (Ret a) ≡ (gtrid_eq b.gtrid g && (news_by k a).says_yes)
yes_in_by g b Prepare Codes.Success = and_true _
yes_in_by g b Prepare a = and_false _
yes_in_by g b k a = and_false _

pub voter_by : (b : Branch) (k : Kind) (a : Code) → voter (on k b) (Ret a) ≡ (if (news_by k a).says_yes || (news_by k a).says_read_only then Some b else None)
voter_by b Prepare Codes.Success = refl
voter_by b Prepare Codes.ReadOnly = refl
voter_by b Prepare a = refl
voter_by b k a = refl

pub settler_by : (b : Branch) (k : Kind) (a : Code)
    → settler (on k b) (Ret a) ≡ (if is_some (news_by k a).how || ((news_by k a).says_read_only || (news_by k a).acknowledges) then Some b else None)
settler_by b Prepare Codes.ReadOnly = refl
settler_by b Prepare a = refl
settler_by b Commit Codes.Success = refl
settler_by b Commit Codes.NotAnXid = refl
settler_by b Commit (Codes.Heuristic how) = refl
settler_by b Commit a = refl
settler_by b OnePhase (Codes.Heuristic how) = refl
settler_by b OnePhase a = refl
settler_by b Rollback (Codes.Heuristic how) = refl
settler_by b Rollback a = refl
settler_by b k a = refl

pub recorded_by_news : (b : Branch) (k : Kind) (a : Code) → doubt_of (record_of (on k b) (Ret a)) ≡ recording b (news_by k a).how
recorded_by_news b Commit (Codes.Heuristic how) = refl
recorded_by_news b Commit a = refl
recorded_by_news b OnePhase (Codes.Heuristic how) = refl
recorded_by_news b OnePhase a = refl
recorded_by_news b Rollback (Codes.Heuristic how) = refl
recorded_by_news b Rollback a = refl
recorded_by_news b k a = refl

-- ** what they make of the book

counted_by : (p : Branch → Bool) (g : Gtrid) (b : Branch) (v : Bool) → is_counted p g (if v then Some b else None) ≡ (v && (gtrid_eq b.gtrid g && p b))
counted_by p g b true = refl
counted_by p g b false = refl

pub heard_transactions : (k : Book) (b : Branch) (kind : Kind) (code : Code) (was : Gtrid → Bool) (old new : Gtrid
    → Transaction) (t : Transaction) (v s : Bool) → t ≡ old b.gtrid
    → v ≡ (((news_by kind code).says_yes || (news_by kind code).says_read_only) && lacks_vote_in k b)
    → s ≡ ((is_some (news_by kind code).how || ((news_by kind code).says_read_only || (news_by kind code).acknowledges)) && is_unsettled_in k b)
    → ((q : Gtrid) → new q ≡ (if gtrid_eq b.gtrid q then record t {
      has_yes = (news_by kind code).says_yes || t.has_yes;
      unvoted = if v then t.unvoted - 1 else t.unvoted;
      unsettled = if s then t.unsettled - 1 else t.unsettled;
    } else old q))
    → (q : Gtrid) → transaction_notes_of (was q) (new q) ≡ with_answer k (on kind b) (Ret code) q (transaction_notes_of (was q) (old q))
heard_transactions k b kind code was old new t v s is votes settles h = one_transaction (with_answer k (on kind b) (Ret code)) was was old old new b.gtrid _
    (λ q. refl) h
    (λ self. transaction_is _ _ (ap (λ (x : Transaction). was b.gtrid && x.is_begun) is)
    (ap (λ (x : Transaction). is_commit x.outcome) is) (ap (λ (x : Transaction). is_rollback x.outcome) is) (ap (λ (x : Transaction). x.is_handed_over) is)
    (ap (λ (x : Transaction). was b.gtrid && (x.is_begun && x.is_claimed)) is)
    (ap (λ (x : Transaction). w.says_yes || x.has_yes) is ∙ ap (λ e. (e && w.says_yes) || (old b.gtrid).has_yes) (sym self) ∙ ap
    (λ y. y || (old b.gtrid).has_yes) (sym (yes_in_by b.gtrid b kind code)))
    (ap (λ (x : Transaction). x.branches) is)
    (ap (λ (x : Transaction). if v then x.unvoted - 1 else x.unvoted) is ∙ ap
    (λ e. if e then (old b.gtrid).unvoted - 1 else (old b.gtrid).unvoted)
    (votes ∙ at_self (w.says_yes || w.says_read_only) (lacks_vote_in k b) self ∙ sym (count_votes b.gtrid)))
    (ap (λ (x : Transaction). if s then x.unsettled - 1 else x.unsettled) is ∙ ap
    (λ e. if e then (old b.gtrid).unsettled - 1 else (old b.gtrid).unsettled)
    (settles ∙ at_self (is_some w.how || (w.says_read_only || w.acknowledges)) (is_unsettled_in k b) self ∙ sym (count_settled b.gtrid))))
    (λ q e. transaction_is _ _ refl refl refl refl refl
    (sym (ap (λ y. y || (old q).has_yes) (yes_in_by q b kind code ∙ ap (λ t. t && w.says_yes) e)))
    refl
    (sym (ap (λ c. if c then (old q).unvoted - 1 else (old q).unvoted)
    (count_votes q ∙ at_other (w.says_yes || w.says_read_only) (lacks_vote_in k b) (gtrid_eq b.gtrid q) e)))
    (sym (ap (λ c. if c then (old q).unsettled - 1 else (old q).unsettled)
    (count_settled q ∙ at_other (is_some w.how || (w.says_read_only || w.acknowledges)) (is_unsettled_in k b) (gtrid_eq b.gtrid q) e))))
  where
    w : News
    w = news_by kind code

    count_votes : (q : Gtrid)
        → is_counted (lacks_vote_in k) q (voter (on kind b) (Ret code)) ≡ ((w.says_yes || w.says_read_only) && (gtrid_eq b.gtrid q && lacks_vote_in k b))
    count_votes q = ap (is_counted (lacks_vote_in k) q) (voter_by b kind code) ∙ counted_by (lacks_vote_in k) q b _

    count_settled : (q : Gtrid)
        → is_counted (is_unsettled_in k) q (settler (on kind b) (Ret code))
        ≡ ((is_some w.how || (w.says_read_only || w.acknowledges)) && (gtrid_eq b.gtrid q && is_unsettled_in k b))
    count_settled q = ap (is_counted (is_unsettled_in k) q) (settler_by b kind code) ∙ counted_by (is_unsettled_in k) q b _

    at_self : (x y : Bool) → gtrid_eq b.gtrid b.gtrid ≡ true → (x && y) ≡ (x && (gtrid_eq b.gtrid b.gtrid && y))
    at_self x y self = ap (λ e. x && (e && y)) (sym self)

    at_other : (x y e : Bool) → e ≡ false → (x && (e && y)) ≡ false
    at_other x y true z = absurd (cc)
    at_other true y false z = refl
    at_other false y false z = refl

-- one test of a branch that is the answer's
noted_here : (e x n : Bool) → e ≡ true → (x || n) ≡ ((e && x) || n)
noted_here true x n z = refl
noted_here false x n z = absurd (cc)

noted_there : (e x n : Bool) → e ≡ false → n ≡ ((e && x) || n)
noted_there true x n z = absurd (cc)
noted_there false x n z = refl

pub heard_notes : (u : Bool) (l : Line) (b : Branch) (kind : Kind) (code : Code) (old new : Branch → BranchNotes) (n : BranchNotes) → n ≡ old b
    → ((q : Branch) → new q ≡ (if branch_eq b q then notes_with (news_by kind code) n else old q))
    → (q : Branch) → notes_of (new q) ≡ notes_after u (Heard l (on kind b) (Ret code)) q (notes_of (old q))
heard_notes u l b kind code old new n is h = one_note (notes_after u (Heard l (on kind b) (Ret code))) old old new b (notes_with w n) (λ q. refl) h
    (λ self. ap (λ (x : BranchNotes). notes_of (notes_with w x)) is ∙ notes_is _ _ refl refl
    (noted_here _ w.answers_start _ self ∙ ap (λ t. t || (old b).start_is_answered) (sym (starts_by b b kind code)))
    (noted_here _ w.says_yes _ self ∙ ap (λ t. t || (old b).said_yes) (sym (yes_by b b kind code)))
    (noted_here _ w.says_read_only _ self ∙ ap (λ t. t || (old b).said_read_only) (sym (read_only_by b b kind code)))
    (noted_here _ w.acknowledges _ self ∙ ap (λ t. t || (old b).is_acknowledged) (sym (acknowledged_by b b kind code)))
    (noted_here _ w.acknowledges _ self ∙ ap (λ t. t || (old b).is_acknowledged_lately) (sym (acknowledged_by b b kind code)))
    (noted_here _ w.finishes _ self ∙ ap (λ t. t || (old b).is_finished) (sym (finished_by b b kind code))))
    (λ q e. notes_is _ _ refl refl
    (noted_there _ w.answers_start _ e ∙ ap (λ t. t || (old q).start_is_answered) (sym (starts_by q b kind code)))
    (noted_there _ w.says_yes _ e ∙ ap (λ t. t || (old q).said_yes) (sym (yes_by q b kind code)))
    (noted_there _ w.says_read_only _ e ∙ ap (λ t. t || (old q).said_read_only) (sym (read_only_by q b kind code)))
    (noted_there _ w.acknowledges _ e ∙ ap (λ t. t || (old q).is_acknowledged) (sym (acknowledged_by q b kind code)))
    (noted_there _ w.acknowledges _ e ∙ ap (λ t. t || (old q).is_acknowledged_lately) (sym (acknowledged_by q b kind code)))
    (noted_there _ w.finishes _ e ∙ ap (λ t. t || (old q).is_finished) (sym (finished_by q b kind code))))
  where
    w : News
    w = news_by kind code

-- the record of each branch
pub heard_records : (b : Branch) (kind : Kind) (code : Code) (old new : Branch → BranchNotes) (n : BranchNotes) → n ≡ old b
    → ((q : Branch) → new q ≡ (if branch_eq b q then notes_with (news_by kind code) n else old q))
    → (q : Branch) → (new q).recorded ≡ recorded_with (doubt_of (record_of (on kind b) (Ret code))) q (old q).recorded
heard_records b kind code old new n is h q =
    ap (λ (x : BranchNotes). x.recorded) (h q) ∙ by (branch_eq b q) refl ∙ ap (λ d. recorded_with d q (old q).recorded) (sym (recorded_by_news b kind code))
  where
    here : (w : Option How) (o : Option How) → branch_eq b q ≡ true → option_or o w ≡ recorded_with (recording b w) q o
    here None None e = refl
    here None (Some x) e = refl
    here (Some how) None e = sym (ap (λ (t : Bool). if t then Some how else None) e)
    here (Some how) (Some x) e = refl

    there : (w : Option How) (o : Option How) → branch_eq b q ≡ false → o ≡ recorded_with (recording b w) q o
    there None None e = refl
    there None (Some x) e = refl
    there (Some how) None e = sym (ap (λ (t : Bool). if t then Some how else None) e)
    there (Some how) (Some x) e = refl

    by : (t : Bool) → branch_eq b q ≡ t
        → (if t then notes_with (news_by kind code) n else old q).recorded ≡ recorded_with (recording b (news_by kind code).how) q (old q).recorded
    by true e =
        ap (λ (x : BranchNotes). option_or x.recorded (news_by kind code).how) (is ∙ ap old (branch_eq-true b q e))
        ∙ here (news_by kind code).how (old q).recorded e
    by false e = there (news_by kind code).how (old q).recorded e

-- and their number
pub heard_number : (k : Book) (b : Branch) (kind : Kind) (code : Code) (o : Option How) (m : ℕ) → k.recorded b ≡ o
    → (if is_some (news_by kind code).how && not (is_some o) then m + 1 else m) ≡ records_with k (doubt_of (record_of (on kind b) (Ret code))) m
heard_number k b kind code o m is = by (news_by kind code).how o is ∙ ap (λ d. records_with k d m) (sym (recorded_by_news b kind code))
  where
    by : (w : Option How) (o : Option How) → k.recorded b ≡ o → (if is_some w && not (is_some o) then m + 1 else m) ≡ records_with k (recording b w) m
    by None o e = refl
    by (Some how) None e = sym (ap (λ x. if is_some x then m else m + 1) e)
    by (Some how) (Some x) e = sym (ap (λ x. if is_some x then m else m + 1) e)

pub branch_with_equal : (old new : Branch → BranchNotes) (b : Branch) (n w : BranchNotes) → n ≡ w
    → ((q : Branch) → new q ≡ (if branch_eq b q then n else old q))
    → (q : Branch) → new q ≡ (if branch_eq b q then w else old q)
branch_with_equal old new b n w is h q = h q ∙ ap (λ x. if branch_eq b q then x else old q) is

-- a code to a call on a branch lists nothing
pub heard_pages : (u : Bool) (l : Line) (b : Branch) (kind : Kind) (code : Code) (pages : ℕ → List Name) (r : ℕ)
    → pages r ≡ pages_after u (Heard l (on kind b) (Ret code)) pages r
heard_pages u l b Start code pages r = refl
heard_pages u l b Join code pages r = refl
heard_pages u l b (End f) code pages r = refl
heard_pages u l b Prepare code pages r = refl
heard_pages u l b Commit code pages r = refl
heard_pages u l b OnePhase code pages r = refl
heard_pages u l b Rollback code pages r = refl
heard_pages u l b Forget code pages r = refl
