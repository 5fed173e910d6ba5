-- The book of a history with one happening more is what the happening makes of the book.
use Rattle.std.proofs.Common.{◌≡◌, ℕ, ◌+◌, ◌==◌, List, [], ◌∷◌, ◌++◌, length, map, filter, Bool, true, false, ◌&&◌, ◌||◌, cond, Option, Some, None, is_some, add-one, refl, sym, ap, ◌∙◌, subst}
use Rattle.std.specs.Prelude.{if◌then◌else◌}
use Rattle.std.specs.Ordering.{eq_by_cmp}
use Rattle.std.specs.List.{list_any}
use Rattle.std.proofs.lemmas.Bool.{true≢false}
use Rattle.xa_base.specs.declared.call.Call.TheVariants as Calls
use Rattle.xa_base.specs.Branch.{gtrid_eq, branch_cmp}
use Rattle.xa_base.specs.declared.branch.Branch.{Branch}
use Rattle.xa_base.specs.declared.branch.Gtrid.{Gtrid}
use Rattle.xa_base.specs.declared.step.Outcome.TheVariants as Outcome
use Rattle.xa_base.specs.declared.step.Part.TheVariants as Part
use Rattle.xa_model.specs.Replies.Allowed.{failed_restarts}
use Rattle.xa_model.specs.Facts.{up, incarnation, sequence, breaks, branches, was_told, says_yes_in, page, page_after, log, heuristic_rows, without, without_each, row_for, lists_row, takes_part, recorded, record_of, doubt, fault_change, rows_changed, Change, Change.AddRows, Change.DropRows, Change.AddRecord, Change.NoChange, begins}
use Rattle.xa_model.specs.Trace.{Line, Fault.InRestart, Happening, Happening.Begun, Happening.Issued, Happening.ResolvedOpen, Happening.Heard, Happening.Claimed, Happening.Decided, Happening.Done, Happening.Crashed, Happening.Failed, Happening.Restarted, Row, Trace, Trace.Then, line}
use Rattle.xa_base.proofs.BranchOrder.{branches_total, exact_branches}
use Rattle.xa_base.proofs.BranchKeys.{gtrid_eq-true}
use Rattle.xa_base.proofs.Orders.{equal_is}
use Rattle.xa_log.specs.KeySet.{from_list, items, contains-items, contains-from_list, same_set}
use Rattle.xa_tm.specs.Laws.{CountsRows}
use Rattle.xa_tm.proofs.Several.Contents.{without_first}
use Rattle.xa_tm.specs.Book.{Doubt.Adds, Book, Waiting, waiting_row, row_among, row_without, rows_for, row_in, doubt_of, transaction_in, notes_in, book_of, up_after, incarnation_after, sequence_after, begins_after, failed_restarts_after, breaks_in, transaction_after, notes_after, known_after, pages_after, voted_yes, row_with, row_after, rows_after, records_after, doubt_after, book_after, doubt_of_happening}
use Rattle.xa_tm.proofs.History.RecordsAfter.{recorded_more, records_changed}

-- two books that say the same
pub book_is : (k l : Book) → k.threads ≡ l.threads → k.rms ≡ l.rms → k.up ≡ l.up → k.incarnation ≡ l.incarnation → k.sequence ≡ l.sequence
    → k.begins ≡ l.begins → k.failed_restarts ≡ l.failed_restarts → ((g : Gtrid) → k.transaction g ≡ l.transaction g) → ((b : Branch) → k.notes b ≡ l.notes b)
    → k.known ≡ l.known → ((r : ℕ) → k.page r ≡ l.page r) → ((g : Gtrid) → k.row g ≡ l.row g) → k.rows ≡ l.rows
    → ((b : Branch) → k.recorded b ≡ l.recorded b) → k.records ≡ l.records → k.doubt ≡ l.doubt → k ≡ l
book_is k l threads rms up inc seq begins failed transaction notes known page row rows recorded records doubt = λ i. record {
  threads = threads i;
  rms = rms i;
  up = up i;
  incarnation = inc i;
  sequence = seq i;
  begins = begins i;
  failed_restarts = failed i;
  transaction = λ g. transaction g i;
  notes = λ b. notes b i;
  known = known i;
  page = λ r. page r i;
  row = λ g. row g i;
  rows = rows i;
  recorded = λ b. recorded b i;
  records = records i;
  doubt = doubt i;
}

-- ** numbers and flags

up_more : (tr : Trace) (e : Happening) → up (Then tr e) ≡ up_after e (up tr)
up_more tr (Crashed Part.Manager) = refl
up_more tr (Failed f) = refl
up_more tr (Restarted i d h) = refl
up_more tr _ = refl

incarnation_more : (tr : Trace) (e : Happening) → incarnation (Then tr e) ≡ incarnation_after e (incarnation tr)
incarnation_more tr (Restarted i d h) = refl
incarnation_more tr _ = refl

sequence_more : (tr : Trace) (e : Happening) → sequence (Then tr e) ≡ sequence_after e (sequence tr)
sequence_more tr (Begun g) = refl
sequence_more tr (Restarted i d h) = refl
sequence_more tr _ = refl

begins_more : (tr : Trace) (e : Happening) → begins (Then tr e) ≡ begins_after e (begins tr)
begins_more tr (Begun g) = refl
begins_more tr _ = refl

failed_more : (tr : Trace) (e : Happening) → failed_restarts (Then tr e) ≡ failed_restarts_after e (failed_restarts tr)
failed_more tr (Restarted i d h) = refl
failed_more tr (Failed InRestart) = refl
failed_more tr _ = refl

pub breaks_is : (tr : Trace) (e : Happening) (l : Line) → breaks tr e l ≡ breaks_in (up tr) e l
breaks_is tr (Crashed (Part.Line t r)) l = refl
breaks_is tr (Crashed (Part.Rm r)) l = refl
breaks_is tr (Crashed Part.Manager) l = refl
breaks_is tr (Failed f) l = refl
breaks_is tr _ l = refl

-- ** transactions and branches

transaction_more : (tr : Trace) (e : Happening) (g : Gtrid) → transaction_in (Then tr e) g ≡ transaction_after (book_of tr) e g (transaction_in tr g)
transaction_more tr (Begun h) g = refl
transaction_more tr (Issued l (Calls.Start b false)) g = refl
transaction_more tr (Issued l (Calls.Start b true)) g = refl
transaction_more tr (Issued l (Calls.Commit b true)) g = refl
transaction_more tr (Heard l c a) g = refl
transaction_more tr (Claimed h) g = refl
transaction_more tr (Decided h Outcome.Commit) g = refl
transaction_more tr (Decided h Outcome.Rollback) g = refl
transaction_more tr (ResolvedOpen r) g = refl
transaction_more tr (Crashed Part.Manager) g = refl
transaction_more tr (Failed f) g = refl
transaction_more tr (Restarted i d h) g = refl
transaction_more tr _ g = refl

notes_more : (tr : Trace) (e : Happening) (b : Branch) → notes_in (Then tr e) b ≡ notes_after (up tr) e b (notes_in tr b)
notes_more tr (Issued l (Calls.Start c false)) b = refl
notes_more tr (Issued l (Calls.Start c true)) b = refl
notes_more tr (Heard l c a) b = refl
notes_more tr (Crashed (Part.Line t r)) b = refl
notes_more tr (Crashed (Part.Rm r)) b = refl
notes_more tr (Crashed Part.Manager) b = refl
notes_more tr (Failed f) b = refl
notes_more tr (Restarted i d h) b = refl
notes_more tr _ b = refl

known_more : (tr : Trace) (e : Happening) → from_list {R = branch_cmp} (branches (Then tr e)) ≡ known_after e (from_list (branches tr))
known_more tr (Issued l (Calls.Start b false)) = refl
known_more tr (Issued l (Calls.Start b true)) = refl
known_more tr _ = refl

page_more : (tr : Trace) (e : Happening) (r : ℕ) → page (Then tr e) r ≡ pages_after (up tr) e (page tr) r
page_more tr e r = ap (λ (t : Bool). if t then [] else page_after (page tr r) e r) (breaks_is tr e (line 0 r))

-- ** rows

-- one of those that pass a test
pub any_filter : (p : Branch → Bool) (q : Branch) (xs : List Branch)
    → list_any (eq_by_cmp branch_cmp q) (filter p xs) ≡ (p q && list_any (eq_by_cmp branch_cmp q) xs)
any_filter p q [] = none (p q)
  where
    none : (t : Bool) → false ≡ (t && false)
    none true = refl
    none false = refl
any_filter p q (x ∷ xs) = by (p x) (eq_by_cmp branch_cmp q x) refl refl (any_filter p q xs)
  where
    here : (t s u : Bool) → t ≡ true → (s || (t && u)) ≡ (t && (s || u))
    here true s u e = refl
    here false s u e = absurd (cc)

    away : (t u : Bool) (s : Bool) → s ≡ false → (t && u) ≡ (t && (s || u))
    away t u true e = absurd (cc)
    away t u false e = refl

    gone : (t : Bool) → t ≡ false → (u : Bool) → false ≡ (t && u)
    gone true e u = absurd (cc)
    gone false e u = refl

    by : (t s : Bool) → p x ≡ t → eq_by_cmp branch_cmp q x ≡ s → list_any (eq_by_cmp branch_cmp q) (filter p xs) ≡ (p q && list_any (eq_by_cmp branch_cmp q) xs)
        → list_any (eq_by_cmp branch_cmp q) (cond t (x ∷ filter p xs) (filter p xs))
        ≡ (p q && (eq_by_cmp branch_cmp q x || list_any (eq_by_cmp branch_cmp q) xs))
    by true true is same rest =
        let at : p q ≡ true = ap p (exact_branches q x (equal_is _ same)) ∙ is in
        ap (λ b. eq_by_cmp branch_cmp q x || b) rest ∙ here (p q) (eq_by_cmp branch_cmp q x) (list_any (eq_by_cmp branch_cmp q) xs) at
    by true false is apart rest =
        ap (λ (s : Bool). s || list_any (eq_by_cmp branch_cmp q) (filter p xs)) apart ∙ rest
        ∙ away (p q) (list_any (eq_by_cmp branch_cmp q) xs) (eq_by_cmp branch_cmp q x) apart
    by false true is same rest =
        let at : p q ≡ false = ap p (exact_branches q x (equal_is _ same)) ∙ is in
        rest ∙ sym (gone (p q) at (list_any (eq_by_cmp branch_cmp q) xs)) ∙ gone (p q) at (eq_by_cmp branch_cmp q x || list_any (eq_by_cmp branch_cmp q) xs)
    by false false is apart rest = rest ∙ away (p q) (list_any (eq_by_cmp branch_cmp q) xs) (eq_by_cmp branch_cmp q x) apart

-- a choice from a set, and from a list of which it is
pub chosen : (p : Branch → Bool) (xs : List Branch) → from_list {R = branch_cmp} (filter p (items (from_list {R = branch_cmp} xs))) ≡ from_list (filter p xs)
chosen p xs = same_set branches_total exact_branches _ _ (λ q.
    contains-from_list branches_total _ q ∙ any_filter p q (items (from_list xs))
    ∙ ap (λ b. p q && b) (sym (contains-items (from_list xs) q) ∙ contains-from_list branches_total xs q)
    ∙ sym (any_filter p q xs) ∙ sym (contains-from_list branches_total _ q))

pub voted_yes_is : (tr : Trace) (g : Gtrid) → from_list (row_for tr g).participants ≡ voted_yes (book_of tr) g
voted_yes_is tr g = sym (chosen (takes_part tr g) (branches tr))

-- whether there is a row
pub lists_is : (xs : List Row) (g : Gtrid) → lists_row xs g ≡ is_some (row_in xs g)
lists_is [] g = refl
lists_is (x ∷ xs) g = by (gtrid_eq x.gtrid g) (lists_is xs g)
  where
    by : (t : Bool) → lists_row xs g ≡ is_some (row_in xs g) → (t || lists_row xs g) ≡ is_some (if t then Some (from_list x.participants) else row_in xs g)
    by true rest = refl
    by false rest = rest

row_dropped : (h g : Gtrid) (xs : List Row) → row_in (without h xs) g ≡ row_without (h ∷ []) g (row_in xs g)
row_dropped h g [] = none (gtrid_eq h g)
  where
    empty : Option Waiting
    empty = None

    none : (t : Bool) → empty ≡ (if t then empty else empty)
    none true = refl
    none false = refl
row_dropped h g (x ∷ xs) = by (gtrid_eq x.gtrid h) (gtrid_eq x.gtrid g) refl refl (row_dropped h g xs)
  where
    by : (s t : Bool) → gtrid_eq x.gtrid h ≡ s → gtrid_eq x.gtrid g ≡ t → row_in (without h xs) g ≡ row_without (h ∷ []) g (row_in xs g)
        → row_in (if s then without h xs else x ∷ without h xs) g
        ≡ (if gtrid_eq h g then None else (if t then Some (from_list x.participants) else row_in xs g))
    by true true same here rest =
        let is : gtrid_eq h g ≡ true = subst (λ y. gtrid_eq y g ≡ true) (gtrid_eq-true x.gtrid h same) here in
        rest ∙ ap (λ (u : Bool). if u then None else row_in xs g) is ∙ sym (ap (λ (u : Bool). if u then None else Some (from_list x.participants)) is)
    by true false same away rest = rest
    by false true other here rest =
        let at = ap (λ (u : Bool). if u then Some (from_list {R = branch_cmp} x.participants) else row_in (without h xs) g) here in
        at ∙ sym (ap (λ (u : Bool). if u then None else Some (from_list x.participants)) (apart (gtrid_eq h g) refl))
      where
        apart : (u : Bool) → gtrid_eq h g ≡ u → gtrid_eq h g ≡ false
        apart true e = absurd (true≢false (sym here ∙ ap (gtrid_eq x.gtrid) (sym (gtrid_eq-true h g e)) ∙ other))
        apart false e = e
    by false false other away rest = ap (λ (u : Bool). if u then Some (from_list {R = branch_cmp} x.participants) else row_in (without h xs) g) away ∙ rest

rows_dropped : (hs : List Gtrid) (xs : List Row) (g : Gtrid) → row_in (without_each hs xs) g ≡ row_without hs g (row_in xs g)
rows_dropped [] xs g = refl
rows_dropped (h ∷ hs) xs g = rows_dropped hs (without h xs) g ∙ ap (row_without hs g) (row_dropped h g xs) ∙ without_first h hs g (row_in xs g)

rows_added : (ys xs : List Row) (g : Gtrid) → row_in (ys ++ xs) g ≡ row_among (map waiting_row ys) g (row_in xs g)
rows_added [] xs g = refl
rows_added (y ∷ ys) xs g = ap (λ r. if gtrid_eq y.gtrid g then Some (from_list y.participants) else r) (rows_added ys xs g)

-- the rows after a change
pub row_changed : (c : Change) (xs : List Row) (g : Gtrid) → row_in (rows_changed c xs) g ≡ row_with (doubt_of c) g (row_in xs g)
row_changed (AddRows ys) xs g = rows_added ys xs g
row_changed (DropRows hs) xs g = rows_dropped hs xs g
row_changed (AddRecord x) xs g = refl
row_changed NoChange xs g = refl

row_more : (tr : Trace) (e : Happening) (g : Gtrid) → row_in (log (Then tr e)) g ≡ row_after (book_of tr) e g (row_in (log tr) g)
row_more tr (Decided h Outcome.Commit) g = by (was_told tr (says_yes_in h))
  where
    by : (t : Bool) → row_in (if t then row_for tr h ∷ log tr else log tr) g
        ≡ (if t then row_with (Adds (rows_for (book_of tr) (h ∷ []))) g (row_in (log tr) g) else row_in (log tr) g)
    by true = ap (λ set. if gtrid_eq h g then Some set else row_in (log tr) g) (voted_yes_is tr h)
    by false = refl
row_more tr (Done h) g = row_dropped h g (log tr)
row_more tr (Restarted i d h) g = by (d == length (log tr))
  where
    by : (t : Bool) → row_in (if t then log tr else rows_changed (doubt tr) (log tr)) g
        ≡ (if t then row_in (log tr) g else row_with (doubt_of (doubt tr)) g (row_in (log tr) g))
    by true = refl
    by false = row_changed (doubt tr) (log tr) g
row_more tr _ g = refl

-- ** numbers of rows, and doubt

rows_more : (tr : Trace) (e : Happening) → CountsRows tr e → length (log (Then tr e)) ≡ rows_after (book_of tr) e (length (log tr))
rows_more tr (Decided h Outcome.Commit) n = by (was_told tr (says_yes_in h))
  where
    by : (t : Bool) → length (if t then row_for tr h ∷ log tr else log tr) ≡ (if t then length (log tr) + 1 else length (log tr))
    by true = sym (add-one (length (log tr)))
    by false = refl
rows_more tr (Done h) n = n
rows_more tr (Restarted i d h) n = sym n.0
rows_more tr _ n = refl

records_more : (tr : Trace) (e : Happening) → CountsRows tr e → length (heuristic_rows (Then tr e)) ≡ records_after (book_of tr) e (length (heuristic_rows tr))
records_more tr (Heard l c a) n = records_changed (book_of tr) (record_of c a) (heuristic_rows tr) (λ b. refl)
records_more tr (Restarted i d h) n = sym n.1
records_more tr _ n = refl

doubt_more : (tr : Trace) (e : Happening) → doubt_of (doubt (Then tr e)) ≡ doubt_after (up tr) (doubt_of_happening tr e) e (doubt_of (doubt tr))
doubt_more tr (Failed f) = by (up tr)
  where
    by : (u : Bool) → doubt_of (if u then fault_change tr f else doubt tr) ≡ (if u then doubt_of (fault_change tr f) else doubt_of (doubt tr))
    by true = refl
    by false = refl
doubt_more tr (Restarted i d h) = refl
doubt_more tr _ = refl

-- ** the whole

pub one_more : (tr : Trace) (e : Happening) → CountsRows tr e → book_of (Then tr e) ≡ book_after (book_of tr) (doubt_of_happening tr e) e
one_more tr e n = book_is _ _ refl refl (up_more tr e) (incarnation_more tr e) (sequence_more tr e) (begins_more tr e) (failed_more tr e)
    (transaction_more tr e) (notes_more tr e) (known_more tr e) (page_more tr e) (row_more tr e) (rows_more tr e n) (recorded_more tr e)
    (records_more tr e n) (doubt_more tr e)
