-- What is read off the book of a history where the log is asked and where a recovery is made.
use Rattle.std.proofs.Common.{◌≡◌, ℕ, List, [], ◌∷◌, map, Bool, true, false, ◌||◌, refl, sym, ap, ◌∙◌}
use Rattle.std.specs.Prelude.{if◌then◌else◌, Some}
use Rattle.xa_base.specs.declared.branch.Branch.{Branch}
use Rattle.xa_base.specs.declared.branch.Gtrid.{Gtrid}
use Rattle.xa_model.specs.Facts.{live, next_answer, page, record_of, record_of_next, resolving_calls, resolving_kind, row_for}
use Rattle.xa_base.specs.Opening.{has_closed}
use Rattle.xa_base.specs.StateTable.{on}
use Rattle.xa_base.proofs.StateLemmas.{closes_on}
use Rattle.xa_model.specs.Trace.{Answer, Call, Fault.InDecide, Fault.InHear, Happening.Failed, Happening.ResolvedOpen, Kind.Commit, Kind.Forget, Kind.Rollback, Line, Name, Name.Foreign, Name.Ours, Trace, Trace.Then}
use Rattle.xa_tm.specs.Book.{Book, Doubt.Adds, after, doubt_of_happening, book_of, doubt_of, rows_for, waiting_row}
use Rattle.xa_tm.specs.Refusing.{live_in, resolved_in, resolved_open_in, resolving_calls_in, resolving_kind_in}
use Rattle.xa_tm.proofs.History.OneMore.{one_more, voted_yes_is}
use Rattle.xa_tm.proofs.History.Refusals.{has_row_is, recorded_is}

-- ** what the log is asked for

rows_asked : (tr : Trace) (gs : List Gtrid) → rows_for (book_of tr) gs ≡ map waiting_row (map (row_for tr) gs)
rows_asked tr [] = refl
rows_asked tr (g ∷ gs) = λ i. (g, sym (voted_yes_is tr g) i) ∷ rows_asked tr gs i

pub decision_asks : (tr : Trace) (gs : List Gtrid) → Adds (rows_for (book_of tr) gs) ≡ doubt_of_happening tr (Failed (InDecide gs))
decision_asks tr gs = ap (λ rows. Adds rows) (rows_asked tr gs)

pub answer_asks : (tr : Trace) (l : Line) (c : Call) (a : Answer) → next_answer tr l ≡ Some (c, a)
    → doubt_of (record_of c a) ≡ doubt_of_happening tr (Failed (InHear l))
answer_asks tr l c a next = ap (λ o. doubt_of (record_of_next o)) (sym next)

-- ** recoveries

kind_is : (tr : Trace) (b : Branch) → resolving_kind_in (book_of tr) b ≡ resolving_kind tr b
kind_is tr b = λ i. if recorded_is tr b i then Forget else (if has_row_is tr b.gtrid i then Commit else Rollback)

same_calls : (tr : Trace) (ns : List Name) → resolving_calls_in (book_of tr) ns ≡ resolving_calls tr ns
same_calls tr [] = refl
same_calls tr (Ours b ∷ ns) = λ i. if live tr b.gtrid then same_calls tr ns i else on (kind_is tr b i) b ∷ same_calls tr ns i
same_calls tr (Foreign x ∷ ns) = same_calls tr ns

pub resolved_is : (tr : Trace) (r : ℕ) → resolved_in (book_of tr) r ≡ resolving_calls tr (page tr r)
resolved_is tr r = same_calls tr (page tr r)

pub resolved_open_is : (tr : Trace) (r : ℕ) → resolved_open_in (book_of tr) r ≡ resolving_calls (Then tr (ResolvedOpen r)) (page tr r)
resolved_open_is tr r = ap (λ k. resolving_calls_in k (page tr r)) (sym (one_more tr (ResolvedOpen r) tt)) ∙ same_calls (Then tr (ResolvedOpen r)) (page tr r)

close_none : (k : Book) (ns : List Name) → has_closed (resolving_calls_in k ns) ≡ false
close_none k [] = refl
close_none k (Ours b ∷ ns) = by (live_in k b.gtrid) (close_none k ns)
  where
    by : (t : Bool) → has_closed (resolving_calls_in k ns) ≡ false
        → has_closed (if t then resolving_calls_in k ns else on (resolving_kind_in k b) b ∷ resolving_calls_in k ns) ≡ false
    by true rest = rest
    by false rest = ap (λ t. t || has_closed (resolving_calls_in k ns)) (closes_on (resolving_kind_in k b) b) ∙ rest
close_none k (Foreign x ∷ ns) = close_none k ns

pub recoveries_close_none : (k : Book) (r : ℕ) → (has_closed (resolved_in k r) ≡ false) × (has_closed (resolved_open_in k r) ≡ false)
recoveries_close_none k r = (close_none k (k.page r), close_none (after k (ResolvedOpen r)) (k.page r))
