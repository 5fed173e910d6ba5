-- The book of a session, which may have released transactions, and the book of its history.
use Rattle.std.proofs.Common.{◌≡◌, ℕ, ◌+◌, ◌||◌, None, sym, ap, ◌∙◌, subst}
use Rattle.xa_base.specs.Branch.{gtrid_eq}
use Rattle.xa_base.specs.declared.branch.Gtrid.{Gtrid}
use Rattle.xa_base.specs.declared.step.Step.TheVariants as Steps
use Rattle.xa_model.specs.Facts as facts
use Rattle.xa_model.specs.Facts.Distinct.{ApartRows}
use Rattle.xa_model.specs.Protocol.{IsRun, Right}
use Rattle.xa_model.specs.Replies.Guards.{call_guards, first_guard}
use Rattle.xa_model.specs.Replies.Steps.{Step}
use Rattle.xa_model.specs.Replies.View.{view_of}
use Rattle.xa_model.specs.Trace.{Happening, Origin, Trace, Trace.From, Trace.Then}
use Rattle.xa_monitor.specs.Explained.{HasOnlyOlderRows}
use Rattle.xa_tm.specs.Book.{Book, book_after, book_of, doubt_of_happening}
use Rattle.xa_tm.specs.Laws.{IsLookedAt}
use Rattle.xa_tm.specs.News.{Asked}
use Rattle.xa_tm.specs.Refusing.{managers_refusal, refusal_in, resolved_in, resolved_open_in}
use Rattle.xa_tm.specs.Release.{HasReleased, IsOver, MayFollow, book_without}
use Rattle.xa_tm.specs.Starting.{IsOld}
use Rattle.xa_tm.proofs.History.Refusals.{has_row_is, recorded_is, refusal_is, view_is}
use Rattle.xa_tm.proofs.History.RowCounts.{right_book}
use Rattle.xa_tm.proofs.Maps.Issue.{none_of_call}
use Rattle.xa_tm.proofs.Release.{one_more_is_released, recoveries_are_alike, wholes_follow, wholes_refuse_no_more}
use Rattle.xa_session.specs.Following.{BookStands}

-- the transaction that begins next
abbrev pub next_of : Book → Gtrid
next_of k = record { incarnation = k.incarnation; sequence = k.sequence + 1 }

module _ (tr : Trace) (k : Book) (stands : BookStands tr k) where
  pub up_alike : facts.up tr ≡ k.up
  up_alike = ap (λ (n : Book). n.up) stands.1.same

  pub next_alike : next_of k ≡ next_of (book_of tr)
  next_alike = sym (ap next_of stands.1.same)

  -- what it doesn't refuse, the history doesn't
  pub refuses_no_more : (s : Step) → IsRun tr → IsLookedAt s → refusal_in k s ≡ None → managers_refusal tr s ≡ None
  refuses_no_more s run looked none = sym (refusal_is tr s run looked) ∙ wholes_refuse_no_more stands.0 (book_of tr) k s stands.1 none

  -- nor a call that may be issued for what it is itself
  pub call_allowed : IsRun tr → (t r : ℕ) (a : Asked) → refusal_in k (Steps.Issue t r a) ≡ None → first_guard (call_guards (view_of tr) t r a) ≡ None
  call_allowed run t r a none =
      ap (λ v. first_guard (call_guards v t r a)) (sym (view_is tr run))
      ∙ none_of_call (book_of tr) t r a (wholes_refuse_no_more stands.0 (book_of tr) k (Steps.Issue t r a) stands.1 none)

  pub resolves_alike : (r : ℕ) → resolved_in k r ≡ resolved_in (book_of tr) r
  resolves_alike r = (recoveries_are_alike stands.0 (book_of tr) k r stands.1).0

  pub resolves_open_alike : (r : ℕ) → resolved_open_in k r ≡ resolved_open_in (book_of tr) r
  resolves_open_alike r = (recoveries_are_alike stands.0 (book_of tr) k r stands.1).1

  -- with one happening more
  pub book_goes : (e : Happening) (n : Book) → IsRun tr → Right tr e → ApartRows (facts.origin tr).rows → MayFollow k e
      → n ≡ book_after k (doubt_of_happening tr e) e → BookStands (Then tr e) n
  book_goes e n run right apart may is =
      let d = doubt_of_happening tr e in (
        stands.0,
        subst (λ w. HasReleased stands.0 w n) (sym (right_book tr e run right apart))
            (subst (λ m. HasReleased stands.0 (book_after (book_of tr) d e) m) (sym is) (wholes_follow stands.0 (book_of tr) k d e stands.1 may)),
      )

  -- with one transaction less
  pub book_left : (g : Gtrid) → IsOver k g → BookStands tr (book_without g k)
  book_left g done = ((λ h. gtrid_eq g h || stands.0 h), one_more_is_released stands.0 (book_of tr) k g stands.1 done)

-- ** a start

-- its rows and records are old, if its book's are
pub old_log : (o : Origin) → IsOld (book_of (From o)) → HasOnlyOlderRows o
old_log o old = record {
  rows_old = λ g lists. old.rows g (has_row_is (From o) g ∙ lists);
  record_old = λ b has. old.records b (recorded_is (From o) b ∙ has);
}
