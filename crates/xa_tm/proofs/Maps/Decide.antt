-- A commit with a row, from the steps that make it to what the book says.
use Rattle.std.proofs.Common.{◌≡◌, ◌+◌, Bool, true, false, Option, Some, None, refl, sym, ap, ◌∙◌}
use Rattle.std.specs.Prelude.{if◌then◌else◌}
use Rattle.xa_base.specs.Branch.{gtrid_eq}
use Rattle.xa_base.specs.declared.branch.Gtrid.{Gtrid}
use Rattle.xa_base.specs.declared.step.Outcome.{Outcome}
use Rattle.xa_base.specs.declared.step.Outcome.TheVariants as Outcomes
use Rattle.xa_model.specs.Trace.{Happening.Decided}
use Rattle.xa_tm.specs.Book.{Book, Waiting, after, transaction_after, voted_yes}
use Rattle.xa_tm.specs.LedgerBook.{as_book, row_at, transaction_at}
use Rattle.xa_tm.specs.Outcomes.{is_commit, is_rollback}
use Rattle.xa_tm.specs.declared.ledger.Ledger.{Ledger}

-- nothing decided it yet
pub undecided : (o : Option Outcome) → is_commit o ≡ false → is_rollback o ≡ false → o ≡ None
undecided None e f = refl
undecided (Some Outcomes.Commit) e f = absurd (cc)
undecided (Some Outcomes.Rollback) e f = absurd (cc)

-- the steps of a commit in the room that was made
pub commit_steps : (a b c : Ledger) (g : Gtrid) (w : Waiting) → b ≡ record a { transactions = b.transactions }
    → as_book b ≡ record (as_book a) { transaction = λ q. transaction_after (as_book a) (Decided g Outcomes.Commit) q ((as_book a).transaction q) }
    → c ≡ record b { rows = c.rows; row_count = b.row_count + 1 } → ((q : Gtrid) → row_at c.rows q ≡ (if gtrid_eq g q then Some w else row_at b.rows q))
    → (transaction_at a.transactions g).has_yes ≡ true → w ≡ voted_yes (as_book a) g
    → as_book c ≡ after (as_book a) (Decided g Outcomes.Commit)
commit_steps a b c g w same transactions others rows agreed voters =
    ap as_book others
    ∙ ap (λ (k : Book). record k { row = row_at c.rows; rows = b.row_count + 1 }) transactions
    ∙ (λ i. record (after (as_book a) (Decided g Outcomes.Commit)) { row = λ q. row q i; rows = number i })
  where
    row : (q : Gtrid) → row_at c.rows q
        ≡ (if (transaction_at a.transactions g).has_yes then (if gtrid_eq g q then Some (voted_yes (as_book a) g) else row_at a.rows q) else row_at a.rows q)
    row q =
        rows q ∙ ap (λ (k : Ledger). if gtrid_eq g q then Some w else row_at k.rows q) same ∙ ap (λ v. if gtrid_eq g q then Some v else row_at a.rows q) voters
        ∙ sym (ap (λ (t : Bool). if t then (if gtrid_eq g q then Some (voted_yes (as_book a) g) else row_at a.rows q) else row_at a.rows q) agreed)

    number : b.row_count + 1 ≡ (if (transaction_at a.transactions g).has_yes then a.row_count + 1 else a.row_count)
    number = ap (λ (k : Ledger). k.row_count + 1) same ∙ sym (ap (λ (t : Bool). if t then a.row_count + 1 else a.row_count) agreed)
