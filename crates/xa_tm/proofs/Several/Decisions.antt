-- What several decisions, or the end of several rows, make of a book.
use Rattle.std.proofs.Common.{◌≡◌, ℕ, ◌+◌, ◌-◌, ◌≤◌, List, [], ◌∷◌, length, map, Bool, true, false, ◌&&◌, cond, Option, Some, None, is_some, refl, sym, ap, ◌∙◌, subst, arith}
use Rattle.std.specs.Prelude.{if◌then◌else◌}
use Rattle.std.specs.Option.{option_or}
use Rattle.std.proofs.lemmas.Bool.{or_from, or_parts}
use Rattle.std.proofs.lemmas.List.{length-map}
use Rattle.xa_base.specs.Branch.{gtrid_eq}
use Rattle.xa_base.specs.declared.branch.Gtrid.{Gtrid}
use Rattle.xa_base.specs.declared.refusal.Refusal.{Refusal}
use Rattle.xa_base.specs.declared.step.Outcome.{Outcome}
use Rattle.xa_base.specs.declared.step.Outcome.TheVariants as Outcomes
use Rattle.xa_base.specs.declared.step.Step.TheVariants as Steps
use Rattle.xa_base.proofs.BranchKeys.{gtrid_eq-true}
use Rattle.xa_log.specs.Content.{Content, with_commits, without_decisions}
use Rattle.xa_log.specs.Contract.{Makes}
use Rattle.xa_log.specs.declared.decision.Decision.{Decision}
use Rattle.xa_model.specs.Facts.{has_gtrid}
use Rattle.xa_model.specs.Facts.Distinct.{EachOnce}
use Rattle.xa_model.specs.Trace.{Happening.Decided, Happening.Done}
use Rattle.xa_tm.specs.Book.{Book, Waiting, TransactionNotes, Doubt.Adds, after, after_all, row_among, row_without, rows_for, transaction_after, voted_row, voted_yes}
use Rattle.xa_tm.specs.BookAndLog.{IsChangeOf, IsTied, changed_by, with_rows}
use Rattle.xa_tm.specs.Calls.{IsOpenIn, written_by}
use Rattle.xa_tm.specs.LedgerBook.{as_book, decided_by, decided_row, gtrids_of, row_at}
use Rattle.xa_tm.specs.Outcomes.{is_commit}
use Rattle.xa_tm.specs.Refusing.{refusal_in, refusal_in_turn}
use Rattle.xa_tm.specs.declared.ledger.Ledger.{Ledger}
use Rattle.xa_tm.proofs.History.OneMore.{book_is}
use Rattle.xa_tm.proofs.Log.TiedSteps.{done_row, done_up, tied_dropped, tied_written}
use Rattle.xa_tm.proofs.Log.Ties.{tied_same}
use Rattle.xa_tm.proofs.Several.Contents.{commits_are, decided_names, without_first}
use Rattle.xa_tm.proofs.Several.Lists.{gtrid_away, once_filter, once_so}
use Rattle.xa_tm.proofs.Several.Refusals.{decide_open}

-- ** which rows are written

names_for : (k : Book) (gs : List Gtrid) → map (λ (x : Gtrid × Waiting). x.0) (rows_for k gs) ≡ gs
names_for k [] = refl
names_for k (g ∷ gs) = ap (λ l. g ∷ l) (names_for k gs)

-- the rows of free transactions are new
pub written_new : (k : Book) (o : Outcome) (gs : List Gtrid)
    → ((g : Gtrid) → (k.transaction g).begun ≡ true → (k.transaction g).committed ≡ false → k.row g ≡ None)
    → EachOnce (IsOpenIn k) gs → IsChangeOf k.row (Adds (rows_for k (written_by o k gs)))
written_new k o gs no_row free =
    subst (EachOnce (λ g. k.row g ≡ None)) (sym (names_for k (written_by o k gs)))
    (once_filter (λ g. k.row g ≡ None) (λ g. is_commit (Some o) && (k.transaction g).has_yes) gs
    (once_so (IsOpenIn k) (λ g. k.row g ≡ None) gs (λ g is. no_row g is.begun is.uncommitted) free))

-- ** the book after decisions

abbrev pub decided_book : Book → Outcome → List Gtrid → Book
decided_book k o gs = record k {
  transaction = λ q. decided_by k o gs q (k.transaction q);
  row = λ q. row_among (rows_for k (written_by o k gs)) q (k.row q);
  rows = k.rows + length (written_by o k gs);
}

decided_by_any : (k l : Book) (o : Outcome) (gs : List Gtrid) (q : Gtrid) (d : TransactionNotes) → decided_by k o gs q d ≡ decided_by l o gs q d
decided_by_any k l o [] q d = refl
decided_by_any k l Outcomes.Commit (g ∷ gs) q d = decided_by_any k l Outcomes.Commit gs q (transaction_after k (Decided g Outcomes.Commit) q d)
decided_by_any k l Outcomes.Rollback (g ∷ gs) q d = decided_by_any k l Outcomes.Rollback gs q (transaction_after k (Decided g Outcomes.Rollback) q d)

-- a row that stands already
among_own : (k : Book) (gs : List Gtrid) (q : Gtrid) → row_among (rows_for k gs) q (Some (voted_yes k q)) ≡ Some (voted_yes k q)
among_own k [] q = refl
among_own k (g ∷ gs) q = by (gtrid_eq g q) refl (among_own k gs q)
  where
    by : (t : Bool) → gtrid_eq g q ≡ t → row_among (rows_for k gs) q (Some (voted_yes k q)) ≡ Some (voted_yes k q)
        → (if t then Some (voted_yes k g) else row_among (rows_for k gs) q (Some (voted_yes k q))) ≡ Some (voted_yes k q)
    by true same rest = ap (λ p. Some (voted_yes k p)) (gtrid_eq-true g q same)
    by false other rest = rest

-- one row more
one_row_more : (k : Book) (g : Gtrid) (ys : List Gtrid) (y : Bool) (q : Gtrid) (r : Option Waiting)
    → row_among (rows_for k ys) q (if y then (if gtrid_eq g q then Some (voted_yes k g) else r) else r)
    ≡ row_among (rows_for k (cond y (g ∷ ys) ys)) q r
one_row_more k g ys false q r = refl
one_row_more k g ys true q r = by (gtrid_eq g q) refl
  where
    by : (t : Bool) → gtrid_eq g q ≡ t
        → row_among (rows_for k ys) q (if t then Some (voted_yes k g) else r) ≡ (if t then Some (voted_yes k g) else row_among (rows_for k ys) q r)
    by true same = subst (λ p. row_among (rows_for k ys) q (Some (voted_yes k p)) ≡ Some (voted_yes k p)) (sym (gtrid_eq-true g q same)) (among_own k ys q)
    by false other = refl

one_number_more : (n : ℕ) (g : Gtrid) (ys : List Gtrid) (y : Bool) → (if y then n + 1 else n) + length ys ≡ n + length (cond y (g ∷ ys) ys)
one_number_more n g ys true = omega arith
one_number_more n g ys false = refl

pub all_decided : (o : Outcome) (k : Book) (gs : List Gtrid) → after_all k (map (λ g. Decided g o) gs) ≡ decided_book k o gs
all_decided o k [] = book_is _ _ refl refl refl refl refl refl refl (λ q. refl) (λ b. refl) refl (λ r. refl) (λ q. refl)
    (let same : k.rows ≡ k.rows + 0 = omega arith in same) (λ b. refl) refl refl
all_decided Outcomes.Commit k (g ∷ gs) =
    all_decided Outcomes.Commit (after k (Decided g Outcomes.Commit)) gs
    ∙ book_is _ _ refl refl refl refl refl refl refl
    (λ q. decided_by_any (after k (Decided g Outcomes.Commit)) k Outcomes.Commit gs q (transaction_after k (Decided g Outcomes.Commit) q (k.transaction q)))
    (λ b. refl) refl (λ r. refl)
    (λ q. one_row_more k g (written_by Outcomes.Commit k gs) (k.transaction g).has_yes q (k.row q))
    (one_number_more k.rows g (written_by Outcomes.Commit k gs) (k.transaction g).has_yes) (λ b. refl) refl refl
all_decided Outcomes.Rollback k (g ∷ gs) =
    all_decided Outcomes.Rollback (after k (Decided g Outcomes.Rollback)) gs
    ∙ book_is _ _ refl refl refl refl refl refl refl
    (λ q. decided_by_any (after k (Decided g Outcomes.Rollback)) k Outcomes.Rollback gs q
    (transaction_after k (Decided g Outcomes.Rollback) q (k.transaction q)))
    (λ b. refl) refl (λ r. refl) (λ q. refl) refl (λ b. refl) refl refl

-- the steps of decisions in the room that was made
pub note_steps : (a b c : Ledger) (o : Outcome) (gs : List Gtrid) (ds : List Decision) → b ≡ record a { transactions = b.transactions }
    → as_book b ≡ record (as_book a) { transaction = λ q. decided_by (as_book a) o gs q ((as_book a).transaction q) }
    → c ≡ record b { rows = c.rows; row_count = b.row_count + length ds }
    → ((q : Gtrid) → row_at c.rows q ≡ row_among (map decided_row ds) q (row_at b.rows q))
    → map decided_row ds ≡ rows_for (as_book a) (written_by o (as_book a) gs)
    → as_book c ≡ after_all (as_book a) (map (λ g. Decided g o) gs)
note_steps a b c o gs ds same transactions others rows all =
    ap as_book others
    ∙ ap (λ (k : Book). record k { row = row_at c.rows; rows = b.row_count + length ds }) transactions
    ∙ (λ i. record (decided_book (as_book a) o gs) { row = λ q. row q i; rows = number i })
    ∙ sym (all_decided o (as_book a) gs)
  where
    row : (q : Gtrid) → row_at c.rows q ≡ row_among (rows_for (as_book a) (written_by o (as_book a) gs)) q (row_at a.rows q)
    row q = rows q ∙ ap (λ (k : Ledger). row_among (map decided_row ds) q (row_at k.rows q)) same ∙ ap (λ xs. row_among xs q (row_at a.rows q)) all

    number : b.row_count + length ds ≡ a.row_count + length (written_by o (as_book a) gs)
    number =
        ap (λ (k : Ledger). k.row_count + length ds) same
        ∙ ap (λ n. a.row_count + n) (sym (length-map ds decided_row) ∙ ap length all ∙ length-map (written_by o (as_book a) gs) (voted_row (as_book a)))

-- ** what is not refused

-- a decision leaves what it doesn't name free
still_open : (k : Book) (o : Outcome) (g h : Gtrid) → IsOpenIn (after k (Decided g o)) h → IsOpenIn k h × (gtrid_eq g h ≡ false)
still_open k Outcomes.Commit g h is =
    let parts = or_parts (gtrid_eq g h) (k.transaction h).committed is.uncommitted in
    (record { up = is.up; begun = is.begun; uncommitted = parts.1; not_rolled_back = is.not_rolled_back }, parts.0)
still_open k Outcomes.Rollback g h is =
    let parts = or_parts (gtrid_eq g h) (k.transaction h).rolled_back is.not_rolled_back in
    (record { up = is.up; begun = is.begun; uncommitted = is.uncommitted; not_rolled_back = parts.1 }, parts.0)

-- each is so, and another than this
apart_from : (P Q : Gtrid → Type 0) (g : Gtrid) (gs : List Gtrid) → ((h : Gtrid) → Q h → P h × (gtrid_eq g h ≡ false)) → EachOnce Q gs
    → EachOnce P gs × (has_gtrid gs g ≡ false)
apart_from P Q g [] f each = (tt, refl)
apart_from P Q g (h ∷ hs) f each =
    let here = f h each.0 in
    let rest = apart_from P Q g hs f each.2 in
    ((here.0, each.1, rest.0), or_from (gtrid_eq h g) (has_gtrid hs g) (gtrid_away g h here.1) rest.1)

or_none : (o p : Option Refusal) → option_or o p ≡ None → (o ≡ None) × (p ≡ None)
or_none None p e = (refl, e)
or_none (Some n) p e = absurd (cc)

pub all_open : (o : Outcome) (k : Book) (gs : List Gtrid) → refusal_in_turn (λ g. Steps.Decide g o) (λ g. Decided g o) k gs ≡ None → EachOnce (IsOpenIn k) gs
all_open o k [] e = tt
all_open o k (g ∷ gs) e =
    let parts = or_none (refusal_in k (Steps.Decide g o)) _ e in
    let rest = apart_from (IsOpenIn k) (IsOpenIn (after k (Decided g o))) g gs (λ h is. still_open k o g h is)
    (all_open o (after k (Decided g o)) gs parts.1) in
    (decide_open o k g parts.0, rest.1, rest.0)

-- ** rows that leave

abbrev pub dropped_book : Book → List Gtrid → Book
dropped_book k gs = record k { row = λ q. row_without gs q (k.row q); rows = k.rows - length gs }

pub all_dropped : (k : Book) (gs : List Gtrid) → after_all k (map (λ g. Done g) gs) ≡ dropped_book k gs
all_dropped k [] = book_is _ _ refl refl refl refl refl refl refl (λ q. refl) (λ b. refl) refl (λ r. refl) (λ q. refl)
    (let same : k.rows ≡ k.rows - 0 = omega arith in same) (λ b. refl) refl refl
all_dropped k (g ∷ gs) =
    all_dropped (after k (Done g)) gs
    ∙ book_is _ _ refl refl refl refl refl refl refl (λ q. refl) (λ b. refl) refl (λ r. refl) (λ q. without_first g gs q (k.row q))
    (let same : k.rows - 1 - length gs ≡ k.rows - length (g ∷ gs) = omega arith in same) (λ b. refl) refl refl

-- a row that leaves leaves the others
still_kept : (k : Book) (g h : Gtrid) → is_some ((after k (Done g)).row h) ≡ true → (is_some (k.row h) ≡ true) × (gtrid_eq g h ≡ false)
still_kept k g h is = by (gtrid_eq g h) is
  where
    by : (t : Bool) → is_some (if t then None else k.row h) ≡ true → (is_some (k.row h) ≡ true) × (t ≡ false)
    by true is = absurd (cc)
    by false is = (is, refl)

pub all_kept : (k : Book) (gs : List Gtrid) → refusal_in_turn (λ g. Steps.Done g) (λ g. Done g) k gs ≡ None
    → EachOnce (λ g. is_some (k.row g) ≡ true) gs
all_kept k [] e = tt
all_kept k (g ∷ gs) e =
    let parts = or_none (refusal_in k (Steps.Done g)) _ e in
    let rest = apart_from (λ h. is_some (k.row h) ≡ true) (λ h. is_some ((after k (Done g)).row h) ≡ true) g gs (λ h is. still_kept k g h is)
    (all_kept (after k (Done g)) gs parts.1) in
    (done_row k g parts.0, rest.1, rest.0)

pub kept_up : (k : Book) (g : Gtrid) (gs : List Gtrid) → refusal_in_turn (λ g. Steps.Done g) (λ g. Done g) k (g ∷ gs) ≡ None → k.up ≡ true
kept_up k g gs e = done_up k g (or_none (refusal_in k (Steps.Done g)) _ e).0

-- no more rows are written than are decided
written_few : (k : Book) (o : Outcome) (gs : List Gtrid) → length (written_by o k gs) ≤ length gs
written_few k o [] = omega arith
written_few k o (g ∷ gs) = by (is_commit (Some o) && (k.transaction g).has_yes) (written_few k o gs)
  where
    by : (y : Bool) → length (written_by o k gs) ≤ length gs → length (cond y (g ∷ written_by o k gs) (written_by o k gs)) ≤ length (g ∷ gs)
    by true few = omega (arith, few)
    by false few = omega (arith, few)

pub decisions_few : (k : Book) (o : Outcome) (gs : List Gtrid) (ds : List Decision) → map decided_row ds ≡ rows_for k (written_by o k gs)
    → length ds ≤ length gs
decisions_few k o gs ds all =
    let same : length ds ≡ length (written_by o k gs) =
    sym (length-map ds decided_row) ∙ ap length all ∙ length-map (written_by o k gs) (voted_row k) in
    let few = written_few k o gs in
    omega (arith, same, few)

pub decisions_name : (k : Book) (o : Outcome) (gs : List Gtrid) (ds : List Decision) → map decided_row ds ≡ rows_for k (written_by o k gs)
    → gtrids_of ds ≡ written_by o k gs
decisions_name k o gs ds all =
    sym (decided_names ds) ∙ ap (map (λ (x : Gtrid × Waiting). x.0)) all ∙ names_for k (written_by o k gs)

-- ** none is written

pub none_written : (k : Book) (o : Outcome) (gs : List Gtrid) (ds : List Decision) → map decided_row ds ≡ rows_for k (written_by o k gs) → ds ≡ []
    → written_by o k gs ≡ []
none_written k o gs ds all none = empty (written_by o k gs) (sym all ∙ ap (map decided_row) none)
  where
    empty : (ws : List Gtrid) → rows_for k ws ≡ [] → ws ≡ []
    empty [] e = refl
    empty (w ∷ ws) e = absurd (cc)

pub some_written : (k : Book) (o : Outcome) (gs : List Gtrid) (ds : List Decision) → map decided_row ds ≡ rows_for k (written_by o k gs) → (ds ≡ [] → ⊥)
    → written_by o k gs ≡ [] → ⊥
some_written k o gs [] all some none = some refl
some_written k o gs (d ∷ ds) all some none = let no : decided_row d ∷ map decided_row ds ≡ [] = all ∙ ap (rows_for k) none in absurd (cc)

-- if a row is written, the manager is up
pub written_up : (k : Book) (o : Outcome) (gs : List Gtrid) → EachOnce (IsOpenIn k) gs → (written_by o k gs ≡ [] → ⊥) → k.up ≡ true
written_up k o [] free some = absurd (some refl)
written_up k o (g ∷ gs) free some = free.0.up

-- the book if no row is written
pub decided_unwritten : (near : Bool) (k : Book) (o : Outcome) (gs : List Gtrid) (log : Option Content) → written_by o k gs ≡ []
    → IsTied near k log → IsTied near (after_all k (map (λ g. Decided g o) gs)) log
decided_unwritten near k o gs log none tied =
    subst (λ b. IsTied near b log) (sym (all_decided o k gs)) (tied_same near k (decided_book k o gs) log (record {
      up = refl;
      incarnation = refl;
      failed_restarts = refl;
      row = λ q. ap (λ ws. row_among (rows_for k ws) q (k.row q)) none;
      rows = ap (λ (ws : List Gtrid). k.rows + length ws) none ∙ (let same : k.rows + 0 ≡ k.rows = omega arith in same);
      recorded = λ b. refl;
      records = refl;
      doubt = refl;
    }) tied)

-- and where rows are
pub decided_written : (near : Bool) (k : Book) (o : Outcome) (gs : List Gtrid) (old new : Option Content) → k.up ≡ true
    → IsChangeOf k.row (Adds (rows_for k (written_by o k gs))) → Makes (changed_by (Adds (rows_for k (written_by o k gs)))) old new
    → IsTied near k old → IsTied near (after_all k (map (λ g. Decided g o) gs)) new
decided_written near k o gs old new up of makes tied =
    subst (λ b. IsTied near b new) (sym (all_decided o k gs))
    (tied_written near k (decided_book k o gs) (rows_for k (written_by o k gs)) old new up up refl of (λ q. refl)
    (ap (λ n. k.rows + n) (sym (length-map (written_by o k gs) (voted_row k)))) (λ b. refl) refl makes tied)

-- the rows leave
pub rows_dropped : (near : Bool) (k : Book) (gs : List Gtrid) (old new : Option Content) → k.up ≡ true → EachOnce (λ g. is_some (k.row g) ≡ true) gs
    → Makes (without_decisions gs) old new → IsTied near k old → IsTied near (after_all k (map (λ g. Done g) gs)) new
rows_dropped near k gs old new up kept makes tied =
    subst (λ b. IsTied near b new) (sym (all_dropped k gs))
    (tied_dropped near k (dropped_book k gs) gs old new up up refl kept (λ q. refl) refl (λ b. refl) refl makes tied)

-- what the log writes for decisions is the change of the book
pub commits_change : (k : Book) (o : Outcome) (gs : List Gtrid) (ds : List Decision) → map decided_row ds ≡ rows_for k (written_by o k gs)
    → with_commits ds ≡ changed_by (Adds (rows_for k (written_by o k gs)))
commits_change k o gs ds all = λ i. λ c. (commits_are ds c ∙ ap (λ rows. with_rows rows c) all) i
