-- The numbers of several decisions, and of several that are done, fit.
use Rattle.std.proofs.Common.{◌≡◌, ◌-◌, ◌<◌, ◌≤◌, ◌^◌, List, [], ◌∷◌, map, true, ◌&&◌, Some, is_some, sym, subst, arith}
use Rattle.std.specs.Prelude.{nat_eq, nat_le}
use Rattle.std.specs.List.{AllByRecursion}
use Rattle.std.proofs.lemmas.Bool.{and_parts, eqb-true, leb-true}
use Rattle.xa_base.specs.declared.branch.Gtrid.{Gtrid}
use Rattle.xa_base.specs.declared.step.Outcome.{Outcome}
use Rattle.xa_log.specs.Content.{last_number}
use Rattle.xa_log.specs.Contract.{FitsRow}
use Rattle.xa_log.specs.declared.decision.Decision.{Decision}
use Rattle.xa_model.specs.Facts.Distinct.{EachOnce}
use Rattle.xa_tm.specs.Book.{Book, rows_for}
use Rattle.xa_tm.specs.Calls.{IsOpenIn, written_by}
use Rattle.xa_tm.specs.LedgerBook.{IsSound, as_book, decided_row, gtrids_of, numbered_by, transaction_at}
use Rattle.xa_tm.specs.Outcomes.{is_commit}
use Rattle.xa_tm.specs.declared.ledger.Ledger.{Ledger}
use Rattle.xa_tm.proofs.Several.Lists.{once_all, once_filter, once_so}
use Rattle.xa_tm.proofs.Several.Decisions.{decisions_name}

-- what is begun fits a row
begun_fits : (a : Ledger) (g : Gtrid) → IsSound (as_book a) → ((as_book a).transaction g).begun ≡ true → FitsRow g
begun_fits a g sound begun =
    let given = and_parts (numbered_by a.is_up a.incarnation a.sequence g) (transaction_at a.transactions g).is_begun begun in
    let parts = and_parts a.is_up _ given.0 in
    let inc = and_parts (nat_eq g.incarnation a.incarnation) _ parts.1 in
    let seq = and_parts (nat_le 1 g.sequence) (nat_le g.sequence a.sequence) inc.1 in
    let same = eqb-true g.incarnation a.incarnation inc.0 in
    let few = leb-true g.sequence a.sequence seq.1 in
    let fits = sound.fits in
    let begins = sound.begins in
    let most = sound.fits_begins in
    let first : g.incarnation ≤ last_number = omega (arith, same, fits) in
    let second : g.sequence ≤ last_number = omega (arith, few, begins, most) in
    (first, second)

pub open_fit : (a : Ledger) (gs : List Gtrid) → IsSound (as_book a) → EachOnce (IsOpenIn (as_book a)) gs → EachOnce FitsRow gs
open_fit a gs sound free = once_so (IsOpenIn (as_book a)) FitsRow gs (λ g is. begun_fits a g sound is.begun) free

pub sequences_fit : (gs : List Gtrid) → EachOnce FitsRow gs → AllByRecursion (λ (g : Gtrid). g.sequence < 2 ^ 64 - 1) gs
sequences_fit [] each = tt
sequences_fit (g ∷ gs) each =
    let few = each.0.1 in let here : g.sequence < 2 ^ 64 - 1 = omega (arith, few) in (here, sequences_fit gs each.2)

decided_fit : (ds : List Decision) → AllByRecursion FitsRow (gtrids_of ds) → AllByRecursion (λ (d : Decision). FitsRow d.gtrid) ds
decided_fit [] all = tt
decided_fit (d ∷ ds) all = (all.0, decided_fit ds all.1)

pub written_fit : (a : Ledger) (o : Outcome) (gs : List Gtrid) (ds : List Decision) → IsSound (as_book a) → EachOnce (IsOpenIn (as_book a)) gs
    → map decided_row ds ≡ rows_for (as_book a) (written_by o (as_book a) gs) → AllByRecursion (λ (d : Decision). FitsRow d.gtrid) ds
written_fit a o gs ds sound free all =
    decided_fit ds (subst (AllByRecursion FitsRow)
    (sym (decisions_name (as_book a) o gs ds all))
    (once_all FitsRow (written_by o (as_book a) gs)
    (once_filter FitsRow (λ g. is_commit (Some o) && ((as_book a).transaction g).has_yes) gs (open_fit a gs sound free))))

pub kept_fit : (k : Book) (gs : List Gtrid) → IsSound k → EachOnce (λ g. is_some (k.row g) ≡ true) gs → AllByRecursion FitsRow gs
kept_fit k gs sound kept = once_all FitsRow gs (once_so (λ g. is_some (k.row g) ≡ true) FitsRow gs (λ g some. sound.rows_fit g some) kept)
