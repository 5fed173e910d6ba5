-- What a right history makes sure of.
use Rattle.std.proofs.Common.{◌≡◌, Bool, true, false, not, ◌&&◌, ◌||◌, Option, Some, None, is_some, refl, sym, ap, ◌∙◌}
use Rattle.std.proofs.lemmas.Bool.{true≢false}
use Rattle.xa_base.specs.declared.branch.Gtrid.{Gtrid}
use Rattle.xa_base.specs.declared.step.Outcome.TheVariants as Outcome
use Rattle.xa_model.specs.Facts.{begun, decided_so, handed_over, has_row, log}
use Rattle.xa_model.specs.Protocol.{IsRun}
use Rattle.xa_model.specs.Trace.{Trace}
use Rattle.xa_model.proofs.Invariant.Preservation.{run_always}
use Rattle.xa_tm.specs.Book.{Waiting, book_of, row_in}
use Rattle.xa_tm.proofs.History.Refusals.{has_row_is}

alive : (b c r h : Bool) → b ≡ true → c ≡ false → r ≡ false → h ≡ false → (b && not (c || (r || h))) ≡ true
alive true false false false e f g i = refl
alive false c r h e f g i = absurd (cc)
alive true true r h e f g i = absurd (cc)
alive true false true h e f g i = absurd (cc)
alive true false false true e f g i = absurd (cc)

-- a transaction that is begun and not committed has no row
pub no_row : (tr : Trace) (g : Gtrid) → IsRun tr → begun tr g ≡ true → decided_so Outcome.Commit tr g ≡ false → (book_of tr).row g ≡ None
no_row tr g r is_begun undecided = by (row_in (log tr) g) refl
  where
    never : has_row tr g ≡ true → ⊥
    never has =
        let inv = run_always tr r in
        let fact = inv.rows g (inv.row_rowed g has) in
        true≢false (sym (alive (begun tr g) (decided_so Outcome.Commit tr g) (decided_so Outcome.Rollback tr g)
        (handed_over tr g) is_begun undecided fact.not_rolled_back fact.not_handed) ∙ fact.closed.not_live)

    by : (o : Option Waiting) → row_in (log tr) g ≡ o → o ≡ None
    by None e = refl
    by (Some set) e = absurd (never (sym (has_row_is tr g) ∙ ap is_some e))
