-- Several transactions that one call decides, or takes the rows of.
use Rattle.std.specs.Prelude.{List, Option}
use Rattle.xa_base.specs.declared.branch.Gtrid.{Gtrid}
use Rattle.xa_base.specs.declared.refusal.Refusal.{Refusal}
use Rattle.xa_base.specs.declared.step.Outcome.{Outcome}
use Rattle.xa_base.specs.declared.step.Step.TheVariants as Steps
use Rattle.xa_model.specs.Trace.{Happening.Decided, Happening.Done}
use Rattle.xa_tm.specs.Book.{Book, Doubt, Doubt.Adds, rows_for}
use Rattle.xa_tm.specs.Calls.{written_by}
use Rattle.xa_tm.specs.Refusing.{refusal_in_turn}

-- what the manager refuses to decide these with, each in its turn
abbrev pub decide_refusal : Outcome → Book → List Gtrid → Option Refusal
decide_refusal outcome k gs = refusal_in_turn (λ g. Steps.Decide g outcome) (λ g. Decided g outcome) k gs

-- what it refuses to take their rows away with
abbrev pub done_refusal : Book → List Gtrid → Option Refusal
done_refusal k gs = refusal_in_turn (λ g. Steps.Done g) (λ g. Done g) k gs

-- the rows that their decision adds to the log
abbrev pub rows_added : Outcome → Book → List Gtrid → Doubt
rows_added outcome k gs = Adds (rows_for k (written_by outcome k gs))
