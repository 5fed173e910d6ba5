-- What a manager began with: the rows and records that its log gave at the start.
use Rattle.std.specs.Prelude.{ℕ, ◌≡◌, List, [], ◌∷◌, drop, length, map}
use Rattle.xa_model.specs.Trace.{Origin, Recorded, Row}
use Rattle.xa_base.specs.declared.branch.Branch.{Branch}
use Rattle.xa_base.specs.declared.branch.Gtrid.{Gtrid}
use Rattle.xa_base.specs.declared.code.How.{How}
use Rattle.xa_tm.specs.Calls.{book_in}
use Rattle.xa_tm.specs.Starting.{run_of}
use Rattle.xa_tm.specs.declared.manager.Manager.{Manager}

-- ** rows and records

-- the rows that a list of transactions and one of their participants say, where each transaction's
-- stand together and in that order
abbrev pub rows_listed : List Gtrid → List Branch → List Row
rows_listed [] bs = []
rows_listed (g ∷ gs) bs =
    record { gtrid = g; participants = run_of g bs } ∷ rows_listed gs (drop (length (run_of g bs)) bs)

abbrev pub records_listed : List (Branch × How) → List Recorded
records_listed ends = map (λ (e : Branch × How). record { branch = e.0; how = e.1 }) ends

-- those that a manager read at its start
abbrev pub rows_begun : {L : Type 0} → Manager L → List Row
rows_begun m = rows_listed m.began.value.decisions.items m.began.value.participants.items

abbrev pub records_begun : {L : Type 0} → Manager L → List Recorded
records_begun m = records_listed m.began.value.heuristics.items

-- ** the start of a history

-- a history's start has what the manager began with
pub record BeginsWith {L : Type 0} (threads rms : ℕ) (m : Manager L) (o : Origin) : Type 0 where
  pub threads_are : o.threads ≡ threads
  pub rms_are : o.rms ≡ rms
  pub incarnation : o.incarnation ≡ (book_in m).incarnation
  pub rows : o.rows ≡ rows_begun m
  pub records : o.heuristic_rows ≡ records_begun m
