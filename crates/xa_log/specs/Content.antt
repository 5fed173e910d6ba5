-- What a decision log holds, and what each call changes. Only decisions to commit are kept: no row means rollback (presumed rollback:
-- XA, section 2.3, Transaction Completion and Recovery).
use Rattle.std.specs.Prelude.{◌≡◌, ℕ, ◌+◌, ◌-◌, ◌^◌, if◌then◌else◌, List, ◌++◌, [], ◌∷◌, Bool, true, false, Some, unwrap_or}
use Rattle.std.specs.FinMap.{FinMap, get, contains_key, insert, remove, empty}
use Rattle.xa_log.specs.KeySet.{KeySet, contains, from_list, items}
use Rattle.xa_log.specs.KeySet.{empty as nobody}
use Rattle.xa_base.specs.declared.branch.Gtrid.{Gtrid}
use Rattle.xa_base.specs.declared.branch.Branch.{Branch}
use Rattle.xa_base.specs.declared.code.How.{How}
use Rattle.xa_base.specs.Branch.{gtrid_cmp, branch_cmp}
use Rattle.xa_log.specs.declared.decision.Decision.{Decision}
use Rattle.xa_log.specs.declared.decision_log.Logged.{Logged}
use Rattle.xa_log.specs.declared.decision_log.Logged.TheVariants.{New, Already}

-- each transaction that is decided to commit has the branches whose xa_commit it waits for; each branch that is recorded as
-- heuristic has its end; and the incarnation is how often the manager has started
pub record Content : Type 0 where
  pub decisions : FinMap gtrid_cmp (KeySet branch_cmp)
  pub heuristics : FinMap branch_cmp How
  pub incarnation : ℕ

-- the greatest number that a row can have
abbrev pub last_number : ℕ
last_number = 2 ^ 63 - 1

-- ** what it says

-- an empty log, of no incarnation yet
abbrev pub nothing : Content
nothing = record { decisions = empty; heuristics = empty; incarnation = 0 }

-- the participants of a transaction, none where it has no row
abbrev pub participants_of : Content → Gtrid → KeySet branch_cmp
participants_of c g = unwrap_or (get c.decisions g) nobody

-- the participants of these rows, one row's after another's
abbrev pub all_listed : List (Gtrid × KeySet branch_cmp) → List Branch
all_listed [] = []
all_listed (row ∷ rows) = items row.1 ++ all_listed rows

-- whether a row is new
abbrev pub logged_as : Content → Gtrid → Logged
logged_as c g = if contains_key c.decisions g then Already else New

abbrev pub is_new : Logged → Bool
is_new New = true
is_new Already = false

-- the participants of a transaction are branches of it
abbrev pub AreOwn : Content → Type 0
AreOwn c = (g : Gtrid) (set : KeySet branch_cmp) (b : Branch) → get c.decisions g ≡ Some set → contains set b ≡ true → b.gtrid ≡ g

-- ** what a call changes

abbrev pub with_decision : Gtrid → KeySet branch_cmp → Content → Content
with_decision g participants c = record c { decisions = insert c.decisions g participants }

-- the first row of a transaction stays, with its own participants
abbrev pub with_commit : Gtrid → KeySet branch_cmp → Content → Content
with_commit g participants c = if contains_key c.decisions g then c else with_decision g participants c

-- the rows of a list, each in its turn: of a transaction that is named twice, the first
abbrev pub with_commits : List Decision → Content → Content
with_commits [] c = c
with_commits (d ∷ ds) c = with_commits ds (with_commit d.gtrid (from_list d.participants.items) c)

-- whether each row of a list is new at its turn
abbrev pub logged_each : List Decision → Content → List Logged
logged_each [] c = []
logged_each (d ∷ ds) c = logged_as c d.gtrid ∷ logged_each ds (with_commit d.gtrid (from_list d.participants.items) c)

abbrev pub without_decision : Gtrid → Content → Content
without_decision g c = record c { decisions = remove c.decisions g }

-- no row of these transactions is left
abbrev pub without_decisions : List Gtrid → Content → Content
without_decisions [] c = c
without_decisions (g ∷ gs) c = without_decisions gs (without_decision g c)

abbrev pub with_heuristic : Branch → How → Content → Content
with_heuristic b how c = record c { heuristics = insert c.heuristics b how }

-- the first record of a branch stays
abbrev pub with_heuristic_record : Branch → How → Content → Content
with_heuristic_record b how c = if contains_key c.heuristics b then c else with_heuristic b how c

abbrev pub with_incarnation : ℕ → Content → Content
with_incarnation n c = record c { incarnation = n }

abbrev pub with_bump : Content → Content
with_bump c = record c { incarnation = c.incarnation + 1 }

abbrev pub unchanged : Content → Content
unchanged c = c
