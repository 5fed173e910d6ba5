-- What a log in memory holds, and what its failures say.
use Rattle.std.specs.Prelude.{◌≡◌, ℕ, List, map, take, Option, Some, None}
use Rattle.std.specs.BTreeMap.{BTreeMap}
use Rattle.std.specs.BTreeSet.{BTreeSet}
use Rattle.std.specs.FinMap.{FinMap, from_entries}
use Rattle.xa_log.specs.KeySet.{KeySet, from_list}
use Rattle.xa_base.specs.declared.branch.Gtrid.{Gtrid}
use Rattle.xa_base.specs.declared.branch.Branch.{Branch}
use Rattle.xa_base.specs.declared.code.How.{How}
use Rattle.xa_base.specs.Branch.{gtrid_cmp, branch_cmp}
use Rattle.xa_log.specs.Content.{AreOwn, Content, logged_each, with_commits}
use Rattle.xa_log.specs.Contract.{AllFit, Moment, one_more_fault}
use Rattle.xa_log.specs.declared.decision.Decision.{Decision}
use Rattle.xa_log.specs.declared.decision_log.Logged.{Logged}
use Rattle.xa_log.specs.declared.decision_log.LogCall.{LogCall}
use Rattle.xa_log.specs.declared.decision_log.LogCall.TheVariants.{Commit, Contains, Participants, Done, NoteHeuristic, HeuristicOf, Bump, Rows}
use Rattle.xa_log.specs.declared.log_fault.LogFault.{LogFault}
use Rattle.xa_log.specs.declared.log_fault.LogFault.TheVariants.{Memory as Refused, Spent}
use Rattle.xa_log.specs.declared.mem_log.MemLog.{MemLog}

-- a decision's row, as the log's content has it
abbrev pub row_held : Gtrid × BTreeSet Branch → Gtrid × KeySet branch_cmp
row_held row = (row.0, from_list row.1.keys)

abbrev pub decisions_in : BTreeMap Gtrid (BTreeSet Branch) → FinMap gtrid_cmp (KeySet branch_cmp)
decisions_in rows = from_entries (map row_held rows.entries)

abbrev pub heuristics_in : BTreeMap Branch How → FinMap branch_cmp How
heuristics_in rows = from_entries rows.entries

-- what a log in memory holds
abbrev pub content_held : MemLog → Content
content_held log = record {
  decisions = decisions_in log.decisions;
  heuristics = heuristics_in log.heuristics;
  incarnation = log.incarnation;
}

-- the first n of these decisions have made their rows, and the answers say which were new
pub record MadeUpTo (ds : List Decision) (n : ℕ) (answers : List Logged) (before now : Content) : Type 0 where
  pub made : now ≡ with_commits (take n ds) before
  pub told : answers ≡ logged_each (take n ds) before

-- it is as calls leave it
pub record IsInOrder (c : Content) : Type 0 where
  pub own : AreOwn c
  pub fits : AllFit c

abbrev pub memory_moment : Content → ℕ → Moment
memory_moment c faults = record {
  content = Some c;
  is_in_order = IsInOrder c;
  is_honest = Unit {0};
  may_leave = λ d. d ≡ c;
  fault_count = faults;
}

-- why a call of a log in memory may fail: a bump for want of incarnations, one that takes memory for want of it, and no other
abbrev pub MayFailBy : LogCall → LogFault → Type 0
MayFailBy Bump e = e ≡ Spent
MayFailBy Contains e = ⊥
MayFailBy Done e = ⊥
MayFailBy HeuristicOf e = ⊥
MayFailBy Commit e = e ≡ Refused
MayFailBy Participants e = e ≡ Refused
MayFailBy NoteHeuristic e = e ≡ Refused
MayFailBy Rows e = e ≡ Refused

-- a call of a log in memory makes its change, or fails, counts that, and the log holds what it held
abbrev pub RunsInMemory : LogCall → (Content → Content) → MemLog → MemLog → Option LogFault → Type 0
RunsInMemory call change old new None = (content_held new ≡ change (content_held old)) × (new.faults ≡ old.faults)
RunsInMemory call change old new (Some e) = MayFailBy call e × (content_held new ≡ content_held old) × (new.faults ≡ one_more_fault old.faults)
