-- What a story calls transactions and branches: by the names that the scenario file gives them.
use Rattle.std.specs.Prelude.{ℕ, ◌==◌, if◌then◌else◌, List, [], ◌∷◌, ◌++◌, length, map, filter, position, codes, slice_get, Some, None}
use Rattle.std.specs.Fmt.{decimal}
use Rattle.std.specs.String.{string_bytes}
use Rattle.xa_base.specs.Branch.{branch_of_xid, gtrid_eq}
use Rattle.xa_base.specs.Xid.{Xid, text_of}
use Rattle.xa_base.specs.declared.branch.Branch.{Branch}
use Rattle.xa_base.specs.declared.branch.Gtrid.{Gtrid}
use Rattle.xa_base.specs.declared.reply.Event.{Event}
use Rattle.xa_base.specs.declared.reply.Reply.{Reply}
use Rattle.xa_base.specs.declared.reply.Reply.TheVariants as Replies
use Rattle.xa_base.specs.declared.step.Step.{Step}
use Rattle.xa_base.specs.declared.step.Step.TheVariants as Steps
use Rattle.xa_story.specs.declared.names.Names.TheInside.{Inside}

-- the names in the order in which the file begins them, and the transactions of the begins so far
pub record Naming : Type 0 where
  pub names : List (List ℕ)
  pub gtrids : List Gtrid

abbrev pub naming_of : Inside → Naming
naming_of a = record { names = map string_bytes a.names.now; gtrids = a.gtrids.items }

-- before any begin
abbrev pub unbegun : List (List ℕ) → Naming
unbegun names = record { names = names; gtrids = [] }

-- the transaction of a begin: none has these numbers, if it is refused
abbrev pub begun_by : Reply Xid → Gtrid
begun_by (Replies.Begun g) = g
begun_by _ = record { incarnation = 0; sequence = 0 }

-- after a begin that was replied so
abbrev pub with_begin : Naming → Reply Xid → Naming
with_begin n reply = record n { gtrids = n.gtrids ++ begun_by reply ∷ [] }

-- after a step that was replied so
abbrev pub with_step : Naming → Step Xid → Reply Xid → Naming
with_step n (Steps.Begin thread) reply = with_begin n reply
with_step n step reply = n

-- after events
abbrev pub with_events : Naming → List Event → Naming
with_events n [] = n
with_events n (e ∷ es) = with_events (with_step n e.step e.reply) es

-- the name at a place, from 0
abbrev pub name_at_place : List (List ℕ) → ℕ → List ℕ
name_at_place names place = elim (slice_get names place) [ None ↦ codes "?" | Some name ↦ name ]

-- the name that the next begin is of
abbrev pub next_name : Naming → List ℕ
next_name n = name_at_place n.names (length n.gtrids)

-- the name of a transaction, if exactly one begin is of it
abbrev pub transaction_name : Naming → Gtrid → List ℕ
transaction_name n g = if length (filter (λ h. gtrid_eq h g) n.gtrids) == 1
    then elim (position (λ h. gtrid_eq h g) n.gtrids) [ None ↦ codes "?" | Some place ↦ name_at_place n.names place ]
    else codes "?"

-- a branch: by its transaction and, unless it is thread 0's, its thread
abbrev pub named_branch_text : Naming → Branch → List ℕ
named_branch_text n b = if b.thread == 0 then transaction_name n b.gtrid
    else transaction_name n b.gtrid ++ codes " of thread " ++ decimal b.thread

-- an identifier in the same way, if it is this manager's
abbrev pub xid_text : Naming → Xid → List ℕ
xid_text n x = elim (branch_of_xid x) [ None ↦ text_of x | Some b ↦ named_branch_text n b ]
