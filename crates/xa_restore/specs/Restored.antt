-- The log that lines say.
use Rattle.std.specs.Prelude.{◌≡◌, ℕ, ◌+◌, List, Option, Some, None}
use Rattle.std.specs.FinMap.{get}
use Rattle.std.specs.List.{find}
use Rattle.std.specs.Option.{option_map}
use Rattle.xa_base.specs.Branch.{branch_cmp, gtrid_eq}
use Rattle.xa_base.specs.declared.branch.Branch.{Branch}
use Rattle.xa_base.specs.declared.branch.Gtrid.{Gtrid}
use Rattle.xa_log.specs.Content.{Content, nothing, with_commits, with_incarnation}
use Rattle.xa_log.specs.Contract.{Honestly, Moment}
use Rattle.xa_log.specs.KeySet.{KeySet, from_list}
use Rattle.xa_log.specs.declared.decision.Decision.{Decision}

-- so many starts more, and a row for each of these decisions
abbrev pub restored : ℕ → List Decision → Content → Content
restored n decisions c = with_commits decisions (with_incarnation (c.incarnation + n) c)

-- a log that held something has been started so many times more, and else is as it was
pub record HasRaised (old new : Moment) (count : ℕ) : Type 0 where
  pub content : (c : Content) → old.content ≡ Some c → Honestly old new (new.content ≡ Some (with_incarnation (c.incarnation + count) c))
  pub order : old.is_in_order → new.is_in_order
  pub honest : new.is_honest → old.is_honest

-- the participants of a transaction, as the first of these decisions of it says
abbrev pub said_of : List Decision → Gtrid → Option (KeySet branch_cmp)
said_of ds g = option_map (λ (d : Decision). from_list d.participants.items) (find (λ (d : Decision). gtrid_eq g d.gtrid) ds)

-- The content is that of lines: so many starts, the row of each of these decisions, no other row, and no record.
pub record IsContentOf (starts : ℕ) (decisions : List Decision) (c : Content) : Type 0 where
  pub rows : (g : Gtrid) → get c.decisions g ≡ said_of decisions g
  pub no_records : (b : Branch) → get c.heuristics b ≡ None
  pub incarnation : c.incarnation ≡ starts

-- So it is of what is written into an empty log.
abbrev pub RestoredHoldWhatIsSaid : Type 0
RestoredHoldWhatIsSaid = (starts : ℕ) (decisions : List Decision) → IsContentOf starts decisions (restored starts decisions nothing)
