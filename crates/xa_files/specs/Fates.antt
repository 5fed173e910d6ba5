-- The lines that tell what became of the branches.
use Rattle.std.specs.Prelude.{ℕ, List, ◌++◌, codes}
use Rattle.std.specs.List.{flat_map}
use Rattle.xa_base.specs.Xid.{Xid, text_of}
use Rattle.xa_base.specs.declared.code.How.TheVariants.{Com, Rb, Mix, Haz}
use Rattle.xa_base.specs.declared.state.Fate.{Fate}
use Rattle.xa_base.specs.declared.state.Fate.TheVariants.{Unstarted, Active, Idle, Prepared, RollbackOnly, Committed, RolledBack, Lost, ReadOnly, Heuristic}

-- a fate in words
abbrev pub fate_text : Fate → List ℕ
fate_text Unstarted = codes "unstarted"
fate_text Active = codes "active"
fate_text Idle = codes "idle"
fate_text Prepared = codes "prepared"
fate_text RollbackOnly = codes "rollback-only"
fate_text Committed = codes "committed"
fate_text RolledBack = codes "rolled-back"
fate_text Lost = codes "lost"
fate_text ReadOnly = codes "read-only"
fate_text (Heuristic Com) = codes "heuristic-com"
fate_text (Heuristic Rb) = codes "heuristic-rb"
fate_text (Heuristic Mix) = codes "heuristic-mix"
fate_text (Heuristic Haz) = codes "heuristic-haz"

-- an identifier and its fate
abbrev pub fate_line : Xid × Fate → List ℕ
fate_line line = text_of line.0 ++ codes " " ++ fate_text line.1 ++ codes "\n"

abbrev pub fate_lines : List (Xid × Fate) → List ℕ
fate_lines = flat_map fate_line
