-- What a reply to a move tells of the outcome of its transaction, by its first word.
use Rattle.std.specs.Prelude.{◌⊎◌, ℕ, List, codes}
use Rattle.xa_conduct.specs.Told.{HasFirst}

-- that it is committed: as its outcome, or by the xa_commit that is to be made in the second phase
abbrev pub TellsCommitted : List ℕ → Type 0
TellsCommitted text = HasFirst (codes "committed") text ⊎ HasFirst (codes "commit") text

-- that it is rolled back: as its outcome, or by the xa_rollback that is to be made
abbrev pub TellsRolledBack : List ℕ → Type 0
TellsRolledBack text = HasFirst (codes "rolled-back") text ⊎ (HasFirst (codes "rollback") text ⊎ HasFirst (codes "undo") text)

-- that nobody knows its outcome
abbrev pub TellsUnknown : List ℕ → Type 0
TellsUnknown text = HasFirst (codes "unknown") text

-- one of these
abbrev pub TellsOutcome : List ℕ → Type 0
TellsOutcome text = TellsCommitted text ⊎ (TellsRolledBack text ⊎ TellsUnknown text)
