-- What the files of a log hold, whoever closed them or was killed over them.
use Rattle.std.specs.Prelude.{◌≡◌, ◌⊎◌, List, [], ◌∷◌, ℕ, length}
use Rattle.sqlite.specs.Files.{HoldsDatabase}
use Rattle.sqlite.specs.Recovery.{Image}
use Rattle.sqlite.specs.Tree.{Trees}
use Rattle.xa_log.specs.Content.{Content, nothing}
use Rattle.xa_sql_log.specs.Labels.{MakesParticipants, labelled}
use Rattle.xa_sql_log.specs.OpenedDatabase.{AreOldLogTrees}
use Rattle.xa_sql_log.specs.Rows.{content_of, old_content_of}
use Rattle.xa_sql_log.specs.Sql.{AreLogTrees}

-- the trees are those of a log of version 1 or 2 with this content
abbrev pub AreTreesOf : Content → Trees → Type 0
AreTreesOf c db = (AreOldLogTrees db × (old_content_of db ≡ c)) ⊎ (AreLogTrees db × (content_of db ≡ c))

-- the database file is empty, and the content is nothing; or the files hold a log with this content
abbrev pub HoldsContent : Content → Image → Type 0
HoldsContent c image = ((length image.db ≡ 0) × (c ≡ nothing)) ⊎ ((db : Trees) × ∥ HoldsDatabase image db ∥₁ × AreTreesOf c db)

-- The text with this label makes the table of the participants. It is asked for only where a log is made with a label: a log without
-- one is made by a text that is known to.
abbrev pub MakesLabelled : List ℕ → Image → Type 0
MakesLabelled [] image = Unit {0}
MakesLabelled (c ∷ label) image = length image.db ≡ 0 → MakesParticipants (labelled (c ∷ label))
