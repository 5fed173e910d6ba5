-- What the files of a log hold once it is closed.
use Rattle.std.specs.Prelude.{◌≡◌}
use Rattle.sqlite.specs.Closing.{HoldsAlone}
use Rattle.sqlite.specs.Recovery.{Image}
use Rattle.sqlite.specs.Tree.{Trees}
use Rattle.xa_log.specs.Content.{Content}
use Rattle.xa_sql_log.specs.Rows.{content_of}
use Rattle.xa_sql_log.specs.Sql.{AreLogTrees}

-- the two files hold a log of version 2 with this content, and so does the database file by itself
pub record HoldsWhole (c : Content) (image : Image) : Type 0 where
  pub db : Trees
  pub held : HoldsAlone image db
  pub log : AreLogTrees db
  pub content : content_of db ≡ c
