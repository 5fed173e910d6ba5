use Rattle.std.proofs.Common.{ap, ◌∙◌}
use Rattle.sqlite_store.specs.Listed.{catalog_rows}
use Rattle.sqlite_store.specs.Listing.{listed_from}
use Rattle.sqlite_trees.proofs.Doubt.{no_doubt}
use Rattle.xa_sql_log.proofs.sql_log.pages.made.Goals as goal

pub returns-in-Ok-clause-fresh : goal.returns-in-Ok-clause-fresh
returns-in-Ok-clause-fresh g c clean =
    let made = c.in-Ok.ensures in
    record { sound = made.ready.sound (no_doubt _ clean); numbered = made.numbered; clean = made.ready.clean; unmarked = made.ready.unmarked }

pub returns-in-Ok-clause-empty : goal.returns-in-Ok-clause-empty
returns-in-Ok-clause-empty g c clean =
    let made = c.in-Ok.ensures in (
      λ tree low. ap (λ d. d tree) made.ready.clean ∙ made.empty clean tree low,
      rw clean (catalog_rows _ _ _ ∙ ap (listed_from 0) (made.schema ∙ c.requires.none)),
    )
