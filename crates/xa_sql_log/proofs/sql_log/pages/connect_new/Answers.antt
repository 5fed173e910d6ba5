use Rattle.std.proofs.Common.{false, arith, sym, ap, subst, ◌∙◌}
use Rattle.sqlite.specs.Files.{IsEmpty}
use Rattle.sqlite_pool.specs.Stored.{is_summed}
use Rattle.sqlite_store.specs.FileStore.{view as shown}
use Rattle.sqlite_trees.proofs.Doubt.{clean_of as sure}
use Rattle.sqlite_wal.specs.Reads.{are_clean}
use Rattle.sqlite.proofs.FileLemmas.{summed_used}
use Rattle.sqlite.proofs.OpenLemmas.{pool_files}
use Rattle.xa_sql_log.proofs.sql_log.pages.connect_new.Goals as goal

pub over-requires : goal.over-requires
over-requires g c none = c.in_ok-store.ensures.fresh (sure _ none)

pub returns-in-Ok-clause-honest : goal.returns-in-Ok-clause-honest
returns-in-Ok-clause-honest g c now =
    let clean = sure (shown c.in_ok-store.store).is_clean (omega (arith, c.in-Ok.ensures.clean)) in
    let fresh = c.in_ok-fresh.fresh in
    sym ((pool_files fresh.pool).1 ∙ ap (λ f. are_clean g.D.Disk f.0 f.1) c.in_ok-fresh.ensures.files) ∙ c.in_ok-store.ensures.honest clean

pub returns-in-Ok-clause-opened : goal.returns-in-Ok-clause-opened
returns-in-Ok-clause-opened g c now = c.in-Ok.ensures.opens now

pub returns-in-Ok-clause-empty : goal.returns-in-Ok-clause-empty
returns-in-Ok-clause-empty g c now =
    let clean = sure (shown c.in_ok-store.store).is_clean (omega (arith, c.in-Ok.ensures.clean)) in
    let trees = sym (ap (λ d. d.trees) (c.in-Ok.ensures.opens now).0.clean) ∙ c.in-Ok.ensures.trees now in
    subst IsEmpty (sym trees) (c.in_ok-store.ensures.empty clean)

pub returns-in-Ok-clause-plain : goal.returns-in-Ok-clause-plain
returns-in-Ok-clause-plain g c now =
    let clean = sure (shown c.in_ok-store.store).is_clean (omega (arith, c.in-Ok.ensures.clean)) in
    c.in-Ok.ensures.sums now ∙ ap is_summed (c.in_ok-store.ensures.size clean ∙ c.in_ok-fresh.ensures.size) ∙ summed_used c.args.size false
