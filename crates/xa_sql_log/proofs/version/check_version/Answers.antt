use Rattle.std.proofs.Common.{rules, inl, inr, [], ap, subst, ◌∙◌, pos}
use Rattle.std.proofs.lemmas.Result.{IfErr-weaker}
use Rattle.std.specs.List.{Contains}
use Rattle.sqlite.specs.declared.types.Value.TheVariants.{Int}
use Rattle.sqlite.specs.Held.{state}
use Rattle.xa_log.specs.Contract.{IsStoreFault}
use Rattle.xa_base.proofs.Options.{on_ok as if_on_ok}
use Rattle.xa_log.proofs.Parts.{on_err, on_ok}
use Rattle.xa_sql_log.proofs.States.{rests_query}
use Rattle.xa_sql_log.proofs.Versions.{read_meta, looks, looks_at, number_of_one, names, look_survives}
use Rattle.xa_sql_log.proofs.version.check_version.Goals as goal

pub returns-in_err-rows-clause-rests : goal.returns-in_err-rows-clause-rests
returns-in_err-rows-clause-rests g c has clean =
    on_err _ _ (rests_query read_meta [] (state g.S.Store c.args.conn.now) (state g.S.Store c.query_all.new.self) c.in_err-rows.ensures.err.1.0
    (rw c.in_err-rows.ensures.err.1.1 at (c.query_all.ensures.err clean)))

pub returns-in_err-rows-clause-survives : goal.returns-in_err-rows-clause-survives
returns-in_err-rows-clause-survives g c has =
    look_survives (state g.S.Store c.args.conn.now) (state g.S.Store c.query_all.new.self) has c.query_all.ensures.survives

pub returns-in_err-found-clause-rests : goal.returns-in_err-found-clause-rests
returns-in_err-found-clause-rests g c has clean =
    on_err _ _ (inl (looks (state g.S.Store c.args.conn.now) (state g.S.Store c.query_all.new.self) c.in_ok-rows.rows.items has
    (rw c.in_ok-rows.ensures.ok at (c.query_all.ensures.ok clean))))

pub returns-in_err-found-clause-survives : goal.returns-in_err-found-clause-survives
returns-in_err-found-clause-survives g c has =
    look_survives (state g.S.Store c.args.conn.now) (state g.S.Store c.query_all.new.self) has c.query_all.ensures.survives

pub returns-in_err-found-clause-known : goal.returns-in_err-found-clause-known
returns-in_err-found-clause-known g c i row clean =
    let is =
    looks_at c.args.version i (state g.S.Store c.args.conn.now) (state g.S.Store c.query_all.new.self) c.in_ok-rows.rows.items row
    (rw c.in_ok-rows.ensures.ok at (c.query_all.ensures.ok clean)) in
    let fault : IsStoreFault c.in_err-found.field-0.0 = inr (c.in_err-found.ensures.err c.args.version i (c.as_slice.ensures.value ∙ is)) in
    search rules

pub returns-clause-same : goal.returns-clause-same
returns-clause-same g c has clean =
    on_ok c.match_version.result _ (looks (state g.S.Store c.args.conn.now) (state g.S.Store c.query_all.new.self) c.in_ok-rows.rows.items has
    (rw c.in_ok-rows.ensures.ok at (c.query_all.ensures.ok clean)))

pub returns-clause-version : goal.returns-clause-version
returns-clause-version g c has clean =
    let found = c.in_ok-found.ensures.ok in
    if_on_ok c.match_version.result _ _
    (λ same. names c.args.version (state g.S.Store c.args.conn.now) (state g.S.Store c.query_all.new.self) c.in_ok-rows.rows.items found.0 has
    (rw c.in_ok-rows.ensures.ok at (c.query_all.ensures.ok clean))
    (subst (λ rows. Contains rows found.0) c.as_slice.ensures.value found.1)
    (found.2 ∙ ap (λ n. Int (pos n)) same)
    found.3)
    c.match_version.ensures.ok

pub returns-clause-known : goal.returns-clause-known
returns-clause-known g c i row clean =
    let is =
    looks_at c.args.version i (state g.S.Store c.args.conn.now) (state g.S.Store c.query_all.new.self) c.in_ok-rows.rows.items row
    (rw c.in_ok-rows.ensures.ok at (c.query_all.ensures.ok clean)) in
    let found = c.in_ok-found.ensures.ok in
    IfErr-weaker c.match_version.result _ _
    (λ fault other. absurd (other.1 (number_of_one c.args.version i c.in_ok-found.found _ found.0 (c.as_slice.ensures.value ∙ is) found.1 found.2)))
    c.match_version.ensures.err

pub returns-clause-rests : goal.returns-clause-rests
returns-clause-rests g c has clean =
    on_err c.match_version.result _ (inl (looks (state g.S.Store c.args.conn.now) (state g.S.Store c.query_all.new.self) c.in_ok-rows.rows.items has
    (rw c.in_ok-rows.ensures.ok at (c.query_all.ensures.ok clean))))

pub returns-clause-survives : goal.returns-clause-survives
returns-clause-survives g c has = look_survives (state g.S.Store c.args.conn.now) (state g.S.Store c.query_all.new.self) has c.query_all.ensures.survives
