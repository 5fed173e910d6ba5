use Rattle.std.proofs.Common.{◌≡◌, ◌∙◌, true, cond, ap}
use Rattle.std.specs.FinMap.{contains_key}
use Rattle.xa_base.specs.Branch.{branch_cmp}
use Rattle.xa_log.specs.KeySet.{KeySet, from_list}
use Rattle.sqlite.specs.Held.{state}
use Rattle.xa_log.specs.Content.{Content, with_commit}
use Rattle.xa_sql_log.specs.Sql.{content_in}
use Rattle.xa_log.specs.declared.decision_log.Logged.TheVariants.{New, Already}
use Rattle.xa_log.proofs.Parts.{if_ok, on_found, some_and}
use Rattle.xa_sql_log.proofs.Inside.{found_one, then_looked, there_before}
use Rattle.xa_sql_log.proofs.decisions.commit.Goals as goal

pub returns-in-Ok-clause-answer : goal.returns-in-Ok-clause-answer
returns-in-Ok-clause-answer g c order clean =
    some_and (content_in (state g.S.Store c.args.conn.now)) _ _ (λ y none. ap (λ b. cond b Already New) none) (c.in-Ok.ensures.absent order clean)

pub returns-in-Err-Store-clause-changes : goal.returns-in-Err-Store-clause-changes
returns-in-Err-Store-clause-changes g c =
    then_looked (with_commit c.args.g (from_list c.args.participants.now)) (state g.S.Store c.args.conn.now) (state g.S.Store c.insert_all.new.conn)
    (state g.S.Store c.find_cause.new.conn) c.in-Err-Store.ensures.changes c.find_cause.ensures.reads

pub returns-in-Err-Store-clause-ok : goal.returns-in-Err-Store-clause-ok
returns-in-Err-Store-clause-ok g c order clean =
    let set : KeySet branch_cmp = from_list c.args.participants.now in
    let a = content_in (state g.S.Store c.args.conn.now) in
    let b = content_in (state g.S.Store c.insert_all.new.conn) in
    let d = content_in (state g.S.Store c.find_cause.new.conn) in
    let early = c.find_cause.ensures.reads.honest clean in
    on_found c.find_cause.result _ _ _
    (λ h. found_one c.args.g set a d
    (there_before (λ (y : Content). true ≡ contains_key y.decisions c.args.g) a b d (c.in-Err-Store.ensures.kept order early) h))
    (c.find_cause.ensures.ok (c.in-Err-Store.ensures.changes.order order) clean)

pub returns-in-Err-Store-clause-answer : goal.returns-in-Err-Store-clause-answer
returns-in-Err-Store-clause-answer g c order clean =
    let a = content_in (state g.S.Store c.args.conn.now) in
    let b = content_in (state g.S.Store c.insert_all.new.conn) in
    let d = content_in (state g.S.Store c.find_cause.new.conn) in
    let early = c.find_cause.ensures.reads.honest clean in
    if_ok c.find_cause.result _ _
    (λ logged h. some_and a _ _ (λ y it. h.0 ∙ ap (λ t. cond t Already New) it.1)
    (there_before (λ (y : Content). true ≡ contains_key y.decisions c.args.g) a b d (c.in-Err-Store.ensures.kept order early) h.1))
    (c.find_cause.ensures.ok (c.in-Err-Store.ensures.changes.order order) clean)
