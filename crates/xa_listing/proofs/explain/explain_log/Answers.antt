use Rattle.std.proofs.Common.{◌≡◌, Ok, ◌∙◌, rules}
use Rattle.xa_listing.proofs.ListLemmas.{asks_of_rows, begins, prints, told}
use Rattle.xa_listing.specs.Asks.{log_asks, rows_asks}
use Rattle.xa_listing.proofs.explain.explain_log.Goals as goal

pub returns-clause-prints : goal.returns-clause-prints
returns-clause-prints g c = λ order honest.
    let log = (g.L.DecisionLog.moment c.args.log.now).content in
    let was : c.rows.result ≡ Ok c.in_ok-rows.rows = search rules in
    prints (log_asks c.args.manager.now) log (g.W.Write.contents c.args.out.now) (g.W.Write.contents c.write_text.new.out) c.as_bytes.result.now c.write_text.result
    (told (log_asks c.args.manager.now) (rows_asks c.args.manager.now) (asks_of_rows c.args.manager.now) log c.rows.result c.in_ok-rows.rows c.as_bytes.result.now was (λ content is. g.met.L.DecisionLog.own c.args.log.now content order is)
    (c.rows.ensures.decisions order honest) (c.rows.ensures.participants order honest) (c.rows.ensures.heuristics order honest)
    (c.as_bytes.ensures.value ∙ c.in_ok-text.ensures.text))
    c.write_text.ensures.whole

pub returns-clause-begun : goal.returns-clause-begun
returns-clause-begun g c = λ order honest.
    let log = (g.L.DecisionLog.moment c.args.log.now).content in
    let was : c.rows.result ≡ Ok c.in_ok-rows.rows = search rules in
    begins (log_asks c.args.manager.now) log (g.W.Write.contents c.args.out.now) (g.W.Write.contents c.write_text.new.out) c.as_bytes.result.now c.write_text.result
    (told (log_asks c.args.manager.now) (rows_asks c.args.manager.now) (asks_of_rows c.args.manager.now) log c.rows.result c.in_ok-rows.rows c.as_bytes.result.now was (λ content is. g.met.L.DecisionLog.own c.args.log.now content order is)
    (c.rows.ensures.decisions order honest) (c.rows.ensures.participants order honest) (c.rows.ensures.heuristics order honest)
    (c.as_bytes.ensures.value ∙ c.in_ok-text.ensures.text))
    c.write_text.ensures.begun
