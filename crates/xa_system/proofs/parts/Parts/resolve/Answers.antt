use Rattle.std.proofs.Common.{sym, ap, ◌∙◌}
use Rattle.std.specs.Result.{result_err}
use Rattle.xa_tm.specs.Calls.{book_in}
use Rattle.xa_line.specs.Traffic.{Traffic, with_more}
use Rattle.xa_system.specs.Parts.{sees}
use Rattle.xa_system.proofs.Steps.Resolve.{resolve_did, resolve_hindered, resolve_lacks}
use Rattle.xa_system.proofs.Steps.RecoveryGoes.{recovery_open, recovery_room, recovery_unclosed}
use Rattle.xa_tm.proofs.History.Recovery.{recoveries_close_none}
use Rattle.xa_tm.specs.Refusing.{resolved_in}
use Rattle.xa_system.proofs.parts.Parts.resolve.Goals as goal

pub returns-in-Err : goal.returns-in-Err
returns-in-Err g c =
    let see = sees g.R.ResourceManager.look g.L.DecisionLog.moment in
    let p = c.args.self.now in
    let r = c.args.rm in
    resolve_hindered see p r c.resolve_len-count.result c.in-Err.refusal c.refused.result c.refused.ensures c.resolve_len-count.ensures
    (λ tr stands. sym (ap result_err c.in-Err.is) ∙ c.check_recovery.ensures tr stands)

pub issue_all-requires-clause-room : goal.issue_all-requires-clause-room
issue_all-requires-clause-room g c =
    let see = sees g.R.ResourceManager.look g.L.DecisionLog.moment in
    let p = c.args.self.now in
    let r = c.args.rm in
    recovery_room see p r c.resolve_len-count.result (resolved_in (book_in p.manager) r) c.in-Ok.calls.items
    (λ tr stands. sym (ap result_err c.in_default.is) ∙ c.check_recovery.ensures tr stands) c.in-Ok.ensures.ok c.line_mut.result.now _ c.in-Ok.calls.ok.0
    c.resolve_len-count.ensures c.line_mut.ensures.value c.requires

pub issue_all-requires-clause-open : goal.issue_all-requires-clause-open
issue_all-requires-clause-open g c =
    let see = sees g.R.ResourceManager.look g.L.DecisionLog.moment in
    let p = c.args.self.now in
    let r = c.args.rm in
    recovery_open see p r c.resolve_len-count.result (resolved_in (book_in p.manager) r) c.in-Ok.calls.items
    (λ tr stands. sym (ap result_err c.in_default.is) ∙ c.check_recovery.ensures tr stands) c.in-Ok.ensures.ok c.line_mut.result.now c.line_mut.ensures.value
    c.requires

pub issue_all-requires-clause-unclosed : goal.issue_all-requires-clause-unclosed
issue_all-requires-clause-unclosed g c =
    let see = sees g.R.ResourceManager.look g.L.DecisionLog.moment in
    let p = c.args.self.now in
    let r = c.args.rm in
    recovery_unclosed see p r c.resolve_len-count.result (resolved_in (book_in p.manager) r) c.in-Ok.calls.items
    (λ tr stands. sym (ap result_err c.in_default.is) ∙ c.check_recovery.ensures tr stands) c.in-Ok.ensures.ok c.line_mut.result.now c.line_mut.ensures.value
    (recoveries_close_none (book_in p.manager) r).0 c.requires

pub returns-in-Ok : goal.returns-in-Ok
returns-in-Ok g c =
    let see = sees g.R.ResourceManager.look g.L.DecisionLog.moment in
    let p = c.args.self.now in
    let r = c.args.rm in
    let put = c.issue_all.ensures ∙ ap (λ (t : Traffic). record t { calls = with_more t.calls c.in-Ok.calls.items }) c.line_mut.ensures.value in
    resolve_did see p r c.resolve_len-count.result c.in-Ok.calls.items c.issue_all.new.self c.new.result c.new.ensures c.resolve_len-count.ensures
    (λ tr stands. sym (ap result_err c.in_default.is) ∙ c.check_recovery.ensures tr stands) c.in-Ok.ensures.ok put

pub returns-in-Err-resolve : goal.returns-in-Err-resolve
returns-in-Err-resolve g c =
    let see = sees g.R.ResourceManager.look g.L.DecisionLog.moment in
    let p = c.args.self.now in
    let r = c.args.rm in
    resolve_lacks see p r c.resolve_len-count.result c.in-Err-resolve.refusal c.refused-in-Err-resolve.result c.refused-in-Err-resolve.ensures
    c.in-Err-resolve.ensures.err
    c.resolve_len-count.ensures (λ tr stands. sym (ap result_err c.in_default.is) ∙ c.check_recovery.ensures tr stands)
