use Rattle.std.proofs.Common.{◌∙◌, ◌+◌, ◌-◌, ap, drop, length, refl, subst, sym, take}
use Rattle.xa_server.proofs.TurnLemmas.{all_are_done, next_is_done, refused_there}
use Rattle.xa_server.specs.Serving.{RepliesBy}
use Rattle.xa_server.specs.declared.lines.LineReply.{LineReply}
use Rattle.xa_server.proofs.server.Server.reply_in_turn.Goals as goal

pub returns-then-ends_line-clause-replies : goal.returns-then-ends_line-clause-replies
returns-then-ends_line-clause-replies g c =
    let asked = c.args.asked.now in
    refused_there g.L.DecisionLog.moment asked (take (length asked - 1) (drop 1 asked)) c.loop-request.request-index c.loop-request.told
    c.args.self.now c.loop-request.self c.loop-request.invariant.replied (sym c.ends_line.ensures ∙ c.if-ends_line.true)

pub loop-request-preserved : goal.loop-request-preserved
loop-request-preserved g c =
    let moment = g.L.DecisionLog.moment in
    let asked = c.args.asked.now in
    let told = c.loop-request.told in
    let next : LineReply = record { before = told.before + 1; reply = c.reply_by-in-loop-request.result } in
    record {
      ready = c.reply_by-in-loop-request.ensures.ready;
      count = ap (λ n. n + 1) c.loop-request.invariant.count;
      replied = next_is_done moment asked (take (length asked - 1) (drop 1 asked)) c.loop-request.request-index c.request-item.result told next
          c.args.self.now c.loop-request.self c.reply_by-in-loop-request.new.self c.loop-request-test.true c.loop-request.invariant.replied
          (sym c.ends_line.ensures ∙ c.if-ends_line.false)
          (subst (λ asks. RepliesBy moment asks c.loop-request.self c.reply_by-in-loop-request.result c.reply_by-in-loop-request.new.self)
          c.request-item.is c.reply_by-in-loop-request.ensures.replies) refl;
    }

pub returns-clause-replies : goal.returns-clause-replies
returns-clause-replies g c =
    let asked = c.args.asked.now in
    all_are_done g.L.DecisionLog.moment asked (take (length asked - 1) (drop 1 asked)) c.loop-request.request-index c.loop-request.told
    c.args.self.now c.loop-request.self c.loop-request-test.false c.loop-request.invariant.replied
