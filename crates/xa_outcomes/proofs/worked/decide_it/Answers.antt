use Rattle.std.proofs.Common.{◌≡◌, true, codes, rules, subst}
use Rattle.xa_base.specs.declared.refusal.Refusal.TheVariants.{LogFault}
use Rattle.xa_outcomes.specs.WorkedSessions.{IsReplied, first_gtrid}
use Rattle.xa_requests.specs.declared.response.Response.TheVariants as responses
use Rattle.xa_outcomes.proofs.worked.decide_it.Goals as goal

pub returns-in-Refused-LogFault-clause-left : goal.returns-in-Refused-LogFault-clause-left
returns-in-Refused-LogFault-clause-left g c =
    let moment = g.L.DecisionLog.moment in
    let first : c.is_first.result ≡ true = search rules in
    let begun : c.in_ok-begun.begun ≡ responses.Begun first_gtrid = c.is_first.ensures first in
    let refused : c.in_ok-tell.field-0 ≡ responses.Refused LogFault = cc in
    record {
      begun = c.tell.new.server;
      begins = subst (λ reply. IsReplied moment (codes "begin 0") c.args.server.now reply c.tell.new.server) begun c.in_ok-begun.ensures.told;
      mid = c.prepare_one.new.server;
      one = c.in_ok-prepare_one.ensures.made;
      now = c.prepare_two.new.server;
      two = c.in_ok-prepare_two.ensures.made;
      deciding =
          subst (λ reply. IsReplied moment (codes "decide 00000000000000010000000000000001 commit") c.prepare_two.new.server reply c.tell-2.new.server)
          refused c.in_ok-tell.ensures.told;
    }
