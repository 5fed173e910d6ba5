use Rattle.std.proofs.Common.{◌≡◌, ◌-◌, arith, subst}
use Rattle.xa_server.proofs.StandingLemmas.{all_are_lost, next_is_lost, next_stays}
use Rattle.xa_server.specs.Crashes.{LosesFrom}
use Rattle.xa_requests.specs.declared.response.Response.TheVariants as responses
use Rattle.xa_server.proofs.server.Server.crash_rm.Goals as goal

pub loop-thread-init : goal.loop-thread-init
loop-thread-init g c =
    let all_left : c.threads-threads.result - 0 ≡ c.threads-threads.result = omega arith in
    record { ready = c.requires; rest = λ reply new all. subst (λ n. LosesFrom c.args.rm 0 n c.args.self.now reply new) all_left all }

pub returns-in-Err-clause-performs : goal.returns-in-Err-clause-performs
returns-in-Err-clause-performs g c =
    subst (λ n. LosesFrom c.args.rm 0 n c.args.self.now (responses.Refused c.in-Err.refusal) c.lose.new.self) c.threads-threads.ensures
    (c.loop-thread.invariant.rest (responses.Refused c.in-Err.refusal) c.lose.new.self
    (next_stays c.args.rm c.loop-thread.thread c.threads-threads.result c.loop-thread.self c.lose.new.self c.in-Err.refusal c.loop-thread-test.true
    c.in-Err.ensures.loses))

pub loop-thread-preserved : goal.loop-thread-preserved
loop-thread-preserved g c = record {
  ready = c.lose.ensures.ready;
  rest = λ reply new more. c.loop-thread.invariant.rest reply new
      (next_is_lost c.args.rm c.loop-thread.thread c.threads-threads.result c.loop-thread.self c.lose.new.self reply new c.loop-thread-test.true
      c.in_default.ensures.loses more);
}

pub returns-clause-performs : goal.returns-clause-performs
returns-clause-performs g c =
    subst (λ n. LosesFrom c.args.rm 0 n c.args.self.now responses.Crashed c.loop-thread.self) c.threads-threads.ensures
    (c.loop-thread.invariant.rest responses.Crashed c.loop-thread.self
    (all_are_lost c.args.rm c.loop-thread.thread c.threads-threads.result c.loop-thread.self c.loop-thread-test.false))
