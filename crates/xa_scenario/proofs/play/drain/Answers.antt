use Rattle.std.proofs.Common.{sym, rules}
use Rattle.xa_scenario.proofs.PlayLemmas.{drain_goes_on, drain_ends}
use Rattle.xa_scenario.proofs.KeepingLemmas.{twice}
use Rattle.xa_scenario.proofs.play.drain.Goals as goal

pub returns-then-not-pair_moves-clause-performs : goal.returns-then-not-pair_moves-clause-performs
returns-then-not-pair_moves-clause-performs g c =
    drain_ends c.args.thread c.args.rm c.args.system.now.events c.pairs.system.events c.act-took.new.system.events c.act-heard.new.system.events
    c.act-took.result c.act-heard.result
    c.act-took.ensures.answered c.act-took.ensures.added c.act-heard.ensures.answered c.act-heard.ensures.added
    (sym c.if-not-pair_moves.ensures) c.pairs.invariant.goes_on

pub pairs-preserved : goal.pairs-preserved
pairs-preserved g c = record {
  goes_on =
      drain_goes_on c.args.thread c.args.rm c.args.system.now.events c.pairs.system.events c.act-took.new.system.events c.act-heard.new.system.events
      c.act-took.result c.act-heard.result
      c.act-took.ensures.answered c.act-took.ensures.added c.act-heard.ensures.answered c.act-heard.ensures.added
      (sym c.if-not-pair_moves.ensures) c.pairs.invariant.goes_on;
  start = search rules;
  log = twice c.args.system.now c.pairs.system c.act-took.new.system c.act-heard.new.system c.pairs.invariant.log
      c.act-took.ensures.log c.act-heard.ensures.log;
}

pub returns-then-not-pair_moves-clause-log : goal.returns-then-not-pair_moves-clause-log
returns-then-not-pair_moves-clause-log g c =
    twice c.args.system.now c.pairs.system c.act-took.new.system c.act-heard.new.system c.pairs.invariant.log c.act-took.ensures.log c.act-heard.ensures.log
