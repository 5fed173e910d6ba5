use Rattle.xa_conduct.proofs.serving.serve.Goals as goal

pub loop-preserved : goal.loop-preserved
loop-preserved g c =
    let served = c.in_ok-serve_moves.ensures in
    record {
      ready = served.ready;
      acts = λ done first acts. served.acts done first (c.loop.invariant.acts done first acts);
      rests = λ done first acts. served.rests first (c.loop.invariant.rests done first acts);
      at_rest = served.at_rest c.loop.invariant.at_rest;
    }

pub returns-then-not-branch-clause-rests : goal.returns-then-not-branch-clause-rests
returns-then-not-branch-clause-rests g c = λ done first acts. c.in_ok-serve_moves.ensures.rests first (c.loop.invariant.rests done first acts)

pub returns-then-not-branch-clause-at_rest : goal.returns-then-not-branch-clause-at_rest
returns-then-not-branch-clause-at_rest g c = c.in_ok-serve_moves.ensures.at_rest c.loop.invariant.at_rest
