use Rattle.xa_conduct.proofs.conductor.Conductor.resolve.Goals as goal

pub returns-clause-acts : goal.returns-clause-acts
returns-clause-acts g c = λ done first acts.
    c.go_on.ensures.acts done first (c.ask-2.ensures.acts done first (c.ask.ensures.acts done first acts))

pub returns-then-not-matches-2-clause-acts : goal.returns-then-not-matches-2-clause-acts
returns-then-not-matches-2-clause-acts g c = λ done first acts.
    c.stop-then-not-matches-2.ensures.acts done first (c.ask-2.ensures.acts done first (c.ask.ensures.acts done first acts))
