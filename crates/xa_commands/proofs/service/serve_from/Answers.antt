use Rattle.std.proofs.Common.{inl, inr, refl}
use Rattle.xa_commands.proofs.service.serve_from.Goals as goal

pub returns-in-Ok-clause-served : goal.returns-in-Ok-clause-served
returns-in-Ok-clause-served g c = λ asked. (
  c.in-Some.begun.name,
  rw c.in-Some.is at c.in_ok-begun.ensures.name,
  inr (c.in-Some.begun.claimed.log, rw c.in-Some.is at c.in_ok-begun.ensures.opened, inl (c.in-Ok.ensures.ended asked)),
)

pub returns-in-Ok-clause-moved : goal.returns-in-Ok-clause-moved
returns-in-Ok-clause-moved g c = λ asked. (
  c.in-Some.begun.name,
  rw c.in-Some.is at c.in_ok-begun.ensures.name,
  inr (c.in-Some.begun.claimed.log, rw c.in-Some.is at c.in_ok-begun.ensures.opened, inl (c.in-Ok.ensures.moved asked)),
)

pub returns-in-Err-clause-served : goal.returns-in-Err-clause-served
returns-in-Err-clause-served g c = λ asked. (
  c.in-Some.begun.name,
  rw c.in-Some.is at c.in_ok-begun.ensures.name,
  inr (
    c.in-Some.begun.claimed.log,
    rw c.in-Some.is at c.in_ok-begun.ensures.opened,
    inr (c.in-Err.failure, refl, c.in-Err.ensures.broken asked),
  ),
)

pub returns-in-Err-clause-moved : goal.returns-in-Err-clause-moved
returns-in-Err-clause-moved g c = λ asked. (
  c.in-Some.begun.name,
  rw c.in-Some.is at c.in_ok-begun.ensures.name,
  inr (c.in-Some.begun.claimed.log, rw c.in-Some.is at c.in_ok-begun.ensures.opened, inr (c.in-Err.failure, refl)),
)
