-- What the two ends of a line show, since the line was new or renewed.
use Rattle.std.specs.Prelude.{ℕ, List}
use Rattle.xa_base.specs.declared.answer.Answer.{Answer}
use Rattle.xa_base.specs.Xid.{Xid}
use Rattle.xa_base.specs.declared.call.Call.{Call}
use Rattle.xa_line.specs.Queue.{pushed, popped, seen, free, SameInlet, SameOutlet, AreEnds}
use Rattle.xa_line.specs.declared.issuer.Issuer.{Issuer}
use Rattle.xa_line.specs.declared.taker.Taker.{Taker}

-- ** the end of the thread of control

-- the calls that it issued, those before the split among them
abbrev pub issued_by : Issuer → List (Call Xid)
issued_by i = pushed i.calls

-- the answers that it heard, with their calls
abbrev pub heard_by : Issuer → List (Call Xid × Answer Xid)
heard_by i = popped i.answers

-- the places that it has seen to be free, and the answers that it has seen to wait
abbrev pub free_calls_of : Issuer → ℕ
free_calls_of i = free i.calls

abbrev pub seen_answers_of : Issuer → List (Call Xid × Answer Xid)
seen_answers_of i = seen i.answers

-- ** the end of the resource manager

-- the calls that it took
abbrev pub taken_by : Taker → List (Call Xid)
taken_by t = popped t.calls

-- the calls that it answered, with their answers
abbrev pub answered_by : Taker → List (Call Xid × Answer Xid)
answered_by t = pushed t.answers

-- the calls that it has seen to wait, and the places that it has seen to be free
abbrev pub seen_calls_of : Taker → List (Call Xid)
seen_calls_of t = seen t.calls

abbrev pub free_answers_of : Taker → ℕ
free_answers_of t = free t.answers

-- ** which line

-- an end of the same line
pub record SameIssuer (a b : Issuer) : Type 0 where
  pub calls : SameInlet a.calls b.calls
  pub answers : SameOutlet a.answers b.answers

pub record SameTaker (a b : Taker) : Type 0 where
  pub calls : SameOutlet a.calls b.calls
  pub answers : SameInlet a.answers b.answers

-- the two ends of one line
pub record AreEndsOfOne (i : Issuer) (t : Taker) : Type 0 where
  pub calls : AreEnds i.calls t.calls
  pub answers : AreEnds t.answers i.answers
