-- What goes over a line, as histories know it.
use Rattle.std.specs.Prelude.{◌≡◌, ◌++◌, true, List, filter_map, length, map, Option, Some}
use Rattle.std.specs.Option.{option_map}
use Rattle.xa_base.specs.Answer.{map_answer}
use Rattle.xa_base.specs.Call.{map_call}
use Rattle.xa_model.specs.Facts as facts
use Rattle.xa_model.specs.Replies.History.{name_of}
use Rattle.xa_model.specs.Replies.Steps.{accepted}
use Rattle.xa_model.specs.Replies.View.{LineView}
use Rattle.xa_model.specs.Trace.{Happening, Line, Trace, Answer as KnownAnswer, Call as KnownCall}
use Rattle.xa_base.specs.Xid.{Xid}
use Rattle.xa_base.specs.declared.answer.Answer.{Answer}
use Rattle.xa_base.specs.declared.call.Call.{Call}
use Rattle.xa_base.specs.declared.state.Standing.TheVariants.{Unstarted}
use Rattle.xa_line.specs.Grid.{Grid, line_at}
use Rattle.xa_line.specs.Traffic.{Traffic, answered, answers_heard, calls_issued, calls_taken}

-- a call as a history knows it. None knows a call on another manager's identifier
abbrev pub known : Call Xid → Option KnownCall
known call = accepted (map_call name_of call)

-- a call and its answer, as a history knows them
abbrev pub known_answered : Call Xid × Answer Xid → Option (KnownCall × KnownAnswer)
known_answered p = option_map (λ call. (call, map_answer name_of p.1)) (known p.0)

-- these calls are known to a history as those
abbrev pub AreKnownAs : List (Call Xid) → List KnownCall → Type 0
AreKnownAs calls in_history = map known calls ≡ map Some in_history

-- these calls and answers are known to a history as those
abbrev pub AreAnsweredAs : List (Call Xid × Answer Xid) → List (KnownCall × KnownAnswer) → Type 0
AreAnsweredAs pairs in_history = map known_answered pairs ≡ map Some in_history

-- a list grows by items that are known to a history as these
abbrev pub GrowsBy : {A B : Type 0} → (A → Option B) → (old new : List A) → List B → Type 0
GrowsBy {A} name old new in_history = (items : List A) × (new ≡ old ++ items) × (map name items ≡ map Some in_history)

-- the calls, the answers and the answers heard of a line grow by what a happening adds to them, and
-- each call taken is answered
pub record HasGrown (tr : Trace) (e : Happening) (l : Line) (old new : Traffic) : Type 0 where
  pub calls : GrowsBy known (calls_issued old) (calls_issued new) (facts.new_calls tr e l)
  pub answers : GrowsBy known_answered (answered old) (answered new) (facts.new_taken e l)
  pub hearings : GrowsBy known_answered (answers_heard old) (answers_heard new) (facts.new_heard e l)
  pub each_answered : calls_taken new ≡ map (λ p. p.0) (answered new)

-- the traffic of a line is what a history says of it since it last broke, and each call that was
-- taken was answered
pub record LineStands (tr : Trace) (l : Line) (t : Traffic) : Type 0 where
  pub all_issued : AreKnownAs (calls_issued t) (facts.issued tr l)
  pub all_answered : AreAnsweredAs (answered t) (facts.taken tr l)
  pub all_heard : AreAnsweredAs (answers_heard t) (facts.heard tr l)
  pub each_answered : calls_taken t ≡ map (λ p. p.0) (answered t)

-- What the table of refusals sees of lines. Each resource manager is up, since the lines don't know
-- better; and a recovery and a branch are nothing to them.
abbrev pub lines_in : Grid → LineView
lines_in g = record {
  rm_up = λ r. true;
  issued = λ l. filter_map known (calls_issued (line_at g l.thread l.rm));
  waiting = λ l. length (line_at g l.thread l.rm).calls.waiting;
  unheard = λ l. length (line_at g l.thread l.rm).answers.waiting;
  resolving = λ r. 0;
  resolving_open = λ r. 0;
  standing = λ b. Unstarted;
}
