-- Agreement at the last moment of a list of events.
use Rattle.std.proofs.Common.{[]}
use Rattle.std.specs.Prelude.{List}
use Rattle.std.proofs.lemmas.List.{append-nil}
use Rattle.xa_model.specs.Promises.Agreement.{AreAlike}
use Rattle.xa_model.specs.Promises.Headline.{HeadlineSince}
use Rattle.xa_model.specs.Replies.History.{and_then}
use Rattle.xa_model.specs.Trace.{Trace}
use Rattle.xa_base.specs.declared.reply.Event.{Event}

pub at_end : (start : Trace) (events : List Event) → HeadlineSince start events → AreAlike (and_then start events)
at_end start events headline = headline.alike events [] (append-nil events)
