use Rattle.std.proofs.Common.{◌∙◌}
use Rattle.xa_base.specs.Answer.{map_answer}
use Rattle.xa_model.specs.Replies.History.{name_of}
use Rattle.xa_session.proofs.Hearings.{on_branch}
use Rattle.xa_session.proofs.hearing.can_hear.Goals as goal

pub returns-in-Start : goal.returns-in-Start
returns-in-Start c = c.is_code_on.ensures ∙ on_branch c.args.call.now c.in-Start.xid (map_answer name_of c.args.answer.now) c.in-Start.is
