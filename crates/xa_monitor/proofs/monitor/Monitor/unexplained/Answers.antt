use Rattle.std.proofs.Common.{ap, sym, ◌∙◌, subst}
use Rattle.std.proofs.lemmas.Option.{IfSome_then}
use Rattle.xa_base.specs.Answer.{map_answer}
use Rattle.xa_base.specs.declared.answer.Answer.TheVariants.{Page}
use Rattle.xa_model.specs.Replies.History.{name_of}
use Rattle.xa_model.specs.Trace.{line}
use Rattle.xa_monitor.proofs.FollowedPages.{page_can}
use Rattle.xa_monitor.specs.Monitor.{CanExplain, states_of}
use Rattle.xa_monitor.proofs.monitor.Monitor.unexplained.Goals as goal

pub returns-in-Ret-clause-some : goal.returns-in-Ret-clause-some
returns-in-Ret-clause-some c =
    IfSome_then c.unexplained_by_code.result c.unexplained_by_code.ensures.some (λ b no t d is can.
    no (line t c.args.rm) d is
    (subst (λ a. CanExplain (states_of c.args.self.now) (line t c.args.rm) d (map_answer name_of a) b) c.in-Ret.is can))

pub returns-in-Page-clause-none : goal.returns-in-Page-clause-none
returns-in-Page-clause-none c = λ none t d is q some.
    subst (λ a. CanExplain (states_of c.args.self.now) (line t c.args.rm) d (map_answer name_of a) q) (sym (c.in-Page.is ∙ ap Page (sym c.xids.ensures)))
    (page_can c.args.rm t (states_of c.args.self.now) c.xids.result.now (c.first_unlistable.ensures.none none) d q some)
