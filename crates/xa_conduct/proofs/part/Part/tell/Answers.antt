use Rattle.xa_conduct.proofs.BackingLemmas.{told_kept}
use Rattle.xa_conduct.proofs.part.Part.tell.Goals as goal

pub returns-in-Forgetting-clause-told : goal.returns-in-Forgetting-clause-told
returns-in-Forgetting-clause-told c =
    told_kept c.report.new.plan.requests.items c.issue_forget.new.self.requests.items c.args.branch c.args.self.now.place c.args.step.code
    c.in_ok-issue_forget.ensures.more c.in_ok-report.ensures.told
