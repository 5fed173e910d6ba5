use Rattle.std.proofs.Common.{rules, tests}
use Rattle.xa_model.specs.Trace.{line}
use Rattle.xa_monitor.proofs.EntryLemmas.{broken_at}
use Rattle.xa_monitor.proofs.entries.break_line.Goals as goal

pub returns : goal.returns
returns c =
    broken_at _ c.args.incarnation (line c.args.thread c.args.rm) _
    (λ k v b w f' t. (search (rules, tests), (λ e. search (rules, tests)), search (rules, tests)))
    c.args.branches.now c.retain.new.self
    c.retain.ensures.was_ordered c.retain.ensures.filtered
