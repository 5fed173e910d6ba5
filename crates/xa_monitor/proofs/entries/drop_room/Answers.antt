use Rattle.std.proofs.Common.{rules, tests}
use Rattle.xa_monitor.proofs.EntryLemmas.{dropped_at, nothing_left}
use Rattle.xa_monitor.proofs.entries.drop_room.Goals as goal

pub returns-clause-same : goal.returns-clause-same
returns-clause-same c =
    dropped_at _ c.args.incarnation _ (λ k v b w f' t. (search (rules, tests), (λ e. search (rules, tests)), search (rules, tests)))
    c.args.branches.now c.retain.new.self
    c.retain.ensures.was_ordered c.retain.ensures.filtered

pub returns-clause-dropped : goal.returns-clause-dropped
returns-clause-dropped c =
    nothing_left _ c.args.incarnation _ (λ k v b w f' t. ((λ e same. search (rules, tests)), search (rules, tests)))
    c.args.branches.now c.retain.new.self c.retain.ensures.filtered
