use Rattle.std.proofs.Common.{◌≡◌, Global, Vec, length, ap, subst, ◌∙◌}
use Rattle.xa_line.specs.Grid.{new_grid}
use Rattle.xa_tm.specs.Started.{IsStarted, IsStartedOver}
use Rattle.xa_tm.specs.Slots.{slot_moment}
use Rattle.xa_system.proofs.start.start_parts.Goals as goal

pub returns-clause-parts : goal.returns-clause-parts
returns-clause-parts g c =
    let count : c.len-count.result ≡ length c.args.rms.items = c.len-count.ensures ∙ c.args.rms.ok.0 in
    record {
      start = ap (λ (v : Vec g.row.R.Denot Global). v.items) c.of-start.ensures;
      began = c.of-began.ensures;
      sites = c.in-Ok-sites_of.ensures;
      lines = c.in-Ok.ensures ∙ ap (new_grid c.args.threads) count;
    }

pub returns-clause-manager : goal.returns-clause-manager
returns-clause-manager g c =
    let count : c.len-count.result ≡ length c.args.rms.items = c.len-count.ensures ∙ c.args.rms.ok.0 in
    subst (λ n. IsStarted c.args.threads n c.in_ok-manager.manager) count c.in_ok-manager.ensures.manager

pub returns-clause-log : goal.returns-clause-log
returns-clause-log g c =
    let count : c.len-count.result ≡ length c.args.rms.items = c.len-count.ensures ∙ c.args.rms.ok.0 in
    subst (λ n. IsStartedOver (slot_moment g.L.DecisionLog.moment) c.args.threads n (g.L.DecisionLog.moment c.args.log) c.in_ok-manager.manager) count
    c.in_ok-manager.ensures.log
