use Rattle.std.proofs.Common.{ap}
use Rattle.std.specs.Prelude.{unwrap_or}
use Rattle.std.specs.BTreeMap.{is_at}
use Rattle.std.specs.Map.{lookup}
use Rattle.xa_base.specs.Branch.{branch_cmp}
use Rattle.xa_monitor.proofs.Following.{by_start}
use Rattle.xa_monitor.specs.Entries.{states_before}
use Rattle.xa_monitor.proofs.monitor.Monitor.new.Goals as goal

pub returns : goal.returns
returns c o same =
    by_start c.args.incarnation o same _
    (λ b. ap (λ es. unwrap_or (lookup (is_at (branch_cmp b)) es) (states_before c.args.incarnation b)) c.new.ensures.empty)
