use Rattle.uses.proofs.PathProcesses.{agree_after}
use Rattle.uses.proofs.paths.two_processes.Goals as goal

pub returns : goal.returns
returns g c = record {
  mid = c.in_ok-one.one.1;
  first = c.in_ok-one.ensures;
  second = c.in_ok-two.ensures;
  agree = agree_after _ _ c.left_sessions_agree.ensures.begin c.left_sessions_agree.ensures.agree _ _ _ _ _ _ _ _ _ c.in_ok-one.ensures
      c.in_ok-two.ensures;
}
