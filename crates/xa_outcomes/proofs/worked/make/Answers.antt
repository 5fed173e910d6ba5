use Rattle.std.proofs.Common.{◌≡◌, true, rules}
use Rattle.xa_outcomes.specs.WorkedSessions.{is_issued}
use Rattle.xa_server.specs.Votes.{is_heard}
use Rattle.xa_outcomes.proofs.worked.make.Goals as goal

pub returns-then-is_heard-clause-made : goal.returns-then-is_heard-clause-made
returns-then-is_heard-clause-made g c =
    let waits : is_issued c.in_ok-told.told ≡ true = search rules in
    let hears : is_heard c.in_ok-heard.heard ≡ true = search rules in
    record {
      mid = c.tell.new.server;
      told = c.in_ok-told.told;
      heard = c.in_ok-heard.heard;
      issued = c.in_ok-told.ensures.told;
      waits = waits;
      answered = c.in_ok-heard.ensures.told;
      hears = hears;
    }
