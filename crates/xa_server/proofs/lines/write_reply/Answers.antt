use Rattle.xa_server.proofs.LineLemmas.{begins_with_none}
use Rattle.xa_server.specs.NamedLines.{line_written}
use Rattle.xa_server.proofs.lines.write_reply.Goals as goal

pub returns-in_default-clause-err : goal.returns-in_default-clause-err
returns-in_default-clause-err g c = begins_with_none (g.W.Write.contents c.args.output.now) (line_written c.args.name.now c.args.told.now)
