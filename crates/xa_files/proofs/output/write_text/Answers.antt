use Rattle.xa_files.proofs.OutputLemmas.{begun_with_all, written_then_kept}
use Rattle.xa_files.proofs.output.write_text.Goals as goal

pub returns-clause-begun : goal.returns-clause-begun
returns-clause-begun g c =
    let contents = g.W.Write.contents in
    begun_with_all c.map_err.result (contents c.args.out.now) (contents c.flush.new.self) c.args.text.now
    (written_then_kept (contents c.args.out.now) (contents c.write_unflushed.new.out) (contents c.flush.new.self) c.args.text.now
    c.in_ok-write_unflushed.ensures.whole c.flush.ensures.bytes)
