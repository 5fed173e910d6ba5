use Rattle.std.proofs.Common.{take, rules}
use Rattle.std.specs.Io.KnownBytes.{Appends, Keeps}
use Rattle.xa_files.proofs.OutputLemmas.{more_written, still_written}
use Rattle.xa_files.proofs.output.write_unflushed.Goals as goal
use Rattle.xa_files.proofs.output.write_unflushed.Goals.{in-Ok, in-Err+else-ne}

pub loop-preserved : goal.loop-preserved
loop-preserved g c = elim c.match-write.branch [
  | in-Ok w ↦
      let contents = g.W.Write.contents in
      let more : Appends (contents c.loop.out) (contents c.write.new.self) (take w.in-Ok.count c.loop.rest.now) = w.in-Ok.ensures.bytes in
      rw w.rest-is (more_written (contents c.args.out.now) (contents c.loop.out) (contents c.write.new.self) c.loop.rest.now c.args.text.now w.in-Ok.count
      c.loop.invariant more)
  | in-Err+else-ne w ↦
      let contents = g.W.Write.contents in
      let keeps : Keeps (contents c.loop.out) (contents c.write.new.self) = search rules in
      rw w.rest-is (still_written (contents c.args.out.now) (contents c.loop.out) (contents c.write.new.self) c.loop.rest.now c.args.text.now
      c.loop.invariant keeps)
]
