use Rattle.std.proofs.Common.{◌+◌, ◌++◌, Some, codes, get_or, refl, rules}
use Rattle.std.specs.Fmt.{decimal}
use Rattle.std.specs.Io.KnownBytes.{Appends}
use Rattle.xa_base.specs.declared.step.Outcome.TheVariants.{Commit}
use Rattle.xa_jobs.specs.Lines.{end_lines}
use Rattle.xa_jobs.proofs.LineLemmas.{line_written, lines_end}
use Rattle.xa_jobs.proofs.lines.end_lines.Goals as goal

pub loop-i-preserved : goal.loop-i-preserved
loop-i-preserved c =
    let ends = c.args.ends.now in
    let written : Appends (Some c.loop-i.lines.items) (Some c.writeln.new.self.items)
    (codes "job " ++ (decimal (c.loop-i.i + 1) ++ (codes " " ++ (c.end_text.result.now ++ codes "\n")))) =
    search rules in
    line_written c.loop-i.lines.items c.writeln.new.self.items ends c.loop-i.i (c.loop-i.i + 1)
    (get_or ends c.loop-i.i Commit) Commit (end_lines ends)
    c.loop-i-test.true refl (rw (← c.end_text.ensures) written) c.loop-i.invariant

pub returns-clause-lines : goal.returns-clause-lines
returns-clause-lines c =
    lines_end c.loop-i.lines.items c.args.ends.now c.loop-i.i (c.loop-i.i + 1) (end_lines c.args.ends.now)
    c.loop-i-test.false c.loop-i.invariant
