use Rattle.std.proofs.Common.{length, arith}
use Rattle.xa_restore.proofs.HeadingLemmas.{heading_named, heading_unnamed, texts}
use Rattle.xa_restore.proofs.heading.read_heading.Goals as goal

pub returns-in_ok-rms-in-Ok-Some-clause-lines : goal.returns-in_ok-rms-in-Ok-Some-clause-lines
returns-in_ok-rms-in-Ok-Some-clause-lines c =
    let rms = c.in_ok-rms-in-Ok-Some.rms.items in
    heading_named c.args.lines.now c.in-Ok-Some.name (texts rms) (length rms) _ (omega arith) (rw c.in-Ok-Some.field-0-is at c.in-Ok-Some.ensures.line)
    (rw c.in-Ok-Some.field-0-is at c.in-Ok-Some.ensures.named) c.in_ok-rms-in-Ok-Some.ensures.lines

pub returns-in_ok-rms-in-Ok-None-clause-lines : goal.returns-in_ok-rms-in-Ok-None-clause-lines
returns-in_ok-rms-in-Ok-None-clause-lines c =
    let rms = c.in_ok-rms-in-Ok-None.rms.items in
    heading_unnamed c.args.lines.now c.none-in-Ok-None.result (texts rms) (length rms) c.none-in-Ok-None.ensures c.in_ok-rms-in-Ok-None.ensures.lines
