use Rattle.std.proofs.Common.{subst}
use Rattle.xa_log.proofs.Parts.{on_err}
use Rattle.xa_server.proofs.LineLemmas.{begun_on, begun_so_far, keeps_all, part_on}
use Rattle.xa_server.specs.Lines.{ReadsBeginning, ReadsOne}
use Rattle.xa_server.proofs.lines.read_line.Goals as goal

pub returns-in_err-keep-in-Ok-Some-clause-err : goal.returns-in_err-keep-in-Ok-Some-clause-err
returns-in_err-keep-in-Ok-Some-clause-err g c =
    let left = g.R.Read.remaining in
    let old = left c.args.input.now in
    let mid = left c.loop.input in
    let new = left c.read_byte.new.input in
    on_err c.from_residual.result (ReadsBeginning old new)
    (begun_on old mid new c.loop.bytes.items c.in-Ok-Some.byte c.loop.invariant
    (subst (ReadsOne mid new) c.in-Ok-Some.field-0-is c.in-Ok-Some.ensures.ok) c.in-Ok-Some.byte-test.1)

pub returns-in-Err-clause-err : goal.returns-in-Err-clause-err
returns-in-Err-clause-err g c =
    let left = g.R.Read.remaining in
    begun_so_far (left c.args.input.now) (left c.loop.input) (left c.read_byte.new.input) c.loop.bytes.items c.loop.invariant
    c.in-Err.ensures.err

pub loop-preserved : goal.loop-preserved
loop-preserved g c =
    let left = g.R.Read.remaining in
    let mid = left c.loop.input in
    let new = left c.read_byte.new.input in
    part_on (left c.args.input.now) mid new c.loop.bytes.items c.keep.new.kept.items c.in-Ok-Some.byte c.loop.invariant
    (subst (ReadsOne mid new) c.in-Ok-Some.field-0-is c.in-Ok-Some.ensures.ok) c.in-Ok-Some.byte-test.1 c.in_ok-keep-in-Ok-Some.ensures.ok

pub returns-clause-err : goal.returns-clause-err
returns-clause-err g c =
    let left = g.R.Read.remaining in
    let mid = left c.loop.input in
    begun_so_far (left c.args.input.now) mid mid c.loop.bytes.items c.loop.invariant (keeps_all mid)
