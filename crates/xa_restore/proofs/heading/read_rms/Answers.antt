use Rattle.std.proofs.Common.{length, ap, sym, ◌∙◌, arith, rules}
use Rattle.std.proofs.lemmas.Grind.{common_steps}
use Rattle.xa_restore.proofs.HeadingLemmas.{apart_more, rm_fault, rms_pushed}
use Rattle.xa_restore.proofs.heading.read_rms.Goals as goal

pub loop-at-preserved : goal.loop-at-preserved
loop-at-preserved c = record {
  lines = rms_pushed c.args.lines.now c.loop-at.rms.items c.loop-at.at c.in-Some.rm _ c.push.new.self.items (omega arith) c.loop-at.invariant.lines
      (ap length (sym c.deref.ensures.value) ∙ c.deref.ensures.len ∙ c.loop-at.invariant.count)
      (rw c.in-Some.is at c.in_ok-rm.ensures.line) c.in_ok-push-in-Some.ensures.items;
  count = search rules;
  names = grind (arith, common_steps);
  apart = apart_more c.loop-at.rms.items c.deref.result.now c.push.new.self.items c.in-Some.rm c.loop-at.invariant.apart c.deref.ensures.value
      c.if-not-contains.ensures.cases c.in_ok-push-in-Some.ensures.items;
}

pub returns-in_default-clause-fault : goal.returns-in_default-clause-fault
returns-in_default-clause-fault c =
    rm_fault c.args.lines.now c.loop-at.at c.args.first _ c.starts_with.result (omega arith) c.starts_with.ensures.cases (search rules)
