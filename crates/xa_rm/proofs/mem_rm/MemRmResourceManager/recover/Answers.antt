use Rattle.std.proofs.Common.{rules, ap, refl, sym, ◌∙◌}
use Rattle.std.specs.Option.{option_map_or}
use Rattle.std.specs.Result.{result_ok}
use Rattle.xa_base.specs.declared.answer.Answer.TheVariants.{Ret}
use Rattle.xa_base.specs.declared.code.Code.TheVariants.{Invalid}
use Rattle.xa_rm.proofs.CallLemmas.{recover_of_none, recovered}
use Rattle.xa_rm.specs.Branches.{held_at}
use Rattle.xa_rm.specs.Look.{Look}
use Rattle.xa_rm.specs.ResourceManager.{answer_to, scan_after_call}
use Rattle.xa_rm.specs.Scans.{scan_at}
use Rattle.xa_rm.proofs.mem_rm.MemRmResourceManager.recover.Goals as goal

pub returns-in-Err-clause-ok : goal.returns-in-Err-clause-ok
returns-in-Err-clause-ok c =
    let rm = c.args.self.now in
    let look : Look = record { held = held_at rm.branches.table; scan = scan_at rm.scans.cursors; in_doubt = rm.branches.index.keys } in
    let none = recover_of_none _ c.args.count c.args.flags (sym c.of.ensures.made ∙ ap result_ok c.in-Err.is) in
    record {
      answer = ap Ret c.in-Err.ensures.refused ∙ sym (ap (λ asked. option_map_or (answer_to look c.args.thread) asked (Ret Invalid)) none);
      held = λ x. refl;
      scans = λ t.
          sym (ap (λ asked. option_map_or (λ call. scan_after_call c.args.thread call look.in_doubt t (look.scan t)) asked (look.scan t)) none);
      in_doubt = λ page is. let no : ⊥ = cc in absurd no;
    }

pub returns-in-Ok-clause-ok : goal.returns-in-Ok-clause-ok
returns-in-Ok-clause-ok c =
    let made = sym c.of.ensures.made ∙ ap result_ok c.in-Ok.is in
    recovered c.args.thread c.args.count c.args.flags c.in-Ok.call c.apply.result _ _ (search rules) c.apply.ensures.ok
