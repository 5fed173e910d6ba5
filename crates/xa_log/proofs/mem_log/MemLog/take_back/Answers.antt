use Rattle.std.proofs.Common.{◌≡◌, ◌+◌, ◌<◌, arith, get_or, length, take, vec_len, refl, ap, sym, ◌∙◌}
use Rattle.xa_log.specs.Content.{with_commits}
use Rattle.xa_log.specs.Memory.{content_held}
use Rattle.xa_log.proofs.Together.{one_back}
use Rattle.xa_log.proofs.mem_log.MemLog.take_back.Goals as goal

pub loop-logged-init : goal.loop-logged-init
loop-logged-init c = record { within = c.requires.within; faults = refl; made = λ before made. made }

pub loop-logged-preserved : goal.loop-logged-preserved
loop-logged-preserved c =
    let ds = c.args.decisions.now in
    let was = c.loop-logged.answers in
    let rest = c.pop.new.self in
    let d = c.index-decisions-len.result in
    let next : vec_len was ≡ vec_len rest + 1 = sym c.in-Some.ensures.cases in
    let low : vec_len rest < length ds = omega (arith, next, c.loop-logged.invariant.within) in
    let at : d ≡ get_or ds (vec_len rest) d = c.index-decisions-len.is ∙ ap (λ k. get_or ds k d) c.len.ensures in
    record {
      within = omega (arith, low);
      faults = c.take_row_back.ensures.faults ∙ c.loop-logged.invariant.faults;
      made = λ before made.
          let back =
          one_back ds (vec_len rest) (vec_len was) d was.items rest.items c.in-Some.logged before (content_held c.loop-logged.self) low next at
          c.in-Some.ensures.items (c.loop-logged.invariant.made before made) in
          record { made = c.take_row_back.ensures.undone (with_commits (take (vec_len rest) ds) before) back.made back.told; told = back.earlier };
    }

pub returns-clause-undone : goal.returns-clause-undone
returns-clause-undone c before made =
    (c.loop-logged.invariant.made before made).made ∙ ap (λ k. with_commits (take k c.args.decisions.now) before) c.in_default.ensures.cases.0
