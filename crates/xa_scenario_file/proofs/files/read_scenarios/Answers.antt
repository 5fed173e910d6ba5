use Rattle.std.proofs.Common.{◌≡◌, ◌+◌, ◌++◌, ◌∷◌, [], Err, Ok, drop, drop_of_length-le, inl, inr, map, subst, sym, ⊎_elim}
use Rattle.xa_scenario_file.specs.Files.{earlier_of, file_after, files_from, scenarios_of}
use Rattle.xa_scenario_file.specs.Scenarios.{plan_of}
use Rattle.xa_scenario_file.proofs.FileLemmas.{AreOfSize, are_alike, at_file, by_fault, file_read, file_refused, files_end, of_size_more, with_plans}
use Rattle.xa_scenario_file.proofs.files.read_scenarios.Goals as goal

pub returns-in-Err-clause-fault : goal.returns-in-Err-clause-fault
returns-in-Err-clause-fault c =
    let texts = c.args.texts.now in
    let i = c.loop-file.file in
    let before = c.loop-file.before in
    let front = map plan_of c.loop-file.scenarios.items in
    let text = c.index-texts-file.result in
    let all = scenarios_of (map (λ text. text.items) texts) in
    let so_far = subst (λ ts. with_plans front (files_from i (earlier_of before) ts) ≡ all)
    (at_file (λ text. text.items) texts i text c.loop-file-test.true c.index-texts-file.is) c.loop-file.invariant.read in
    ⊎_elim inl
    (λ is. inr (file_refused front c.in-Err.fault i (earlier_of before) text.items (map (λ text. text.items) (drop (i + 1) texts)) all
    (subst (λ t. file_after (earlier_of before) t ≡ Err c.in-Err.fault) c.deref.ensures.value is) so_far))
    (by_fault c.in-Err.fault (file_after (earlier_of before) c.deref.result.now) c.in-Err.ensures.fault)

pub loop-file-preserved : goal.loop-file-preserved
loop-file-preserved c =
    let texts = c.args.texts.now in
    let i = c.loop-file.file in
    let before = c.loop-file.before in
    let next = c.add_scenario.new.before in
    let front = map plan_of c.loop-file.scenarios.items in
    let text = c.index-texts-file.result in
    let rest = map (λ text. text.items) (drop (i + 1) texts) in
    let all = scenarios_of (map (λ text. text.items) texts) in
    let so_far = subst (λ ts. with_plans front (files_from i (earlier_of before) ts) ≡ all)
    (at_file (λ text. text.items) texts i text c.loop-file-test.true c.index-texts-file.is) c.loop-file.invariant.read in
    let h = c.in-Ok.ensures.read in
    let read = subst (λ t. file_after (earlier_of before) t ≡ Ok (h.0, earlier_of next)) c.deref.ensures.value h.1 in
    record {
      read = subst (λ plans. with_plans plans (files_from (i + 1) (earlier_of next) rest) ≡ all) (sym h.2)
          (file_read front h.0 i (earlier_of before) (earlier_of next) text.items rest all read so_far);
      alike = subst (AreOfSize next.size) (sym h.2)
          (subst (λ size. AreOfSize size (front ++ h.0 ∷ [])) (sym h.4) (of_size_more before.size front h.0 c.loop-file.invariant.alike h.5 h.3));
    }

pub returns-clause-read : goal.returns-clause-read
returns-clause-read c =
    let texts = c.args.texts.now in
    let front = map plan_of c.loop-file.scenarios.items in
    let all = scenarios_of (map (λ text. text.items) texts) in
    files_end front c.loop-file.file (earlier_of c.loop-file.before) all
    (subst (λ ts. with_plans front (files_from c.loop-file.file (earlier_of c.loop-file.before) (map (λ text. text.items) ts)) ≡ all)
    (drop_of_length-le texts c.loop-file-test.false) c.loop-file.invariant.read)

pub returns-clause-sized : goal.returns-clause-sized
returns-clause-sized c = are_alike c.loop-file.before.size (map plan_of c.loop-file.scenarios.items) c.loop-file.invariant.alike
