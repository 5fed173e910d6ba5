use Rattle.std.proofs.Common.{◌∙◌, ◌+◌, ◌++◌, ◌∷◌, [], Err, Some, ap, arith, inl, inr, map, string_bytes, subst, sym, take}
use Rattle.std.proofs.KnownBytes.{Keeps-refl}
use Rattle.std.proofs.lemmas.Result.{err_from_is_err_and}
use Rattle.std.specs.Io.KnownBytes.{Appends}
use Rattle.xa_files.proofs.TablesInTurnLemmas.{same_err}
use Rattle.xa_files.specs.Outputs.{AppendsBeginning}
use Rattle.xa_rm.specs.contracts.mem_rm.MemRmResourceManager.TheImpl as memory
use Rattle.xa_scenario_file.specs.Files.{AreOfOneSize}
use Rattle.xa_scenario.specs.Processes.{heading}
use Rattle.xa_scenario.specs.Replies.{trace_lines}
use Rattle.xa_scenario_file.specs.Scenarios.{plan_of}
use Rattle.xa_scenario_file.proofs.FileLemmas.{as_large, sized_first, sized_later}
use Rattle.xa_scenario.proofs.PrintLemmas.{HavePrinted, all_are, begins_all, counted, nothing_written, one_more, printed_more, prints_all, stops_behind, stops_between, stops_in, with_rest}
use Rattle.xa_system.specs.SystemView.{observes}
use Rattle.xa_scenario.proofs.processes.run_scenarios.Goals as goal

pub first_process-requires-clause-sized : goal.first_process-requires-clause-sized
first_process-requires-clause-sized g c =
    sized_first (plan_of c.in-Some.first.now) (map plan_of c.in-Some.later.now)
    (subst (λ xs. AreOfOneSize (map plan_of xs)) c.in-Some.ensures.cases.0 c.requires.alike)

pub returns-in_err-rms-clause-stopped : goal.returns-in_err-rms-clause-stopped
returns-in_err-rms-clause-stopped g c =
    let p = err_from_is_err_and c.from_residual.result c.from_residual.ensures.1 in
    rw (p.1, p.2) (λ e. inl (Keeps-refl (g.W.Write.contents c.args.out.now)))

pub returns-in_err-process-clause-stopped : goal.returns-in_err-process-clause-stopped
returns-in_err-process-clause-stopped g c =
    let p = err_from_is_err_and c.from_residual-in_err-process.result c.from_residual-in_err-process.ensures.1 in
    rw (p.1, p.2) (λ e. inl (Keeps-refl (g.W.Write.contents c.args.out.now)))

pub returns-in_err-process-clause-log : goal.returns-in_err-process-clause-log
returns-in_err-process-clause-log g c =
    let p = err_from_is_err_and c.from_residual-in_err-process.result c.from_residual-in_err-process.ensures.1 in
    rw (p.1, p.2) (λ e. inl (c.in_err-process.ensures.log (ap Err (same_err _ _ e))))

pub loop-i-init : goal.loop-i-init
loop-i-init g c = (
  plan_of c.in-Some.first.now,
  ap (map plan_of) (sym c.in-Some.ensures.cases.0),
  c.in_ok-process.ensures.count,
  record {
    before = [];
    piece = trace_lines 1 c.in_ok-process.process.system.events;
    last = c.in_ok-process.ensures.last;
    spelled = c.in_ok-process.ensures.text;
    so_far = inl (Keeps-refl (g.W.Write.contents c.args.out.now));
    written = nothing_written c.args.with_trace (g.W.Write.contents c.args.out.now);
  },
)

pub next_process-requires-clause-sized : goal.next_process-requires-clause-sized
next_process-requires-clause-sized g c =
    let inv = c.loop-i.invariant in
    sized_later plan_of inv.0 c.in-Some.later.now c.loop-i.i c.index-later-i.result (subst AreOfOneSize (sym inv.1) c.requires.alike)
    c.loop-i-test.true c.index-later-i.is

pub next_process-requires-clause-count : goal.next_process-requires-clause-count
next_process-requires-clause-count g c =
    let inv = c.loop-i.invariant in
    inv.2
    ∙ sym (as_large plan_of inv.0 c.in-Some.later.now c.loop-i.i c.index-later-i.result (subst AreOfOneSize (sym inv.1) c.requires.alike)
    c.loop-i-test.true c.index-later-i.is)

pub returns-in_err-write_text-clause-begun : goal.returns-in_err-write_text-clause-begun
returns-in_err-write_text-clause-begun g c =
    let p = err_from_is_err_and c.from_residual-in_err-write_text.result c.from_residual-in_err-write_text.ensures.1 in
    let contents = g.W.Write.contents in
    let inv = c.loop-i.invariant in
    let later = c.in-Some.later.now in
    let see = observes (memory.ghosts).look g.L.DecisionLog.moment in
    rw (p.1, p.2) (λ e. stops_in see c.args.log c.args.with_trace (map plan_of c.args.scenarios.now) c.loop-i.process
    (inv.0 ∷ map plan_of (take c.loop-i.i later)) (contents c.args.out.now) (contents c.loop-i.out) (contents c.write_text.new.out) inv.3
    _ _ (with_rest plan_of inv.0 later c.loop-i.i c.index-later-i.result c.loop-i-test.true ∙ inv.1)
    (subst (AppendsBeginning (contents c.loop-i.out) (contents c.write_text.new.out)) c.as_bytes.ensures.value
    c.in_err-write_text.ensures.begun))

pub returns-in_err-process-2-clause-stopped : goal.returns-in_err-process-2-clause-stopped
returns-in_err-process-2-clause-stopped g c =
    let p = err_from_is_err_and c.from_residual-in_err-process-2.result c.from_residual-in_err-process-2.ensures.1 in
    let contents = g.W.Write.contents in
    let inv = c.loop-i.invariant in
    let later = c.in-Some.later.now in
    let see = observes (memory.ghosts).look g.L.DecisionLog.moment in
    rw (p.1, p.2) (λ e. stops_between see c.args.log c.args.with_trace (map plan_of c.args.scenarios.now) c.loop-i.process
    (inv.0 ∷ map plan_of (take c.loop-i.i later)) (contents c.args.out.now) (contents c.loop-i.out) (contents c.write_text.new.out) inv.3
    _ _ (with_rest plan_of inv.0 later c.loop-i.i c.index-later-i.result c.loop-i-test.true ∙ inv.1)
    (subst (Appends (contents c.loop-i.out) (contents c.write_text.new.out)) c.as_bytes.ensures.value
    c.in_ok-write_text.ensures.whole))

pub returns-in_err-process-2-clause-log : goal.returns-in_err-process-2-clause-log
returns-in_err-process-2-clause-log g c =
    let p = err_from_is_err_and c.from_residual-in_err-process-2.result c.from_residual-in_err-process-2.ensures.1 in
    let contents = g.W.Write.contents in
    let inv = c.loop-i.invariant in
    let later = c.in-Some.later.now in
    let see = observes (memory.ghosts).look g.L.DecisionLog.moment in
    rw (p.1, p.2) (λ e. stops_behind see c.args.log c.args.with_trace (map plan_of c.args.scenarios.now) c.loop-i.process
    (inv.0 ∷ map plan_of (take c.loop-i.i later)) (contents c.args.out.now) (contents c.loop-i.out) (contents c.write_text.new.out) inv.3
    _ _ (with_rest plan_of inv.0 later c.loop-i.i c.index-later-i.result c.loop-i-test.true ∙ inv.1)
    g.L.DecisionLog (c.in_err-process-2.ensures.log (ap Err (same_err _ _ e))))

pub loop-i-preserved : goal.loop-i-preserved
loop-i-preserved g c =
    let contents = g.W.Write.contents in
    let inv = c.loop-i.invariant in
    let later = c.in-Some.later.now in
    let i = c.loop-i.i in
    let x = c.index-later-i.result in
    let next = c.in_ok-process-2.process in
    let see = observes (memory.ghosts).look g.L.DecisionLog.moment in
    let plans = inv.0 ∷ map plan_of (take i later) in
    let printed = inv.3 in (
      inv.0,
      inv.1,
      c.in_ok-process-2.ensures.count ∙ as_large plan_of inv.0 later i x (subst AreOfOneSize (sym inv.1) c.requires.alike)
          c.loop-i-test.true c.index-later-i.is,
      subst (λ ps. HavePrinted see c.args.log c.args.with_trace (map plan_of c.args.scenarios.now) next ps
          (contents c.args.out.now) (contents c.write_text.new.out))
          (ap (λ y. plans ++ plan_of y ∷ []) c.index-later-i.is ∙ sym (one_more plan_of inv.0 later i x c.loop-i-test.true))
          (printed_more see c.args.log c.args.with_trace (map plan_of c.args.scenarios.now) c.loop-i.process plans
          (contents c.args.out.now) (contents c.loop-i.out) (contents c.write_text.new.out) printed
          _ _ (with_rest plan_of inv.0 later i x c.loop-i-test.true ∙ inv.1)
          next (plans ++ plan_of x ∷ []) (heading (Some (i + 2)) ++ trace_lines 1 next.system.events)
          (subst (Appends (contents c.loop-i.out) (contents c.write_text.new.out)) c.as_bytes.ensures.value
          c.in_ok-write_text.ensures.whole) c.in_ok-process-2.ensures.text
          (c.in_ok-process-2.ensures.last c.args.log plans (printed.before ++ printed.piece)
          (counted plan_of inv.0 later i (omega (arith, c.loop-i-test.true))) printed.last)),
    )

pub returns-in_err-told-clause-stopped : goal.returns-in_err-told-clause-stopped
returns-in_err-told-clause-stopped g c =
    let p = err_from_is_err_and c.from_residual-in_err-told.result c.from_residual-in_err-told.ensures.1 in
    let printed = c.loop-i.invariant.3 in
    rw (p.1, p.2) (λ e. printed.so_far)

pub returns-clause-ok : goal.returns-clause-ok
returns-clause-ok g c =
    let contents = g.W.Write.contents in
    let inv = c.loop-i.invariant in
    let all = map plan_of c.args.scenarios.now in
    let see = observes (memory.ghosts).look g.L.DecisionLog.moment in
    let printed = subst (λ plans. HavePrinted see c.args.log c.args.with_trace all c.loop-i.process plans
    (contents c.args.out.now) (contents c.loop-i.out))
    (all_are plan_of inv.0 c.in-Some.later.now c.loop-i.i c.loop-i-test.false ∙ inv.1) inv.3 in
    inr (prints_all see c.args.log c.args.with_trace all c.loop-i.process
    (contents c.args.out.now) (contents c.loop-i.out) (contents c.write_text-2.new.out) printed
    (string_bytes c.in_ok-told.told.0) c.in_ok-told.ensures.text c.in_ok-told.told.1 c.in_ok-told.ensures.log
    (subst (Appends (contents c.loop-i.out) (contents c.write_text-2.new.out)) c.as_bytes-2.ensures.value c.in_ok-write_text-2.ensures.whole))

pub returns-in_err-write_text-2-clause-begun : goal.returns-in_err-write_text-2-clause-begun
returns-in_err-write_text-2-clause-begun g c =
    let p = err_from_is_err_and c.from_residual-in_err-write_text-2.result c.from_residual-in_err-write_text-2.ensures.1 in
    let contents = g.W.Write.contents in
    let inv = c.loop-i.invariant in
    let all = map plan_of c.args.scenarios.now in
    let see = observes (memory.ghosts).look g.L.DecisionLog.moment in
    let printed = subst (λ plans. HavePrinted see c.args.log c.args.with_trace all c.loop-i.process plans
    (contents c.args.out.now) (contents c.loop-i.out))
    (all_are plan_of inv.0 c.in-Some.later.now c.loop-i.i c.loop-i-test.false ∙ inv.1) inv.3 in
    rw (p.1, p.2) (λ e. begins_all see c.args.log c.args.with_trace all c.loop-i.process
    (contents c.args.out.now) (contents c.loop-i.out) (contents c.write_text-2.new.out) printed
    (string_bytes c.in_ok-told.told.0) c.in_ok-told.ensures.text
    (subst (AppendsBeginning (contents c.loop-i.out) (contents c.write_text-2.new.out)) c.as_bytes-2.ensures.value c.in_err-write_text-2.ensures.begun))
