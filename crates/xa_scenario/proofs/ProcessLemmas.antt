-- Processes in turn.
use Rattle.std.proofs.Common.{◌≡◌, ◌∙◌, ℕ, ◌+◌, List, [], ◌∷◌, ◌++◌, length, Option, Some, None, ap, refl, subst, sym}
use Rattle.std.specs.Option.{ok_or}
use Rattle.std.specs.Prelude.{Ok}
use Rattle.xa_base.specs.declared.branch.Gtrid.{Gtrid}
use Rattle.xa_files.specs.declared.fault.RunFault.TheVariants.{Log}
use Rattle.xa_log.specs.Content.{Content}
use Rattle.xa_log.specs.Contract.{Moment}
use Rattle.xa_log.specs.declared.decision_log.DecisionLog as DecisionLog
use Rattle.xa_model.specs.Promises.Processes.{OfProcesses.First as Begins, Resumes, joined}
use Rattle.xa_model.specs.Protocol.{AllRight, RightOrigin}
use Rattle.xa_model.specs.Replies.History.{history}
use Rattle.xa_model.specs.Trace.{Origin, Trace}
use Rattle.xa_model.proofs.ProcessLemmas.Joining.{gone_right, joined_faces, of_processes_right, resumes_both}
use Rattle.xa_scenario.specs.LogKeeping.{CannotGoOn, HasGoneOn, HasStarted}
use Rattle.xa_scenario.specs.Processes.{AddsStarted, AreProcesses, AreProcesses.First, AreProcesses.Next, HasPlayed, IsLast, IsProcess, Plays, Process, heading, process_of}
use Rattle.xa_scenario.specs.Replies.{trace_lines}
use Rattle.xa_scenario.specs.Runs.{IsStartOf}
use Rattle.xa_scenario_file.specs.Scenarios.{Plan}
use Rattle.xa_scenario.specs.declared.processes.Process.{Process as Played}
use Rattle.xa_scenario.proofs.StartLemmas.{in_slot, out_of_slot}
use Rattle.xa_system.specs.LogInHistory.{StartsOver}
use Rattle.xa_system.specs.NextProcess.{FindsNewer, Leaves}
use Rattle.xa_tm.specs.StartFaults.{IsToBlame}
use Rattle.xa_system.specs.SystemView.{MayRestart, Observes, SystemView, origin_in, trace_in}
use Rattle.xa_tm.specs.Slots.{log_held, order_in, slot_moment}
use Rattle.xa_tm.specs.declared.slot.Slot.{Slot}
use Rattle.std.proofs.Common.{IsSomeAnd, MatchOption, inl, inr, ◌⊎◌}
use Rattle.xa_rm.specs.Look.{Look}

-- ** the whole history

module _ {L : Type 0} (moment : L → Moment) (log : L) where
  -- it is right, if the logs are in order and honest
  pub all_right : (plans : List Plan) (whole : Trace) (last : Process L) (traces : List ℕ) → AreProcesses moment log plans whole last traces
      → (moment log).is_in_order → (left : L) → last.log ≡ Some left → (moment left).is_honest → AllRight whole
  all_right _ _ _ _ (First plan p is) order left at h = of_processes_right _ (Begins p.origin p.events is.right is.is.allowed)
  all_right _ _ _ _ (Next plans past before traces plan p are is) order left at h =
      let honest = is.is.honest left at h in
      let earlier = all_right plans past before traces are order is.found is.left (is.is.over.honest honest) in
      (joined_faces past p.origin p.events earlier (is.resumes order honest) is.is.allowed).0

  -- and what resumes the last process resumes it
  pub passes_on : (plans : List Plan) (whole : Trace) (last : Process L) (traces : List ℕ) → AreProcesses moment log plans whole last traces
      → (moment log).is_in_order → (left : L) → last.log ≡ Some left → (moment left).is_honest
      → (next : Origin) → Resumes (history last.origin last.events) next → Resumes whole next
  passes_on _ _ _ _ (First plan p is) order left at h next r = r
  passes_on _ _ _ _ (Next plans past before traces plan p are is) order left at h next r =
      let honest = is.is.honest left at h in
      let earlier = all_right plans past before traces are order is.found is.left (is.is.over.honest honest) in
      resumes_both _ _ _ next (gone_right past earlier) (joined_faces past p.origin p.events earlier (is.resumes order honest) is.is.allowed).1 r

-- ** why none can go on

-- a log that was there to go on with was left
pub left_there : {L : Type 0} (left : Option L) (log : L) → Ok log ≡ ok_or left Log → left ≡ Some log
left_there (Some other) log is = cc
left_there None log is = absurd (cc)

module _ {R L : Type 0} (look : R → Look) (logs : DecisionLog.Ghosts L) (s : SystemView R L) (log : L) (held : log_held s.log ≡ Some log) where
  abbrev Hinders : L → Type 0
  Hinders l = IsToBlame logs l ⊎ FindsNewer look logs s.rms l

  -- the log is to blame
  pub over_the_log : IsToBlame logs log → CannotGoOn look logs s
  over_the_log blamed = subst (λ (it : Option L). MatchOption it (Unit {0}) Hinders) (sym held) (inl blamed)

  -- some branch is newer
  pub over_a_branch : (rms : List R) → rms ≡ s.rms → FindsNewer look logs rms log → CannotGoOn look logs s
  over_a_branch rms same newer =
      subst (λ (it : Option L). MatchOption it (Unit {0}) Hinders) (sym held) (inr (subst (λ (xs : List R). FindsNewer look logs xs log) same newer))

-- ** one process

out_in_order : {L : Type 0} (moment : L → Moment) (slot : Slot L) (left : L) → log_held slot ≡ Some left → (slot_moment moment slot).is_in_order
    → (moment left).is_in_order
out_in_order moment slot left is h = subst (λ (it : Option _). order_in (λ l. (moment l).is_in_order) it) is h

module _ {R L : Type 0} (look : R → Look) (moment : L → Moment) where
  abbrev see : Observes R L
  see = record { look = look; moment = moment; place = slot_moment moment }

  -- a process as it started: its log is left so by the start
  record IsProcessFrom (found left : L) (gtrids : List Gtrid) (plan : Plan) (p : Process L) : Type 0 where
    is : IsProcess moment found gtrids plan p
    same : is.over.left ≡ left

  is_process : (found : L) (plan : Plan) (old_gtrids : List Gtrid) (begun : SystemView R L) (p : Played R L)
      (started : HasStarted see found begun) → begun.events ≡ [] → (origin_in look begun).threads ≡ plan.threads → (origin_in look begun).rms ≡ plan.rms
      → HasPlayed see plan old_gtrids p.gtrids.items begun p.system
      → IsProcessFrom found started.over.left old_gtrids plan (process_of see found p)
  is_process found plan old_gtrids begun p started empty threads rms played = record {
    is = record {
      over = record {
        left = started.over.left;
        honest = started.over.honest;
        held = λ order h. subst (λ o. IsSomeAnd (moment found).content (StartsOver o)) (sym played.start) (started.over.held order h);
      };
      threads = ap (λ (o : Origin). o.threads) played.start ∙ threads;
      rms = ap (λ (o : Origin). o.rms) played.start ∙ rms;
      played = subst (λ trace. Plays plan old_gtrids p.gtrids.items trace p.system.events) empty played.played;
      allowed = played.holds.allowed;
      order = λ left at order. out_in_order moment p.system.log left at
          (played.holds.log.order (subst (λ l. (moment l).is_in_order) (sym (played.log.handed ∙ started.handed)) order));
      honest = λ left at h. out_of_slot moment begun.log started.over.left started.is_left (played.log.honest (in_slot moment p.system.log left at h));
    };
    same = refl;
  }

  -- a system that was started over what another one left
  pub goes_on : (found : L) (rms : List R) (old new : SystemView R L) → log_held old.log ≡ Some found → HasStarted see found new
      → ((moment old.handed).is_in_order → (moment found).is_in_order)
      → ((moment old.handed).is_in_order → (slot_moment moment old.log).is_honest → MayRestart see old
      → (content : Content) → (moment found).content ≡ Some content → Leaves look (trace_in look old) rms content)
      → ((moment found).is_in_order → (slot_moment moment new.log).is_honest → IsSomeAnd (moment found).content (λ content. (past : Trace)
      → Leaves look past rms content → Resumes past (origin_in look new)))
      → HasGoneOn see old new
  goes_on found rms old new at started order left follows = record {
    found = found;
    left = at;
    started = started;
    order = order;
    resumes = λ first near h. by_content first near h (moment found).content refl (follows (order first) h);
  }
    where
      by_content : (moment old.handed).is_in_order → MayRestart see old → (slot_moment moment new.log).is_honest
          → (it : Option Content) → (moment found).content ≡ it → IsSomeAnd it (λ content. (past : Trace)
          → Leaves look past rms content → Resumes past (origin_in look new)) → Resumes (trace_in look old) (origin_in look new)
      by_content first near h None is follows = absurd follows
      by_content first near h (Some content) is follows = follows (trace_in look old)
          (left first (in_slot moment old.log found at (started.over.honest (out_of_slot moment new.log started.over.left started.is_left h))) near content is)

  -- the first one
  pub first_stands : (log : L) (plan : Plan) (begun : SystemView R L) (p : Played R L) → HasStarted see log begun → p.names.items ≡ []
      → begun.events ≡ [] → IsStartOf plan (origin_in look begun) → RightOrigin (origin_in look begun)
      → HasPlayed see plan [] p.gtrids.items begun p.system → IsLast see log (plan ∷ []) p (trace_lines 1 p.system.events)
  first_stands log plan begun p started none empty start right played =
      let from = is_process log plan [] begun p started empty start.threads start.rms played in
      record {
        whole = history (origin_in look p.system) p.system.events;
        are = First plan (process_of see log p) (record {
          is = from.is;
          names = none;
          start = subst (IsStartOf plan) (sym played.start) start;
          right = subst RightOrigin (sym played.start) right;
          headline = played.headline (subst RightOrigin (sym played.start) right);
        });
        order = λ order. subst (λ l. (moment l).is_in_order) (sym (played.log.handed ∙ started.handed)) order;
        near = λ order h.
            played.log.near (subst (λ l. (moment l).is_in_order) (sym started.handed) order) h (started.near order (played.log.honest h));
      }

  -- as many resource managers as there were
  pub still_counted : (plan : Plan) (old_gtrids gtrids : List Gtrid) (begun s : SystemView R L) (count : ℕ)
      → HasPlayed see plan old_gtrids gtrids begun s → length begun.start ≡ count → length s.rms ≡ count
  still_counted plan old_gtrids gtrids begun s count played is = played.holds.count ∙ ap (λ (o : Origin). o.rms) played.start ∙ is

  -- one more
  pub next_stands : (log : L) (number : ℕ) (plans : List Plan) (plan : Plan) (traces : List ℕ) (old : Played R L) (begun : SystemView R L) (p : Played R L)
      → number ≡ length plans + 1 → IsLast see log plans old traces → AddsStarted (trace_in look old.system) old.names.items p.names.items
      → HasGoneOn see old.system begun → begun.events ≡ [] → begun.lines.threads ≡ plan.threads → length begun.start ≡ plan.rms
      → HasPlayed see plan old.gtrids.items p.gtrids.items begun p.system
      → IsLast see log (plans ++ plan ∷ []) p (traces ++ (heading (Some number) ++ trace_lines 1 p.system.events))
  next_stands log number plans plan traces old begun p counted last listed gone empty threads rms played =
      let from = is_process gone.found plan old.gtrids.items begun p gone.started empty threads rms played in
      let before = process_of see log old in
      let next = process_of see log p in
      let slot : (moment from.is.over.left).is_honest → (slot_moment moment begun.log).is_honest =
      λ h. in_slot moment begun.log gone.started.over.left gone.started.is_left (subst (λ l. (moment l).is_honest) from.same h) in
      let resumes : (moment log).is_in_order → (moment from.is.over.left).is_honest → Resumes last.whole next.origin = λ order h.
      passes_on moment log plans last.whole before traces last.are order gone.found gone.left (from.is.over.honest h) next.origin
      (subst (Resumes (trace_in look old.system)) (sym played.start)
      (gone.resumes (last.order order) (last.near order (in_slot moment old.system.log gone.found gone.left (from.is.over.honest h))) (slot h))) in
      record {
        whole = joined last.whole next.origin next.events;
        are = subst (λ n. AreProcesses moment log (plans ++ plan ∷ []) (joined last.whole next.origin next.events) next
            (traces ++ (heading (Some n) ++ trace_lines 1 next.events))) (sym counted)
            (Next plans last.whole before traces plan next last.are (record {
              found = gone.found;
              left = gone.left;
              is = from.is;
              listed = listed;
              resumes = resumes;
              headline = λ order h. played.resumed last.whole
                  (all_right moment log plans last.whole before traces last.are order gone.found gone.left (from.is.over.honest h)) (resumes order h);
            }));
        order = λ order. subst (λ l. (moment l).is_in_order) (sym (played.log.handed ∙ gone.started.handed)) (gone.order (last.order order));
        near = λ order h. played.log.near (subst (λ l. (moment l).is_in_order) (sym gone.started.handed) (gone.order (last.order order))) h
            (gone.started.near (gone.order (last.order order)) (played.log.honest h));
      }
