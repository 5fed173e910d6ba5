-- A run of one scenario: of processes of one plan there is the first one, and no other.
use Rattle.std.proofs.Common.{◌≡◌, ◌∙◌, ◌≤◌, ◌⊎◌, ℕ, Bool, List, [], ◌∷◌, ◌++◌, length, length-append, Option, Ok, IsOk, inl, inr, arith, append-nil, ap, refl, subst, sym}
use Rattle.std.specs.Io.KnownBytes.{Keeps}
use Rattle.std.specs.Map.{keys_of}
use Rattle.xa_base.specs.Xid.{Xid}
use Rattle.xa_base.specs.declared.state.Fate.{Fate}
use Rattle.xa_files.specs.Fates.{fate_lines}
use Rattle.xa_files.specs.Reading.{SaysOfReading}
use Rattle.xa_files.specs.declared.fault.RunFault.{RunFault}
use Rattle.xa_files.specs.declared.fault.RunFault.TheVariants.{Output}
use Rattle.xa_log.specs.Contract.{Moment}
use Rattle.xa_log.specs.declared.decision_log.DecisionLog as DecisionLog
use Rattle.xa_model.specs.Trace.{Trace}
use Rattle.xa_scenario_file.specs.Files.{AreOfOneSize}
use Rattle.xa_scenario.specs.Processes.{AreProcesses, AreProcesses.First, AreProcesses.Next, AreTold, IsFirst, LogStops, PrintsProcesses, Process, StopsAnywhere, StopsBetween, process_of}
use Rattle.xa_scenario.specs.Replies.{trace_lines}
use Rattle.xa_scenario.specs.Runs.{Begins, IsPrinted, IsRunOf, IsStartFault, IsTextOf, Prints, shown}
use Rattle.xa_scenario_file.specs.Scenarios.{IsSized, Plan, scenario_of}
use Rattle.xa_scenario.proofs.PlayLemmas.{performs_also}
use Rattle.xa_system.specs.SystemView.{Observes}
use Rattle.xa_tm.specs.StartFaults.{IsToBlame}
use Rattle.std.proofs.lemmas.List.Elements.{All-cons, All-nil}

-- ** one plan

-- it is of one size
pub of_one_size : (plan : Plan) → IsSized plan → AreOfOneSize (plan ∷ [])
of_one_size plan sized = record {
  threads = plan.threads;
  rms = plan.rms;
  some_threads = sized.threads;
  some_rms = sized.rms;
  each = All-cons (λ (p : Plan). (p.threads ≡ plan.threads) × (p.rms ≡ plan.rms)) plan [] (refl, refl) (All-nil _);
}

module _ {L : Type 0} (moment : L → Moment) (log : L) where
  some_plan : (plans : List Plan) (whole : Trace) (last : Process L) (traces : List ℕ) → AreProcesses moment log plans whole last traces → 1 ≤ length plans
  some_plan _ _ _ _ (First plan p first) = omega arith
  some_plan _ _ _ _ (Next plans past before traces plan p are next) = omega (arith, length-append plans (plan ∷ []))

  -- if some are processes and another is left, there are two
  two_plans : (first : List Plan) (next : Plan) (later : List Plan) (plan : Plan) (whole : Trace) (last : Process L) (traces : List ℕ)
      → AreProcesses moment log first whole last traces → first ++ next ∷ later ≡ plan ∷ [] → ⊥
  two_plans first next later plan whole last traces run are =
      let count : length (first ++ next ∷ later) ≡ 1 = ap length are in
      omega (arith, some_plan first whole last traces run, count, length-append first (next ∷ later))

  -- the process of one plan is the first
  first_is : (plans : List Plan) (whole : Trace) (last : Process L) (traces : List ℕ) → AreProcesses moment log plans whole last traces
      → (plan : Plan) → plans ≡ plan ∷ [] → IsFirst moment log plan last × (traces ≡ trace_lines 1 last.events)
  first_is _ _ _ _ (First one p first) plan same = (subst (λ q. IsFirst moment log q p) (let e : one ≡ plan = cc in e) first, refl)
  first_is _ _ _ _ (Next plans past before traces one p are next) plan same =
      let count : length (plans ++ one ∷ []) ≡ 1 = ap length same in
      absurd (omega (arith, some_plan plans past before traces are, count, length-append plans (one ∷ [])))

-- ** what it does and prints

no_fates : (fates : List (Xid × Fate)) → keys_of fates ≡ [] → fates ≡ []
no_fates [] none = refl
no_fates (line ∷ fates) none = absurd (cc)

module _ {L : Type 0} (moment : L → Moment) (log : L) (plan : Plan) where
  pub is_first : (whole : Trace) (p : Process L) (traces : List ℕ) → AreProcesses moment log (plan ∷ []) whole p traces → IsFirst moment log plan p
  is_first whole p traces run = (first_is moment log (plan ∷ []) whole p traces run plan refl).0

  -- it is a run of its scenario
  pub is_run : (p : Process L) → IsFirst moment log plan p → IsRunOf plan p.origin p.events
  is_run p first =
      record { start = first.start; played = performs_also (λ steps h. h.0) first.is.played; allowed = first.is.allowed; headline = first.headline }

  -- its report is all that is told of branches
  told_one : (with_trace : Bool) (last : Process L) (text : List ℕ) → AreTold moment log (plan ∷ []) with_trace last text
      → IsTextOf plan with_trace last.origin text
  told_one with_trace last text told =
      let first = first_is moment log (plan ∷ []) told.whole last told.traces told.run plan refl in
      let own = fate_lines told.fates.own in
      let none : told.fates.earlier ≡ [] = no_fates told.fates.earlier (told.fates.told.listed ∙ first.0.names) in
      record {
        events = last.events;
        fates = told.fates.own;
        run = is_run last first.0;
        report = told.fates.report;
        spelled = told.fates.spelled ∙ ap (λ fates. shown with_trace told.traces ++ fate_lines fates ++ own) none
            ∙ ap (λ t. t ++ own) (append-nil (shown with_trace told.traces)) ∙ ap (λ t. shown with_trace t ++ own) first.1;
      }

  module _ (text : List ℕ) (with_trace : Bool) (reads : scenario_of text ≡ Ok plan) where
    is_printed : (last : Process L) (printed : List ℕ) → AreTold moment log (plan ∷ []) with_trace last printed
        → IsPrinted moment log text with_trace printed
    is_printed last printed told = record {
      plan = plan;
      origin = last.origin;
      reads = reads;
      over = (is_first told.whole last told.traces told.run).is.over;
      run = told_one with_trace last printed told;
    }

    pub prints_one : (left : Option L) (old new : Option (List ℕ)) → PrintsProcesses moment log (plan ∷ []) with_trace left old new
        → Prints moment log text with_trace old new
    prints_one left old new prints = (prints.text, is_printed prints.last prints.text prints.told, prints.writes)

    pub begins_one : (old new : Option (List ℕ)) → StopsAnywhere moment log (plan ∷ []) with_trace old new → Begins moment log text with_trace old new
    begins_one old new (inl h) = absurd (two_plans moment log h.1.first h.1.next h.1.later plan h.1.whole h.1.last h.1.text h.1.run h.1.are)
    begins_one old new (inr h) = (h.text, is_printed h.last h.text h.told, h.begins)

  -- nothing is printed before all is
  pub keeps_one : (with_trace : Bool) (old new : Option (List ℕ)) → StopsBetween moment log (plan ∷ []) with_trace old new → Keeps old new
  keeps_one with_trace old new (inl keeps) = keeps
  keeps_one with_trace old new (inr h) =
      absurd (two_plans moment log h.1.first h.1.next h.1.later plan h.1.whole h.1.last h.1.text h.1.run h.1.are)

-- ** why it ends early

-- its log is to blame, since no other process goes on after it
pub blamed : {R L : Type 0} (see : Observes R L) (log : L) (logs : DecisionLog.Ghosts L) (plan : Plan) → LogStops see log logs (plan ∷ [])
    → IsToBlame logs log
blamed see log logs plan (inl it) = it
blamed see log logs plan (inr h) =
    absurd (two_plans see.moment log h.first h.next h.later plan h.last.whole (process_of see log h.process) h.traces h.last.are h.are)

-- the text was read then
pub says_read : (fault : RunFault) (text : List ℕ) (plan : Plan) → scenario_of text ≡ Ok plan → IsStartFault fault ⊎ (fault ≡ Output)
    → SaysOfReading fault (scenario_of text)
says_read fault text plan reads (inl (inl is)) = subst (λ (f : RunFault). SaysOfReading f (scenario_of text)) (sym is) (subst IsOk (sym reads) refl)
says_read fault text plan reads (inl (inr is)) = subst (λ (f : RunFault). SaysOfReading f (scenario_of text)) (sym is) tt
says_read fault text plan reads (inr is) = subst (λ (f : RunFault). SaysOfReading f (scenario_of text)) (sym is) (subst IsOk (sym reads) refl)
