-- What is printed of processes in turn.
use Rattle.std.proofs.Common.{◌≡◌, ◌∙◌, ◌+◌, ◌<◌, ◌≤◌, ℕ, zero, suc, Bool, true, false, arith, List, [], ◌∷◌, ◌++◌, map, take, drop, length, get_or, Option, inl, inr, string_bytes, ap, refl, subst, sym, append_assoc}
use Rattle.std.proofs.KnownBytes.{Appends-nil}
use Rattle.std.specs.Io.KnownBytes.{Appends}
use Rattle.std.proofs.lemmas.List.{at_drop_more, length-map, length-take-le, map-append, map_push, take-append-drop, take_more}
use Rattle.xa_files.proofs.OutputLemmas.{both_written}
use Rattle.xa_files.specs.Fates.{fate_lines}
use Rattle.xa_files.specs.Outputs.{AppendsBeginning}
use Rattle.xa_log.specs.declared.decision_log.DecisionLog as DecisionLog
use Rattle.xa_scenario.specs.Processes.{AddsFates, AreTold, AreTraces, IsLast, LogStops, PrintsProcesses, StopsAnywhere, StopsBetween, process_of}
use Rattle.xa_scenario.specs.LogKeeping.{CannotGoOn}
use Rattle.xa_scenario.specs.Runs.{shown}
use Rattle.xa_scenario_file.specs.Scenarios.{Plan}
use Rattle.xa_scenario.specs.declared.processes.Process.{Process as Played}
use Rattle.xa_system.specs.SystemView.{Observes, origin_in}
use Rattle.xa_tm.specs.Slots.{log_held}

shown_both : (with_trace : Bool) (xs ys : List ℕ) → shown with_trace (xs ++ ys) ≡ shown with_trace xs ++ shown with_trace ys
shown_both true xs ys = refl
shown_both false xs ys = refl

-- nothing is written of nothing
pub nothing_written : (with_trace : Bool) (old : Option (List ℕ)) → Appends old old (shown with_trace [])
nothing_written true old = Appends-nil old
nothing_written false old = Appends-nil old

begins_behind : (old mid new : Option (List ℕ)) (xs ys : List ℕ) → Appends old mid xs → AppendsBeginning mid new ys → AppendsBeginning old new (xs ++ ys)
begins_behind old mid new xs ys first second = (
  second.0,
  record {
    written = xs ++ second.1.written;
    whole = ap (λ zs. xs ++ zs) second.1.whole ∙ sym (append_assoc xs second.1.written second.0);
    appends = both_written old mid new xs second.1.written first second.1.appends;
  },
)

module _ {R L : Type 0} (see : Observes R L) (log : L) (with_trace : Bool) (all : List Plan) where
  -- processes of these plans, the first of all, have printed all their traces but that of the last
  -- one
  pub record HavePrinted (p : Played R L) (plans : List Plan) (old now : Option (List ℕ)) : Type 0 where
    pub before : List ℕ
    pub piece : List ℕ
    pub last : IsLast see log plans p (before ++ piece)
    pub spelled : string_bytes p.text ≡ shown with_trace piece
    pub so_far : StopsBetween see.moment log all with_trace old now
    pub written : Appends old now (shown with_trace before)

  module _ (p : Played R L) (plans : List Plan) (old now new : Option (List ℕ)) (printed : HavePrinted p plans old now) where
    abbrev traces : List ℕ
    traces = printed.before ++ printed.piece

    spelled_both : shown with_trace printed.before ++ string_bytes p.text ≡ shown with_trace traces
    spelled_both = ap (λ t. shown with_trace printed.before ++ t) printed.spelled ∙ sym (shown_both with_trace printed.before printed.piece)

    all_written : Appends now new (string_bytes p.text) → Appends old new (shown with_trace traces)
    all_written more =
        subst (Appends old new) spelled_both (both_written old now new (shown with_trace printed.before) (string_bytes p.text) printed.written more)

    module _ (next : Plan) (later : List Plan) (are : plans ++ next ∷ later ≡ all) where
      traced : AreTraces see.moment log all with_trace (shown with_trace traces)
      traced = record {
        first = plans;
        next = next;
        later = later;
        are = are;
        whole = printed.last.whole;
        last = process_of see log p;
        text = traces;
        run = printed.last.are;
        spelled = refl;
      }

      -- it is written, and nothing more comes
      pub stops_between : Appends now new (string_bytes p.text) → StopsBetween see.moment log all with_trace old new
      stops_between more = inr (shown with_trace traces, traced, all_written more)

      -- a write of it failed
      pub stops_in : AppendsBeginning now new (string_bytes p.text) → StopsAnywhere see.moment log all with_trace old new
      stops_in begun = inl (
        shown with_trace traces,
        traced,
        subst (AppendsBeginning old new) spelled_both
            (begins_behind old now new (shown with_trace printed.before) (string_bytes p.text) printed.written begun),
      )

      -- none can go on from it
      pub stops_behind : (logs : DecisionLog.Ghosts L) → CannotGoOn see.look logs p.system → LogStops see log logs all
      stops_behind logs stops = inr (record {
        first = plans;
        next = next;
        later = later;
        are = are;
        process = p;
        traces = traces;
        last = printed.last;
        stops = stops;
      })

      -- it is written, and another process comes
      pub printed_more : (other : Played R L) (more : List Plan) (piece : List ℕ)
          → Appends now new (string_bytes p.text) → string_bytes other.text ≡ shown with_trace piece
          → IsLast see log more other ((printed.before ++ printed.piece) ++ piece) → HavePrinted other more old new
      printed_more other more piece written spelled last = record {
        before = traces;
        piece = piece;
        last = last;
        spelled = spelled;
        so_far = stops_between written;
        written = all_written written;
      }

  -- its text with the fates after it
  module _ (p : Played R L) (old now new : Option (List ℕ)) (printed : HavePrinted p all old now)
      (whole : List ℕ) (ends : AddsFates (origin_in see.look p.system) p.system.events p.names.items (string_bytes p.text) whole) where
    ends_so : shown with_trace printed.before ++ whole
        ≡ shown with_trace (printed.before ++ printed.piece) ++ fate_lines ends.earlier ++ fate_lines ends.own
    ends_so = ap (λ t. shown with_trace printed.before ++ t) ends.spelled
        ∙ sym (append_assoc (shown with_trace printed.before) (string_bytes p.text ++ fate_lines ends.earlier) (fate_lines ends.own))
        ∙ ap (λ t. t ++ fate_lines ends.own) (sym (append_assoc (shown with_trace printed.before) (string_bytes p.text) (fate_lines ends.earlier))
        ∙ ap (λ t. t ++ fate_lines ends.earlier) (spelled_both p all old now now printed))

    are_told : AreTold see.moment log all with_trace (process_of see log p) (shown with_trace printed.before ++ whole)
    are_told = record {
      whole = printed.last.whole;
      traces = printed.before ++ printed.piece;
      run = printed.last.are;
      fates = record { earlier = ends.earlier; own = ends.own; told = ends.told; report = ends.report; spelled = ends_so };
    }

    pub prints_all : (left : Option L) → left ≡ log_held p.system.log → Appends now new whole
        → PrintsProcesses see.moment log all with_trace left old new
    prints_all left leaves more = record {
      last = process_of see log p;
      text = shown with_trace printed.before ++ whole;
      told = are_told;
      leaves = leaves;
      writes = both_written old now new (shown with_trace printed.before) whole printed.written more;
    }

    pub begins_all : AppendsBeginning now new whole → StopsAnywhere see.moment log all with_trace old new
    begins_all begun = inr (record {
      last = process_of see log p;
      text = shown with_trace printed.before ++ whole;
      told = are_told;
      begins = begins_behind old now new (shown with_trace printed.before) whole printed.written begun;
    })

-- ** the scenarios so far

take_all : {X : Type 0} (xs : List X) (i : ℕ) → length xs ≤ i → take i xs ≡ xs
take_all [] zero past = refl
take_all [] (suc i) past = refl
take_all (x ∷ xs) zero past = absurd (omega (arith, past))
take_all (x ∷ xs) (suc i) past = ap (λ l. x ∷ l) (take_all xs i (omega (arith, past)))

module _ {X : Type 0} (f : X → Plan) (plan : Plan) (later : List X) (i : ℕ) where
  pub one_more : (x : X) → i < length later → plan ∷ map f (take (i + 1) later) ≡ (plan ∷ map f (take i later)) ++ f (get_or later i x) ∷ []
  one_more x within =
      ap (λ xs. plan ∷ map f xs) (take_more later i x within) ∙ ap (λ ps. plan ∷ ps) (map_push f (take i later) (get_or later i x))

  pub counted : i ≤ length later → i + 2 ≡ length (plan ∷ map f (take i later)) + 1
  counted within = omega (arith, length-map (take i later) f, length-take-le i later within)

  pub with_rest : (x : X) → i < length later → (plan ∷ map f (take i later)) ++ f (get_or later i x) ∷ map f (drop (i + 1) later) ≡ plan ∷ map f later
  with_rest x within =
      ap (λ ps. (plan ∷ map f (take i later)) ++ ps) (sym (at_drop_more (map f) later i x within))
      ∙ ap (λ ps. plan ∷ ps) (sym (map-append f (take i later) (drop i later)) ∙ ap (map f) (take-append-drop i later))

  pub all_are : length later ≤ i → plan ∷ map f (take i later) ≡ plan ∷ map f later
  all_are past = ap (λ xs. plan ∷ map f xs) (take_all later i past)
