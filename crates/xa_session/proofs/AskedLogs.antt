-- What is left of a session if the log may have been asked.
use Rattle.std.proofs.Common.{◌≡◌, ◌≢◌, ℕ, ◌+◌, ◌⊎◌, inl, inr, true, false, List, length, Option, Some, None, refl, sym, ap, ◌∙◌, subst}
use Rattle.std.specs.Prelude.{Result, Ok, Err, OnOk, IfErr}
use Rattle.xa_base.specs.declared.refusal.Refusal.{Refusal}
use Rattle.xa_base.specs.declared.refusal.Refusal.TheVariants.{LogFault}
use Rattle.xa_base.proofs.Options.{err_is}
use Rattle.xa_line.specs.Grid.{Grid}
use Rattle.xa_model.specs.Trace.{Fault, Happening, Happening.Failed, Happening.Nothing}
use Rattle.xa_tm.specs.Book.{after_all, Doubt, Doubt.NoDoubt}
use Rattle.xa_monitor.specs.Monitor.{SaysTheSame, states_of}
use Rattle.xa_tm.specs.Calls.{FailsBy, book_in, log_in}
use Rattle.xa_tm.specs.declared.manager.Manager.{Manager}
use Rattle.xa_session.specs.Following.{StaysAs}
use Rattle.xa_session.specs.Headroom.{MayHappen}
use Rattle.xa_session.specs.Session.{AllHeard, IsReady, happenings_by, has_room_for, is_over, lines_by}
use Rattle.xa_session.specs.declared.session.Session.{Session}
use Rattle.xa_session.proofs.Headroom.{MayHappenInTurn}
use Rattle.xa_session.proofs.Sessions.{all_new, has_few, refused_or, room_free, same_leaves, same_session, step_leaves, steps_leave}

abbrev IsKept : Refusal → Type 0
IsKept q = ((count n : ℕ) → happenings_by (let x : Result (Unit {0}) Refusal = Err q in x) count n ≡ n)
    × ((g : Grid) → lines_by (let x : Result (Unit {0}) Refusal = Err q in x) g ≡ g)

fault_or_kept : (q : Refusal) → (q ≡ LogFault) ⊎ IsKept q
fault_or_kept LogFault = inl refl
fault_or_kept _ = inr (λ count n. refl, λ g. refl)

module _ {L : Type 0} (old new : Session L) (m : Manager L) (counted : ℕ) where
  -- what the session makes of its manager's reply
  pub record Concludes (reply : Result (Unit {0}) Refusal) : Type 0 where
    pub manager : new.manager ≡ m
    pub lines : new.lines ≡ lines_by reply old.lines
    pub happenings : new.happenings ≡ happenings_by reply counted old.happenings

  abbrev fault_of : Refusal → Result (Unit {0}) Refusal
  fault_of q = Err q

  kept_ready : (q : Refusal) → IsReady old → Concludes (fault_of q) → IsKept q → book_in m ≡ book_in old.manager → IsReady new
  kept_ready q ready done kept book =
      same_leaves old new ready (done.happenings ∙ kept.0 counted old.happenings) (ap book_in done.manager ∙ book) (done.lines ∙ kept.1 old.lines)

  -- the session is ready after a call that failed
  pub failed : (asked : Doubt) (f : Fault) (q : Refusal) → IsReady old → is_over old ≡ false → Concludes (fault_of q)
      → MayHappen (book_in old.manager) (Failed f)
      → FailsBy asked f (book_in old.manager) (book_in m) q → IsReady new
  failed asked f q ready free done may_fail fails = by fails (fault_or_kept q) (λ kept book. kept_ready q ready done kept book)
    where
      lines_heard : q ≡ LogFault → AllHeard new.lines
      lines_heard fault =
          subst AllHeard (sym (done.lines ∙ ap (λ n. lines_by (fault_of n) old.lines) fault)) (all_new old.lines.threads old.lines.rms)

      count : q ≡ LogFault → new.happenings ≡ old.happenings + 1
      count fault = done.happenings ∙ ap (λ n. happenings_by (fault_of n) counted old.happenings) fault

      by : FailsBy asked f (book_in old.manager) (book_in m) q → (q ≡ LogFault) ⊎ IsKept q
          → (IsKept q → book_in m ≡ book_in old.manager → IsReady new) → IsReady new
      by (inl memory) (inl fault) same =
          step_leaves old new NoDoubt Nothing ready (has_few old free) tt (count fault) (ap book_in done.manager ∙ memory.1) (lines_heard fault)
      by (inl memory) (inr kept) same = same kept memory.1
      by (inr fails) _ same =
          step_leaves old new asked (Failed f) ready (has_few old free) may_fail (count fails.0) (ap book_in done.manager ∙ fails.1) (lines_heard fails.0)

  -- the session is ready after it
  pub concluded : (why : Option Refusal) (asked : Doubt) (f : Fault) (es : List Happening) (reply : Result (Unit {0}) Refusal) → IsReady old
      → has_room_for old counted ≡ true → counted ≡ length es → Concludes reply → MayHappen (book_in old.manager) (Failed f) → (why ≡ Some LogFault → ⊥)
      → ((n : Refusal) → why ≡ Some n → (reply ≡ Err n) × (m ≡ old.manager))
      → OnOk reply (MayHappenInTurn (book_in old.manager) es)
      → OnOk reply (book_in m ≡ after_all (book_in old.manager) es)
      → (why ≡ None → IfErr reply (FailsBy asked f (book_in old.manager) (book_in m))) → IsReady new
  concluded why asked f es (Ok u) ready room count done may_fail never refused may is err =
      steps_leave old new es ready (subst (λ n. has_room_for old n ≡ true) count room) may (done.happenings ∙ ap (λ n. old.happenings + n) count)
      (ap book_in done.manager ∙ is) (subst AllHeard (sym done.lines) ready.heard)
  concluded why asked f es (Err q) ready room count done may_fail never refused may is err =
      by why refl (fault_or_kept q)
      (λ none. failed asked f q ready (room_free old counted room) done may_fail (err none)) (λ kept book. kept_ready q ready done kept book)
    where
      by : (o : Option Refusal) → why ≡ o → (q ≡ LogFault) ⊎ IsKept q
          → (why ≡ None → IsReady new) → (IsKept q → book_in m ≡ book_in old.manager → IsReady new) → IsReady new
      by (Some n) is (inl fault) none same = absurd (never (is ∙ ap (λ p. Some p) (sym (err_is q n (refused n is).0) ∙ fault)))
      by (Some n) is (inr kept) none same = same kept (ap book_in (refused n is).1)
      by None is which none same = none is

  -- it stays as it was after a call that failed without the log's fault
  pub kept_stays : (q : Refusal) → Concludes (fault_of q) → SaysTheSame old.monitor new.monitor → book_in m ≡ book_in old.manager
      → log_in m ≡ log_in old.manager → q ≢ LogFault → StaysAs old new
  kept_stays q done same book log not = by (fault_or_kept q)
    where
      by : (q ≡ LogFault) ⊎ IsKept q → StaysAs old new
      by (inl fault) = absurd (not fault)
      by (inr kept) = record {
        book = ap book_in done.manager ∙ book;
        log = ap log_in done.manager ∙ log;
        lines = done.lines ∙ kept.1 old.lines;
        happenings = done.happenings ∙ kept.0 counted old.happenings;
        states = same;
      }

  pub book_kept : (asked : Doubt) (f : Fault) (q : Refusal) → FailsBy asked f (book_in old.manager) (book_in m) q → q ≢ LogFault
      → book_in m ≡ book_in old.manager
  book_kept asked f q (inl memory) not = memory.1
  book_kept asked f q (inr fails) not = absurd (not fails.0)

  pub concluded_stays : (why : Option Refusal) (asked : Doubt) (f : Fault) (reply result : Result (Unit {0}) Refusal) → Concludes reply → result ≡ reply
      → new.monitor ≡ old.monitor → ((n : Refusal) → why ≡ Some n → (reply ≡ Err n) × (m ≡ old.manager))
      → (why ≡ None → IfErr reply (FailsBy asked f (book_in old.manager) (book_in m)))
      → IfErr reply (λ n. n ≢ LogFault → log_in m ≡ log_in old.manager) → IfErr result (λ n. n ≢ LogFault → StaysAs old new)
  concluded_stays why asked f (Ok u) result done same monitor refused err log =
      subst (λ r. IfErr r (λ n. n ≢ LogFault → StaysAs old new)) (sym same) tt
  concluded_stays why asked f (Err q) result done same monitor refused err log =
      subst (λ r. IfErr r (λ n. n ≢ LogFault → StaysAs old new)) (sym same) (λ not.
      kept_stays q done (λ b. ap (λ n. states_of n b) monitor)
      (refused_or why _ _ (λ n is. ap book_in (refused n is).1) (λ none. book_kept asked f q (err none) not)) (log not) not)

  -- and its book is as its manager left it, if no rule refuses
  pub concluded_err : (why session_why : Option Refusal) (asked : Doubt) (f : Fault) (reply result : Result (Unit {0}) Refusal) → session_why ≡ why
      → Concludes reply → result ≡ reply → (why ≡ None → IfErr reply (FailsBy asked f (book_in old.manager) (book_in m)))
      → session_why ≡ None → IfErr result (FailsBy asked f (book_in old.manager) (book_in new.manager))
  concluded_err why session_why asked f reply result is done same err none =
      subst (λ r. IfErr r (FailsBy asked f (book_in old.manager) (book_in new.manager))) (sym same)
      (subst (λ n. IfErr reply (FailsBy asked f (book_in old.manager) (book_in n))) (sym done.manager) (err (sym is ∙ none)))

  -- what a rule refuses is refused, and changes nothing
  pub concluded_refused : (why session_why : Option Refusal) (reply result : Result (Unit {0}) Refusal) (n : Refusal) → session_why ≡ why
      → (why ≡ Some LogFault → ⊥) → Concludes reply → result ≡ reply → new.monitor ≡ old.monitor
      → ((n : Refusal) → why ≡ Some n → (reply ≡ Err n) × (m ≡ old.manager)) → session_why ≡ Some n → (result ≡ Err n) × (new ≡ old)
  concluded_refused why session_why reply result n is never done same monitor refused some =
      let found = refused n (sym is ∙ some) in
      (same ∙ found.0, by found.0 found.1 (fault_or_kept n))
    where
      by : reply ≡ Err n → m ≡ old.manager → (n ≡ LogFault) ⊎ IsKept n → new ≡ old
      by told left (inl fault) = absurd (never (sym is ∙ some ∙ ap (λ x. Some x) fault))
      by told left (inr kept) =
          let lines = done.lines ∙ ap (λ r. lines_by r old.lines) told ∙ kept.1 old.lines in
          let count = done.happenings ∙ ap (λ r. happenings_by r counted old.happenings) told ∙ kept.0 counted old.happenings in
          same_session new old (done.manager ∙ left) lines monitor count
