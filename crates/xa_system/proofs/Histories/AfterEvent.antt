-- A sound system after one event more.
use Rattle.std.proofs.Common.{◌≡◌, ◌≢◌, true, false, ◌<◌, ◌+◌, [], ◌∷◌, ◌++◌, refl, sym, ap, subst, ◌∙◌, arith, Global, Vec, Some}
use Rattle.std.specs.Prelude.{IsSomeAnd, vec_len}
use Rattle.std.specs.Vec.{vec_capacity}
use Rattle.std.specs.Option.{option_map}
use Rattle.std.proofs.lemmas.Option.{slice_get-map}
use Rattle.xa_tm.proofs.History.Limits.{events_happen}
use Rattle.xa_tm.proofs.Log.Leaves.{left_up}
use Rattle.xa_model.specs.Replies.Allowed.{Allowed}
use Rattle.xa_model.specs.Facts.{up}
use Rattle.xa_base.specs.Xid.{Xid}
use Rattle.xa_model.specs.Replies.History.{AreAllowed, history, reply_of, step_of}
use Rattle.xa_model.specs.Replies.Steps.{happened, log_failed}
use Rattle.xa_model.specs.Trace.{Trace, Trace.Then}
use Rattle.xa_base.specs.declared.reply.Event.{Event}
use Rattle.xa_base.specs.declared.reply.Reply.{Reply}
use Rattle.xa_base.specs.declared.step.Step.{Step}
use Rattle.xa_model.proofs.Replies.Pushes.{allowed_push, history_push}
use Rattle.xa_system.specs.Parts.{GoesOn, Sees, Stands, StandsSomewhere}
use Rattle.xa_system.specs.declared.system.TheConstants.{EVENT_LIMIT}
use Rattle.xa_base.specs.declared.refusal.Refusal.{Refusal}
use Rattle.xa_base.specs.declared.refusal.Refusal.TheVariants as Refusals
use Rattle.xa_base.specs.declared.reply.Reply.TheVariants as Replies
use Rattle.xa_system.specs.LogInHistory.{AreTied, IsBeforeNext, IsDurable, MayHaveFailed, MayRestartOver, StartsOver}
use Rattle.xa_system.specs.Steps.{IsSame}
use Rattle.xa_system.specs.SystemView.{FaultsHaveCauses, IsAsBefore, IsSound, KeepsLog, MayRestart, MayRestartAfterCrash, OtherFaultsHaveCauses, observes_parts, system_view_of, start_of}
use Rattle.xa_system.specs.declared.parts.Parts.{Parts}
use Rattle.xa_system.specs.declared.site.Site.{Site}
use Rattle.xa_system.specs.declared.system.System.TheInside.{Inside}
use Rattle.xa_system.proofs.Log.FaultCounts.{causes_more, falls, is_fault_event, is_other_fault, other_rises, rises}
use Rattle.xa_system.proofs.Log.Laws.{near_restarts, restarts_near}
use Rattle.xa_log.specs.Contract.{Moment}
use Rattle.xa_tm.specs.Calls.{book_in, log_in}
use Rattle.xa_tm.specs.declared.slot.Slot.{Slot}
use Rattle.xa_tm.specs.Limits.{happenings}
use Rattle.xa_tm.specs.BookAndLog.{IsTied}
use Rattle.xa_system.proofs.Histories.SystemView.{mapped_at}

module _ {R L : Type 0} (see : Sees R (Slot L)) (moment : L → Moment) where
  -- what a crash may leave is tied with its incarnation, if that is one that a restart may follow
  near_left : (a : Inside R L) → IsSound see moment a → (moment a.handed.value).is_in_order → (see.moment (log_in a.parts.manager)).is_honest
      → MayRestartAfterCrash (observes_parts see moment) (system_view_of a)
      → AreTied true (book_in a.parts.manager) (see.moment (log_in a.parts.manager)).may_leave
  near_left a sound order honest may c left =
      subst (λ k. IsTied true k (Some c)) (sym sound.stands.book)
      (restarts_near (history (start_of see moment a.parts) a.events.items) (Some c)
      (subst (λ k. IsTied false k (Some c)) sound.stands.book (sound.log.left order honest c left))
      (λ d is. subst (IsBeforeNext (history (start_of see moment a.parts) a.events.items)) (let same : c ≡ d = cc in same) (may c left)))

  -- if a restart may follow, the log is tied with its incarnation
  near_tied : (a : Inside R L) → IsSound see moment a → (moment a.handed.value).is_in_order → (see.moment (log_in a.parts.manager)).is_honest
      → MayRestart (observes_parts see moment) (system_view_of a) → IsTied true (book_in a.parts.manager) (see.moment (log_in a.parts.manager)).content
  near_tied a sound order honest may =
      let held = (see.moment (log_in a.parts.manager)).content in
      subst (λ k. IsTied true k held) (sym sound.stands.book)
      (restarts_near (history (start_of see moment a.parts) a.events.items) held
      (subst (λ k. IsTied false k held) sound.stands.book (sound.log.tied order honest)) may)

  -- so it is while the manager is up, if a restart may follow over what the log holds
  pub follows_a_crash : (a : Inside R L) → IsSound see moment a → IsDurable see.moment → (book_in a.parts.manager).up ≡ true
      → (moment a.handed.value).is_in_order → (see.moment (log_in a.parts.manager)).is_honest
      → MayRestart (observes_parts see moment) (system_view_of a) → MayRestartAfterCrash (observes_parts see moment) (system_view_of a)
  follows_a_crash a sound durable up order honest may c left =
      let log = see.moment (log_in a.parts.manager) in
      near_restarts (history (start_of see moment a.parts) a.events.items) (Some c)
      (subst (λ k. IsTied true k (Some c)) sound.stands.book
      (left_up true (book_in a.parts.manager) log.content log.may_leave up (near_tied a sound order honest may)
      (λ d e. durable (log_in a.parts.manager) d e (sound.log.order order)) c left)) c refl

  -- the parts stand, and there is room
  pub somewhere : (a : Inside R L) → IsSound see moment a → vec_len a.events < EVENT_LIMIT → StandsSomewhere see a.parts
  somewhere a sound few = (
    history (start_of see moment a.parts) a.events.items,
    sound.stands,
    subst (λ n. n < EVENT_LIMIT)
        (a.events.ok.0 ∙ sym (events_happen (start_of see moment a.parts) a.events.items)) few,
  )

  -- a system began where it began
  pub start_stays : (old new : Parts R (Slot L)) (tr : Trace) (step : Step Xid) (reply : Reply Xid) → Stands see tr old
      → happenings tr < EVENT_LIMIT → GoesOn see step reply old new → start_of see moment new ≡ start_of see moment old
  start_stays old new tr step reply stands few goes = sym (goes tr stands few).stands.origin ∙ stands.origin

  -- the history after one event more
  trace_then : (old : Inside R L) (new : Parts R (Slot L)) (events : Vec Event Global) (step : Step Xid) (reply copy : Reply Xid)
      → IsSound see moment old → GoesOn see step reply old.parts new → copy ≡ reply
      → vec_len old.events < EVENT_LIMIT → events.items ≡ old.events.items ++ record { step = step; reply = copy } ∷ []
      → history (start_of see moment new) events.items ≡ Then (history (start_of see moment old.parts) old.events.items)
      (happened (step_of step) (reply_of reply))
  unfolding somewhere
  trace_then old new events step reply copy sound goes same few items =
      let here = somewhere old sound few in
      let event : Event = record { step = step; reply = reply } in
      let all = items ∙ ap (λ (r : Reply Xid). old.events.items ++ record { step = step; reply = r } ∷ []) same in
      ap (λ s. history s events.items) (start_stays old.parts new here.0 step reply here.1 here.2 goes)
      ∙ ap (history (start_of see moment old.parts)) all ∙ history_push (start_of see moment old.parts) old.events.items event

  -- a refused step leaves all as it is
  pub as_before : (old : Inside R L) (new : Parts R (Slot L)) (events : Vec Event Global) (step : Step Xid) (reply : Reply Xid)
      → IsSound see moment old → GoesOn see step reply old.parts new → vec_len old.events < EVENT_LIMIT
      → (n : Refusal) → reply ≡ Replies.Refused n → n ≢ Refusals.LogFault
      → IsAsBefore (observes_parts see moment) (system_view_of old)
      (system_view_of (record { first = old.first; handed = old.handed; parts = new; events = events }))
  unfolding somewhere
  as_before old new events step reply sound goes few n is other =
      let here = somewhere old sound few in
      let same = (goes here.0 here.1 here.2).unchanged n is other in
      record {
        rms = λ r rm at.
            let from = mapped_at (λ (site : Site R). site.rm) old.parts.sites.items r rm at in
            let to = same.sites r from.0 from.1 in (
              to.0.rm,
              slice_get-map (λ (site : Site R). site.rm) new.sites.items r ∙ ap
                  (option_map (λ (site : Site R). site.rm)) to.1,
              subst (λ m. IsSame see.look m to.0.rm) from.2 to.3,
            );
        lines = same.lines;
        log = same.log;
      }

  -- after a failure of the log the manager is down
  pub down_after : (old : Inside R L) (new : Parts R (Slot L)) (events : Vec Event Global) (step : Step Xid) (reply copy : Reply Xid)
      → IsSound see moment old → GoesOn see step reply old.parts new → copy ≡ reply
      → vec_len old.events < EVENT_LIMIT → events.items ≡ old.events.items ++ record { step = step; reply = copy } ∷ []
      → reply ≡ Replies.Refused Refusals.LogFault → up (history (start_of see moment new) events.items) ≡ false
  unfolding somewhere
  down_after old new events step reply copy sound goes same few items is =
      let here = somewhere old sound few in
      let allowed = subst (λ r. Allowed here.0 (step_of step) (reply_of r)) is (goes here.0 here.1 here.2).allowed in
      ap up (trace_then old new events step reply copy sound goes same few items ∙ ap (λ r. Then here.0 (happened (step_of step) (reply_of r))) is)
      ∙ falls here.0 (step_of step) allowed

  -- and the log may have made the step's change
  pub failed_so : (old : Inside R L) (new : Parts R (Slot L)) (step : Step Xid) (reply : Reply Xid) → IsSound see moment old
      → GoesOn see step reply old.parts new → vec_len old.events < EVENT_LIMIT
      → reply ≡ Replies.Refused Refusals.LogFault → (moment old.handed.value).is_in_order → (see.moment (log_in new.manager)).is_honest
      → MayHaveFailed (history (start_of see moment old.parts) old.events.items) (log_failed (step_of step))
      (see.moment (log_in old.parts.manager)).content (see.moment (log_in new.manager)).content
  unfolding somewhere
  failed_so old new step reply sound goes few is order honest =
      let here = somewhere old sound few in
      subst (λ r. MayHaveFailed here.0 (happened (step_of step) (reply_of r)) (see.moment (log_in old.parts.manager)).content
      (see.moment (log_in new.manager)).content) is
      ((goes here.0 here.1 here.2).log.failed (sound.log.order order) honest)

  -- the log after one event more
  log_then : (old : Inside R L) (new : Parts R (Slot L)) (events : Vec Event Global) (step : Step Xid) (reply : Reply Xid)
      → IsDurable see.moment → IsSound see moment old → GoesOn see step reply old.parts new → vec_len old.events < EVENT_LIMIT
      → KeepsLog (observes_parts see moment) (start_of see moment new) (record { first = old.first; handed = old.handed; parts = new; events = events })
  unfolding somewhere
  log_then old new events step reply durable sound goes few =
      let here = somewhere old sound few in
      let log = (goes here.0 here.1 here.2).log in
      let start = start_stays old.parts new here.0 step reply here.1 here.2 goes in
      let began : new.began.value ≡ old.parts.began.value = λ i. ((goes here.0 here.1 here.2).began i).value in
      record {
        order = λ h. log.order (sound.log.order h);
        honest = λ h. sound.log.honest (log.honest h);
        start =
            λ order honest. subst (λ o. IsSomeAnd (moment old.first.value).content (StartsOver o)) (sym start)
            (sound.log.start order (subst (λ m. (see.moment (log_in m)).is_honest) began honest));
        tied = λ order honest. log.tied false (sound.log.order order) honest (sound.log.tied order (log.honest honest));
        left = λ order honest.
            log.left false durable (sound.log.order order) honest (sound.log.tied order (log.honest honest)) (sound.log.left order (log.honest honest));
      }

  -- what was honest since
  pub honest_before : (old : Inside R L) (new : Parts R (Slot L)) (step : Step Xid) (reply : Reply Xid) → IsSound see moment old
      → GoesOn see step reply old.parts new → vec_len old.events < EVENT_LIMIT
      → (see.moment (log_in new.manager)).is_honest → (see.moment (log_in old.parts.manager)).is_honest
  unfolding somewhere
  honest_before old new step reply sound goes few h = let here = somewhere old sound few in (goes here.0 here.1 here.2).log.honest h

  -- an event that was answered that the log failed has raised its count
  pub fault_has_cause : (old : Inside R L) (new : Parts R (Slot L)) (events : Vec Event Global) (step : Step Xid) (reply copy : Reply Xid)
      → IsSound see moment old → GoesOn see step reply old.parts new → copy ≡ reply
      → vec_len old.events < EVENT_LIMIT → events.items ≡ old.events.items ++ record { step = step; reply = copy } ∷ []
      → (moment old.handed.value).is_in_order → (see.moment (log_in new.manager)).is_honest
      → MayRestart (observes_parts see moment) (system_view_of old)
      → FaultsHaveCauses (observes_parts see moment) (system_view_of old)
      (system_view_of (record { first = old.first; handed = old.handed; parts = new; events = events }))
  unfolding somewhere
  fault_has_cause old new events step reply copy sound goes same few items order honest may =
      let here = somewhere old sound few in
      let more = goes here.0 here.1 here.2 in
      let counted = more.log.counted (sound.log.order order) honest (near_tied old sound order (more.log.honest honest) may) in
      let all = items ∙ ap (λ (r : Reply Xid). old.events.items ++ record { step = step; reply = r } ∷ []) same in
      causes_more is_fault_event old.events.items events.items (record { step = step; reply = reply })
      (see.moment (log_in old.parts.manager)).fault_count (see.moment (log_in new.manager)).fault_count _ all
      (rises here.0 (step_of step) reply (see.moment (log_in old.parts.manager)).fault_count more.allowed) counted

  -- so has one that is no restart of the manager, whatever the log
  pub other_fault_has_cause : (old : Inside R L) (new : Parts R (Slot L)) (events : Vec Event Global) (step : Step Xid) (reply copy : Reply Xid)
      → IsSound see moment old → GoesOn see step reply old.parts new → copy ≡ reply
      → vec_len old.events < EVENT_LIMIT → events.items ≡ old.events.items ++ record { step = step; reply = copy } ∷ []
      → OtherFaultsHaveCauses (observes_parts see moment) (system_view_of old)
      (system_view_of (record { first = old.first; handed = old.handed; parts = new; events = events }))
  unfolding somewhere
  other_fault_has_cause old new events step reply copy sound goes same few items =
      let here = somewhere old sound few in
      let more = goes here.0 here.1 here.2 in
      let all = items ∙ ap (λ (r : Reply Xid). old.events.items ++ record { step = step; reply = r } ∷ []) same in
      causes_more is_other_fault old.events.items events.items (record { step = step; reply = reply })
      (see.moment (log_in old.parts.manager)).fault_count (see.moment (log_in new.manager)).fault_count _ all
      (other_rises here.0 (step_of step) reply (see.moment (log_in old.parts.manager)).fault_count (see.moment (log_in new.manager)).fault_count
      more.allowed more.log.counts) refl

  -- a restart may follow still
  pub restart_may_follow : (old : Inside R L) (new : Parts R (Slot L)) (events : Vec Event Global) (step : Step Xid) (reply copy : Reply Xid)
      → IsSound see moment old → GoesOn see step reply old.parts new → copy ≡ reply
      → vec_len old.events < EVENT_LIMIT → events.items ≡ old.events.items ++ record { step = step; reply = copy } ∷ []
      → (moment old.handed.value).is_in_order → (see.moment (log_in new.manager)).is_honest
      → MayRestart (observes_parts see moment) (system_view_of old)
      → MayRestart (observes_parts see moment) (system_view_of (record { first = old.first; handed = old.handed; parts = new; events = events }))
  unfolding somewhere
  restart_may_follow old new events step reply copy sound goes same few items order honest may =
      let here = somewhere old sound few in
      let more = goes here.0 here.1 here.2 in
      let held = (see.moment (log_in new.manager)).content in
      let tied = more.log.tied true (sound.log.order order) honest (near_tied old sound order (more.log.honest honest) may) in
      subst (λ tr. MayRestartOver tr held) (sym (trace_then old new events step reply copy sound goes same few items))
      (near_restarts (Then here.0 (happened (step_of step) (reply_of reply))) held (subst (λ k. IsTied true k held) more.stands.book tied))

  -- also over what a crash may leave of the log
  pub restart_may_follow_a_crash : (old : Inside R L) (new : Parts R (Slot L)) (events : Vec Event Global) (step : Step Xid) (reply copy : Reply Xid)
      → IsDurable see.moment → IsSound see moment old → GoesOn see step reply old.parts new → copy ≡ reply
      → vec_len old.events < EVENT_LIMIT → events.items ≡ old.events.items ++ record { step = step; reply = copy } ∷ []
      → (moment old.handed.value).is_in_order → (see.moment (log_in new.manager)).is_honest
      → MayRestart (observes_parts see moment) (system_view_of old) → MayRestartAfterCrash (observes_parts see moment) (system_view_of old)
      → MayRestartAfterCrash (observes_parts see moment) (system_view_of (record { first = old.first; handed = old.handed; parts = new; events = events }))
  unfolding somewhere
  restart_may_follow_a_crash old new events step reply copy durable sound goes same few items order honest may crash c left =
      let here = somewhere old sound few in
      let more = goes here.0 here.1 here.2 in
      let tied = more.log.left true durable (sound.log.order order) honest (near_tied old sound order (more.log.honest honest) may)
      (near_left old sound order (more.log.honest honest) crash) c left in
      subst (λ tr. IsBeforeNext tr c) (sym (trace_then old new events step reply copy sound goes same few items))
      (near_restarts (Then here.0 (happened (step_of step) (reply_of reply))) (Some c) (subst (λ k. IsTied true k (Some c)) more.stands.book tied) c refl)

  -- one event more
  pub sound_then : (old : Inside R L) (new : Parts R (Slot L)) (events : Vec Event Global) (step : Step Xid) (reply copy : Reply Xid)
      → IsDurable see.moment → IsSound see moment old → GoesOn see step reply old.parts new → copy ≡ reply
      → vec_len old.events < EVENT_LIMIT → vec_len events ≡ vec_len old.events + 1
      → events.items ≡ old.events.items ++ record { step = step; reply = copy } ∷ [] → vec_capacity events ≡ vec_capacity old.events
      → IsSound see moment (record { first = old.first; handed = old.handed; parts = new; events = events })
  unfolding somewhere
  sound_then old new events step reply copy durable sound goes same few len items room =
      let event : Event = record { step = step; reply = reply } in
      let o = start_of see moment old.parts in
      let here = somewhere old sound few in
      let after = goes here.0 here.1 here.2 in
      let start = start_stays old.parts new here.0 step reply here.1 here.2 goes in
      let all = items ∙ ap (λ (r : Reply Xid). old.events.items ++ record { step = step; reply = r } ∷ []) same in
      record {
        few = omega (arith, few, len);
        room = omega (arith, sound.room, room);
        stands =
            subst (λ p. Stands see p new) (sym (ap (λ s. history s events.items) start ∙ ap (history o) all ∙ history_push o old.events.items event))
            after.stands;
        allowed =
            subst (λ s. AreAllowed s events.items) (sym start)
            (subst (AreAllowed o) (sym all) (allowed_push o old.events.items event sound.allowed after.allowed));
        log = log_then old new events step reply durable sound goes few;
      }

  -- what the step was answered
  pub was_allowed : (old : Inside R L) (new : Parts R (Slot L)) (step : Step Xid) (reply : Reply Xid) → IsSound see moment old
      → GoesOn see step reply old.parts new → vec_len old.events < EVENT_LIMIT
      → Allowed (history (start_of see moment old.parts) old.events.items) (step_of step) (reply_of reply)
  unfolding somewhere
  was_allowed old new step reply sound goes few = let here = somewhere old sound few in (goes here.0 here.1 here.2).allowed

  pub start_kept : (old : Inside R L) (new : Parts R (Slot L)) (step : Step Xid) (reply : Reply Xid) → IsSound see moment old
      → GoesOn see step reply old.parts new → vec_len old.events < EVENT_LIMIT → start_of see moment new ≡ start_of see moment old.parts
  start_kept old new step reply sound goes few = let here = somewhere old sound few in start_stays old.parts new here.0 step reply here.1 here.2 goes

  pub began_kept : (old : Inside R L) (new : Parts R (Slot L)) (step : Step Xid) (reply : Reply Xid) → IsSound see moment old
      → GoesOn see step reply old.parts new → vec_len old.events < EVENT_LIMIT → log_in new.began.value ≡ log_in old.parts.began.value
  unfolding somewhere
  began_kept old new step reply sound goes few =
      let here = somewhere old sound few in
      λ i. log_in ((goes here.0 here.1 here.2).began i).value
