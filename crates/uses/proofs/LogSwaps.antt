-- A log that is put in after one was taken out.
use Rattle.std.proofs.Common.{◌≡◌, ◌≢◌, ◌<◌, ◌≤◌, ◌+◌, ◌++◌, ◌⊎◌, inl, inr, ℕ, Bool, true, false, List, [], ◌∷◌, arith, refl, sym, ap, subst, ◌∙◌}
use Rattle.std.specs.Prelude.{length, Option, Some, None, IsSome, IsSomeAnd, IfErr, Result, Ok, Err}
use Rattle.std.proofs.lemmas.Bool.{cases_lt, true≢false}
use Rattle.xa_base.specs.Xid.{Xid}
use Rattle.xa_base.specs.declared.refusal.Refusal.TheVariants as Refusals
use Rattle.xa_base.specs.declared.reply.Event.{Event}
use Rattle.xa_base.specs.declared.reply.Reply.{Reply}
use Rattle.xa_base.specs.declared.reply.Reply.TheVariants as Replies
use Rattle.xa_base.specs.declared.step.Step.{Step}
use Rattle.xa_log.specs.Content.{Content, unchanged}
use Rattle.xa_log.specs.Contract.{Makes, Moment}
use Rattle.xa_model.specs.Facts.{up}
use Rattle.xa_model.specs.Trace.{Trace}
use Rattle.xa_system.proofs.Log.FaultCounts.{faults_push}
use Rattle.xa_system.specs.LogInHistory.{IsBeforeNext, LeftBy, LogStands, LogStandsBy, MayBeLeft, MayHoldRows, MayRestartOver, greatest_count, log_faults}
use Rattle.xa_log.specs.declared.decision_log.DecisionLog as DecisionLog
use Rattle.xa_system.specs.SystemView.{FaultsHaveCauses, HoldsItsTrace, MayRestart, MayRestartAfterCrash, Observes, SystemView, observes, origin_in, trace_in}
use Rattle.xa_system.specs.declared.system.TheConstants.{EVENT_LIMIT}
use Rattle.xa_tm.specs.Slots.{LooksAt, TakesIn, content_in, faults_in, honest_in, last_out, leaves_in, log_held, order_in, slot_moment}
use Rattle.xa_tm.specs.declared.swap_fault.SwapFault.{SwapFault}
use Rattle.xa_tm.specs.declared.swap_fault.SwapFault.TheVariants as Faults
use Rattle.xa_sql_log.proofs.FoundDecisions.{some_is as there_is}
use Rattle.uses.specs.Crashes.{IsLeftByCrash}
use Rattle.xa_rm.specs.Look.{Look}

-- a fault that is neither of these two
abbrev pub IsItsOwn : SwapFault → Type 0
IsItsOwn f = (f ≡ Faults.Memory) ⊎ (f ≡ Faults.Log)

its_own : (f : SwapFault) → (f ≡ Faults.Up → ⊥) → (f ≡ Faults.OtherRows → ⊥) → IsItsOwn f
its_own Faults.Up up rows = absurd (up refl)
its_own Faults.Memory up rows = inl refl
its_own Faults.Log up rows = inr refl
its_own Faults.OtherRows up rows = absurd (rows refl)

-- why a log isn't put in that has the rows of the history
pub why_not : {L A : Type 0} (moment : L → Moment) (tr : Trace) (log : L) (result : Result A (SwapFault × L)) (Up : Type 0)
    → IfErr result (λ e. LooksAt (moment log) (moment e.1)) → IfErr result (λ e. e.0 ≡ Faults.Up → Up)
    → IfErr result (λ e. e.0 ≡ Faults.OtherRows → (moment log).is_in_order → (moment e.1).is_honest → (c : Content) → (moment log).content ≡ Some c
    → MayHoldRows tr c → ⊥)
    → (Up → ⊥) → (moment log).is_in_order → (c : Content) → (moment log).content ≡ Some c → ((moment log).is_honest → MayHoldRows tr c)
    → IfErr result (λ e. (moment e.1).is_honest → IsItsOwn e.0)
why_not moment tr log (Ok x) Up looks only_up only_rows down order c is rows = tt
why_not moment tr log (Err e) Up looks only_up only_rows down order c is rows =
    λ honest. its_own e.0 (λ q. down (only_up q)) (λ q. only_rows q order honest c is (rows (looks.honest honest)))

-- what a manager that is down has or may have left
pub stands_down : (tr : Trace) (c : Content) → up tr ≡ false → LogStands tr (Some c) → MayHoldRows tr c
stands_down tr c down stands = let h : LogStandsBy false tr (Some c) = subst (λ u. LogStandsBy u tr (Some c)) down stands in h c refl

pub left_down : (tr : Trace) (c : Content) → up tr ≡ false → MayBeLeft tr c → MayHoldRows tr c
left_down tr c down left = subst (λ u. LeftBy u tr c) down left

-- a restart may follow over what a look leaves of a log
pub follows : (tr : Trace) (c : Content) (handed held : Option Content) → handed ≡ Some c → Makes unchanged handed held → IsBeforeNext tr c
    → MayRestartOver tr held
follows tr c handed held is same next d at = by handed is same
  where
    by : (o : Option Content) → o ≡ Some c → Makes unchanged o held → IsBeforeNext tr d
    by None e makes = absurd makes
    by (Some b) e makes =
        let first : b ≡ c = cc in
        let two : Some b ≡ Some d = sym makes ∙ at in
        let second : b ≡ d = cc in
        subst (IsBeforeNext tr) (sym first ∙ second) next

-- a failure that the log didn't count is none
pub none_failed : (old new : List Event) (step : Step Xid) (reply : Reply Xid) (n m : ℕ) → new ≡ old ++ record { step = step; reply = reply } ∷ []
    → (greatest_count ≤ m) ⊎ (log_faults new + n ≤ log_faults old + m) → m ≡ n → n < greatest_count → reply ≢ Replies.Refused Refusals.LogFault
none_failed old new step reply n m adds causes same few fails = by causes
  where
    grown : log_faults new ≡ log_faults old + 1
    grown = ap log_faults (adds ∙ ap (λ r. old ++ record { step = step; reply = r } ∷ []) fails)
        ∙ faults_push old (record { step = step; reply = Replies.Refused Refusals.LogFault })

    by : (greatest_count ≤ m) ⊎ (log_faults new + n ≤ log_faults old + m) → ⊥
    by (inl most) = omega (arith, most, same, few)
    by (inr more) = omega (arith, more, same, grown)

module _ {R L : Type 0} (look : R → Look) (moment : L → Moment) where
  abbrev see : Observes R L
  see = observes look moment

  -- a log that was taken out and is given straight back
  pub given_back : {A : Type 0} (old taken : SystemView R L) (log : L) (out : Option L) (result : Result A (SwapFault × L)) → HoldsItsTrace see old
      → (up (trace_in see.look old) ≡ true → (out ≡ None) × (taken ≡ old)) → (up (trace_in see.look old) ≡ false → out ≡ log_held old.log)
      → (up (trace_in see.look old) ≡ false → log_held taken.log ≡ None) → taken ≡ record old { log = taken.log } → Some log ≡ out
      → IfErr result (λ e. LooksAt (moment log) (moment e.1))
      → IfErr result (λ e. e.0 ≡ Faults.Up → (up (trace_in see.look taken) ≡ true) ⊎ IsSome (log_held taken.log))
      → IfErr result (λ e. e.0 ≡ Faults.OtherRows → (moment log).is_in_order → (moment e.1).is_honest → (c : Content) → (moment log).content ≡ Some c
      → MayHoldRows (trace_in see.look taken) c → ⊥)
      → (moment old.handed).is_in_order → (c : Content) → (slot_moment moment old.log).content ≡ Some c
      → IfErr result (λ e. (moment e.1).is_honest → IsItsOwn e.0)
  given_back old taken log out result holds is_up is_taken empty others some looks only_up only_rows order c is = by (up (trace_in see.look old)) refl
    where
      by : (u : Bool) → up (trace_in see.look old) ≡ u → IfErr result (λ e. (moment e.1).is_honest → IsItsOwn e.0)
      by true is_so = absurd (let no : Some log ≡ None = some ∙ (is_up is_so).0 in cc)
      by false is_so =
          let here : Some log ≡ log_held old.log = some ∙ is_taken is_so in
          let same : trace_in see.look taken ≡ trace_in see.look old = ap (trace_in see.look) others in
          let content : (moment log).content ≡ Some c = ap (content_in (λ l. (moment l).content)) here ∙ is in
          why_not moment (trace_in see.look taken) log result _ looks only_up only_rows (not_there is_so same)
          (subst (order_in (λ l. (moment l).is_in_order)) (sym here) (holds.log.order order)) c content
          (λ honest. subst (λ tr. MayHoldRows tr c) (sym same)
          (stands_down (trace_in see.look old) c is_so
          (subst (LogStands (trace_in see.look old)) is
          (holds.log.stands order (subst (honest_in (λ l. (moment l).is_honest) (last_out old.log)) here honest)))))
        where
          not_there : up (trace_in see.look old) ≡ false → trace_in see.look taken ≡ trace_in see.look old
              → (up (trace_in see.look taken) ≡ true) ⊎ IsSome (log_held taken.log) → ⊥
          not_there down same (inl is_up_now) = true≢false (sym is_up_now ∙ ap up same ∙ down)
          not_there down same (inr held) = let none : IsSome (let o : Option L = None in o) = subst IsSome (empty down) held in absurd (cc)

  -- one that a crash left is given: that no log is there, and the manager is down
  pub not_there_yet : (u : Bool) (held : Option L) → u ≡ false → held ≡ None → (u ≡ true) ⊎ IsSome held → ⊥
  not_there_yet u held down none (inl is_up) = true≢false (sym is_up ∙ down)
  not_there_yet u held down none (inr some) = let no : IsSome (let o : Option L = None in o) = subst IsSome none some in absurd (cc)

module _ {R L : Type 0} (look : R → Look) (logs : DecisionLog.Ghosts L) where
  abbrev sees_of : Observes R L
  sees_of = observes look logs.moment

  -- a restart over what a crash left isn't refused for the log's sake if that counted no failure
  pub not_blamed : (old given new : SystemView R L) (left : L) (c : Content) (step : Step Xid) (reply : Reply Xid)
      → given ≡ record old { handed = left; log = given.log } → TakesIn logs left (log_held given.log)
      → (logs.moment left).is_in_order → (logs.moment left).content ≡ Some c → IsBeforeNext (trace_in sees_of.look old) c
      → (EVENT_LIMIT ≤ length given.events → (reply ≡ Replies.Refused Refusals.Limit) × (new ≡ given))
      → (length given.events < EVENT_LIMIT → new.events ≡ given.events ++ record { step = step; reply = reply } ∷ [])
      → ((slot_moment logs.moment new.log).is_honest → (slot_moment logs.moment given.log).is_honest)
      → ((logs.moment given.handed).is_in_order → (slot_moment logs.moment new.log).is_honest → MayRestart sees_of given
      → FaultsHaveCauses sees_of given new)
      → (slot_moment logs.moment new.log).is_honest → (slot_moment logs.moment new.log).fault_count ≡ (logs.moment left).fault_count
      → (logs.moment left).fault_count < greatest_count → reply ≢ Replies.Refused Refusals.LogFault
  not_blamed old given new left c step reply others takes order is next full adds honest_before faults honest count few fails =
      by (cases_lt (length given.events) EVENT_LIMIT)
    where
      log_honest : (logs.moment takes.log).is_honest
      log_honest = subst (honest_in (λ l. (logs.moment l).is_honest) (last_out given.log)) takes.is (honest_before honest)

      may : MayRestart sees_of given
      may = subst (λ tr. MayRestartOver tr (slot_moment logs.moment given.log).content) (sym (ap (trace_in sees_of.look) others))
          (subst (MayRestartOver (trace_in sees_of.look old)) (sym (ap (content_in (λ l. (logs.moment l).content)) takes.is))
          (follows (trace_in sees_of.look old) c (logs.moment left).content (logs.moment takes.log).content is (takes.same order log_honest) next))

      same_count : (slot_moment logs.moment given.log).fault_count ≡ (logs.moment left).fault_count
      same_count = ap (λ o. faults_in (λ l. (logs.moment l).fault_count) o (given.log).faults) takes.is ∙ takes.faults

      in_order : (logs.moment given.handed).is_in_order
      in_order = subst (λ l. (logs.moment l).is_in_order) (sym (ap (λ (s : SystemView R L). s.handed) others)) order

      by : (length given.events < EVENT_LIMIT) ⊎ (EVENT_LIMIT ≤ length given.events) → ⊥
      by (inr past) = let two : Replies.Refused Refusals.Limit ≡ Replies.Refused Refusals.LogFault = sym (full past).0 ∙ fails in absurd (cc)
      by (inl more) =
          none_failed given.events new.events step reply (slot_moment logs.moment given.log).fault_count (slot_moment logs.moment new.log).fault_count
          (adds more) (faults in_order honest may) (count ∙ sym same_count) (subst (λ n. n < greatest_count) (sym same_count) few) fails

  -- if a restart may follow over what a crash may leave of a log, it may so once that is taken
  -- out
  pub near_taken : (old taken : SystemView R L) (log : L) → taken ≡ record old { log = taken.log } → Some log ≡ log_held old.log → log_held taken.log ≡ None
      → last_out taken.log ≡ log → MayRestartAfterCrash sees_of old → MayRestartAfterCrash sees_of taken
  near_taken old taken log others here gone was may c left =
      let leaves : L → Content → Type 0 = λ l. (logs.moment l).may_leave in
      let out : leaves (last_out taken.log) c = subst (λ o. leaves_in leaves (last_out taken.log) o c) gone left in
      subst (λ tr. IsBeforeNext tr c) (sym (ap (trace_in sees_of.look) others))
      (may c (subst (λ o. leaves_in leaves (last_out old.log) o c) here (subst (λ l. leaves l c) was out)))

  -- the log that was taken out was in order
  pub order_taken : (old : SystemView R L) (log : L) → HoldsItsTrace sees_of old → (logs.moment old.handed).is_in_order → Some log ≡ log_held old.log
      → (logs.moment log).is_in_order
  order_taken old log holds order here = subst (order_in (λ l. (logs.moment l).is_in_order)) (sym here) (holds.log.order order)

  -- the manager was down when a log came out
  pub down_taken : (old taken : SystemView R L) (log : L) (out : Option L) → (up (trace_in sees_of.look old) ≡ true → (out ≡ None) × (taken ≡ old))
      → Some log ≡ out
      → up (trace_in sees_of.look old) ≡ false
  down_taken old taken log out is_up some = by (up (trace_in sees_of.look old)) refl
    where
      by : (u : Bool) → up (trace_in sees_of.look old) ≡ u → u ≡ false
      by true is = absurd (let no : Some log ≡ None = some ∙ (is_up is).0 in cc)
      by false is = refl

  -- the start stays if a log is put in
  pub same_start : (old given : SystemView R L) (left : L) → given ≡ record old { handed = left; log = given.log }
      → origin_in sees_of.look given ≡ origin_in sees_of.look old
  same_start old given left others = ap (origin_in sees_of.look) others

  -- a log that a system holds honest was so as it was handed in
  pub was_honest : (given : SystemView R L) (left : L) → TakesIn logs left (log_held given.log) → (slot_moment logs.moment given.log).is_honest
      → (logs.moment left).is_honest
  was_honest given left takes honest =
      takes.looks.honest (subst (honest_in (λ l. (logs.moment l).is_honest) (last_out given.log)) takes.is honest)

  -- what a crash left of a log that came out
  pub is_left : (old taken : SystemView R L) (log left : L) (c : Content) → HoldsItsTrace sees_of old → up (trace_in sees_of.look old) ≡ false
      → taken ≡ record old { log = taken.log } → Some log ≡ log_held old.log → log_held taken.log ≡ None → last_out taken.log ≡ log
      → (logs.moment old.handed).is_in_order → MayRestartAfterCrash sees_of old → (logs.moment log).is_honest → (logs.moment log).may_leave c
      → (logs.moment left).is_in_order → (logs.moment left).content ≡ Some c → IsLeftByCrash sees_of taken left c
  is_left old taken log left c holds down others here gone was order may honest leaves left_order content = record {
    down = ap (λ s. up (trace_in sees_of.look s)) others ∙ down;
    out = gone;
    was_in_order = subst (λ l. (logs.moment l).is_in_order) (sym (ap (λ (s : SystemView R L). s.handed) others)) order;
    was_honest = subst (honest_in (λ l. (logs.moment l).is_honest) (last_out taken.log)) (sym gone) (subst (λ l. (logs.moment l).is_honest) (sym was) honest);
    near = near_taken old taken log others here gone was may;
    leaves = subst (λ o. leaves_in (λ l. (logs.moment l).may_leave) (last_out taken.log) o c) (sym gone)
        (subst (λ l. (logs.moment l).may_leave c) (sym was) leaves);
    order = left_order;
    content = content;
  }

  -- a log that came out honest was so in its place
  pub held_honest : (old : SystemView R L) (log : L) → Some log ≡ log_held old.log → (logs.moment log).is_honest
      → (slot_moment logs.moment old.log).is_honest
  held_honest old log here honest = subst (honest_in (λ l. (logs.moment l).is_honest) (last_out old.log)) here honest

  -- what is found of a log that came out, if it is honest, is what a crash left of that
  pub found_left : (old taken : SystemView R L) (log left : L) (out : Option L) → HoldsItsTrace sees_of old
      → (up (trace_in sees_of.look old) ≡ true → (out ≡ None) × (taken ≡ old)) → (up (trace_in sees_of.look old) ≡ false → out ≡ log_held old.log)
      → (up (trace_in sees_of.look old) ≡ false → log_held taken.log ≡ None) → ((l : L) → out ≡ Some l → last_out taken.log ≡ l)
      → taken ≡ record old { log = taken.log } → out ≡ Some log → ((logs.moment left).is_honest → (logs.moment log).is_honest)
      → ((logs.moment log).is_in_order → (logs.moment left).is_in_order)
      → ((logs.moment log).is_in_order → (logs.moment left).is_honest → IsSomeAnd (logs.moment left).content (logs.moment log).may_leave)
      → (logs.moment old.handed).is_in_order → MayRestartAfterCrash sees_of old → (logs.moment left).is_honest
      → (c : Content) × IsLeftByCrash sees_of taken left c
  found_left old taken log left out holds is_up is_taken empty was others some was_honest_so order_left leaves order near honest =
      let down = down_taken old taken log out is_up (sym some) in
      let here : Some log ≡ log_held old.log = sym some ∙ is_taken down in
      let log_order = order_taken old log holds order here in
      let found = there_is (logs.moment left).content (logs.moment log).may_leave (leaves log_order honest) in (
        found.0,
        is_left old taken log left found.0 holds down others here (empty down) (was log some) order near (was_honest_so honest)
            found.2 (order_left log_order) found.1,
      )
