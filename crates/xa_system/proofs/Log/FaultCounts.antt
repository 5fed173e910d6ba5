-- The log has counted each of its failures that an event answers.
use Rattle.std.proofs.Common.{◌≡◌, ◌≤◌, ◌+◌, ◌⊎◌, inl, inr, ℕ, List, [], ◌∷◌, ◌++◌, Bool, true, false, length, filter, refl, sym, ap, subst, ◌∙◌, arith}
use Rattle.std.specs.Prelude.{if◌then◌else◌, ◌&&◌, not}
use Rattle.std.proofs.lemmas.Bool.{true≢false}
use Rattle.std.proofs.lemmas.List.{length-append}
use Rattle.std.proofs.lemmas.List.Elements.{filter-append}
use Rattle.xa_model.specs.Replies.Allowed.{Allowed, Allowed.As_value, Allowed.By_rule, Allowed.For_log, Allowed.For_memory, Hears.Hears_none, Hears.Hears_one, IsValue, NeedsLog, Restarts.Restarts_as, Takes.Takes_none, Takes.Takes_one}
use Rattle.xa_model.specs.Replies.History.{reply_of, step_of}
use Rattle.xa_model.specs.Replies.Steps as known
use Rattle.xa_model.specs.Replies.Steps.{happened, log_failed}
use Rattle.xa_model.specs.Facts.{up}
use Rattle.xa_model.specs.Trace.{Fault.InRestart, Happening, Happening.Failed, Happening.Nothing, Trace, Trace.Then}
use Rattle.xa_base.specs.Xid.{Xid}
use Rattle.xa_base.specs.declared.refusal.Refusal.TheVariants as Refusals
use Rattle.xa_base.specs.declared.reply.Event.{Event}
use Rattle.xa_base.specs.declared.reply.Reply.{Reply}
use Rattle.xa_base.specs.declared.reply.Reply.TheVariants as Replies
use Rattle.xa_base.specs.declared.step.Outcome.TheVariants as Outcomes
use Rattle.xa_base.specs.declared.step.Side.TheVariants as Sides
use Rattle.xa_base.specs.declared.step.Step.TheVariants as Steps
use Rattle.xa_model.proofs.Replies.Guards.{IsForced, forced}
use Rattle.xa_log.specs.Contract.{one_more_fault}
use Rattle.xa_system.specs.LogInHistory.{count_after, greatest_count, is_restart, log_faults, says_log_fault}

-- a step in which the log may fail counts its failure
failing : (tr : Trace) (s : known.Step) → NeedsLog tr s → (n : ℕ) → count_after (log_failed s) n ≡ one_more_fault n
failing tr (Steps.Decide g Outcomes.Commit) uses n = refl
failing tr (Steps.Settle g) uses n = refl
failing tr (Steps.Hear t r) uses n = refl
failing tr (Steps.Done g) uses n = refl
failing tr (Steps.Resolve r) uses n = refl
failing tr (Steps.ResolveOpen r) uses n = refl
failing tr (Steps.Restart Sides.Manager) uses n = refl
failing tr s uses n = absurd uses

is_fault : known.Reply → Bool
is_fault (Replies.Refused Refusals.LogFault) = true
is_fault reply = false

-- a value says of no failure
value_fails_not : (tr : Trace) (s : known.Step) (reply : known.Reply) → IsValue tr s reply → is_fault reply ≡ false
unfolding is_fault
value_fails_not tr (Steps.Begin t) reply v = ap is_fault v
value_fails_not tr (Steps.Issue t r a) reply v = ap is_fault v
value_fails_not tr (Steps.Take t r) reply (Takes_one c a next right) = refl
value_fails_not tr (Steps.Take t r) reply (Takes_none none) = refl
value_fails_not tr (Steps.Hear t r) reply (Hears_one c a next) = refl
value_fails_not tr (Steps.Hear t r) reply (Hears_none none) = refl
value_fails_not tr (Steps.Vote r x v) reply is = ap is_fault is
value_fails_not tr (Steps.Busy r x n) reply v = ap is_fault v
value_fails_not tr (Steps.Heuristic r x how) reply v = ap is_fault v
value_fails_not tr (Steps.Decide g o) reply v = ap is_fault v
value_fails_not tr (Steps.Claim g) reply v = ap is_fault v
value_fails_not tr (Steps.Settle g) reply v = ap is_fault v
value_fails_not tr (Steps.Abandon g) reply v = ap is_fault v
value_fails_not tr (Steps.Recover r n start end) reply v = ap is_fault v
value_fails_not tr (Steps.Resolve r) reply v = ap is_fault v
value_fails_not tr (Steps.ResolveOpen r) reply v = ap is_fault v
value_fails_not tr (Steps.Done g) reply v = ap is_fault v
value_fails_not tr (Steps.Crash p) reply v = ap is_fault v
value_fails_not tr (Steps.Restart (Sides.Rm r)) reply v = ap is_fault v
value_fails_not tr (Steps.Restart Sides.Manager) reply (Restarts_as i d h most least rows records) = refl

-- a failure that is answered is one of the log
fails_so : (tr : Trace) (s : known.Step) → Allowed tr s (Replies.Refused Refusals.LogFault) → NeedsLog tr s
unfolding is_fault
fails_so tr s (By_rule n e q) = absurd (subst IsForced (let same : n ≡ Refusals.LogFault = cc in same) (forced tr s n e))
fails_so tr s (As_value e v) = absurd (true≢false (value_fails_not tr s (Replies.Refused Refusals.LogFault) v))
fails_so tr s (For_memory e m q) = absurd (cc)
fails_so tr s (For_log e uses q) = uses

-- the manager falls, or stays down
pub falls : (tr : Trace) (s : known.Step) → Allowed tr s (Replies.Refused Refusals.LogFault) → up (Then tr (log_failed s)) ≡ false
falls tr s allowed = by s (fails_so tr s allowed)
  where
    by : (s : known.Step) → NeedsLog tr s → up (Then tr (log_failed s)) ≡ false
    by (Steps.Decide g Outcomes.Commit) uses = refl
    by (Steps.Settle g) uses = refl
    by (Steps.Hear t r) uses = refl
    by (Steps.Done g) uses = refl
    by (Steps.Resolve r) uses = refl
    by (Steps.ResolveOpen r) uses = refl
    by (Steps.Restart Sides.Manager) uses = refl
    by s uses = absurd uses

-- ** counts

-- a count after one that answers a failure, or another event
abbrev pub Rises : (fails : Bool) → (n m : ℕ) → Type 0
Rises fails n m = (greatest_count ≤ m) ⊎ ((if fails then n + 1 else n) ≤ m)

one_more_rises : (n : ℕ) → Rises true n (one_more_fault n)
one_more_rises n = grind arith

never_falls : (e : Happening) (n : ℕ) → Rises false n (count_after e n)
never_falls (Failed f) n = grind arith
never_falls e n = inr (omega arith)

pub rises : (tr : Trace) (s : known.Step) (reply : Reply Xid) (n : ℕ) → Allowed tr s (reply_of reply)
    → Rises (says_log_fault reply) n (count_after (happened s (reply_of reply)) n)
rises tr s (Replies.Refused Refusals.LogFault) n allowed = subst (Rises true n) (sym (failing tr s (fails_so tr s allowed) n)) (one_more_rises n)
rises tr s reply n allowed = never_falls (happened s (reply_of reply)) n

-- how many events are so
abbrev pub count_of : (test : Event → Bool) → List Event → ℕ
count_of test events = length (filter test events)

push : (test : Event → Bool) (events : List Event) (event : Event)
    → count_of test (events ++ event ∷ []) ≡ (if test event then count_of test events + 1 else count_of test events)
push test events event =
    ap length (filter-append test events (event ∷ [])) ∙ length-append (filter test events) (filter test (event ∷ [])) ∙ by (test event)
  where
    by : (t : Bool) → count_of test events + length (if t then event ∷ [] else []) ≡ (if t then count_of test events + 1 else count_of test events)
    by true = refl
    by false = omega arith

pub faults_push : (events : List Event) (event : Event)
    → log_faults (events ++ event ∷ []) ≡ (if says_log_fault event.reply then log_faults events + 1 else log_faults events)
faults_push events event = push (λ x. says_log_fault x.reply) events event

pub causes_more : (test : Event → Bool) (old new : List Event) (event : Event) (n m k : ℕ) → new ≡ old ++ event ∷ [] → Rises (test event) n k → m ≡ k
    → (greatest_count ≤ m) ⊎ (count_of test new + n ≤ count_of test old + m)
causes_more test old new event n m k all rises same = by (test event) rises (ap (count_of test) all ∙ push test old event)
  where
    by : (t : Bool) → Rises t n k → count_of test new ≡ (if t then count_of test old + 1 else count_of test old)
        → (greatest_count ≤ m) ⊎ (count_of test new + n ≤ count_of test old + m)
    by t (inl most) e = inl (subst (λ c. greatest_count ≤ c) (sym same) most)
    by true (inr more) e = inr (omega (arith, more, e, same))
    by false (inr more) e = inr (omega (arith, more, e, same))

-- causes of the events so far, and of one more, are causes of all
pub causes_chain : (test : Event → Bool) (first old new : List Event) (event : Event) (n m k : ℕ) → new ≡ old ++ event ∷ []
    → (greatest_count ≤ m) ⊎ (count_of test old + n ≤ count_of test first + m) → (greatest_count ≤ k) ⊎ (count_of test new + m ≤ count_of test old + k)
    → (greatest_count ≤ k) ⊎ (count_of test new + n ≤ count_of test first + k)
causes_chain test first old new event n m k all so_far one = by so_far one (ap (count_of test) all ∙ push test old event)
  where
    more : (t : Bool) → count_of test old ≤ (if t then count_of test old + 1 else count_of test old)
    more true = omega arith
    more false = omega arith

    by : (greatest_count ≤ m) ⊎ (count_of test old + n ≤ count_of test first + m) → (greatest_count ≤ k) ⊎ (count_of test new + m ≤ count_of test old + k)
        → count_of test new ≡ (if test event then count_of test old + 1 else count_of test old)
        → (greatest_count ≤ k) ⊎ (count_of test new + n ≤ count_of test first + k)
    by before (inl most) e = inl most
    by (inl most) (inr step) e =
        let grown : count_of test old ≤ count_of test new = subst (λ x. count_of test old ≤ x) (sym e) (more (test event)) in
        inl (let a : greatest_count ≤ k = omega (arith, most, step, grown) in a)
    by (inr before) (inr step) e = inr (let a : count_of test new + n ≤ count_of test first + k = omega (arith, before, step) in a)

-- ** events that are no restarts

-- the event says that the log failed
abbrev pub is_fault_event : Event → Bool
is_fault_event event = says_log_fault event.reply

-- in a step that is no restart of the manager
abbrev pub is_other_fault : Event → Bool
is_other_fault event = says_log_fault event.reply && not (is_restart (step_of event.step))

restart_failed : (s : known.Step) → log_failed s ≡ Failed InRestart → is_restart s ≡ true
restart_failed (Steps.Restart Sides.Manager) e = refl
restart_failed (Steps.Hear t r) e = absurd (cc)
restart_failed (Steps.Decide g o) e = absurd (cc)
restart_failed (Steps.Settle g) e = absurd (cc)
restart_failed (Steps.Resolve r) e = absurd (cc)
restart_failed (Steps.ResolveOpen r) e = absurd (cc)
restart_failed (Steps.Done g) e = absurd (cc)
restart_failed s e = absurd (let no : Nothing ≡ Failed InRestart = e in cc)

no_other : (s : known.Step) (reply : Reply Xid) → happened s (reply_of reply) ≡ Failed InRestart → (says_log_fault reply && not (is_restart s)) ≡ false
no_other s (Replies.Refused Refusals.LogFault) e = ap not (restart_failed s e)
no_other s reply e = refl

fewer : (a b : Bool) (n k : ℕ) → Rises a n k → Rises (a && b) n k
fewer true true n k h = h
fewer true false n k (inl most) = inl most
fewer true false n k (inr more) = inr (omega (arith, more))
fewer false b n k h = h

pub other_rises : (tr : Trace) (s : known.Step) (reply : Reply Xid) (n m : ℕ) → Allowed tr s (reply_of reply)
    → (m ≡ count_after (happened s (reply_of reply)) n) ⊎ ((happened s (reply_of reply) ≡ Failed InRestart) × (m ≡ n))
    → Rises (says_log_fault reply && not (is_restart s)) n m
other_rises tr s reply n m allowed (inl same) =
    subst (Rises (says_log_fault reply && not (is_restart s)) n) (sym same)
    (fewer (says_log_fault reply) (not (is_restart s)) n _ (rises tr s reply n allowed))
other_rises tr s reply n m allowed (inr missed) =
    subst (λ t. Rises t n m) (sym (no_other s reply missed.0)) (inr (let a : n ≤ m = omega (arith, missed.1) in a))
