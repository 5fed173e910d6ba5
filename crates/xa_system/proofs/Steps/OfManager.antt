-- Steps that the manager does or refuses.
use Rattle.std.proofs.Common.{◌≡◌, ◌≤◌, ◌<◌, ◌≢◌, ℕ, [], true, false, refl, sym, ap, ◌∙◌, subst, arith}
use Rattle.std.specs.Prelude.{not, Option, Some, None}
use Rattle.xa_base.specs.Xid.{Xid}
use Rattle.xa_model.specs.Replies.Allowed.{Allowed.As_value, IsValue, MayLackMemory}
use Rattle.xa_model.specs.Facts as facts
use Rattle.xa_model.specs.Replies.History.{reply_of, step_of}
use Rattle.xa_model.specs.Replies.ReadBack.{StepHasXids}
use Rattle.xa_model.specs.Protocol.{Right}
use Rattle.std.proofs.lemmas.Bool.{not-false}
use Rattle.xa_model.specs.Replies.Rules.{applies, must_refuse}
use Rattle.xa_model.specs.Replies.Steps as known
use Rattle.xa_model.specs.Replies.Steps.{happened}
use Rattle.xa_model.specs.Trace.{Happening, Trace, Trace.Then, line}
use Rattle.xa_base.specs.declared.refusal.Refusal.{Refusal}
use Rattle.xa_base.specs.declared.refusal.Refusal.TheVariants as Refusals
use Rattle.xa_base.specs.declared.reply.Reply.{Reply}
use Rattle.xa_base.specs.declared.reply.Reply.TheVariants as Replies
use Rattle.xa_base.specs.declared.step.Step.{Step}
use Rattle.xa_model.proofs.Replies.Guards.{IsForced, forced, none_applies}
use Rattle.xa_model.proofs.Replies.Replies.{allowed_right}
use Rattle.xa_line.specs.Grid.{line_at}
use Rattle.xa_line.proofs.ChangedLines.{line_stays}
use Rattle.xa_tm.specs.declared.manager.Manager.{Manager}
use Rattle.xa_log.specs.Content.{last_number}
use Rattle.xa_tm.specs.LedgerBook.{IsSound}
use Rattle.xa_tm.specs.Calls.{book_in, log_in}
use Rattle.xa_system.specs.LogInHistory.{LogFollows}
use Rattle.xa_tm.specs.Laws.{IsLookedAt}
use Rattle.xa_tm.specs.Limits.{IsWithinLimits, happenings}
use Rattle.xa_tm.proofs.History.Limits.{book_is_sound}
use Rattle.xa_tm.proofs.History.Refusals.{refusal_is}
use Rattle.xa_tm.proofs.History.RowCounts.{right_book}
use Rattle.xa_system.specs.Parts.{OneMore, Sees, Stands, StandsSomewhere}
use Rattle.xa_system.specs.declared.system.TheConstants.{EVENT_LIMIT}
use Rattle.xa_system.specs.declared.parts.Parts.{Parts}
use Rattle.xa_system.proofs.Histories.Standing.{Follows, IsEvent, IsNothingTo, goes_as, site_stays}
use Rattle.xa_system.proofs.Histories.RefusedSteps.{lacking_goes, rule_goes}
use Rattle.xa_tm.specs.Book.{Book, Doubt, after, doubt_of_happening, book_after, book_of}
use Rattle.xa_tm.specs.Refusing.{managers_refusal, refusal_in}

-- a refusal that a history forces is no fault of the log
pub not_fault : (n : Refusal) → IsForced n → n ≢ Refusals.LogFault
not_fault n f e = subst IsForced e f

-- a step that asks the manager is refused while that is down
pub up_where : (tr : Trace) (s : known.Step) → applies tr s Refusals.ManagerDown ≡ not (facts.up tr) → must_refuse tr s ≡ None → facts.up tr ≡ true
up_where tr s asks none = not-false (facts.up tr) (sym asks ∙ none_applies tr s Refusals.ManagerDown none)

module _ {R L : Type 0} (see : Sees R L) where
  -- the history is within the limits
  pub within : (tr : Trace) (parts : Parts R L) → Stands see tr parts → happenings tr < EVENT_LIMIT → IsWithinLimits tr
  within tr parts stands few = record {
    right = stands.kept.run;
    events = omega (arith, few);
    fits = stands.fits;
    found = stands.over.numbers;
  }

  -- the book that the manager holds is sound
  pub sound_book : (parts : Parts R L) → StandsSomewhere see parts → IsSound (book_in parts.manager)
  sound_book parts at = subst IsSound (sym at.1.book) (book_is_sound at.0 (within at.0 parts at.1 at.2) at.1.began at.1.room)

  -- what the manager would refuse, the history does
  pub judged : (tr : Trace) (parts : Parts R L) (s : known.Step) → IsLookedAt s → Stands see tr parts
      → refusal_in (book_in parts.manager) s ≡ managers_refusal tr s
  judged tr parts s looked stands = ap (λ k. refusal_in k s) stands.book ∙ refusal_is tr s stands.kept.run looked

  -- while it is up
  pub up_in : (tr : Trace) (parts : Parts R L) (s : known.Step) → IsLookedAt s → managers_refusal tr s ≡ must_refuse tr s
      → applies tr s Refusals.ManagerDown ≡ not (facts.up tr)
      → Stands see tr parts → refusal_in (book_in parts.manager) s ≡ None → (book_in parts.manager).up ≡ true
  up_in tr parts s looked same asks stands none =
      ap (λ (k : Book). k.up) stands.book ∙ up_where tr s asks (sym same ∙ sym (judged tr parts s looked stands) ∙ none)

  -- the book of one happening more
  pub book_then : (tr : Trace) (e : Happening) (parts : Parts R L) (manager : Manager L) → Stands see tr parts → Right tr e
      → book_in manager ≡ book_after (book_in parts.manager) (doubt_of_happening tr e) e → book_in manager ≡ book_of (Then tr e)
  book_then tr e parts manager stands right is =
      is ∙ ap (λ k. book_after k (doubt_of_happening tr e) e) stands.book ∙ sym (right_book tr e stands.kept.run right stands.apart)

  -- a happening of the manager alone is nothing to the lines and the resource managers
  pub record IsOwn (tr : Trace) (e : Happening) : Type 0 where
    pub sites : (r : ℕ) → IsNothingTo see tr e r
    pub unbroken : (t r : ℕ) → facts.breaks tr e (line t r) ≡ false
    pub calls : (t r : ℕ) → facts.new_calls tr e (line t r) ≡ []
    pub taken : (t r : ℕ) → facts.new_taken e (line t r) ≡ []
    pub heard : (t r : ℕ) → facts.new_heard e (line t r) ≡ []
    pub fits : facts.incarnation tr ≤ last_number → facts.incarnation (Then tr e) ≤ last_number
    pub event : IsEvent e

  -- the parts with another manager
  abbrev pub with_manager : Parts R L → Manager L → Parts R L
  with_manager parts manager =
      record { alloc = parts.alloc; start = parts.start; began = parts.began; sites = parts.sites; lines = parts.lines; manager = manager }

  pub own_follows : (tr : Trace) (e : Happening) (parts : Parts R L) (manager : Manager L) → IsOwn tr e → Stands see tr parts
      → book_in manager ≡ book_of (Then tr e)
      → LogFollows see.moment tr e parts.manager manager → Follows see tr e parts (with_manager parts manager)
  own_follows tr e parts manager own stands book log = record {
    start = refl;
    began = refl;
    threads = refl;
    rms = refl;
    whole = stands.whole;
    count = refl;
    fits = own.fits stands.fits;
    sites = λ r site at. site_stays see tr e r site (own.sites r) (stands.sites r site at);
    lines =
        λ t r has. line_stays tr e (line t r) (line_at parts.lines t r) (own.unbroken t r) (own.calls t r) (own.taken t r) (own.heard t r)
        (stands.lines t r has);
    book = book;
    log = log;
    unchanged = λ q. absurd (subst IsEvent q own.event);
  }

  -- ** steps of the manager alone

  -- it did the step
  pub did_goes : (tr : Trace) (step : Step Xid) (reply : Reply Xid) (seen : known.Reply) (parts : Parts R L) (manager : Manager L)
      → Stands see tr parts → StepHasXids step → IsLookedAt (step_of step) → reply_of reply ≡ seen
      → managers_refusal tr (step_of step) ≡ must_refuse tr (step_of step)
      → refusal_in (book_in parts.manager) (step_of step) ≡ None → IsValue tr (step_of step) seen
      → IsOwn tr (happened (step_of step) seen) → doubt_of_happening tr (happened (step_of step) seen) ≡ Doubt.NoDoubt
      → book_in manager ≡ after (book_in parts.manager) (happened (step_of step) seen)
      → LogFollows see.moment tr (happened (step_of step) seen) parts.manager manager
      → OneMore see step reply tr parts (with_manager parts manager)
  did_goes tr step reply seen parts manager stands has looked is same none value own asked book log =
      let allowed = As_value (sym same ∙ sym (judged tr parts (step_of step) looked stands) ∙ none) value in
      let e = happened (step_of step) seen in
      goes_as see tr step reply seen parts (with_manager parts manager) stands has is allowed
      (own_follows tr e parts manager own stands
      (book_then tr e parts manager stands (allowed_right tr (step_of step) seen allowed)
      (book ∙ ap (λ d. book_after (book_in parts.manager) d e) (sym asked))) log)

  -- it refused the step by a rule, or memory was refused to it
  pub refused_or_lacking : (tr : Trace) (step : Step Xid) (reply : Reply Xid) (parts : Parts R L) (manager : Manager L) (n : Refusal)
      → Stands see tr parts → StepHasXids step → IsLookedAt (step_of step) → reply ≡ Replies.Refused n
      → managers_refusal tr (step_of step) ≡ must_refuse tr (step_of step) → MayLackMemory tr (step_of step)
      → ((m : Refusal) → refusal_in (book_in parts.manager) (step_of step) ≡ Some m → (m ≡ n) × (book_in manager ≡ book_in parts.manager))
      → (refusal_in (book_in parts.manager) (step_of step) ≡ None → (n ≡ Refusals.Memory) × (book_in manager ≡ book_in parts.manager))
      → (n ≢ Refusals.LogFault → log_in manager ≡ log_in parts.manager)
      → OneMore see step reply tr parts (with_manager parts manager)
  refused_or_lacking tr step reply parts manager n stands has looked is same may refused lacking log =
      by_rule (refusal_in (book_in parts.manager) (step_of step)) refl
    where
      why : (o : Option Refusal) → refusal_in (book_in parts.manager) (step_of step) ≡ o → must_refuse tr (step_of step) ≡ o
      why o e = sym same ∙ sym (judged tr parts (step_of step) looked stands) ∙ e

      by_rule : (o : Option Refusal) → refusal_in (book_in parts.manager) (step_of step) ≡ o → OneMore see step reply tr parts (with_manager parts manager)
      by_rule (Some m) e =
          rule_goes see tr step reply parts manager m stands has (is ∙ ap (λ k. Replies.Refused k) (sym (refused m e).0)) (why (Some m) e) (refused m e).1
          (log (not_fault n (subst IsForced (refused m e).0 (forced tr (step_of step) m (why (Some m) e)))))
      by_rule None e = lacking_goes see tr step parts manager reply stands has (is ∙ ap (λ k. Replies.Refused k) (lacking e).0) (why None e) may (lacking e).1
          (log (λ q. absurd (let two : Refusals.Memory ≡ Refusals.LogFault = sym (lacking e).0 ∙ q in cc)))
