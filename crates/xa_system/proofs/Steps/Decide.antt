-- Steps of the manager in which its log may fail.
use Rattle.std.proofs.Common.{◌≡◌, ◌≢◌, inl, inr, ℕ, true, refl, sym, ap, ◌∙◌, subst, Vec, Global}
use Rattle.std.specs.Prelude.{Option, Some, None, Result, Err}
use Rattle.xa_tm.specs.Calls.{AddsRow, book_in, FailsBy}
use Rattle.xa_base.specs.declared.step.Step.TheVariants as Steps
use Rattle.xa_base.specs.declared.step.Outcome.TheVariants as Outcomes
use Rattle.xa_base.specs.declared.step.Outcome.{Outcome}
use Rattle.xa_base.specs.declared.branch.Gtrid.{Gtrid}
use Rattle.xa_tm.specs.Laws.{IsLookedAt}
use Rattle.xa_base.specs.Xid.{Xid}
use Rattle.xa_model.specs.Replies.Allowed.{MayLackMemory, NeedsLog}
use Rattle.xa_model.specs.Facts as facts
use Rattle.xa_model.specs.Replies.History.{step_of}
use Rattle.xa_model.specs.Replies.ReadBack.{StepHasXids}
use Rattle.xa_model.specs.Replies.Rules.{must_refuse}
use Rattle.xa_model.specs.Replies.Steps.{log_failed}
use Rattle.xa_model.specs.Trace.{Fault, Happening.Failed, Trace}
use Rattle.xa_base.specs.declared.refusal.Refusal.{Refusal}
use Rattle.xa_base.specs.declared.refusal.Refusal.TheVariants as Refusals
use Rattle.xa_base.specs.declared.reply.Reply.{Reply}
use Rattle.xa_base.specs.declared.reply.Reply.TheVariants as Replies
use Rattle.xa_base.specs.declared.step.Step.{Step}
use Rattle.xa_base.proofs.Options.{err_is}
use Rattle.xa_model.proofs.Replies.Guards.{IsForced, forced}
use Rattle.xa_model.proofs.Replies.Replies.{fault_right}
use Rattle.xa_model.specs.Protocol.{Right}
use Rattle.xa_line.specs.Grid.{Grid, new_grid}
use Rattle.xa_tm.specs.declared.manager.Manager.{Manager}
use Rattle.xa_log.specs.Content.{Content}
use Rattle.xa_system.specs.LogInHistory.{change_in}
use Rattle.xa_system.specs.Parts.{GoesOn, OneMore, Sees}
use Rattle.xa_system.specs.Steps.{AllCrash}
use Rattle.xa_system.specs.declared.parts.Parts.{Parts}
use Rattle.xa_system.specs.declared.site.Site.{Site}
use Rattle.xa_system.proofs.Steps.FailedLog.{fail_goes}
use Rattle.xa_system.proofs.Log.Changes.{LogUndone, fault_is_change, log_failing}
use Rattle.xa_system.proofs.Steps.OfManager.{judged, not_fault}
use Rattle.xa_system.proofs.Histories.RefusedSteps.{lacking_goes, rule_goes}
use Rattle.xa_tm.specs.Book.{Book, Doubt, doubt_of_happening, book_after, book_of, failed_restarts_after}
use Rattle.xa_tm.specs.Refusing.{managers_refusal, refusal_in}

module _ {R L : Type 0} (see : Sees R L) where
  pub manager_undone : {A : Type 0} (step : Step Xid) (f : Fault) (asked : Doubt) (change : Content
      → Content) (parts : Parts R L) (n : Refusal) (sites : Vec (Site R) Global) (lines : Grid) (manager : Manager L) (reply : Reply Xid) → StepHasXids step →
      IsLookedAt (step_of step)
      → ((tr : Trace) → managers_refusal tr (step_of step) ≡ must_refuse tr (step_of step))
      → ((tr : Trace) → MayLackMemory tr (step_of step)) → log_failed (step_of step) ≡ Failed f
      → ((m : ℕ) → failed_restarts_after (Failed f) m ≡ m)
      → ((tr : Trace) → must_refuse tr (step_of step) ≡ None → facts.up tr ≡ true)
      → ((tr : Trace) → book_in parts.manager ≡ book_of tr → asked ≡ doubt_of_happening tr (Failed f))
      → ((tr : Trace) → book_in parts.manager ≡ book_of tr → refusal_in (book_in parts.manager) (step_of step) ≡ None
      → n ≡ Refusals.LogFault → NeedsLog tr (step_of step))
      → reply ≡ Replies.Refused n
      → ((m : Refusal) → refusal_in (book_in parts.manager) (step_of step) ≡ Some m
      → ((let x : Result A Refusal = Err n in x) ≡ Err m) × (manager ≡ parts.manager))
      → (refusal_in (book_in parts.manager) (step_of step) ≡ None → FailsBy asked f (book_in parts.manager) (book_in manager) n)
      → (n ≡ Refusals.LogFault → AllCrash see.look parts.sites.items sites.items)
      → (n ≡ Refusals.LogFault → lines ≡ new_grid parts.lines.threads parts.lines.rms)
      → (n ≢ Refusals.LogFault → sites ≡ parts.sites) → (n ≢ Refusals.LogFault → lines ≡ parts.lines)
      → ((tr : Trace) (c : Content) → book_in parts.manager ≡ book_of tr → change c ≡ change_in tr f c) → LogUndone see.moment A n change parts.manager manager
      → GoesOn see step reply parts (record { alloc = parts.alloc; start = parts.start; began = parts.began; sites = sites; lines = lines; manager = manager })
  manager_undone {A = A} step f asked change parts n sites lines manager reply has looked same may fault still up asks uses is refused fails crash broken
      sites_stay lines_stay changes undone tr stands few = by_rule (refusal_in (book_in parts.manager) (step_of step)) refl
    where
      why : (o : Option Refusal) → refusal_in (book_in parts.manager) (step_of step) ≡ o → must_refuse tr (step_of step) ≡ o
      why o e = sym (same tr) ∙ sym (judged see tr parts (step_of step) looked stands) ∙ e

      unbroken : n ≢ Refusals.LogFault
          → OneMore see step reply tr parts (record {
            alloc = parts.alloc;
            start = parts.start;
            began = parts.began;
            sites = parts.sites;
            lines = parts.lines;
            manager = manager;
          })
          → OneMore see step reply tr parts (record {
            alloc = parts.alloc;
            start = parts.start;
            began = parts.began;
            sites = sites;
            lines = lines;
            manager = manager;
          })
      unbroken no_fault h =
          subst (λ q. OneMore see step reply tr parts (record {
            alloc = parts.alloc;
            start = parts.start;
            began = parts.began;
            sites = q;
            lines = lines;
            manager = manager;
          })) (sym (sites_stay no_fault))
          (subst (λ q. OneMore see step reply tr parts (record {
            alloc = parts.alloc;
            start = parts.start;
            began = parts.began;
            sites = parts.sites;
            lines = q;
            manager = manager;
          })) (sym (lines_stay no_fault)) h)

      by_cause : must_refuse tr (step_of step) ≡ None → refusal_in (book_in parts.manager) (step_of step) ≡ None
          → FailsBy asked f (book_in parts.manager) (book_in manager) n
          → OneMore see step reply tr parts (record {
            alloc = parts.alloc;
            start = parts.start;
            began = parts.began;
            sites = sites;
            lines = lines;
            manager = manager;
          })
      by_cause none free (inl w) =
          unbroken (λ e. absurd (let two : Refusals.Memory ≡ Refusals.LogFault = sym w.0 ∙ e in cc))
          (lacking_goes see tr step parts manager reply stands has (is ∙ ap (λ m. Replies.Refused m) w.0) none (may tr) w.1
          (undone.kept (λ e. absurd (let two : Refusals.Memory ≡ Refusals.LogFault = sym w.0 ∙ e in cc))))
      by_cause none free (inr w) =
          fail_goes see tr step f reply parts sites lines manager stands has (is ∙ ap (λ m. Replies.Refused m) w.0) none
          (uses tr stands.book free w.0) fault (up tr none) (crash w.0) (broken w.0)
          (w.1 ∙ ap (λ d. book_after (book_in parts.manager) d (Failed f)) (asks tr stands.book))
          (log_failing see.moment f n parts.manager manager w.0 (ap (λ (k : Book). k.up) stands.book ∙ up tr none)
          (fault_is_change tr f (book_in parts.manager) stands.book stands.kept.run
          (subst (Right tr) fault (fault_right tr (step_of step) none (uses tr stands.book free w.0))) (up tr none)) still
          (w.1 ∙ ap (λ d. book_after (book_in parts.manager) d (Failed f)) (asks tr stands.book))
          (subst (λ (d : Content → Content). LogUndone see.moment A n d parts.manager manager) (λ i c. changes tr c stands.book i) undone))

      by_rule : (o : Option Refusal) → refusal_in (book_in parts.manager) (step_of step) ≡ o
          → OneMore see step reply tr parts (record {
            alloc = parts.alloc;
            start = parts.start;
            began = parts.began;
            sites = sites;
            lines = lines;
            manager = manager;
          })
      by_rule (Some m) e =
          let same_n = err_is n m (refused m e).0 in
          let forced_so = why (Some m) e in
          unbroken (not_fault n (subst IsForced (sym same_n) (forced tr (step_of step) m forced_so)))
          (rule_goes see tr step reply parts manager m stands has (is ∙ ap (λ k. Replies.Refused k) same_n) forced_so (ap book_in (refused m e).1)
          (undone.kept (not_fault n (subst IsForced (sym same_n) (forced tr (step_of step) m forced_so)))))
      by_rule None e = by_cause (why None e) e (fails e)

-- the log is asked for a row only if some branch voted XA_OK for a commit
pub row_is_asked : (tr : Trace) (g : Gtrid) (o : Outcome) {k : Book} → k ≡ book_of tr → AddsRow o (k.transaction g) → NeedsLog tr (Steps.Decide g o)
row_is_asked tr g Outcomes.Commit at asked = sym (ap (λ (b : Book). (b.transaction g).has_yes) at) ∙ asked
row_is_asked tr g Outcomes.Rollback at asked = absurd cc
