-- A step in which the log failed.
use Rattle.std.proofs.Common.{◌≡◌, ℕ, true, refl, sym, ap, ◌∙◌, subst, Vec, Global}
use Rattle.std.specs.Prelude.{None}
use Rattle.xa_base.specs.Xid.{Xid}
use Rattle.xa_model.specs.Replies.Allowed.{Allowed, Allowed.For_log, NeedsLog}
use Rattle.xa_model.specs.Facts as facts
use Rattle.xa_model.specs.Replies.Steps.{log_failed}
use Rattle.xa_model.specs.Replies.History.{reply_of, step_of}
use Rattle.xa_model.specs.Replies.ReadBack.{StepHasXids}
use Rattle.xa_model.specs.Protocol.{Right}
use Rattle.xa_model.specs.Replies.Rules.{must_refuse}
use Rattle.xa_model.specs.Trace.{Fault, Happening.Failed, Trace, Trace.Then, line}
use Rattle.xa_base.specs.declared.refusal.Refusal.TheVariants as Refusals
use Rattle.xa_base.specs.declared.reply.Reply.{Reply}
use Rattle.xa_base.specs.declared.reply.Reply.TheVariants as Replies
use Rattle.xa_base.specs.declared.step.Step.{Step}
use Rattle.xa_model.proofs.Replies.Replies.{allowed_right}
use Rattle.xa_line.specs.Grid.{Grid, line_at, new_grid}
use Rattle.xa_line.proofs.GridLaws.{line_at-new_grid, whole-new_grid}
use Rattle.xa_tm.specs.declared.manager.Manager.{Manager}
use Rattle.xa_tm.specs.Calls.{book_in}
use Rattle.xa_line.specs.Histories.{LineStands}
use Rattle.xa_system.specs.Parts.{OneMore, Sees, Stands}
use Rattle.xa_system.specs.Steps.{AllCrash}
use Rattle.xa_system.specs.declared.parts.Parts.{Parts}
use Rattle.xa_system.specs.declared.site.Site.{Site}
use Rattle.xa_system.proofs.Rms.BrokenLines.{BreaksAll}
use Rattle.xa_system.proofs.Steps.CrashManager.{all_stand}
use Rattle.xa_line.proofs.TrafficLaws.{line_renewed}
use Rattle.xa_system.specs.LogInHistory.{LogFollows}
use Rattle.xa_system.proofs.Steps.OfManager.{book_then}
use Rattle.xa_system.proofs.Histories.Standing.{Follows, IsEvent, goes_as}
use Rattle.xa_tm.specs.Book.{doubt_of_happening, book_after}

failed_breaks : (tr : Trace) (f : Fault) → facts.up tr ≡ true → (r : ℕ) → BreaksAll tr (Failed f) r
failed_breaks tr f up r = record { standing = λ b at. rw up refl; vote = λ b at. refl; retries = λ b at. refl; closed = rw up refl }

module _ {R L : Type 0} (see : Sees R L) where
  -- a step in which the log failed: all lines break
  pub fail_goes : (tr : Trace) (step : Step Xid) (f : Fault) (reply : Reply Xid) (parts : Parts R L) (sites : Vec (Site R) Global)
      (lines : Grid) (manager : Manager L) → Stands see tr parts → StepHasXids step → reply ≡ Replies.Refused Refusals.LogFault
      → must_refuse tr (step_of step) ≡ None → NeedsLog tr (step_of step) → log_failed (step_of step) ≡ Failed f → facts.up tr ≡ true
      → AllCrash see.look parts.sites.items sites.items → lines ≡ new_grid parts.lines.threads parts.lines.rms
      → book_in manager ≡ book_after (book_in parts.manager) (doubt_of_happening tr (Failed f)) (Failed f)
      → LogFollows see.moment tr (Failed f) parts.manager manager
      → OneMore see step reply tr parts (record {
        alloc = parts.alloc;
        start = parts.start;
        began = parts.began;
        sites = sites;
        lines = lines;
        manager = manager;
      })
  fail_goes tr step f reply parts sites lines manager stands has is none uses fault up did renewed book log =
      let allowed : Allowed tr (step_of step) (Replies.Refused Refusals.LogFault) = For_log none uses refl in
      let e = Failed f in
      goes_as see tr step reply (Replies.Refused Refusals.LogFault) parts _ stands has (ap reply_of is) allowed
      (subst (λ h. Follows see tr h parts (record {
        alloc = parts.alloc;
        start = parts.start;
        began = parts.began;
        sites = sites;
        lines = lines;
        manager = manager;
      })) (sym fault) (record {
        start = refl;
        began = refl;
        threads = ap (λ (g : Grid). g.threads) renewed;
        rms = ap (λ (g : Grid). g.rms) renewed;
        fits = stands.fits;
        whole = rw renewed (whole-new_grid parts.lines.threads parts.lines.rms);
        count = sites.ok.0 ∙ did.count ∙ sym parts.sites.ok.0;
        sites = all_stand see tr e parts.sites sites (failed_breaks tr f up) (λ r. refl) did stands.sites;
        lines =
            λ t r has. subst (LineStands (Then tr e) (line t r))
            (sym (ap (λ g. line_at g t r) renewed ∙ line_at-new_grid parts.lines.threads parts.lines.rms t r)) (line_renewed tr e (line t r) up);
        book = book_then see tr e parts manager stands
            (subst (Right tr) fault (allowed_right tr (step_of step) (Replies.Refused Refusals.LogFault) allowed)) book;
        log = log;
        unchanged = λ q. absurd (subst IsEvent q tt);
      }))
