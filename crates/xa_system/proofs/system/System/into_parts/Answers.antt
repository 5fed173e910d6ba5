use Rattle.std.proofs.Common.{◌≡◌, ◌++◌, false, Some, map, sym, ap, ◌∙◌}
use Rattle.xa_tm.specs.Book.{Book}
use Rattle.xa_tm.specs.Calls.{book_in, log_in}
use Rattle.xa_tm.specs.Slots.{content_in, log_held, slot_moment}
use Rattle.xa_tm.specs.declared.slot.Slot.{Slot}
use Rattle.xa_system.specs.Parts.{Sees, sees}
use Rattle.xa_system.specs.declared.site.Site.{Site}
use Rattle.xa_system.proofs.Histories.Leavings.{leaves_view}
use Rattle.xa_system.proofs.system.System.into_parts.Goals as goal

pub returns-clause-left : goal.returns-clause-left
returns-clause-left g c order honest may log content is holds =
    let see : Sees g.row.R.Denot (Slot g.row.L.Denot) =
    sees g.R.ResourceManager.look (slot_moment g.L.DecisionLog.moment) in
    let moment = g.L.DecisionLog.moment in
    let a = c.self.inside in
    let down : (book_in c.crash.new.self).up ≡ false = ap (λ (k : Book). k.up) c.crash.ensures.book in
    let held : log_held (log_in a.parts.manager) ≡ Some log = sym (ap log_held c.crash.ensures.log) ∙ sym (c.take_log-log.ensures.taken down) ∙ is in
    let rms : c.rms_of.result.items ≡ map (λ (site : Site g.row.R.Denot). site.rm) a.parts.sites.items =
    c.rms_of.ensures ∙ ap (λ xs. xs ++ map (λ (site : Site g.row.R.Denot). site.rm) a.parts.sites.items) c.in-Ok.ensures.items in
    leaves_view see moment a c.self.invariant c.args.self c.self.view_is order honest may content
    (ap (content_in (λ l. (moment l).content)) held ∙ holds) c.rms_of.result.items rms
