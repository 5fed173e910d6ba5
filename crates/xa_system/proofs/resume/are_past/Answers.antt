use Rattle.std.proofs.Common.{length, refl}
use Rattle.std.proofs.lemmas.Option.{slice_get_read}
use Rattle.xa_system.specs.SystemView.{IsOfPast}
use Rattle.xa_system.specs.declared.site.Site.{Site}
use Rattle.xa_system.proofs.Histories.Past.{are_of_past, one_newer}
use Rattle.xa_system.proofs.Histories.HoldsBelow.{below_all, below_more}
use Rattle.xa_system.proofs.resume.are_past.Goals as goal

pub returns-then-holds_newer-clause-newer : goal.returns-then-holds_newer-clause-newer
returns-then-holds_newer-clause-newer g c _ =
    let look = g.R.ResourceManager.look in
    one_newer look c.args.incarnation c.args.sites.now c.loop-rm.rm c.index-sites-rm.result
    (slice_get_read c.args.sites.now (length c.args.sites.now) c.loop-rm.rm c.index-sites-rm.result refl c.loop-rm-test.true c.index-sites-rm.is)
    (c.if-holds_newer.ensures.newer refl)

pub loop-rm-preserved : goal.loop-rm-preserved
loop-rm-preserved g c =
    let look = g.R.ResourceManager.look in
    below_more (λ r (site : Site g.row.R.Denot). IsOfPast look c.args.incarnation r site.rm) c.args.sites.now c.loop-rm.rm c.index-sites-rm.result
    c.loop-rm.invariant
    (slice_get_read c.args.sites.now (length c.args.sites.now) c.loop-rm.rm c.index-sites-rm.result refl c.loop-rm-test.true c.index-sites-rm.is)
    (record { past = c.if-holds_newer.ensures.past refl; listed = c.in_doubt_len.ensures.in_doubt })

pub returns-clause-past : goal.returns-clause-past
returns-clause-past g c _ =
    let look = g.R.ResourceManager.look in
    are_of_past look c.args.incarnation c.args.sites.now
    (below_all (λ r (site : Site g.row.R.Denot). IsOfPast look c.args.incarnation r site.rm) c.args.sites.now c.loop-rm.rm c.loop-rm-test.false
    c.loop-rm.invariant)
