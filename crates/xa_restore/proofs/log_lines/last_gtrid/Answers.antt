use Rattle.std.proofs.Common.{◌∙◌, ap, sym}
use Rattle.std.specs.Option.{option_copied, option_map}
use Rattle.xa_log.specs.declared.decision.Decision.{Decision}
use Rattle.xa_restore.proofs.LineLemmas.{last_is}
use Rattle.xa_restore.proofs.log_lines.last_gtrid.Goals as goal

pub returns-in-Some : goal.returns-in-Some
returns-in-Some c =
    ap (option_map (λ (d : Decision). d.gtrid)) (ap option_copied (sym c.in-Some.is) ∙ c.last.ensures.value) ∙ last_is c.args.decisions.now

pub returns-in-None : goal.returns-in-None
returns-in-None c =
    ap (option_map (λ (d : Decision). d.gtrid)) (ap option_copied (sym c.in-None.is) ∙ c.last.ensures.value) ∙ last_is c.args.decisions.now
