use Rattle.std.proofs.Common.{◌≡◌, ◌∙◌, ℕ, List, subst}
use Rattle.sqlite.specs.Recovery.{Image}
use Rattle.xa_log.specs.Contract.{Moment}
use Rattle.xa_commands.specs.Services.{OpensAs}
use Rattle.xa_commands.proofs.service.begin.Goals as goal

labelled_so : {L : Type 0} (moment : L → Moment) (image : Image) (a b : List ℕ) (log : L) → a ≡ b → OpensAs moment image a log
    → OpensAs moment image b log
labelled_so moment image a b log same opens = subst (λ label. OpensAs moment image label log) same opens

pub returns-in-Ok-Some-clause-opened : goal.returns-in-Ok-Some-clause-opened
returns-in-Ok-Some-clause-opened g c =
    labelled_so _ _ _ _ c.in-Ok-Some.claimed.log (c.as_str.ensures.value ∙ c.in_ok-label.ensures)
    (rw c.in-Ok-Some.field-0-is at c.in-Ok-Some.ensures.opened)
