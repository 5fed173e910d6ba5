use Rattle.std.proofs.Common.{◌∙◌, subst, string_bytes}
use Rattle.xa_chart.specs.Pictures.{HasTitle}
use Rattle.xa_chart.proofs.chart.chart_text.Goals as goal

pub returns : goal.returns
returns c =
    subst (λ t. HasTitle t (string_bytes c.in_ok-picture.picture))
    (c.as_str.ensures.value ∙ c.in_ok-title.ensures) c.in_ok-picture.ensures
