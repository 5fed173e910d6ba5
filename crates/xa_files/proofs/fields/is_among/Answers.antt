use Rattle.std.proofs.Common.{◌∙◌, sym}
use Rattle.std.specs.Str.{bytes_eq}
use Rattle.xa_base.proofs.Lists.{list_any-map}
use Rattle.xa_files.proofs.fields.is_among.Goals as goal

pub returns : goal.returns
returns c = c.contains.ensures.value ∙ sym (list_any-map (λ x. bytes_eq x c.args.text.now) _ c.args.texts.now)
