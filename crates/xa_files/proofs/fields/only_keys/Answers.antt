use Rattle.std.proofs.Common.{◌∙◌, ap, map, is_none}
use Rattle.toml.specs.View.{table_view}
use Rattle.xa_files.specs.Fields.{is_text_among, keys_of}
use Rattle.xa_files.proofs.FieldLemmas.{is_none-find}
use Rattle.xa_files.proofs.fields.only_keys.Goals as goal

pub returns-in-Some-clause-only : goal.returns-in-Some-clause-only
returns-in-Some-clause-only c =
    ap is_none c.in-Some.ensures ∙ is_none-find (is_text_among (map (λ key. key.now) c.args.keys.now)) (keys_of (table_view c.args.table.now))

pub returns-in-None-clause-only : goal.returns-in-None-clause-only
returns-in-None-clause-only c =
    ap is_none c.in-None.ensures ∙ is_none-find (is_text_among (map (λ key. key.now) c.args.keys.now)) (keys_of (table_view c.args.table.now))
