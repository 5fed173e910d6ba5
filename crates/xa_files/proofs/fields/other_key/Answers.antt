use Rattle.std.proofs.Common.{◌≡◌, ◌∙◌, sym, ap, map, not, option_map, Some, None, string_bytes, rules, tests}
use Rattle.std.specs.BTreeMap.{keys}
use Rattle.std.proofs.lemmas.Iterator.Search.{find_from_yields_List}
use Rattle.std.proofs.lemmas.Iterator.Consumers.{YieldsList-from_rest}
use Rattle.xa_files.specs.Fields.{is_text_among}
use Rattle.xa_files.proofs.FieldLemmas.{first_found}
use Rattle.xa_files.proofs.fields.other_key.Goals as goal

pub returns-in_err-key : goal.returns-in_err-key
returns-in_err-key c =
    let texts = map (λ key. key.now) c.args.keys.now in
    let none : c.find.result ≡ None = search rules in
    let gives : c.from_residual.result ≡ None = search rules in
    ap (option_map (λ key. key.now)) gives ∙ sym (ap (λ r. option_map string_bytes (option_map (λ key. key.now) r)) none)
    ∙ first_found texts c.args.table.now.entries _
    (find_from_yields_List (λ key. not (is_text_among texts (string_bytes key))) _ _ c.find.result c.find.ensures.ran
    (YieldsList-from_rest (keys c.args.table.now) c.keys.ensures.rest) (λ x b q k. search (rules, tests)))

pub returns : goal.returns
returns c =
    let texts = map (λ key. key.now) c.args.keys.now in
    let some : c.find.result ≡ Some c.in_ok-key.key = search rules in
    ap (λ text. Some text) c.as_str.ensures.value ∙ sym (ap (λ r. option_map string_bytes (option_map (λ key. key.now) r)) some)
    ∙ first_found texts c.args.table.now.entries _
    (find_from_yields_List (λ key. not (is_text_among texts (string_bytes key))) _ _ c.find.result c.find.ensures.ran
    (YieldsList-from_rest (keys c.args.table.now) c.keys.ensures.rest) (λ x b q k. search (rules, tests)))
