use Rattle.std.proofs.Common.{◌≡◌, rules, tests, arith}
use Rattle.std.specs.List.{list_all}
use Rattle.std.proofs.lemmas.Bool.Decides.{nat_tests}
use Rattle.std.proofs.lemmas.Iterator.Search.{all_from_yields_List}
use Rattle.std.proofs.lemmas.Iterator.Adapters.{YieldsList-from_bytes}
use Rattle.xa_files.specs.Fields.{is_name_byte}
use Rattle.xa_files.proofs.fields.is_name.Goals as goal

pub returns-then-contains : goal.returns-then-contains
returns-then-contains c =
    let bytes : c.all.result ≡ list_all is_name_byte c.args.text.now =
    all_from_yields_List is_name_byte _ _ _ c.all.ensures.ran (YieldsList-from_bytes c.args.text.now c.bytes.ensures.rest) (λ x b q k. search (rules, tests)) in
    grind (arith, nat_tests)
