use Rattle.std.proofs.Common.{rules, ◌≡◌, ◌∙◌, Some, FitsSigned, w32, to_z, of_z, sym, ap}
use Rattle.std.proofs.lemmas.Int.{to_z-of_z}
use Rattle.xa_files.specs.Numbers.{integer_of}
use Rattle.xa_files.proofs.WordLemmas.{code_read}
use Rattle.xa_files.proofs.words.code_named.Goals as goal

pub returns : goal.returns
returns c =
    let number = c.in_ok-ok.field-0 in
    let read : integer_of c.args.word.now ≡ Some number = search rules in
    let fits : FitsSigned w32 number = search rules in
    code_read c.args.word.now (to_z w32 (of_z w32 number)) c.from_number.result (read ∙ ap Some (sym (to_z-of_z w32 number fits)))
    c.from_number.ensures.inverse c.from_number.ensures.found
