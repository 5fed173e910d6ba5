use Rattle.xa_log.proofs.Parts.{if_ok}
use Rattle.xa_commands.proofs.NameLemmas.{names_are_text}
use Rattle.xa_commands.proofs.log_names.name_text.Goals as goal

pub returns : goal.returns
returns c =
    if_ok c.from_utf8_lossy.result _ _
    (λ text is. rw c.as_slice.ensures.value at (is (rw c.as_slice.ensures.value (names_are_text c.args.name.now c.as_slice.ensures.valid))))
    c.from_utf8_lossy.ensures.ok
