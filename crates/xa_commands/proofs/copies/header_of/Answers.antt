use Rattle.std.proofs.Common.{sym}
use Rattle.std.proofs.lemmas.List.{take_all}
use Rattle.xa_commands.proofs.copies.header_of.Goals as goal

pub returns-then-journal-le-HEADER_LEN : goal.returns-then-journal-le-HEADER_LEN
returns-then-journal-le-HEADER_LEN c = sym (take_all _ c.args.journal.now c.if-journal-le-HEADER_LEN.true)
