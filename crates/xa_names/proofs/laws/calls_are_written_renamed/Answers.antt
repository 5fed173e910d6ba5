use Rattle.xa_names.proofs.WrittenLemmas.{written}
use Rattle.xa_names.proofs.laws.calls_are_written_renamed.Goals as goal

pub returns : goal.returns
returns c = written c.words_have_one_spelling.ensures.xids
