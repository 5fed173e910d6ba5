use Rattle.xa_names.proofs.LineLemmas.{lines_stay}
use Rattle.xa_names.proofs.NameLemmas.{stays}
use Rattle.xa_names.proofs.laws.without_a_name_nothing_changes.Goals as goal

pub returns : goal.returns
returns c = record { xids = stays; lines = lines_stay c.words_have_one_spelling.ensures.xids }
