use Rattle.std.proofs.Common.{◌∙◌}
use Rattle.xa_names.proofs.LineLemmas.{parsed}
use Rattle.xa_names.proofs.lines.xid_named.Goals as goal

pub returns : goal.returns
returns c =
    c.ok.ensures.value
    ∙ parsed c.words_have_one_spelling.ensures.xids c.args.word.now c.parse.result c.parse.ensures.spelled c.parse.ensures.read
