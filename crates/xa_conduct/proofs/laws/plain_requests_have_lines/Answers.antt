use Rattle.xa_conduct.proofs.AskedLines.{has_line}
use Rattle.xa_conduct.proofs.laws.plain_requests_have_lines.Goals as goal

pub returns : goal.returns
returns c = has_line (record {
  indexes = c.words_have_one_spelling.ensures.indexes;
  integers = c.words_have_one_spelling.ensures.integers;
  transactions = c.words_have_one_spelling.ensures.transactions;
  xids = c.words_have_one_spelling.ensures.xids;
  kinds_are = c.words_have_one_spelling.ensures.kinds;
  codes_are = c.words_have_one_spelling.ensures.codes;
})
