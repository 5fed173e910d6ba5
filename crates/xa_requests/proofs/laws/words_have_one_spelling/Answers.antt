use Rattle.xa_files.proofs.WordLemmas.{code_spelled, kind_spelled}
use Rattle.xa_requests.proofs.SpellingLemmas.{indexes, integers, transactions, xids}
use Rattle.xa_requests.proofs.laws.words_have_one_spelling.Goals as goal

pub returns : goal.returns
returns c = record {
  indexes = indexes;
  integers = integers;
  transactions = transactions;
  xids = xids;
  kinds = kind_spelled;
  codes = code_spelled;
}
