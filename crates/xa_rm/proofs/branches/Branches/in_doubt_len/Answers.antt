use Rattle.xa_rm.proofs.TableLemmas.{index_list}
use Rattle.xa_rm.proofs.branches.Branches.in_doubt_len.Goals as goal

pub returns-clause-in_doubt : goal.returns-clause-in_doubt
returns-clause-in_doubt c = index_list c.args.self.now.table c.args.self.now.index c.args.self.now.indexed c.len.ensures.ordered
