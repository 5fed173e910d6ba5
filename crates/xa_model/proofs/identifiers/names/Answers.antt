use Rattle.xa_model.proofs.NameLemmas.OwnNames.{own_name, foreign_name, name_back, pages_back, names_order}
use Rattle.xa_model.proofs.NameLemmas.NamePages.{same_page}
use Rattle.xa_model.proofs.identifiers.names.Goals as goal

pub returns-clause-own : goal.returns-clause-own
returns-clause-own c b h = own_name b h

pub returns-clause-foreign : goal.returns-clause-foreign
returns-clause-foreign c x n = foreign_name x n

pub returns-clause-back : goal.returns-clause-back
returns-clause-back c x h = name_back x h

pub returns-clause-pages : goal.returns-clause-pages
returns-clause-pages c xs h = pages_back xs h

pub returns-clause-order : goal.returns-clause-order
returns-clause-order c x y h k = names_order x y h k

pub returns-clause-same_page : goal.returns-clause-same_page
returns-clause-same_page c count from xs = same_page count from xs
