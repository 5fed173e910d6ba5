use Rattle.xa_names.proofs.NameLemmas.{apart, foreign, named, own_have_name, read}
use Rattle.xa_names.proofs.laws.names_part_identifiers.Goals as goal

pub returns : goal.returns
returns c = record { read = read; named = named; own = own_have_name; apart = apart; foreign = foreign }
