use Rattle.std.proofs.Common.{◌∙◌}
use Rattle.xa_requests.proofs.XidLemmas.{parse_names}
use Rattle.xa_requests.proofs.names.xid_named.Goals as goal

pub returns : goal.returns
returns c = c.ok.ensures.value ∙ parse_names c.args.word.now c.parse.result c.parse.ensures.spelled c.parse.ensures.read
