use Rattle.std.proofs.Common.{◌∙◌, sym, append_assoc, string_bytes}
use Rattle.xa_chart.proofs.chart.document.Goals as goal

pub returns : goal.returns
returns c = record {
  before = string_bytes c.in_ok-head.head;
  after = string_bytes c.in_ok-body.body;
  is = c.in_ok-format.ensures.ok ∙ sym (append_assoc (string_bytes c.in_ok-head.head) c.args.title.now (string_bytes c.in_ok-body.body));
}
