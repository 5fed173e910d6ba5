use Rattle.std.proofs.Common.{◌∙◌, rules}
use Rattle.std.specs.Ordering.{nat_cmp}
use Rattle.hex.specs.Hex.{IsBytes}
use Rattle.xa_base.proofs.BytesOrder.{word_order}
use Rattle.xa_base.proofs.words.order_of_words.Goals as goal

pub returns : goal.returns
returns c =
    let a : IsBytes c.args.word = search rules in
    let b : IsBytes c.args.other = search rules in
    c.cmp.ensures
    ∙ (λ i. nat_cmp (c.from_be_bytes.ensures i) (c.from_be_bytes-2.ensures i))
    ∙ word_order c.args.word c.args.other (search rules) (search rules) a b
