use Rattle.std.proofs.Common.{◌+◌, ◌∙◌, ap, drop, sym}
use Rattle.std.specs.Prelude.{Some}
use Rattle.xa_requests.specs.Names.{each_named, xid_named}
use Rattle.xa_requests.proofs.EachLemmas.{ends, goes_on, stops, texts, with_front}
use Rattle.xa_requests.proofs.names.xids_named.Goals as goal

pub returns-in_default : goal.returns-in_default
returns-in_default c =
    sym (stops xid_named c.loop-word.xids.items c.args.words.now c.loop-word.word-index _ _ c.loop-word-test.true (sym c.in_default.ensures)
    c.loop-word.invariant)

pub loop-word-preserved : goal.loop-word-preserved
loop-word-preserved c =
    ap (λ items. with_front xid_named items (each_named xid_named (texts (drop (c.loop-word.word-index + 1) c.args.words.now)))) c.in_ok-push.ensures.items
    ∙ goes_on xid_named c.loop-word.xids.items c.in-Some.xid c.args.words.now c.loop-word.word-index _ _ c.loop-word-test.true (sym c.in-Some.ensures)
    c.loop-word.invariant

pub returns : goal.returns
returns c =
    ap Some c.new.ensures
    ∙ sym (ends xid_named c.loop-word.xids.items c.args.words.now c.loop-word.word-index _ c.loop-word-test.false c.loop-word.invariant)
