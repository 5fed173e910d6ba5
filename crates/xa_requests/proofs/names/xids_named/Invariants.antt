use Rattle.std.proofs.Common.{◌≡◌, drop}
use Rattle.xa_requests.specs.Names.{each_named, xid_named}
use Rattle.xa_requests.proofs.EachLemmas.{texts, with_front}
use Rattle.xa_requests.proofs.names.xids_named.Given as goal

abbrev pub invariant-loop-word : goal.invariant-loop-word
invariant-loop-word l = with_front xid_named l.xids.items (each_named xid_named (texts (drop l.word-index l.words))) ≡ each_named xid_named (texts l.words)
