use Rattle.std.proofs.Common.{◌≡◌, drop}
use Rattle.xa_requests.specs.Names.{each_named, gtrid_named}
use Rattle.xa_requests.proofs.EachLemmas.{texts, with_front}
use Rattle.xa_requests.proofs.names.gtrids_named.Given as goal

abbrev pub invariant-loop-word : goal.invariant-loop-word
invariant-loop-word l = with_front gtrid_named l.gtrids.items (each_named gtrid_named (texts (drop l.word-index l.words)))
    ≡ each_named gtrid_named (texts l.words)
