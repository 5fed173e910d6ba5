use Rattle.std.proofs.Common.{length, ap}
use Rattle.std.specs.Result.{is_ok}
use Rattle.xa_base.proofs.HexText.{decode_all}
use Rattle.xa_requests.proofs.names.decode.Goals as goal

pub unwrap-requires : goal.unwrap-requires
unwrap-requires c =
    let e = decode_all c.args.digits.now (length c.args.bytes.now) c.requires.hex c.requires.len in
    let h = rw e at c.decode_to_slice.ensures.value in ap is_ok h.0

pub returns : goal.returns
returns c =
    let e = decode_all c.args.digits.now (length c.args.bytes.now) c.requires.hex c.requires.len in
    let h = rw e at c.decode_to_slice.ensures.value in h.1
