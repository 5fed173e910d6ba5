-- The laws of a decision log, of one in memory.
use Rattle.std.specs.Prelude.{◌≡◌, Some}
use Rattle.std.proofs.Common.{subst, ◌∙◌}
use Rattle.xa_log.specs.Content.{Content, AreOwn}
use Rattle.xa_log.specs.Contract.{AllFit}
use Rattle.xa_log.specs.Memory.{IsInOrder, content_held}
use Rattle.xa_log.specs.declared.mem_log.MemLog.{MemLog}

pub leaves_held : (log : MemLog) (c d : Content) → Some (content_held log) ≡ Some c → d ≡ content_held log → d ≡ c
leaves_held log c d is left = let same : content_held log ≡ c = cc in left ∙ same

pub own_held : (log : MemLog) (c : Content) → IsInOrder (content_held log) → Some (content_held log) ≡ Some c → AreOwn c
own_held log c order is = let same : content_held log ≡ c = cc in subst AreOwn same order.own

pub fits_held : (log : MemLog) (c : Content) → IsInOrder (content_held log) → Some (content_held log) ≡ Some c → AllFit c
fits_held log c order is = let same : content_held log ≡ c = cc in subst AllFit same order.fits
