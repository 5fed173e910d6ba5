use Rattle.std.proofs.Common.{Some, ap, sym, ◌∙◌}
use Rattle.std.specs.Option.{option_copied}
use Rattle.xa_rm.proofs.ScanLemmas.{last_of_last}
use Rattle.xa_rm.specs.Scans.{place_of}
use Rattle.xa_rm.proofs.scans.Cursor.after.Goals as goal

pub returns-in-Some : goal.returns-in-Some
returns-in-Some c =
    ap Some c.copy.ensures
    ∙ sym (last_of_last (place_of c.args.self) c.args.page.now c.in-Some.xid.now (sym c.last.ensures.value ∙ ap option_copied c.in-Some.is))
