use Rattle.std.proofs.Common.{◌+◌, ◌<◌, ◌^◌, length, sym, ap, ◌∙◌, subst}
use Rattle.xa_model.specs.Facts.Distinct.{EachOnce}
use Rattle.xa_tm.specs.Book.{Book, rows_for}
use Rattle.xa_tm.specs.Calls.{IsOpenIn, log_in, written_by}
use Rattle.xa_tm.specs.Concluding.{Concludes}
use Rattle.xa_tm.specs.LedgerBook.{HasRoomForDecisions, IsSound}
use Rattle.xa_tm.proofs.Several.FittingNumbers.{open_fit, sequences_fit}
use Rattle.xa_tm.proofs.manager.Manager.conclude_all.Goals as goal

pub prepare_decisions-requires : goal.prepare_decisions-requires
prepare_decisions-requires g c =
    sequences_fit c.args.gtrids.now (open_fit c.args.self.now.ledger c.args.gtrids.now c.requires.sound c.requires.open)

pub write_decisions-requires-clause-sound : goal.write_decisions-requires-clause-sound
write_decisions-requires-clause-sound g c = subst IsSound (sym c.prepare_decisions.ensures.book) c.requires.sound

pub write_decisions-requires-clause-number : goal.write_decisions-requires-clause-number
write_decisions-requires-clause-number g c =
    subst (λ (k : Book). k.rows + length c.args.gtrids.now < 2 ^ 64) (sym c.prepare_decisions.ensures.book) c.requires.room

pub write_decisions-requires-clause-open : goal.write_decisions-requires-clause-open
write_decisions-requires-clause-open g c =
    subst (λ k. EachOnce (IsOpenIn k) c.args.gtrids.now) (sym c.prepare_decisions.ensures.book) c.requires.open

pub write_decisions-requires-clause-room : goal.write_decisions-requires-clause-room
write_decisions-requires-clause-room g c =
    subst (λ k. HasRoomForDecisions c.args.gtrids.now (written_by c.args.outcome k c.args.gtrids.now) c.prepare_decisions.new.self)
    (sym c.prepare_decisions.ensures.book) c.in_ok-decisions.ensures.room

pub write_decisions-requires-clause-all : goal.write_decisions-requires-clause-all
write_decisions-requires-clause-all g c =
    c.in_ok-decisions.ensures.all ∙ ap (λ k. rows_for k (written_by c.args.outcome k c.args.gtrids.now)) (sym c.prepare_decisions.ensures.book)

pub returns : goal.returns
returns g c =
    subst (λ k. Concludes g.L.DecisionLog.moment c.args.outcome c.args.gtrids.now k (log_in c.args.self.now) c.write_decisions.new.self
    c.write_decisions.result)
    c.prepare_decisions.ensures.book c.write_decisions.ensures
