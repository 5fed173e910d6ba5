use Rattle.std.proofs.Common.{◌<◌, ◌≤◌, ◌∙◌, arith, length, refl, sym, ap}
use Rattle.xa_tm.specs.Book.{Book}
use Rattle.xa_tm.specs.LedgerBook.{as_book}
use Rattle.xa_tm.specs.declared.ledger.Ledger.{Ledger}
use Rattle.xa_tm.proofs.History.OneMore.{book_is}
use Rattle.xa_tm.proofs.Maps.Decide.{undecided}
use Rattle.xa_tm.proofs.Maps.ResolveOpen.{room_first}
use Rattle.xa_tm.proofs.Several.Lists.{past_end}
use Rattle.xa_tm.proofs.Several.InTurn.{first_open, noted_all, noted_more, others_open}
use Rattle.xa_tm.proofs.Several.Room.{room_rest}
use Rattle.xa_tm.proofs.ledger.Ledger.decided_all.Goals as goal

pub decided-requires-clause-room : goal.decided-requires-clause-room
decided-requires-clause-room c =
    let gs = c.args.gtrids.now in
    let low : c.loop-g.g-index < length gs = omega arith in
    room_first c.loop-g.self.transactions gs c.loop-g.g-index past_end low c.loop-g.invariant.room

pub decided-requires-clause-undecided : goal.decided-requires-clause-undecided
decided-requires-clause-undecided c =
    let gs = c.args.gtrids.now in
    let low : c.loop-g.g-index < length gs = omega arith in
    let open_one = first_open gs c.loop-g.g-index past_end low (as_book c.loop-g.self) c.loop-g.invariant.still_open in
    undecided _ open_one.uncommitted open_one.not_rolled_back

pub loop-g-preserved : goal.loop-g-preserved
loop-g-preserved c =
    let gs = c.args.gtrids.now in
    let i = c.loop-g.g-index in
    let low : i < length gs = omega arith in
    let now = c.decided.new.self in
    record {
      others = c.decided.ensures.others ∙ ap (λ (k : Ledger). record k { transactions = now.transactions }) c.loop-g.invariant.others;
      room = room_rest c.loop-g.self.transactions now.transactions gs i past_end low c.decided.ensures.kept c.loop-g.invariant.room;
      still_open =
          others_open gs i past_end low (as_book c.loop-g.self) (as_book now) c.args.outcome c.decided.ensures.transactions c.loop-g.invariant.still_open;
      rest = λ q.
          noted_more gs i past_end low (as_book c.args.self.now) (as_book c.loop-g.self) (as_book now) c.args.outcome c.decided.ensures.transactions q
          ∙ c.loop-g.invariant.rest q;
    }

pub returns-clause-transactions : goal.returns-clause-transactions
returns-clause-transactions c =
    let gs = c.args.gtrids.now in
    let i = c.loop-g.g-index in
    let past : length gs ≤ i = omega arith in
    let k = as_book c.args.self.now in
    ap as_book c.loop-g.invariant.others
    ∙ book_is _ _ refl refl refl refl refl refl refl
    (λ q. sym (ap (λ (b : Book). b.transaction q) (ap as_book c.loop-g.invariant.others))
    ∙ sym (noted_all k c.args.outcome gs i q ((as_book c.loop-g.self).transaction q) past) ∙ c.loop-g.invariant.rest q)
    (λ b. refl) refl (λ r. refl) (λ g. refl) refl (λ b. refl) refl refl
