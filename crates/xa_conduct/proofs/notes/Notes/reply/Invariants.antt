use Rattle.std.proofs.Common.{◌≡◌, ◌&&◌, ℕ, Bool, false, not, take}
use Rattle.std.specs.List.{list_any}
use Rattle.std.specs.Prelude.{All, string_bytes}
use Rattle.xa_requests.specs.declared.request.Request.{Request}
use Rattle.xa_conduct.proofs.MoveLemmas.{ToldSoFar}
use Rattle.xa_conduct.proofs.TurnLemmas.{SaidSoFar}
use Rattle.xa_conduct.specs.AtRest.{is_moved_in}
use Rattle.xa_conduct.specs.Backing.{KeepsRest, TransactionRests}
use Rattle.xa_conduct.specs.Moves.{is_reply_to}
use Rattle.xa_conduct.specs.Told.{IsSameAt}
use Rattle.xa_conduct.specs.Turns.{AllPass}
use Rattle.xa_conduct.proofs.notes.Notes.reply.Given as goal

-- so far each reply tells of a transaction what rested at the start, and what is noted then rests on the same
abbrev pub invariant-loop-at : goal.invariant-loop-at
invariant-loop-at l = record {
  rests : KeepsRest l.fn.self.transactions.items l.self.transactions.items;
  passes : AllPass l.fn.self.transactions.items l.self.transactions.items;
  said : SaidSoFar (take l.at l.replies) l.is_first (string_bytes l.text);
  moved :
      (i : ℕ) → is_moved_in l.self.transactions.items i
      ≡ (is_moved_in l.fn.self.transactions.items i && not (list_any (is_reply_to i) (take l.at l.replies)));
  others : (t : ℕ) → list_any (is_reply_to t) (take l.at l.replies) ≡ false → IsSameAt t l.fn.self.transactions.items l.self.transactions.items;
  tells :
      (asked : (Request → Bool) → Bool) → All (TransactionRests asked) l.fn.self.transactions.items
      → ToldSoFar asked l.fn.self.transactions.items l.self.transactions.items (take l.at l.replies) l.is_first (string_bytes l.text);
}
