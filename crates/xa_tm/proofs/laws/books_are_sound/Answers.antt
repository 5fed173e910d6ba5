use Rattle.xa_tm.proofs.History.Limits.{book_is_sound, events_happen, limits_kept, old_start_is_right}
use Rattle.xa_tm.proofs.laws.books_are_sound.Goals as goal

pub returns-clause-sound : goal.returns-clause-sound
returns-clause-sound c = book_is_sound

pub returns-clause-events : goal.returns-clause-events
returns-clause-events c = events_happen

pub returns-clause-starts : goal.returns-clause-starts
returns-clause-starts c = old_start_is_right

pub returns-clause-kept : goal.returns-clause-kept
returns-clause-kept c = limits_kept
