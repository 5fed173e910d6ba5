use Rattle.xa_session.proofs.Headroom.{releases_keep_headroom, headroom_kept, sound, starts_have_headroom}
use Rattle.xa_session.proofs.laws.books_have_headroom.Goals as goal

pub returns-clause-kept : goal.returns-clause-kept
returns-clause-kept c = λ n k asked e may head. headroom_kept n k head asked e may

pub returns-clause-sound : goal.returns-clause-sound
returns-clause-sound c = λ n k head. sound n k head

pub returns-clause-starts : goal.returns-clause-starts
returns-clause-starts c = starts_have_headroom

pub returns-clause-released : goal.returns-clause-released
returns-clause-released c = releases_keep_headroom
