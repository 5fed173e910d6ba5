use Rattle.xa_tm.proofs.Release.{books_are_whole, one_more_is_released, others_are_refused_alike, recoveries_are_alike, released_are_sound, released_are_unknown, wholes_follow, wholes_refuse_no_more}
use Rattle.xa_tm.proofs.laws.released_books_go_on.Goals as goal

pub returns-clause-start : goal.returns-clause-start
returns-clause-start c = books_are_whole

pub returns-clause-released : goal.returns-clause-released
returns-clause-released c = one_more_is_released

pub returns-clause-follows : goal.returns-clause-follows
returns-clause-follows c = wholes_follow

pub returns-clause-others : goal.returns-clause-others
returns-clause-others c = others_are_refused_alike

pub returns-clause-unknown : goal.returns-clause-unknown
returns-clause-unknown c = released_are_unknown

pub returns-clause-refuses : goal.returns-clause-refuses
returns-clause-refuses c = wholes_refuse_no_more

pub returns-clause-resolves : goal.returns-clause-resolves
returns-clause-resolves c = recoveries_are_alike

pub returns-clause-sound : goal.returns-clause-sound
returns-clause-sound c = released_are_sound
