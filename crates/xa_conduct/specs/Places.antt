-- Where a branch stands with its driver, and how far it has come.
use Rattle.std.specs.Prelude.{ℕ, Bool, true, false}
use Rattle.xa_conduct.specs.declared.place.Place.{Place}
use Rattle.xa_conduct.specs.declared.place.Place.TheVariants.{Working, Preparing, AtOnce, Prepared, Committing, RollingBack, Undoing, Refusing, Forgetting, Over, Owed}

-- its driver was told to make a call
abbrev pub is_asked : Place → Bool
is_asked Working = false
is_asked Preparing = true
is_asked AtOnce = true
is_asked Prepared = false
is_asked Committing = true
is_asked RollingBack = true
is_asked Undoing = true
is_asked Refusing = true
is_asked Forgetting = true
is_asked Over = false
is_asked Owed = false

-- work goes on at it
abbrev pub is_working : Place → Bool
is_working Working = true
is_working _ = false

-- How many of a branch's four steps are made: it began, and at most three answers come to calls on it (its vote, its end, that it is forgotten).
-- A call that comes in place of others has their steps.
abbrev pub steps_at : Place → ℕ
steps_at Working = 1
steps_at Preparing = 1
steps_at Prepared = 2
steps_at Committing = 2
steps_at RollingBack = 2
steps_at AtOnce = 3
steps_at Undoing = 3
steps_at Refusing = 3
steps_at Forgetting = 3
steps_at Over = 4
steps_at Owed = 4

-- its end is left to the recovery
abbrev pub is_left : Place → Bool
is_left Owed = true
is_left _ = false
