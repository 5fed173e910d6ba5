-- The journal of a database whose file is lost.
use Rattle.std.specs.Prelude.{ℕ, Bool, not, ◌&&◌, ◌||◌, ◌==◌, ◌+◌, nat_lt, nat_eq, List, length, slice_index, slice_range}
use Rattle.std.specs.Cmp.Lexicographic.{pointwise}
use Rattle.xa_sql_log.specs.declared.sql_log.halves.TheConstants.{CHECKPOINTS, NEW_JOURNAL_LEN, NO_CHECKPOINTS}

-- it is longer than the journal of a database that is being made, or its header counts checkpoints
abbrev pub is_rest : List ℕ → Bool
is_rest journal =
    nat_lt NEW_JOURNAL_LEN (length journal)
    || ((length journal == NEW_JOURNAL_LEN) && not (slice_index journal 0 == 0)
    && not (pointwise nat_eq (slice_range journal CHECKPOINTS (CHECKPOINTS + 4)) NO_CHECKPOINTS))
