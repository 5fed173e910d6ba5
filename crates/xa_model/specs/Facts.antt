-- All that a history says, in one place: facts are recursions on it, by what happened last.
pub mod LineAnswers
pub mod Decisions
pub mod Distinct
pub mod HeardAnswers
pub mod InDoubt
pub mod LineCalls
pub mod Log
pub mod Manager
pub mod SettledRows
pub mod Standings
pub use Rattle.xa_model.specs.Facts.Manager.{origin, up, incarnation, sequence, begun, breaks, rm_up, begins}
pub use Rattle.xa_model.specs.Facts.HeardAnswers.{was_told, was_told_lately, says_yes, says_read_only, says_yes_in, acknowledges, page_after, page, lists_one_of, answers_start, is_refused, is_rollback_code, is_gone}
pub use Rattle.xa_model.specs.Facts.Decisions.{started, branches, handed_over, claimed, decided_so, live, all_of, has_voted}
pub use Rattle.xa_model.specs.Facts.LineAnswers.{new_taken, new_heard, taken, heard, next_answer}
pub use Rattle.xa_model.specs.Facts.Log.{Change, Change.AddRows, Change.DropRows, Change.AddRecord, Change.NoChange, lists_row, without, without_each, has_gtrid, participants_in, has_branch, how_in, has_record, with_record, rows_changed, heuristics_changed, record_of, record_of_next, takes_part, row_for, fault_change, doubt, log, has_row, participants, is_older, outlived, counts_as_committed, heuristic_rows, recorded, recorded_as, adds_row, had_row, ever, is_taken_up, is_shut}
pub use Rattle.xa_model.specs.Facts.SettledRows.{is_settled, is_settled_lately, each, each_of_some, participants_settled, row_settled, finishes, finished, has_unfinished}
pub use Rattle.xa_model.specs.Facts.LineCalls.{resolving_kind, resolving_calls, new_calls, issued, next_call, is_open, is_closed, waiting, unheard, on_line}
pub use Rattle.xa_model.specs.Facts.Standings.{fits, held_of, standing_after, standing, fate, vote, retries}
