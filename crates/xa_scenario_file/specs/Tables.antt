-- What each table of a scenario file asks for, by its kind.
use Rattle.std.specs.Prelude.{codes, Option}
use Rattle.toml.specs.Data.{Members}
use Rattle.xa_files.specs.Fields.{◌>>=◌, text_at}
use Rattle.xa_scenario_file.specs.Begins.{begin_row}
use Rattle.xa_scenario_file.specs.Branches.{BegunNames}
use Rattle.xa_scenario_file.specs.Calls.{call_row, issue_row}
use Rattle.xa_scenario_file.specs.Crashes.{crash_row, restart_row}
use Rattle.xa_scenario_file.specs.Endings.{abandon_row, claim_row, decide_row, done_row, settle_row}
use Rattle.xa_scenario_file.specs.Moves.{drain_row, hear_row, take_row}
use Rattle.xa_scenario_file.specs.Recoveries.{recover_row, resolve_open_row, resolve_row}
use Rattle.xa_scenario_file.specs.Scripts.{busy_entry, heuristic_entry, vote_entry}
use Rattle.xa_scenario_file.specs.Words.{entry_named}
use Rattle.xa_scenario_file.specs.declared.entry.Entry.{Entry}
use Rattle.xa_scenario_file.specs.declared.words.EntryKind.{EntryKind}
use Rattle.xa_scenario_file.specs.declared.words.EntryKind.TheVariants as kinds

abbrev pub entry_in_table : EntryKind → BegunNames → Members → Option Entry
entry_in_table kinds.Begin begun table = begin_row begun table
entry_in_table kinds.Issue begun table = issue_row begun table
entry_in_table kinds.Call begun table = call_row begun table
entry_in_table kinds.Take begun table = take_row table
entry_in_table kinds.Hear begun table = hear_row table
entry_in_table kinds.Drain begun table = drain_row table
entry_in_table kinds.Vote begun table = vote_entry begun table
entry_in_table kinds.Busy begun table = busy_entry begun table
entry_in_table kinds.Heuristic begun table = heuristic_entry begun table
entry_in_table kinds.Decide begun table = decide_row begun table
entry_in_table kinds.Recover begun table = recover_row table
entry_in_table kinds.Resolve begun table = resolve_row table
entry_in_table kinds.Done begun table = done_row begun table
entry_in_table kinds.Crash begun table = crash_row table
entry_in_table kinds.Restart begun table = restart_row table
entry_in_table kinds.Claim begun table = claim_row begun table
entry_in_table kinds.Settle begun table = settle_row begun table
entry_in_table kinds.Abandon begun table = abandon_row begun table
entry_in_table kinds.ResolveOpen begun table = resolve_open_row table

-- what a table asks for
unfoldable pub entry_of : BegunNames → Members → Option Entry
entry_of begun table = text_at (codes "do") table >>= entry_named >>= λ kind. entry_in_table kind begun table
