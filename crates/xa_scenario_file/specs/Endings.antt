-- The tables that decide transactions and end them.
use Rattle.std.specs.Prelude.{[], ◌∷◌, codes, Option, Some}
use Rattle.toml.specs.Data.{Members}
use Rattle.xa_files.specs.Fields.{◌>>=◌, text_at}
use Rattle.xa_files.specs.Words.{outcome_named}
use Rattle.xa_scenario_file.specs.Branches.{BegunNames, begin_at, only, only_begin}
use Rattle.xa_scenario_file.specs.declared.entry.Entry.{Entry}
use Rattle.xa_scenario_file.specs.declared.entry.Ending.TheVariants as endings
use Rattle.xa_scenario_file.specs.declared.entry.Entry.TheVariants as entries

unfoldable pub decide_row : BegunNames → Members → Option Entry
decide_row begun table = only (codes "tx" ∷ codes "outcome" ∷ []) table (do
  begin ← begin_at begun table
  outcome ← text_at (codes "outcome") table >>= outcome_named
  Some (entries.End begin (endings.Decide outcome)))

abbrev pub done_row : BegunNames → Members → Option Entry
done_row begun table = only_begin begun table >>= λ begin. Some (entries.End begin endings.Done)

abbrev pub claim_row : BegunNames → Members → Option Entry
claim_row begun table = only_begin begun table >>= λ begin. Some (entries.End begin endings.Claim)

abbrev pub settle_row : BegunNames → Members → Option Entry
settle_row begun table = only_begin begun table >>= λ begin. Some (entries.End begin endings.Settle)

abbrev pub abandon_row : BegunNames → Members → Option Entry
abandon_row begun table = only_begin begun table >>= λ begin. Some (entries.End begin endings.Abandon)
