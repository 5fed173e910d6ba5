use Rattle.std.proofs.Common.{◌∙◌, ap, codes, string_bytes}
use Rattle.std.specs.List.{flat_map}
use Rattle.xa_story.specs.Ends.{branch_end_line}
use Rattle.xa_story.proofs.Pieces.{story_pieces}
use Rattle.xa_story.proofs.story.story_text.Goals as goal

pub returns : goal.returns
returns c = record {
  reasons = string_bytes c.in_ok-reasons.reasons;
  is = story_pieces (codes "\n") (string_bytes c.in_ok-reasons.reasons) c.in_ok-lines.ensures
      (c.in_ok-ends.ensures ∙ ap (λ n. flat_map (branch_end_line n) c.args.fates.now) c.names.ensures) c.in_ok-format.ensures.ok;
}
