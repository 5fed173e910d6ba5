use Rattle.std.proofs.Common.{string_bytes}
use Rattle.xa_display.proofs.ShowLemmas.{on_ok, writes_as}
use Rattle.xa_display.proofs.explain.explain_scenario.Goals as goal

pub returns-clause-ok : goal.returns-clause-ok
returns-clause-ok g c =
    on_ok c.write_text.result c.write_text.ensures.whole (λ whole. record {
      story = string_bytes c.in_ok-story.story;
      of_run = c.in_ok-story.ensures.told;
      writes = writes_as _ _ c.as_bytes.ensures.value whole;
    })
