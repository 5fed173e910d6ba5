use Rattle.std.proofs.Common.{string_bytes}
use Rattle.xa_display.proofs.ShowLemmas.{writes_as}
use Rattle.xa_display.proofs.picture.draw_scenario.Goals as goal

pub returns-clause-ok : goal.returns-clause-ok
returns-clause-ok g c = record {
  picture = string_bytes c.in_ok-picture.picture;
  of_run = c.in_ok-picture.ensures.drawn;
  writes = writes_as _ _ c.as_bytes.ensures.value c.in_ok-write_text.ensures.whole;
}
