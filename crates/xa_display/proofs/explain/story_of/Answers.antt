use Rattle.std.proofs.Common.{refl, string_bytes}
use Rattle.xa_display.proofs.ShowLemmas.{names_as, spelled_as, told_as}
use Rattle.xa_display.proofs.explain.story_of.Goals as goal

pub returns : goal.returns
returns c =
    let names = c.new-scene.ensures.names in
    record {
      lines = c.in_ok-lines.lines.items;
      told = told_as c.in_ok-lines.lines.items names refl c.in_ok-lines.ensures.told;
      spelled = spelled_as (string_bytes c.in_ok-story.story) (names_as {es = c.args.events.now} c.in_ok-lines.ensures.names names refl)
          c.deref.ensures.value refl c.in_ok-story.ensures;
    }
