use Rattle.std.proofs.Common.{◌∙◌, map, ap}
use Rattle.xa_commands.proofs.MadeFiles.{made_of_read}
use Rattle.xa_commands.specs.Names.{label_of}
use Rattle.xa_commands.proofs.made_logs.make_from.Goals as goal

pub returns-in-Ok-make_in_files : goal.returns-in-Ok-make_in_files
returns-in-Ok-make_in_files g c =
    let named = c.in-Ok.named in
    let label_is =
    c.as_str-2.ensures.value ∙ c.in_ok-label.ensures
    ∙ ap (λ rms. label_of named.heading.name (map (λ rm. rm.now) rms)) c.deref.ensures.value in
    record {
      made = made_of_read _ _ c.in-Ok-make_in_files.files named c.as_str-2.result.now c.restored_logs_hold_what_is_said.ensures label_is
          c.in-Ok.ensures.rise c.in-Ok-make_in_files.ensures.made _ c.as_str.result.now _ c.as_str.ensures.value c.in_ok-text.ensures
          c.in-Ok.ensures.lines;
    }
