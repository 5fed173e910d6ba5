use Rattle.std.proofs.Common.{inl, refl}
use Rattle.xa_log.specs.Content.{nothing}
use Rattle.xa_commands.proofs.made_logs.make_in_files.Goals as goal

pub returns-in-Ok-restore_in_files : goal.returns-in-Ok-restore_in_files
returns-in-Ok-restore_in_files g c = record {
  made = λ empty makes clean.
      let opened = c.in-Ok-open_locked.ensures in
      let filled = c.in-Ok-restore_in_files.ensures in
      filled.made (opened.order (inl empty) makes) clean nothing (opened.held nothing (inl (empty, refl)) makes (filled.honest clean));
}
