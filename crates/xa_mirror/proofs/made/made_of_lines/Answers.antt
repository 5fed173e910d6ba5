use Rattle.std.proofs.Common.{map}
use Rattle.xa_log.specs.Content.{nothing}
use Rattle.xa_mirror.proofs.made.made_of_lines.Goals as goal

pub returns-in-Ok-restore_log : goal.returns-in-Ok-restore_log
returns-in-Ok-restore_log g c =
    let named = c.in-Ok.named in
    let written = c.in-Ok-restore_log.ensures in
    record {
      made = record {
        name = named.heading.name;
        rms = map (λ rm. rm.now) named.heading.rms.items;
        starts = named.log.incarnation;
        decisions = named.log.decisions.items;
        said = c.in-Ok.ensures.lines;
        holds = λ order empty honest.
            c.made_logs_hold_lines.ensures named.log.incarnation named.log.decisions.items c.restore_log.new.log (written.order order)
            (written.made nothing empty order honest);
      };
    }
