use Rattle.std.proofs.Common.{◌≡◌, map, take, true, vec_len}
use Rattle.std.specs.List.{AllByRecursion}
use Rattle.xa_restore.specs.Headings.{AreApart, is_rm_name, rm_lines}
use Rattle.xa_restore.proofs.heading.read_rms.Given as goal

abbrev pub invariant-loop-at : goal.invariant-loop-at
invariant-loop-at l = record {
  lines : map (λ line. line.now) (take l.at l.lines) ≡ rm_lines (map (λ rm. rm.now) l.rms.items);
  count : vec_len l.rms ≡ l.at;
  names : AllByRecursion (λ rm. is_rm_name rm.now ≡ true) l.rms.items;
  apart : AreApart l.rms.items;
}
