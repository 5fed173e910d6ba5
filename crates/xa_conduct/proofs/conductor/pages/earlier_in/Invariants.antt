use Rattle.std.proofs.Common.{◌≡◌, ◌≤◌, true, length}
use Rattle.std.specs.List.{list_all}
use Rattle.xa_conduct.specs.Pages.{is_earlier}
use Rattle.xa_conduct.specs.Plain.{is_own}
use Rattle.xa_conduct.proofs.conductor.pages.earlier_in.Given as goal

-- all are this manager's, of earlier sessions, and no more than were looked at
abbrev pub invariant-loop-xid : goal.invariant-loop-xid
invariant-loop-xid l = record {
  own : list_all is_own l.earlier.items ≡ true;
  few : length l.earlier.items ≤ l.xid-index;
  earlier : list_all (is_earlier l.notes.incarnation) l.earlier.items ≡ true;
}
