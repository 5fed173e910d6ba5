use Rattle.std.proofs.Common.{◌≡◌, ◌++◌, refl, sym, subst, drop_of_length-le, append-nil, rules}
use Rattle.std.specs.Option.{option_to_list}
use Rattle.xa_scenario.proofs.KeepingLemmas.{kept_on}
use Rattle.xa_scenario.proofs.PlayLemmas.{PlaysOn, play_turn, play_ends}
use Rattle.xa_system.specs.SystemView.{observes}
use Rattle.xa_scenario.proofs.play.play.Goals as goal
use Rattle.xa_scenario.proofs.play.play.Goals.{in-Some+in_ok-push, in_default}

pub loop-entry-preserved : goal.loop-entry-preserved
loop-entry-preserved g c =
    let see = observes g.R.ResourceManager.look g.L.DecisionLog.moment in
    let gtrids = c.loop-entry.gtrids.items in
    let entries = c.args.entries.now in
    let i = c.loop-entry.entry-index in
    let grown : c.match-play_entry.gtrids.items ≡ gtrids ++ option_to_list c.play_entry.result = elim c.match-play_entry.branch [
      | in-Some+in_ok-push w ↦ rw (w.gtrids-is, w.in_ok-push.ensures.items, w.in-Some.is) refl
      | in_default w ↦ rw (w.gtrids-is, w.in_default.is) (sym (append-nil gtrids))
    ] in
    record {
      leads =
          play_turn c.args.gtrids.now.items entries gtrids c.deref.result.now (option_to_list c.play_entry.result) c.match-play_entry.gtrids.items entries i _
          c.args.system.now.events c.loop-entry.system.events c.play_entry.new.system.events
          c.loop-entry-test.true c.deref.ensures.value grown c.play_entry.ensures.performs c.loop-entry.invariant.leads;
      start = search rules;
      log = kept_on see c.args.system.now c.loop-entry.system c.play_entry.new.system c.loop-entry.invariant.log c.play_entry.ensures.log;
    }

pub returns-clause-performs : goal.returns-clause-performs
returns-clause-performs g c =
    play_ends c.args.gtrids.now.items c.args.entries.now c.args.system.now.events c.loop-entry.gtrids.items c.loop-entry.system.events
    (subst (λ left. PlaysOn c.args.gtrids.now.items c.args.entries.now c.args.system.now.events c.loop-entry.gtrids.items left c.loop-entry.system.events)
    (drop_of_length-le c.args.entries.now c.loop-entry-test.false) c.loop-entry.invariant.leads)

pub returns-in_err-push-clause-log : goal.returns-in_err-push-clause-log
returns-in_err-push-clause-log g c =
    let see = observes g.R.ResourceManager.look g.L.DecisionLog.moment in
    kept_on see c.args.system.now c.loop-entry.system c.play_entry.new.system c.loop-entry.invariant.log c.play_entry.ensures.log
