-- The rows of the branch state table, read from the answer back: the states in which a call is answered so, each as the call leaves it.
use Rattle.std.specs.Prelude.{Bool, true, false, ◌||◌, Option, Some, None}
use Rattle.xa_base.specs.StateTable.{Kind, Kind.Start, Kind.Join, Kind.End, Kind.Prepare, Kind.Commit, Kind.OnePhase, Kind.Rollback, Kind.Forget}
use Rattle.xa_base.specs.declared.code.Code.{Code}
use Rattle.xa_base.specs.declared.code.Code.TheVariants.{DuplicateXid, Heuristic, NotAnXid, Protocol, Retry, RolledBack, Success}
use Rattle.xa_base.specs.declared.code.Code.TheVariants as Codes
use Rattle.xa_base.specs.declared.code.How.{How}
use Rattle.xa_base.specs.declared.code.How.TheVariants as Hows
use Rattle.xa_base.specs.declared.code.RbCode.TheVariants as Rb
use Rattle.xa_monitor.specs.declared.states.HeuristicEnds.{HeuristicEnds}
use Rattle.xa_monitor.specs.declared.states.States.{States}

-- ** sets of states

abbrev pub no_end : HeuristicEnds
no_end = record { heurcom = false; heurrb = false; heurmix = false; heurhaz = false }

abbrev pub any_end : HeuristicEnds
any_end = record { heurcom = true; heurrb = true; heurmix = true; heurhaz = true }

abbrev pub none : States
none = record { s0 = false; s1 = false; s2 = false; s3 = false; s4 = false; s5 = no_end }

-- S0 alone
abbrev pub unstarted_states : States
unstarted_states = record none { s0 = true }

-- S0, S3 and S5: those that a break leaves as they are
abbrev pub found_states : States
found_states = record none { s0 = true; s3 = true; s5 = any_end }

-- whether there is one among them
abbrev pub is_some_end : HeuristicEnds → Bool
is_some_end e = e.heurcom || (e.heurrb || (e.heurmix || e.heurhaz))

-- whether there is a state among them
abbrev pub is_some_state : States → Bool
is_some_state s = s.s0 || (s.s1 || (s.s2 || (s.s3 || (s.s4 || is_some_end s.s5))))

-- this one alone, if it is among them
abbrev pub only_end : How → HeuristicEnds → HeuristicEnds
only_end Hows.Com e = record no_end { heurcom = e.heurcom }
only_end Hows.Rb e = record no_end { heurrb = e.heurrb }
only_end Hows.Mix e = record no_end { heurmix = e.heurmix }
only_end Hows.Haz e = record no_end { heurhaz = e.heurhaz }

-- those that a call may find: a resource manager may have ended a prepared branch by itself
abbrev pub found_by_call : States → States
found_by_call s = record s {
  s5 = record {
    heurcom = s.s5.heurcom || s.s3;
    heurrb = s.s5.heurrb || s.s3;
    heurmix = s.s5.heurmix || s.s3;
    heurhaz = s.s5.heurhaz || s.s3;
  };
}

-- ** the rows, by the answer

abbrev pub after_start : Code → States → States
after_start Success s = record none { s1 = s.s0 }
after_start DuplicateXid s = record s { s0 = false }
after_start _ s = none

abbrev pub after_join : Code → States → States
after_join NotAnXid s = record none { s0 = s.s0 }
after_join Protocol s = record s { s0 = false }
after_join _ s = none

abbrev pub states_after_end : (fail : Bool) → Code → States → States
states_after_end false Success s = record none { s2 = s.s1 }
states_after_end true (RolledBack Rb.Rollback) s = record none { s4 = s.s1 }
states_after_end fail NotAnXid s = record none { s0 = s.s0 }
states_after_end fail Protocol s = record s { s0 = false; s1 = false }
states_after_end fail _ s = none

abbrev pub states_after_prepare : Code → States → States
states_after_prepare Success s = record none { s3 = s.s2 }
states_after_prepare Codes.ReadOnly s = record none { s0 = s.s2 }
states_after_prepare (RolledBack code) s = record none { s0 = s.s2 }
states_after_prepare NotAnXid s = record none { s0 = s.s0 }
states_after_prepare Protocol s = record s { s0 = false; s2 = false }
states_after_prepare _ s = none

abbrev pub states_after_commit : Code → States → States
states_after_commit Success s = record none { s0 = s.s3 }
states_after_commit Retry s = record none { s3 = s.s3 }
states_after_commit (Heuristic how) s = record none { s5 = only_end how s.s5 }
states_after_commit NotAnXid s = record none { s0 = s.s0 }
states_after_commit Protocol s = record none { s1 = s.s1; s2 = s.s2; s4 = s.s4 }
states_after_commit _ s = none

abbrev pub states_after_one_phase : Code → States → States
states_after_one_phase Success s = record none { s0 = s.s2 }
states_after_one_phase (RolledBack code) s = record none { s0 = s.s2 }
states_after_one_phase (Heuristic how) s = record none { s5 = only_end how s.s5 }
states_after_one_phase NotAnXid s = record none { s0 = s.s0 }
states_after_one_phase Protocol s = record none { s1 = s.s1; s3 = s.s3; s4 = s.s4 }
states_after_one_phase _ s = none

abbrev pub states_after_rollback : Code → States → States
states_after_rollback Success s = record none { s0 = s.s2 || s.s3 }
states_after_rollback (RolledBack Rb.Rollback) s = record none { s0 = s.s4 }
states_after_rollback (Heuristic how) s = record none { s5 = only_end how s.s5 }
states_after_rollback NotAnXid s = record none { s0 = s.s0 }
states_after_rollback Protocol s = record none { s1 = s.s1 }
states_after_rollback _ s = none

abbrev pub after_forget : Code → States → States
after_forget Success s = record none { s0 = is_some_end s.s5 }
after_forget NotAnXid s = record none { s0 = s.s0 }
after_forget Protocol s = record s { s0 = false; s5 = no_end }
after_forget _ s = none

abbrev pub row : Kind → Code → States → States
row Start a s = after_start a s
row Join a s = after_join a s
row (End fail) a s = states_after_end fail a s
row Prepare a s = states_after_prepare a s
row Commit a s = states_after_commit a s
row OnePhase a s = states_after_one_phase a s
row Rollback a s = states_after_rollback a s
row Forget a s = after_forget a s

abbrev pub row_if : {X : Type 0} → Option (Kind × X) → Code → States → States
row_if (Some (k, x)) a s = row k a (found_by_call s)
row_if None a s = s

-- ** the rows of a call that was answered in any way, or wasn't done

abbrev pub any_row : Kind → States → States
any_row Start s = record (found_by_call s) { s1 = s.s1 || s.s0 }
any_row Join s = found_by_call s
any_row (End false) s = record (found_by_call s) { s2 = s.s2 || s.s1 }
any_row (End true) s = record (found_by_call s) { s4 = s.s4 || s.s1 }
any_row Prepare s = record (found_by_call s) { s0 = s.s0 || s.s2; s3 = s.s3 || s.s2 }
any_row Commit s = record (found_by_call s) { s0 = s.s0 || s.s3 }
any_row OnePhase s = record (found_by_call s) { s0 = s.s0 || s.s2 }
any_row Rollback s = record (found_by_call s) { s0 = s.s0 || (s.s2 || (s.s3 || s.s4)) }
any_row Forget s = record s { s0 = s.s0 || is_some_end (found_by_call s).s5 }

abbrev pub any_row_if : {X : Type 0} → Option (Kind × X) → States → States
any_row_if (Some (k, x)) s = any_row k s
any_row_if None s = s

-- ** a break

abbrev pub break_row : States → States
break_row s = record s { s0 = s.s0 || (s.s1 || (s.s2 || s.s4)); s1 = false; s2 = false; s4 = false }

-- ** a page that lists the branch

abbrev pub page_row : States → States
page_row s = record none { s3 = s.s3; s5 = s.s5 }
