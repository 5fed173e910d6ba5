-- What resource managers do, and lines that break, is nothing to what a manager and its log say.
use Rattle.std.proofs.Common.{◌≡◌, ◌<◌, map, refl, sym, ◌∙◌, subst}
use Rattle.std.specs.Prelude.{if◌then◌else◌, ◌==◌, length, Option, Some, None}
use Rattle.xa_base.specs.declared.step.Part.TheVariants as Part
use Rattle.xa_model.specs.Facts.{Change.AddRows, doubt, fault_change, heuristic_rows, incarnation, log, row_for, rows_changed, heuristics_changed, up}
use Rattle.xa_model.specs.Promises.Processes.{SameRecords, SameRows, resumed}
use Rattle.xa_model.specs.Protocol.{RightDone, RightFault, RightRow}
use Rattle.xa_model.specs.Trace.{Fault, Fault.InDecide, Fault.InDone, Fault.InResolve, Gtrid, Happening, Happening.CompletedAlone, Happening.Crashed, Happening.PutOff, Happening.Took, Happening.Voted, Origin, Trace, Trace.Then}
use Rattle.xa_model.proofs.ProcessLemmas.Joining.{each_once}
use Rattle.xa_monitor.specs.Seen.{Alone, Alone.Ends, Alone.NoMore, Alone.PutsOff, Alone.Votes}
use Rattle.xa_monitor.specs.Sessions.{AsksForRows, FindsLog, failed_in}

-- what a resource manager does, or a line that breaks
abbrev pub IsOfRms : Happening → Type 0
IsOfRms (Took l c a) = Unit
IsOfRms (CompletedAlone b how) = Unit
IsOfRms (Voted b v) = Unit
IsOfRms (PutOff b n) = Unit
IsOfRms (Crashed (Part.Line t r)) = Unit
IsOfRms _ = ⊥

-- a step that asks for rows is right behind that, if it was before
row_still : (tr : Trace) (e : Happening) → IsOfRms e → (g : Gtrid) → RightRow tr g → RightRow (Then tr e) g
row_still tr (Took l c a) m g x = (record { is_up = x.0.is_up; is_live = x.0.is_live; votes = x.0.votes }, x.1)
row_still tr (CompletedAlone b how) m g x = (record { is_up = x.0.is_up; is_live = x.0.is_live; votes = x.0.votes }, x.1)
row_still tr (Voted b v) m g x = (record { is_up = x.0.is_up; is_live = x.0.is_live; votes = x.0.votes }, x.1)
row_still tr (PutOff b n) m g x = (record { is_up = x.0.is_up; is_live = x.0.is_live; votes = x.0.votes }, x.1)
row_still tr (Crashed (Part.Line t r)) m g x = (record { is_up = x.0.is_up; is_live = x.0.is_live; votes = x.0.votes }, x.1)
row_still tr _ m g x = absurd m

done_still : (tr : Trace) (e : Happening) → IsOfRms e → (g : Gtrid) → RightDone tr g → RightDone (Then tr e) g
done_still tr (Took l c a) m g x = record { is_up = x.is_up; has = x.has; is_settled = x.is_settled }
done_still tr (CompletedAlone b how) m g x = record { is_up = x.is_up; has = x.has; is_settled = x.is_settled }
done_still tr (Voted b v) m g x = record { is_up = x.is_up; has = x.has; is_settled = x.is_settled }
done_still tr (PutOff b n) m g x = record { is_up = x.is_up; has = x.has; is_settled = x.is_settled }
done_still tr (Crashed (Part.Line t r)) m g x = record { is_up = x.is_up; has = x.has; is_settled = x.is_settled }
done_still tr _ m g x = absurd m

fault_still : (tr : Trace) (e : Happening) → IsOfRms e → up (Then tr e) ≡ up tr → (f : Fault) → AsksForRows f → RightFault tr f → RightFault (Then tr e) f
fault_still tr e m u (InDecide gs) asks x = each_once (RightRow tr) (RightRow (Then tr e)) (row_still tr e m) gs x
fault_still tr e m u (InDone gs) asks x = each_once (RightDone tr) (RightDone (Then tr e)) (done_still tr e m) gs x
fault_still tr e m u InResolve asks x = u ∙ x
fault_still tr e m u _ asks x = absurd asks

-- two histories say the same of the manager and its log
pub record SameBooks (now told : Trace) : Type 0 where
  pub up_is : up now ≡ up told
  pub incarnation_is : incarnation now ≡ incarnation told
  pub log_is : log now ≡ log told
  pub records_are : heuristic_rows now ≡ heuristic_rows told
  pub doubt_is : doubt now ≡ doubt told
  pub rows_for : (g : Gtrid) → row_for now g ≡ row_for told g
  pub faults : (f : Fault) → AsksForRows f → RightFault told f → RightFault now f

pub same_books : (tr : Trace) → SameBooks tr tr
same_books tr = record {
  up_is = refl;
  incarnation_is = refl;
  log_is = refl;
  records_are = refl;
  doubt_is = refl;
  rows_for = λ g. refl;
  faults = λ f asks x. x;
}

pub same_step : (tr told : Trace) (e : Happening) → IsOfRms e → SameBooks tr told → SameBooks (Then tr e) told
same_step tr told (Took l c a) m s = record {
  up_is = s.up_is;
  incarnation_is = s.incarnation_is;
  log_is = s.log_is;
  records_are = s.records_are;
  doubt_is = s.doubt_is;
  rows_for = s.rows_for;
  faults = λ f asks x. fault_still tr (Took l c a) m refl f asks (s.faults f asks x);
}
same_step tr told (CompletedAlone b how) m s = record {
  up_is = s.up_is;
  incarnation_is = s.incarnation_is;
  log_is = s.log_is;
  records_are = s.records_are;
  doubt_is = s.doubt_is;
  rows_for = s.rows_for;
  faults = λ f asks x. fault_still tr (CompletedAlone b how) m refl f asks (s.faults f asks x);
}
same_step tr told (Voted b v) m s = record {
  up_is = s.up_is;
  incarnation_is = s.incarnation_is;
  log_is = s.log_is;
  records_are = s.records_are;
  doubt_is = s.doubt_is;
  rows_for = s.rows_for;
  faults = λ f asks x. fault_still tr (Voted b v) m refl f asks (s.faults f asks x);
}
same_step tr told (PutOff b n) m s = record {
  up_is = s.up_is;
  incarnation_is = s.incarnation_is;
  log_is = s.log_is;
  records_are = s.records_are;
  doubt_is = s.doubt_is;
  rows_for = s.rows_for;
  faults = λ f asks x. fault_still tr (PutOff b n) m refl f asks (s.faults f asks x);
}
same_step tr told (Crashed (Part.Line t r)) m s = record {
  up_is = s.up_is;
  incarnation_is = s.incarnation_is;
  log_is = s.log_is;
  records_are = s.records_are;
  doubt_is = s.doubt_is;
  rows_for = s.rows_for;
  faults = λ f asks x. fault_still tr (Crashed (Part.Line t r)) m refl f asks (s.faults f asks x);
}
same_step tr told _ m s = absurd m

pub same_alone : (tr now told : Trace) → Alone tr now → SameBooks tr told → SameBooks now told
same_alone tr _ told NoMore s = s
same_alone tr _ told (Votes now b v a) s = same_step now told (Voted b v) tt (same_alone tr now told a s)
same_alone tr _ told (PutsOff now b n a) s = same_step now told (PutOff b n) tt (same_alone tr now told a s)
same_alone tr _ told (Ends now b how a p) s = same_step now told (CompletedAlone b how) tt (same_alone tr now told a s)

-- ** so a start finds the same

change_is : (now told : Trace) → SameBooks now told → (f : Fault) → AsksForRows f → fault_change now f ≡ fault_change told f
change_is now told s (InDecide gs) asks = λ i. AddRows (map (λ g. s.rows_for g i) gs)
change_is now told s (InDone gs) asks = refl
change_is now told s InResolve asks = refl
change_is now told s _ asks = absurd asks

-- the same of a session that was left in a step
abbrev pub AsksIf : Option Fault → Type 0
AsksIf None = Unit
AsksIf (Some f) = AsksForRows f

doubt_so : (fails : Option Fault) (now told : Trace) → AsksIf fails → SameBooks now told → doubt (failed_in fails now) ≡ doubt (failed_in fails told)
doubt_so None now told asks s = s.doubt_is
doubt_so (Some f) now told asks s = λ i. if s.up_is i then change_is now told s f asks i else s.doubt_is i

log_so : (fails : Option Fault) (now told : Trace) → SameBooks now told → log (failed_in fails now) ≡ log (failed_in fails told)
log_so None now told s = s.log_is
log_so (Some f) now told s = s.log_is

records_so : (fails : Option Fault) (now told : Trace) → SameBooks now told → heuristic_rows (failed_in fails now) ≡ heuristic_rows (failed_in fails told)
records_so None now told s = s.records_are
records_so (Some f) now told s = s.records_are

incarnation_so : (fails : Option Fault) (now told : Trace) → SameBooks now told → incarnation (failed_in fails now) ≡ incarnation (failed_in fails told)
incarnation_so None now told s = s.incarnation_is
incarnation_so (Some f) now told s = s.incarnation_is

-- what a restart makes of the rows and the records of a history
found_rows : (n d : Trace) → log n ≡ log d → doubt n ≡ doubt d → (o : Origin) → log (resumed n o) ≡ log (resumed d o)
found_rows n d l x o = λ i. if length o.rows == length (l i) then l i else rows_changed (x i) (l i)

found_records : (n d : Trace) → heuristic_rows n ≡ heuristic_rows d → doubt n ≡ doubt d → (o : Origin)
    → heuristic_rows (resumed n o) ≡ heuristic_rows (resumed d o)
found_records n d l x o = λ i. if length o.heuristic_rows == length (l i) then l i else heuristics_changed (x i) (l i)

pub finds_same : (fails : Option Fault) (now told : Trace) → AsksIf fails → SameBooks now told → (o : Origin)
    → FindsLog (failed_in fails told) o → FindsLog (failed_in fails now) o
finds_same fails now told asks s o finds = record {
  later = subst (λ n. n < o.incarnation) (sym (incarnation_so fails now told s)) finds.later;
  rows = subst (SameRows o.rows) (sym (found_rows (failed_in fails now) (failed_in fails told) (log_so fails now told s) (doubt_so fails now told asks s) o))
      finds.rows;
  records = subst (SameRecords o.heuristic_rows)
      (sym (found_records (failed_in fails now) (failed_in fails told) (records_so fails now told s) (doubt_so fails now told asks s) o)) finds.records;
}
