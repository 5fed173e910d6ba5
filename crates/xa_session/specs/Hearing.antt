-- Which answers a session hears.
use Rattle.std.specs.Prelude.{ℕ, ℤ, pos, ◌&&◌, ◌++◌, Bool, true, false, nat_le, length, List, [], ◌∷◌}
use Rattle.xa_base.specs.Xid.{Xid}
use Rattle.xa_base.specs.declared.answer.Answer.{Answer as Given}
use Rattle.xa_base.specs.declared.answer.Answer.TheVariants.{Page, Ret}
use Rattle.xa_base.specs.declared.branch.Gtrid.{Gtrid}
use Rattle.xa_base.specs.declared.call.Call.{Call as Waiting}
use Rattle.xa_base.specs.declared.call.Call.TheVariants as Calls
use Rattle.xa_base.specs.declared.code.Code.TheVariants.{Invalid, Success}
use Rattle.xa_line.specs.Traffic.{Traffic}
use Rattle.xa_log.specs.Content.{last_number}
use Rattle.xa_model.specs.Trace.{Answer, Name, Name.Foreign, Name.Ours}
use Rattle.xa_tm.specs.News.{Asked}

-- ** which

-- the transaction's numbers fit a row of the log
abbrev pub fits_row : Gtrid → Bool
fits_row g = nat_le g.incarnation last_number && nat_le g.sequence last_number

-- a branch of this manager, whose numbers fit a row
abbrev pub is_ours : Name → Bool
is_ours (Ours b) = fits_row b.gtrid
is_ours (Foreign x) = false

-- an answer to xa_open or xa_close: XA_OK
abbrev pub is_ok : Answer → Bool
is_ok (Ret Success) = true
is_ok answer = false

-- so many are no more than were asked for; none are, if the count is negative
abbrev pub is_at_most : (count : ℤ) → ℕ → Bool
is_at_most (pos most) n = nat_le n most
is_at_most count n = false

-- an answer to an xa_recover of so many: a page that lists no more, or XAER_INVAL
abbrev pub is_scan_of : (count : ℤ) → Answer → Bool
is_scan_of count (Page names) = is_at_most count (length names)
is_scan_of count (Ret Invalid) = true
is_scan_of count (Ret code) = false

-- an answer to a call on a branch: a code, if the branch is one of this manager's
abbrev pub is_code_on : Name → Answer → Bool
is_code_on name (Ret code) = is_ours name
is_code_on name (Page names) = false

-- such an answer may be heard to such a call
abbrev pub can_hear : Asked → Answer → Bool
can_hear Calls.OpenRm answer = is_ok answer
can_hear Calls.CloseRm answer = is_ok answer
can_hear (Calls.Start name join) answer = is_code_on name answer
can_hear (Calls.End name fail) answer = is_code_on name answer
can_hear (Calls.Prepare name) answer = is_code_on name answer
can_hear (Calls.Commit name one_phase) answer = is_code_on name answer
can_hear (Calls.Rollback name) answer = is_code_on name answer
can_hear (Calls.Forget name) answer = is_code_on name answer
can_hear (Calls.Recover count start_scan end_scan) answer = is_scan_of count answer

-- ** how

-- the call that waits first was taken, answered and heard
abbrev pub heard_first : Traffic → List (Waiting Xid) → Given Xid → Traffic
heard_first t [] answer = t
heard_first t (call ∷ rest) answer = record {
  calls = record { gone = t.calls.gone ++ call ∷ []; waiting = rest };
  answers = record { gone = t.answers.gone ++ (call, answer) ∷ []; waiting = [] };
}

abbrev pub with_answer_heard : Traffic → Given Xid → Traffic
with_answer_heard t answer = heard_first t t.calls.waiting answer
