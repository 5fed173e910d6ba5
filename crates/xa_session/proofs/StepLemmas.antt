-- What a method of a session does, from what its calls say.
use Rattle.std.proofs.Common.{◌≡◌, ◌≢◌, ℕ, List, Option, Some, None, sym, ap, ◌∙◌, subst}
use Rattle.std.specs.Prelude.{if◌then◌else◌, slice_get, Result, Ok, Err, OnOk, IfErr, true}
use Rattle.std.specs.Option.{option_map, option_or}
use Rattle.std.proofs.lemmas.Option.{none-some}
use Rattle.xa_base.specs.Answer.{map_answer}
use Rattle.xa_base.specs.Call.{map_call}
use Rattle.xa_base.specs.Xid.{Xid}
use Rattle.xa_base.specs.declared.answer.Answer.{Answer}
use Rattle.xa_base.specs.declared.call.Call.{Call}
use Rattle.xa_base.specs.declared.refusal.Refusal.{Refusal}
use Rattle.xa_base.specs.declared.refusal.Refusal.TheVariants.{LogFault, Memory}
use Rattle.xa_line.specs.Grid.{line_at}
use Rattle.xa_model.specs.Replies.History.{name_of}
use Rattle.xa_model.specs.Trace.{Fault, Happening}
use Rattle.xa_tm.specs.Book.{Doubt, after_all}
use Rattle.xa_tm.specs.Calls.{FailsBy, book_in, log_in}
use Rattle.xa_tm.specs.declared.manager.Manager.{Manager}
use Rattle.xa_session.specs.Following.{FollowsAll}
use Rattle.xa_session.specs.Hearing.{can_hear}
use Rattle.xa_session.specs.Session.{happenings_by, line_refusal, lines_by, unfit, unfit_for}
use Rattle.xa_session.specs.Steps.{AsksLog, HappenInTurn, IsQuiet, ObeysRules}
use Rattle.xa_session.specs.declared.session.Session.{Session}
use Rattle.xa_session.specs.declared.session.answers.Unfit.TheVariants as Unfits
use Rattle.xa_session.proofs.Sessions.{refused_or, same_session, stays_by}
use Rattle.xa_session.proofs.AskedLogs.{Concludes, concluded_err, concluded_refused, concluded_stays}

module _ {L A : Type 0} where
  -- ** a step of the manager

  -- what succeeds was refused by no rule
  pub ok_obeys : (why : Option Refusal) (old new : Session L) (x : A) → why ≡ None → ObeysRules why old new (let r : Result A Refusal = Ok x in r)
  ok_obeys why old new x none = record { refused = λ n some. absurd (none-some n (sym none ∙ some)); allowed = none }

  pub ok_quiet : (why : Option Refusal) (old new : Session L) (x : A) → log_in new.manager ≡ log_in old.manager → new.lines ≡ old.lines
      → IsQuiet why old new (let r : Result A Refusal = Ok x in r)
  ok_quiet why old new x log lines = record { memory = λ none. tt; stays = tt; log = log; lines = lines }

  -- what fails was refused by the manager, or for want of memory
  module _ (why of_manager : Option Refusal) (old new : Session L) (q : Refusal) (is : why ≡ of_manager) (lines : new.lines ≡ old.lines)
      (count : new.happenings ≡ old.happenings) (monitor : new.monitor ≡ old.monitor)
      (refused : (n : Refusal) → of_manager ≡ Some n → ((let r : Result A Refusal = Err q in r) ≡ Err n) × (new.manager ≡ old.manager)) where
    pub err_obeys : ObeysRules why old new (let r : Result A Refusal = Err q in r)
    err_obeys = record {
      refused = λ n some. ((refused n (sym is ∙ some)).0, same_session new old (refused n (sym is ∙ some)).1 lines monitor count);
      allowed = tt;
    }

    pub err_quiet : (of_manager ≡ None → (q ≡ Memory) × (book_in new.manager ≡ book_in old.manager)) → log_in new.manager ≡ log_in old.manager
        → IsQuiet why old new (let r : Result A Refusal = Err q in r)
    err_quiet err log = record {
      memory = λ none. (err (sym is ∙ none)).0;
      stays = stays_by old new lines count monitor (refused_or of_manager _ _ (λ n some. ap book_in (refused n some).1) (λ none. (err none).1)) log;
      log = log;
      lines = lines;
    }

-- ** a step that may ask the log

allowed_as : {why other : Option Refusal} (r : Result (Unit {0}) Refusal) → other ≡ why → OnOk r (why ≡ None) → OnOk r (other ≡ None)
allowed_as (Ok x) is none = is ∙ none
allowed_as (Err n) is none = tt

module _ {L : Type 0} (old new : Session L) (m : Manager L) (counted : ℕ) (why session_why : Option Refusal) (reply result : Result (Unit {0}) Refusal)
    (is : session_why ≡ why) (done : Concludes old new m counted reply) (same : result ≡ reply) (monitor : new.monitor ≡ old.monitor)
    (refused : (n : Refusal) → why ≡ Some n → (reply ≡ Err n) × (m ≡ old.manager)) where
  pub concluded_obeys : (why ≡ Some LogFault → ⊥) → OnOk reply (why ≡ None) → ObeysRules session_why old new result
  concluded_obeys never allowed = record {
    refused = λ n some. concluded_refused old new m counted why session_why reply result n is never done same monitor refused some;
    allowed = subst (λ r. OnOk r (session_why ≡ None)) (sym same) (allowed_as reply is allowed);
  }

  pub concluded_asks : (asked : Doubt) (f : Fault) → (why ≡ None → IfErr reply (FailsBy asked f (book_in old.manager) (book_in m)))
      → IfErr reply (λ n. n ≢ LogFault → log_in m ≡ log_in old.manager) → AsksLog session_why (FailsBy asked f) old new result
  concluded_asks asked f err log = record {
    fails = concluded_err old new m counted why session_why asked f reply result is done same err;
    stays = concluded_stays old new m counted why asked f reply result done same monitor refused err log;
    lines = done.lines ∙ ap (λ r. lines_by r old.lines) (sym same);
    fault_counted = λ fault. done.happenings ∙ ap (λ r. happenings_by r counted old.happenings) (sym same ∙ fault);
  }

-- what happened, if it succeeded
pub concluded_happens : {L : Type 0} (old new : Session L) (m : Manager L) (es : List Happening) (reply result : Result (Unit {0}) Refusal)
    → new.manager ≡ m → result ≡ reply → OnOk reply (book_in m ≡ after_all (book_in old.manager) es) → OnOk result (FollowsAll es old new)
    → OnOk result (HappenInTurn es old new)
concluded_happens old new m es reply (Ok x) manager same is follows = record {
  book = ap book_in manager ∙ subst (λ r. OnOk r (book_in m ≡ after_all (book_in old.manager) es)) (sym same) is;
  follows = follows;
}
concluded_happens old new m es reply (Err n) manager same is follows = tt

-- ** an answer

-- nothing makes it unfit
pub fits_so : {L : Type 0} (s : Session L) (t r : ℕ) (answer : Answer Xid) (call : Call Xid) → line_refusal s t r ≡ None
    → slice_get (line_at s.lines t r).calls.waiting 0 ≡ Some call → can_hear (map_call name_of call) (map_answer name_of answer) ≡ true
    → unfit s t r answer ≡ None
fits_so s t r answer call line waits hears =
    (λ i. option_or (option_map Unfits.Refused (line i)) (unfit_for (waits i) answer))
    ∙ ap (λ b. if b then None else Some Unfits.NoSuchAnswer) hears
