-- Two sessions, worked out.
use Rattle.std.proofs.Common.{◌≡◌, ◌∙◌, ◌<◌, inl, inr, ℕ, suc, Bool, true, false, List, [], ◌∷◌, ◌++◌, length, Option, Some, None, refl, sym, ap, subst, arith}
use Rattle.std.specs.Prelude.{◌==◌, ◌||◌, if◌then◌else◌, filter, slice_get}
use Rattle.xa_base.proofs.BranchKeys.{branch_eq-true, gtrid_eq-true}
use Rattle.xa_base.specs.Branch.{branch_eq, gtrid_eq}
use Rattle.xa_base.specs.HeldBranch.{HeldBranch, new_branch}
use Rattle.xa_base.specs.Scan.{Scan.NotOpen}
use Rattle.xa_base.specs.StateTable.{Kind, Kind.Commit as Commits, Kind.End as Ends, Kind.Prepare as Prepares, Kind.Start as Starts, asks_of, broken}
use Rattle.xa_base.specs.Xid.{Xid}
use Rattle.xa_base.specs.declared.answer.Answer.TheVariants.{Ret}
use Rattle.xa_base.specs.declared.branch.Gtrid.{Gtrid}
use Rattle.xa_base.specs.declared.call.Call.TheVariants as Calls
use Rattle.xa_base.specs.declared.code.Code.TheVariants.{Success}
use Rattle.xa_base.specs.declared.state.Standing.{Standing}
use Rattle.xa_base.specs.declared.state.Standing.TheVariants.{Active, Committed, Completed, Idle, Prepared, Unstarted}
use Rattle.xa_base.specs.declared.vote.Vote.TheVariants.{Yes}
use Rattle.xa_model.specs.Facts.{Change, Change.AddRows, Change.NoChange, branches, doubt, fits, heard, heuristic_rows, heuristics_changed, incarnation, issued, lists_row, live, log, record_of, row_for, rows_changed, says_yes, says_yes_in, started, taken, takes_part, up, was_told}
use Rattle.xa_model.specs.Promises.Processes.{SameRecords, SameRows}
use Rattle.xa_model.specs.Protocol.{HasVoted, Right, RightFault}
use Rattle.xa_model.specs.Trace.{Answer, Branch, Call, Code, Fault.InDecide, Happening, Happening.Begun, Happening.CompletedAlone, Happening.Failed, Happening.Heard, Happening.Issued, Happening.PutOff, Happening.Took, Happening.Voted, How, Line, Origin, Row, Trace, Trace.Then, line}
use Rattle.xa_monitor.specs.Agreement.{IsLineOf, MayAllStand, MayAllStand.AsTold, MayAllStand.UnderWay, WaitsAt, waiting_call_at}
use Rattle.xa_monitor.specs.Named.{AreOnBranches, IsNamedCall}
use Rattle.xa_monitor.specs.Seen.{Alone, Alone.Ends as Ended, Alone.NoMore, Alone.PutsOff, Alone.Votes, IsHistory, IsHistory.Does, IsHistory.Hears, IsHistory.Starts as Begins, HasAnswer, IsManagers, KeepsRules, Seen, Seen.Answered, Seen.Did, Seen.Start, start_with}
use Rattle.xa_monitor.specs.Sessions.{AfterSessions, AfterSessions.Between, AfterSessions.NoneYet, AfterSessions.OneMore, Finds, FindsLog, IsSession, Log.Empty, Log.LeftBy, nothing_yet}
use Rattle.xa_monitor.specs.Standings.{Comes, Explains, ExplainsIf}
use Rattle.xa_server.specs.WorkedSessions.{AreWorked, SessionsAreThere}

-- ** the transaction, its branches and their lines

abbrev g : Gtrid
g = record { incarnation = 1; sequence = 1 }

abbrev a : Branch
a = record { gtrid = g; thread = 0; rm = 0 }

abbrev b : Branch
b = record { gtrid = g; thread = 0; rm = 1 }

abbrev la : Line
la = line 0 0

abbrev lb : Line
lb = line 0 1

abbrev opens : Call
opens = Calls.OpenRm

abbrev starts : Branch → Call
starts x = Calls.Start x false

abbrev ends : Branch → Call
ends x = Calls.End x false

abbrev prepares : Branch → Call
prepares x = Calls.Prepare x

abbrev calls : Branch → List Call
calls x = opens ∷ starts x ∷ ends x ∷ prepares x ∷ []

abbrev ok : Answer
ok = Ret Success

-- a start with these rows, in this incarnation
abbrev start_of : ℕ → List Row → Origin
start_of i rows = record {
  threads = 1;
  rms = 2;
  incarnation = i;
  rows = rows;
  heuristic_rows = [];
  held = λ r x. new_branch;
  in_doubt = λ r. [];
  scans = λ r. NotOpen;
}

abbrev first : Origin
first = start_of 1 []

abbrev row : Row
row = record { gtrid = g; participants = b ∷ a ∷ [] }

abbrev second : Origin
second = start_of 2 (row ∷ [])

-- ** histories of what is seen

-- each is one of what was seen before, with this behind it
undo_did : (o : Origin) (seen : Seen) (e : Happening) (tr : Trace) → IsHistory o (Did seen e) tr
    → (old : Trace) × IsHistory o seen old × (tr ≡ Then old e)
undo_did o seen e _ (Does _ old _ i) = (old, i, refl)

undo_start : (o : Origin) (tr : Trace) → IsHistory o Start tr → (held : (rm : ℕ) → Xid → HeldBranch) × (tr ≡ start_with o held)
undo_start o _ (Begins held) = (held, refl)

abbrev Held : Type 0
Held = (rm : ℕ) → Xid → HeldBranch

-- what is seen where these were done in turn
abbrev did : List Happening → Seen → Seen
did [] seen = seen
did (e ∷ es) seen = did es (Did seen e)

abbrev done : List Happening → Trace → Trace
done [] tr = tr
done (e ∷ es) tr = done es (Then tr e)

-- each history of what is seen is this one, with something at the resource managers
abbrev IsOnly : Origin → (Held → Trace) → Seen → Type 0
IsOnly o tr seen = (t : Trace) → IsHistory o seen t → (held : Held) × (t ≡ tr held)

-- the manager did these in turn, and each was right
abbrev AllOf : List Happening → (Held → Trace) → Type 0
AllOf [] tr = Unit
AllOf (e ∷ es) tr = IsManagers e × ((h : Held) → Right (tr h) e) × AllOf es (λ h. Then (tr h) e)

record Kept (o : Origin) (seen : Seen) (tr : Held → Trace) : Type 0 where
  only : IsOnly o tr seen
  keeps : KeepsRules o seen

one_did : (o : Origin) (seen : Seen) (tr : Held → Trace) (e : Happening) → Kept o seen tr → IsManagers e → ((h : Held) → Right (tr h) e)
    → Kept o (Did seen e) (λ h. Then (tr h) e)
one_did o seen tr e kept is right = record {
  only = λ t i.
      let u = undo_did o seen e t i in
      let v = kept.only u.0 u.1 in
      (v.0, u.2 ∙ ap (λ x. Then x e) v.1);
  keeps = (kept.keeps, is, λ t i run. let v = kept.only t i in subst (λ x. Right x e) (sym v.1) (right v.0));
}

all_did : (o : Origin) (es : List Happening) (seen : Seen) (tr : Held → Trace) → Kept o seen tr → AllOf es tr
    → Kept o (did es seen) (λ h. done es (tr h))
all_did o [] seen tr kept all = kept
all_did o (e ∷ es) seen tr kept all = all_did o es (Did seen e) (λ h. Then (tr h) e) (one_did o seen tr e kept all.0 all.1) all.2

from_start : (o : Origin) → Kept o Start (start_with o)
from_start o = record { only = λ t i. undo_start o t i; keeps = tt }

-- ** the first session: all calls are made, and then each is answered

abbrev made : List Happening
made =
    Begun g ∷ Issued la opens ∷ Issued la (starts a) ∷ Issued la (ends a) ∷ Issued la (prepares a)
    ∷ Issued lb opens ∷ Issued lb (starts b) ∷ Issued lb (ends b) ∷ Issued lb (prepares b) ∷ []

all_made : Kept first (did made Start) (λ h. done made (start_with first h))
all_made = all_did first made Start (start_with first) (from_start first) (
  tt,
  λ h. (refl, refl, refl),
  (
    tt,
    λ h. (refl, tt, refl),
    (
      tt,
      λ h. (refl, record { known = refl; own_rm = refl; own_thread = refl; may_be = (refl, record { is_live = refl; unclaimed = refl }) }, refl),
      (
        tt,
        λ h. (refl, record { known = refl; own_rm = refl; own_thread = refl; may_be = tt }, refl),
        (
          tt,
          λ h. (refl, record { known = refl; own_rm = refl; own_thread = refl; may_be = record { is_live = refl; unclaimed = refl } }, refl),
          (
            tt,
            λ h. (refl, tt, refl),
            (
              tt,
              λ h. (refl, record { known = refl; own_rm = refl; own_thread = refl; may_be = (refl, record { is_live = refl; unclaimed = refl }) }, refl),
              (
                tt,
                λ h. (refl, record { known = refl; own_rm = refl; own_thread = refl; may_be = tt }, refl),
                (
                  tt,
                  λ h. (refl, record { known = refl; own_rm = refl; own_thread = refl; may_be = record { is_live = refl; unclaimed = refl } }, refl),
                  tt,
                ),
              ),
            ),
          ),
        ),
      ),
    ),
  ),
)

-- what a history of it says, with so many answers heard on each line, and these of all
abbrev any : (Call → Answer → Bool) → List (Call × Answer) → Bool
any test [] = false
any test (x ∷ xs) = test x.0 x.1 || any test xs

record Stands (na nb : ℕ) (answers : List (Call × Answer)) (tr : Trace) : Type 0 where
  is_up : up tr ≡ true
  issued_a : issued tr la ≡ calls a
  issued_b : issued tr lb ≡ calls b
  taken_a : length (taken tr la) ≡ na
  taken_b : length (taken tr lb) ≡ nb
  heard_a : length (heard tr la) ≡ na
  heard_b : length (heard tr lb) ≡ nb
  is_live : live tr g ≡ true
  started_so : (x : Branch) → started tr x ≡ (branch_eq b x || (branch_eq a x || false))
  branches_so : branches tr ≡ b ∷ a ∷ []
  told_so : (test : Call → Answer → Bool) → was_told tr test ≡ any test answers
  incarnation_so : incarnation tr ≡ 1
  log_so : log tr ≡ []
  records_so : heuristic_rows tr ≡ []

append_none : {A : Type 0} (xs : List A) → xs ++ [] ≡ xs
append_none [] = refl
append_none (x ∷ xs) = ap (λ rest. x ∷ rest) (append_none xs)

length_push : {A : Type 0} (xs : List A) (x : A) → length (xs ++ x ∷ []) ≡ suc (length xs)
length_push [] x = refl
length_push (y ∷ xs) x = let rest = length_push xs x in let all : length (y ∷ (xs ++ x ∷ [])) ≡ suc (length (y ∷ xs)) = omega (arith, rest) in all

length_none : {A : Type 0} (xs : List A) → length (xs ++ []) ≡ length xs
length_none xs = ap length (append_none xs)

-- a resource manager does something by itself
abbrev IsAlone : Happening → Type 0
IsAlone (Voted x v) = Unit
IsAlone (PutOff x n) = Unit
IsAlone (CompletedAlone x how) = Unit
IsAlone _ = ⊥

alone_one : (na nb : ℕ) (answers : List (Call × Answer)) (tr : Trace) (e : Happening) → IsAlone e → Stands na nb answers tr → Stands na nb answers (Then tr e)
alone_one na nb answers tr (Voted x v) is s = record {
  is_up = s.is_up;
  issued_a = append_none (issued tr la) ∙ s.issued_a;
  issued_b = append_none (issued tr lb) ∙ s.issued_b;
  taken_a = length_none (taken tr la) ∙ s.taken_a;
  taken_b = length_none (taken tr lb) ∙ s.taken_b;
  heard_a = length_none (heard tr la) ∙ s.heard_a;
  heard_b = length_none (heard tr lb) ∙ s.heard_b;
  is_live = s.is_live;
  started_so = s.started_so;
  branches_so = s.branches_so;
  told_so = s.told_so;
  incarnation_so = s.incarnation_so;
  log_so = s.log_so;
  records_so = s.records_so;
}
alone_one na nb answers tr (PutOff x v) is s = record {
  is_up = s.is_up;
  issued_a = append_none (issued tr la) ∙ s.issued_a;
  issued_b = append_none (issued tr lb) ∙ s.issued_b;
  taken_a = length_none (taken tr la) ∙ s.taken_a;
  taken_b = length_none (taken tr lb) ∙ s.taken_b;
  heard_a = length_none (heard tr la) ∙ s.heard_a;
  heard_b = length_none (heard tr lb) ∙ s.heard_b;
  is_live = s.is_live;
  started_so = s.started_so;
  branches_so = s.branches_so;
  told_so = s.told_so;
  incarnation_so = s.incarnation_so;
  log_so = s.log_so;
  records_so = s.records_so;
}
alone_one na nb answers tr (CompletedAlone x v) is s = record {
  is_up = s.is_up;
  issued_a = append_none (issued tr la) ∙ s.issued_a;
  issued_b = append_none (issued tr lb) ∙ s.issued_b;
  taken_a = length_none (taken tr la) ∙ s.taken_a;
  taken_b = length_none (taken tr lb) ∙ s.taken_b;
  heard_a = length_none (heard tr la) ∙ s.heard_a;
  heard_b = length_none (heard tr lb) ∙ s.heard_b;
  is_live = s.is_live;
  started_so = s.started_so;
  branches_so = s.branches_so;
  told_so = s.told_so;
  incarnation_so = s.incarnation_so;
  log_so = s.log_so;
  records_so = s.records_so;
}
alone_one na nb answers tr _ is s = absurd is

alone_all : (na nb : ℕ) (answers : List (Call × Answer)) (tr now : Trace) → Alone tr now → Stands na nb answers tr → Stands na nb answers now
alone_all na nb answers tr _ NoMore s = s
alone_all na nb answers tr _ (Votes now x v alone) s = alone_one na nb answers now (Voted x v) tt (alone_all na nb answers tr now alone s)
alone_all na nb answers tr _ (PutsOff now x n alone) s = alone_one na nb answers now (PutOff x n) tt (alone_all na nb answers tr now alone s)
alone_all na nb answers tr _ (Ended now x how alone was) s = alone_one na nb answers now (CompletedAlone x how) tt (alone_all na nb answers tr now alone s)

-- an answer is heard on the one line
heard_on_a : (na nb : ℕ) (answers : List (Call × Answer)) (tr : Trace) (c : Call) → record_of c ok ≡ NoChange → Stands na nb answers tr
    → Stands (suc na) nb ((c, ok) ∷ answers) (Then (Then tr (Took la c ok)) (Heard la c ok))
heard_on_a na nb answers tr c none s = record {
  is_up = s.is_up;
  issued_a = append_none (issued tr la ++ []) ∙ (append_none (issued tr la) ∙ s.issued_a);
  issued_b = append_none (issued tr lb ++ []) ∙ (append_none (issued tr lb) ∙ s.issued_b);
  taken_a = length_none (taken tr la ++ (c, ok) ∷ []) ∙ (length_push (taken tr la) (c, ok) ∙ ap suc s.taken_a);
  taken_b = length_none (taken tr lb ++ []) ∙ (length_none (taken tr lb) ∙ s.taken_b);
  heard_a = length_push (heard tr la ++ []) (c, ok) ∙ ap suc (length_none (heard tr la) ∙ s.heard_a);
  heard_b = length_none (heard tr lb ++ []) ∙ (length_none (heard tr lb) ∙ s.heard_b);
  is_live = s.is_live;
  started_so = s.started_so;
  branches_so = s.branches_so;
  told_so = λ test. ap (λ t. test c ok || t) (s.told_so test);
  incarnation_so = s.incarnation_so;
  log_so = s.log_so;
  records_so = ap (λ x. heuristics_changed x (heuristic_rows tr)) none ∙ s.records_so;
}

heard_on_b : (na nb : ℕ) (answers : List (Call × Answer)) (tr : Trace) (c : Call) → record_of c ok ≡ NoChange → Stands na nb answers tr
    → Stands na (suc nb) ((c, ok) ∷ answers) (Then (Then tr (Took lb c ok)) (Heard lb c ok))
heard_on_b na nb answers tr c none s = record {
  is_up = s.is_up;
  issued_a = append_none (issued tr la ++ []) ∙ (append_none (issued tr la) ∙ s.issued_a);
  issued_b = append_none (issued tr lb ++ []) ∙ (append_none (issued tr lb) ∙ s.issued_b);
  taken_a = length_none (taken tr la ++ []) ∙ (length_none (taken tr la) ∙ s.taken_a);
  taken_b = length_none (taken tr lb ++ (c, ok) ∷ []) ∙ (length_push (taken tr lb) (c, ok) ∙ ap suc s.taken_b);
  heard_a = length_none (heard tr la ++ []) ∙ (length_none (heard tr la) ∙ s.heard_a);
  heard_b = length_push (heard tr lb ++ []) (c, ok) ∙ ap suc (length_none (heard tr lb) ∙ s.heard_b);
  is_live = s.is_live;
  started_so = s.started_so;
  branches_so = s.branches_so;
  told_so = λ test. ap (λ t. test c ok || t) (s.told_so test);
  incarnation_so = s.incarnation_so;
  log_so = s.log_so;
  records_so = ap (λ x. heuristics_changed x (heuristic_rows tr)) none ∙ s.records_so;
}

-- what is seen keeps the rules, and each of its histories says this
record Follows (na nb : ℕ) (answers : List (Call × Answer)) (seen : Seen) : Type 0 where
  keeps : KeepsRules first seen
  stands : (tr : Trace) → IsHistory first seen tr → Stands na nb answers tr

undo_answer : (seen : Seen) (l : Line) (c : Call) (r : Answer) (tr : Trace) → IsHistory first (Answered seen l c r) tr
    → (old : Trace) × (now : Trace) × IsHistory first seen old × Alone old now × (tr ≡ Then (Then now (Took l c r)) (Heard l c r))
undo_answer seen l c r _ (Hears _ old now _ _ _ i alone) = (old, now, i, alone, refl)

answer_a : (na nb : ℕ) (answers : List (Call × Answer)) (seen : Seen) (c : Call) → Follows na nb answers seen → record_of c ok ≡ NoChange
    → HasAnswer c ok → slice_get (calls a) na ≡ Some c → Follows (suc na) nb ((c, ok) ∷ answers) (Answered seen la c ok)
answer_a na nb answers seen c f none has at = record {
  keeps = (
    f.keeps,
    has,
    λ tr i run. let s = f.stands tr i in record {
      is_up = s.is_up;
      first = ap (λ xs. slice_get xs (length (taken tr la))) s.issued_a ∙ (ap (slice_get (calls a)) s.taken_a ∙ at);
      none_unheard = s.heard_a ∙ sym s.taken_a;
    },
  );
  stands = λ tr i.
      let u = undo_answer seen la c ok tr i in
      subst (Stands (suc na) nb ((c, ok) ∷ answers)) (sym u.4)
      (heard_on_a na nb answers u.1 c none (alone_all na nb answers u.0 u.1 u.3 (f.stands u.0 u.2)));
}

answer_b : (na nb : ℕ) (answers : List (Call × Answer)) (seen : Seen) (c : Call) → Follows na nb answers seen → record_of c ok ≡ NoChange
    → HasAnswer c ok → slice_get (calls b) nb ≡ Some c → Follows na (suc nb) ((c, ok) ∷ answers) (Answered seen lb c ok)
answer_b na nb answers seen c f none has at = record {
  keeps = (
    f.keeps,
    has,
    λ tr i run. let s = f.stands tr i in record {
      is_up = s.is_up;
      first = ap (λ xs. slice_get xs (length (taken tr lb))) s.issued_b ∙ (ap (slice_get (calls b)) s.taken_b ∙ at);
      none_unheard = s.heard_b ∙ sym s.taken_b;
    },
  );
  stands = λ tr i.
      let u = undo_answer seen lb c ok tr i in
      subst (Stands na (suc nb) ((c, ok) ∷ answers)) (sym u.4)
      (heard_on_b na nb answers u.1 c none (alone_all na nb answers u.0 u.1 u.3 (f.stands u.0 u.2)));
}

-- behind all calls nothing is heard yet
none_heard : Follows 0 0 [] (did made Start)
none_heard = record { keeps = all_made.keeps; stands = λ tr i. let v = all_made.only tr i in subst (Stands 0 0 []) (sym v.1) (there v.0) }
  where
    there : (h : Held) → Stands 0 0 [] (done made (start_with first h))
    there h = record {
      is_up = refl;
      issued_a = refl;
      issued_b = refl;
      taken_a = refl;
      taken_b = refl;
      heard_a = refl;
      heard_b = refl;
      is_live = refl;
      started_so = λ x. refl;
      branches_so = refl;
      told_so = λ test. refl;
      incarnation_so = refl;
      log_so = refl;
      records_so = refl;
    }

-- all is answered, in turn on each line
abbrev all_answers : List (Call × Answer)
all_answers =
    (prepares b, ok) ∷ (ends b, ok) ∷ (starts b, ok) ∷ (opens, ok) ∷ (prepares a, ok) ∷ (ends a, ok) ∷ (starts a, ok) ∷ (opens, ok) ∷ []

abbrev answered_a : Seen
answered_a = Answered (Answered (Answered (Answered (did made Start) la opens ok) la (starts a) ok) la (ends a) ok) la (prepares a) ok

abbrev answered : Seen
answered = Answered (Answered (Answered (Answered answered_a lb opens ok) lb (starts b) ok) lb (ends b) ok) lb (prepares b) ok

follows_a : Follows 4 0 ((prepares a, ok) ∷ (ends a, ok) ∷ (starts a, ok) ∷ (opens, ok) ∷ []) answered_a
follows_a =
    answer_a 3 0 _ _ (prepares a)
    (answer_a 2 0 _ _ (ends a)
    (answer_a 1 0 _ _ (starts a)
    (answer_a 0 0 _ _ opens none_heard refl (λ e. refl) refl)
    refl (λ e. refl) refl)
    refl (λ e. refl) refl)
    refl (λ e. refl) refl

follows : Follows 4 4 all_answers answered
follows =
    answer_b 4 3 _ _ (prepares b)
    (answer_b 4 2 _ _ (ends b)
    (answer_b 4 1 _ _ (starts b)
    (answer_b 4 0 _ _ opens follows_a refl (λ e. refl) refl)
    refl (λ e. refl) refl)
    refl (λ e. refl) refl)
    refl (λ e. refl) refl

-- ** the first session is left in its decide

-- one of the two, or none
is_one : (x : Branch) (P : Type 0) → (t u : Bool) → branch_eq b x ≡ t → branch_eq a x ≡ u → (t || (u || false)) ≡ true → (b ≡ x → P) → (a ≡ x → P) → P
is_one x P true u e f some is_b is_a = is_b (branch_eq-true b x e)
is_one x P false true e f some is_b is_a = is_a (branch_eq-true a x f)
is_one x P false false e f some is_b is_a = absurd (cc)

voted : (tr : Trace) → Stands 4 4 all_answers tr → (x : Branch) → started tr x ≡ true → HasVoted tr x
voted tr s x was =
    is_one x (HasVoted tr x) (branch_eq b x) (branch_eq a x) refl refl (sym (s.started_so x) ∙ was)
    (λ e. subst (HasVoted tr) e (inl (s.told_so (says_yes b)))) (λ e. subst (HasVoted tr) e (inl (s.told_so (says_yes a))))

may_fail : (tr : Trace) → Stands 4 4 all_answers tr → RightFault tr (InDecide (g ∷ []))
may_fail tr s = (
  (record { is_up = s.is_up; is_live = s.is_live; votes = λ commit. inl (λ x same was. voted tr s x was) }, s.told_so (says_yes_in g)),
  refl,
  tt,
)

abbrev second_of : Option (Kind × Branch) → Branch
second_of None = a
second_of (Some p) = p.1

named : (l : Line) (x : Branch) (c : Call) → fits x ≡ true → ((k : Kind) (y : Branch) → asks_of c ≡ Some (k, y) → y ≡ x) → IsNamedCall c
named l x c fit only k y is = subst (λ z. fits z ≡ true) (sym (only k y is)) fit

first_session : IsSession first answered (Some (InDecide (g ∷ [])))
first_session = record {
  old = record { rows_old = λ h e. absurd (cc); record_old = λ x e. absurd (cc) };
  keeps = follows.keeps;
  on_branches = on_both;
  may_fail = (tt, λ tr i run. may_fail tr (follows.stands tr i));
}
  where
    none_named : IsNamedCall opens
    none_named k y is = absurd (cc)

    made_named : AreOnBranches (did made Start)
    made_named = ((
      (
        (
          (
            (
              ((((tt, tt), none_named), named la a (starts a) refl (λ k y is. sym (ap second_of is))), named la a (ends a) refl (λ k y is. sym (ap second_of is))),
              named la a (prepares a) refl (λ k y is. sym (ap second_of is)),
            ),
            none_named,
          ),
          named lb b (starts b) refl (λ k y is. sym (ap second_of is)),
        ),
        named lb b (ends b) refl (λ k y is. sym (ap second_of is)),
      ),
      named lb b (prepares b) refl (λ k y is. sym (ap second_of is)),
    ))

    on_both : AreOnBranches answered
    on_both = ((((((((made_named, tt), tt), tt), tt), tt), tt), tt), tt)

-- ** where the branches stand behind it

abbrev stand : (sa sb : Standing) → Branch → Standing
stand sa sb x = if branch_eq a x then sa else (if branch_eq b x then sb else Unstarted)

differ : (x : Branch) → branch_eq a x ≡ true → branch_eq b x ≡ true → ⊥
differ x e f =
    let same : a ≡ b = branch_eq-true a x e ∙ sym (branch_eq-true b x f) in
    let no : 0 ≡ 1 = ap (λ (y : Branch). y.rm) same in omega (arith, no)

on_a : (sa sb to : Standing) (k : Kind) (code : Code) → Explains sa k code to → (x : Branch)
    → ExplainsIf (branch_eq a x) (stand sa sb x) k code (stand to sb x)
on_a sa sb to k code e x = by (branch_eq a x) (if branch_eq b x then sb else Unstarted)
  where
    by : (t : Bool) (rest : Standing) → ExplainsIf t (if t then sa else rest) k code (if t then to else rest)
    by true rest = e
    by false rest = refl

on_b : (sa sb to : Standing) (k : Kind) (code : Code) → Explains sb k code to → (x : Branch)
    → ExplainsIf (branch_eq b x) (stand sa sb x) k code (stand sa to x)
on_b sa sb to k code e x = by (branch_eq a x) (branch_eq b x) (differ x)
  where
    by : (t u : Bool) → (t ≡ true → u ≡ true → ⊥)
        → ExplainsIf u (if t then sa else (if u then sb else Unstarted)) k code (if t then sa else (if u then to else Unstarted))
    by true true both = absurd (both refl refl)
    by true false both = refl
    by false true both = e
    by false false both = refl

starting : Explains Unstarted Starts Success Active
starting = record { as_called = Unstarted; alone = inl refl; vote = Yes; retries = 0; answers = refl; moves = refl }

ending : Explains Active (Ends false) Success Idle
ending = record { as_called = Active; alone = inl refl; vote = Yes; retries = 0; answers = refl; moves = refl }

preparing : Explains Idle Prepares Success Prepared
preparing = record { as_called = Idle; alone = inl refl; vote = Yes; retries = 0; answers = refl; moves = refl }

committing : Explains Prepared Commits Success Committed
committing = record { as_called = Prepared; alone = inl refl; vote = Yes; retries = 0; answers = refl; moves = refl }

unstarted : (x : Branch) → stand Unstarted Unstarted x ≡ Unstarted
unstarted x = by (branch_eq a x) (branch_eq b x)
  where
    by : (t u : Bool) → (if t then Unstarted else (if u then Unstarted else Unstarted)) ≡ Unstarted
    by true u = refl
    by false true = refl
    by false false = refl

comes : (x : Branch) → Comes answered x Unstarted (stand Prepared Prepared x)
comes x = (
  stand Prepared Idle x,
  (
    stand Prepared Active x,
    (
      stand Prepared Unstarted x,
      (
        stand Prepared Unstarted x,
        (
          stand Idle Unstarted x,
          (
            stand Active Unstarted x,
            (
              stand Unstarted Unstarted x,
              (
                stand Unstarted Unstarted x,
                unstarted x,
                refl,
              ),
              on_a Unstarted Unstarted Active Starts Success starting x,
            ),
            on_a Active Unstarted Idle (Ends false) Success ending x,
          ),
          on_a Idle Unstarted Prepared Prepares Success preparing x,
        ),
        refl,
      ),
      on_b Prepared Unstarted Active Starts Success starting x,
    ),
    on_b Prepared Active Idle (Ends false) Success ending x,
  ),
  on_b Prepared Idle Prepared Prepares Success preparing x,
)

-- ** the second session finds the row

row_count_is : SameRows (row ∷ []) (row ∷ [])
row_count_is = record { number = refl; count = λ h. refl; participants = λ h x. refl }

none_same : SameRows [] []
none_same = record { number = refl; count = λ h. refl; participants = λ h x. refl }

no_records : SameRecords [] []
no_records = record { number = refl; branches = λ x. refl }

first_found : FindsLog (nothing_yet 0) first
first_found = record { later = let less : 0 < 1 = omega arith in less; rows = none_same; records = no_records }

-- the row that the decision was to write
row_so : (tr : Trace) → Stands 4 4 all_answers tr → row_for tr g ≡ row
row_so tr s =
    ap (λ xs. let r : Row = record { gtrid = g; participants = filter (takes_part tr g) xs } in r) s.branches_so
    ∙ (ap (λ t. let r : Row = record {
      gtrid = g;
      participants = if t then b ∷ (if was_told tr (says_yes a) then a ∷ [] else [])
          else (if was_told tr (says_yes a) then a ∷ [] else []);
    } in r) (s.told_so (says_yes b))
    ∙ ap (λ t. let r : Row = record { gtrid = g; participants = b ∷ (if t then a ∷ [] else []) } in r) (s.told_so (says_yes a)))

abbrev rows_then : List Row → Bool → Row → Change → List Row
rows_then l u r d = if 1 == length l then l else rows_changed (if u then AddRows (r ∷ []) else d) l

second_found : (tr : Trace) → Stands 4 4 all_answers tr → FindsLog (Then tr (Failed (InDecide (g ∷ [])))) second
second_found tr s = record {
  later = let is = s.incarnation_so in let less : incarnation tr < 2 = omega (arith, is) in less;
  rows = subst (SameRows (row ∷ [])) (sym rows_are) row_count_is;
  records = subst (λ xs. SameRecords [] (if 0 == length xs then xs else heuristics_changed (doubt (Then tr (Failed (InDecide (g ∷ []))))) xs))
      (sym s.records_so) no_records;
}
  where
    rows_are : rows_then (log tr) (up tr) (row_for tr g) (doubt tr) ≡ row ∷ []
    rows_are =
        ap (λ l. rows_then l (up tr) (row_for tr g) (doubt tr)) s.log_so
        ∙ (ap (λ u. rows_then [] u (row_for tr g) (doubt tr)) s.is_up
        ∙ ap (λ r. rows_then [] true r (doubt tr)) (row_so tr s))

-- ** and has one branch committed

abbrev ordered : List Happening
ordered = Issued la opens ∷ Issued la (Calls.Commit a false) ∷ []

all_ordered : Kept second (did ordered Start) (λ h. done ordered (start_with second h))
all_ordered = all_did second ordered Start (start_with second) (from_start second) (
  tt,
  λ h. (refl, tt, refl),
  (tt, λ h. (refl, record { known = refl; own_rm = refl; own_thread = tt; may_be = refl }, refl), tt),
)

second_session : IsSession second (did ordered Start) None
second_session = record {
  old = record { rows_old = λ h e. listed h e; record_old = λ x e. absurd (cc) };
  keeps = all_ordered.keeps;
  on_branches = ((tt, λ k y is. absurd (cc)), named la a (Calls.Commit a false) refl (λ k y is. sym (ap second_of is)));
  may_fail = tt;
}
  where
    listed : (h : Gtrid) → lists_row (row ∷ []) h ≡ true → h.incarnation < 2
    listed h e = by (gtrid_eq g h) refl e
      where
        by : (t : Bool) → gtrid_eq g h ≡ t → (t || false) ≡ true → h.incarnation < 2
        by true is some = let same : 1 ≡ h.incarnation = ap (λ (k : Gtrid). k.incarnation) (gtrid_eq-true g h is) in omega (arith, same)
        by false is some = absurd (cc)

abbrev waits_there : ℕ → Call → Type 0
waits_there n c = (h : Held) → waiting_call_at (done ordered (start_with second h)) la n ≡ Some c

waits_so : (n : ℕ) (c : Call) → waits_there n c → WaitsAt second (did ordered Start) la n (Some c)
waits_so n c there tr i run = let v = all_ordered.only tr i in subst (λ t. waiting_call_at t la n ≡ Some c) (sym v.1) (there v.0)

-- what was open is lost; both are prepared
abbrev stood : Branch → Standing
stood x = broken (stand Prepared Prepared x)

abbrev stands_now : Branch → Standing
stands_now x = if branch_eq a x then Committed else stood x

commits_a : (x : Branch) → ExplainsIf (branch_eq a x) (stood x) Commits Success (stands_now x)
commits_a x = by (branch_eq a x) (if branch_eq b x then Prepared else Unstarted)
  where
    by : (t : Bool) (rest : Standing)
        → ExplainsIf t (broken (if t then Prepared else rest)) Commits Success (if t then Committed else broken (if t then Prepared else rest))
    by true rest = committing
    by false rest = refl

here : IsLineOf second la
here = (let less : 0 < 1 = omega arith in less, let less : 0 < 2 = omega arith in less)

may_stand : MayAllStand second (did ordered Start) (λ x. Comes (did ordered Start) x (broken (stand Prepared Prepared x))) (la ∷ la ∷ []) [] stands_now
may_stand =
    UnderWay (la ∷ []) [] stood stands_now la (Calls.Commit a false)
    (UnderWay [] [] stood stood la opens (AsTold stood (λ x. refl)) here refl (waits_so 0 opens (λ h. refl)) (Success, λ x. refl))
    here refl (waits_so 1 (Calls.Commit a false) (λ h. refl)) (Success, λ x. commits_a x)

abbrev behind_first : AfterSessions (LeftBy first answered (Some (InDecide (g ∷ [])))) (stand Prepared Prepared)
behind_first =
    OneMore (Empty 0) (λ x. Unstarted) (stand Prepared Prepared) first answered (Some (InDecide (g ∷ []))) [] [] (NoneYet 0) first_found first_session
    (AsTold (stand Prepared Prepared) comes)

finds_second : Finds (LeftBy first answered (Some (InDecide (g ∷ [])))) second
finds_second tr i run = second_found tr (follows.stands tr i)

abbrev behind_both : AfterSessions (LeftBy second (did ordered Start) None) stands_now
behind_both =
    OneMore (LeftBy first answered (Some (InDecide (g ∷ [])))) (stand Prepared Prepared) stands_now second (did ordered Start) None (la ∷ la ∷ []) []
    behind_first finds_second second_session may_stand

prepared_too : AreWorked Prepared
prepared_too = record {
  log = LeftBy second (did ordered Start) None;
  stand = stands_now;
  after = behind_both;
  one = a;
  other = b;
  same = refl;
  apart = λ e. omega (arith, e);
  deciding = inr (inl refl);
  committed = refl;
  so = refl;
}

-- or the database has ended the other by itself since
abbrev ended_now : How → Branch → Standing
ended_now how x = if branch_eq b x then Completed how else stands_now x

ended_too : (how : How) → AreWorked (Completed how)
ended_too how = record {
  log = LeftBy second (did ordered Start) None;
  stand = ended_now how;
  after = Between (LeftBy second (did ordered Start) None) stands_now (ended_now how) b how behind_both refl (λ x. refl);
  one = a;
  other = b;
  same = refl;
  apart = λ e. omega (arith, e);
  deciding = inr (inl refl);
  committed = refl;
  so = refl;
}

pub are_there : SessionsAreThere
are_there = (prepared_too, ended_too)
