-- What a session makes of its lines.
use Rattle.std.proofs.Common.{◌≡◌, ℕ, ◌<◌, ◌+◌, inl, inr, Bool, true, false, not, List, [], ◌∷◌, length, Option, Some, None, refl, sym, ap, ◌∙◌, subst, arith}
use Rattle.std.specs.Prelude.{if◌then◌else◌, ◌&&◌, ◌||◌, nat_le, nat_lt, slice_get}
use Rattle.std.specs.Option.{option_and_then, option_or}
use Rattle.std.proofs.lemmas.Bool.Decides.{eqb_tells, nat_tests}
use Rattle.std.proofs.lemmas.Bool.{and_parts}
use Rattle.xa_base.specs.Call.{map_call}
use Rattle.xa_base.specs.Xid.{Xid}
use Rattle.xa_base.specs.Opening.{has_closed, has_opened}
use Rattle.xa_base.specs.declared.call.Call.{Call}
use Rattle.xa_base.specs.declared.refusal.Refusal.{Refusal}
use Rattle.xa_base.specs.declared.refusal.Refusal.TheVariants.{Busy, Closed, Full, Limit, ManagerDown, NotOpen, RmDown}
use Rattle.xa_base.specs.declared.step.Step.TheVariants as Steps
use Rattle.xa_line.specs.Grid.{Grid, HasLine, IsWhole, grid_has_line, line_at, with_line}
use Rattle.xa_line.specs.Histories.{known}
use Rattle.xa_line.specs.Traffic.{Traffic, barred, calls_issued, is_full, opening_refusal, places, room_refusal}
use Rattle.xa_line.proofs.HistoryLaws.{closed_of_known, opened_of_known, unopened_of_known}
use Rattle.xa_line.proofs.GridLaws.{line_at-with_line_other_rm, line_at-with_line_other_thread, line_at-with_line_same}
use Rattle.xa_model.specs.Replies.Guards.{Guard, call_guards, first_guard, refusal_by}
use Rattle.xa_model.specs.Replies.History.{name_of}
use Rattle.xa_model.proofs.Replies.Guards.{bar_of, issue_rule as table_of_issue, issue_why}
use Rattle.xa_monitor.specs.Monitor.{known_if}
use Rattle.xa_tm.specs.Calls.{book_in}
use Rattle.xa_tm.specs.Refusing.{refusal_in, view_in}
use Rattle.xa_tm.proofs.Maps.Issue.{issue_refusal as book_of_issue}
use Rattle.xa_session.specs.Session.{AllHeard, awaits_page, behind_page, is_over, issue_refusal, known_waiting, line_refusal, lines_seen, recovery_refusal}
use Rattle.xa_session.specs.declared.session.Session.{Session}

-- ** a line

lt_is : (m n : ℕ) → nat_lt m n ≡ true → m < n
lt_is m n e = grind (arith, nat_tests, e)

-- what is so if a line may be told of
pub record MayTell {L : Type 0} (s : Session L) (t r : ℕ) : Type 0 where
  pub free : is_over s ≡ false
  pub there : grid_has_line s.lines t r ≡ true
  pub has : HasLine s.lines t r
  pub up : (book_in s.manager).up ≡ true

-- the book has the line exactly if the session has
there_is : {L : Type 0} (s : Session L) (t r : ℕ)
    → (nat_lt t (book_in s.manager).threads && nat_lt r (book_in s.manager).rms) ≡ grid_has_line s.lines t r
there_is s t r = λ i. nat_lt t (s.sized.0 i) && nat_lt r (s.sized.1 i)

-- what the table says of a line, by what it looks at
abbrev pub line_why : (over there up : Bool) → Option Refusal
line_why over there up = if over || not there then Some Limit else (if not up then Some ManagerDown else None)

pub line_rule : {L : Type 0} (s : Session L) (t r : ℕ) → line_refusal s t r ≡ line_why (is_over s) (grid_has_line s.lines t r) (book_in s.manager).up
line_rule s t r =
    by (is_over s) (nat_lt t (book_in s.manager).threads && nat_lt r (book_in s.manager).rms) (book_in s.manager).up
    ∙ ap (λ there. line_why (is_over s) there (book_in s.manager).up) (there_is s t r)
  where
    by : (over there up : Bool)
        → (if over then Some Limit else refusal_by there ((ManagerDown, not up) ∷ (RmDown, not true) ∷ [])) ≡ line_why over there up
    by true there up = refl
    by false false up = refl
    by false true true = refl
    by false true false = refl

line_free : (over there up : Bool) → line_why over there up ≡ None → (over ≡ false) × (there ≡ true) × (up ≡ true)
line_free false true true e = (refl, refl, refl)
line_free false true false e = absurd (cc)
line_free false false up e = absurd (cc)
line_free true there up e = absurd (cc)

pub may_tell : {L : Type 0} (s : Session L) (t r : ℕ) → line_refusal s t r ≡ None → MayTell s t r
may_tell s t r none =
    let parts = line_free (is_over s) (grid_has_line s.lines t r) (book_in s.manager).up (sym (line_rule s t r) ∙ none) in
    let there = and_parts (nat_lt t s.lines.threads) (nat_lt r s.lines.rms) parts.1 in
    record { free = parts.0; there = parts.1; has = (lt_is _ _ there.0, lt_is _ _ there.1); up = parts.2 }

pub none_first : {A : Type 0} (o p : Option A) → option_or o p ≡ None → o ≡ None
none_first None p e = refl
none_first (Some x) p e = absurd (cc)

pub none_second : {A : Type 0} (o p : Option A) → option_or o p ≡ None → p ≡ None
none_second None p e = e
none_second (Some x) p e = absurd (cc)

-- what the table says of a call: what it does of its line, what that line says, what the book does,
-- and that there is room
pub issue_rule : {L : Type 0} (s : Session L) (t r : ℕ) (call : Call Xid) → issue_refusal s t r call
    ≡ option_or (line_refusal s t r)
    (option_or (barred (calls_issued (line_at s.lines t r)) call)
    (option_or (refusal_in (book_in s.manager) (Steps.Issue t r (map_call name_of call))) (if is_full (line_at s.lines t r) then Some Full else None)))
issue_rule s t r call =
    let v = view_in (book_in s.manager) in
    let asked = map_call name_of call in
    let at = line_at s.lines t r in
    let why = first_guard (call_guards v t r asked) in
    let there = nat_lt t v.threads && nat_lt r v.rms in
    ap (λ o. if is_over s then Some Limit else o) (table_of_issue v (lines_seen s) t r asked)
    ∙ (λ i. if is_over s then Some Limit
    else issue_why there v.up true (bar_of (unopened_of_known (calls_issued at) call i) (closed_of_known (calls_issued at) i)) why (is_full at))
    ∙ by (is_over s) there v.up (barred (calls_issued at) call) (call_guards v t r asked) (is_full at)
    ∙ ap (λ o. option_or (line_refusal s t r) (option_or (barred (calls_issued at) call) (option_or o (if is_full at then Some Full else None))))
    (sym (book_of_issue v t r asked))
  where
    by : (over there up : Bool) (bar : Option Refusal) (gs : List Guard) (full : Bool)
        → (if over then Some Limit else issue_why there up true bar (first_guard gs) full)
        ≡ option_or (if over then Some Limit else refusal_by there ((ManagerDown, not up) ∷ (RmDown, not true) ∷ []))
        (option_or bar (option_or (refusal_by there ((ManagerDown, not up) ∷ gs)) (if full then Some Full else None)))
    by true there up bar gs full = refl
    by false false up bar gs full = refl
    by false true false bar gs full = refl
    by false true true bar gs full = refl

-- there is no room for one call more exactly if the line is full
pub full_is : (n : ℕ) → nat_lt places (n + 1) ≡ nat_le places n
full_is n = by (nat_le places n) refl
  where
    by : (t : Bool) → nat_le places n ≡ t → nat_lt places (n + 1) ≡ t
    by true e = grind (arith, nat_tests, e)
    by false e = grind (arith, nat_tests, e)

-- what is so if a call may wait
pub record MayIssue {L : Type 0} (s : Session L) (t r : ℕ) (call : Call Xid) : Type 0 where
  pub tell : MayTell s t r
  pub bar : barred (calls_issued (line_at s.lines t r)) call ≡ None
  pub book : refusal_in (book_in s.manager) (Steps.Issue t r (map_call name_of call)) ≡ None
  pub room : is_full (line_at s.lines t r) ≡ false

not_full : (full : Bool) → (if full then Some Full else None) ≡ None → full ≡ false
not_full false e = refl
not_full true e = absurd (cc)

pub may_issue_so : {L : Type 0} (s : Session L) (t r : ℕ) (call : Call Xid) → issue_refusal s t r call ≡ None → MayIssue s t r call
may_issue_so s t r call none =
    let full = if is_full (line_at s.lines t r) then Some Full else None in
    let book = refusal_in (book_in s.manager) (Steps.Issue t r (map_call name_of call)) in
    let bar = barred (calls_issued (line_at s.lines t r)) call in
    let all = sym (issue_rule s t r call) ∙ none in
    let by_bar = none_second (line_refusal s t r) (option_or bar (option_or book full)) all in
    let by_book = none_second bar (option_or book full) by_bar in
    record {
      tell = may_tell s t r (none_first (line_refusal s t r) (option_or bar (option_or book full)) all);
      bar = none_first bar (option_or book full) by_bar;
      book = none_first book full by_book;
      room = not_full (is_full (line_at s.lines t r)) (none_second book full by_book);
    }

-- ** recoveries

-- why the line of the first thread takes no recovery of so many calls
abbrev pub recovery_bar : Traffic → (calls : ℕ) → Option Refusal
recovery_bar t n = option_or (opening_refusal (calls_issued t)) (option_or (if awaits_page t then Some Busy else None) (room_refusal t n))

pub recovery_rule : {L : Type 0} (s : Session L) (r n : ℕ)
    → recovery_refusal s r n ≡ option_or (line_refusal s 0 r) (recovery_bar (line_at s.lines 0 r) n)
recovery_rule s r n =
    let at = line_at s.lines 0 r in
    let up = (book_in s.manager).up in
    let full = nat_lt places (length at.calls.waiting + n) in
    (λ i. behind_page (awaits_page at)
    (if is_over s then Some Limit
    else refusal_by (grid_has_line s.lines 0 r)
    ((ManagerDown, not up) ∷ (RmDown, not true) ∷ (NotOpen, not (opened_of_known (calls_issued at) i)) ∷ (Closed, closed_of_known (calls_issued at) i)
    ∷ (Full, full) ∷ [])))
    ∙ by (awaits_page at) (is_over s) (grid_has_line s.lines 0 r) up (has_opened (calls_issued at)) (has_closed (calls_issued at)) full
    ∙ ap (λ o. option_or o (recovery_bar at n)) (sym (line_rule s 0 r))
  where
    by : (awaited over there up opened closed full : Bool)
        → behind_page awaited (if over then Some Limit
        else refusal_by there ((ManagerDown, not up) ∷ (RmDown, not true) ∷ (NotOpen, not opened) ∷ (Closed, closed) ∷ (Full, full) ∷ []))
        ≡ option_or (line_why over there up)
        (option_or (if not opened then Some NotOpen else (if closed then Some Closed else None))
        (option_or (if awaited then Some Busy else None) (if full then Some Full else None)))
    by true true there up opened closed full = refl
    by true false false up opened closed full = refl
    by true false true false opened closed full = refl
    by true false true true false closed full = refl
    by true false true true true true full = refl
    by true false true true true false true = refl
    by true false true true true false false = refl
    by false true there up opened closed full = refl
    by false false false up opened closed full = refl
    by false false true false opened closed full = refl
    by false false true true false closed full = refl
    by false false true true true true full = refl
    by false false true true true false true = refl
    by false false true true true false false = refl

-- what is so if one may begin
pub may_recover : {L : Type 0} (s : Session L) (r n : ℕ) → recovery_refusal s r n ≡ None
    → (line_refusal s 0 r ≡ None) × (recovery_bar (line_at s.lines 0 r) n ≡ None)
may_recover s r n none =
    let all = sym (recovery_rule s r n) ∙ none in
    (none_first (line_refusal s 0 r) (recovery_bar (line_at s.lines 0 r) n) all, none_second (line_refusal s 0 r) (recovery_bar (line_at s.lines 0 r) n) all)

-- ** the call that waits first

-- as a history knows it
pub waiting_known : (g : Grid) (t r : ℕ) (call : Call Xid) → grid_has_line g t r ≡ true → slice_get (line_at g t r).calls.waiting 0 ≡ Some call
    → known_waiting g t r ≡ known call
waiting_known g t r call there first =
    ap (λ b. option_and_then known (if b then slice_get (line_at g t r).calls.waiting 0 else None)) there ∙ ap (option_and_then known) first

known_if_is : (o : Option (Call Xid)) → known_if o ≡ option_and_then known o
known_if_is (Some call) = refl
known_if_is None = refl

pub waiting_if : (g : Grid) (t r : ℕ) (o : Option (Call Xid)) → grid_has_line g t r ≡ true → o ≡ slice_get (line_at g t r).calls.waiting 0
    → known_if o ≡ known_waiting g t r
waiting_if g t r o there first =
    known_if_is o ∙ ap (option_and_then known) first
    ∙ ap (λ b. option_and_then known (if b then slice_get (line_at g t r).calls.waiting 0 else None)) (sym there)

-- ** all lines

-- one line changed, on which no answer waits
pub all_with : (g : Grid) (t r : ℕ) (x : Traffic) → IsWhole g → HasLine g t r → x.answers.waiting ≡ [] → AllHeard g → AllHeard (with_line g t r x)
all_with g t r x whole has here others u s has_u =
    elim (eqb_tells s r) [
      | inr apart ↦ ap (λ (l : Traffic). l.answers.waiting) (line_at-with_line_other_rm g t r u s x has.1 has_u.1 apart.1) ∙ others u s has_u
      | inl same_rm ↦ (elim (eqb_tells u t) [
        | inr apart ↦ ap (λ (l : Traffic). l.answers.waiting) (line_at-with_line_other_thread g t r u s x has.1 has_u.1 apart.1) ∙ others u s has_u
        | inl same_thread ↦ subst (λ n. (line_at (with_line g t r x) n s).answers.waiting ≡ []) (sym same_thread.1)
            (subst (λ n. (line_at (with_line g t r x) t n).answers.waiting ≡ []) (sym same_rm.1)
            (ap (λ (l : Traffic). l.answers.waiting) (line_at-with_line_same g t r x whole has) ∙ here))
      ])
    ]
