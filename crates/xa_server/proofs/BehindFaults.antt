-- Nothing changes behind a fault of the log.
use Rattle.std.proofs.Common.{◌≡◌, ◌∙◌, ◌⊎◌, inl, inr, ℕ, ◌+◌, zero, suc, Bool, true, false, List, [], ◌∷◌, Option, Some, None, refl, sym, ap, subst}
use Rattle.std.specs.Prelude.{if◌then◌else◌, length, not, slice_get, IfErr, MatchBool, MatchResult, Result, Ok, Err}
use Rattle.std.specs.Option.{option_map, option_or}
use Rattle.xa_base.specs.Answer.{answer_number}
use Rattle.xa_base.specs.Xid.{Xid}
use Rattle.xa_base.specs.declared.answer.Answer.{Answer}
use Rattle.xa_base.specs.declared.branch.Gtrid.{Gtrid}
use Rattle.xa_base.specs.declared.refusal.Refusal.{Refusal}
use Rattle.xa_base.specs.declared.refusal.Refusal.TheVariants.{Limit, LogFault, ManagerDown, Memory}
use Rattle.xa_base.specs.declared.step.Step.TheVariants as Steps
use Rattle.xa_line.specs.Grid.{line_at}
use Rattle.xa_log.specs.Contract.{Moment}
use Rattle.xa_model.specs.Trace.{Fault, Fault.InDecide, Fault.InDone, Happening.Decided, Happening.Done}
use Rattle.xa_requests.specs.declared.request.CallName.{CallName}
use Rattle.xa_requests.specs.declared.request.Request.{Request}
use Rattle.xa_requests.specs.declared.request.Request.TheVariants as requests
use Rattle.xa_requests.specs.declared.response.RequestFault.TheVariants as faults
use Rattle.xa_requests.specs.declared.response.Response.{Response}
use Rattle.xa_requests.specs.declared.response.Response.TheVariants as responses
use Rattle.xa_server.specs.Calls.{answer_reply, waits_for_other}
use Rattle.xa_server.specs.Crashes.{LosesFrom}
use Rattle.xa_server.proofs.Failures.{failed_in_answer, if_room}
use Rattle.xa_server.proofs.FaultLemmas.{decided_is_no_refusal, fault_is_told, noted_is_no_refusal}
use Rattle.xa_server.specs.Faults.{AllAreOfSome, IsOfSome, IsOfSomeIn, LogFails, LogFails.InAnswer, LogFails.InRequest, MayChangeRows, NothingBehindFaults}
use Rattle.xa_server.specs.Lines.{asked_in}
use Rattle.xa_server.specs.Performing.{Performs}
use Rattle.xa_server.specs.Releasing.{ReleasesAll, ended_by, if_taken, says_taken, transaction_of}
use Rattle.xa_server.specs.Replies.{response_of}
use Rattle.xa_server.specs.Serving.{HaveReplies, RepliesBy}
use Rattle.xa_server.specs.Standing.{LacksMemory, OnlyTells, StandsFor}
use Rattle.xa_server.specs.declared.server.Server.{Server}
use Rattle.xa_session.proofs.Refusals.{no_fault_in_turn}
use Rattle.xa_session.proofs.Sessions.{never_the_log}
use Rattle.xa_session.specs.Session.{awaits_page, behind_page, begin_refusal, decide_all_refusal, done_all_refusal, has_room_for, is_over, issue_refusal, line_refusal, refusal_at, resolve_open_refusal, resolve_refusal, unfit, unfit_for}
use Rattle.xa_session.specs.Steps.{Hears, Loses}
use Rattle.xa_session.specs.declared.session.Session.{Session}
use Rattle.xa_session.specs.declared.session.answers.Unfit.TheVariants as Unfits
use Rattle.xa_tm.specs.Book.{Book, Doubt, Doubt.Adds, Doubt.Drops, rows_for}
use Rattle.xa_tm.specs.Calls.{FailsBy, book_in, written_by}

-- ** what a manager that is down refuses: all

abbrev IsRefused : Option Refusal → Type 0
IsRefused why = (n : Refusal) × (why ≡ Some n)

by_guard : (over there up : Bool) (rest : Option Refusal) → up ≡ false
    → IsRefused (if over then Some Limit else (if there then (if not up then Some ManagerDown else rest) else Some Limit))
by_guard true there up rest down = (Limit, refl)
by_guard false false up rest down = (Limit, refl)
by_guard false true true rest down = absurd (cc)
by_guard false true false rest down = (ManagerDown, refl)

by_thread : (over there up : Bool) → up ≡ false
    → IsRefused (if over then Some Limit else (if there then (if up then None else Some ManagerDown) else Some Limit))
by_thread true there up down = (Limit, refl)
by_thread false false up down = (Limit, refl)
by_thread false true true down = absurd (cc)
by_thread false true false down = (ManagerDown, refl)

by_turn : (room up : Bool) (rest others : Option Refusal) → up ≡ false
    → IsRefused (if room then option_or (if not up then Some ManagerDown else rest) others else Some Limit)
by_turn false up rest others down = (Limit, refl)
by_turn true true rest others down = absurd (cc)
by_turn true false rest others down = (ManagerDown, refl)

by_page : (awaited over there up : Bool) (rest : Option Refusal) → up ≡ false
    → IsRefused (behind_page awaited (if over then Some Limit else (if there then (if not up then Some ManagerDown else rest) else Some Limit)))
by_page true true there up rest down = (Limit, refl)
by_page false true there up rest down = (Limit, refl)
by_page true false false up rest down = (Limit, refl)
by_page false false false up rest down = (Limit, refl)
by_page a false true true rest down = absurd (cc)
by_page true false true false rest down = (ManagerDown, refl)
by_page false false true false rest down = (ManagerDown, refl)

module _ {L : Type 0} (s : Session L) (down : (book_in s.manager).up ≡ false) where
  line_refused : (t r : ℕ) → IsRefused (line_refusal s t r)
  line_refused t r = by_guard (is_over s) _ (book_in s.manager).up _ down

  unfit_so : (t r : ℕ) (answer : Answer Xid) → (n : Refusal) × (unfit s t r answer ≡ Some (Unfits.Refused n))
  unfit_so t r answer =
      let why = line_refused t r in (
        why.0,
        ap (λ o. option_or (option_map Unfits.Refused o) (unfit_for (slice_get (line_at s.lines t r).calls.waiting 0) answer)) why.1,
      )

-- ** a refusal changes nothing

module _ {L : Type 0} (old mid : Server L) where
  same_server : mid ≡ record old { session = mid.session } → mid.session ≡ old.session → mid ≡ old
  same_server rest same = rest ∙ ap (λ (s : Session L). let c : Server L = record old { session = s } in c) same

  -- nothing changed, and no transaction ended
  record IsStill (reply : Response) : Type 0 where
    same : mid ≡ old
    untaken : says_taken reply ≡ false

  refused_so : {A : Type 0} (why : Option Refusal) (taken : A → Response) (r : Result A Refusal) (reply : Response) → IsRefused why
      → ((n : Refusal) → why ≡ Some n → (r ≡ Err n) × (mid.session ≡ old.session)) → reply ≡ response_of taken r
      → mid ≡ record old { session = mid.session } → IsStill reply
  refused_so why taken r reply is refused told rest =
      let so = refused is.0 is.1 in
      record { same = same_server rest so.1; untaken = ap says_taken (told ∙ ap (response_of taken) so.0) }

  lost_so : (t r : ℕ) (result : Result (Unit {0}) Refusal) (down : (book_in old.session.manager).up ≡ false) → Loses t r old.session mid.session result
      → (n : Refusal) × (result ≡ Err n) × (mid.session ≡ old.session)
  lost_so t r result down loses =
      let why = line_refused old.session down t r in
      let so = loses.rules.refused why.0 why.1 in (why.0, so.0, so.1)

  answered_so : (t r : ℕ) (name : CallName) (answer : Answer Xid) (reply : Response) (down : (book_in old.session.manager).up ≡ false)
      → MatchBool (waits_for_other old.session.lines t r name) (OnlyTells (responses.Fault faults.OtherCall) old reply mid)
      (StandsFor (Hears t r answer) (answer_reply (responses.Heard name.kind (answer_number answer))) old reply mid ⊎ LacksMemory old reply mid)
      → IsStill reply
  answered_so t r name answer reply down performs = by (waits_for_other old.session.lines t r name) performs
    where
      by : (b : Bool) → MatchBool b (OnlyTells (responses.Fault faults.OtherCall) old reply mid)
          (StandsFor (Hears t r answer) (answer_reply (responses.Heard name.kind (answer_number answer))) old reply mid ⊎ LacksMemory old reply mid)
          → IsStill reply
      by true h = record { same = h.1; untaken = ap says_taken h.0 }
      by false (inl h) =
          let why = unfit_so old.session down t r answer in
          let so = h.does.refused (Unfits.Refused why.0) why.1 in
          record {
            same = same_server h.rest so.1;
            untaken = ap says_taken (h.told ∙ ap (answer_reply (responses.Heard name.kind (answer_number answer))) so.0);
          }
      by false (inr h) = record { same = h.1; untaken = ap says_taken h.0 }

-- a reply that ends no transaction releases none
none_released : {L : Type 0} (request : Request) (reply : Response) (mid new : Server L) → says_taken reply ≡ false
    → ReleasesAll (ended_by request reply) mid new → new ≡ mid
none_released {L} request reply mid new untaken released = subst (λ gs. ReleasesAll gs mid new) (none request) released
  where
    none_of : (t : Bool) (gs : List Gtrid) → t ≡ false → (if t then gs else []) ≡ []
    none_of true gs e = absurd (cc)
    none_of false gs e = refl

    one : (o : Option Gtrid) → if_taken reply o ≡ []
    one None = refl
    one (Some g) = none_of (says_taken reply) (g ∷ []) untaken

    none : (q : Request) → ended_by q reply ≡ []
    none (requests.Answer t r name answer) = one (transaction_of name)
    none (requests.Decide gs outcome) = none_of (says_taken reply) gs untaken
    none (requests.Settle g) = one (Some g)
    none (requests.Abandon g) = one (Some g)
    none (requests.Done gs) = none_of (says_taken reply) gs untaken
    none (requests.Begin t) = refl
    none (requests.Issue t r call) = refl
    none (requests.Claim g) = refl
    none (requests.Resolve r) = refl
    none (requests.ResolveOpen r) = refl
    none (requests.Waiting t r) = refl
    none (requests.Owed r) = refl
    none (requests.CrashLine t r) = refl
    none (requests.CrashRm r) = refl
    none requests.Status = refl
    none requests.Quit = refl

-- the lines of threads that a manager which is down can't lose
lost_none : {L : Type 0} (rm thread left : ℕ) (old : Server L) (reply : Response) (mid : Server L) → (book_in old.session.manager).up ≡ false
    → LosesFrom rm thread left old reply mid → mid ≡ old
lost_none rm thread zero old reply mid down h = h.1
lost_none {L} rm thread (suc left) old reply mid down h = by h.1 so.1 h.3 ∙ same_server old h.0 h.2.rest so.2
  where
    so : (n : Refusal) × (h.1 ≡ Err n) × (h.0.session ≡ old.session)
    so = lost_so old h.0 thread rm h.1 down h.2.does

    by : (r : Result (Unit {0}) Refusal) → r ≡ Err so.0
        → MatchResult r (λ _. LosesFrom rm (thread + 1) left h.0 reply mid) (λ n. OnlyTells (responses.Refused n) h.0 reply mid) → mid ≡ h.0
    by (Ok x) e m = absurd (cc)
    by (Err n) e m = m.1

module _ {L : Type 0} (moment : L → Moment) where
  -- a request that is refused, or tells no more than it looks at, changes nothing
  whole : (request : Request) (old new : Server L) (reply : Response) (did : Performs moment request old reply new) → IsStill old did.mid reply → new ≡ old
  whole request old new reply did still = none_released request reply did.mid new still.untaken did.releases ∙ still.same

  pub stays_down : (request : Request) (old new : Server L) (reply : Response) → (book_in old.session.manager).up ≡ false → IsOfSome request
      → Performs moment request old reply new → new ≡ old
  stays_down (requests.Begin t) old new reply down some did =
      whole (requests.Begin t) old new reply did
      (refused_so old did.mid (begin_refusal old.session t) responses.Begun did.does.result reply (by_thread (is_over old.session) _ _ down)
      did.does.does.rules.refused did.does.told did.does.rest)
  stays_down (requests.Issue t r call) old new reply down some did =
      whole (requests.Issue t r call) old new reply did
      (refused_so old did.mid (issue_refusal old.session t r call) (λ _. responses.Issued call) did.does.result reply
      (by_guard (is_over old.session) _ _ _ down) did.does.does.rules.refused did.does.told did.does.rest)
  stays_down (requests.Answer t r name answer) old new reply down some did =
      whole (requests.Answer t r name answer) old new reply did (answered_so old did.mid t r name answer reply down did.does)
  stays_down (requests.Decide [] outcome) old new reply down some did = absurd some
  stays_down (requests.Decide (g ∷ gs) outcome) old new reply down some did =
      whole (requests.Decide (g ∷ gs) outcome) old new reply did
      (refused_so old did.mid (decide_all_refusal old.session outcome (g ∷ gs)) (λ _. responses.Decided) did.does.result reply
      (by_turn (has_room_for old.session (length (g ∷ gs))) _ _ _ down) did.does.does.rules.refused did.does.told did.does.rest)
  stays_down (requests.Claim g) old new reply down some did =
      whole (requests.Claim g) old new reply did
      (refused_so old did.mid (refusal_at old.session (Steps.Claim g)) (λ _. responses.Claimed) did.does.result reply
      (by_guard (is_over old.session) true _ _ down) did.does.does.rules.refused did.does.told did.does.rest)
  stays_down (requests.Settle g) old new reply down some did =
      whole (requests.Settle g) old new reply did
      (refused_so old did.mid (refusal_at old.session (Steps.Settle g)) (λ _. responses.Decided) did.does.result reply
      (by_guard (is_over old.session) true _ _ down) did.does.does.rules.refused did.does.told did.does.rest)
  stays_down (requests.Abandon g) old new reply down some did =
      whole (requests.Abandon g) old new reply did
      (refused_so old did.mid (refusal_at old.session (Steps.Abandon g)) (λ _. responses.Decided) did.does.result reply
      (by_guard (is_over old.session) true _ _ down) did.does.does.rules.refused did.does.told did.does.rest)
  stays_down (requests.Done []) old new reply down some did = absurd some
  stays_down (requests.Done (g ∷ gs)) old new reply down some did =
      whole (requests.Done (g ∷ gs)) old new reply did
      (refused_so old did.mid (done_all_refusal old.session (g ∷ gs)) (λ _. responses.Noted) did.does.result reply
      (by_turn (has_room_for old.session (length (g ∷ gs))) _ _ _ down) did.does.does.rules.refused did.does.told did.does.rest)
  stays_down (requests.Resolve r) old new reply down some did =
      whole (requests.Resolve r) old new reply did
      (refused_so old did.mid (resolve_refusal old.session r) responses.Resolved did.does.result reply
      (by_page (awaits_page (line_at old.session.lines 0 r)) (is_over old.session) _ _ _ down) did.does.does.rules.refused did.does.told did.does.rest)
  stays_down (requests.ResolveOpen r) old new reply down some did =
      whole (requests.ResolveOpen r) old new reply did
      (refused_so old did.mid (resolve_open_refusal old.session r) responses.Resolved did.does.result reply
      (by_page (awaits_page (line_at old.session.lines 0 r)) (is_over old.session) _ _ _ down) did.does.does.rules.refused did.does.told did.does.rest)
  stays_down (requests.Waiting t r) old new reply down some did = did.releases ∙ did.does.1
  stays_down (requests.Owed r) old new reply down some did = did.releases ∙ did.does.1
  stays_down (requests.CrashLine t r) old new reply down some did =
      whole (requests.CrashLine t r) old new reply did
      (refused_so old did.mid (line_refusal old.session t r) (λ _. responses.Crashed) did.does.result reply (line_refused old.session down t r)
      did.does.does.rules.refused did.does.told did.does.rest)
  stays_down (requests.CrashRm r) old new reply down some did =
      did.releases ∙ lost_none r 0 old.session.lines.threads old reply did.mid down did.does
  stays_down requests.Status old new reply down some did = did.releases ∙ did.does.1
  stays_down requests.Quit old new reply down some did = did.releases ∙ did.does.1

  by_asked : (asked : Option Request) (old new : Server L) (reply : Response) → (book_in old.session.manager).up ≡ false → IsOfSomeIn asked
      → RepliesBy moment asked old reply new → new ≡ old
  by_asked None old new reply down some h = h.1
  by_asked (Some request) old new reply down some h = stays_down request old new reply down some h

  pub all_stay_down : (lines : List (List ℕ)) (replies : List Response) (old new : Server L) → (book_in old.session.manager).up ≡ false
      → AllAreOfSome lines → HaveReplies moment lines replies old new → new ≡ old
  all_stay_down [] [] old new down some h = h
  all_stay_down (line ∷ lines) [] old new down some h = absurd h
  all_stay_down [] (reply ∷ replies) old new down some h = absurd h
  all_stay_down (line ∷ lines) (reply ∷ replies) old new down some h =
      let one : h.0 ≡ old = by_asked (asked_in line) old h.0 reply down some.0 h.1 in
      all_stay_down lines replies h.0 new (subst (λ (c : Server L). (book_in c.session.manager).up ≡ false) (sym one) down) some.1 h.2 ∙ one

-- ** a manager whose log failed is down

abbrev faulted : Response
faulted = responses.Refused LogFault

abbrev IsDown : {L : Type 0} → Server L → Type 0
IsDown mid = (book_in mid.session.manager).up ≡ false

module _ {L : Type 0} (old mid : Server L) where
  -- one that asks it leaves the manager down
  by_log : (why : Option Refusal) (taken : Response) (asked : Doubt) (f : Fault) (r : Result (Unit {0}) Refusal) → (why ≡ Some LogFault → ⊥)
      → (faulted ≡ taken → ⊥) → ((n : Refusal) → why ≡ Some n → (r ≡ Err n) × (mid.session ≡ old.session))
      → (why ≡ None → IfErr r (FailsBy asked f (book_in old.session.manager) (book_in mid.session.manager)))
      → faulted ≡ response_of (λ _. taken) r → IsDown mid
  by_log why taken asked f (Ok x) never other refused fails told = absurd (other told)
  by_log why taken asked f (Err n) never other refused fails told = by why refl
    where
      is : n ≡ LogFault
      is = fault_is_told n told

      told_first : (m : Refusal) → (let x : Result (Unit {0}) Refusal = Err n in x) ≡ Err m → m ≡ LogFault
      told_first m e = cc

      failed : FailsBy asked f (book_in old.session.manager) (book_in mid.session.manager) n → IsDown mid
      failed (inl memory) = absurd (let no : Memory ≡ LogFault = sym memory.0 ∙ is in cc)
      failed (inr fell) = ap (λ (k : Book). k.up) fell.1

      by : (w : Option Refusal) → why ≡ w → IsDown mid
      by None none = failed (fails none)
      by (Some m) some = absurd (never (some ∙ ap (λ p. let x : Option Refusal = Some p in x) (told_first m (refused m some).0)))

-- the manager behind a decision, a settlement or rows taken away that failed
module _ {L : Type 0} (moment : L → Moment) where
  at_end : (mid down : Server L) → down ≡ mid → IsDown mid → (book_in down.session.manager).up ≡ false
  at_end mid down same off = subst (λ (c : Server L). (book_in c.session.manager).up ≡ false) (sym same) off

  falls : (request : Request) (old down : Server L) → MayChangeRows request → Performs moment request old faulted down
      → (book_in down.session.manager).up ≡ false
  falls (requests.Decide gs outcome) old down asks did =
      at_end did.mid down did.releases (by_log old did.mid (decide_all_refusal old.session outcome gs) responses.Decided
      (Adds (rows_for (book_in old.session.manager) (written_by outcome (book_in old.session.manager) gs)))
      (InDecide (written_by outcome (book_in old.session.manager) gs)) did.does.result
      (if_room (has_room_for old.session (length gs)) _
      (no_fault_in_turn (λ g. Steps.Decide g outcome) (λ g. Decided g outcome) gs (book_in old.session.manager)))
      decided_is_no_refusal did.does.does.rules.refused did.does.does.asks.fails did.does.told)
  falls (requests.Settle g) old down asks did =
      at_end did.mid down did.releases (by_log old did.mid (refusal_at old.session (Steps.Settle g)) responses.Decided (Adds (rows_for (book_in old.session.manager) (g ∷ [])))
      (InDecide (g ∷ [])) did.does.result (never_the_log old.session (Steps.Settle g)) decided_is_no_refusal did.does.does.rules.refused
      did.does.does.asks.fails did.does.told)
  falls (requests.Done gs) old down asks did =
      at_end did.mid down did.releases (by_log old did.mid (done_all_refusal old.session gs) responses.Noted (Drops gs) (InDone gs) did.does.result
      (if_room (has_room_for old.session (length gs)) _ (no_fault_in_turn (λ g. Steps.Done g) (λ g. Done g) gs (book_in old.session.manager)))
      noted_is_no_refusal did.does.does.rules.refused did.does.does.asks.fails did.does.told)
  falls (requests.Begin t) old down asks did = absurd asks
  falls (requests.Issue t r call) old down asks did = absurd asks
  falls (requests.Answer t r name answer) old down asks did = absurd asks
  falls (requests.Claim g) old down asks did = absurd asks
  falls (requests.Abandon g) old down asks did = absurd asks
  falls (requests.Resolve r) old down asks did = absurd asks
  falls (requests.ResolveOpen r) old down asks did = absurd asks
  falls (requests.Waiting t r) old down asks did = absurd asks
  falls (requests.Owed r) old down asks did = absurd asks
  falls (requests.CrashLine t r) old down asks did = absurd asks
  falls (requests.CrashRm r) old down asks did = absurd asks
  falls requests.Status old down asks did = absurd asks
  falls requests.Quit old down asks did = absurd asks

  is_down : (old down : Server L) → LogFails moment old down → (book_in down.session.manager).up ≡ false
  is_down old down (InRequest request asks did) = falls request old down asks did
  is_down old down (InAnswer t r name code call waits did) =
      ap (λ (k : Book). k.up) (failed_in_answer moment old down t r name code call waits did).book

  pub nothing_behind : NothingBehindFaults moment
  nothing_behind old down new lines replies fails some have =
      let off = is_down old down fails in (off, all_stay_down moment lines replies down new off some have)
