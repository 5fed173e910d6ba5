-- What managers of different names tell their drivers.
use Rattle.std.proofs.Common.{◌≡◌, ◌∙◌, ◌⊎◌, inl, inr, ℕ, ◌+◌, zero, suc, Bool, true, false, List, Option, Some, None, refl, sym, ap, subst, All, get_or, nat_lt}
use Rattle.std.specs.Option.{option_map}
use Rattle.std.specs.Prelude.{MatchBool, Result, Ok, Err, if◌then◌else◌, slice_get, IfSome}
use Rattle.std.proofs.lemmas.Bool.{and_parts, ltb-true}
use Rattle.std.proofs.lemmas.List.Elements.{All-map}
use Rattle.xa_base.specs.Answer.{answer_number}
use Rattle.xa_base.specs.Branch.{branch_of_xid, xid_of_branch}
use Rattle.xa_base.specs.Call.{xid_in}
use Rattle.xa_base.specs.Xid.{Xid}
use Rattle.xa_base.specs.declared.answer.Answer as Given
use Rattle.xa_base.specs.declared.branch.Branch.{Branch}
use Rattle.xa_base.specs.declared.call.Call as Asking
use Rattle.xa_base.specs.declared.call.Call.TheVariants as Calls
use Rattle.xa_base.specs.declared.refusal.Refusal.{Refusal}
use Rattle.xa_base.specs.declared.refusal.Refusal.TheVariants.{Limit, Memory}
use Rattle.xa_server.proofs.KnownCalls.{known_issue}
use Rattle.xa_server.specs.Calls.{answer_reply, waits_for_other}
use Rattle.xa_session.specs.Steps.{Hears, Issues}
use Rattle.xa_server.specs.Crashes.{LosesFrom}
use Rattle.xa_server.specs.Looks.{first_reply, waiting_reply}
use Rattle.xa_server.specs.Managers.{IsOnOwn, ManagersAreApart, RepliesTellOwn, TellsOwn, told_xid}
use Rattle.xa_server.specs.Performing.{Does}
use Rattle.xa_server.specs.Recoveries.{TellsOwed}
use Rattle.xa_server.specs.Replies.{response_of}
use Rattle.xa_server.specs.Standing.{LacksMemory, OnlyTells, StandsFor}
use Rattle.xa_server.specs.declared.server.Server.{Server}
use Rattle.xa_line.proofs.TrafficLaws.{next_call_waits}
use Rattle.xa_line.specs.Grid.{HasLine, grid_has_line, line_at}
use Rattle.xa_line.specs.Histories.{known}
use Rattle.xa_log.specs.Contract.{Moment}
use Rattle.xa_log.specs.KeySet.{items}
use Rattle.xa_model.specs.Facts.{next_call}
use Rattle.xa_model.specs.Replies.History.{name_by, name_of}
use Rattle.xa_model.specs.Replies.Steps.{accepted}
use Rattle.xa_model.specs.Trace.{Call, Name, Name.Foreign, line}
use Rattle.xa_names.proofs.NameLemmas.{bare_gives}
use Rattle.xa_names.specs.Laws.{NamesAreApart, OwnHaveName}
use Rattle.xa_names.specs.Names.{IsUnder, renamed}
use Rattle.xa_requests.specs.declared.request.CallName.{CallName}
use Rattle.xa_requests.specs.declared.request.Request.{Request}
use Rattle.xa_requests.specs.declared.request.Request.TheVariants as requests
use Rattle.xa_requests.specs.declared.response.RequestFault.TheVariants as faults
use Rattle.xa_requests.specs.declared.response.Response.{Response}
use Rattle.xa_requests.specs.declared.response.Response.TheVariants as responses
use Rattle.xa_session.specs.Tracking.{KeepsTrack, SessionsAreExplained}
use Rattle.xa_session.specs.declared.session.Session.{Session}
use Rattle.xa_session.specs.declared.session.answers.Unfit.{Unfit}
use Rattle.xa_session.specs.declared.session.answers.Unfit.TheVariants as Unfits
use Rattle.xa_monitor.specs.Explained.{HasOnlyOlderRows}
use Rattle.xa_monitor.specs.Seen.{Seen}
use Rattle.xa_tm.specs.Book.{Book}
use Rattle.xa_tm.specs.Calls.{book_in}
use Rattle.xa_model.specs.Trace.{Origin}

-- ** a call that a history knows is on a branch of this manager

module _ (law : OwnHaveName) (name : List ℕ) where
  under : (x : Xid) (P : Name → Type 0) → P (name_of x) → ((y : Xid) → P (Foreign y) → ⊥) → IsUnder name (renamed name x)
  under x P holds none = by (branch_of_xid x) refl holds
    where
      by : (o : Option Branch) → branch_of_xid x ≡ o → P (name_by x o) → IsUnder name (renamed name x)
      by (Some b) is p = law name x b is
      by None is p = absurd (none x p)

  own_call : (call : Asking.Call Xid) (c : Call) → known call ≡ Some c → IsOnOwn name call
  own_call Calls.OpenRm c e = tt
  own_call Calls.CloseRm c e = tt
  own_call (Calls.Recover n x y) c e = tt
  own_call (Calls.Start x j) c e = under x (λ n. accepted (Calls.Start n j) ≡ Some c) e (λ y h. cc)
  own_call (Calls.End x j) c e = under x (λ n. accepted (Calls.End n j) ≡ Some c) e (λ y h. cc)
  own_call (Calls.Prepare x) c e = under x (λ n. accepted (Calls.Prepare n) ≡ Some c) e (λ y h. cc)
  own_call (Calls.Commit x o) c e = under x (λ n. accepted (Calls.Commit n o) ≡ Some c) e (λ y h. cc)
  own_call (Calls.Rollback x) c e = under x (λ n. accepted (Calls.Rollback n) ≡ Some c) e (λ y h. cc)
  own_call (Calls.Forget x) c e = under x (λ n. accepted (Calls.Forget n) ≡ Some c) e (λ y h. cc)

-- ** a call that waits is known

known_then : (call : Asking.Call Xid) (n : Option Call) → Some (known call) ≡ option_map Some n → (c : Call) × (known call ≡ Some c)
known_then call None e = absurd (cc)
known_then call (Some c) e = (c, cc)

module _ {L : Type 0} (explained : SessionsAreExplained L) (o : Origin) (seen : Seen) (s : Session L) (is_old : HasOnlyOlderRows o)
    (keeps : KeepsTrack o seen s)
  where
    known_waits : (t r : ℕ) (call : Asking.Call Xid) → grid_has_line s.lines t r ≡ true → slice_get (line_at s.lines t r).calls.waiting 0 ≡ Some call
        → (c : Call) × (known call ≡ Some c)
    known_waits t r call there first =
        let told = explained o seen s is_old keeps in
        let stands = keeps.1 told.history told.is_history told.runs in
        let both = and_parts (nat_lt t s.lines.threads) (nat_lt r s.lines.rms) there in
        let has : HasLine s.lines t r = (ltb-true t s.lines.threads both.0, ltb-true r s.lines.rms both.1) in
        known_then call (next_call told.history (line t r))
        (sym (ap (option_map known) first) ∙ next_call_waits told.history (line t r) (line_at s.lines t r) (stands.lines t r has))

-- ** replies that tell no call

abbrev is_plain : Response → Bool
is_plain (responses.Issued call) = false
is_plain (responses.Waits call) = false
is_plain (responses.Owed xids) = false
is_plain reply = true

plain : (name : List ℕ) (reply : Response) → is_plain reply ≡ true → TellsOwn name reply
plain name (responses.Restarted i d h) e = tt
plain name (responses.Begun g) e = tt
plain name (responses.Issued call) e = absurd (cc)
plain name (responses.Heard kind n) e = tt
plain name (responses.Waits call) e = absurd (cc)
plain name responses.Nothing e = tt
plain name responses.Decided e = tt
plain name responses.Claimed e = tt
plain name responses.Noted e = tt
plain name (responses.Resolved n) e = tt
plain name (responses.Owed xids) e = absurd (cc)
plain name responses.Crashed e = tt
plain name (responses.Status up n) e = tt
plain name responses.Bye e = tt
plain name (responses.Refused n) e = tt
plain name (responses.Fault f) e = tt

told_plainly : (name : List ℕ) (reply told : Response) → reply ≡ told → is_plain told ≡ true → TellsOwn name reply
told_plainly name reply told same is = plain name reply (ap is_plain same ∙ is)

result_plain : {A : Type 0} (taken : A → Response) → ((x : A) → is_plain (taken x) ≡ true) → (result : Result A Refusal)
    → is_plain (response_of taken result) ≡ true
result_plain taken all (Ok x) = all x
result_plain taken all (Err n) = refl

answer_plain : (reply : Response) → is_plain reply ≡ true → (result : Result (Unit {0}) Unfit) → is_plain (answer_reply reply result) ≡ true
answer_plain reply is (Ok x) = is
answer_plain reply is (Err (Unfits.Refused n)) = refl
answer_plain reply is (Err Unfits.NothingWaits) = refl
answer_plain reply is (Err Unfits.NoSuchAnswer) = refl
answer_plain reply is (Err (Unfits.NoSuchState b)) = refl

lost_plain : {L : Type 0} (name : List ℕ) (rm thread left : ℕ) (old new : Server L) (reply : Response) → LosesFrom rm thread left old reply new
    → TellsOwn name reply
lost_plain name rm thread zero old new reply does = told_plainly name reply responses.Crashed does.0 refl
lost_plain name rm thread (suc left) old new reply (next, Ok x, loses, rest) = lost_plain name rm (thread + 1) left next new reply rest
lost_plain name rm thread (suc left) old new reply (next, Err n, loses, rest) = told_plainly name reply (responses.Refused n) rest.0 refl

-- ** one request

-- a branch that is owed
owed_under : (name : List ℕ) (b : Branch) → IsUnder name (renamed name (xid_of_branch b))
owed_under name b = record { bare = xid_of_branch b; shape = refl; named = bare_gives name (xid_of_branch b) refl }

owed_own : (name : List ℕ) (book : Book) (rm : ℕ) (reply : Response) → TellsOwed book rm reply → TellsOwn name reply
owed_own name book rm (responses.Owed xids) owed =
    subst (All (λ x. IsUnder name (renamed name x))) (sym owed.listed)
    (All-map (λ x. IsUnder name (renamed name x)) xid_of_branch (items owed.set) (λ i d less. owed_under name (get_or (items owed.set) i d)))
owed_own name book rm (responses.Restarted i d h) told = absurd told
owed_own name book rm (responses.Begun g) told = absurd told
owed_own name book rm (responses.Issued call) told = absurd told
owed_own name book rm (responses.Heard kind k) told = absurd told
owed_own name book rm (responses.Waits call) told = absurd told
owed_own name book rm responses.Nothing told = absurd told
owed_own name book rm responses.Decided told = absurd told
owed_own name book rm responses.Claimed told = absurd told
owed_own name book rm responses.Noted told = absurd told
owed_own name book rm (responses.Resolved k) told = absurd told
owed_own name book rm responses.Crashed told = absurd told
owed_own name book rm (responses.Status up k) told = absurd told
owed_own name book rm responses.Bye told = absurd told
owed_own name book rm (responses.Refused k) told = absurd told
owed_own name book rm (responses.Fault k) told = absurd told

module _ {L : Type 0} (law : OwnHaveName) (explained : SessionsAreExplained L) (name : List ℕ) (o : Origin) (seen : Seen) (is_old : HasOnlyOlderRows o)
    (old : Server L) (keeps : KeepsTrack o seen old.session) (reply : Response) where
  issued_own : (t r : ℕ) (call : Asking.Call Xid) (result : Result (Unit {0}) Refusal) (new : Session L) → Issues t r call old.session new result
      → reply ≡ response_of (λ _. responses.Issued call) result → TellsOwn name reply
  issued_own t r call (Ok x) new does told =
      let known_so = known_issue old.session t r call does.rules.allowed in
      subst (TellsOwn name) (sym told) (own_call law name call known_so.0 known_so.1)
  issued_own t r call (Err n) new does told = told_plainly name reply (responses.Refused n) told refl

  waiting_own : (t r : ℕ) → reply ≡ waiting_reply t r old → TellsOwn name reply
  waiting_own t r told = by_line (grid_has_line old.session.lines t r) refl told
    where
      by_first : (w : Option (Asking.Call Xid)) → grid_has_line old.session.lines t r ≡ true → slice_get (line_at old.session.lines t r).calls.waiting 0 ≡ w
          → reply ≡ first_reply w → TellsOwn name reply
      by_first None there is said = told_plainly name reply responses.Nothing said refl
      by_first (Some call) there is said =
          let known_so = known_waits explained o seen old.session is_old keeps t r call there is in
          subst (TellsOwn name) (sym said) (own_call law name call known_so.0 known_so.1)

      by_line : (b : Bool) → grid_has_line old.session.lines t r ≡ b
          → reply ≡ (if b then first_reply (if b then slice_get (line_at old.session.lines t r).calls.waiting 0 else None) else responses.Refused Limit)
          → TellsOwn name reply
      by_line true there said = by_first (slice_get (line_at old.session.lines t r).calls.waiting 0) there refl said
      by_line false there said = told_plainly name reply (responses.Refused Limit) said refl

  answered_own : (t r : ℕ) (call : CallName) (answer : Given.Answer Xid) (new : Server L) (b : Bool)
      → MatchBool b (OnlyTells (responses.Fault faults.OtherCall) old reply new)
      (StandsFor (Hears t r answer) (answer_reply (responses.Heard call.kind (answer_number answer))) old reply new ⊎ LacksMemory old reply new)
      → TellsOwn name reply
  answered_own t r call answer new true does = told_plainly name reply _ does.0 refl
  answered_own t r call answer new false (inl does) =
      told_plainly name reply _ does.told (answer_plain (responses.Heard call.kind (answer_number answer)) refl does.result)
  answered_own t r call answer new false (inr does) = told_plainly name reply _ does.0 refl

  owed_told : (r : ℕ) (b : Bool)
      → MatchBool b (TellsOwed (book_in old.session.manager) r reply ⊎ (reply ≡ responses.Refused Memory)) (reply ≡ responses.Refused Limit)
      → TellsOwn name reply
  owed_told r true (inl told) = owed_own name (book_in old.session.manager) r reply told
  owed_told r true (inr told) = told_plainly name reply _ told refl
  owed_told r false told = told_plainly name reply _ told refl

  pub tells_own : (request : Request) (mid : Server L) → Does request old reply mid → TellsOwn name reply
  tells_own (requests.Begin t) mid does = told_plainly name reply _ does.told (result_plain responses.Begun (λ g. refl) does.result)
  tells_own (requests.Issue t r call) mid does = issued_own t r call does.result mid.session does.does does.told
  tells_own (requests.Answer t r call answer) mid does = answered_own t r call answer mid (waits_for_other old.session.lines t r call) does
  tells_own (requests.Decide gs outcome) mid does = told_plainly name reply _ does.told (result_plain (λ _. responses.Decided) (λ x. refl) does.result)
  tells_own (requests.Claim g) mid does = told_plainly name reply _ does.told (result_plain (λ _. responses.Claimed) (λ x. refl) does.result)
  tells_own (requests.Settle g) mid does = told_plainly name reply _ does.told (result_plain (λ _. responses.Decided) (λ x. refl) does.result)
  tells_own (requests.Abandon g) mid does = told_plainly name reply _ does.told (result_plain (λ _. responses.Decided) (λ x. refl) does.result)
  tells_own (requests.Done gs) mid does = told_plainly name reply _ does.told (result_plain (λ _. responses.Noted) (λ x. refl) does.result)
  tells_own (requests.Resolve r) mid does = told_plainly name reply _ does.told (result_plain responses.Resolved (λ n. refl) does.result)
  tells_own (requests.ResolveOpen r) mid does = told_plainly name reply _ does.told (result_plain responses.Resolved (λ n. refl) does.result)
  tells_own (requests.Waiting t r) mid does = waiting_own t r does.0
  tells_own (requests.Owed r) mid does = owed_told r (nat_lt r old.session.lines.rms) does.0
  tells_own (requests.CrashLine t r) mid does = told_plainly name reply _ does.told (result_plain (λ _. responses.Crashed) (λ x. refl) does.result)
  tells_own (requests.CrashRm r) mid does = lost_plain name r 0 old.session.lines.threads old mid reply does
  tells_own requests.Status mid does = told_plainly name reply _ does.0 refl
  tells_own requests.Quit mid does = told_plainly name reply _ does.0 refl

pub replies_own : {L : Type 0} (moment : L → Moment) → OwnHaveName → SessionsAreExplained L → RepliesTellOwn moment
replies_own moment law explained name reply old new replied =
    tells_own law explained name replied.start replied.seen replied.is_old old replied.keeps reply replied.request replied.performs.mid replied.performs.does

-- ** managers

under_of : (name : List ℕ) (o : Option Xid) (x : Xid) → IfSome o (λ y. IsUnder name (renamed name y)) → option_map (renamed name) o ≡ Some x → IsUnder name x
under_of name None x own is = absurd (cc)
under_of name (Some y) x own is = let same : renamed name y ≡ x = cc in subst (IsUnder name) same own

of_call : (name : List ℕ) (call : Asking.Call Xid) (x : Xid) → IsOnOwn name call → option_map (renamed name) (xid_in call) ≡ Some x → IsUnder name x
of_call name call x own is = under_of name (xid_in call) x own is

told_under : (name : List ℕ) (reply : Response) (x : Xid) → TellsOwn name reply → told_xid name reply ≡ Some x → IsUnder name x
told_under name (responses.Issued call) x own is = of_call name call x own is
told_under name (responses.Waits call) x own is = of_call name call x own is
told_under name (responses.Restarted i d h) x own is = absurd (cc)
told_under name (responses.Begun g) x own is = absurd (cc)
told_under name (responses.Heard kind k) x own is = absurd (cc)
told_under name responses.Nothing x own is = absurd (cc)
told_under name responses.Decided x own is = absurd (cc)
told_under name responses.Claimed x own is = absurd (cc)
told_under name responses.Noted x own is = absurd (cc)
told_under name (responses.Resolved k) x own is = absurd (cc)
told_under name (responses.Owed told) x own is = absurd (cc)
told_under name responses.Crashed x own is = absurd (cc)
told_under name (responses.Status up k) x own is = absurd (cc)
told_under name responses.Bye x own is = absurd (cc)
told_under name (responses.Refused k) x own is = absurd (cc)
told_under name (responses.Fault k) x own is = absurd (cc)

pub managers_apart : {L : Type 0} (moment : L → Moment) → OwnHaveName → NamesAreApart → SessionsAreExplained L → ManagersAreApart moment
managers_apart moment law apart explained m n p q a b c d differ first second x of_p of_q =
    differ (apart m n x (told_under m p x (replies_own moment law explained m p a b first) of_p)
    (told_under n q x (replies_own moment law explained n q c d second) of_q))
