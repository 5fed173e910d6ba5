-- The rows of the commits that are told as decided.
use Rattle.std.proofs.Common.{◌≡◌, ◌∙◌, ◌⊎◌, inl, inr, Bool, true, false, ◌||◌, List, [], ◌∷◌, length, Option, Some, None, IsSome, refl, sym, subst}
use Rattle.std.specs.Prelude.{OnOk, Result, Ok, Err}
use Rattle.std.proofs.lemmas.Bool.{true≢false}
use Rattle.xa_base.proofs.BranchKeys.{gtrid_eq-true}
use Rattle.xa_base.specs.Branch.{gtrid_eq}
use Rattle.xa_base.specs.declared.branch.Gtrid.{Gtrid}
use Rattle.xa_base.specs.declared.refusal.Refusal.{Refusal}
use Rattle.xa_base.specs.declared.refusal.Refusal.TheVariants.{Limit}
use Rattle.xa_base.specs.declared.step.Outcome.TheVariants as Outcomes
use Rattle.xa_server.proofs.LogLemmas.{replies_keep}
use Rattle.xa_server.proofs.RowLemmas.{commits, decide_up, row_written, settled_up}
use Rattle.xa_session.specs.Steps.{Decides, HappenInTurn}
use Rattle.xa_server.specs.Performing.{Performs}
use Rattle.xa_server.specs.Releasing.{ReleasesAll}
use Rattle.xa_server.specs.Replies.{response_of}
use Rattle.xa_server.specs.Rows.{HasRow, LogsRows, is_gtrid_among}
use Rattle.xa_server.specs.Serving.{RepliesBy}
use Rattle.xa_server.specs.Votes.{CommitsAreLogged, IsLogged, VotedCommitsAreLogged}
use Rattle.xa_server.specs.declared.server.Server.{Server}
use Rattle.xa_log.specs.Content.{Content}
use Rattle.xa_log.specs.Contract.{Moment}
use Rattle.xa_model.specs.Facts.Distinct.{EachOnce}
use Rattle.xa_requests.specs.declared.request.Request.TheVariants as requests
use Rattle.xa_requests.specs.declared.response.Response.{Response}
use Rattle.xa_requests.specs.declared.response.Response.TheVariants as responses
use Rattle.xa_session.specs.Logging.{HoldsItsBook, KeepsLog}
use Rattle.xa_session.specs.Session.{has_room_for}
use Rattle.xa_session.specs.declared.session.Session.{Session}
use Rattle.xa_session.proofs.Refusals.{if_there}
use Rattle.xa_tm.proofs.Several.Decisions.{all_open}
use Rattle.xa_tm.proofs.Log.Ties.{tied_same}
use Rattle.xa_tm.specs.Book.{Book, Waiting, after_all, voted_yes}
use Rattle.xa_tm.specs.BookAndLog.{IsTied}
use Rattle.xa_tm.specs.Calls.{IsOpenIn, book_in, log_in}
use Rattle.xa_tm.specs.Release.{book_without}
use Rattle.xa_server.proofs.VoteLemmas.{Recalls, votes_recall}

-- each that is decided was open
open_among : (k : Book) (gs : List Gtrid) (g : Gtrid) → EachOnce (IsOpenIn k) gs → is_gtrid_among gs g ≡ true → IsOpenIn k g
open_among k [] g all among = absurd (true≢false (sym among))
open_among k (h ∷ hs) g all among = by (gtrid_eq h g) refl among (λ e. open_among k hs g all.2 e)
  where
    by : (t : Bool) → gtrid_eq h g ≡ t → (t || is_gtrid_among hs g) ≡ true → (is_gtrid_among hs g ≡ true → IsOpenIn k g) → IsOpenIn k g
    by true is e later = subst (IsOpenIn k) (gtrid_eq-true h g is) all.0
    by false is e later = later e

is_logged : (log : Option Content) (g : Gtrid) (w : Waiting) → HasRow log g w → IsLogged log g
is_logged None g w has = absurd has
is_logged (Some c) g w has = subst IsSome (sym has) refl

-- a log that holds what a book says behind releases holds what it said before
tied_back : (near : Bool) (k : Book) (g : Gtrid) (log : Option Content) → IsTied near (book_without g k) log → IsTied near k log
tied_back near k g log tied = tied_same near (book_without g k) k log
    (record { up = refl; incarnation = refl; failed_restarts = refl; row = λ q. refl; rows = refl; recorded = λ b. refl; records = refl; doubt = refl }) tied

all_tied_back : {L : Type 0} (near : Bool) (hs : List Gtrid) (mid new : Server L) (log : Option Content) → ReleasesAll hs mid new
    → IsTied near (book_in new.session.manager) log → IsTied near (book_in mid.session.manager) log
all_tied_back near [] mid new log same tied = subst (λ c. IsTied near (book_in c.session.manager) log) same tied
all_tied_back near (h ∷ hs) mid new log (next, inl (forgets, rest), more) tied =
    tied_back near (book_in mid.session.manager) h log
    (subst (λ k. IsTied near k log) forgets.book (all_tied_back near hs next new log more tied))
all_tied_back near (h ∷ hs) mid new log (next, inr (open_still, same), more) tied =
    subst (λ c. IsTied near (book_in c.session.manager) log) same (all_tied_back near hs next new log more tied)

module _ {L : Type 0} (moment : L → Moment) (near : Bool) (gs : List Gtrid) (mid new : Server L) (g : Gtrid) where
  decided_logged : Performs moment (requests.Decide gs Outcomes.Commit) mid responses.Decided new → is_gtrid_among gs g ≡ true
      → Recalls (book_in mid.session.manager) g → (moment (log_in mid.session.manager)).is_in_order → (moment (log_in new.session.manager)).is_honest
      → HoldsItsBook moment near mid.session.manager → IsLogged (moment (log_in new.session.manager)).content g
  decided_logged did among recalls order honest holds = by did.does.result did.does.told did.does.does recalls
    where
      k : Book
      k = book_in mid.session.manager

      by : (result : Result (Unit {0}) Refusal) → responses.Decided ≡ response_of (λ _. responses.Decided) result
          → Decides gs Outcomes.Commit mid.session did.mid.session result → Recalls (book_in mid.session.manager) g
          → IsLogged (moment (log_in new.session.manager)).content g
      by (Err n) told does was = absurd (let never : (let r : Response = responses.Decided in r) ≡ responses.Refused n = told in cc)
      by (Ok x) told does was = recalled was
        where
          opened : IsOpenIn (book_in mid.session.manager) g
          opened = open_among (book_in mid.session.manager) gs g
              (all_open Outcomes.Commit (book_in mid.session.manager) gs (if_there (has_room_for mid.session (length gs)) _ Limit does.rules.allowed)) among

          recalled : Recalls (book_in mid.session.manager) g → IsLogged (moment (log_in new.session.manager)).content g
          recalled (inr gone) = absurd (true≢false (sym opened.begun ∙ gone))
          recalled (inl said) =
              is_logged (moment (log_in new.session.manager)).content g (voted_yes (book_in mid.session.manager) g)
              (row_written (book_in mid.session.manager) (book_in did.mid.session.manager) near (moment (log_in new.session.manager)).content gs g
              opened.up among said does.decided.book
              (all_tied_back near _ did.mid new (moment (log_in new.session.manager)).content did.releases (did.keeps.holds near order honest holds).tied))

pub voted_commits_are_logged : {L : Type 0} (moment : L → Moment) → VotedCommitsAreLogged moment
voted_commits_are_logged moment near votes heard line gs old mid new g are have asked replied among order honest holds =
    let first = replies_keep moment votes heard old mid have in
    let did = subst (λ q. RepliesBy moment q mid responses.Decided new) asked replied in
    decided_logged moment near gs mid new g did among (votes_recall moment votes heard gs g old mid are have (inl among)) (first.order order) honest
    (first.holds near order (did.keeps.honest honest) holds)

none_among : (g : Gtrid) → is_gtrid_among [] g ≡ true → ⊥
none_among g e = true≢false (sym e)

decided_is : (n : Refusal) → (let r : Response = responses.Decided in r) ≡ responses.Refused n → ⊥
decided_is n e = cc

module _ {L : Type 0} (moment : L → Moment) where
  -- the session did this by one call, and what is over was then forgotten
  rows_of : (gs : List Gtrid) (old mid new : Server L) (hs : List Gtrid) (reply : Response) (r : Result (Unit {0}) Refusal)
      → reply ≡ response_of (λ _. responses.Decided) r → OnOk r ((gs ≡ []) ⊎ ((book_in old.session.manager).up ≡ true))
      → OnOk r (book_in mid.session.manager ≡ after_all (book_in old.session.manager) (commits gs)) → ReleasesAll hs mid new
      → KeepsLog moment old.session.manager new.session.manager → LogsRows moment gs old.session reply new.session
  rows_of gs old mid new hs reply (Err n) told up book releases keeps near g among is order honest holds said = absurd (decided_is n (sym is ∙ told))
  rows_of gs old mid new hs reply (Ok x) told up book releases keeps near g among is order honest holds said = by up
    where
      by : (gs ≡ []) ⊎ ((book_in old.session.manager).up ≡ true)
          → HasRow (moment (log_in new.session.manager)).content g (voted_yes (book_in old.session.manager) g)
      by (inl none) = absurd (none_among g (subst (λ xs. is_gtrid_among xs g ≡ true) none among))
      by (inr is_up) =
          row_written (book_in old.session.manager) (book_in mid.session.manager) near (moment (log_in new.session.manager)).content gs g is_up among said book
          (all_tied_back near hs mid new (moment (log_in new.session.manager)).content releases (keeps.holds near order honest holds).tied)

  decided_in_turn : (gs : List Gtrid) (old new : Session L) (r : Result (Unit {0}) Refusal) → OnOk r (HappenInTurn (commits gs) old new)
      → OnOk r (book_in new.manager ≡ after_all (book_in old.manager) (commits gs))
  decided_in_turn gs old new (Ok x) does = does.book
  decided_in_turn gs old new (Err n) does = tt

  pub commits_are_logged : CommitsAreLogged moment
  commits_are_logged (requests.Decide gs Outcomes.Commit) old new reply did =
      rows_of gs old did.mid new _ reply did.does.result did.does.told (decide_up old.session gs Outcomes.Commit did.does.result did.does.does.rules.allowed)
      (decided_in_turn gs old.session did.mid.session did.does.result did.does.does.decided) did.releases did.keeps
  commits_are_logged (requests.Decide gs Outcomes.Rollback) old new reply did = λ near g among. absurd (none_among g among)
  commits_are_logged (requests.Settle h) old new reply did =
      rows_of (h ∷ []) old did.mid new _ reply did.does.result did.does.told (settled_up old.session h did.does.result did.does.does.rules.allowed)
      (decided_in_turn (h ∷ []) old.session did.mid.session did.does.result did.does.does.decided) did.releases did.keeps
  commits_are_logged (requests.Begin t) old new reply did = λ near g among. absurd (none_among g among)
  commits_are_logged (requests.Issue t r call) old new reply did = λ near g among. absurd (none_among g among)
  commits_are_logged (requests.Answer t r name answer) old new reply did = λ near g among. absurd (none_among g among)
  commits_are_logged (requests.Claim h) old new reply did = λ near g among. absurd (none_among g among)
  commits_are_logged (requests.Abandon h) old new reply did = λ near g among. absurd (none_among g among)
  commits_are_logged (requests.Done gs) old new reply did = λ near g among. absurd (none_among g among)
  commits_are_logged (requests.Resolve r) old new reply did = λ near g among. absurd (none_among g among)
  commits_are_logged (requests.ResolveOpen r) old new reply did = λ near g among. absurd (none_among g among)
  commits_are_logged (requests.Waiting t r) old new reply did = λ near g among. absurd (none_among g among)
  commits_are_logged (requests.Owed r) old new reply did = λ near g among. absurd (none_among g among)
  commits_are_logged (requests.CrashLine t r) old new reply did = λ near g among. absurd (none_among g among)
  commits_are_logged (requests.CrashRm r) old new reply did = λ near g among. absurd (none_among g among)
  commits_are_logged requests.Status old new reply did = λ near g among. absurd (none_among g among)
  commits_are_logged requests.Quit old new reply did = λ near g among. absurd (none_among g among)
