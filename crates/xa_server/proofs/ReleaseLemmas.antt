-- Transactions that are forgotten.
use Rattle.std.proofs.Common.{◌≡◌, ◌∙◌, ◌<◌, inl, inr, ℕ, suc, Bool, true, false, List, [], ◌∷◌, length, drop, get_or, Option, Some, None, refl, sym, ap, subst}
use Rattle.std.proofs.Math.Seq.{drop-cons}
use Rattle.std.specs.Prelude.{if◌then◌else◌}
use Rattle.xa_base.specs.declared.branch.Gtrid.{Gtrid}
use Rattle.xa_server.specs.Performing.{is_not_done, is_one_step}
use Rattle.xa_server.specs.Releasing.{Releases, ReleasesAll, all_if_taken, ended_by, if_taken, says_taken, transaction_of}
use Rattle.xa_server.specs.declared.server.Server.{Server}
use Rattle.xa_requests.specs.declared.request.Request.{Request}
use Rattle.xa_requests.specs.declared.request.Request.TheVariants as requests
use Rattle.xa_requests.specs.declared.response.Response.{Response}
use Rattle.xa_requests.specs.declared.response.Response.TheVariants as responses
use Rattle.xa_session.specs.Steps.{Forgets}
use Rattle.xa_session.specs.declared.session.Session.{Session}
use Rattle.xa_tm.specs.Calls.{book_in, log_in}
use Rattle.xa_tm.specs.Release.{HoldsNothingOf, IsOver}

-- what a session's release ensures, put together
pub releases_by : {L : Type 0} (g : Gtrid) (old : Server L) (new : Session L) (is_over : Bool) → (is_over ≡ true → Forgets g old.session new)
    → (is_over ≡ false → IsOver (book_in old.session.manager) g → ⊥) → (is_over ≡ false → new ≡ old.session)
    → Releases g old (record old { session = new })
releases_by g old new true forgets owed same = inl (forgets refl, refl)
releases_by g old new false forgets owed same = inr (owed refl, ap (λ s. record old { session = s }) (same refl))

module _ {L : Type 0} where
  -- one more is released
  pub next_is_released : (gs : List Gtrid) (i : ℕ) (d : Gtrid) (old next new : Server L) → i < length gs → Releases (get_or gs i d) old next
      → ReleasesAll (drop (suc i) gs) next new → ReleasesAll (drop i gs) old new
  next_is_released gs i d old next new below releases more =
      subst (λ rest. ReleasesAll rest old new) (sym (drop-cons gs i d below)) (next, releases, more)

  -- only one is
  pub one_is_released : (g : Gtrid) (old new : Server L) (reply : Response) → says_taken reply ≡ true → Releases g old new
      → ReleasesAll (if_taken reply (Some g)) old new
  one_is_released g old new reply taken releases =
      subst (λ t. ReleasesAll (if t then g ∷ [] else []) old new) (sym taken) (new, releases, refl)

  -- all of these are, or none
  pub all_are_released : (gs : List Gtrid) (old new : Server L) (reply : Response) → says_taken reply ≡ true → ReleasesAll gs old new
      → ReleasesAll (all_if_taken reply gs) old new
  all_are_released gs old new reply taken releases = subst (λ t. ReleasesAll (if t then gs else []) old new) (sym taken) releases

  pub none_are_released : (gs : List Gtrid) (old : Server L) (reply : Response) → says_taken reply ≡ false → ReleasesAll (all_if_taken reply gs) old old
  none_are_released gs old reply taken = subst (λ t. ReleasesAll (if t then gs else []) old old) (sym taken) refl

  -- none is
  pub none_is_released : (g : Gtrid) (old : Server L) (reply : Response) → says_taken reply ≡ false → ReleasesAll (if_taken reply (Some g)) old old
  none_is_released g old reply taken = subst (λ t. ReleasesAll (if t then g ∷ [] else []) old old) (sym taken) refl

  -- nothing is held of one that is over
  pub is_forgotten : (g : Gtrid) (mid new : Server L) → ReleasesAll (g ∷ []) mid new → IsOver (book_in new.session.manager) g
      → HoldsNothingOf g new.session.manager
  is_forgotten g mid new (next, inl (forgets, rest), last) over =
      subst (λ c. HoldsNothingOf g c.session.manager) (sym last) forgets.nothing_held
  is_forgotten g mid new (next, inr (open_still, same), last) over =
      absurd (open_still (subst (λ c. IsOver (book_in c.session.manager) g) (last ∙ same) over))

  -- the log stays
  pub log_stays : (gs : List Gtrid) (mid new : Server L) → ReleasesAll gs mid new → log_in new.session.manager ≡ log_in mid.session.manager
  log_stays [] mid new same = ap (λ c. log_in c.session.manager) same
  log_stays (g ∷ gs) mid new (next, inl (forgets, rest), more) = log_stays gs next new more ∙ forgets.log
  log_stays (g ∷ gs) mid new (next, inr (open_still, same), more) = log_stays gs next new more ∙ ap (λ c. log_in c.session.manager) same

-- ** of a request that isn't done, none is

untaken : (reply : Response) → is_not_done reply ≡ true → says_taken reply ≡ false
untaken (responses.Restarted n d h) undone = refl
untaken (responses.Begun g) undone = refl
untaken (responses.Issued call) undone = refl
untaken (responses.Heard kind number) undone = absurd (cc)
untaken (responses.Waits call) undone = refl
untaken responses.Nothing undone = refl
untaken responses.Decided undone = absurd (cc)
untaken responses.Claimed undone = refl
untaken responses.Noted undone = absurd (cc)
untaken (responses.Resolved count) undone = refl
untaken (responses.Owed xids) undone = refl
untaken responses.Crashed undone = refl
untaken (responses.Status up count) undone = refl
untaken responses.Bye undone = refl
untaken (responses.Refused n) undone = refl
untaken (responses.Fault fault) undone = refl

none_taken : (reply : Response) (gs : List Gtrid) → is_not_done reply ≡ true → all_if_taken reply gs ≡ []
none_taken reply gs undone = ap (λ t. if t then gs else []) (untaken reply undone)

not_taken : (reply : Response) (g : Option Gtrid) → is_not_done reply ≡ true → if_taken reply g ≡ []
not_taken reply None undone = refl
not_taken reply (Some g) undone = none_taken reply (g ∷ []) undone

none_ended : (q : Request) (reply : Response) → is_one_step q ≡ true → is_not_done reply ≡ true → ended_by q reply ≡ []
none_ended (requests.Begin t) reply one undone = refl
none_ended (requests.Issue t r call) reply one undone = refl
none_ended (requests.Answer t r name answer) reply one undone = not_taken reply (transaction_of name) undone
none_ended (requests.Decide gs o) reply one undone = none_taken reply gs undone
none_ended (requests.Claim g) reply one undone = refl
none_ended (requests.Settle g) reply one undone = not_taken reply (Some g) undone
none_ended (requests.Abandon g) reply one undone = not_taken reply (Some g) undone
none_ended (requests.Done gs) reply one undone = none_taken reply gs undone
none_ended (requests.Resolve r) reply one undone = refl
none_ended (requests.ResolveOpen r) reply one undone = refl
none_ended (requests.Waiting t r) reply one undone = refl
none_ended (requests.Owed r) reply one undone = refl
none_ended (requests.CrashLine t r) reply one undone = refl
none_ended (requests.CrashRm r) reply one undone = absurd (cc)
none_ended requests.Status reply one undone = refl
none_ended requests.Quit reply one undone = refl

pub all_is_same : {L : Type 0} (q : Request) (reply : Response) (mid new : Server L) → is_one_step q ≡ true → is_not_done reply ≡ true
    → ReleasesAll (ended_by q reply) mid new → new ≡ mid
all_is_same q reply mid new one undone releases = subst (λ gs. ReleasesAll gs mid new) (none_ended q reply one undone) releases
