-- Steps of a session in histories.
use Rattle.std.proofs.Common.{◌≡◌, ◌+◌, ℕ, List, [], ◌∷◌, true, false, Option, None, refl, sym, ap, ◌∙◌, subst}
use Rattle.std.specs.Prelude.{Result, Ok, Err, OnOk, length}
use Rattle.xa_base.specs.declared.branch.Gtrid.{Gtrid}
use Rattle.xa_base.specs.declared.refusal.Refusal.{Refusal}
use Rattle.xa_base.specs.declared.reply.Reply.TheVariants as Replies
use Rattle.xa_base.specs.declared.step.Outcome.{Outcome}
use Rattle.xa_base.specs.declared.step.Outcome.TheVariants as Outcomes
use Rattle.xa_base.specs.declared.step.Step.TheVariants as Steps
use Rattle.xa_line.specs.Grid.{Grid, HasLine, IsWhole, line_at}
use Rattle.xa_line.specs.Histories.{LineStands}
use Rattle.xa_line.proofs.ChangedLines.{line_stays}
use Rattle.xa_model.specs.Facts as facts
use Rattle.xa_model.specs.Facts.Distinct.{ApartRows}
use Rattle.xa_model.specs.Protocol.{IsRun, Right}
use Rattle.xa_model.specs.Replies.Allowed.{Allowed.As_value, IsValue}
use Rattle.xa_model.specs.Replies.Rules.{must_refuse}
use Rattle.xa_model.specs.Replies.Steps.{Reply, Step, happened}
use Rattle.xa_model.specs.Trace.{Happening, Happening.Begun, Happening.Claimed, Happening.Decided, Happening.Done, Line, Trace, Trace.Then, line}
use Rattle.xa_model.proofs.Replies.Replies.{allowed_right}
use Rattle.xa_monitor.specs.Monitor.{states_of}
use Rattle.xa_tm.specs.Book.{after, after_all, Book, book_after, book_of, Doubt.NoDoubt, doubt_of_happening}
use Rattle.xa_tm.specs.Calls.{book_in}
use Rattle.xa_tm.specs.Laws.{IsLookedAt}
use Rattle.xa_tm.specs.Release.{MayFollow}
use Rattle.xa_tm.specs.Refusing.{managers_refusal, refusal_in, service_refusal_in}
use Rattle.xa_tm.specs.declared.manager.Manager.{Manager}
use Rattle.xa_session.proofs.Books.{book_goes, next_alike, next_of, refuses_no_more, up_alike}
use Rattle.xa_session.proofs.Refusals.{begun_if_abandoned, begun_if_settled, up_if_begins}
use Rattle.xa_session.specs.Following.{BookStands, FollowsAll, LeadsTo, StandsIn}
use Rattle.xa_session.specs.Session.{happenings_by, lines_by}
use Rattle.xa_session.specs.declared.session.Session.{Session}

-- ** lines

-- a happening of the manager alone is nothing to the lines and the resource managers
pub record IsOwn (tr : Trace) (e : Happening) : Type 0 where
  pub unbroken : (l : Line) → facts.breaks tr e l ≡ false
  pub calls : (l : Line) → facts.new_calls tr e l ≡ []
  pub taken : (l : Line) → facts.new_taken e l ≡ []
  pub heard : (l : Line) → facts.new_heard e l ≡ []
  pub rms_up : (r : ℕ) → facts.rm_up (Then tr e) r ≡ facts.rm_up tr r
  pub origin : facts.origin (Then tr e) ≡ facts.origin tr
  pub doubt : doubt_of_happening tr e ≡ NoDoubt

-- ** steps of the manager alone

-- a book and lines stand where a history leaves them
pub record StandsWith (tr : Trace) (k : Book) (grid : Grid) : Type 0 where
  pub run : IsRun tr
  pub apart : ApartRows (facts.origin tr).rows
  pub threads : grid.threads ≡ (facts.origin tr).threads
  pub rms : grid.rms ≡ (facts.origin tr).rms
  pub whole : IsWhole grid
  pub rms_up : (r : ℕ) → facts.rm_up tr r ≡ true
  pub book : BookStands tr k
  pub lines : (t r : ℕ) → HasLine grid t r → LineStands tr (line t r) (line_at grid t r)

pub stands_with : {L : Type 0} (tr : Trace) (s : Session L) → StandsIn tr s → StandsWith tr (book_in s.manager) s.lines
stands_with tr s stands = record {
  run = stands.run;
  apart = stands.apart;
  threads = stands.threads;
  rms = stands.rms;
  whole = stands.whole;
  rms_up = stands.rms_up;
  book = stands.book;
  lines = stands.lines;
}

pub stands_in : {L : Type 0} (tr : Trace) (s : Session L) (k : Book) (grid : Grid) → book_in s.manager ≡ k → s.lines ≡ grid → StandsWith tr k grid
    → StandsIn tr s
stands_in tr s k grid book lines stands =
    let there = subst (λ n. StandsWith tr n s.lines) (sym book) (subst (StandsWith tr k) (sym lines) stands) in record {
      run = there.run;
      apart = there.apart;
      threads = there.threads;
      rms = there.rms;
      whole = there.whole;
      rms_up = there.rms_up;
      book = there.book;
      lines = there.lines;
    }

-- if a happening of the manager alone, or of a resource manager by itself, leads
pub own_goes : (tr : Trace) (e : Happening) (k : Book) (grid : Grid) → StandsWith tr k grid → Right tr e → IsOwn tr e → MayFollow k e
    → StandsWith (Then tr e) (after k e) grid
own_goes tr e k grid stands right is may = record {
  run = (stands.run, right);
  apart = subst (λ o. ApartRows o.rows) (sym is.origin) stands.apart;
  threads = stands.threads ∙ ap (λ o. o.threads) (sym is.origin);
  rms = stands.rms ∙ ap (λ o. o.rms) (sym is.origin);
  whole = stands.whole;
  rms_up = λ r. is.rms_up r ∙ stands.rms_up r;
  book = book_goes tr k stands.book e _ stands.run right stands.apart may (ap (λ d. book_after k d e) (sym is.doubt));
  lines =
      λ t r has. line_stays tr e (line t r) (line_at grid t r) (is.unbroken (line t r)) (is.calls (line t r)) (is.taken (line t r)) (is.heard (line t r))
      (stands.lines t r has);
}

-- and so of a session
pub own_goes_in : {L : Type 0} (old new : Session L) (tr : Trace) (e : Happening) → StandsIn tr old → Right tr e → IsOwn tr e
    → MayFollow (book_in old.manager) e → book_in new.manager ≡ after (book_in old.manager) e → new.lines ≡ old.lines → StandsIn (Then tr e) new
own_goes_in old new tr e stands right is may book lines =
    stands_in (Then tr e) new (after (book_in old.manager) e) old.lines book lines
    (own_goes tr e (book_in old.manager) old.lines (stands_with tr old stands) right is may)

-- what a rule of the book doesn't refuse is right
pub own_right : (step : Step) (reply : Reply) → IsLookedAt step → ((tr : Trace) → managers_refusal tr step ≡ must_refuse tr step)
    → (tr : Trace) (k : Book) (grid : Grid) → StandsWith tr k grid → refusal_in k step ≡ None → IsValue tr step reply → Right tr (happened step reply)
own_right step reply looked same tr k grid stands none value =
    allowed_right tr step reply (As_value (sym (same tr) ∙ refuses_no_more tr k stands.book step stands.run looked none) value)

own_begun : (tr : Trace) (g : Gtrid) → IsOwn tr (Begun g)
own_begun tr g =
    record { unbroken = λ l. refl; calls = λ l. refl; taken = λ l. refl; heard = λ l. refl; rms_up = λ r. refl; origin = refl; doubt = refl }

own_claimed : (tr : Trace) (g : Gtrid) → IsOwn tr (Claimed g)
own_claimed tr g =
    record { unbroken = λ l. refl; calls = λ l. refl; taken = λ l. refl; heard = λ l. refl; rms_up = λ r. refl; origin = refl; doubt = refl }

pub own_decided : (tr : Trace) (g : Gtrid) (o : Outcome) → IsOwn tr (Decided g o)
own_decided tr g o =
    record { unbroken = λ l. refl; calls = λ l. refl; taken = λ l. refl; heard = λ l. refl; rms_up = λ r. refl; origin = refl; doubt = refl }

pub own_done : (tr : Trace) (g : Gtrid) → IsOwn tr (Done g)
own_done tr g =
    record { unbroken = λ l. refl; calls = λ l. refl; taken = λ l. refl; heard = λ l. refl; rms_up = λ r. refl; origin = refl; doubt = refl }

module _ {L : Type 0} (old new : Session L) where
  pub own_follows : (step : Step) (reply : Reply) → IsLookedAt step → ((tr : Trace) → managers_refusal tr step ≡ must_refuse tr step)
      → refusal_in (book_in old.manager) step ≡ None → ((tr : Trace) → StandsIn tr old → IsValue tr step reply)
      → ((tr : Trace) → IsOwn tr (happened step reply)) → MayFollow (book_in old.manager) (happened step reply)
      → book_in new.manager ≡ after (book_in old.manager) (happened step reply)
      → new.lines ≡ old.lines → LeadsTo (happened step reply ∷ []) old new
  own_follows step reply looked same none value own may book lines tr stands =
      let right = own_right step reply looked same tr (book_in old.manager) old.lines (stands_with tr old stands) none (value tr stands) in
      ((right, tt), own_goes_in old new tr (happened step reply) stands right (own tr) may book lines)

  pub begun_follows : (t : ℕ) (g : Gtrid) → service_refusal_in (book_in old.manager) t ≡ None → g ≡ next_of (book_in old.manager)
      → book_in new.manager ≡ after (book_in old.manager) (Begun g) → new.lines ≡ old.lines → LeadsTo (Begun g ∷ []) old new
  begun_follows t g none next book lines tr stands =
      let k = book_in old.manager in
      let at : g ≡ next_of (book_of tr) = next ∙ next_alike tr k stands.book in
      let right : Right tr (Begun g) =
      (up_alike tr k stands.book ∙ up_if_begins k t none, ap (λ (h : Gtrid). h.incarnation) at, ap (λ (h : Gtrid). h.sequence) at)
      in
      ((right, tt), own_goes_in old new tr (Begun g) stands right (own_begun tr g) next book lines)

  pub claimed_follows : (g : Gtrid) → refusal_in (book_in old.manager) (Steps.Claim g) ≡ None
      → book_in new.manager ≡ after (book_in old.manager) (Claimed g) → new.lines ≡ old.lines → LeadsTo (Claimed g ∷ []) old new
  claimed_follows g none book lines =
      own_follows (Steps.Claim g) Replies.Claimed tt (λ tr. refl) none (λ tr stands. refl) (λ tr. own_claimed tr g) tt book lines

  pub settled_follows : (g : Gtrid) → refusal_in (book_in old.manager) (Steps.Settle g) ≡ None
      → book_in new.manager ≡ after (book_in old.manager) (Decided g Outcomes.Commit) → new.lines ≡ old.lines → LeadsTo (Decided g Outcomes.Commit ∷ []) old new
  settled_follows g none book lines =
      own_follows (Steps.Settle g) Replies.Decided tt (λ tr. refl) none (λ tr stands. refl) (λ tr. own_decided tr g Outcomes.Commit)
      (begun_if_settled (book_in old.manager) g none) book lines

  pub abandoned_follows : (g : Gtrid) → refusal_in (book_in old.manager) (Steps.Abandon g) ≡ None
      → book_in new.manager ≡ after (book_in old.manager) (Decided g Outcomes.Rollback) → new.lines ≡ old.lines
      → LeadsTo (Decided g Outcomes.Rollback ∷ []) old new
  abandoned_follows g none book lines =
      own_follows (Steps.Abandon g) Replies.Decided tt (λ tr. refl) none (λ tr stands. refl) (λ tr. own_decided tr g Outcomes.Rollback)
      (begun_if_abandoned (book_in old.manager) g none) book lines

  -- if the log may have been asked, and didn't fail
  pub follows_if_ok : (why : Option Refusal) (es : List Happening) (m : Manager L) (reply result : Result (Unit {0}) Refusal) (counted : ℕ)
      → counted ≡ length es → new.happenings ≡ happenings_by reply counted old.happenings → result ≡ reply
      → new.manager ≡ m → new.lines ≡ lines_by reply old.lines → OnOk reply (why ≡ None)
      → OnOk reply (book_in m ≡ after_all (book_in old.manager) es) → new.monitor ≡ old.monitor
      → (why ≡ None → book_in new.manager ≡ after_all (book_in old.manager) es → new.lines ≡ old.lines → LeadsTo es old new)
      → OnOk result (FollowsAll es old new)
  follows_if_ok why es m (Ok u) result counted are count same managers lines none book monitor go =
      subst (λ r. OnOk r (FollowsAll es old new)) (sym same)
      (record {
        leads = go none (ap book_in managers ∙ book) lines;
        counted = count ∙ ap (λ n. old.happenings + n) are;
        states = λ b. ap (λ n. states_of n b) monitor;
      })
  follows_if_ok why es m (Err n) result counted are count same managers lines none book monitor go = subst (λ r. OnOk r (FollowsAll es old new)) (sym same) tt
