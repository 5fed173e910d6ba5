-- Two drivers are served by managers of two names.
use Rattle.std.proofs.Common.{◌≡◌, ◌≢◌, ◌∙◌, ◌⊎◌, inl, inr, ℕ, false, List, [], ◌∷◌, Option, Some, None, refl, sym, ap, subst}
use Rattle.std.proofs.lemmas.Option.{none-some}
use Rattle.std.proofs.lemmas.Bool.{or_parts}
use Rattle.std.specs.List.{AllByRecursion, list_any}
use Rattle.xa_base.specs.Xid.{Xid}
use Rattle.xa_server.specs.Lines.{asked_in}
use Rattle.xa_server.specs.Managers.{ManagersAreApart, Replied, told_xid}
use Rattle.xa_server.specs.NamedLines.{ServesUnder, lines_read}
use Rattle.xa_server.specs.Serving.{HaveReplies, RepliesBy, replies_given, requests_done}
use Rattle.xa_server.specs.Telling.{is_log_fault}
use Rattle.xa_server.specs.Tracking.{RepliesAreTracked, ServedDatabasesAgree}
use Rattle.xa_server.specs.declared.server.Server.{Server}
use Rattle.xa_log.specs.Contract.{Moment}
use Rattle.xa_model.specs.Trace.{Origin}
use Rattle.xa_requests.specs.declared.request.Request.{Request}
use Rattle.xa_requests.specs.declared.response.Response.{Response}
use Rattle.xa_session.specs.Tracking.{KeepsTrack, StartsAreTracked}
use Rattle.xa_monitor.specs.Explained.{HasOnlyOlderRows}
use Rattle.xa_monitor.specs.Seen.{Seen, Seen.Start}
use Rattle.uses.proofs.Sessions.{begins_so, start_of}
use Rattle.uses.specs.Managers.{AreServedApart, IsServedFrom, IsServedUnder, TellApart}
use Rattle.xa_tm.specs.Calls.{book_in}

-- what is left of a text that was known is known
pub known_left : {L : Type 0} (text : List ℕ) (left : Option (List ℕ)) (moment : L → Moment) (name : List ℕ) (greeting : Response)
    (written all : Option (List ℕ)) (old new : Server L) → ServesUnder moment name greeting (Some text) left written all old new
    → (unread : List ℕ) × ServesUnder moment name greeting (Some text) (Some unread) written all old new
known_left text None moment name greeting written all old new serves = absurd serves.consumed
known_left text (Some unread) moment name greeting written all old new serves = (unread, serves)

module _ {L : Type 0} (moment : L → Moment) where
  -- a session that keeps track gave this reply to some request; or it tells no call
  abbrev WasGiven : Response → Type 0
  WasGiven reply = ((old : Server L) × (new : Server L) × Replied moment old new reply) ⊎ ((name : List ℕ) → told_xid name reply ≡ None)

  module _ (tracked : RepliesAreTracked moment) (o : Origin) (is_old : HasOnlyOlderRows o) where
    all_given : (lines : List (List ℕ)) (replies : List Response) (seen : Seen) (old new : Server L) → KeepsTrack o seen old.session
        → HaveReplies moment lines replies old new → list_any is_log_fault replies ≡ false → AllByRecursion WasGiven replies
    all_given [] [] seen old new keeps have none = tt
    all_given [] (reply ∷ replies) seen old new keeps have none = absurd have
    all_given (line ∷ lines) [] seen old new keeps have none = absurd have
    all_given (line ∷ lines) (reply ∷ replies) seen old new keeps (next, to, rest) none =
        let no = or_parts (is_log_fault reply) (list_any is_log_fault replies) none in
        let one = given (asked_in line) to no.0 in
        (one.0, all_given lines replies one.1.0 next new one.1.1 rest no.1)
      where
        given : (asked : Option Request) → RepliesBy moment asked old reply next → is_log_fault reply ≡ false
            → WasGiven reply × ((more : Seen) × KeepsTrack o more next.session)
        given None (is, same) fine = (inr (λ name. ap (told_xid name) is), (seen, subst (λ c. KeepsTrack o seen c.session) (sym same) keeps))
        given (Some request) performs fine =
            let tracks = tracked o seen request reply old next keeps performs fine in (
              inl (old, next, record { start = o; is_old = is_old; seen = seen; keeps = keeps; request = request; performs = performs }),
              (tracks.more, tracks.keeps),
            )

  module _ (law : ManagersAreApart moment) (m n : List ℕ) (differ : m ≢ n) where
    one_apart : (p q : Response) → WasGiven p → WasGiven q → (x : Xid) → told_xid m p ≡ Some x → told_xid n q ≡ Some x → ⊥
    one_apart p q (inl (a, b, r)) (inl (c, d, s)) x e f = law m n p q a b c d differ r s x e f
    one_apart p q (inr none) given x e f = none-some x (sym (none m) ∙ e)
    one_apart p q (inl replied) (inr none) x e f = none-some x (sym (none n) ∙ f)

    each_apart : (p : Response) (qs : List Response) → WasGiven p → AllByRecursion WasGiven qs
        → AllByRecursion (λ q. (x : Xid) → told_xid m p ≡ Some x → told_xid n q ≡ Some x → ⊥) qs
    each_apart p [] given all = tt
    each_apart p (q ∷ qs) given all = (one_apart p q given all.0, each_apart p qs given all.1)

    all_apart : (ps qs : List Response) → AllByRecursion WasGiven ps → AllByRecursion WasGiven qs → TellApart m n ps qs
    all_apart [] qs all others = tt
    all_apart (p ∷ ps) qs all others = (each_apart p qs all.0 others, all_apart ps qs all.1 others)

  module _ (agree : ServedDatabasesAgree moment) (threads rms : ℕ) where
    served_under : (name text written : List ℕ) → IsServedFrom moment name threads rms text written → IsServedUnder name threads rms text written
    served_under name text written is =
        let start = start_of threads rms is.first in
        let begins = begins_so threads rms is.first in
        let so =
        agree threads rms (lines_read name (requests_done is.serves.turns)) (replies_given is.serves.turns) is.first is.last is.stands
        is.serves.replied start begins (is.old start begins) in
        record {
          read = is.serves.read;
          unread = is.unread;
          start = start;
          decisions = (book_in is.first.session.manager).rows;
          heuristics = (book_in is.first.session.manager).records;
          turns = is.serves.turns;
          seen = so.seen;
          threads_are = refl;
          rms_are = refl;
          whole = is.serves.consumed;
          lines = is.serves.lines;
          replied = is.serves.appended;
          ends = is.serves.ends;
          told = so.told;
          explained = so.explained;
          agree = so.agree;
        }

    module _ (first_tracked : StartsAreTracked L) (tracked : RepliesAreTracked moment) (law : ManagersAreApart moment) where
      given_in : (name text written : List ℕ) (is : IsServedFrom moment name threads rms text written)
          → list_any is_log_fault (replies_given is.serves.turns) ≡ false → AllByRecursion WasGiven (replies_given is.serves.turns)
      given_in name text written is fine =
          let start = start_of threads rms is.first in
          let begins = begins_so threads rms is.first in
          all_given tracked start (is.old start begins) (lines_read name (requests_done is.serves.turns)) (replies_given is.serves.turns) Start
          is.first is.last
          (first_tracked threads rms is.first.session is.stands start begins) is.serves.replied fine

      pub served_apart : (m n first second first_written second_written : List ℕ) → IsServedFrom moment m threads rms first first_written
          → IsServedFrom moment n threads rms second second_written → AreServedApart m n threads rms first second first_written second_written
      unfolding served_under
      served_apart m n first second first_written second_written one two = record {
        one = served_under m first first_written one;
        two = served_under n second second_written two;
        apart = λ differ fine well.
            all_apart law m n differ (replies_given one.serves.turns) (replies_given two.serves.turns) (given_in m first first_written one fine)
            (given_in n second second_written two well);
      }
