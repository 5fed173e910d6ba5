-- Two sessions that are worked out are served.
use Rattle.std.proofs.Common.{◌≡◌, ◌∙◌, ◌≤◌, inl, ℕ, Bool, true, false, ◌||◌, List, [], ◌∷◌, ◌++◌, Option, Some, None, IsSomeAnd, refl, sym, ap, subst, arith}
use Rattle.std.proofs.lemmas.Bool.{true≢false}
use Rattle.std.specs.List.{list_any}
use Rattle.std.specs.Prelude.{MatchBool, codes}
use Rattle.xa_base.specs.HeldBranch.{new_branch}
use Rattle.xa_base.specs.Scan.{Scan.NotOpen}
use Rattle.xa_base.specs.declared.answer.Answer.TheVariants.{Ret}
use Rattle.xa_base.specs.declared.call.Call.TheVariants as Calls
use Rattle.xa_base.specs.declared.code.Code.TheVariants.{Success}
use Rattle.xa_base.specs.declared.refusal.Refusal.TheVariants.{LogFault}
use Rattle.xa_base.specs.declared.step.Outcome.TheVariants as Outcomes
use Rattle.xa_log.specs.Content.{Content, with_bump}
use Rattle.xa_log.specs.Contract.{Honestly, Moment}
use Rattle.xa_model.specs.Trace.{Branch, Call, Happening.Begun, Happening.Issued, Line, Origin, line_of}
use Rattle.xa_monitor.specs.Explained.{HasOnlyOlderRows, IsExplained}
use Rattle.xa_monitor.specs.Seen.{Seen, Seen.Answered, Seen.Did, Seen.Start}
use Rattle.xa_names.specs.Laws.{LinesStay}
use Rattle.xa_outcomes.proofs.WorkedLines.{AskFor, AskForAll, AnswerTold, NoneWaits, answer_told, begin_asks, begin_request_is, commit_asks, decide_request_is, issue_told, no_fault_heard, no_fault_issued, none_answered, none_at_start, none_begun, one_asks, tells_answer, tells_issue, two_asks, waits_first}
use Rattle.xa_outcomes.proofs.WorkedSessions.{ended_alone, stand_apart}
use Rattle.xa_outcomes.specs.WorkedSessions.{AreMade, AreWorkedOut, Commits, IsLeftInDecide, IsMade, LeavesDeciding, Spoken, TellThis, at_one, at_two, first_gtrid, lines_of_commit, lines_of_one, lines_of_two, made, told_second, votes_told}
use Rattle.xa_requests.specs.declared.request.Request.{Request}
use Rattle.xa_requests.specs.declared.request.Request.TheVariants as requests
use Rattle.xa_requests.specs.declared.response.Response.{Response}
use Rattle.xa_requests.specs.declared.response.Response.TheVariants as responses
use Rattle.xa_server.proofs.LogLemmas.{replies_keep}
use Rattle.xa_server.proofs.TurnLemmas.{both_replied}
use Rattle.xa_server.proofs.WithoutName.{lines_as_are}
use Rattle.xa_server.specs.Lines.{asked_in}
use Rattle.xa_server.specs.Performing.{Performs}
use Rattle.xa_server.specs.Serving.{HaveReplies, RepliesBy}
use Rattle.xa_server.specs.Sessions.{HoldsLeft, IsEmptyLog, IsSession, IsSessionLeft.InRequest, StartsOver}
use Rattle.xa_server.specs.Telling.{HasName, HaveTold, Tells, TellsBy, is_log_fault}
use Rattle.xa_server.specs.Tracking.{RepliesAreTracked, TracksReply}
use Rattle.xa_server.specs.declared.server.Server.{Server}
use Rattle.xa_session.specs.Tracking.{KeepsTrack, SessionsAreExplained, StartsAreTracked}
use Rattle.xa_tm.specs.Begins.{BeginsWith, records_begun, rows_begun}
use Rattle.xa_tm.specs.Calls.{book_in, log_in}

-- ** lines and replies, one more

told_more : (n : ℕ) (lines : List (List ℕ)) (replies : List Response) (seen mid more : Seen) (line : List ℕ) (reply : Response)
    → list_any is_log_fault replies ≡ false → HaveTold n lines replies seen mid → is_log_fault reply ≡ false → TellsBy n (asked_in line) reply mid more
    → HaveTold n (lines ++ line ∷ []) (replies ++ reply ∷ []) seen more
told_more n [] [] seen mid more line reply none told well tells =
    subst (λ t. MatchBool t (more ≡ seen) ((next : Seen) × TellsBy n (asked_in line) reply seen next × (more ≡ next))) (sym well)
    (more, subst (λ z. TellsBy n (asked_in line) reply z more) told tells, refl)
told_more n [] (r ∷ rs) seen mid more line reply none told well tells = absurd told
told_more n (l ∷ ls) [] seen mid more line reply none told well tells = absurd told
told_more n (l ∷ ls) (r ∷ rs) seen mid more line reply none told well tells =
    by (is_log_fault r) refl none told (λ next rest_none rest. told_more n ls rs next mid more line reply rest_none rest well tells)
  where
    by : (t : Bool) → is_log_fault r ≡ t → (t || list_any is_log_fault rs) ≡ false
        → MatchBool t (mid ≡ seen) ((next : Seen) × TellsBy n (asked_in l) r seen next × HaveTold n ls rs next mid)
        → ((next : Seen) → list_any is_log_fault rs ≡ false → HaveTold n ls rs next mid → HaveTold n (ls ++ line ∷ []) (rs ++ reply ∷ []) next more)
        → MatchBool (is_log_fault r) (more ≡ seen)
        ((next : Seen) × TellsBy n (asked_in l) r seen next × HaveTold n (ls ++ line ∷ []) (rs ++ reply ∷ []) next more)
    by true is none told go = absurd (true≢false none)
    by false is none (next, tells, rest) go =
        subst (λ t. MatchBool t (more ≡ seen) ((z : Seen) × TellsBy n (asked_in l) r seen z × HaveTold n (ls ++ line ∷ []) (rs ++ reply ∷ []) z more)) (sym is)
        (next, tells, go next none rest)

well_more : (replies : List Response) (reply : Response) → list_any is_log_fault replies ≡ false → is_log_fault reply ≡ false
    → list_any is_log_fault (replies ++ reply ∷ []) ≡ false
well_more [] reply none well = ap (λ t. t || false) well
well_more (r ∷ rs) reply none well = by (is_log_fault r) none (λ rest. well_more rs reply rest well)
  where
    by : (t : Bool) → (t || list_any is_log_fault rs) ≡ false → (list_any is_log_fault rs ≡ false → list_any is_log_fault (rs ++ reply ∷ []) ≡ false)
        → (t || list_any is_log_fault (rs ++ reply ∷ [])) ≡ false
    by true e go = absurd (true≢false e)
    by false e go = go e

module _ {L : Type 0} (moment : L → Moment) (tracked : RepliesAreTracked moment) (explained : SessionsAreExplained L) (o : Origin) (old : HasOnlyOlderRows o)
    (first : Server L) where
  -- so far these lines had these replies, and this is seen, as the session keeps track of it
  record IsAt (seen : Seen) (now : Server L) : Type 0 where
    lines : List (List ℕ)
    replies : List Response
    replied : HaveReplies moment lines replies first now
    well : list_any is_log_fault replies ≡ false
    told : HaveTold o.threads lines replies Start seen
    keeps : KeepsTrack o seen now.session

  -- a line more
  one_line : (seen more : Seen) (now new : Server L) (line : List ℕ) (request : Request) (reply : Response) → IsAt seen now
      → asked_in line ≡ Some request → Performs moment request now reply new → is_log_fault reply ≡ false → Tells o.threads request reply seen more
      → KeepsTrack o more new.session → IsAt more new
  one_line seen more now new line request reply at asks performs well tells keeps = record {
    lines = at.lines ++ line ∷ [];
    replies = at.replies ++ reply ∷ [];
    replied = both_replied moment [] at.lines at.replies (line ∷ []) (reply ∷ []) first now new at.replied
        (new, subst (λ q. RepliesBy moment q now reply new) (sym asks) performs, refl);
    well = well_more at.replies reply at.well well;
    told = told_more o.threads at.lines at.replies Start seen more line reply at.well at.told well
        (subst (λ q. TellsBy o.threads q reply seen more) (sym asks) tells);
    keeps = keeps;
  }

  same_request : (line : List ℕ) (x : Option Request) (r s : Request) → x ≡ Some r → x ≡ Some s → r ≡ s
  same_request line x r s e f = let both : Some r ≡ Some s = sym e ∙ f in cc

  -- ** a call, and its answer

  module _ (seen : Seen) (now new : Server L) (at : IsAt seen now) (none : NoneWaits o seen) (l : Line) (c : Call) (spoken : Spoken) (asks : AskFor spoken l c)
      (is : IsMade moment spoken now new) where
    issued : Performs moment (requests.Issue l.thread l.rm asks.call) now is.told is.mid
    issued = subst (λ q. Performs moment q now is.told is.mid)
        (same_request spoken.issue _ _ _ is.issued.asked asks.issue_request_is) is.issued.performed

    answered : Performs moment (requests.Answer l.thread l.rm asks.name (Ret Success)) is.mid is.heard new
    answered = subst (λ q. Performs moment q is.mid is.heard new)
        (same_request spoken.answer _ _ _ is.answered.asked asks.answer_request_is) is.answered.performed

    well_told : is_log_fault is.told ≡ false
    well_told = no_fault_issued is.told is.waits

    well_heard : is_log_fault is.heard ≡ false
    well_heard = no_fault_heard is.heard is.hears

    one : TracksReply o (requests.Issue l.thread l.rm asks.call) is.told seen now is.mid
    one = tracked o seen (requests.Issue l.thread l.rm asks.call) is.told now is.mid at.keeps issued well_told

    abbrev mid_seen : Seen
    mid_seen = Did seen (Issued l c)

    keeps_mid : KeepsTrack o mid_seen is.mid.session
    keeps_mid = subst (λ z. KeepsTrack o z is.mid.session)
        (issue_told now.session.lines.threads l.thread l.rm asks.call c is.told seen one.more asks.is_known is.waits one.told) one.keeps

    two : TracksReply o (requests.Answer l.thread l.rm asks.name (Ret Success)) is.heard mid_seen is.mid new
    two = tracked o mid_seen (requests.Answer l.thread l.rm asks.name (Ret Success)) is.heard is.mid new keeps_mid answered well_heard

    told_two : AnswerTold l.thread l.rm asks.name mid_seen two.more
    told_two = answer_told is.mid.session.lines.threads l.thread l.rm asks.name is.heard mid_seen two.more is.hears two.told

    some : IsExplained o mid_seen
    some = explained o mid_seen is.mid.session old keeps_mid

    keeps_some : KeepsTrack o (Answered mid_seen l told_two.to (Ret Success)) new.session
    keeps_some = subst (λ z. KeepsTrack o z new.session) told_two.is two.keeps

    to_is : told_two.to ≡ c
    to_is =
        let waits = (keeps_some.0.2 some.history some.is_history some.runs).first in
        let both : Some told_two.to ≡ Some c = sym waits ∙ waits_first o seen none l c (Ret Success) some.history some.is_history in
        cc

    keeps_new : KeepsTrack o (Answered mid_seen l c (Ret Success)) new.session
    keeps_new = subst (λ z. KeepsTrack o (Answered mid_seen l z (Ret Success)) new.session) to_is keeps_some

    one_made : IsAt (Answered (Did seen (Issued l c)) l c (Ret Success)) new
    one_made =
        one_line mid_seen (Answered mid_seen l c (Ret Success)) is.mid new spoken.answer (requests.Answer l.thread l.rm asks.name (Ret Success)) is.heard
        (one_line seen mid_seen now is.mid spoken.issue (requests.Issue l.thread l.rm asks.call) is.told at asks.issue_asks issued well_told
        (tells_issue o.threads l.thread l.rm asks.call c is.told seen asks.is_known is.waits) keeps_mid)
        asks.answer_asks answered well_heard
        (tells_answer o.threads l.thread l.rm asks.name c is.heard mid_seen (subst (HasName asks.name) to_is told_two.named_so) is.hears) keeps_new

  -- all of these
  none_made : (l : Line) (cs : List Call) (seen : Seen) → NoneWaits o seen → NoneWaits o (made l cs seen)
  none_made l [] seen none = none
  none_made l (c ∷ cs) seen none =
      none_made l cs (Answered (Did seen (Issued l c)) l c (Ret Success)) (none_answered o seen none l c (Ret Success))

  all_made : (spoken : List Spoken) (l : Line) (cs : List Call) (seen : Seen) (now new : Server L) → AskForAll spoken l cs → AreMade moment spoken now new
      → NoneWaits o seen → IsAt seen now → IsAt (made l cs seen) new
  all_made [] l [] seen now new asks is none at = subst (IsAt seen) (sym is) at
  all_made [] l (c ∷ cs) seen now new asks is none at = absurd asks
  all_made (s ∷ ss) l [] seen now new asks is none at = absurd asks
  all_made (s ∷ ss) l (c ∷ cs) seen now new asks (mid, is, rest) none at =
      all_made ss l cs (Answered (Did seen (Issued l c)) l c (Ret Success)) mid new asks.1 rest (none_answered o seen none l c (Ret Success))
      (one_made seen now mid at none l c s asks.0 is)

  -- ** the two sessions

  at_start : KeepsTrack o Start first.session → IsAt Start first
  at_start keeps = record { lines = []; replies = []; replied = refl; well = refl; told = refl; keeps = keeps }

  module _ (keeps : KeepsTrack o Start first.session) (left : Server L) (is : LeavesDeciding moment first left) where
    begins : Performs moment (requests.Begin 0) first (responses.Begun first_gtrid) is.begun
    begins = subst (λ q. Performs moment q first (responses.Begun first_gtrid) is.begun)
        (same_request [] _ _ _ is.begins.asked begin_request_is) is.begins.performed

    track : TracksReply o (requests.Begin 0) (responses.Begun first_gtrid) Start first is.begun
    track = tracked o Start (requests.Begin 0) (responses.Begun first_gtrid) first is.begun keeps begins refl

    abbrev begun_seen : Seen
    begun_seen = Did Start (Begun first_gtrid)

    at_begun : IsAt begun_seen is.begun
    at_begun = one_line Start begun_seen first is.begun (codes "begin 0") (requests.Begin 0) (responses.Begun first_gtrid) (at_start keeps) begin_asks begins refl
        refl (subst (λ z. KeepsTrack o z is.begun.session) track.told track.keeps)

    none_then : NoneWaits o begun_seen
    none_then = none_begun o Start first_gtrid (none_at_start o)

    abbrev calls_of : Branch → List Call
    calls_of b = Calls.OpenRm ∷ Calls.Start b false ∷ Calls.End b false ∷ Calls.Prepare b ∷ []

    at_one_told : IsAt (made (line_of (at_one first_gtrid)) (calls_of (at_one first_gtrid)) begun_seen) is.mid
    at_one_told =
        all_made lines_of_one (line_of (at_one first_gtrid)) (calls_of (at_one first_gtrid)) begun_seen is.begun is.mid one_asks is.one none_then at_begun

    at_votes : IsAt (votes_told first_gtrid) is.now
    at_votes =
        all_made lines_of_two (line_of (at_two first_gtrid)) (calls_of (at_two first_gtrid))
        (made (line_of (at_one first_gtrid)) (calls_of (at_one first_gtrid)) begun_seen) is.mid is.now two_asks is.two
        (none_made (line_of (at_one first_gtrid)) (calls_of (at_one first_gtrid)) begun_seen none_then) at_one_told

    decides : Performs moment (requests.Decide (first_gtrid ∷ []) Outcomes.Commit) is.now (responses.Refused LogFault) left
    decides = subst (λ q. Performs moment q is.now (responses.Refused LogFault) left)
        (same_request [] _ _ _ is.deciding.asked decide_request_is) is.deciding.performed

  at_committed : KeepsTrack o Start first.session → (last : Server L) → AreMade moment lines_of_commit first last → IsAt (told_second first_gtrid) last
  at_committed keeps last is =
      all_made lines_of_commit (line_of (at_one first_gtrid)) (Calls.OpenRm ∷ Calls.Commit (at_one first_gtrid) false ∷ []) Start first last commit_asks is
      (none_at_start o) (at_start keeps)

-- ** both are sessions

-- a start that has the rows and records of the log, and at whose resource managers nothing is
abbrev start_of : {L : Type 0} → Server L → Origin
start_of first = record {
  threads = 1;
  rms = 2;
  incarnation = (book_in first.session.manager).incarnation;
  rows = rows_begun first.session.manager;
  heuristic_rows = records_begun first.session.manager;
  held = λ r x. new_branch;
  in_doubt = λ r. [];
  scans = λ r. NotOpen;
}

begins_so : {L : Type 0} (first : Server L) → BeginsWith 1 2 first.session.manager (start_of first)
begins_so first = record { threads_are = refl; rms_are = refl; incarnation = refl; rows = refl; records = refl }

some_is : {A : Type 0} (x : Option A) (P : A → Type 0) → IsSomeAnd x P → (a : A) × (x ≡ Some a) × P a
some_is None P is = absurd is
some_is (Some a) P is = (a, refl, is)

module _ {L : Type 0} (moment : L → Moment) (tracked : RepliesAreTracked moment) (starts_tracked : StartsAreTracked L) (explained : SessionsAreExplained L)
    (stay : LinesStay) where
  keeps_start : (handed : L) (first : Server L) → StartsOver moment 1 2 handed first → KeepsTrack (start_of first) Start first.session
  keeps_start handed first starts = starts_tracked 1 2 first.session starts.stands (start_of first) (begins_so first)

  is_old : (handed : L) (first : Server L) → StartsOver moment 1 2 handed first → HasOnlyOlderRows (start_of first)
  is_old handed first starts = starts.old (start_of first) (begins_so first)

  session : (handed : L) (first now : Server L) (seen : Seen) (starts : StartsOver moment 1 2 handed first)
      → IsAt moment tracked explained (start_of first) (is_old handed first starts) first seen now
      → IsSession moment [] handed (start_of first) seen now
  session handed first now seen starts at = record {
    threads = 1;
    rms = 2;
    first = first;
    lines = at.lines;
    replies = at.replies;
    starts = starts;
    begins = begins_so first;
    replied = subst (λ ls. HaveReplies moment ls at.replies first now) (sym (lines_as_are stay at.lines)) at.replied;
    no_fault = at.well;
    told = subst (λ ls. HaveTold 1 ls at.replies Start seen) (sym (lines_as_are stay at.lines)) at.told;
    tracks = at.keeps;
  }

  holds_it : (handed : L) → (moment handed).is_in_order → (c : Content) → (moment handed).content ≡ Some c → HoldsLeft moment c handed
  holds_it handed order c has = record {
    order = order;
    content = c;
    has = has;
    same = record { decisions = refl; heuristics = refl };
    raised = let least : c.incarnation ≤ c.incarnation = omega arith in least;
  }

  module _ (handed left : L) (last : Server L) (one : IsLeftInDecide moment handed left) (two : Commits moment (log_in one.last.session.manager) last)
      (order : (moment handed).is_in_order) (honest : (moment (log_in last.session.manager)).is_honest)
      (empty : IsSomeAnd (moment handed).content IsEmptyLog) where
    a : Server L
    a = one.first

    at_now : IsAt moment tracked explained (start_of one.first) (is_old handed one.first one.starts) one.first (votes_told first_gtrid) one.leaves.now
    at_now = at_votes moment tracked explained (start_of one.first) (is_old handed one.first one.starts) one.first
        (keeps_start handed one.first one.starts) one.last one.leaves

    decided : Performs moment (requests.Decide (first_gtrid ∷ []) Outcomes.Commit) one.leaves.now (responses.Refused LogFault) one.last
    decided = decides moment tracked explained (start_of one.first) (is_old handed one.first one.starts) one.first
        (keeps_start handed one.first one.starts) one.last one.leaves

    at_last : IsAt moment tracked explained (start_of two.first) (is_old (log_in one.last.session.manager) two.first two.starts) two.first
        (told_second first_gtrid) last
    at_last = at_committed moment tracked explained (start_of two.first) (is_old (log_in one.last.session.manager) two.first two.starts) two.first
        (keeps_start (log_in one.last.session.manager) two.first two.starts) last two.commits

    honest_two : (moment (log_in two.first.session.manager)).is_honest
    honest_two = (replies_keep moment at_last.lines at_last.replies two.first last at_last.replied).honest honest

    honest_mid : (moment (log_in one.last.session.manager)).is_honest
    honest_mid = two.starts.over.honest honest_two

    order_mid : (moment (log_in one.last.session.manager)).is_in_order
    order_mid = decided.keeps.order
        ((replies_keep moment at_now.lines at_now.replies one.first one.leaves.now at_now.replied).order (one.starts.over.order order))

    abbrev Raised : Content → Type 0
    Raised c = (moment (log_in two.first.session.manager)).content ≡ Some (with_bump c)

    mid : (c : Content) × ((moment (log_in one.last.session.manager)).content ≡ Some c) × Raised c
    mid = some_is (moment (log_in one.last.session.manager)).content Raised (two.starts.over.raised order_mid honest_two)

    found : (c : Content) × ((moment handed).content ≡ Some c) × IsEmptyLog c
    found = some_is (moment handed).content IsEmptyLog empty

    tell : TellThis moment [] first_gtrid last
    tell = record {
      empty = found.0;
      is_empty = found.2;
      handed = handed;
      holds = holds_it handed order found.0 found.1;
      one = start_of one.first;
      now = one.leaves.now;
      first = one.last;
      session = session handed one.first one.leaves.now (votes_told first_gtrid) one.starts at_now;
      is_left = InRequest (requests.Decide (first_gtrid ∷ []) Outcomes.Commit) one.last tt decided;
      honest = honest_mid;
      mid = mid.0;
      leaves_mid = inl mid.1;
      next = log_in one.last.session.manager;
      holds_mid = holds_it (log_in one.last.session.manager) order_mid mid.0 mid.1;
      two = start_of two.first;
      second = session (log_in one.last.session.manager) two.first last (told_second first_gtrid) two.starts at_last;
      honest_last = honest;
    }

    are_worked : AreWorkedOut moment last
    are_worked = record { told = tell; stand = stand_apart moment [] first_gtrid last tell; ended = ended_alone moment [] first_gtrid last tell }

  pub worked_so : (handed left : L) (last : Server L) → IsLeftInDecide moment handed left → Commits moment left last
      → Honestly (moment handed) (moment (log_in last.session.manager)) (IsSomeAnd (moment handed).content IsEmptyLog → AreWorkedOut moment last)
  worked_so handed left last one two order honest empty =
      are_worked handed left last one (subst (λ log. Commits moment log last) one.log_is two) order honest empty
