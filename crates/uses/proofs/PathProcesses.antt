-- Processes that open the log at one path, one after the other.
use Rattle.std.proofs.Common.{◌≡◌, ◌∙◌, ◌⊎◌, ◌<◌, ◌≤◌, inl, inr, ℕ, Bool, true, false, List, [], ◌∷◌, ◌++◌, length, Option, Some, None, refl, sym, ap, subst, arith, Ok}
use Rattle.std.proofs.Math.Logic.{∥∥₁_elim}
use Rattle.std.specs.FinMap.{len-empty}
use Rattle.std.specs.List.{list_any}
use Rattle.std.proofs.lemmas.List.Elements.{All-nil}
use Rattle.sqlite.specs.Files.{file_state, over_files}
use Rattle.sqlite.specs.Held.{Held}
use Rattle.sqlite.specs.Recovery.{Image}
use Rattle.sqlite.specs.State.{State, IsLive, Opens}
use Rattle.sqlite.specs.Tree.{Trees}
use Rattle.sqlite.proofs.ListingLemmas.{empty_is_sound}
use Rattle.sqlite_catalog.proofs.ReadLemmas.{lists_once}
use Rattle.sqlite_catalog.specs.Listing.{IsSound}
use Rattle.sqlite_schema.specs.declared.schema.Schema.{Schema}
use Rattle.sqlite_trees.specs.Objects.{catalog_tree}
use Rattle.xa_base.specs.declared.refusal.Refusal.TheVariants.{LogFault}
use Rattle.xa_base.specs.declared.state.Standing.TheVariants.{Prepared, Unstarted}
use Rattle.xa_log.specs.Content.{Content, nothing}
use Rattle.xa_log.specs.Contract.{Moment}
use Rattle.xa_model.specs.Trace.{Branch, Line}
use Rattle.xa_monitor.specs.Agreement.{MayAllStand}
use Rattle.xa_monitor.specs.Standings.{Comes}
use Rattle.uses.specs.Managers.{AreServedBeside, HoldsNothing}
use Rattle.xa_sql_log.proofs.FoundDecisions.{some_is}
use Rattle.xa_requests.specs.declared.request.Request.{Request}
use Rattle.xa_requests.specs.declared.response.Response.{Response}
use Rattle.xa_requests.specs.declared.response.Response.TheVariants as responses
use Rattle.xa_base.specs.StateTable.{broken}
use Rattle.xa_server.proofs.LeftSessions.{begun_under}
use Rattle.xa_server.proofs.LogLemmas.{replies_keep}
use Rattle.xa_server.proofs.TurnLemmas.{split_replies}
use Rattle.xa_server.specs.Faults.{MayChangeRows}
use Rattle.xa_server.specs.LeftSessions.{AreFoundDecided, GoesOnFromLeft, HaveLeft, Databases, LeftSessionsAgree, ManagersAgree, ServedSessionsGoOn, SessionsBegin, under}
use Rattle.xa_server.specs.Lines.{asked_in}
use Rattle.xa_server.specs.NamedLines.{ServesUnder, line_read, lines_read}
use Rattle.xa_server.specs.Performing.{Performs}
use Rattle.xa_server.specs.Replies.{greeting_of}
use Rattle.xa_server.specs.Serving.{HaveReplies, RepliesBy, RepliesTo, Turn, replies_given, requests_done}
use Rattle.xa_server.specs.Sessions.{HoldsLeft, IsEmptyLog, IsSessionLeft.AfterLine, IsSessionLeft.InRequest, StartsOver}
use Rattle.xa_server.specs.Telling.{is_log_fault}
use Rattle.xa_server.specs.Votes.{IsLogged}
use Rattle.xa_server.specs.declared.server.Server.{Server}
use Rattle.xa_session.specs.Logging.{LeavesContent}
use Rattle.xa_sql_log.proofs.Closing.{found_whole, ready_content, whole_holds}
use Rattle.xa_sql_log.proofs.FoundDatabase.{none_found}
use Rattle.xa_sql_log.specs.FoundFiles.{FindsLogIn}
use Rattle.xa_sql_log.specs.OpenedDatabase.{HoldsLog, HoldsLogOrNothing, IsBlank}
use Rattle.xa_sql_log.specs.PreparedDatabase.{Prepares}
use Rattle.xa_sql_log.specs.Rows.{content_of}
use Rattle.xa_sql_log.specs.Sql.{AreLogTrees, content_in}
use Rattle.xa_tm.specs.Calls.{log_in}
use Rattle.uses.specs.Paths.{AgreeAfterBoth, IsHeldInFiles, IsProcess, IsSessionOver, LeavesIt, WereReplied}

-- ** one session

read_append : (name : List ℕ) (ls ms : List (List ℕ)) → lines_read name (ls ++ ms) ≡ lines_read name ls ++ lines_read name ms
read_append name [] ms = refl
read_append name (l ∷ ls) ms = ap (λ rest. line_read name l ∷ rest) (read_append name ls ms)

read_length : (name : List ℕ) (ls : List (List ℕ)) → length (lines_read name ls) ≡ length ls
read_length name [] = refl
read_length name (l ∷ ls) = let rest : length (lines_read name ls) ≡ length ls = read_length name ls in
    let all : length (line_read name l ∷ lines_read name ls) ≡ length (l ∷ ls) = omega (arith, rest) in all

module _ {L : Type 0} (moment : L → Moment) (law : ServedSessionsGoOn moment) (name : List ℕ) (threads rms : ℕ) (handed : L) (first last : Server L)
    (starts : StartsOver moment threads rms handed first) (honest : (moment (log_in last.session.manager)).is_honest) where
  -- all was replied
  on_after : (lines : List (List ℕ)) (replies : List Response) → HaveReplies moment (lines_read name lines) replies first last
      → list_any is_log_fault replies ≡ false → GoesOnFromLeft moment name lines replies handed last
  on_after lines replies have fine = law name threads rms lines replies handed first last last starts have fine (λ seen. AfterLine) honest

  asked_so : (asked : Option Request) (request : Request) (mid next : Server L) → asked ≡ Some request
      → RepliesBy moment asked mid (responses.Refused LogFault) next → Performs moment request mid (responses.Refused LogFault) next
  asked_so asked request mid next is replied = subst (λ a. RepliesBy moment a mid (responses.Refused LogFault) next) is replied

  -- the log failed in the last request
  on_failed : (lines : List (List ℕ)) (line : List ℕ) (replies : List Response) (request : Request)
      → HaveReplies moment (lines_read name (lines ++ line ∷ [])) (replies ++ responses.Refused LogFault ∷ []) first last
      → length lines ≡ length replies → list_any is_log_fault replies ≡ false → asked_in (line_read name line) ≡ Some request → MayChangeRows request
      → GoesOnFromLeft moment name lines replies handed last
  on_failed lines line replies request have long fine asks may =
      let parts = split_replies moment (lines_read name lines) (line_read name line ∷ []) replies (responses.Refused LogFault ∷ []) first last
      (read_length name lines ∙ long)
      (subst (λ ls. HaveReplies moment ls (replies ++ responses.Refused LogFault ∷ []) first last) (read_append name lines (line ∷ [])) have) in
      let performs : Performs moment request parts.0 (responses.Refused LogFault) last =
      subst (λ c. Performs moment request parts.0 (responses.Refused LogFault) c) (sym parts.2.2)
      (asked_so (asked_in (line_read name line)) request parts.0 parts.2.0 asks parts.2.1) in
      law name threads rms lines replies handed first parts.0 last starts parts.1 fine (λ seen. InRequest request last may performs) honest

  goes_on : (turns : List Turn) (lines : List (List ℕ)) (replies : List Response)
      → HaveReplies moment (lines_read name (requests_done turns)) (replies_given turns) first last → WereReplied name turns lines replies
      → GoesOnFromLeft moment name lines replies handed last
  goes_on turns lines replies have (fine, inl both) =
      on_after lines replies
      (subst (λ ls. HaveReplies moment (lines_read name ls) replies first last) both.0
      (subst (λ rs. HaveReplies moment (lines_read name (requests_done turns)) rs first last) both.1 have)) fine
  goes_on turns lines replies have (fine, inr (line, request, are, given, long, asks, may)) =
      on_failed lines line replies request
      (subst (λ ls. HaveReplies moment (lines_read name ls) (replies ++ responses.Refused LogFault ∷ []) first last) are
      (subst (λ rs. HaveReplies moment (lines_read name (requests_done turns)) rs first last) given have)) long fine asks may

pub session_so : {L : Type 0} (moment : L → Moment) → ServedSessionsGoOn moment → (name : List ℕ) (threads rms : ℕ) (handed left : L) (first last : Server L)
    (text unread written : List ℕ) → StartsOver moment threads rms handed first
    → ServesUnder moment name (greeting_of first) (Some text) (Some unread) (Some []) (Some written) first last → left ≡ log_in last.session.manager
    → IsSessionOver moment name handed text written left
session_so moment law name threads rms handed left first last text unread written starts serves log = record {
  told = record {
    read = serves.read;
    unread = unread;
    greeting = greeting_of first;
    turns = serves.turns;
    whole = serves.consumed;
    lines = serves.lines;
    replied = serves.appended;
    ends = serves.ends;
  };
  last = last;
  log = log;
  honest = λ honest.
      starts.over.honest ((replies_keep moment (lines_read name (requests_done serves.turns)) (replies_given serves.turns) first last serves.replied).honest
      (there honest));
  goes_on = λ lines replies were honest. goes_on moment law name threads rms handed first last starts (there honest) serves.turns lines replies serves.replied were;
}
  where
    there : (moment left).is_honest → (moment (log_in last.session.manager)).is_honest
    there honest = subst (λ l. (moment l).is_honest) log honest

-- ** what an open finds

module _ (s : State) (opens : Opens s) (live : IsLive s) where
  tables_of : (schema : Schema) → IsSound schema s.now.trees → s.now.schema ≡ schema
  tables_of schema sound = lists_once (s.now.trees catalog_tree) s.now.schema schema (live opens.is_open).0.lists sound.lists

  trees_now : s.now.trees ≡ s.committed.trees
  trees_now = λ i. (opens.clean i).trees

  blank : (image : Image) → length image.db ≡ 0 → FindsLogIn image s → IsBlank s
  blank image none found =
      let empty = none_found image s.committed.trees none found.reads in
      tables_of _ (subst (IsSound _) (sym trees_now) (empty_is_sound s.committed.trees empty.1))

  -- the log that is made of it has what the files hold
  pub content_so : (new : State) (image : Image) (c : Content) → FindsLogIn image s → Prepares s new (Ok tt) → IsHeldInFiles c image → content_in new ≡ Some c
  content_so new image c found taken (inl (none, is)) = ready_content nothing new (taken.made (blank image none found)) ∙ ap Some (sym is)
  content_so new image c found taken (inr (inl whole)) = found_whole c image s new opens live found whole taken
  content_so new image c found taken (inr (inr finds)) =
      let it = finds s.committed.trees found.reads in
      let log : AreLogTrees s.now.trees = subst AreLogTrees (sym trees_now) it.0 in
      let ready = taken.found (record { opens = opens; live = live; log = log }) in
      ready_content _ new ready ∙ ap (λ db. Some (content_of db)) trees_now ∙ ap Some it.1

-- a log over such files is in order
pub order_so : (P : Type 0) (image : Image) (c : Content) → (HoldsLog image → P) → (HoldsLogOrNothing image → P) → IsHeldInFiles c image → P
order_so P image c order found (inl (none, is)) = order (inl none)
order_so P image c order found (inr (inl whole)) = order (whole_holds c image whole)
order_so P image c order found (inr (inr finds)) = found (λ db at. inr (inr (finds db at).0))

-- ** two processes

-- where nothing is, no branch is found decided
none_found_in : (name : List ℕ) (c : Content) → AreFoundDecided name (λ r x. Unstarted) c []
none_found_in name c = All-nil (λ b. (under name (λ r x. Unstarted) b ≡ Prepared) × IsLogged (Some c) b.gtrid)

module _ {L M : Type 0} (moment : L → Moment) (later : M → Moment) (begin : SessionsBegin) (alike : LeftSessionsAgree) (name : List ℕ) where
  none_logged : IsEmptyLog nothing
  none_logged = record { no_rows = len-empty _ _; no_records = len-empty _ _ }

  begun : HaveLeft name (λ r x. Unstarted) nothing []
  begun = begin name nothing none_logged

  -- a log that was opened over files with this content, and that was honest to the end of its
  -- session, holds it
  holds_opened : {N : Type 0} (at : N → Moment) (image : Image) (text written : List ℕ) (left : N) (p : IsProcess at image name text written left)
      → (at left).is_honest → (c : Content) → IsHeldInFiles c image → HoldsLeft at c p.opened
  holds_opened at image text written left p honest c holds = record {
    order = p.order c holds;
    content = c;
    has = p.finds c holds (p.session.honest honest);
    same = record { decisions = refl; heuristics = refl };
    raised = let least : c.incarnation ≤ c.incarnation = omega arith in least;
  }

  leaves_last : {N : Type 0} (at : N → Moment) (left : N) (last : Server N) (c : Content) → left ≡ log_in last.session.manager → LeavesIt (at left) c
      → LeavesContent at last.session.manager c
  leaves_last at left last c is leaves = subst (λ l. LeavesIt (at l) c) is leaves

  append_none : {A : Type 0} (xs : List A) → xs ++ [] ≡ xs
  append_none [] = refl
  append_none (x ∷ xs) = ap (λ rest. x ∷ rest) (append_none xs)

  pub agree_after : (image found : Image) (one two one_written two_written : List ℕ) (mid : L) (left : M)
      (first : IsProcess moment image name one one_written mid) (second : IsProcess later found name two two_written left) (content : Content)
      (one_lines two_lines : List (List ℕ)) (one_replies two_replies : List Response) → IsHeldInFiles nothing image → (moment mid).is_honest
      → LeavesIt (moment mid) content → IsHeldInFiles content found → (later left).is_honest
      → WereReplied name first.session.told.turns one_lines one_replies → WereReplied name second.session.told.turns two_lines two_replies
      → AgreeAfterBoth later name content left one_lines two_lines one_replies two_replies
  agree_after image found one two one_written two_written mid left first second content one_lines two_lines one_replies two_replies empty honest leaves
      holds honest_left one_were two_were =
      let a = first.session.goes_on one_lines one_replies one_were honest in
      let b = second.session.goes_on two_lines two_replies two_were honest_left in
      let one_has = holds_opened moment image one one_written mid first honest nothing empty in
      let two_has = holds_opened later found two two_written left second honest_left content holds in
      record {
        one = a.start;
        two = b.start;
        one_seen = a.seen;
        two_seen = b.seen;
        later = b.raised content two_has;
        one_told = a.told;
        two_told = b.told;
        agree = λ one_done one_cut two_done two_cut from to decided c one_may two_may are_decided left_so.
            let after_one = a.leaves (λ r x. Unstarted) from nothing content [] [] one_done one_cut begun (none_found_in name nothing) one_has
            (begun_under name (λ f. MayAllStand a.start a.seen (λ b. Comes a.seen b (broken (f b))) one_done one_cut (under name from)) one_may)
            (leaves_last moment mid first.session.last content first.session.log leaves) in
            let after_two = b.leaves from to content c [] decided two_done two_cut after_one are_decided two_has two_may
            (leaves_last later left second.session.last c second.session.log left_so) in
            alike name to c decided (subst (HaveLeft name to c) (append_none decided) after_two);
      }

-- ** two managers beside each other

module _ {L : Type 0} (moment : L → Moment) (begin : SessionsBegin) (law : ManagersAgree) where
  -- one of them, whose log was empty
  module _ (name : List ℕ) (handed left : L) (text written : List ℕ) (is : IsSessionOver moment name handed text written left)
      (empty : HoldsNothing (moment handed)) (honest : (moment left).is_honest) (lines : List (List ℕ)) (replies : List Response)
      (were : WereReplied name is.told.turns lines replies) where
    found : (c : Content) × ((moment handed).content ≡ Some c) × IsEmptyLog c
    found = some_is (moment handed).content IsEmptyLog empty.1

    abbrev on : GoesOnFromLeft moment name lines replies handed is.last
    on = is.goes_on lines replies were honest

    pub has_left : (F : Databases) (c : Content) (done cut : List Line) → LeavesIt (moment left) c
        → MayAllStand on.start on.seen (λ b. Comes on.seen b Unstarted) done cut (under name F) → HaveLeft name F c []
    has_left F c done cut leaves may =
        on.leaves (λ r x. Unstarted) F found.0 c [] [] done cut (begin name found.0 found.2) (none_found_in name found.0)
        (record {
          order = empty.0;
          content = found.0;
          has = found.1;
          same = record { decisions = refl; heuristics = refl };
          raised = let least : found.0.incarnation ≤ found.0.incarnation = omega arith in least;
        }) (begun_under name (λ f. MayAllStand on.start on.seen (λ b. Comes on.seen b (broken (f b))) done cut (under name F)) may)
        (subst (λ l. LeavesIt (moment l) c) is.log leaves)

  pub beside_so : (m n : List ℕ) (log other left beside : L) (first second first_written second_written : List ℕ)
      → IsSessionOver moment m log first first_written left → IsSessionOver moment n other second second_written beside
      → AreServedBeside moment m n log other first second first_written second_written
  beside_so m n log other left beside first second first_written second_written one two = record {
    left = left;
    beside = beside;
    one = one;
    two = two;
    agree = λ c d one_lines two_lines one_replies two_replies differ empty empty_too honest honest_too were were_too leaves leaves_too.
        let a = one.goes_on one_lines one_replies were honest in
        let b = two.goes_on two_lines two_replies were_too honest_too in
        record {
          one = a.start;
          two = b.start;
          one_seen = a.seen;
          two_seen = b.seen;
          one_told = a.told;
          two_told = b.told;
          agree = λ one_done one_cut two_done two_cut F one_may two_may.
              law F m n c d [] [] differ
              (has_left m log left first first_written one empty honest one_lines one_replies were F c one_done one_cut leaves one_may)
              (has_left n other beside second second_written two empty_too honest_too two_lines two_replies were_too F d two_done two_cut leaves_too two_may);
        };
  }
