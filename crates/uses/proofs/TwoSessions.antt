-- Two sessions of one log.
use Rattle.std.proofs.Common.{◌≡◌, ◌≢◌, ◌∙◌, ◌≤◌, ◌<◌, ◌⊎◌, inl, inr, ℕ, Bool, true, false, List, [], ◌∷◌, ◌++◌, Some, None, IsSomeAnd, refl, sym, ap, subst, arith}
use Rattle.std.specs.Prelude.{if◌then◌else◌}
use Rattle.std.specs.List.{list_any}
use Rattle.xa_base.proofs.BranchKeys.{branch_eq-true}
use Rattle.xa_base.specs.Branch.{branch_eq}
use Rattle.xa_base.specs.StateTable.{asks_of, broken}
use Rattle.xa_base.specs.declared.state.Standing.{Standing}
use Rattle.xa_base.specs.declared.state.Standing.TheVariants.{Committed, Completed, Forgotten, Prepared, Unstarted}
use Rattle.xa_base.specs.declared.branch.Gtrid.{Gtrid}
use Rattle.xa_server.proofs.LogLemmas.{replies_keep}
use Rattle.xa_server.proofs.TurnLemmas.{nothing_is_left}
use Rattle.xa_server.proofs.WithoutName.{lines_as_are}
use Rattle.xa_server.specs.Lines.{text_lines}
use Rattle.xa_server.specs.Replies.{greeting_of}
use Rattle.xa_server.specs.Serving.{HaveReplies, replies_given, requests_done}
use Rattle.xa_server.specs.Sessions.{AreServed, AreServed.NoneYet, AreServed.OneMore, CommitStandsInLog, HoldsLeft, IsEmptyLog, IsHandedOn, IsSession, IsSessionLeft.AfterLine, ServedCommitsStand, ServedLogsDecide, ServedSessionsAgree, ServedSessionsAreSeen, StartsOver, WasFoundDecidedInLog}
use Rattle.xa_server.specs.Telling.{HaveTold, is_log_fault}
use Rattle.xa_server.specs.Transactions.{AreServedFor.NoneYet as NoneYetFor, AreServedFor.OneMore as OneMoreFor, MayStandFor, MayStandFor.AsTold as AsToldFor, MayStandFor.CutOff as CutOffFor, MayStandFor.EndedAlone as EndedAloneFor, MayStandFor.UnderWay as UnderWayFor, ServedTransactionsAgree}
use Rattle.xa_server.specs.Votes.{VotedCommitsAreLogged}
use Rattle.xa_server.specs.Rows.{is_gtrid_among}
use Rattle.xa_server.specs.declared.server.Server.{Server}
use Rattle.xa_log.specs.Content.{Content, with_bump}
use Rattle.xa_log.specs.Contract.{Honestly, Moment}
use Rattle.xa_model.specs.Promises.Agreement.{IsUndone}
use Rattle.xa_model.specs.Trace.{Branch, Line, Origin}
use Rattle.xa_names.specs.Laws.{LinesStay}
use Rattle.xa_requests.specs.declared.response.Response.{Response}
use Rattle.xa_session.proofs.LogStarts.{later_sessions_are_newer}
use Rattle.xa_session.specs.Logging.{HoldsItsBook, KeepsLog}
use Rattle.xa_monitor.specs.Agreement.{MayAllStand, MayAllStand.AsTold}
use Rattle.xa_monitor.specs.Seen.{Seen, Seen.Start}
use Rattle.xa_monitor.specs.Sessions.{IsCommitting}
use Rattle.xa_monitor.specs.Standings.{Comes, ExplainsAsked}
use Rattle.xa_tm.specs.Calls.{book_in, log_in}
use Rattle.xa_sql_log.proofs.FoundDecisions.{some_is as there_is}
use Rattle.uses.specs.Sessions.{AreServedTo, AreServedTwice, EndDecided, EndedAlone, EndsCommitted, IsReplied, IsServedOver, IsServedTwice}
use Rattle.uses.specs.Transactions.{AgreeApart, AreServedApartFrom}
use Rattle.uses.proofs.Sessions.{start_of, begins_so, rows_logged}

is_replied : {L : Type 0} (moment : L → Moment) (threads rms : ℕ) (handed left : L) (text written : List ℕ)
    → IsServedOver moment threads rms handed text written left → IsReplied text written
is_replied moment threads rms handed left text written is = record {
  read = is.serves.read;
  unread = is.unread;
  greeting = greeting_of is.first;
  turns = is.serves.turns;
  whole = is.serves.consumed;
  lines = is.serves.lines;
  replied = is.serves.appended;
  ends = is.serves.ends;
}

-- where a branch ends that is to commit
committing_ends : (s : Standing) → IsCommitting s → (s ≡ Prepared → ⊥) → (s ≡ Committed) ⊎ EndedAlone s
committing_ends Prepared h n = absurd (n refl)
committing_ends Committed h n = inl refl
committing_ends (Completed how) h n = inr tt
committing_ends (Forgotten how) h n = inr tt
committing_ends _ h n = absurd h

committing_stays : (s : Standing) → IsCommitting s → IsUndone s → ⊥
committing_stays s h (inl e) = subst IsCommitting e h
committing_stays s h (inr e) = subst IsCommitting e h

ends_committed : (f : Branch → Standing) (c : Content) (b : Branch) → CommitStandsInLog f c b → EndsCommitted f c b
ends_committed f c b stands = record {
  never_undone = committing_stays (f b) stands.commits;
  in_the_end = λ gone. committing_ends (f b) stands.commits (λ prepared. let row = stands.row_stays prepared in let no : ⊥ = cc in no);
}

-- ** one transaction alone

-- no branch of another transaction is one of this
not_other : (h : Gtrid) (d b : Branch) (z s : Standing) → d.gtrid ≢ h → b.gtrid ≡ h → (if branch_eq d b then z else s) ≡ s
not_other h d b z s other is = by (branch_eq d b) refl
  where
    by : (t : Bool) → branch_eq d b ≡ t → (if t then z else s) ≡ s
    by true e = absurd (other (ap (λ (y : Branch). y.gtrid) (branch_eq-true d b e) ∙ is))
    by false e = refl

-- where the branches of other transactions stand isn't said
stands_too : (g : Gtrid) (o : Origin) (seen : Seen) (Told : Branch → Standing → Type 0) (done cut : List Line) (f k : Branch → Standing)
    → ((b : Branch) → b.gtrid ≡ g → k b ≡ f b) → MayStandFor g o seen Told done cut f → MayStandFor g o seen Told done cut k
stands_too g o seen Told _ _ f k same (AsToldFor _ told) = AsToldFor k (λ b is. subst (Told b) (sym (same b is)) (told b is))
stands_too g o seen Told _ _ f k same (UnderWayFor done cut from _ l c before of free waits so) =
    UnderWayFor done cut from k l c before of free waits
    (so.0, λ b is. subst (λ s. ExplainsAsked (asks_of c) so.0 b (from b) s) (sym (same b is)) (so.1 b is))
stands_too g o seen Told _ _ f k same (CutOffFor done cut from _ l before so) =
    CutOffFor done cut from k l before (λ b is. same b is ∙ so b is)
stands_too g o seen Told _ _ f k same (EndedAloneFor done cut from _ d how before was so) =
    EndedAloneFor done cut from k d how before was (λ b is. same b is ∙ so b is)

-- ** two sessions

module _ {L : Type 0} (moment : L → Moment) (agree : ServedSessionsAgree moment) (are_seen : ServedSessionsAreSeen moment) (stay : LinesStay)
    (threads rms : ℕ) where
  -- what lines and replies tell of a session over a log, of a manager without a name
  seen_in : (handed : L) (first last : Server L) (lines : List (List ℕ)) (replies : List Response) → StartsOver moment threads rms handed first
      → HaveReplies moment lines replies first last → list_any is_log_fault replies ≡ false
      → (more : Seen) × HaveTold threads lines replies Start more × IsSession moment [] handed (start_of threads rms first) more last
  seen_in handed first last lines replies starts have none =
      let as_are = lines_as_are stay lines in
      let told = are_seen [] threads rms lines replies handed first last starts
      (subst (λ ls. HaveReplies moment ls replies first last) (sym as_are) have) none (start_of threads rms first) (begins_so threads rms first) in
      (told.0, subst (λ ls. HaveTold threads ls replies Start told.0) as_are told.1, told.2)

  -- a driver that says nothing
  none_read : (read unread : List ℕ) → [] ≡ read ++ unread → read ≡ []
  none_read [] unread e = refl
  none_read (x ∷ read) unread e = absurd (cc)

  -- a log in order holds what it has
  holds_it : (handed : L) → (moment handed).is_in_order → (c : Content) → (moment handed).content ≡ Some c → HoldsLeft moment c handed
  holds_it handed order c has = record {
    order = order;
    content = c;
    has = has;
    same = record { decisions = refl; heuristics = refl };
    raised = let least : c.incarnation ≤ c.incarnation = omega arith in least;
  }

  empty_handed : (handed : L) → (moment handed).is_in_order → IsSomeAnd (moment handed).content IsEmptyLog → IsHandedOn moment None handed
  empty_handed handed order empty =
      let found = there_is (moment handed).content IsEmptyLog empty in
      record { left = found.0; was_left = found.2; holds = holds_it handed order found.0 found.1 }

  pub silent_so : (handed left : L) (written : List ℕ) → IsServedOver moment threads rms handed [] written left → Honestly (moment handed) (moment left)
      (IsSomeAnd (moment handed).content IsEmptyLog → AreServedTo moment left (λ b. Unstarted))
  silent_so handed left written is order honest empty =
      let none = none_read is.serves.read is.unread is.serves.consumed in
      let silent = nothing_is_left (λ turn. turn.line) is.serves.turns (is.serves.lines.are ∙ ap text_lines none) in
      let none_have = subst (λ turns. HaveReplies moment (requests_done turns) (replies_given turns) is.first is.last) silent is.serves.replied in
      let s = seen_in handed is.first is.last [] [] is.starts none_have refl in (
        is.last,
        is.log,
        OneMore None (λ c. Unstarted) (λ c. Unstarted) handed (start_of threads rms is.first) s.0 s.0 is.last is.last [] [] NoneYet
            (empty_handed handed order empty) s.2 AfterLine (subst (λ log. (moment log).is_honest) is.log honest)
            (AsTold (λ c. Unstarted) (λ c. subst (λ seen. Comes seen c Unstarted Unstarted) (sym s.1) refl)),
      )

  module _ (handed : L) (order : (moment handed).is_in_order) (empty : IsSomeAnd (moment handed).content IsEmptyLog) (a b x y : Server L)
      (one_lines two_lines : List (List ℕ)) (one_replies two_replies : List Response) (one : StartsOver moment threads rms handed a)
      (two : StartsOver moment threads rms (log_in b.session.manager) x) (one_have : HaveReplies moment one_lines one_replies a b)
      (two_have : HaveReplies moment two_lines two_replies x y) (one_well : list_any is_log_fault one_replies ≡ false)
      (two_well : list_any is_log_fault two_replies ≡ false) (honest : (moment (log_in y.session.manager)).is_honest) where
    x_honest : (moment (log_in x.session.manager)).is_honest
    x_honest = (replies_keep moment two_lines two_replies x y two_have).honest honest

    b_honest : (moment (log_in b.session.manager)).is_honest
    b_honest = two.over.honest x_honest

    one_keeps : KeepsLog moment a.session.manager b.session.manager
    one_keeps = replies_keep moment one_lines one_replies a b one_have

    mid_order : (moment (log_in b.session.manager)).is_in_order
    mid_order = one_keeps.order (one.over.order order)

    s : (more : Seen) × HaveTold threads one_lines one_replies Start more × IsSession moment [] handed (start_of threads rms a) more b
    s = seen_in handed a b one_lines one_replies one one_have one_well

    t : (more : Seen) × HaveTold threads two_lines two_replies Start more × IsSession moment [] (log_in b.session.manager) (start_of threads rms x) more y
    t = seen_in (log_in b.session.manager) x y two_lines two_replies two two_have two_well

    mid_content : (c : Content) × ((moment (log_in b.session.manager)).content ≡ Some c) × ((moment (log_in x.session.manager)).content ≡ Some (with_bump c))
    mid_content = there_is (moment (log_in b.session.manager)).content _ (two.over.raised mid_order x_honest)

    second_handed : IsHandedOn moment (Some b) (log_in b.session.manager)
    second_handed = record {
      left = mid_content.0;
      was_left = inl mid_content.1;
      holds = holds_it (log_in b.session.manager) mid_order mid_content.0 mid_content.1;
    }

    all : (one_done one_cut two_done two_cut : List Line) (from to : Branch → Standing)
        → MayAllStand (start_of threads rms a) s.0 (λ c. Comes s.0 c Unstarted) one_done one_cut from
        → MayAllStand (start_of threads rms x) t.0 (λ c. Comes t.0 c (broken (from c))) two_done two_cut to → AreServed moment [] (Some y) to
    all one_done one_cut two_done two_cut from to one_may two_may =
        OneMore (Some b) from to (log_in b.session.manager) (start_of threads rms x) t.0 t.0 y y two_done two_cut
        (OneMore None (λ c. Unstarted) from handed (start_of threads rms a) s.0 s.0 b b one_done one_cut NoneYet (empty_handed handed order empty) s.2
        AfterLine b_honest one_may)
        second_handed t.2 AfterLine honest two_may

    holds_mid : HoldsItsBook moment true b.session.manager
    holds_mid = one_keeps.holds true (one.over.order order) b_honest (one.holds order (one_keeps.honest b_honest))

    later : (book_in a.session.manager).incarnation < (book_in x.session.manager).incarnation
    later =
        let from = one_keeps.incarnation in
        let newer = later_sessions_are_newer moment b.session.manager x.session.manager (log_in b.session.manager) mid_content.0 holds_mid (record {
          threads = threads;
          rms = rms;
          left = inl mid_content.1;
          content = mid_content.1;
          over = two.over;
        }) mid_order x_honest in
        omega (arith, from, newer)

    -- the second session found a decided branch that stood prepared
    found_decided : VotedCommitsAreLogged moment → (gs : List Gtrid)
        → EndDecided one_lines one_replies gs → (one_done one_cut two_done two_cut : List Line) (from to : Branch → Standing)
        (one_may : MayAllStand (start_of threads rms a) s.0 (λ c. Comes s.0 c Unstarted) one_done one_cut from)
        (two_may : MayAllStand (start_of threads rms x) t.0 (λ c. Comes t.0 c (broken (from c))) two_done two_cut to)
        (d : Branch) → is_gtrid_among gs d.gtrid ≡ true → from d ≡ Prepared
        → WasFoundDecidedInLog moment [] d (Some y) to (all one_done one_cut two_done two_cut from to one_may two_may)
    unfolding all
    found_decided law gs end one_done one_cut two_done two_cut from to one_may two_may d among prepared =
        inl (prepared, rows_logged moment law threads rms handed a b one_lines one_replies one one_have order b_honest gs d.gtrid end among)

    pub are_served : ServedLogsDecide moment → ServedCommitsStand moment → VotedCommitsAreLogged moment
        → AreServedTwice (moment (log_in y.session.manager)).content one_lines two_lines one_replies two_replies
    are_served decide stand law = record {
      one = start_of threads rms a;
      two = start_of threads rms x;
      one_seen = s.0;
      two_seen = t.0;
      later = later;
      one_told = s.1;
      two_told = t.1;
      agree = λ one_done one_cut two_done two_cut from to one_may two_may.
          let served = all one_done one_cut two_done two_cut from to one_may two_may in
          (agree [] (Some y) to served, λ c is. decide [] y to c served (inl is));
      commits = λ gs end one_done one_cut two_done two_cut from to one_may two_may d among prepared c is.
          ends_committed to c d (stand [] y to c d (all one_done one_cut two_done two_cut from to one_may two_may)
          (found_decided law gs end one_done one_cut two_done two_cut from to one_may two_may d among prepared) (inl is));
    }

    -- one transaction alone: where the branches of others stand isn't asked
    agree_apart : ServedTransactionsAgree moment
        → AgreeApart (moment (log_in y.session.manager)).content one_lines two_lines one_replies two_replies
    agree_apart law = record {
      one = start_of threads rms a;
      two = start_of threads rms x;
      one_seen = s.0;
      two_seen = t.0;
      later = later;
      one_told = s.1;
      two_told = t.1;
      apart = λ h d z one_done one_cut two_done two_cut from amid to c other one_may by_hand two_may is.
          let found = there_is (moment handed).content IsEmptyLog empty in
          law [] h c to
          (OneMoreFor mid_content.0 c amid to (log_in b.session.manager) (start_of threads rms x) t.0 t.0 y y two_done two_cut
          (OneMoreFor found.0 mid_content.0 (λ e. Unstarted) amid handed (start_of threads rms a) s.0 s.0 b b one_done one_cut
          (NoneYetFor found.0 found.2) (holds_it handed order found.0 found.1) s.2 AfterLine b_honest
          (stands_too h (start_of threads rms a) s.0 (λ e. Comes s.0 e Unstarted) one_done one_cut from amid
          (λ e is_of. by_hand e ∙ not_other h d e z (from e) other is_of) one_may) (inl mid_content.1))
          (holds_it (log_in b.session.manager) mid_order mid_content.0 mid_content.1) t.2 AfterLine honest two_may (inl is));
    }

  -- what is said of a log that two sessions leave
  abbrev ServesLeft : L → (first second first_written second_written : List ℕ) → L → Type 0
  ServesLeft handed first second first_written second_written log = Honestly (moment handed) (moment log)
      (IsSomeAnd (moment handed).content IsEmptyLog → IsServedTwice (moment log).content first second first_written second_written)

  serves_left : ServedLogsDecide moment → ServedCommitsStand moment → VotedCommitsAreLogged moment → (handed mid left : L)
      (first second first_written second_written : List ℕ) → IsServedOver moment threads rms handed first first_written mid
      → (two : IsServedOver moment threads rms mid second second_written left)
      → ServesLeft handed first second first_written second_written (log_in two.last.session.manager)
  unfolding is_replied
  serves_left decide stand law handed mid left first second first_written second_written one two order honest empty = record {
    one = is_replied moment threads rms handed mid first first_written one;
    two = is_replied moment threads rms mid left second second_written two;
    served = λ one_well two_well.
        are_served handed order empty one.first one.last two.first two.last (requests_done one.serves.turns) (requests_done two.serves.turns)
        (replies_given one.serves.turns) (replies_given two.serves.turns) one.starts
        (subst (λ log. StartsOver moment threads rms log two.first) one.log two.starts) one.serves.replied
        two.serves.replied one_well two_well honest decide stand law;
  }

  pub served_so : ServedLogsDecide moment → ServedCommitsStand moment → VotedCommitsAreLogged moment → (handed mid left : L)
      (first second first_written second_written : List ℕ) → IsServedOver moment threads rms handed first first_written mid
      → IsServedOver moment threads rms mid second second_written left → Honestly (moment handed) (moment left)
      (IsSomeAnd (moment handed).content IsEmptyLog → IsServedTwice (moment left).content first second first_written second_written)
  served_so decide stand law handed mid left first second first_written second_written one two =
      subst (ServesLeft handed first second first_written second_written) (sym two.log)
      (serves_left decide stand law handed mid left first second first_written second_written one two)

  -- the same of one transaction alone
  abbrev LeavesApart : L → (first second first_written second_written : List ℕ) → L → Type 0
  LeavesApart handed first second first_written second_written log = Honestly (moment handed) (moment log)
      (IsSomeAnd (moment handed).content IsEmptyLog → AreServedApartFrom (moment log).content first second first_written second_written)

  leaves_apart : ServedTransactionsAgree moment → (handed mid left : L) (first second first_written second_written : List ℕ)
      → IsServedOver moment threads rms handed first first_written mid
      → (two : IsServedOver moment threads rms mid second second_written left)
      → LeavesApart handed first second first_written second_written (log_in two.last.session.manager)
  unfolding is_replied
  leaves_apart law handed mid left first second first_written second_written one two order honest empty = record {
    one = is_replied moment threads rms handed mid first first_written one;
    two = is_replied moment threads rms mid left second second_written two;
    served = λ one_well two_well.
        agree_apart handed order empty one.first one.last two.first two.last (requests_done one.serves.turns)
        (requests_done two.serves.turns)
        (replies_given one.serves.turns) (replies_given two.serves.turns) one.starts
        (subst (λ log. StartsOver moment threads rms log two.first) one.log two.starts) one.serves.replied
        two.serves.replied one_well two_well honest law;
  }

  pub apart_so : ServedTransactionsAgree moment → (handed mid left : L) (first second first_written second_written : List ℕ)
      → IsServedOver moment threads rms handed first first_written mid → IsServedOver moment threads rms mid second second_written left
      → LeavesApart handed first second first_written second_written left
  apart_so law handed mid left first second first_written second_written one two =
      subst (LeavesApart handed first second first_written second_written) (sym two.log)
      (leaves_apart law handed mid left first second first_written second_written one two)
