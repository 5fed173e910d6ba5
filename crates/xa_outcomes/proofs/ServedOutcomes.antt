-- What servers told of outcomes is so, after all sessions.
use Rattle.std.proofs.Common.{◌≡◌, ◌∙◌, ◌≤◌, ◌⊎◌, inl, inr, ℕ, Bool, true, false, ◌&&◌, ◌||◌, List, [], ◌∷◌, Option, Some, None, refl, sym, ap, subst}
use Rattle.std.proofs.lemmas.Bool.{and_parts, eq-eqb, true≢false}
use Rattle.std.specs.FinMap.{get}
use Rattle.std.specs.List.{list_any}
use Rattle.std.specs.Ordering.{eq_by_cmp}
use Rattle.std.specs.Global.{Vec}
use Rattle.std.specs.Prelude.{MatchBool, if◌then◌else◌, is_some, nat_eq, nat_lt, unwrap_or}
use Rattle.xa_base.proofs.BranchKeys.{branch_eq-refl}
use Rattle.xa_base.specs.Branch.{branch_cmp, branch_eq, gtrid_eq}
use Rattle.xa_base.specs.StateTable.{broken}
use Rattle.xa_base.specs.Xid.{Xid}
use Rattle.xa_base.specs.declared.answer.Answer.TheVariants.{Ret}
use Rattle.xa_base.specs.declared.branch.Gtrid.{Gtrid}
use Rattle.xa_base.specs.declared.call.Call.TheVariants as Calls
use Rattle.xa_base.specs.declared.code.Code.TheVariants.{Heuristic, Success}
use Rattle.xa_base.specs.declared.refusal.Refusal.TheVariants.{Limit, Memory}
use Rattle.xa_base.specs.declared.state.Standing.{Standing}
use Rattle.xa_base.specs.declared.state.Standing.TheVariants.{Committed, Completed, Prepared}
use Rattle.xa_base.proofs.BranchOrder.{branches_total}
use Rattle.xa_base.proofs.Orders.{branch_swap}
use Rattle.xa_log.specs.Content.{Content, participants_of, with_bump}
use Rattle.xa_log.specs.Contract.{Moment}
use Rattle.xa_log.specs.KeySet.{KeySet, contains, contains-empty, contains-from_list, from_list}
use Rattle.xa_log.specs.KeySet.{empty as nobody}
use Rattle.xa_model.specs.Facts.{has_branch, participants_in}
use Rattle.xa_model.specs.Trace.{Answer, Branch, Call, How, Line, Origin, Row}
use Rattle.xa_monitor.specs.Agreement.{MayAllStand, MayAllStand.AsTold, MayAllStand.CutOff, MayAllStand.EndedAlone, MayAllStand.UnderWay}
use Rattle.xa_monitor.specs.Seen.{Seen, Seen.Answered}
use Rattle.xa_monitor.specs.Standings.{Comes}
use Rattle.xa_outcomes.proofs.Decided.{found_commits, voter_in_row, will_commit}
use Rattle.xa_outcomes.proofs.HeuristicEnds.{ends_stay}
use Rattle.xa_outcomes.proofs.OneHistory.{are_parts}
use Rattle.xa_outcomes.proofs.Undecided.{never_committed, uncommitted}
use Rattle.xa_outcomes.proofs.ServedSessions.{all_on}
use Rattle.xa_outcomes.specs.Outcomes.{IsDecidedAfterVote, IsUndecidedSoFar, SaidYes, TellsHeuristic, WillCommit}
use Rattle.xa_outcomes.specs.Served.{FoundRowsWillCommit, IsUntoldSoFar, NeverToldIsNeverCommitted, OwedAreLogged, OwedTellsOfRows, ServedSessionsAreParts, ToldDecidedWillCommit, ToldHeuristicEndsStay, UntoldIsLeftUndecided, WasToldYes}
use Rattle.xa_requests.specs.declared.response.Response.TheVariants as responses
use Rattle.xa_server.proofs.LeftLogs.{listed, raised_once, start_of}
use Rattle.xa_server.proofs.SessionChains.{Laws}
use Rattle.xa_server.specs.Recoveries.{PerformsOwed, TellsOwed}
use Rattle.xa_server.specs.Sessions.{AreServed, AreServed.Between, AreServed.NoneYet, AreServed.OneMore, WasLeft}
use Rattle.xa_server.specs.Transactions.{AreServedFor, AreServedFor.Between as BetweenFor, AreServedFor.NoneYet as NoneYetFor, AreServedFor.OneMore as OneMoreFor, HasNoRowOf, MayStandFor, MayStandFor.AsTold as AsToldFor, MayStandFor.CutOff as CutOffFor, MayStandFor.EndedAlone as EndedAloneFor, MayStandFor.UnderWay as UnderWayFor, MayTurn, MayTurn.EndsByItself, WasLeftUndecided}
use Rattle.xa_server.specs.declared.server.Server.{Server}
use Rattle.xa_session.specs.Logging.{LeavesContent}
use Rattle.xa_tm.specs.Book.{Waiting, row_in}
use Rattle.xa_tm.specs.Calls.{book_in}
use Rattle.xa_tm.specs.Laws.{StartRowsAreApart}
use Rattle.xa_tm.specs.Owed.{AreOwed}
use Rattle.xa_tm.specs.Starting.{StartsHaveContent}

told_still : (b : Branch) (how : How) (seen : Seen) (l : Line) (c : Call) (a : Answer) → TellsHeuristic b how seen → TellsHeuristic b how (Answered seen l c a)
told_still b how seen l c (Ret (Heuristic h)) t = inr t
told_still b how seen l c _ t = t

said_still : (b : Branch) (seen : Seen) (l : Line) (c : Call) (a : Answer) → SaidYes b seen → SaidYes b (Answered seen l c a)
said_still b seen l (Calls.Prepare d) (Ret Success) said = inr said
said_still b seen l _ _ said = said

none : Gtrid
none = record { incarnation = 0; sequence = 0 }

module _ {L : Type 0} (moment : L → Moment) (laws : Laws L) where
  pub are_served_parts : ServedSessionsAreParts moment
  are_served_parts name last f c next served was from_c =
      let on = all_on moment name laws (λ s. ⊥) (λ s l c a t. t) none last f served c was next from_c in
      let p = are_parts on.log f on.after in
      record {
        history = record {
          whole = p.history.whole;
          right = p.history.right;
          there = p.history.there;
          finds = p.history.finds next on.finds;
          committed = p.history.committed;
          undone = p.history.undone;
        };
        parts = on.parts p.history.whole p.parts;
      }

  module _ (have_content : StartsHaveContent) (are_apart : StartRowsAreApart) where
    pub never_told : NeverToldIsNeverCommitted moment
    never_told name last f c served b left never e =
        let on = all_on moment name laws (λ s. ⊥) (λ s l d a t. t) b.gtrid (Some last) f served c left (start_of c) (raised_once have_content are_apart c) in
        never_committed on.log f on.after b (on.never never) e

    pub told_decided : ToldDecidedWillCommit moment
    told_decided name last f c served b left told =
        let on = all_on moment name laws (IsDecidedAfterVote b) (λ s l d a t. t) none (Some last) f served c left (start_of c)
        (raised_once have_content are_apart c) in
        let will : WillCommit on.log f b = will_commit on.log f on.after b (on.some told) in
        record {
          commits = will.commits;
          none_undone = will.none_undone;
          row_stays = λ d same prepared.
              sym (listed have_content are_apart c b.gtrid) ∙ will.row_stays d (start_of c) same prepared on.finds;
        }

    pub told_heuristic : ToldHeuristicEndsStay moment
    told_heuristic name last f c served b how left told =
        let on = all_on moment name laws (TellsHeuristic b how) (told_still b how) none (Some last) f served c left (start_of c)
        (raised_once have_content are_apart c) in
        ends_stay on.log f on.after b how (on.some told)

    -- ** a decision whose reply never came

    pub found_rows : FoundRowsWillCommit moment
    found_rows name last f c served b left was =
        let on = all_on moment name laws (SaidYes b) (said_still b) b.gtrid (Some last) f served c left (start_of c) (raised_once have_content are_apart c) in
        let will : WillCommit on.log f b = found_commits on.log f on.after b (on.found was) in
        record {
          commits = will.commits;
          none_undone = will.none_undone;
          row_stays = λ d same prepared. sym (listed have_content are_apart c b.gtrid) ∙ will.row_stays d (start_of c) same prepared on.finds;
        }

    none_yet : (name : List ℕ) (last : Server L) (f : Branch → Standing) (c : Content) (served : AreServed moment name (Some last) f) (g : Gtrid)
        → LeavesContent moment last.session.manager c → IsUntoldSoFar moment name g (Some last) f served → (b : Branch) → b.gtrid ≡ g → f b ≡ Committed → ⊥
    none_yet name last f c served g left so_far b same e =
        let on = all_on moment name laws (λ s. ⊥) (λ s l d a t. t) g (Some last) f served c left (start_of c) (raised_once have_content are_apart c) in
        uncommitted on.log f on.after b (subst (λ h. IsUndecidedSoFar h on.log f on.after) (sym same) (on.so_far so_far)) e

-- ** one transaction alone

module _ {L : Type 0} (moment : L → Moment) (name : List ℕ) (g : Gtrid) where
  may_for : (o : Origin) (seen : Seen) (Told : Branch → Standing → Type 0) (done cut : List Line) (f : Branch → Standing)
      → MayAllStand o seen Told done cut f → MayStandFor g o seen Told done cut f
  may_for o seen Told _ _ _ (AsTold f may) = AsToldFor f (λ b is. may b)
  may_for o seen Told _ _ _ (UnderWay done cut from to l c may of uncut waits was) =
      UnderWayFor done cut from to l c (may_for o seen Told done cut from may) of uncut waits (was.0, λ b is. was.1 b)
  may_for o seen Told _ _ _ (CutOff done cut from to l may final) = CutOffFor done cut from to l (may_for o seen Told done cut from may) (λ b is. final b)
  may_for o seen Told _ _ _ (EndedAlone done cut from to d how may was final) =
      EndedAloneFor done cut from to d how (may_for o seen Told done cut from may) was (λ b is. final b)

  ended_there : (d : Branch) (how : How) (from to : Branch → Standing) (t : Bool) → from d ≡ Prepared
      → ((b : Branch) → to b ≡ (if branch_eq d b then Completed how else from b)) → MayTurn t (from d) (to d)
  ended_there d how from to t was final =
      subst (λ s. MayTurn t s (to d)) (sym was)
      (subst (MayTurn t Prepared) (sym (final d ∙ ap (λ u. if u then Completed how else from d) (branch_eq-refl d))) (EndsByItself how))

  served_for : (last : Option (Server L)) (f : Branch → Standing) (served : AreServed moment name last f) (c : Content) → WasLeft moment last c
      → AreServedFor moment name g c f
  served_for _ _ NoneYet c was = NoneYetFor c was
  served_for _ _ (OneMore last from to handed o told seen now left done cut before handed_on is is_left honest may) c was =
      OneMoreFor handed_on.left c from to handed o told seen now left done cut (served_for last from before handed_on.left handed_on.was_left)
      handed_on.holds is is_left honest (may_for o seen (λ b. Comes seen b (broken (from b))) done cut to may) was
  served_for _ _ (Between last from to d how before was_prepared final) c was =
      BetweenFor c from to d (served_for last from before c was) (ended_there d how from to (is_some (get c.decisions g)) was_prepared final)
      (λ b same other. final b ∙ ap (λ t. if t then Completed how else from b) other)

  module _ (none_yet : (last : Server L) (f : Branch → Standing) (c : Content) (served : AreServed moment name (Some last) f)
      → LeavesContent moment last.session.manager c → IsUntoldSoFar moment name g (Some last) f served → (b : Branch) → b.gtrid ≡ g → f b ≡ Committed → ⊥) where
    -- the last of them left it undecided
    left_undecided : (last : Option (Server L)) (f : Branch → Standing) (served : AreServed moment name last f) (c : Content) (was : WasLeft moment last c)
        → is_some last ≡ true → IsUntoldSoFar moment name g last f served → HasNoRowOf c g → g.incarnation ≤ c.incarnation
        → WasLeftUndecided moment name g c f (served_for last f served c was)
    unfolding served_for
    left_undecided _ _ NoneYet c was some so_far no_row older = absurd (true≢false (sym some))
    left_undecided _ _ (OneMore last from to handed o told seen now left done cut before handed_on is is_left honest may) c was some so_far no_row older =
        inl (
          no_row,
          older,
          none_yet left to c (OneMore last from to handed o told seen now left done cut before handed_on is is_left honest may) was so_far,
        )
    left_undecided _ _ (Between last from to d how before was_prepared final) c was some so_far no_row older =
        left_undecided last from before c was some so_far no_row older

module _ {L : Type 0} (moment : L → Moment) (laws : Laws L) (have_content : StartsHaveContent) (are_apart : StartRowsAreApart) where
  pub untold_undecided : UntoldIsLeftUndecided moment
  untold_undecided name last f c served g left so_far = record {
    alone = served_for moment name g (Some last) f served c left;
    uncommitted = none_yet moment laws have_content are_apart name last f c served g left so_far;
    undecided = left_undecided moment name g
        (λ last f c served left so_far b same e. none_yet moment laws have_content are_apart name last f c served g left so_far b same e)
        (Some last) f served c left refl so_far;
  }

-- ** what is owed

row_there : (c : Content) (b : Branch) → contains (participants_of c b.gtrid) b ≡ true → is_some (get c.decisions b.gtrid) ≡ true
row_there c b has = by (get c.decisions b.gtrid) has
  where
    by : (x : Option (KeySet branch_cmp)) → contains (unwrap_or x nobody) b ≡ true → is_some x ≡ true
    by (Some set) e = refl
    by None e = absurd (true≢false (sym e ∙ contains-empty branch_cmp b))

any_is : (ps : List Branch) (b : Branch) → list_any (eq_by_cmp branch_cmp b) ps ≡ has_branch ps b
any_is [] b = refl
any_is (p ∷ ps) b = (λ i. branch_swap p b i || any_is ps b i)

abbrev waits_in : Option Waiting → Branch → Bool
waits_in None b = false
waits_in (Some set) b = contains set b

waits_is : (xs : List Row) (g : Gtrid) (b : Branch) → has_branch (participants_in xs g) b ≡ waits_in (row_in xs g) b
waits_is [] g b = refl
waits_is (x ∷ xs) g b = by (gtrid_eq x.gtrid g) (waits_is xs g b)
  where
    by : (t : Bool) → has_branch (participants_in xs g) b ≡ waits_in (row_in xs g) b
        → has_branch (if t then x.participants else participants_in xs g) b
        ≡ waits_in (if t then Some (from_list x.participants) else row_in xs g) b
    by true rest = sym (contains-from_list branches_total x.participants b ∙ any_is x.participants b)
    by false rest = rest

waits_at : (x : Option Waiting) (b : Branch) → waits_in x b ≡ true → contains (unwrap_or x nobody) b ≡ true
waits_at (Some set) b e = e
waits_at None b e = absurd (true≢false (sym e))

same_truth : (s t : Bool) → (s ≡ true → t ≡ true) → (t ≡ true → s ≡ true) → s ≡ t
same_truth true t f g = sym (f refl)
same_truth false true f g = g refl
same_truth false false f g = refl

-- the reply lists what the book owes
owed_of : {L : Type 0} (first : Server L) (rm : ℕ) (told : Vec Xid) → PerformsOwed rm first (responses.Owed told)
    → AreOwed (book_in first.session.manager) rm told.items
owed_of first rm told performs = by (nat_lt rm first.session.lines.rms) performs
  where
    by : (t : Bool) → MatchBool t (TellsOwed (book_in first.session.manager) rm (responses.Owed told) ⊎ (responses.Owed told ≡ responses.Refused Memory))
        (responses.Owed told ≡ responses.Refused Limit) → AreOwed (book_in first.session.manager) rm told.items
    by true (inl owed) = owed
    by true (inr refused) = absurd (cc)
    by false refused = absurd (cc)

module _ {L : Type 0} (moment : L → Moment) (laws : Laws L) (have_content : StartsHaveContent) (are_apart : StartRowsAreApart) where
  -- the row of the log that is left has each branch that voted yes
  voter_waits : (name : List ℕ) (last : Server L) (f : Branch → Standing) (c : Content) (served : AreServed moment name (Some last) f) (b : Branch)
      → LeavesContent moment last.session.manager c → WasToldYes moment name b (Some last) f served → is_some (get c.decisions b.gtrid) ≡ true
      → contains (participants_of c b.gtrid) b ≡ true
  voter_waits name last f c served b left said some =
      let on = all_on moment name laws (SaidYes b) (said_still b) b.gtrid (Some last) f served c left (start_of c) (raised_once have_content are_apart c) in
      let has = have_content (start_of c) (with_bump c) refl refl refl in
      waits_at (get c.decisions b.gtrid) b
      (sym (ap (λ r. waits_in r b) (has.rows b.gtrid))
      ∙ (sym (waits_is (start_of c).rows b.gtrid b)
      ∙ voter_in_row on.log f on.after b (start_of c) (on.some said) on.finds (listed have_content are_apart c b.gtrid ∙ some)))

  pub owed_tells : OwedTellsOfRows moment
  owed_tells name last f c served b left said first told found same owes_so performs =
      let owed = owed_of first b.rm told performs in
      record {
        set = owed.set;
        told_are = owed.listed;
        tells = owed.each b ∙ (owes_so b.rm b ∙ (ap (λ t. t && contains (participants_of found b.gtrid) b) (eq-eqb b.rm b.rm refl)
            ∙ (ap (λ ds. contains (unwrap_or (get ds b.gtrid) nobody) b) same.decisions
            ∙ same_truth (contains (participants_of c b.gtrid) b) (is_some (get c.decisions b.gtrid)) (row_there c b)
            (voter_waits name last f c served b left said))));
      }

pub owed_logged : (L : Type 0) → OwedAreLogged L
owed_logged L first rm told c owes_so performs =
    let owed = owed_of first rm told performs in
    record {
      set = owed.set;
      told_are = owed.listed;
      rows = λ b has. row_there c b (and_parts (nat_eq b.rm rm) (contains (participants_of c b.gtrid) b) (sym (owes_so rm b) ∙ (sym (owed.each b) ∙ has))).1;
    }
