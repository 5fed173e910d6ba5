-- What a faithful driver tells is what happened, as far as it is told: by recursion on the deeds.
use Rattle.std.proofs.Common.{◌≡◌, ◌∙◌, inl, inr, Bool, true, false, ℕ, List, ◌∷◌, Option, Some, None, refl, sym, ap, subst}
use Rattle.std.proofs.lemmas.Bool.{true≢false}
use Rattle.std.specs.Prelude.{◌&&◌, ◌||◌, if◌then◌else◌}
use Rattle.xa_base.proofs.BranchKeys.{branch_eq-true}
use Rattle.xa_base.specs.Branch.{branch_eq}
use Rattle.xa_base.specs.StateTable.{Kind, answer, asks_of, broken, completed, moved, state_of}
use Rattle.xa_base.specs.declared.answer.Answer.TheVariants.{Page, Ret}
use Rattle.xa_base.specs.declared.state.Standing.{Standing}
use Rattle.xa_base.specs.declared.state.Standing.TheVariants.{Completed, Prepared}
use Rattle.xa_drivers.proofs.Paths.{Path, Path.Alone, Path.Here, Path.Step, same_path, take_next}
use Rattle.xa_drivers.proofs.Steps.{StepAlone, StepBy, StepByAnswer, broken_shut}
use Rattle.xa_drivers.proofs.Waiting.{AllWait, Elsewhere, MovedUp, all_wait, lost_wait, told_wait, waits_behind, waits_elsewhere, waits_on}
use Rattle.xa_drivers.specs.Deeds.{AnswersByTable, Deeds, Deeds.Ended, Deeds.Made, Deeds.Did, Deeds.Severed, Deeds.Told, Deeds.ToldLost, IsAnswer, ObeyTable, seen_of, stands}
use Rattle.xa_drivers.specs.Faithful.{IsLostNext, IsLostNext.FirstMade, IsLostNext.NoneMade, IsToldNext, DrivesByRules, DrivesByRules.Begins, DrivesByRules.Ends, DrivesByRules.Loses, DrivesByRules.Makes, DrivesByRules.Does, DrivesByRules.Tells, DrivesByRules.TellsLoss, MayMakeCall, Untold, Untold.ALoss, Untold.AnAnswer, begins_branch, is_open_branch, open_on}
use Rattle.xa_model.specs.Facts.Standings.{moved_by}
use Rattle.xa_model.specs.Trace.{Answer, Branch, Call, Code, Happening, How, Line, Origin, line_eq, line_of}
use Rattle.xa_monitor.proofs.UntoldCalls.{one_if}
use Rattle.xa_monitor.specs.Agreement.{IsLineOf, WaitsAt}
use Rattle.xa_monitor.specs.Seen.{IsManagers, Seen}
use Rattle.xa_monitor.specs.Standings.{Comes, Explained, ExplainsIf, MayBeDone}

-- the call is one of the session's, and waits there
abbrev pub Waiting : Origin → Seen → Line → ℕ → Call → Type 0
Waiting o seen l n c = IsLineOf o l × WaitsAt o seen l n (Some c)

-- these branches stand there by what was told, and came from there by what wasn't
pub record Follows (o : Origin) (mine : Branch → Bool) (from : Branch → Standing) (ds : Deeds) (us : List Untold) : Type 0 where
  pub mid : Branch → Standing
  pub comes : (b : Branch) → mine b ≡ true → Comes (seen_of ds) b (from b) (mid b)
  pub path : Path mine mid us (stands from ds)
  pub waits : AllWait (Waiting o (seen_of ds)) us

module _ (o : Origin) (mine : Branch → Bool) (from : Branch → Standing) where
  -- ** a call

  by_table : (q : Option (Kind × Branch)) (l : Line) (a : Code) (f : Branch → Standing) → AnswersByTable mine f q a
      → ((k : Kind) (b : Branch) → q ≡ Some (k, b) → (begins_branch k || is_open_branch (f b)) ≡ true → l ≡ line_of b)
      → (b : Branch) → mine b ≡ true → StepByAnswer q l a b (f b) (moved_by q a b (f b))
  by_table None l a f answers own b is = (refl, tt)
  by_table (Some (k, d)) l a f answers own b is =
      (by (branch_eq d b) refl, λ same opens. own k b (ap (λ z. Some (k, z)) same) opens)
    where
      by : (t : Bool) → branch_eq d b ≡ t → ExplainsIf t (f b) k a (if t then moved (f b) k a else f b)
      by false e = refl
      by true e =
          let same : d ≡ b = branch_eq-true d b e in
          let x = answers (subst (λ z. mine z ≡ true) (sym same) is) in
          record {
            as_called = f b;
            alone = inl refl;
            vote = x.0;
            retries = x.1.0;
            answers = ap (λ z. answer k (state_of (f z)) x.0 x.1.0) (sym same) ∙ x.1.1;
            moves = refl;
          }

  made : (ds : Deeds) (us : List Untold) (l : Line) (c : Call) (a : Answer) → MayMakeCall o from ds us l c → ObeyTable mine from (Made ds l c a)
      → Follows o mine from ds us → Follows o mine from (Made ds l c a) (AnAnswer l c a ∷ us)
  made ds us l c a may obey r = record {
    mid = r.mid;
    comes = r.comes;
    path = Step (AnAnswer l c a) us (stands from ds) (stands from (Made ds l c a)) r.path obey.1 (step a obey.2);
    waits = (r.waits, may.connected, (may.of_session, may.issued));
  }
    where
      step : (a : Answer) → IsAnswer mine (stands from ds) l c a
          → (b : Branch) → mine b ≡ true → StepBy (AnAnswer l c a) b (stands from ds b) (stands from (Made ds l c a) b)
      step (Ret code) x b is = by_table (asks_of c) l code (stands from ds) x may.own_line b is
      step (Page names) x b is = (refl, λ lists. x b is lists)

  -- ** a connection that is gone, and a branch that its database ended

  severed : (ds : Deeds) (us : List Untold) (l : Line) → Follows o mine from ds us
      → Follows o mine from (Severed ds l) (ALoss l (open_on (stands from ds) l) ∷ us)
  severed ds us l r = record {
    mid = r.mid;
    comes = r.comes;
    path = Step (ALoss l (open_on (stands from ds) l)) us (stands from ds) (stands from (Severed ds l)) r.path tt
        (λ b is. (refl, λ on none. broken_shut (stands from ds b) (shut (line_eq l (line_of b)) (is_open_branch (stands from ds b)) on none)));
    waits = r.waits;
  }
    where
      shut : (t z : Bool) → t ≡ true → (t && z) ≡ false → z ≡ false
      shut true z on e = e
      shut false z on e = absurd (true≢false (sym on))

  ended : (ds : Deeds) (us : List Untold) (d : Branch) (how : How) → (mine d ≡ true → stands from ds d ≡ Prepared) → Follows o mine from ds us
      → Follows o mine from (Ended ds d how) us
  ended ds us d how was r = record { mid = r.mid; comes = r.comes; path = by (mine d) refl; waits = r.waits }
    where
      step : mine d ≡ true → (b : Branch) → mine b ≡ true → StepAlone d how b (stands from ds b) (stands from (Ended ds d how) b)
      step is b also = at (branch_eq d b) refl
        where
          at : (t : Bool) → branch_eq d b ≡ t
              → (t ≡ true → stands from ds b ≡ Prepared) × ((if t then completed (stands from ds b) how else stands from ds b) ≡ (if t then Completed how else stands from ds b))
          at true e =
              let p : stands from ds b ≡ Prepared = subst (λ z. stands from ds z ≡ Prepared) (branch_eq-true d b e) (was is) in
              (λ t. p, ap (λ z. completed z how) p)
          at false e = (λ t. absurd (true≢false (sym t)), refl)

      by : (t : Bool) → mine d ≡ t → Path mine r.mid us (stands from (Ended ds d how))
      by true e = Alone us d how (stands from ds) (stands from (Ended ds d how)) r.path e (step e)
      by false e = same_path mine r.mid us (stands from ds) (stands from (Ended ds d how)) r.path
          (λ b is. ap (λ t. if t then completed (stands from ds b) how else stands from ds b) (other b is (branch_eq d b) refl))
        where
          other : (b : Branch) → mine b ≡ true → (t : Bool) → branch_eq d b ≡ t → branch_eq d b ≡ false
          other b is true i = absurd (true≢false (sym is ∙ subst (λ z. mine z ≡ false) (branch_eq-true d b i) e))
          other b is false i = i

  -- ** what is told

  explained : (l : Line) (c : Call) (a : Answer) (b : Branch) (f g : Standing) → StepBy (AnAnswer l c a) b f g → Explained l c a b f g
  explained l c (Ret code) b f g s = s.0
  explained l c (Page names) b f g s = s

  told : (ds : Deeds) (us rest : List Untold) (l : Line) (c : Call) (a : Answer) → IsToldNext (AnAnswer l c a) us rest → Follows o mine from ds us
      → Follows o mine from (Told ds l c a) rest
  told ds us rest l c a next r =
      let t = take_next mine r.mid (AnAnswer l c a) us rest (stands from ds) r.path next in
      record {
        mid = t.next;
        comes = λ b is. (r.mid b, r.comes b is, explained l c a b (r.mid b) (t.next b) (t.step b is));
        path = t.path;
        waits = all_wait (MovedUp l (Waiting o (seen_of ds))) (Waiting o (seen_of (Told ds l c a)))
            (λ m n d w. (w.0, waits_behind o (seen_of ds) l m c a n (Some d) w.1)) rest
            (told_wait (Waiting o (seen_of ds)) l c a us rest next r.waits);
      }

  -- a loss that is told, after a call that may have been made
  lost_step : (l : Line) (lost : Branch → Bool) (c : Option Call) (b : Branch) (f e g : Standing) → MayBeDone c b f e → StepBy (ALoss l lost) b e g
      → (end : Standing) × MayBeDone c b f end × (g ≡ (if line_eq l (line_of b) then broken end else end))
  lost_step l lost c b f e g may s = (e, may, s.0)

  none_done : (c : Option Call) (b : Branch) (f : Standing) → MayBeDone c b f f
  none_done (Some c) b f = inl refl
  none_done None b f = refl

  first_done : (l : Line) (c : Call) (a : Answer) (b : Branch) (f g : Standing) → StepBy (AnAnswer l c a) b f g → MayBeDone (Some c) b f g
  first_done l c (Ret code) b f g s = inr (code, s.0)
  first_done l c (Page names) b f g s = inl s.0

  told_lost : (ds : Deeds) (us rest : List Untold) (l : Line) (c : Option Call) → IsLostNext l c us rest → Follows o mine from ds us
      → Follows o mine from (ToldLost ds l c) rest
  told_lost ds _ _ l _ (NoneMade c lost us rest next) r =
      let t = take_next mine r.mid (ALoss l lost) us rest (stands from ds) r.path next in
      record {
        mid = t.next;
        comes = λ b is. (r.mid b, r.comes b is, lost_step l lost c b (r.mid b) (r.mid b) (t.next b) (none_done c b (r.mid b)) (t.step b is));
        path = t.path;
        waits = all_wait (Elsewhere l (Waiting o (seen_of ds))) (Waiting o (seen_of (ToldLost ds l c)))
            (λ m n d w. (w.1.0, waits_elsewhere o (seen_of ds) l m c n (Some d) w.0 w.1.1)) rest
            (lost_wait (Waiting o (seen_of ds)) l lost us rest next r.waits);
      }
  told_lost ds _ _ l _ (FirstMade c a lost us mid rest first next) r =
      let s = take_next mine r.mid (AnAnswer l c a) us mid (stands from ds) r.path first in
      let t = take_next mine s.next (ALoss l lost) mid rest (stands from ds) s.path next in
      let behind = told_wait (Waiting o (seen_of ds)) l c a us mid first r.waits in
      record {
        mid = t.next;
        comes = λ b is. (
          r.mid b,
          r.comes b is,
          lost_step l lost (Some c) b (r.mid b) (s.next b) (t.next b)
              (first_done l c a b (r.mid b) (s.next b) (s.step b is)) (t.step b is),
        );
        path = t.path;
        waits = all_wait (Elsewhere l (MovedUp l (Waiting o (seen_of ds)))) (Waiting o (seen_of (ToldLost ds l (Some c))))
            (λ m n d w. let x = subst (λ z. Waiting o (seen_of ds) m (one_if z n) d) w.0 w.1 in
            (x.0, waits_elsewhere o (seen_of ds) l m (Some c) n (Some d) w.0 x.1)) rest
            (lost_wait (MovedUp l (Waiting o (seen_of ds))) l lost mid rest next behind);
      }

  read : (ds : Deeds) (us : List Untold) (e : Happening) → IsManagers e → Follows o mine from ds us → Follows o mine from (Did ds e) us
  read ds us e is r = record {
    mid = r.mid;
    comes = r.comes;
    path = r.path;
    waits = all_wait (Waiting o (seen_of ds)) (Waiting o (seen_of (Did ds e))) (λ m n d w. (w.0, waits_on o (seen_of ds) e m n d is w.1)) us r.waits;
  }

  -- all of them
  pub follows : (ds : Deeds) (us : List Untold) → DrivesByRules o from ds us → ObeyTable mine from ds → Follows o mine from ds us
  follows _ _ Begins obey = record { mid = from; comes = λ b is. refl; path = Here from (λ b is. refl); waits = tt }
  follows _ _ (Does ds us e keeps is) obey = read ds us e is (follows ds us keeps obey)
  follows _ _ (Makes ds us l c a keeps may) obey = made ds us l c a may obey (follows ds us keeps obey.0)
  follows _ _ (Loses ds us l keeps) obey = severed ds us l (follows ds us keeps obey)
  follows _ _ (Ends ds us b how keeps) obey = ended ds us b how obey.1 (follows ds us keeps obey.0)
  follows _ _ (Tells ds us rest l c a keeps next) obey = told ds us rest l c a next (follows ds us keeps obey)
  follows _ _ (TellsLoss ds us rest l c keeps next) obey = told_lost ds us rest l c next (follows ds us keeps obey)
