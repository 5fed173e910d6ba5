-- From what isn't told yet to where all branches may stand.
use Rattle.std.proofs.Common.{◌≡◌, ◌∙◌, Bool, true, false, suc, List, [], ◌∷◌, Some, refl, sym, ap, subst}
use Rattle.std.specs.Prelude.{◌||◌, if◌then◌else◌}
use Rattle.xa_base.proofs.BranchKeys.{branch_eq-refl, gtrid_eq-refl}
use Rattle.xa_base.specs.Branch.{branch_eq, gtrid_eq}
use Rattle.xa_base.specs.StateTable.{asks_of, broken}
use Rattle.xa_base.specs.declared.answer.Answer.TheVariants.{Page, Ret}
use Rattle.xa_base.specs.declared.call.Call.TheVariants as Calls
use Rattle.xa_base.specs.declared.code.Code.TheVariants as Codes
use Rattle.xa_base.specs.declared.state.Standing.{Standing}
use Rattle.xa_base.specs.declared.state.Standing.TheVariants.{Completed, Prepared}
use Rattle.xa_drivers.proofs.Following.{Waiting, follows}
use Rattle.xa_drivers.proofs.Paths.{Path, Path.Alone, Path.Here, Path.Step}
use Rattle.xa_drivers.proofs.Steps.{StepBy}
use Rattle.xa_drivers.proofs.Waiting.{AllWait}
use Rattle.xa_drivers.specs.Deeds.{seen_of, stands}
use Rattle.xa_drivers.specs.Sessions.{DriversSufficeFor, is_in_transaction}
use Rattle.xa_drivers.specs.Faithful.{DriversSuffice, Untold, Untold.ALoss, Untold.AnAnswer, is_severed, made_on}
use Rattle.xa_model.specs.Trace.{Answer, Branch, Call, Code, How, Line, Origin, line_eq, line_of}
use Rattle.xa_server.specs.Transactions.{MayStandFor, MayStandFor.AsTold as AsToldFor, MayStandFor.CutOff as CutOffFor, MayStandFor.EndedAlone as EndedAloneFor, MayStandFor.UnderWay as UnderWayFor}
use Rattle.xa_monitor.specs.Agreement.{IsLineOf, MayAllStand, MayAllStand.AsTold, MayAllStand.CutOff, MayAllStand.EndedAlone, MayAllStand.UnderWay, WaitsAt, is_line_among, times}
use Rattle.xa_monitor.specs.Seen.{HasAnswer, Seen}
use Rattle.xa_monitor.specs.Standings.{Comes, ExplainsAsked}

-- Where these branches may stand after some calls under way, on lines of which some are cut off: a
-- relation that each of the four leads on.
pub record LeadsOn (mine : Branch → Bool) (o : Origin) (seen : Seen) (mid : Branch → Standing)
    (May : List Line → List Line → (Branch → Standing) → Type 0) : Type 0 where
  pub as_told : (f : Branch → Standing) → ((b : Branch) → mine b ≡ true → f b ≡ mid b) → May [] [] f
  pub under_way :
      (done cut : List Line) (from to : Branch → Standing) (l : Line) (c : Call) (a : Code) → May done cut from → IsLineOf o l
      → is_line_among cut l ≡ false → WaitsAt o seen l (times done l) (Some c)
      → ((b : Branch) → mine b ≡ true → ExplainsAsked (asks_of c) a b (from b) (to b)) → May (l ∷ done) cut to
  pub cut_off :
      (done cut : List Line) (from to : Branch → Standing) (l : Line) → May done cut from
      → ((b : Branch) → mine b ≡ true → to b ≡ (if line_eq l (line_of b) then broken (from b) else from b)) → May done (l ∷ cut) to
  pub ended_alone :
      (done cut : List Line) (from to : Branch → Standing) (d : Branch) (how : How) → May done cut from → from d ≡ Prepared
      → ((b : Branch) → mine b ≡ true → to b ≡ (if branch_eq d b then Completed how else from b)) → May done cut to

-- it leads there; on the one list are the calls that were made, on the other the lines that are
-- severed
pub record Led (May : List Line → List Line → (Branch → Standing) → Type 0) (us : List Untold) (to : Branch → Standing) : Type 0 where
  pub done : List Line
  pub cut : List Line
  pub may : May done cut to
  pub done_is : (l : Line) → times done l ≡ made_on us l
  pub cut_is : (l : Line) → is_line_among cut l ≡ is_severed us l

-- a call that has such an answer has one that is a code
record AsCode (l : Line) (c : Call) (a : Answer) : Type 0 where
  code : Code
  explains : (b : Branch) (f g : Standing) → StepBy (AnAnswer l c a) b f g → ExplainsAsked (asks_of c) code b f g

as_code : (l : Line) (c : Call) (a : Answer) → HasAnswer c a → AsCode l c a
as_code l c (Ret code) has = record { code = code; explains = λ b f g s. s.0 }
as_code l (Calls.Recover n s e) (Page names) has = record { code = Codes.Success; explains = λ b f g s. s.0 }
as_code l _ (Page names) has = absurd has

module _ (mine : Branch → Bool) (o : Origin) (seen : Seen) (mid : Branch → Standing)
    (May : List Line → List Line → (Branch → Standing) → Type 0) (leads : LeadsOn mine o seen mid May) where
  under_way : (us : List Untold) (from to : Branch → Standing) (l : Line) (c : Call) (a : Answer) → HasAnswer c a
      → ((b : Branch) → mine b ≡ true → StepBy (AnAnswer l c a) b (from b) (to b)) → is_severed us l ≡ false
      → Waiting o seen l (made_on us l) c → Led May us from → Led May (AnAnswer l c a ∷ us) to
  under_way us from to l c a has steps open_line waits r =
      let x = as_code l c a has in
      record {
        done = l ∷ r.done;
        cut = r.cut;
        may = leads.under_way r.done r.cut from to l c x.code r.may waits.0 (r.cut_is l ∙ open_line)
            (subst (λ n. WaitsAt o seen l n (Some c)) (sym (r.done_is l)) waits.1) (λ b is. x.explains b (from b) (to b) (steps b is));
        done_is = λ m. ap (λ n. if line_eq l m then suc n else n) (r.done_is m);
        cut_is = r.cut_is;
      }

  pub led : (us : List Untold) (to : Branch → Standing) → Path mine mid us to → AllWait (Waiting o seen) us → Led May us to
  led _ to (Here _ same) waits = record { done = []; cut = []; may = leads.as_told to same; done_is = λ l. refl; cut_is = λ l. refl }
  led _ to (Step (AnAnswer l c a) us f _ p s steps) waits =
      under_way us f to l c a s steps waits.1 waits.2 (led us f p waits.0)
  led _ to (Step (ALoss l lost) us f _ p s steps) waits =
      let r = led us f p waits in
      record {
        done = r.done;
        cut = l ∷ r.cut;
        may = leads.cut_off r.done r.cut f to l r.may (λ b is. (steps b is).0);
        done_is = r.done_is;
        cut_is = λ m. ap (λ z. line_eq l m || z) (r.cut_is m);
      }
  led us to (Alone _ d how f _ p is_mine steps) waits =
      let r = led us f p waits in
      record {
        done = r.done;
        cut = r.cut;
        may = leads.ended_alone r.done r.cut f to d how r.may ((steps d is_mine).0 (branch_eq-refl d)) (λ b is. (steps b is).1);
        done_is = r.done_is;
        cut_is = r.cut_is;
      }

-- ** all branches

pub suffice : DriversSuffice
suffice o from ds faithful obey =
    let r = follows o (λ b. true) from ds faithful.untold faithful.keeps obey in
    let x = led (λ b. true) o (seen_of ds) r.mid
    (MayAllStand o (seen_of ds) (λ b. Comes (seen_of ds) b (from b)))
    (record {
      as_told = λ f same. AsTold f (λ b. subst (Comes (seen_of ds) b (from b)) (sym (same b refl)) (r.comes b refl));
      under_way = λ done cut f g l c a may of open_line waits steps. UnderWay done cut f g l c may of open_line waits (a, λ b. steps b refl);
      cut_off = λ done cut f g l may steps. CutOff done cut f g l may (λ b. steps b refl);
      ended_alone = λ done cut f g d how may was steps. EndedAlone done cut f g d how may was (λ b. steps b refl);
    })
    faithful.untold (stands from ds) r.path r.waits in
    record { done = x.done; cut = x.cut; may = x.may }

-- ** those of one transaction

pub suffice_for : DriversSufficeFor
suffice_for g o from ds faithful obey =
    let mine = is_in_transaction g in
    let is_mine = λ (b : Branch) (is : b.gtrid ≡ g). let e : gtrid_eq b.gtrid g ≡ true = subst (λ z. gtrid_eq z g ≡ true) (sym is) (gtrid_eq-refl g) in e in
    let r = follows o mine from ds faithful.untold faithful.keeps obey in
    let x = led mine o (seen_of ds) r.mid
    (MayStandFor g o (seen_of ds) (λ b. Comes (seen_of ds) b (from b)))
    (record {
      as_told = λ f same.
          AsToldFor f (λ b is. subst (Comes (seen_of ds) b (from b)) (sym (same b (is_mine b is))) (r.comes b (is_mine b is)));
      under_way = λ done cut f h l c a may of open_line waits steps.
          UnderWayFor done cut f h l c may of open_line waits (a, λ b is. steps b (is_mine b is));
      cut_off = λ done cut f h l may steps. CutOffFor done cut f h l may (λ b is. steps b (is_mine b is));
      ended_alone = λ done cut f h d how may was steps. EndedAloneFor done cut f h d how may was (λ b is. steps b (is_mine b is));
    })
    faithful.untold (stands from ds) r.path r.waits in
    record { done = x.done; cut = x.cut; may = x.may }
