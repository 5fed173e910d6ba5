-- Calls whose kind is any, and calls as histories know them.
use Rattle.std.proofs.Common.{◌≡◌, ℕ, Bool, Some, None, refl, ap, ◌∙◌}
use Rattle.std.specs.Prelude.{if◌then◌else◌}
use Rattle.xa_base.specs.Branch.{branch_eq}
use Rattle.xa_model.specs.Facts.Standings.{moved_by}
use Rattle.xa_base.specs.Call.{map_call}
use Rattle.xa_model.specs.Facts as facts
use Rattle.xa_model.specs.Facts.InDoubt.{scan}
use Rattle.xa_model.specs.Protocol.{RightAnswer}
use Rattle.xa_base.specs.StateTable.{Kind, Kind.Start, Kind.Join, Kind.End, Kind.Prepare, Kind.Commit, Kind.OnePhase, Kind.Rollback, Kind.Forget, answer, asks_of, moved, on, state_of}
use Rattle.xa_model.specs.Replies.Steps.{accepted}
use Rattle.xa_model.specs.Trace.{Answer, Call, Happening.Took, Line, Name, Name.Foreign, Name.Ours, Trace, Trace.Then}
use Rattle.xa_base.specs.declared.answer.Answer.TheVariants.{Ret, Page}
use Rattle.xa_base.specs.declared.branch.Branch.{Branch}
use Rattle.xa_base.specs.declared.call.Call as Asking
use Rattle.xa_base.specs.declared.call.Call.TheVariants as Calls
use Rattle.xa_base.specs.declared.code.Code.{Code}
use Rattle.xa_base.proofs.StateLemmas.{asks_on}
use Rattle.xa_base.proofs.Options.{some_is}
use Rattle.xa_system.specs.Trace.{IsHome}

-- ** any kind

pub home_on : (l : Line) (k : Kind) (b : Branch) → IsHome l (on k b) → b.rm ≡ l.rm
home_on l Start b h = h
home_on l Join b h = h
home_on l (End f) b h = h
home_on l Prepare b h = h
home_on l Commit b h = h
home_on l OnePhase b h = h
home_on l Rollback b h = h
home_on l Forget b h = h

pub on_home : (l : Line) (k : Kind) (b : Branch) → b.rm ≡ l.rm → IsHome l (on k b)
on_home l Start b h = h
on_home l Join b h = h
on_home l (End f) b h = h
on_home l Prepare b h = h
on_home l Commit b h = h
on_home l OnePhase b h = h
on_home l Rollback b h = h
on_home l Forget b h = h

pub answers_on : (tr : Trace) (l : Line) (k : Kind) (b : Branch) (a : Answer)
    → a ≡ Ret (answer k (state_of (facts.standing tr b)) (facts.vote tr b) (facts.retries tr b)) → RightAnswer tr l (on k b) a
answers_on tr l Start b a e = e
answers_on tr l Join b a e = e
answers_on tr l (End f) b a e = e
answers_on tr l Prepare b a e = e
answers_on tr l Commit b a e = e
answers_on tr l OnePhase b a e = e
answers_on tr l Rollback b a e = e
answers_on tr l Forget b a e = e

pub scan_on : (tr : Trace) (l : Line) (k : Kind) (b : Branch) (a : Answer) (r : ℕ) → scan (Then tr (Took l (on k b) a)) r ≡ scan tr r
scan_on tr l Start b a r = refl
scan_on tr l Join b a r = refl
scan_on tr l (End f) b a r = refl
scan_on tr l Prepare b a r = refl
scan_on tr l Commit b a r = refl
scan_on tr l OnePhase b a r = refl
scan_on tr l Rollback b a r = refl
scan_on tr l Forget b a r = refl

-- where a branch stands after a call on one
pub standing_on : (tr : Trace) (l : Line) (k : Kind) (c b : Branch) (code : Code) (t : Bool) → branch_eq c b ≡ t
    → facts.standing (Then tr (Took l (on k c) (Ret code))) b ≡ (if t then moved (facts.standing tr b) k code else facts.standing tr b)
standing_on tr l k c b code t e =
    ap (λ o. moved_by o code b (facts.standing tr b)) (asks_on k c) ∙ ap (λ u. if u then moved (facts.standing tr b) k code else facts.standing tr b) e

-- a call on no branch moves none
pub standing_none : (tr : Trace) (l : Line) (c : Call) (a : Answer) (b : Branch) → asks_of c ≡ None
    → facts.standing (Then tr (Took l c a)) b ≡ facts.standing tr b
standing_none tr l c (Ret code) b e = ap (λ o. moved_by o code b (facts.standing tr b)) e
standing_none tr l c (Page names) b e = refl

-- a call on an identifier is known exactly if that names a branch
pub known_on : (kind : Kind) (n : Name) (k : Call) → accepted (on kind n) ≡ Some k → (b : Branch) × (n ≡ Ours b) × (on kind b ≡ k)
known_on Start (Ours b) c e = (b, refl, some_is _ _ e)
known_on Start (Foreign x) c e = absurd (cc)
known_on Join (Ours b) c e = (b, refl, some_is _ _ e)
known_on Join (Foreign x) c e = absurd (cc)
known_on (End f) (Ours b) c e = (b, refl, some_is _ _ e)
known_on (End f) (Foreign x) c e = absurd (cc)
known_on Prepare (Ours b) c e = (b, refl, some_is _ _ e)
known_on Prepare (Foreign x) c e = absurd (cc)
known_on Commit (Ours b) c e = (b, refl, some_is _ _ e)
known_on Commit (Foreign x) c e = absurd (cc)
known_on OnePhase (Ours b) c e = (b, refl, some_is _ _ e)
known_on OnePhase (Foreign x) c e = absurd (cc)
known_on Rollback (Ours b) c e = (b, refl, some_is _ _ e)
known_on Rollback (Foreign x) c e = absurd (cc)
known_on Forget (Ours b) c e = (b, refl, some_is _ _ e)
known_on Forget (Foreign x) c e = absurd (cc)

-- what is accepted is on a branch of this manager
pub ours_back : (call : Asking.Call Name) (k : Call) → accepted call ≡ Some k → call ≡ map_call Ours k
ours_back Calls.OpenRm k e = ap (map_call Ours) (some_is _ _ e)
ours_back Calls.CloseRm k e = ap (map_call Ours) (some_is _ _ e)
ours_back (Calls.Recover n x y) k e = ap (map_call Ours) (some_is _ _ e)
ours_back (Calls.Start (Ours b) j) k e = ap (map_call Ours) (some_is _ _ e)
ours_back (Calls.Start (Foreign z) j) k e = absurd (cc)
ours_back (Calls.End (Ours b) f) k e = ap (map_call Ours) (some_is _ _ e)
ours_back (Calls.End (Foreign z) f) k e = absurd (cc)
ours_back (Calls.Prepare (Ours b)) k e = ap (map_call Ours) (some_is _ _ e)
ours_back (Calls.Prepare (Foreign z)) k e = absurd (cc)
ours_back (Calls.Commit (Ours b) o) k e = ap (map_call Ours) (some_is _ _ e)
ours_back (Calls.Commit (Foreign z) o) k e = absurd (cc)
ours_back (Calls.Rollback (Ours b)) k e = ap (map_call Ours) (some_is _ _ e)
ours_back (Calls.Rollback (Foreign z)) k e = absurd (cc)
ours_back (Calls.Forget (Ours b)) k e = ap (map_call Ours) (some_is _ _ e)
ours_back (Calls.Forget (Foreign z)) k e = absurd (cc)
