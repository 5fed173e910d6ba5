-- However it is chosen where the branches stand, among where they may, there is a history that leaves them there: by recursion on
-- what was seen.
use Rattle.std.proofs.Common.{◌≡◌, refl, sym, ap, ◌∙◌, subst}
use Rattle.std.specs.Prelude.{if◌then◌else◌, Option, Some, None}
use Rattle.xa_base.specs.Branch.{branch_eq}
use Rattle.xa_base.specs.StateTable.{asks_of, broken, completed, state_of}
use Rattle.xa_base.specs.declared.answer.Answer.TheVariants.{Page, Ret}
use Rattle.xa_base.specs.declared.call.Call.TheVariants as Calls
use Rattle.xa_base.specs.declared.state.Standing.{Standing}
use Rattle.xa_model.proofs.Invariant.Preservation.{always}
use Rattle.xa_model.proofs.ProcessLemmas.SameParts.{Faces, breaks_is}
use Rattle.xa_model.proofs.ProcessLemmas.Facing.{faces_after}
use Rattle.xa_model.proofs.ProcessLemmas.Joining.{faces_first, gone_right, resumed_right, right_same}
use Rattle.xa_model.specs.Facts.{held_of, origin, standing, up}
use Rattle.xa_model.specs.Promises.Processes.{Resumes, gone, resumed}
use Rattle.xa_model.specs.Facts.Standings.{moved_by}
use Rattle.xa_model.specs.Protocol.{AllRight, IsRun, OldOrigin}
use Rattle.xa_model.specs.Trace.{Answer, Branch, Call, Happening, Happening.CompletedAlone, Happening.Took, Line, Origin, Trace, Trace.From, Trace.Then, line_eq, line_of}
use Rattle.xa_monitor.specs.Across.{GoesOn, IsKnownAsLeft, continued_by}
use Rattle.xa_monitor.specs.Explained.{HasOnlyOlderRows, IsExplainedAt}
use Rattle.xa_monitor.specs.Seen.{IsHistory.Does, IsHistory.Starts, KeepsRules, Seen, Seen.Answered, Seen.Did, Seen.Lost, Seen.Start, start_with}
use Rattle.xa_monitor.specs.Standings.{Comes, Explained, MayBeDone, MayBeFound, MayStand}
use Rattle.xa_monitor.proofs.RunSteps.{RunFrom, none_named, held_by, starts, stays, did_named, code_heard, page_heard, lost_so, lost_call}

-- ** all that was seen

did_so : (o first : Origin) (seen : Seen) (e : Happening) (f : Branch → Standing) → KeepsRules o (Did seen e) → RunFrom o first seen f
    → RunFrom o first (Did seen e) f
did_so o first seen e f keeps r = record {
  whole = record {
    history = Then r.whole.history e;
    is_history = Does seen r.whole.history e r.whole.is_history;
    runs = (r.whole.runs, keeps.2 r.whole.history r.whole.is_history r.whole.runs);
  };
  start = r.start;
  there = λ b. stays r.whole.history e keeps.1 b (standing r.whole.history b) ∙ r.there b;
  named = λ n. did_named r.whole.history e keeps.1 (r.named n);
}

answered_so : (o first : Origin) (seen : Seen) (l : Line) (c : Call) (a : Answer) (from to : Branch → Standing)
    → KeepsRules o (Answered seen l c a) → RunFrom o first seen from → ((b : Branch) → Explained l c a b (from b) (to b))
    → RunFrom o first (Answered seen l c a) to
answered_so o first seen l c (Ret code) from to keeps r x =
    code_heard o first seen l c from to r code (asks_of c) refl keeps.1 (keeps.2 r.whole.history r.whole.is_history r.whole.runs) x
answered_so o first seen l c (Page names) from to keeps r x =
    page_heard o first seen l c from to r names keeps.1 (keeps.2 r.whole.history r.whole.is_history r.whole.runs) x

was_lost : (o first : Origin) (seen : Seen) (l : Line) (d : Option Call) (from to f : Branch → Standing) → KeepsRules o (Lost seen l d)
    → RunFrom o first seen from → ((b : Branch) → MayBeDone d b (from b) (to b))
    → ((b : Branch) → f b ≡ (if line_eq l (line_of b) then broken (to b) else to b)) → RunFrom o first (Lost seen l d) f
was_lost o first seen l (Some c) from to f keeps r done final =
    lost_call o first seen l c from to r (asks_of c) refl (keeps.1 r.whole.history r.whole.is_history r.whole.runs) done f final
was_lost o first seen l None from to f keeps r done final = lost_so o first seen l Calls.OpenRm from to r None done f final

-- from a start that leaves each branch there
comes : (o first : Origin) (f0 : Branch → Standing) → RunFrom o first Start f0 → (seen : Seen) → KeepsRules o seen → (f : Branch → Standing)
    → ((b : Branch) → Comes seen b (f0 b) (f b)) → RunFrom o first seen f
comes o first f0 r Start keeps f may = record { whole = r.whole; start = r.start; there = λ b. r.there b ∙ sym (may b); named = r.named }
comes o first f0 r (Did seen e) keeps f may = did_so o first seen e f keeps (comes o first f0 r seen keeps.0 f may)
comes o first f0 r (Answered seen l c a) keeps f may =
    answered_so o first seen l c a (λ b. (may b).0) f keeps (comes o first f0 r seen keeps.0 (λ b. (may b).0) (λ b. (may b).1)) (λ b. (may b).2)
comes o first f0 r (Lost seen l d) keeps f may =
    was_lost o first seen l d (λ b. (may b).0) (λ b. (may b).2.0) f keeps
    (comes o first f0 r seen keeps.0 (λ b. (may b).0) (λ b. (may b).1)) (λ b. (may b).2.1) (λ b. (may b).2.2)

-- ** where a branch may stand, from wherever it was found

from_found : (o : Origin) (seen : Seen) (b : Branch) (f : Standing) → MayStand o seen b f
    → (f0 : Standing) × MayBeFound o b f0 × Comes seen b f0 f
from_found o Start b f m = (f, m, refl)
from_found o (Did seen e) b f m = from_found o seen b f m
from_found o (Answered seen l c a) b f m = let x = from_found o seen b m.0 m.1 in (x.0, x.1, (m.0, x.2, m.2))
from_found o (Lost seen l d) b f m = let x = from_found o seen b m.0 m.1 in (x.0, x.1, (m.0, x.2, m.2))

-- from a start of which it is known only what may be found there
pub record FromSome (o : Origin) (seen : Seen) (f : Branch → Standing) : Type 0 where
  pub first : Origin
  pub run : RunFrom o first seen f

pub from_some : (o : Origin) (seen : Seen) → HasOnlyOlderRows o → KeepsRules o seen → (f : Branch → Standing)
    → ((b : Branch) → MayStand o seen b (f b)) → FromSome o seen f
from_some o seen old keeps f may =
    let x = λ (b : Branch). from_found o seen b (f b) (may b) in
    let s = starts o old (λ b. (x b).0) (λ b. (x b).1) in
    record {
      first = record o { held = held_by (λ b. (x b).0) };
      run = comes o (record o { held = held_by (λ b. (x b).0) }) (λ b. (x b).0) s seen keeps f (λ b. (x b).2);
    }

pub chosen : (o : Origin) (seen : Seen) → HasOnlyOlderRows o → KeepsRules o seen → (f : Branch → Standing)
    → ((b : Branch) → MayStand o seen b (f b)) → IsExplainedAt o seen f
chosen o seen old keeps f may = let r = (from_some o seen old keeps f may).run in record { whole = r.whole; there = r.there }

-- ** behind earlier processes

-- what is right for the last process alone is right behind the others
pub behind_right : (past : Trace) (o : Origin) (tr : Trace) → AllRight past → Resumes past o → origin tr ≡ o → IsRun tr
    → AllRight (continued_by (resumed past o) tr) × Faces (gone past) (continued_by (resumed past o) tr) tr
behind_right past o (From q) a r e run =
    (resumed_right past o a r, subst (λ z. Faces (gone past) (resumed past o) (From z)) (sym e) (faces_first past o a r))
behind_right past o (Then tr e) a r q run =
    let x = behind_right past o tr a r q run.0 in
    let inv = always (gone past) (gone_right past a) in (
      (x.0, right_same (gone past) inv (continued_by (resumed past o) tr) tr x.1 e run.1),
      faces_after (gone past) inv (continued_by (resumed past o) tr) tr x.1.deals x.1 e run.1,
    )

-- from the start just as it is
pub from_start : (o : Origin) (seen : Seen) → OldOrigin o → KeepsRules o seen → (f : Branch → Standing)
    → ((b : Branch) → Comes seen b (held_of o b).standing (f b)) → RunFrom o o seen f
from_start o seen old keeps f may = comes o o (λ b. (held_of o b).standing)
    (record {
      whole = record { history = start_with o o.held; is_history = Starts o.held; runs = old };
      start = refl;
      there = λ b. refl;
      named = λ n. none_named o o.held;
    }) seen keeps f may

-- a branch that is in the same standing in both stays so, whatever happens in both
standing_same : (x y : Trace) (e : Happening) (b : Branch) → up x ≡ up y → standing x b ≡ standing y b → standing (Then x e) b ≡ standing (Then y e) b
standing_same x y (Took l c (Ret a)) b u s = ap (moved_by (asks_of c) a b) s
standing_same x y (CompletedAlone c how) b u s = ap (λ f. if branch_eq c b then completed f how else f) s
standing_same x y e b u s = λ i. if breaks_is x y e (line_of b) u i then broken (s i) else s i

-- so does one that the start has just as the past left it
pub same_there : (past : Trace) (o : Origin) (tr : Trace) → AllRight past → Resumes past o → origin tr ≡ o → IsRun tr → (b : Branch)
    → IsKnownAsLeft past o b → standing (continued_by (resumed past o) tr) b ≡ standing tr b
same_there past o (From q) a r e run b known = sym (ap (λ p. (held_of p b).standing) e ∙ known)
same_there past o (Then tr e) a r q run b known =
    standing_same (continued_by (resumed past o) tr) tr e b (behind_right past o tr a r q run.0).1.deals.up_is (same_there past o tr a r q run.0 b known)

pub gone_on : (past : Trace) (o : Origin) (seen : Seen) → AllRight past → Resumes past o → OldOrigin o → KeepsRules o seen
    → (f : Branch → Standing) → ((b : Branch) → Comes seen b (held_of o b).standing (f b)) → GoesOn past o seen f
gone_on past o seen a r old keeps f may = record {
  history = run.whole.history;
  is_history = run.whole.is_history;
  right = whole.0;
  states = λ b. sym (whole.1.held.states b) ∙ ap state_of (run.there b);
  there = λ b known. same_there past o run.whole.history a r run.start run.whole.runs b known ∙ run.there b;
}
  where
    run : RunFrom o o seen f
    run = from_start o seen old keeps f may

    whole : AllRight (continued_by (resumed past o) run.whole.history) × Faces (gone past) (continued_by (resumed past o) run.whole.history) run.whole.history
    whole = behind_right past o run.whole.history a r run.start run.whole.runs
