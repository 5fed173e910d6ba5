-- A whole recovery after a list of events.
use Rattle.std.proofs.Common.{◌≡◌, ◌≤◌, ◌++◌, ◌∙◌, ℕ, List, [], ◌∷◌, length, map, sym, ap, subst, true}
use Rattle.xa_base.specs.Branch.{IsBranch}
use Rattle.xa_base.specs.declared.reply.Event.{Event}
use Rattle.xa_model.proofs.Invariant.Grows.{started_kept}
use Rattle.xa_model.proofs.Replies.Pushes.{with_steps_append, all_before}
use Rattle.xa_model.specs.Facts.{issued, started, taken}
use Rattle.xa_model.specs.Facts.InDoubt.{in_doubt}
use Rattle.xa_model.specs.Promises.Recovery.{IsRecovered, MayComplete, NonePutOff, recovery}
use Rattle.xa_model.specs.Replies.Allowed.{AllAllowed, with_steps}
use Rattle.xa_model.specs.Replies.History.{AreAllowed, history, read}
use Rattle.xa_model.specs.Replies.Steps.{Reply, Step, happened}
use Rattle.xa_model.specs.Trace.{Answer, Branch, Call, Name, Origin, Trace, Trace.From, Trace.Then, line}
use Rattle.uses.specs.Processes.{EndsRecovered}

behind : (tr : Trace) (xs ys : List (Step × Reply)) → AllAllowed tr (xs ++ ys) → AllAllowed (with_steps tr xs) ys
behind tr [] ys all = all
behind tr (x ∷ xs) ys all = behind (Then tr (happened x.0 x.1)) xs ys all.1

-- a recovery after the events of a history completes
abbrev pub Completes : Trace → (r count : ℕ) → List Name → List (Call × Answer) → Type 0
Completes tr r count names answers = MayComplete tr r count answers → AllAllowed tr (recovery r count names answers)
    → IsRecovered (with_steps tr (recovery r count names answers)) r

pub recovered : (o p : Origin) (old new : List Event) (r count : ℕ) (names : List Name) (answers : List (Call × Answer))
    → Completes (history o old) r count names answers
    → ((b : Branch) → started (history o old) b ≡ true → IsBranch b) → p ≡ o → AreAllowed p new
    → map read new ≡ map read old ++ recovery r count names answers
    → length (taken (history o old) (line 0 r)) ≡ length (issued (history o old) (line 0 r))
    → length (in_doubt (history o old) r) ≤ count → NonePutOff answers → IsRecovered (history p new) r
recovered o p old new r count names answers completes numbers same after is none enough put_off =
    let all : AllAllowed (From o) (map read old ++ recovery r count names answers) =
    subst (AllAllowed (From o)) is (subst (λ q. AreAllowed q new) same after) in
    subst (λ tr. IsRecovered tr r)
    (sym (ap (λ q. history q new) same ∙ ap (with_steps (From o)) is ∙ with_steps_append (From o) (map read old) (recovery r count names answers)))
    (completes (record { none_waits = none; enough = enough; none_put_off = put_off; numbers = numbers })
    (behind (From o) (map read old) (recovery r count names answers) all))

-- ** a recovery that ends a list of events

started_on : (tr : Trace) (xs : List (Step × Reply)) (b : Branch) → started tr b ≡ true → started (with_steps tr xs) b ≡ true
started_on tr [] b s = s
started_on tr (x ∷ xs) b s = started_on (Then tr (happened x.0 x.1)) xs b (started_kept tr (happened x.0 x.1) b s)

pub ends_recovered : (o : Origin) (before events : List Event) → AreAllowed o events
    → ((b : Branch) → started (history o events) b ≡ true → IsBranch b)
    → ((r count : ℕ) (names : List Name) (answers : List (Call × Answer)) → AreAllowed o before → Completes (history o before) r count names answers)
    → EndsRecovered o before events
ends_recovered o before events allowed numbers completes r count names answers is none enough put_off =
    let last = recovery r count names answers in
    let all : AllAllowed (From o) (map read before ++ last) = subst (AllAllowed (From o)) is allowed in
    let same : history o events ≡ with_steps (history o before) last = ap (with_steps (From o)) is ∙ with_steps_append (From o) (map read before) last in
    subst (λ tr. IsRecovered tr r) (sym same)
    (completes r count names answers (all_before (From o) (map read before) last all)
    (record {
      none_waits = none;
      enough = enough;
      none_put_off = put_off;
      numbers = λ b s. numbers b (subst (λ tr. started tr b ≡ true) (sym same) (started_on (history o before) last b s));
    })
    (behind (From o) (map read before) last all))
