use Rattle.std.proofs.Common.{◌≡◌, ◌∙◌, ◌+◌, ◌<◌, false, List, [], ◌∷◌, ap, arith, inl, inr, length, refl, rules, subst, sym, take}
use Rattle.std.proofs.Math.ListN.{set}
use Rattle.std.proofs.lemmas.Bool.{cases_lt, false≢true}
use Rattle.std.specs.List.{list_any}
use Rattle.std.specs.Prelude.{All}
use Rattle.xa_base.specs.declared.branch.Gtrid.{Gtrid}
use Rattle.xa_conduct.proofs.BackingLemmas.{rest_more_asked, rest_moved, rest_same}
use Rattle.xa_conduct.proofs.ProgressLemmas.{all_step_both, all_step_none, all_step_set, steps_none}
use Rattle.xa_conduct.proofs.RestLemmas.{all_due_set, decides_nothing, decides_same, decides_set, decides_thread, due_not, due_past, due_unnamed, set_itself, told_at}
use Rattle.xa_conduct.specs.AtRest.{AreAllDue, DecidesAll, is_due_in}
use Rattle.xa_conduct.specs.Backing.{TransactionRests, was_asked}
use Rattle.xa_conduct.specs.Decided.{is_commit_of, is_same}
use Rattle.xa_conduct.specs.NotStuck.{is_ready}
use Rattle.xa_conduct.specs.Progress.{AllStep}
use Rattle.xa_conduct.specs.declared.notes.Notes.{Notes}
use Rattle.xa_conduct.specs.declared.notes.Reply.{Reply}
use Rattle.xa_conduct.specs.declared.notes.Reply.TheVariants.{Thread}
use Rattle.xa_conduct.specs.declared.transaction.Transaction.{Transaction}
use Rattle.xa_conduct.proofs.notes.Notes.decide.Goals as goal
use Rattle.xa_conduct.proofs.notes.Notes.decide.Goals.{else-is_ready-via-else-is_ready, else-is_ready-via-then-is_ready+else-has, in-Some+then-is_ready+then-has+in_ok-commit, in-Some+else-is_ready, in_default-get_mut}

pub loop-reply-init : goal.loop-reply-init
loop-reply-init c = record {
  decides = decides_nothing c.args.self.now.transactions.items;
  all =
      subst (λ (ts : List Transaction). AreAllDue c.in_ok-ready.ready.items ts c.args.replies.now) c.as_slice.ensures.value c.in_ok-ready.ensures.all;
  decided = search rules;
  steps = all_step_none c.args.self.now.transactions.items;
  more = c.in_ok-decide.ensures.more;
  rests =
      λ past rest.
      rest_more_asked past c.args.plan.now.requests.items c.decide.new.self.requests.items c.args.self.now.transactions.items
      c.in_ok-decide.ensures.more rest;
}

pub loop-reply-preserved : goal.loop-reply-preserved
loop-reply-preserved c =
    let ready = c.loop-reply.invariant in
    let told = c.args.replies.now in
    let k = c.loop-reply.reply-index in
    let i = c.in-Thread.thread in
    let ts = c.loop-reply.self.transactions.items in
    let plan = c.loop-reply.plan.requests.items in
    let inside : k < length told = omega arith in
    let among = told_at told k i _ inside c.in-Thread.is in
    let goes =
    λ (us : List Transaction) (one : DecidesAll (Thread i ∷ []) ts us).
    decides_thread told k _ i c.args.self.now.transactions.items ts us inside c.in-Thread.is ready.decides one in
    elim c.match-get_mut.branch [
      | in-Some+then-is_ready+then-has+in_ok-commit w ↦ rw (w.plan-is, w.self-is) (
          let t = w.in-Some.transaction.now in
          let within : i < length ts = omega (arith, w.in-Some.ensures.variant.0 refl) in
          let commits = w.in_ok-commit.ensures in
          record {
            decides = goes _ (decides_set ts i t w.commit.new.self within w.in-Some.ensures.value commits.moved (ap is_ready commits.stands));
            all = all_due_set c.in_ok-ready.ready.items ts told i w.commit.new.self within (ap is_ready commits.stands) ready.all;
            decided = λ g is. commits.kept (is_commit_of g) (ready.decided g is);
            steps =
                all_step_both [] [] c.args.self.now.transactions.items ts _ ready.steps
                (all_step_set ts i t w.commit.new.self within w.in-Some.ensures.value commits.steps);
            more = λ p among. commits.kept p (ready.more p among);
            rests =
                λ past rest.
                rest_moved past plan w.commit.new.plan.requests.items ts i t w.commit.new.self within w.in-Some.ensures.value commits.kept commits.rests
                (ready.rests past rest);
          })
      | in-Some+else-is_ready w ↦ rw (w.plan-is, w.self-is) (
          let t = w.in-Some.transaction.now in
          let within : i < length ts = omega (arith, w.in-Some.ensures.variant.0 refl) in
          let itself : set ts i t ≡ ts = set_itself ts i t w.in-Some.ensures.value in
          let P : Notes → Type 0 = λ n. DecidesAll (take (k + 1) told) c.args.self.now.transactions.items n.transactions.items in
          let Q : Notes → Type 0 = λ n. AreAllDue c.in_ok-ready.ready.items n.transactions.items told in
          let done =
          λ (undue : is_due_in ts i ≡ false).
          subst (λ (us : List Transaction). DecidesAll (take (k + 1) told) c.args.self.now.transactions.items us) (sym itself)
          (goes ts (decides_same ts i undue)) in
          let kept = subst (λ (us : List Transaction). AreAllDue c.in_ok-ready.ready.items us told) (sym itself) ready.all in
          record {
            decides =
                elim w.else-is_ready.branch [
                  | else-is_ready-via-then-is_ready+else-has v ↦
                      subst P (sym v.self-is)
                      (done (due_unnamed c.in_ok-ready.ready.items ts told i t ready.all among within w.in-Some.ensures.value
                      (subst (λ (gs : List Gtrid). list_any (is_same t.gtrid) gs ≡ false) v.as_slice-then-is_ready.ensures.value
                      (sym v.has.ensures ∙ v.if-has.false))))
                  | else-is_ready-via-else-is_ready v ↦
                      subst P (sym v.self-is)
                      (done (due_not ts i t within w.in-Some.ensures.value (sym w.is_ready.ensures.exact ∙ v.if-is_ready.false)))
                ];
            all =
                elim w.else-is_ready.branch [
                  | else-is_ready-via-then-is_ready+else-has v ↦ subst Q (sym v.self-is) kept
                  | else-is_ready-via-else-is_ready v ↦ subst Q (sym v.self-is) kept
                ];
            decided = ready.decided;
            steps =
                let R : Notes → Type 0 = λ n. AllStep [] c.args.self.now.transactions.items n.transactions.items in
                let same =
                all_step_both [] [] c.args.self.now.transactions.items ts _ ready.steps
                (all_step_set ts i t t within w.in-Some.ensures.value (steps_none t)) in
                elim w.else-is_ready.branch [
                  | else-is_ready-via-then-is_ready+else-has v ↦ subst R (sym v.self-is) same
                  | else-is_ready-via-else-is_ready v ↦ subst R (sym v.self-is) same
                ];
            more = ready.more;
            rests =
                λ past rest.
                let R : Notes → Type 0 = λ n. All (TransactionRests (was_asked past plan)) n.transactions.items in
                let same = rest_same (was_asked past plan) ts i t within w.in-Some.ensures.value (ready.rests past rest) in
                elim w.else-is_ready.branch [
                  | else-is_ready-via-then-is_ready+else-has v ↦ subst R (sym v.self-is) same
                  | else-is_ready-via-else-is_ready v ↦ subst R (sym v.self-is) same
                ];
          })
      | in_default-get_mut w ↦ rw (w.plan-is, w.self-is) (record {
        decides =
            goes ts
            (decides_same ts i (due_past ts i
            (elim (cases_lt i (length ts)) [
              | inl within ↦ absurd (false≢true (w.in_default-get_mut.ensures.variant.1 (omega (arith, within))))
              | inr past ↦ past
            ])));
        all = ready.all;
        decided = ready.decided;
        steps = ready.steps;
        more = ready.more;
        rests = ready.rests;
      })
    ]
