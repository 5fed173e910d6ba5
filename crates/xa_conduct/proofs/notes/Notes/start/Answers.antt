use Rattle.std.proofs.Common.{◌<◌, Bool, List, [], ◌∷◌, ap, arith, length, refl, subst, sym}
use Rattle.std.proofs.lemmas.Bool.{false≢true}
use Rattle.std.specs.Prelude.{All}
use Rattle.xa_requests.specs.declared.request.Request.{Request}
use Rattle.xa_conduct.proofs.BackingLemmas.{rest_begun, rest_more_asked}
use Rattle.xa_conduct.specs.Backing.{TransactionRests, was_asked}
use Rattle.xa_conduct.specs.Progress.{AllStep}
use Rattle.xa_conduct.specs.declared.notes.Notes.{Notes}
use Rattle.xa_conduct.specs.declared.notes.Reply.TheVariants.{Started}
use Rattle.xa_conduct.specs.declared.transaction.Transaction.{Transaction}
use Rattle.xa_conduct.proofs.ProgressLemmas.{all_step_begun, all_step_started}
use Rattle.xa_conduct.proofs.RestLemmas.{first_one, moves_begun}
use Rattle.xa_conduct.specs.AtRest.{IsFirstMove, MovesTheirs}
use Rattle.xa_conduct.specs.NotStuck.{is_ready}
use Rattle.xa_conduct.proofs.notes.Notes.start.Goals as goal
use Rattle.xa_conduct.proofs.notes.Notes.start.Goals.{in-Some-get_mut, in_default-get_mut}

pub returns-clause-rests : goal.returns-clause-rests
returns-clause-rests c = λ past rest.
    let before = c.next-gtrid.new.self.transactions.items in
    let asked : (Request → Bool) → Bool = was_asked past c.begin-2.new.self.requests.items in
    let P : Notes → Type 0 = λ n. All (TransactionRests asked) n.transactions.items in
    let here : All (TransactionRests asked) before =
    subst (All (TransactionRests asked)) (sym (ap (λ v. v.items) c.next-gtrid.ensures))
    (rest_more_asked past c.args.plan.now.requests.items c.begin-2.new.self.requests.items c.args.self.now.transactions.items c.in_ok-begin.ensures rest) in
    elim c.match-get_mut.branch [
      | in-Some-get_mut w ↦ subst P (sym w.self-is) (rest_begun asked before c.args.thread _ (w.begin.ensures.rests asked) here)
      | in_default-get_mut w ↦ subst P (sym w.self-is) here
    ]

pub returns-clause-steps : goal.returns-clause-steps
returns-clause-steps c =
    let ts = c.args.self.now.transactions.items in
    let before = c.next-gtrid.new.self.transactions.items in
    let same = ap (λ v. v.items) c.next-gtrid.ensures in
    let P : Notes → Type 0 = λ n. AllStep (Started c.args.thread c.next-gtrid.result ∷ []) ts n.transactions.items in
    elim c.match-get_mut.branch [
      | in-Some-get_mut w ↦ subst P (sym w.self-is) (all_step_begun ts before c.args.thread c.next-gtrid.result _ same)
      | in_default-get_mut w ↦ subst P (sym w.self-is) (all_step_started ts before c.args.thread c.next-gtrid.result same)
    ]

pub returns-clause-first : goal.returns-clause-first
returns-clause-first c =
    let t = c.in-Some.transaction.now in
    subst (λ (us : List Transaction). IsFirstMove us (Started c.args.thread c.next-gtrid.result)) c.deref.ensures.value
    (first_one c.deref.result.now c.args.thread t c.in-Some.ensures.lookup.3.0 c.in-Some.ensures.lookup.1 (c.may_begin-in-Some-1.ensures c.if-may_begin.true))

pub returns-clause-moves : goal.returns-clause-moves
returns-clause-moves c =
    let ts = c.args.self.now.transactions.items in
    let before = c.next-gtrid.new.self.transactions.items in
    let same = ap (λ v. v.items) c.next-gtrid.ensures in
    let within : c.args.thread < length ts =
    subst (λ (us : List Transaction). c.args.thread < length us) c.deref.ensures.value c.in-Some.ensures.lookup.3.0 in
    let P : Notes → Type 0 = λ n. MovesTheirs (Started c.args.thread c.next-gtrid.result ∷ []) ts n.transactions.items in
    elim c.match-get_mut.branch [
      | in-Some-get_mut w ↦
          subst P (sym w.self-is)
          (moves_begun ts before c.args.thread c.next-gtrid.result _ same within refl (ap is_ready w.begin.ensures.begun.1))
      | in_default-get_mut w ↦
          absurd (false≢true (w.in_default-get_mut.ensures.variant.1 (omega (arith, ap length same, within))))
    ]
