use Rattle.std.proofs.Common.{◌≡◌, ◌∙◌, ◌&&◌, ℕ, List, Option, ap, inl, inr, length, not, rules, subst, sym}
use Rattle.std.specs.List.{list_any}
use Rattle.std.specs.Prelude.{All, string_bytes}
use Rattle.xa_base.specs.declared.branch.Gtrid.{Gtrid}
use Rattle.xa_requests.specs.declared.request.Request.{Request}
use Rattle.xa_conduct.proofs.ConductLemmas.{moves_told, ok_all, rest_stays, stops_told}
use Rattle.xa_conduct.proofs.MoveLemmas.{line_replied}
use Rattle.xa_conduct.proofs.RestLemmas.{line_rests}
use Rattle.xa_conduct.proofs.TurnLemmas.{line_steps}
use Rattle.xa_conduct.specs.AtRest.{DecidesAll, is_moved_in}
use Rattle.xa_conduct.specs.Backing.{TransactionRests, was_asked}
use Rattle.xa_conduct.specs.Moves.{ArePairedInOrder, is_reply_to}
use Rattle.xa_conduct.specs.Told.{AreRepliesTold, HasNext}
use Rattle.xa_conduct.specs.Turns.{SaysAll}
use Rattle.xa_conduct.specs.declared.notes.Reply.{Reply}
use Rattle.xa_conduct.specs.declared.transaction.Transaction.{Transaction}
use Rattle.xa_conduct.proofs.conductor.Conductor.move_threads.Goals as goal

pub returns-clause-rests : goal.returns-clause-rests
returns-clause-rests g c = λ line read.
    let s = c.args.self.now in
    let told = c.in_ok-replies.replies.items in
    let taken = c.take_all.new in
    let decided = c.decide.new in
    let finished = c.finish.new in
    let begun = c.begin_next.new in
    let steps =
    line_steps told s.notes.transactions.items taken.self.transactions.items decided.self.transactions.items finished.self.transactions.items
    begun.self.transactions.items c.in_ok-replies.ensures.steps c.in_ok-decide.ensures.steps (ap (λ v. v.items) c.finish.ensures.same)
    (ap (λ v. v.items) c.begin_next.ensures.same) in
    let text = string_bytes c.in_ok-text.text in
    moves_told g.L.DecisionLog.moment s _ begun.plan.requests.items begun.self.transactions.items line text c.requires.going
    (λ past rest.
    let first = subst (λ (plan : List Request). All (TransactionRests (was_asked past plan)) s.notes.transactions.items) (sym c.new-plan.ensures) rest in
    rest_stays past finished.plan.requests.items begun.plan.requests.items finished.self.transactions.items begun.self.transactions.items
    c.in_ok-nexts.ensures.more (ap (λ v. v.items) c.begin_next.ensures.same)
    (rest_stays past decided.plan.requests.items finished.plan.requests.items decided.self.transactions.items finished.self.transactions.items
    c.in_ok-finish.ensures.more (ap (λ v. v.items) c.finish.ensures.same)
    (c.in_ok-decide.ensures.rests past (c.in_ok-replies.ensures.rests past first))))
    c.in_ok-text.ensures.rests
    (λ asked rest.
    line_replied asked s.notes.transactions.items begun.self.transactions.items c.reply.new.self.transactions.items line text c.args.moves.now told read c.in_ok-replies.ensures.threads
    c.in_ok-replies.ensures.once steps
    (subst (λ (rs : List Reply). AreRepliesTold asked begun.self.transactions.items c.reply.new.self.transactions.items rs text) c.as_slice-4.ensures.value
    (c.in_ok-text.ensures.tells asked rest)))
    (c.ask_all.ensures.done (search rules))

pub returns-then-not-ask_all-clause-rests : goal.returns-then-not-ask_all-clause-rests
returns-then-not-ask_all-clause-rests g c =
    ok_all c.stop.result _
    (λ text line read.
    stops_told g.L.DecisionLog.moment c.args.self.now c.stop.new.self line (string_bytes text) c.stop.ensures.stopped
    (λ done first acts. c.stop.ensures.acts done first (c.ask_all.ensures.acts done first acts)))

pub returns-clause-steps : goal.returns-clause-steps
returns-clause-steps g c =
    let s = c.args.self.now in
    let told = c.in_ok-replies.replies.items in
    let taken = c.take_all.new.self.transactions.items in
    let decided = c.decide.new.self.transactions.items in
    let begun = c.begin_next.new.self.transactions.items in
    let same : begun ≡ decided = ap (λ v. v.items) c.begin_next.ensures.same ∙ ap (λ v. v.items) c.finish.ensures.same in
    let decides : DecidesAll told taken begun =
    subst (λ (rs : List Reply). DecidesAll rs taken begun) c.as_slice.ensures.value
    (subst (λ (ts : List Transaction). DecidesAll c.as_slice.result.now taken ts) (sym same) c.in_ok-decide.ensures.decides) in
    let unmoved =
    λ (i : ℕ).
    subst (λ (rs : List Reply). is_moved_in c.reply.new.self.transactions.items i ≡ (is_moved_in begun i && not (list_any (is_reply_to i) rs)))
    c.as_slice-4.ensures.value (c.in_ok-text.ensures.moved i) in
    let count : length begun ≡ length s.notes.transactions.items =
    ap length same ∙ c.in_ok-decide.ensures.steps.count ∙ c.in_ok-replies.ensures.steps.count in
    inl (record {
      told = c.in_ok-replies.replies.items;
      between = c.begin_next.new.self.transactions.items;
      steps =
          line_steps c.in_ok-replies.replies.items c.args.self.now.notes.transactions.items c.take_all.new.self.transactions.items
          c.decide.new.self.transactions.items c.finish.new.self.transactions.items c.begin_next.new.self.transactions.items
          c.in_ok-replies.ensures.steps c.in_ok-decide.ensures.steps (ap (λ v. v.items) c.finish.ensures.same)
          (ap (λ v. v.items) c.begin_next.ensures.same);
      passes = c.in_ok-text.ensures.passes;
      rests =
          line_rests told s.notes.transactions.items taken begun c.reply.new.self.transactions.items c.in_ok-replies.ensures.moves decides unmoved
          c.in_ok-text.ensures.passes count;
      said = subst (λ (rs : List Reply). SaysAll rs (string_bytes c.in_ok-text.text)) c.as_slice-4.ensures.value c.in_ok-text.ensures.said;
    })

pub returns-then-not-ask_all-clause-steps : goal.returns-then-not-ask_all-clause-steps
returns-then-not-ask_all-clause-steps g c = ok_all c.stop.result _ (λ text. inr (inr c.stop.ensures.stopped))

pub reply-requires-clause-names : goal.reply-requires-clause-names
reply-requires-clause-names g c =
    let begun = c.begin_next.new.self.transactions.items in
    let nexts = c.in_ok-nexts.nexts.items in
    subst (λ (names : List (Option Gtrid)). ArePairedInOrder (HasNext begun) c.as_slice-4.result.now names) (sym c.as_slice-5.ensures.value)
    (subst (λ (told : List Reply). ArePairedInOrder (HasNext begun) told nexts) (sym c.as_slice-4.ensures.value)
    (subst (λ (told : List Reply). ArePairedInOrder (HasNext begun) told nexts) c.as_slice-3.ensures.value
    (subst (λ (ts : List Transaction). ArePairedInOrder (HasNext ts) c.as_slice-3.result.now nexts) (sym (ap (λ v. v.items) c.begin_next.ensures.same))
    c.in_ok-nexts.ensures.names)))
