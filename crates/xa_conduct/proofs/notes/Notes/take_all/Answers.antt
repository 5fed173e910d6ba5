use Rattle.std.proofs.Common.{◌≡◌, ◌∙◌, ◌+◌, ℕ, List, [], ◌∷◌, ap, arith, get_or, length, subst, sym}
use Rattle.std.proofs.lemmas.List.{length_push}
use Rattle.std.specs.Prelude.{None}
use Rattle.xa_conduct.proofs.MoveLemmas.{of_move, paired_more}
use Rattle.xa_conduct.proofs.ProgressLemmas.{all_step_both, all_step_no_move}
use Rattle.xa_conduct.proofs.RestLemmas.{first_none, moves_both, moves_none, once_first}
use Rattle.xa_conduct.specs.AtRest.{IsFirstMove, MovesTheirs}
use Rattle.xa_conduct.specs.Moves.{AreMovedOnce, IsReplyOf, is_reply_to}
use Rattle.xa_conduct.specs.Progress.{AllStep}
use Rattle.xa_conduct.specs.declared.notes.Reply.{Reply}
use Rattle.xa_conduct.proofs.notes.Notes.take_all.Goals as goal
use Rattle.xa_conduct.proofs.notes.Notes.take_all.Goals.{in-None, in-Some+in_ok-reply-in-Some}

pub loop-asked-preserved : goal.loop-asked-preserved
loop-asked-preserved c =
    let before = c.loop-asked.invariant in
    let ts = c.args.self.now.transactions.items in
    let us = c.loop-asked.self.transactions.items in
    let told = c.loop-asked.replies.items in
    let reply = c.match-asked.reply in
    let count : length c.push.new.self.items ≡ c.loop-asked.asked-index + 1 =
    ap length c.in_ok-push.ensures.items ∙ length_push told reply ∙ ap (λ (n : ℕ). n + 1) before.count in
    let pushed = sym c.in_ok-push.ensures.items in
    elim c.match-asked.branch [
      | in-Some+in_ok-reply-in-Some w ↦ rw (w.plan-is, w.self-is) (
          let taken = w.in_ok-reply-in-Some.ensures in
          let vs = w.take.new.self.transactions.items in
          record {
            count = count;
            threads =
                paired_more IsReplyOf c.args.moves.now told c.push.new.self.items c.loop-asked.asked-index c.asked-item.result reply (omega arith)
                c.in_ok-push.ensures.items before.threads
                (of_move c.args.moves.now c.loop-asked.asked-index c.asked-item.result w.in-Some.asked w.in_ok-reply-in-Some.reply reply c.asked-item.is
                w.in-Some.is w.reply-is taken.thread);
            once =
                subst AreMovedOnce pushed
                (once_first told reply ts us before.once before.moves (subst (IsFirstMove us) (sym w.reply-is) taken.first));
            moves =
                subst (λ (rs : List Reply). MovesTheirs rs ts vs) pushed
                (moves_both told (reply ∷ []) ts us vs before.moves
                (subst (λ (r : Reply). MovesTheirs (r ∷ []) us vs) (sym w.reply-is) taken.moves));
            steps =
                subst (λ (rs : List Reply). AllStep rs ts vs) pushed
                (all_step_both told (reply ∷ []) ts us vs before.steps
                (subst (λ (r : Reply). AllStep (r ∷ []) us vs) (sym w.reply-is) taken.steps));
            more = λ p among. taken.more p (before.more p among);
            rests = λ past rest. taken.rests past (before.rests past rest);
          })
      | in-None w ↦ rw (w.plan-is, w.self-is) (record {
        count = count;
        threads =
            paired_more IsReplyOf c.args.moves.now told c.push.new.self.items c.loop-asked.asked-index None reply (omega arith) c.in_ok-push.ensures.items
            before.threads (subst (λ (r : Reply). IsReplyOf (get_or c.args.moves.now c.loop-asked.asked-index None) r) (sym w.reply-is) tt);
        once =
            subst AreMovedOnce pushed
            (once_first told reply ts us before.once before.moves (first_none us reply (λ t. ap (is_reply_to t) w.reply-is)));
        moves =
            subst (λ (rs : List Reply). MovesTheirs rs ts us) pushed
            (moves_both told (reply ∷ []) ts us us before.moves (moves_none us reply (λ t. ap (is_reply_to t) w.reply-is)));
        steps =
            subst (λ (rs : List Reply). AllStep rs ts us) pushed
            (all_step_both told (reply ∷ []) ts us us before.steps
            (subst (λ (r : Reply). AllStep (r ∷ []) us us) (sym w.reply-is) (all_step_no_move us)));
        more = before.more;
        rests = before.rests;
      })
    ]
