use Rattle.std.proofs.Common.{◌≡◌, ◌&&◌, List, arith, not, subst, sym, take}
use Rattle.std.proofs.lemmas.List.{take_all, take_more}
use Rattle.std.specs.List.{list_any}
use Rattle.std.specs.Prelude.{string_bytes}
use Rattle.xa_conduct.proofs.MoveLemmas.{name_at, others_same, same_more, told_all, told_as_was, told_more, told_stays}
use Rattle.xa_conduct.proofs.RestLemmas.{unmoved_more}
use Rattle.xa_conduct.proofs.TurnLemmas.{all_pass_both, said_all, said_more}
use Rattle.xa_conduct.specs.AtRest.{is_moved_in}
use Rattle.xa_conduct.specs.Moves.{is_reply_to}
use Rattle.xa_conduct.specs.Told.{HasNext}
use Rattle.xa_conduct.specs.declared.notes.Reply.{Reply}
use Rattle.xa_conduct.proofs.notes.Notes.reply.Goals as goal

pub loop-at-preserved : goal.loop-at-preserved
loop-at-preserved c = record {
  rests = λ asked rest. c.in_ok-add_reply.ensures.rests asked (c.loop-at.invariant.rests asked rest);
  passes =
      all_pass_both c.args.self.now.transactions.items c.loop-at.self.transactions.items c.add_reply.new.self.transactions.items
      c.loop-at.invariant.passes c.in_ok-add_reply.ensures.passes;
  said =
      said_more _ _ _ c.loop-at.is_first (string_bytes c.loop-at.text) (string_bytes c.add_semicolon.new.text)
      (string_bytes c.add_reply.new.text) (take_more c.args.replies.now c.loop-at.at _ (omega arith)) c.in_ok-add_semicolon.ensures.first
      c.in_ok-add_semicolon.ensures.other c.loop-at.invariant.said c.in_ok-add_reply.ensures.said;
  moved =
      unmoved_more c.args.replies.now c.loop-at.at _ c.args.self.now.transactions.items c.loop-at.self.transactions.items
      c.add_reply.new.self.transactions.items (omega arith) c.loop-at.invariant.moved c.in_ok-add_reply.ensures.moved;
  others =
      same_more c.args.replies.now c.loop-at.at _ c.args.self.now.transactions.items c.loop-at.self.transactions.items
      c.add_reply.new.self.transactions.items (omega arith) c.loop-at.invariant.others c.in_ok-add_reply.ensures.others;
  tells =
      λ asked rest.
      let told = c.in_ok-add_reply.ensures.tells asked (c.loop-at.invariant.rests asked rest) in
      told_more asked c.args.self.now.transactions.items c.add_reply.new.self.transactions.items _ _ _ c.loop-at.is_first (string_bytes c.loop-at.text)
      (string_bytes c.add_semicolon.new.text) (string_bytes c.add_reply.new.text)
      (take_more c.args.replies.now c.loop-at.at _ (omega arith)) c.in_ok-add_semicolon.ensures.first c.in_ok-add_semicolon.ensures.other
      (told_stays asked c.args.self.now.transactions.items c.loop-at.self.transactions.items c.add_reply.new.self.transactions.items
      (take c.loop-at.at c.args.replies.now) c.loop-at.is_first (string_bytes c.loop-at.text)
      (others_same c.args.replies.now c.loop-at.at _ c.loop-at.self.transactions.items c.add_reply.new.self.transactions.items c.requires.once (omega arith)
      c.in_ok-add_reply.ensures.others)
      (c.loop-at.invariant.tells asked rest)) (
        told.0,
        told.1,
        told_as_was asked c.args.replies.now c.loop-at.at _ c.args.self.now.transactions.items c.loop-at.self.transactions.items c.add_reply.new.self.transactions.items told.0
            c.requires.once (omega arith) c.loop-at.invariant.passes.count c.loop-at.invariant.others told.2,
      );
}

pub returns-clause-tells : goal.returns-clause-tells
returns-clause-tells c = λ asked rest.
    told_all asked c.args.self.now.transactions.items c.loop-at.self.transactions.items c.args.replies.now _ c.loop-at.is_first (string_bytes c.loop-at.text)
    (take_all _ c.args.replies.now (omega arith)) (c.loop-at.invariant.tells asked rest)

pub returns-clause-said : goal.returns-clause-said
returns-clause-said c =
    said_all c.args.replies.now _ c.loop-at.is_first (string_bytes c.loop-at.text) (take_all _ c.args.replies.now (omega arith))
    c.loop-at.invariant.said

pub add_reply-requires : goal.add_reply-requires
add_reply-requires c =
    subst (HasNext c.loop-at.self.transactions.items _) (sym c.next_at-next.ensures)
    (name_at c.args.replies.now c.args.nexts.now c.loop-at.at _ c.args.self.now.transactions.items c.loop-at.self.transactions.items c.requires.once
    (omega arith) c.requires.names c.loop-at.invariant.passes.count c.loop-at.invariant.others)

pub returns-clause-moved : goal.returns-clause-moved
returns-clause-moved c = λ i.
    subst
    (λ (told : List Reply).
    is_moved_in c.loop-at.self.transactions.items i
    ≡ (is_moved_in c.args.self.now.transactions.items i && not (list_any (is_reply_to i) told)))
    (take_all _ c.args.replies.now (omega arith)) (c.loop-at.invariant.moved i)
