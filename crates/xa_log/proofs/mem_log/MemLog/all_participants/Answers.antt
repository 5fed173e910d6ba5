use Rattle.std.proofs.Common.{◌≡◌, ◌++◌, rules, sym, ap, ◌∙◌, append_assoc}
use Rattle.std.proofs.lemmas.List.{append-nil}
use Rattle.std.specs.Map.Iter.{deref}
use Rattle.std.proofs.lemmas.Iterator.Adapters.{items_from_extend}
use Rattle.std.proofs.lemmas.Iterator.Consumers.{YieldsList-from_copied, YieldsList-from_rest, YieldsList-at}
use Rattle.std.proofs.lemmas.Map.Iter.{rest_more, rest_all}
use Rattle.xa_base.proofs.BranchOrder.{branches_total}
use Rattle.xa_log.proofs.KeySets.{items-from_list}
use Rattle.xa_log.proofs.InOrder.{listed_in, participants_listed}
use Rattle.xa_log.proofs.KeySets.{items-from_list}
use Rattle.xa_log.proofs.mem_log.MemLog.all_participants.Goals as goal

pub loop-waited_for-init : goal.loop-waited_for-init
loop-waited_for-init c = ap (λ items. items ++ listed_in c.into_iter-waited_for-iterator.result) c.new-list.ensures.items
    ∙ ap listed_in (c.into_iter-waited_for-iterator.ensures.into_iter_gives ∙ c.values-waited_for-items.ensures.rest)

pub loop-waited_for-preserved : goal.loop-waited_for-preserved
loop-waited_for-preserved c =
    let ks = c.in-Some.waited_for.now.keys in
    let rest = listed_in c.next.new.self in
    let had = c.loop-waited_for.list.items in
    let run = items_from_extend c.extend.result c.extend.ensures.ran
    (YieldsList-from_copied (YieldsList-at c.copied.ensures.source (YieldsList-from_rest ks c.iter.ensures.rest))) in
    let put : c.extend.new.self.items ≡ had ++ ks = search rules in
    ap (λ l. l ++ rest) put ∙ append_assoc had ks rest
    ∙ ap (λ l. had ++ (l ++ rest)) (sym (items-from_list branches_total ks c.iter.ensures.ordered))
    ∙ ap (λ sets. had ++ listed_in sets)
    (sym (rest_more deref c.loop-waited_for.waited_for-iterator c.next.new.self c.next.result c.in-Some.waited_for c.in-Some.is c.next.ensures.steps))
    ∙ c.loop-waited_for.invariant

pub returns-clause-ok : goal.returns-clause-ok
returns-clause-ok c =
    let had = c.loop-waited_for.list.items in
    sym (append-nil had)
    ∙ ap (λ sets. had ++ listed_in sets)
    (sym (rest_all deref c.loop-waited_for.waited_for-iterator c.next.new.self c.next.result c.in-None.is c.next.ensures.steps))
    ∙ c.loop-waited_for.invariant ∙ sym (participants_listed c.args.self.now.decisions c.values-waited_for-items.ensures.ordered)
