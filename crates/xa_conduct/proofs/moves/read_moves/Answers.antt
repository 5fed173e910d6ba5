use Rattle.std.proofs.Common.{◌≡◌, ◌∙◌, ◌++◌, ◌∷◌, [], List, ap, arith, subst, sym}
use Rattle.std.proofs.lemmas.List.{length-map}
use Rattle.std.specs.Prelude.{IfOk, Option, None, map}
use Rattle.xa_conduct.proofs.MoveLemmas.{few_parts, many_parts, no_move}
use Rattle.xa_conduct.specs.Moves.{ArePairedInOrder, IsReadOf, parts_of}
use Rattle.xa_conduct.specs.declared.moves.Move.{Move}
use Rattle.xa_requests.specs.Words.{Word}
use Rattle.xa_conduct.proofs.moves.read_moves.Goals as goal

pub returns-then-len-gt-MOST_MOVES-clause-read : goal.returns-then-len-gt-MOST_MOVES-clause-read
returns-then-len-gt-MOST_MOVES-clause-read c =
    let parts = c.in_ok-parts.parts.items in
    subst (λ (ps : List Word). ArePairedInOrder IsReadOf ps c.push.new.self.items)
    (many_parts c.args.line.now (map (λ part. part.now) parts) c.in_ok-parts.ensures (omega (arith, length-map parts (λ part. part.now))))
    (subst (λ (ms : List (Option Move)). ArePairedInOrder IsReadOf ([] ∷ []) ms)
    (sym (c.in_ok-push.ensures.items ∙ ap (λ (ms : List (Option Move)). ms ++ None ∷ []) c.in_ok-none.ensures.items)) (no_move [], tt))

pub returns-clause-read : goal.returns-clause-read
returns-clause-read c =
    let parts = c.in_ok-parts.parts.items in
    subst (λ (ps : List Word). IfOk c.read_each.result (λ moves. ArePairedInOrder IsReadOf ps moves.items))
    (ap (map (λ part. part.now)) c.as_slice.ensures.value
    ∙ few_parts c.args.line.now (map (λ part. part.now) parts) c.in_ok-parts.ensures (omega (arith, length-map parts (λ part. part.now))))
    c.read_each.ensures.read
