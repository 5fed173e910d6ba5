use Rattle.std.proofs.Common.{List, Result, Ok, Err, subst, sym}
use Rattle.std.specs.Prelude.{IfOk, Option, string_bytes}
use Rattle.xa_conduct.proofs.RestLemmas.{steps_rest}
use Rattle.xa_conduct.specs.Moves.{ArePairedInOrder, IsReadOf, parts_of}
use Rattle.xa_conduct.specs.declared.moves.Move.{Move}
use Rattle.xa_conduct.proofs.conductor.Conductor.turn.Goals as goal

-- whatever comes of a call
ok_each : {A E : Type 0} (r : Result A E) (P Q : A → Type 0) → ((x : A) → P x → Q x) → IfOk r P → IfOk r Q
ok_each (Ok x) P Q each is = each x is
ok_each (Err e) P Q each is = tt

pub returns-clause-rests : goal.returns-clause-rests
returns-clause-rests g c =
    let line = c.args.line.now in
    let read : ArePairedInOrder IsReadOf (parts_of line) c.as_slice-in_default.result.now =
    subst (λ (moves : List (Option Move)). ArePairedInOrder IsReadOf (parts_of line) moves) (sym c.as_slice-in_default.ensures.value)
    c.in_ok-moves.ensures.read in
    ok_each c.move_threads.result _ _ (λ text rests. rests line read) c.move_threads.ensures.rests

pub returns-clause-at_rest : goal.returns-clause-at_rest
returns-clause-at_rest g c =
    ok_each c.move_threads.result _ _
    (λ text steps. steps_rest g.L.DecisionLog.moment c.args.self.now c.move_threads.new.self (string_bytes text) c.if-self.false steps)
    c.move_threads.ensures.steps
