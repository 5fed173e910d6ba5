use Rattle.std.proofs.Common.{◌≡◌, ◌<◌, ◌∙◌, arith, false, length, refl, sym, true}
use Rattle.std.proofs.lemmas.Bool.{true≢false}
use denote.Enum.Bare.{sameb}
use Rattle.sqlite.specs.Held.{state}
use Rattle.sqlite.specs.State.{HasCleanDisk}
use Rattle.sqlite.proofs.InsideLemmas.{keeps_then}
use Rattle.xa_log.specs.contracts.decision_log.Logged.{the_type}
use Rattle.xa_log.specs.declared.decision_log.Logged.{Logged}
use Rattle.xa_log.specs.declared.decision_log.Logged.TheVariants.{New, Already}
use Rattle.xa_sql_log.proofs.GroupedRows.{inserts_one, inside_log, may_insert, passes_one}
use Rattle.xa_sql_log.proofs.Inside.{survives_none}
use Rattle.xa_sql_log.proofs.groups.insert_new.Goals as goal
use Rattle.xa_sql_log.proofs.groups.insert_new.Goals.{then-eq+in_ok-insert_one, else-eq}

new_if : (l : Logged) → sameb the_type l New ≡ true → New ≡ l
new_if New h = refl
new_if Already h = absurd (true≢false (sym h))

already_if : (l : Logged) → sameb the_type l New ≡ false → Already ≡ l
already_if New h = absurd (true≢false h)
already_if Already h = refl

pub loop-i-preserved : goal.loop-i-preserved
loop-i-preserved g c =
    let ds = c.args.decisions.now in
    let answers = c.args.answers.now in
    let n = c.loop-i.i in
    let d = c.index-decisions-i.result in
    let old = state g.S.Store c.args.tx.now.conn.now in
    let mid = state g.S.Store c.loop-i.tx.conn.now in
    let inv = c.loop-i.invariant in
    let within : n < length answers = omega (arith, c.requires.paired, c.loop-i-test.true) in
    elim c.if-eq.branch [
      | then-eq+in_ok-insert_one w ↦ (
          let new = state g.S.Store w.insert_one.new.tx.conn.now in
          let early : HasCleanDisk new → HasCleanDisk mid = λ clean. omega (arith, w.insert_one.ensures.survives.clean) in
          let is = new_if _ (sym c.eq.ensures ∙ w.if-eq.true) in
          rw w.tx-is (
            w.insert_one.ensures.same_reference ∙ inv.0,
            survives_none old mid new inv.1 w.insert_one.ensures.survives,
            λ clean. keeps_then old mid new (inv.2 (early clean)) (w.insert_one.ensures.kept clean),
            λ clean may.
                let first = inv.3 (early clean) may in
                let live = w.in_ok-insert_one.ensures.live clean in
                let here = inside_log ds answers n old mid may first live in
                let none = w.in_ok-insert_one.ensures.absent here.0 here.1 clean in
                inserts_one ds answers n d _ New c.loop-i-test.true within c.index-decisions-i.is is old may mid new refl first live none
                (w.in_ok-insert_one.ensures.written
                (may_insert ds answers n d _ New c.loop-i-test.true within c.index-decisions-i.is is old may mid first live none) clean),
          ))
      | else-eq w ↦ (
          let is = already_if _ (sym c.eq.ensures ∙ w.if-eq.false) in
          rw w.tx-is (
            inv.0,
            inv.1,
            inv.2,
            λ clean may. passes_one ds answers n d _ Already c.loop-i-test.true within c.index-decisions-i.is is old may mid refl (inv.3 clean may),
          ))
    ]
