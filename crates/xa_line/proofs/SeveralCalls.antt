-- What a line takes that nothing hinders: one call, and several in turn.
use Rattle.std.proofs.Common.{◌≡◌, ◌≤◌, ◌<◌, ℕ, suc, Bool, true, false, List, ◌∷◌, [], ◌++◌, length, refl, sym, ap, ◌∙◌, arith, append_assoc, length-append}
use Rattle.std.specs.Prelude.{◌&&◌, ◌||◌, ◌+◌, not, if◌then◌else◌, Some, None, nat_le, Result, Ok, Err, OnOk}
use Rattle.std.specs.List.{list_any}
use Rattle.std.specs.Option.{option_or}
use Rattle.std.specs.Result.{result_err}
use Rattle.std.proofs.lemmas.Bool.Decides.{nat_tests}
use Rattle.std.proofs.lemmas.List.Folds.{list_any-append}
use Rattle.xa_base.specs.Opening.{closes, has_closed, has_opened, opens}
use Rattle.xa_base.specs.Xid.{Xid}
use Rattle.xa_base.specs.declared.call.Call.{Call}
use Rattle.xa_base.specs.declared.refusal.Refusal.{Refusal}
use Rattle.xa_base.specs.declared.refusal.Refusal.TheVariants as Refusals
use Rattle.xa_line.specs.Traffic.{Traffic, barred, calls_issued, refusal, with_more, with_one_more}

-- ** one call

issued_so : {P : Type 0} (result : Result (Unit {0}) Refusal) → result_err result ≡ None → OnOk result P → P
issued_so (Ok u) e p = p
issued_so (Err n) e p = absurd (cc)

-- what a line that didn't refuse the call has
pub line_took : (at read : Traffic) (call copied : Call Xid) (result : Result (Unit {0}) Refusal) (new : Traffic)
    → read ≡ at → copied ≡ call → result_err result ≡ refusal read copied
    → OnOk result (new ≡ record read { calls = with_one_more read.calls copied }) → barred (calls_issued at) call ≡ None
    → nat_le 64 (length at.calls.waiting) ≡ false
    → new ≡ record at { calls = with_one_more at.calls call }
line_took at read call copied result new same copy reason accepted_so bar room =
    let none : refusal at call ≡ None = λ i. option_or (bar i) (if room i then Some Refusals.Full else None) in
    let done = issued_so result (reason ∙ (λ i. refusal (same i) (copy i)) ∙ none) accepted_so in
    done ∙ λ i. record (same i) { calls = with_one_more (same i).calls (copy i) }

-- ** several calls

shut_not : (x : Bool) → (x && not true) ≡ false
shut_not true = refl
shut_not false = refl

not_first : (a b : Bool) → (a || b) ≡ false → a ≡ false
not_first false b e = refl
not_first true b e = absurd (cc)

-- one call more of several that a line takes
pub took_more : (old now : Traffic) (all yielded rest left : List (Call Xid)) (call : Call Xid) (count : ℕ)
    (result : Result (Unit {0}) Refusal) (new : Traffic) → now ≡ record old { calls = with_more old.calls yielded } → all ≡ yielded ++ rest → rest ≡ call ∷ left
    → length old.calls.waiting + count ≤ 64 → count ≡ length all → has_opened (calls_issued old) ≡ true
    → has_closed (calls_issued old ++ all) ≡ false → result_err result ≡ refusal now call
    → OnOk result (new ≡ record now { calls = with_one_more now.calls call })
    → (new ≡ record old { calls = with_more old.calls (yielded ++ call ∷ []) }) × (all ≡ (yielded ++ call ∷ []) ++ left)
took_more old now all yielded rest left call count result new here split first room many opened unclosed_all reason accepted =
    let at = record old { calls = with_more old.calls yielded } in
    let parted : all ≡ yielded ++ (call ∷ left) = split ∙ ap (λ xs. yielded ++ xs) first in
    let open_now : has_opened (calls_issued at) ≡ true =
    ap has_opened (sym (append_assoc old.calls.gone old.calls.waiting yielded)) ∙ list_any-append opens (calls_issued old) yielded
    ∙ ap (λ b. b || list_any opens yielded) opened in
    let so_far : has_closed (calls_issued old ++ yielded) ≡ false =
    not_first _ (list_any closes (call ∷ left))
    (sym (list_any-append closes (calls_issued old ++ yielded) (call ∷ left)) ∙ ap has_closed
    (append_assoc (calls_issued old) yielded (call ∷ left) ∙ ap (λ xs. calls_issued old ++ xs) (sym parted)) ∙ unclosed_all) in
    let closed_now : has_closed (calls_issued at) ≡ false = ap has_closed (sym (append_assoc old.calls.gone old.calls.waiting yielded)) ∙ so_far in
    let shut : (not (opens call) && not (has_opened (calls_issued at))) ≡ false = ap (λ b. not (opens call) && not b) open_now ∙ shut_not (not (opens call)) in
    let bar : barred (calls_issued at) call ≡ None = λ i. if shut i then Some Refusals.NotOpen else (if closed_now i then Some Refusals.Closed else None) in
    let number : length all ≡ length yielded + suc (length left) = ap length parted ∙ length-append yielded (call ∷ left) in
    let waits : length (old.calls.waiting ++ yielded) ≡ length old.calls.waiting + length yielded = length-append old.calls.waiting yielded in
    let free : nat_le 64 (length (old.calls.waiting ++ yielded)) ≡ false =
    le_not (length (old.calls.waiting ++ yielded)) (omega (arith, room, many, number, waits)) in
    let done = line_took at now call call result new here refl reason accepted bar free in (
      done ∙ ap (λ ws. record old { calls = record { gone = old.calls.gone; waiting = ws } }) (append_assoc old.calls.waiting yielded (call ∷ [])),
      parted ∙ sym (append_assoc yielded (call ∷ []) left),
    )
  where
    le_not : (n : ℕ) → n < 64 → nat_le 64 n ≡ false
    le_not n lt = grind (arith, nat_tests, lt)
