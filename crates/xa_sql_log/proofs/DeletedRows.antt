-- What a transaction leaves that takes the rows of several decisions away, by those that have been taken so far.
use Rattle.std.proofs.Common.{◌≡◌, ℕ, ◌+◌, ◌<◌, ◌≤◌, List, length, take, get_or, IsTrue, refl, ap, ◌∙◌, arith}
use Rattle.std.proofs.lemmas.List.{take_all}
use Rattle.sqlite.specs.Effect.{IsDatabase}
use Rattle.sqlite.specs.State.{State}
use Rattle.xa_base.specs.declared.branch.Gtrid.{Gtrid}
use Rattle.xa_log.specs.Content.{without_decision, without_decisions}
use Rattle.xa_log.proofs.TakenTogether.{one_more_taken}
use Rattle.xa_sql_log.specs.Rows.{IsLog, content_of}
use Rattle.xa_sql_log.specs.Sql.{HasMade, IsInsideLog, IsOrderly}
use Rattle.xa_sql_log.proofs.Inside.{begun}

-- the rows of the first n are gone, if the log is open; and it is once one of them has been taken
pub record TakesFirst (gs : List Gtrid) (n : ℕ) (a m : State) : Type 0 where
  pub was_open : IsTrue m.is_open → IsTrue a.is_open
  pub inside : IsTrue m.in_transaction
  pub now : IsTrue m.is_open → IsLog m.now
  pub content : IsTrue m.is_open → content_of m.now.trees ≡ without_decisions (take n gs) (content_of a.now.trees)
  pub written : 0 < n → IsTrue m.is_open × IsDatabase m.now

pub none_taken : (gs : List Gtrid) (a : State) → IsInsideLog a → TakesFirst gs 0 a a
none_taken gs a begins = record {
  was_open = λ h. h;
  inside = begins.inside;
  now = begins.now;
  content = λ h. refl;
  written = λ some. absurd (omega (arith, some));
}

pub takes_one : (gs : List Gtrid) (n : ℕ) (d : Gtrid) (a m m′ : State) → n < length gs → TakesFirst gs n a m → IsTrue m.is_open
    → HasMade (without_decision (get_or gs n d)) m m′ → TakesFirst gs (n + 1) a m′
takes_one gs n d a m m′ low first live made = record {
  was_open = λ _. first.was_open live;
  inside = made.inside;
  now = λ _. made.now;
  content = λ _. one_more_taken gs n d (content_of a.now.trees) (content_of m.now.trees) (content_of m′.now.trees) low (first.content live) made.content;
  written = λ _. (made.is_open, made.sound);
}

pub taken_to_end : (gs : List Gtrid) (n : ℕ) (a m : State) → length gs ≤ n → 0 < n → TakesFirst gs n a m → HasMade (without_decisions gs) a m
taken_to_end gs n a m high some first =
    let written = first.written some in
    record {
      was_open = first.was_open written.0;
      is_open = written.0;
      inside = first.inside;
      now = first.now written.0;
      sound = written.1;
      content = first.content written.0 ∙ ap (λ l. without_decisions l (content_of a.now.trees)) (take_all n gs high);
    }

pub begins_inside : (a : State) → IsOrderly a → IsInsideLog (begun a)
begins_inside a order = record { inside = refl; now = λ h. (order h).now }
