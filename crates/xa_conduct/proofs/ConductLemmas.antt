-- What the notes of a conductor rest on, as it goes on.
use Rattle.std.proofs.Common.{◌≡◌, ◌∙◌, ℕ, Bool, true, false, List, [], ◌++◌, Result, Ok, Err, ap, inl, inr, subst, sym}
use Rattle.std.proofs.lemmas.Bool.{or_left, true≢false}
use Rattle.std.proofs.lemmas.List.Folds.{list_any-append}
use Rattle.std.specs.List.{list_any}
use Rattle.std.specs.Prelude.{All, IfOk}
use Rattle.xa_log.specs.Contract.{Moment}
use Rattle.xa_requests.specs.declared.request.Request.{Request}
use Rattle.xa_server.specs.declared.server.Server.{Server}
use Rattle.xa_conduct.proofs.BackingLemmas.{all_rest_more, rest_more_asked}
use Rattle.xa_conduct.specs.Acting.{Acts, GoesOn, GoesOnBy}
use Rattle.xa_conduct.specs.Backing.{KeepResting, KeepsRest, TransactionRests, was_asked}
use Rattle.xa_conduct.specs.Conducting.{Conducts, KeepsConducting, TurnsSo}
use Rattle.xa_conduct.specs.Decided.{AsksNoLess}
use Rattle.xa_conduct.specs.Told.{AreReplies}
use Rattle.xa_conduct.specs.declared.conductor.Conductor.{Conductor}
use Rattle.xa_conduct.specs.declared.transaction.Transaction.{Transaction}

-- of whatever comes of a call
pub ok_all : {A E : Type 0} (r : Result A E) (P : A → Type 0) → ((x : A) → P x) → IfOk r P
ok_all (Ok x) P all = all x
ok_all (Err e) P all = tt

-- what a plan asks for was done
planned : (done plan : List Request) (p : Request → Bool) → was_asked done plan p ≡ true → was_asked (done ++ plan) [] p ≡ true
planned done plan p asked = or_left (list_any p (done ++ plan)) (list_any p []) (list_any-append p done plan ∙ asked)

pub rest_done : (done plan : List Request) (ts : List Transaction) → All (TransactionRests (was_asked done plan)) ts → All (TransactionRests (was_asked (done ++ plan) [])) ts
rest_done done plan ts rest = all_rest_more (was_asked done plan) (was_asked (done ++ plan) []) (planned done plan) ts rest

-- no transaction moved, and more was asked for
pub rest_stays : (past old new : List Request) (ts us : List Transaction) → AsksNoLess old new → us ≡ ts → All (TransactionRests (was_asked past old)) ts
    → All (TransactionRests (was_asked past new)) us
rest_stays past old new ts us more same rest =
    subst (All (TransactionRests (was_asked past new))) (sym same) (rest_more_asked past old new ts more rest)

module _ {L : Type 0} (moment : L → Moment) where
  -- no transaction moved
  pub keeps_conducting : (old new : Conductor L) → old.notes.is_stopped ≡ false → new.notes.transactions ≡ old.notes.transactions
      → GoesOn moment old.server new.server → KeepsConducting moment old new
  keeps_conducting old new going same goes = λ first was. record {
    done = was.done;
    acts = goes was.done first was.acts;
    rest = λ _. subst (All (TransactionRests (was_asked was.done []))) (sym (ap (λ v. v.items) same)) (was.rest going);
  }

  pub keeps_told : (old new : Conductor L) (line text : List ℕ) → old.notes.is_stopped ≡ false → new.notes.transactions ≡ old.notes.transactions
      → GoesOn moment old.server new.server → TurnsSo moment old new line text
  keeps_told old new line text going same goes = λ first was. (keeps_conducting old new going same goes first was, inr (inl same))

  -- some moved, as a plan says that was done, and of these it is told
  pub moves_told : (old new : Conductor L) (plan : List Request) (moved : List Transaction) (line text : List ℕ) → old.notes.is_stopped ≡ false
      → KeepResting [] plan old.notes.transactions.items moved → KeepsRest moved new.notes.transactions.items
      → ((asked : (Request → Bool) → Bool) → All (TransactionRests asked) moved → AreReplies asked old.notes.transactions.items new.notes.transactions.items line text)
      → GoesOnBy moment plan old.server new.server → TurnsSo moment old new line text
  moves_told old new plan moved line text going moves keeps tells goes = λ first was.
      let asked : (Request → Bool) → Bool = was_asked (was.done ++ plan) [] in
      let rest : All (TransactionRests asked) moved = rest_done was.done plan moved (moves was.done (was.rest going)) in
      let now : Conducts moment first new = record {
        done = was.done ++ plan;
        acts = goes was.done first was.acts;
        rest = λ _. keeps asked rest;
      } in
      (now, inl (tells asked rest))

  -- nothing is told any more
  pub stops_told : (old new : Conductor L) (line text : List ℕ) → new.notes.is_stopped ≡ true → GoesOn moment old.server new.server
      → TurnsSo moment old new line text
  stops_told old new line text stopped goes = λ first was.
      let now : Conducts moment first new = record {
        done = was.done;
        acts = goes was.done first was.acts;
        rest = λ going. absurd (true≢false (sym stopped ∙ going));
      } in
      (now, inr (inr stopped))

  -- it begins
  pub begins_conducting : (first from : Server L) (done : List Request) (c : Conductor L) → GoesOn moment from c.server
      → ((asked : (Request → Bool) → Bool) → All (TransactionRests asked) c.notes.transactions.items) → Acts moment done first from → Conducts moment first c
  begins_conducting first from done c goes rest acts = record {
    done = done;
    acts = goes done first acts;
    rest = λ _. rest (was_asked done []);
  }
