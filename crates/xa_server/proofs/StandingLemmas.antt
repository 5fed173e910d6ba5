-- What a session's calls ensure, put together.
use Rattle.std.proofs.Common.{◌≡◌, ◌<◌, ◌≤◌, ◌+◌, ◌-◌, ℕ, suc, List, refl, sym, subst, arith}
use Rattle.std.specs.Prelude.{Result, Ok, Err, OnOk}
use Rattle.xa_base.specs.declared.refusal.Refusal.{Refusal}
use Rattle.xa_server.specs.Crashes.{LosesFrom, LosesOne}
use Rattle.xa_session.specs.Steps.{HappenInTurn}
use Rattle.xa_server.specs.declared.server.Server.{Server}
use Rattle.xa_model.specs.Trace.{Happening}
use Rattle.xa_requests.specs.declared.response.Response.{Response}
use Rattle.xa_requests.specs.declared.response.Response.TheVariants as responses
use Rattle.xa_session.specs.declared.session.Session.{Session}
use Rattle.xa_tm.specs.Book.{after_all}
use Rattle.xa_tm.specs.Calls.{book_in}

-- what the book says where a step is taken
pub book_on_ok : {L A E : Type 0} (es : List Happening) (old new : Session L) (r : Result A E) → OnOk r (HappenInTurn es old new)
    → OnOk r (book_in new.manager ≡ after_all (book_in old.manager) es)
book_on_ok es old new (Ok x) did = did.book
book_on_ok es old new (Err n) did = tt

module _ {L : Type 0} where
  -- one line more is lost
  pub next_is_lost : (rm t n : ℕ) (old next : Server L) (reply : Response) (new : Server L) → t < n → LosesOne t rm old (Ok tt) next
      → LosesFrom rm (t + 1) (n - (t + 1)) next reply new → LosesFrom rm t (n - t) old reply new
  next_is_lost rm t n old next reply new below loses more =
      let one_left : n - t ≡ suc (n - (t + 1)) = omega arith in
      subst (λ left. LosesFrom rm t left old reply new) (sym one_left) (next, Ok tt, loses, more)

  -- or it is refused
  pub next_stays : (rm t n : ℕ) (old next : Server L) (r : Refusal) → t < n → LosesOne t rm old (Err r) next
      → LosesFrom rm t (n - t) old (responses.Refused r) next
  next_stays rm t n old next r below loses =
      let one_left : n - t ≡ suc (n - (t + 1)) = omega arith in
      subst (λ left. LosesFrom rm t left old (responses.Refused r) next) (sym one_left) (next, Err r, loses, (refl, refl))

  -- all are lost
  pub all_are_lost : (rm t n : ℕ) (c : Server L) → n ≤ t → LosesFrom rm t (n - t) c responses.Crashed c
  all_are_lost rm t n c past =
      let none_left : n - t ≡ 0 = omega arith in
      subst (λ left. LosesFrom rm t left c responses.Crashed c) (sym none_left) (refl, refl)
