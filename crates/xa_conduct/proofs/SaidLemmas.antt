-- Decisions that were asked for and done are those of lines.
use Rattle.std.proofs.Common.{◌≡◌, ◌∙◌, ℕ, Bool, true, false, ◌||◌, List, [], ◌∷◌, ◌++◌, ap, Result, Ok, Err, inl, inr, refl, subst, sym}
use Rattle.std.proofs.lemmas.Bool.{false≢true, or_cases}
use Rattle.std.proofs.lemmas.List.Folds.{list_any-append}
use Rattle.std.specs.List.{list_any}
use Rattle.std.specs.Prelude.{Option, Some, None, if◌then◌else◌}
use Rattle.xa_base.specs.declared.branch.Gtrid.{Gtrid}
use Rattle.xa_base.specs.declared.refusal.Refusal.{Refusal}
use Rattle.xa_base.specs.declared.step.Outcome.{Outcome}
use Rattle.xa_base.specs.declared.step.Outcome.TheVariants as outcomes
use Rattle.xa_log.specs.Contract.{Moment}
use Rattle.xa_requests.specs.declared.request.Request.{Request}
use Rattle.xa_requests.specs.declared.request.Request.TheVariants as requests
use Rattle.xa_requests.specs.declared.response.Response.{Response}
use Rattle.xa_requests.specs.declared.response.Response.TheVariants as responses
use Rattle.xa_server.specs.Performing.{Performs}
use Rattle.xa_server.specs.Lines.{asked_in}
use Rattle.xa_server.specs.Replies.{response_of}
use Rattle.xa_server.specs.Serving.{HaveReplies, RepliesBy}
use Rattle.xa_server.specs.declared.server.Server.{Server}
use Rattle.xa_conduct.specs.Acting.{done_by, done_of, is_done}
use Rattle.xa_conduct.specs.Decided.{is_commit_of, is_rollback_of}
use Rattle.xa_conduct.specs.Outcomes.{IsDecisionOf, SaysDecided}

-- the request decides the transaction so
abbrev is_decision : Outcome → Gtrid → Request → Bool
is_decision outcomes.Commit = is_commit_of
is_decision outcomes.Rollback = is_rollback_of

-- a line more in front
said_later : (o : Outcome) (g : Gtrid) (l : List ℕ) (ls : List (List ℕ)) (r : Response) (rs : List Response) → SaysDecided o g ls rs
    → SaysDecided o g (l ∷ ls) (r ∷ rs)
said_later o g l ls responses.Decided rs said = inr said
said_later o g l ls _ rs said = said

decided_or : {A : Type 0} (r : Response) (result : Result A Refusal) → r ≡ response_of (λ _. responses.Decided) result → is_done r ≡ true
    → r ≡ responses.Decided
decided_or r (Ok x) told done = told
decided_or r (Err n) told done = absurd (false≢true (sym (ap is_done told) ∙ done))

-- it was done, and passes
done_parts : (p : Request → Bool) (request : Request) (v : Bool) → list_any p (if v then request ∷ [] else []) ≡ true
    → (v ≡ true) × (p request ≡ true)
done_parts p request true is = (refl, elim (or_cases (p request) false is) [ inl passes ↦ passes | inr none ↦ absurd (false≢true none) ])
done_parts p request false is = absurd (false≢true is)

module _ {L : Type 0} (moment : L → Moment) where
  said_request : (o : Outcome) (g : Gtrid) (request : Request) (r : Response) (a b : Server L) → Performs moment request a r b → is_done r ≡ true
      → is_decision o g request ≡ true → (r ≡ responses.Decided) × IsDecisionOf o g (Some request)
  said_request outcomes.Commit g (requests.Decide gs outcomes.Commit) r a b performs done is =
      (decided_or r performs.does.result performs.does.told done, (refl, is))
  said_request outcomes.Rollback g (requests.Decide gs outcomes.Rollback) r a b performs done is =
      (decided_or r performs.does.result performs.does.told done, (refl, is))
  said_request outcomes.Commit g _ r a b performs done is = absurd (false≢true is)
  said_request outcomes.Rollback g _ r a b performs done is = absurd (false≢true is)

  said_one : (o : Outcome) (g : Gtrid) (asked : Option Request) (r : Response) (a b : Server L) → RepliesBy moment asked a r b
      → list_any (is_decision o g) (done_by asked r) ≡ true → (r ≡ responses.Decided) × IsDecisionOf o g asked
  said_one o g None r a b replies is = absurd (false≢true is)
  said_one o g (Some request) r a b replies is =
      let parts = done_parts (is_decision o g) request (is_done r) is in said_request o g request r a b replies parts.0 parts.1

  pub said_lines : (o : Outcome) (g : Gtrid) (ls : List (List ℕ)) (rs : List Response) (a b : Server L) → HaveReplies moment ls rs a b
      → list_any (is_decision o g) (done_of ls rs) ≡ true → SaysDecided o g ls rs
  said_lines o g [] [] a b have is = absurd (false≢true is)
  said_lines o g [] (r ∷ rs) a b have is = absurd have
  said_lines o g (l ∷ ls) [] a b have is = absurd have
  said_lines o g (l ∷ ls) (r ∷ rs) a b have is =
      let p : Request → Bool = is_decision o g in
      elim (or_cases (list_any p (done_by (asked_in l) r)) (list_any p (done_of ls rs))
      (sym (list_any-append p (done_by (asked_in l) r) (done_of ls rs)) ∙ is)) [
        | inl here ↦
            let one = said_one o g (asked_in l) r a have.0 have.1 here in
            subst (λ (x : Response). SaysDecided o g (l ∷ ls) (x ∷ rs)) (sym one.0) (inl one.1)
        | inr later ↦ said_later o g l ls r rs (said_lines o g ls rs have.0 b have.2 later)
      ]
