-- What requests decide, and that more of them decide no less.
use Rattle.std.proofs.Common.{◌≡◌, ◌∙◌, true, Bool, List, [], ◌∷◌, ◌++◌, ap}
use Rattle.std.proofs.lemmas.Bool.{or_left, or_right}
use Rattle.std.proofs.lemmas.List.Folds.{list_any-append}
use Rattle.std.specs.List.{list_any}
use Rattle.xa_base.specs.declared.branch.Gtrid.{Gtrid}
use Rattle.xa_base.specs.declared.step.Outcome.TheVariants as outcomes
use Rattle.xa_requests.specs.declared.request.Request.{Request}
use Rattle.xa_requests.specs.declared.request.Request.TheVariants as requests
use Rattle.xa_conduct.specs.Decided.{AsksNoLess, CommitIsAsked, is_commit_of, is_rollback_of, is_same}

-- with some items more
pub any_before : {X : Type 0} (p : X → Bool) (xs ys : List X) → list_any p xs ≡ true → list_any p (xs ++ ys) ≡ true
any_before p xs ys among = list_any-append p xs ys ∙ or_left (list_any p xs) (list_any p ys) among

pub any_behind : {X : Type 0} (p : X → Bool) (xs ys : List X) → list_any p ys ≡ true → list_any p (xs ++ ys) ≡ true
any_behind p xs ys among = list_any-append p xs ys ∙ or_right (list_any p xs) (list_any p ys) among

-- with one more, which passes itself
pub any_last : {X : Type 0} (p : X → Bool) (xs : List X) (x : X) → p x ≡ true → list_any p (xs ++ x ∷ []) ≡ true
any_last p xs x passes = any_behind p xs (x ∷ []) (or_left (p x) (list_any p []) passes)

pub no_less : (old new more : List Request) → new ≡ old ++ more → AsksNoLess old new
no_less old new more is p among = ap (list_any p) is ∙ any_before p old more among

pub asked_last : (p : Request → Bool) (old new : List Request) (request : Request) → new ≡ old ++ request ∷ [] → p request ≡ true
    → list_any p new ≡ true
asked_last p old new request is passes = ap (list_any p) is ∙ any_last p old request passes

-- which is a decision itself
pub decided_by : (old new : List Request) (gtrids : List Gtrid) (g : Gtrid) → new ≡ old ++ requests.Decide gtrids outcomes.Commit ∷ []
    → list_any (is_same g) gtrids ≡ true → CommitIsAsked new g
decided_by old new gtrids g is here = asked_last (is_commit_of g) old new (requests.Decide gtrids outcomes.Commit) is here
