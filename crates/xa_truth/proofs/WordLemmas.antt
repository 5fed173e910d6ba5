-- A text has one first word.
use Rattle.std.proofs.Common.{◌≡◌, ◌∙◌, inl, inr, ℕ, Bool, true, false, ◌&&◌, ◌==◌, List, [], ◌∷◌, ◌++◌, eq-eqb, refl, subst, sym}
use Rattle.std.proofs.lemmas.Bool.{and_from, true≢false}
use Rattle.std.specs.Prelude.{codes}
use Rattle.xa_conduct.specs.Told.{HasFirst, IsBehindWord}
use Rattle.xa_truth.specs.Replies.{TellsCommitted, TellsRolledBack, TellsUnknown}

-- the one may be the first word of a text that the other is the first word of
abbrev may_meet : List ℕ → List ℕ → Bool
may_meet [] [] = true
may_meet [] (c ∷ cs) = c == 32
may_meet (c ∷ cs) [] = c == 32
may_meet (c ∷ cs) (d ∷ ds) = (c == d) && may_meet cs ds

meet : (v w rest other : List ℕ) → v ++ rest ≡ w ++ other → IsBehindWord rest → IsBehindWord other → may_meet v w ≡ true
meet [] [] rest other e behind beside = refl
meet [] (c ∷ cs) rest other e behind beside = let is : c ≡ 32 = subst IsBehindWord e behind in eq-eqb c 32 is
meet (c ∷ cs) [] rest other e behind beside = let is : c ≡ 32 = subst IsBehindWord (sym e) beside in eq-eqb c 32 is
meet (c ∷ cs) (d ∷ ds) rest other e behind beside =
    let first : c ≡ d = cc in
    let others : cs ++ rest ≡ ds ++ other = cc in
    and_from (c == d) (may_meet cs ds) (eq-eqb c d first) (meet cs ds rest other others behind beside)

-- so it has no two that are apart
pub no_two : (v w text : List ℕ) → may_meet v w ≡ false → HasFirst v text → HasFirst w text → ⊥
no_two v w text apart one two = true≢false (sym (meet v w one.rest two.rest (sym one.is ∙ two.is) one.parted two.parted) ∙ apart)

-- the word is none of those that tell that it is committed
abbrev pub is_no_commit : List ℕ → Type 0
is_no_commit v = (may_meet v (codes "committed") ≡ false) × (may_meet v (codes "commit") ≡ false)

abbrev pub is_no_rollback : List ℕ → Type 0
is_no_rollback v =
    (may_meet v (codes "rolled-back") ≡ false) × ((may_meet v (codes "rollback") ≡ false) × (may_meet v (codes "undo") ≡ false))

abbrev pub is_known : List ℕ → Type 0
is_known v = may_meet v (codes "unknown") ≡ false

pub no_commit : (v text : List ℕ) → is_no_commit v → HasFirst v text → TellsCommitted text → ⊥
no_commit v text apart first (inl w) = no_two v (codes "committed") text apart.0 first w
no_commit v text apart first (inr w) = no_two v (codes "commit") text apart.1 first w

pub no_rollback : (v text : List ℕ) → is_no_rollback v → HasFirst v text → TellsRolledBack text → ⊥
no_rollback v text apart first (inl w) = no_two v (codes "rolled-back") text apart.0 first w
no_rollback v text apart first (inr (inl w)) = no_two v (codes "rollback") text apart.1.0 first w
no_rollback v text apart first (inr (inr w)) = no_two v (codes "undo") text apart.1.1 first w

pub no_unknown : (v text : List ℕ) → is_known v → HasFirst v text → TellsUnknown text → ⊥
no_unknown v text apart first w = no_two v (codes "unknown") text apart first w
