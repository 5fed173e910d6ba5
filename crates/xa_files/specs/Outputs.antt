-- What a writer holds after a text was written to it, in whole or in part.
use Rattle.std.specs.Prelude.{◌≡◌, ℕ, List, ◌++◌, Option}
use Rattle.std.specs.Io.KnownBytes.{Appends}

-- known bytes grew by a beginning of bs, and this rest of bs is still to be written
pub record IsWrittenBut (rest bs : List ℕ) (old new : Option (List ℕ)) : Type 0 where
  pub written : List ℕ
  pub whole : bs ≡ written ++ rest
  pub appends : Appends old new written

-- known bytes grew by a beginning of bs: by none of them, by some, or by all
abbrev pub AppendsBeginning : (old new : Option (List ℕ)) → List ℕ → Type 0
AppendsBeginning old new bs = (rest : List ℕ) × IsWrittenBut rest bs old new
