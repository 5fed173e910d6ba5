-- What the words of a command are.
use Rattle.std.specs.Prelude.{◌≡◌, ℕ, Bool, true, false, List, codes, Option, Some, None, Result, Ok, MatchOption, unwrap_or}
use Rattle.clap.specs.Matches.{ReadsOne, one_text}
use Rattle.clap.specs.declared.parser.matches.Found.{Found}

-- the word is there, or isn't
pub record IsFlag (found : Found) (id : List ℕ) (flag : Bool) : Type 0 where
  pub missing : one_text found id ≡ None → flag ≡ false
  pub there : one_text found id ≡ Some (codes "true") → flag ≡ true
  pub unset : one_text found id ≡ Some (codes "false") → flag ≡ false

module _ {E : Type 0} (gives : List ℕ → Result ℕ E → Type 0) (found : Found) (id : List ℕ) where
  -- the number that a text spells
  abbrev pub IsNumber : ℕ → Type 0
  IsNumber n = (text : List ℕ) → one_text found id ≡ Some text → gives text (Ok n)

  -- and 0 if there is none
  abbrev pub IsNumberOrZero : ℕ → Type 0
  IsNumberOrZero n = MatchOption (one_text found id) (n ≡ 0) (λ text. (read : Option ℕ) × ReadsOne gives text read × (n ≡ unwrap_or read 0))
