-- What a finding tells of a table.
use Rattle.std.specs.Prelude.{◌≡◌, ℕ, List, Option, Some, None, map, not}
use Rattle.std.specs.Borrow.{Bor}
use Rattle.std.specs.List.{find}
use Rattle.toml.specs.Data.{Members, get_member}
use Rattle.toml.specs.View.{view}
use Rattle.xa_files.specs.Fields.{is_text_among, keys_of}
use Rattle.xa_files.specs.declared.finding.Finding.{Finding}
use Rattle.xa_files.specs.declared.finding.Finding.TheVariants.{Missing, OtherKey, Unfit}

-- the key is there, and the finding shows what it holds
abbrev pub IsUnfitAt : (key : List ℕ) → Members → Finding → Type 0
IsUnfitAt key table (Unfit named value) = (named.now ≡ key) × (get_member key table ≡ Some (view value.now))
IsUnfitAt key table finding = ⊥

-- the same, or the key is missing, and the finding names the kind of the table that needs it
abbrev pub TellsOfKey : (of key : List ℕ) → Members → Finding → Type 0
TellsOfKey of key table (Missing kind named) = (kind.now ≡ of) × (named.now ≡ key) × (get_member key table ≡ None)
TellsOfKey of key table finding = IsUnfitAt key table finding

-- the first key of a table that is none of these
abbrev pub first_other : (keys : List (List ℕ)) → Members → Option (List ℕ)
first_other keys table = find (λ key. not (is_text_among keys key)) (keys_of table)

-- the finding names that key, the kind of the table, and the keys that such a one has
abbrev pub NamesOtherKey : (of : List ℕ) (keys : List (Bor (List ℕ))) → Members → Finding → Type 0
NamesOtherKey of keys table (OtherKey kind key all) =
    (kind.now ≡ of) × (all.now ≡ keys) × (first_other (map (λ k. k.now) keys) table ≡ Some key.now)
NamesOtherKey of keys table finding = ⊥
