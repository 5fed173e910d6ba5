-- What the keys of a table hold.
use Rattle.std.specs.Prelude.{ℕ, ◌-◌, ◌^◌, ℤ, pos, negsuc, Bool, ◌&&◌, ◌||◌, ◌==◌, nat_le, if◌then◌else◌, List, [], ◌∷◌, length, Option, Some, None, is_some, option_and_then}
use Rattle.std.specs.List.{list_any, list_all}
use Rattle.std.specs.Str.{bytes_eq}
use Rattle.toml.specs.Data.{Members, no_members, member, get_member, as_str, as_integer}

-- what follows, if there is a value
infixl 10 ◌>>=◌
abbrev pub ◌>>=◌ : {A B : Type 0} → Option A → (A → Option B) → Option B
o >>= f = option_and_then f o

-- whether the text is one of these
abbrev pub is_text_among : List (List ℕ) → List ℕ → Bool
is_text_among texts text = list_any (λ x. bytes_eq x text) texts

-- the keys of a table
abbrev pub keys_of : Members → List (List ℕ)
keys_of no_members = []
keys_of (member key value rest) = key ∷ keys_of rest

-- whether the table has no other keys than these
abbrev pub has_only : List (List ℕ) → Members → Bool
has_only keys table = list_all (is_text_among keys) (keys_of table)

-- the text at a key
abbrev pub text_at : List ℕ → Members → Option (List ℕ)
text_at key table = get_member key table >>= as_str

-- the integer at a key
abbrev pub integer_at : List ℕ → Members → Option ℤ
integer_at key table = get_member key table >>= as_integer

-- an integer from 0 to the limit, as a number
abbrev pub number_within : ℕ → ℤ → Option ℕ
number_within limit (pos n) = if nat_le n limit then Some n else None
number_within limit (negsuc n) = None

-- the number at a key, at most the limit
abbrev pub number_at : ℕ → List ℕ → Members → Option ℕ
number_at limit key table = integer_at key table >>= number_within limit

-- the number of a thread or of a resource manager at a key: any of 32 bits
abbrev pub index_at : List ℕ → Members → Option ℕ
index_at key table = number_at (2 ^ 32 - 1) key table

-- whether the key is there
abbrev pub holds : List ℕ → Members → Bool
holds key table = is_some (get_member key table)

-- the number, or the default if the key is missing
abbrev pub index_or : ℕ → List ℕ → Members → Option ℕ
index_or default key table = if holds key table then index_at key table else Some default

-- whether it is one of a to z, 0 to 9 and the hyphen
abbrev pub is_name_byte : ℕ → Bool
is_name_byte c = (nat_le 97 c && nat_le c 122) || (nat_le 48 c && nat_le c 57) || c == 45

-- whether a text is 1 to 32 of these characters
abbrev pub is_name : List ℕ → Bool
is_name text = nat_le 1 (length text) && nat_le (length text) 32 && list_all is_name_byte text

-- the name at a key
abbrev pub name_at : List ℕ → Members → Option (List ℕ)
name_at key table = text_at key table >>= λ text. if is_name text then Some text else None
