-- The numbers that words spell, each by exactly one word.
use Rattle.std.specs.Prelude.{ℕ, ◌^◌, ℤ, pos, negsuc, Bool, ◌&&◌, nat_lt, if◌then◌else◌, List, Option, Some, None}
use Rattle.std.specs.Fmt.{decimal, signed_decimal}
use Rattle.std.specs.Str.{bytes_eq}
use Rattle.std.specs.Str.Parse.{digits_value, signed_digits_value}

-- the number of 32 bits whose decimal text the word is
unfoldable pub index_of : List ℕ → Option ℕ
index_of word =
    let n = digits_value 10 word in
    if nat_lt n (2 ^ 32) && bytes_eq (decimal n) word then Some n else None

-- whether a number is one of a signed type, whose greatest is below the limit
abbrev pub is_within : ℕ → ℤ → Bool
is_within limit (pos n) = nat_lt n limit
is_within limit (negsuc n) = nat_lt n limit

-- the number of such a type whose decimal text the word is
unfoldable pub signed_of : (limit : ℕ) → List ℕ → Option ℤ
signed_of limit word =
    let z = signed_digits_value 10 word in
    if is_within limit z && bytes_eq (signed_decimal z) word then Some z else None

-- the number of 64 bits whose decimal text the word is
abbrev pub integer_of : List ℕ → Option ℤ
integer_of word = signed_of (2 ^ 63) word
