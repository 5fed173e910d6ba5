-- The lines between a driver and a manager of a name.
use Rattle.std.specs.Prelude.{ℕ, List, map}
use Rattle.std.specs.List.{join_with_byte}
use Rattle.std.specs.Option.{option_map_or}
use Rattle.xa_base.specs.Xid.{text_of}
use Rattle.xa_names.specs.Names.{renamed}
use Rattle.xa_requests.specs.Names.{xid_named}
use Rattle.xa_requests.specs.Words.{Word, words_of}

-- a word that spells an identifier is that of the one that stands for it
abbrev pub word_renamed : List ℕ → Word → Word
word_renamed name word = option_map_or (λ x. text_of (renamed name x)) (xid_named word) word

-- a line, as a manager of this name means it: each of its words so
unfoldable pub line_renamed : List ℕ → List ℕ → List ℕ
line_renamed name line = join_with_byte 32 (map (word_renamed name) (words_of line))
