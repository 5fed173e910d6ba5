-- The transactions and branches that words name.
use Rattle.std.specs.Prelude.{ℕ, ◌^◌, ◌&&◌, ◌==◌, if◌then◌else◌, List, [], ◌∷◌, length, Option, Some, None, option_map}
use Rattle.std.specs.List.{slice_split}
use Rattle.std.specs.Result.{result_ok}
use Rattle.xa_base.specs.Branch.{xid_of_branch}
use Rattle.xa_base.specs.Bytes.{u64_pair}
use Rattle.xa_base.specs.Xid.{Xid, xid_of}
use Rattle.xa_base.specs.XidText.{bytes_of, is_hex}
use Rattle.xa_base.specs.declared.branch.Gtrid.{Gtrid}
use Rattle.xa_files.specs.Fields.{◌>>=◌}
use Rattle.xa_files.specs.Numbers.{signed_of}
use Rattle.xa_requests.specs.Words.{Word}

-- the transaction of two numbers of eight bytes each
abbrev pub gtrid_of_bytes : List ℕ → Option Gtrid
gtrid_of_bytes bytes = option_map (λ pair. let g : Gtrid = record { incarnation = pair.0; sequence = pair.1 } in g) (u64_pair bytes)

-- a transaction: 32 lower case hexadecimal digits, 16 for each of its numbers
unfoldable pub gtrid_named : Word → Option Gtrid
gtrid_named word = if length word == 32 && is_hex word then gtrid_of_bytes (bytes_of word) else None

-- an identifier of these texts: its format in decimal, and the bytes of each part in lower case
-- hexadecimal
unfoldable pub xid_of_texts : List (List ℕ) → Option Xid
xid_of_texts (format ∷ gtrid ∷ bqual ∷ []) = do
  number ← signed_of (2 ^ 31) format
  if is_hex gtrid && is_hex bqual then result_ok (xid_of number (bytes_of gtrid) (bytes_of bqual)) else None
xid_of_texts _ = None

-- an identifier, with colons between its parts
unfoldable pub xid_named : Word → Option Xid
xid_named word = xid_of_texts (slice_split (λ c. c == 58) word)

-- a branch by its identifier, or by its transaction: then it is that of the line's thread at its
-- resource manager
unfoldable pub branch_named : (thread rm : ℕ) → Word → Option Xid
branch_named thread rm word = elim (gtrid_named word) [
  | Some gtrid ↦ Some (xid_of_branch (record { gtrid = gtrid; thread = thread; rm = rm }))
  | None ↦ xid_named word
]

-- what each word names, if each names something
unfoldable pub each_named : {A : Type 0} → (Word → Option A) → List Word → Option (List A)
each_named named [] = Some []
each_named named (word ∷ words) = do
  first ← named word
  others ← each_named named words
  Some (first ∷ others)

abbrev pub gtrids_named : List Word → Option (List Gtrid)
gtrids_named words = each_named gtrid_named words

abbrev pub xids_named : List Word → Option (List Xid)
xids_named words = each_named xid_named words
