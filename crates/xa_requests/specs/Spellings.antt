-- Each thing that a word can name has one spelling: the text that is written of it.
use Rattle.std.specs.Prelude.{◌≡◌, ◌↔◌, ℕ, ◌<◌, ◌^◌, ℤ, Some, FitsSigned}
use Rattle.std.specs.Fmt.{decimal, signed_decimal}
use Rattle.std.specs.Int.{w64}
use Rattle.xa_base.specs.Branch.{gtrid_text}
use Rattle.xa_base.specs.Call.{kind_name}
use Rattle.xa_base.specs.Xid.{Xid, IsXid, text_of}
use Rattle.xa_base.specs.declared.branch.Gtrid.{Gtrid}
use Rattle.xa_base.specs.declared.call.CallKind.{CallKind}
use Rattle.xa_base.specs.declared.code.Code.{Code}
use Rattle.xa_files.specs.Numbers.{index_of, integer_of}
use Rattle.xa_files.specs.Words.{call_named, code_named, code_text}
use Rattle.xa_requests.specs.Names.{gtrid_named, xid_named}
use Rattle.xa_requests.specs.Words.{Word}

-- a number of 32 bits, its decimal text
abbrev pub IndexesHaveOneSpelling : Type 0
IndexesHaveOneSpelling = (word : Word) (n : ℕ) → (index_of word ≡ Some n) ↔ ((n < 2 ^ 32) × (word ≡ decimal n))

-- a signed number of 64 bits, its decimal text
abbrev pub IntegersHaveOneSpelling : Type 0
IntegersHaveOneSpelling = (word : Word) (z : ℤ) → (integer_of word ≡ Some z) ↔ (FitsSigned w64 z × (word ≡ signed_decimal z))

-- a transaction, the text that tells that it was begun
abbrev pub TransactionsHaveOneSpelling : Type 0
TransactionsHaveOneSpelling = (word : Word) (g : Gtrid)
    → (gtrid_named word ≡ Some g) ↔ ((g.incarnation < 2 ^ 64) × (g.sequence < 2 ^ 64) × (word ≡ gtrid_text g))

-- an identifier, its text
abbrev pub XidsHaveOneSpelling : Type 0
XidsHaveOneSpelling = (word : Word) (x : Xid) → (xid_named word ≡ Some x) ↔ (IsXid x × (word ≡ text_of x))

-- the kind of a call, its name
abbrev pub KindsHaveOneSpelling : Type 0
KindsHaveOneSpelling = (word : Word) (kind : CallKind) → (call_named word ≡ Some kind) ↔ (word ≡ kind_name kind)

-- a code, its number
abbrev pub CodesHaveOneSpelling : Type 0
CodesHaveOneSpelling = (word : Word) (code : Code) → (code_named word ≡ Some code) ↔ (word ≡ code_text code)
