-- Words, each the text of one thing.
use Rattle.std.proofs.Common.{◌≡◌, ◌∙◌, ℕ, Bool, true, false, List, [], ◌∷◌, Option, Some, None, IfSome, cond, ◌↔◌, ◌^◌, ℤ, refl, sym, ap, subst, arith, w32, FitsSigned}
use Rattle.std.specs.Fmt.{digits, signed_decimal}
use Rattle.std.specs.List.{find}
use Rattle.std.specs.Str.{bytes_eq}
use Rattle.std.proofs.lemmas.Slice.Eq.{bytes_eq-Decides}
use Rattle.xa_base.specs.Call.{kind_name}
use Rattle.xa_base.specs.Code.{code_number}
use Rattle.xa_base.specs.declared.call.CallKind.{CallKind}
use Rattle.xa_base.specs.declared.call.CallKind.TheVariants as kinds
use Rattle.xa_base.specs.declared.code.Code.{Code}
use Rattle.xa_base.specs.declared.code.Code.TheVariants.{Success, ReadOnly, Retry, Heuristic, RolledBack, RmError, NotAnXid, Invalid, Protocol, RmFailed, DuplicateXid}
use Rattle.xa_base.specs.declared.code.How.TheVariants as hows
use Rattle.xa_base.specs.declared.code.RbCode.TheVariants as rb
use Rattle.xa_files.specs.Numbers.{integer_of, is_within}
use Rattle.xa_files.specs.Words.{call_kinds, call_named, code_named, code_text, return_codes}
use Rattle.xa_files.proofs.Choices.{none_left}
use Rattle.xa_files.proofs.NumberLemmas.{fits_of, fits_within, signed_of-some, signed_of-text, within_fits}

-- what is found by a text has it
text_by : {A : Type 0} (text : A → List ℕ) (word : List ℕ) (one : A) (t : Bool) (rest : Option A) (thing : A) → bytes_eq (text one) word ≡ t
    → (rest ≡ Some thing → word ≡ text thing) → cond t (Some one) rest ≡ Some thing → word ≡ text thing
text_by text word one true rest thing same later h =
    let is : one ≡ thing = cc in
    sym ((bytes_eq-Decides (text one) word).0 same) ∙ ap text is
text_by text word one false rest thing same later h = later h

text_of_found : {A : Type 0} (text : A → List ℕ) (things : List A) (word : List ℕ) (thing : A)
    → find (λ one. bytes_eq (text one) word) things ≡ Some thing → word ≡ text thing
text_of_found text [] word thing h = absurd (cc)
text_of_found text (one ∷ things) word thing h =
    text_by text word one (bytes_eq (text one) word) (find (λ x. bytes_eq (text x) word) things) thing refl (text_of_found text things word thing) h

-- ** the kinds of calls

kind_back : (kind : CallKind) → call_named (kind_name kind) ≡ Some kind
kind_back kinds.OpenRm = refl
kind_back kinds.CloseRm = refl
kind_back kinds.Start = refl
kind_back kinds.End = refl
kind_back kinds.Prepare = refl
kind_back kinds.Commit = refl
kind_back kinds.Rollback = refl
kind_back kinds.Forget = refl
kind_back kinds.Recover = refl

pub kind_spelled : (word : List ℕ) (kind : CallKind) → (call_named word ≡ Some kind) ↔ (word ≡ kind_name kind)
kind_spelled word kind = (text_of_found kind_name call_kinds word kind, λ h. ap call_named h ∙ kind_back kind)

-- ** codes

-- its text names a code, and its number fits 32 bits
code_back : (code : Code) → (code_named (code_text code) ≡ Some code) × (is_within (2 ^ 31) (code_number code) ≡ true)
unfolding code_named digits
code_back Success = (refl, refl)
code_back ReadOnly = (refl, refl)
code_back Retry = (refl, refl)
code_back (Heuristic hows.Mix) = (refl, refl)
code_back (Heuristic hows.Rb) = (refl, refl)
code_back (Heuristic hows.Com) = (refl, refl)
code_back (Heuristic hows.Haz) = (refl, refl)
code_back (RolledBack rb.Rollback) = (refl, refl)
code_back (RolledBack rb.CommFail) = (refl, refl)
code_back (RolledBack rb.Deadlock) = (refl, refl)
code_back (RolledBack rb.Integrity) = (refl, refl)
code_back (RolledBack rb.Other) = (refl, refl)
code_back (RolledBack rb.Proto) = (refl, refl)
code_back (RolledBack rb.Timeout) = (refl, refl)
code_back (RolledBack rb.Transient) = (refl, refl)
code_back RmError = (refl, refl)
code_back NotAnXid = (refl, refl)
code_back Invalid = (refl, refl)
code_back Protocol = (refl, refl)
code_back RmFailed = (refl, refl)
code_back DuplicateXid = (refl, refl)

pub code_spelled : (word : List ℕ) (code : Code) → (code_named word ≡ Some code) ↔ (word ≡ code_text code)
unfolding code_named
code_spelled word code = (text_of_found code_text return_codes word code, λ h. ap code_named h ∙ (code_back code).0)

-- the word of a code is read as its number
number_of_code : (word : List ℕ) (code : Code) → code_named word ≡ Some code → integer_of word ≡ Some (code_number code)
number_of_code word code is =
    let small = fits_within (2 ^ 31) (code_number code) (omega arith) (code_back code).1 in
    signed_of-text (2 ^ 63) word (code_number code) (omega arith) (within_fits (code_number code) small) ((code_spelled word code).0 is)

-- a word that is read as no number, or as one that doesn't fit 32 bits, is that of no code
pub code_unread : (word : List ℕ) → integer_of word ≡ None → code_named word ≡ None
code_unread word h = none_left (code_named word) (λ code is.
    let read = number_of_code word code is in cc (h, read))

pub code_unfit : (word : List ℕ) (z : ℤ) → integer_of word ≡ Some z → ¬ (FitsSigned w32 z) → code_named word ≡ None
code_unfit word z h large = none_left (code_named word) (λ code is.
    let same : code_number code ≡ z = cc (number_of_code word code is, h) in
    large (subst (λ (n : ℤ). FitsSigned w32 n) same (fits_of (code_number code) (code_back code).1)))

-- the code of the number that a word is read as
pub code_read : (word : List ℕ) (z : ℤ) (found : Option Code) → integer_of word ≡ Some z → ((code : Code) → code_number code ≡ z → found ≡ Some code)
    → IfSome found (λ code. code_number code ≡ z) → found ≡ code_named word
code_read word z None h inverse is = sym (none_left (code_named word) (λ code named.
    let same : code_number code ≡ z = cc (number_of_code word code named, h) in
    let never : None ≡ Some code = inverse code same in cc never))
code_read word z (Some code) h inverse is =
    let text = (signed_of-some (2 ^ 63) word z h).1 in
    sym ((code_spelled word code).1 (text ∙ ap signed_decimal (sym is)))
