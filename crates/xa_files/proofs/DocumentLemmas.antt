-- What reading a text as a document gives.
use Rattle.std.proofs.Common.{◌≡◌, ◌&&◌, Bool, true, false, ℕ, List, [], ◌∷◌, Some, None, Result, Ok, Err, is_some, refl, ap}
use Rattle.std.specs.List.{list_all}
use Rattle.std.specs.Str.{is_utf8, IsUtf8}
use Rattle.std.proofs.lemmas.Str.{IsUtf8-from_is_utf8, is_utf8-from_IsUtf8}
use Rattle.toml.specs.Data.{Members, as_table}
use Rattle.toml.specs.Parse.{parse_document}
use Rattle.toml.specs.View.{view, items_view}
use Rattle.toml.specs.declared.value.Value.{Value}
use Rattle.xa_files.specs.Documents.{are_tables, document_of}
use Rattle.xa_files.specs.Reading.{Fails}
use Rattle.xa_files.specs.declared.fault.RunFault.{RunFault}
use Rattle.xa_files.specs.declared.fault.RunFault.TheVariants.{NotToml, Header, Step, Job, Log, Memory, Work, Output}

-- a fault of one reading is that of another that it stops
pub fails_on : {A B : Type 0} (fault : RunFault) (one : Result A RunFault) (all : Result B RunFault)
    → (one ≡ Err fault → all ≡ Err fault) → Fails fault one → Fails fault all
fails_on NotToml one all stops is = stops is
fails_on Header one all stops is = stops is
fails_on (Step n) one all stops is = stops is
fails_on (Job n) one all stops is = stops is
fails_on Log one all stops is = stops is
fails_on Memory one all stops is = tt
fails_on Work one all stops is = stops is
fails_on Output one all stops is = stops is

-- bytes that are text, and stand for no document where they are
pub no_document : (is_text : Bool) (text : List ℕ) → is_utf8 text ≡ is_text → (IsUtf8 text → parse_document text ≡ None) → document_of text ≡ Err NotToml
unfolding document_of
no_document true text is none = rw (is, none (IsUtf8-from_is_utf8 text is)) refl
no_document false text is none = rw is refl

pub a_document : (text : List ℕ) (document : Members) → IsUtf8 text → parse_document text ≡ Some document → document_of text ≡ Ok document
unfolding document_of
a_document text document is_text parsed = rw (is_utf8-from_IsUtf8 text is_text, parsed) refl

pub are_tables-view : (vs : List Value) → list_all (λ v. is_some (as_table (view v))) vs ≡ are_tables (items_view vs)
are_tables-view [] = refl
are_tables-view (v ∷ vs) = ap (λ b. is_some (as_table (view v)) && b) (are_tables-view vs)
