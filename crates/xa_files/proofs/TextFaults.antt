-- The faults that texts of tables can have, and what a fault of the output leaves.
use Rattle.std.proofs.Common.{◌≡◌, ◌≢◌, inl, inr, ℕ, List, Option, Some, None, Result, Ok, Err, IfErr, refl, subst}
use Rattle.std.specs.Option.{ok_or}
use Rattle.std.specs.Prelude.{if◌then◌else◌}
use Rattle.std.specs.Str.{is_utf8}
use Rattle.toml.specs.Parse.{parse_document}
use Rattle.xa_files.proofs.TablesInTurnLemmas.{ok_not_err, same_err}
use Rattle.xa_files.specs.Documents.{document_of}
use Rattle.xa_files.specs.TablesInTurn.{IsTextFault}
use Rattle.xa_files.specs.Reading.{◌>>=◌}
use Rattle.xa_files.specs.declared.fault.RunFault.{RunFault}
use Rattle.xa_files.specs.declared.fault.RunFault.TheVariants.{NotToml, Header, Output}

-- a fault if something is missing
pub missing : {A : Type 0} (of_table : ℕ → RunFault) (o : Option A) (e fault : RunFault) → IsTextFault of_table e → ok_or o e ≡ Err fault
    → IsTextFault of_table fault
missing of_table None e fault known is = subst (IsTextFault of_table) (same_err e fault is) known
missing of_table (Some x) e fault known is = absurd (ok_not_err x fault is)

-- a text that is no document is no TOML
pub document_fault : (of_table : ℕ → RunFault) (text : List ℕ) (fault : RunFault) → document_of text ≡ Err fault → IsTextFault of_table fault
unfolding document_of
document_fault of_table text fault is = missing of_table (if is_utf8 text then parse_document text else None) NotToml fault (inl refl) is

-- a fault in turn
pub in_turn : {A B : Type 0} (of_table : ℕ → RunFault) (read : Result A RunFault) (next : A → Result B RunFault) (fault : RunFault)
    → ((e : RunFault) → read ≡ Err e → IsTextFault of_table e) → ((x : A) → next x ≡ Err fault → IsTextFault of_table fault)
    → (read >>= next) ≡ Err fault → IsTextFault of_table fault
in_turn of_table (Ok x) next fault here later is = later x is
in_turn of_table (Err e) next fault here later is = subst (IsTextFault of_table) (same_err e fault is) (here e refl)

-- a fault that is none of these is no fault of a text
pub no_text_fault : (of_table : ℕ → RunFault) (fault : RunFault) → fault ≢ NotToml → fault ≢ Header → ((number : ℕ) → fault ≢ of_table number)
    → ¬ IsTextFault of_table fault
no_text_fault of_table fault toml header table (inl is) = toml is
no_text_fault of_table fault toml header table (inr (inl is)) = header is
no_text_fault of_table fault toml header table (inr (inr is)) = table is.0 is.1

-- what a fault of the output leaves
pub on_output : (result : Result (Unit {0}) RunFault) (P Q : Type 0) → (P → Q)
    → IfErr result (λ e. e ≡ Output → P) → IfErr result (λ e. e ≡ Output → Q)
on_output (Ok done) P Q f h = tt
on_output (Err e) P Q f h = λ is. f (h is)
