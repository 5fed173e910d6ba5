-- Names as text, and names in labels.
use Rattle.std.proofs.Common.{◌≡◌, ◌≢◌, ◌∙◌, ◌+◌, ◌<◌, ℕ, Bool, true, false, if◌then◌else◌, unwrap_or, Bor, List, [], ◌∷◌, Option, Some, None, Result, Ok, Err, IfErr, map, option_map, slice_get, length, nat_lt, refl, sym, ap, arith}
use Rattle.std.proofs.lemmas.Bool.{and_parts, true≢false}
use Rattle.std.proofs.lemmas.Bool.Decides.{nat_tests}
use Rattle.std.proofs.lemmas.Option.{slice_get-map}
use Rattle.std.proofs.lemmas.Str.{IsUtf8-from_ascii}
use Rattle.std.proofs.lemmas.Str.Ascii.{IsAscii-cons, IsAscii-nil}
use Rattle.std.specs.List.{list_all}
use Rattle.std.proofs.lemmas.Slice.Eq.{bytes_eq-Decides}
use Rattle.std.specs.Str.{IsAscii, IsUtf8, bytes_eq}
use Rattle.xa_names.specs.KeptNames.{AgreeInNames, DifferAt, Names, has_rms}
use Rattle.xa_names.specs.Names.{IsName, is_manager_name, is_manager_name_byte}
use Rattle.xa_names.specs.declared.kept_names.NameFault.{NameFault}
use Rattle.xa_names.specs.declared.kept_names.NameFault.TheVariants.{Manager, ResourceManager, Unnamed, Unkept}
use Rattle.xa_commands.specs.Names.{MayOpen, name_given, label_names, names_rms}
use Rattle.xa_commands.specs.declared.failure.Failure.TheVariants.{Name}

-- ** text

below : (b : ℕ) → is_manager_name_byte b ≡ true → b < 128
below b is = grind (arith, nat_tests)

ascii : (bytes : List ℕ) → list_all is_manager_name_byte bytes ≡ true → IsAscii bytes
ascii [] are = IsAscii-nil
ascii (b ∷ bytes) are =
    let parts = and_parts (is_manager_name_byte b) (list_all is_manager_name_byte bytes) are in
    IsAscii-cons b bytes (below b parts.0) (ascii bytes parts.1)

pub names_are_text : (name : List ℕ) → IsName name → IsUtf8 name
names_are_text name is = IsUtf8-from_ascii name (ascii name is.bytes)

-- texts of which `==` is false aren't the same
pub apart : (xs ys : List ℕ) → false ≡ bytes_eq xs ys → xs ≢ ys
apart xs ys e is = true≢false (sym ((bytes_eq-Decides xs ys).1 is) ∙ sym e)

-- ** labels

abbrev pub texts_of : Names → List (List ℕ)
texts_of names = map (λ name. name.now) names

got : (o : Option (Bor (List ℕ))) (a : List ℕ) → option_map (λ name. name.now) o ≡ Some a → (x : Bor (List ℕ)) × (o ≡ Some x) × (x.now ≡ a)
got (Some x) a is = let same : x.now ≡ a = cc in (x, refl, same)
got None a is = absurd (let no : None ≡ Some a = is in cc)

same_length : (names : Names) → length (texts_of names) ≡ length names
same_length [] = refl
same_length (x ∷ names) = grind (arith, same_length names)

module _ (kept given : List ℕ) (k g : Names) (is_kept : texts_of k ≡ label_names kept) (is_given : texts_of g ≡ label_names given) where
  at : (names : Names) (label : List ℕ) → texts_of names ≡ label_names label → (i : ℕ) (a : List ℕ) → slice_get (label_names label) i ≡ Some a
      → (x : Bor (List ℕ)) × (slice_get names i ≡ Some x) × (x.now ≡ a)
  at names label is i a there =
      got (slice_get names i) a (sym (slice_get-map (λ name. name.now) names i) ∙ ap (λ texts. slice_get texts i) is ∙ there)

  of : (names : Names) (label : List ℕ) → texts_of names ≡ label_names label → (i : ℕ) (x : Bor (List ℕ)) → slice_get names i ≡ Some x
      → slice_get (label_names label) i ≡ Some x.now
  of names label is i x there =
      ap (λ texts. slice_get texts i) (sym is) ∙ slice_get-map (λ name. name.now) names i ∙ ap (option_map (λ name. name.now)) there

  rms : (names : Names) (label : List ℕ) → texts_of names ≡ label_names label → names_rms (label_names label) ≡ has_rms names
  rms names label is = ap (λ texts. nat_lt 1 (length texts)) (sym is) ∙ ap (nat_lt 1) (same_length names)

  pub may_open : AgreeInNames k g → has_rms k ≡ has_rms g → MayOpen kept given
  may_open agree both = record {
    agree = λ i a b at_kept at_given.
        let x = at k kept is_kept i a at_kept in
        let y = at g given is_given i b at_given in
        sym x.2 ∙ agree i x.0 y.0 x.1 y.1 ∙ y.2;
    both = rms k kept is_kept ∙ both ∙ sym (rms g given is_given);
  }

  differ : (i : ℕ) → DifferAt i k g → MayOpen kept given → ⊥
  differ i (a, b, at_kept, at_given, apart) may =
      apart (may.agree i a.now b.now (of k kept is_kept i a at_kept) (of g given is_given i b at_given))

  same_rms : MayOpen kept given → has_rms k ≡ has_rms g
  same_rms may = sym (rms k kept is_kept) ∙ may.both ∙ rms g given is_given

  pub may_not : (r : Result (Unit {0}) NameFault) → (r ≡ Err Manager → DifferAt 0 k g)
      → ((number : ℕ) → r ≡ Err (ResourceManager number) → DifferAt (number + 1) k g)
      → (r ≡ Err Unnamed → (has_rms k ≡ true) × (has_rms g ≡ false)) → (r ≡ Err Unkept → (has_rms k ≡ false) × (has_rms g ≡ true))
      → IfErr r (λ _. MayOpen kept given → ⊥)
  may_not (Ok x) manager rm unnamed unkept = tt
  may_not (Err Manager) manager rm unnamed unkept = differ 0 (manager refl)
  may_not (Err (ResourceManager number)) manager rm unnamed unkept = differ (number + 1) (rm number refl)
  may_not (Err Unnamed) manager rm unnamed unkept =
      λ may. let has = unnamed refl in true≢false (sym has.0 ∙ same_rms may ∙ has.1)
  may_not (Err Unkept) manager rm unnamed unkept =
      λ may. let has = unkept refl in true≢false (sym has.1 ∙ sym (same_rms may) ∙ has.0)

-- ** the name of a manager

by_test : (text name : List ℕ) (is_one : Bool) → Ok name ≡ (if is_one then Ok text else Err Name) → name ≡ text
by_test text name true is = cc
by_test text name false is = absurd (let no = is in cc)

-- the name that was given is that of the manager
pub name_is : (given : Option (List ℕ)) (name : List ℕ) → Ok name ≡ name_given given → name ≡ unwrap_or given []
name_is None name is = cc
name_is (Some text) name is = by_test text name (is_manager_name text) is

pub given_is : (given : Option (List ℕ)) (name : List ℕ) → Ok name ≡ name_given given → name_given given ≡ Ok (unwrap_or given [])
given_is given name is = sym is ∙ ap Ok (name_is given name is)
