-- The first word of what is told of a transaction.
use Rattle.std.proofs.Common.{◌≡◌, ◌∙◌, ◌<◌, ◌||◌, ℕ, suc, Bool, true, false, List, [], ◌∷◌, ◌++◌, Option, Some, None, ap, append_assoc, arith, inl, inr, length, refl, subst, sym}
use Rattle.std.proofs.lemmas.Bool.{cases_Bool, false≢true}
use Rattle.std.specs.List.{Contains, find, flat_map, list_any}
use Rattle.std.specs.Prelude.{MatchBool, codes, if◌then◌else◌}
use Rattle.xa_base.specs.declared.branch.Gtrid.{Gtrid}
use Rattle.xa_base.specs.declared.code.RbCode.{RbCode}
use Rattle.xa_conduct.proofs.ToldLemmas.{told_calls, told_outcome, told_standing}
use Rattle.xa_conduct.specs.Over.{has_calls, has_left, is_decided}
use Rattle.xa_conduct.specs.Places.{is_asked, is_left}
use Rattle.xa_conduct.specs.Texts.{asked_number, next_name_text, calls_text, first_verb, is_mixed, is_told, mixed_at, mixed_text, next_text, outcome_text, owed_at, owed_branches_text, move_reply_text, spaced_number, standing_with_reason, standing_word, started_text, told_text, verb_at, verb_of, why_text}
use Rattle.xa_conduct.specs.Told.{HasFirst, IsBehindWord, IsError, IsStart}
use Rattle.xa_conduct.specs.declared.part.Part.{Part}
use Rattle.xa_conduct.specs.declared.transaction.Standing.{Standing}
use Rattle.xa_conduct.specs.declared.transaction.Standing.TheVariants as standings
use Rattle.xa_conduct.specs.declared.transaction.Transaction.{Transaction}

-- ** words

-- the text begins by a call of one of the branches
pub record TellsCall (branches : List Part) (text : List ℕ) : Type 0 where
  pub part : Part
  pub among : Contains branches part
  pub asked : is_asked part.place ≡ true
  pub first : HasFirst (verb_at part.place) text

-- or if there are none, by how the transaction stands
abbrev pub TellsOf : Transaction → List ℕ → Type 0
TellsOf t text = MatchBool (has_calls t) (TellsCall t.parts.items text) (HasFirst (standing_word t.standing) text)

behind_both : (xs ys : List ℕ) → IsBehindWord xs → IsBehindWord ys → IsBehindWord (xs ++ ys)
behind_both [] ys one other = other
behind_both (x ∷ xs) ys one other = one

first_behind : (word xs ys : List ℕ) → HasFirst word xs → IsBehindWord ys → HasFirst word (xs ++ ys)
first_behind word xs ys first behind = record {
  rest = first.rest ++ ys;
  is = ap (λ z. z ++ ys) first.is ∙ append_assoc word first.rest ys;
  parted = behind_both first.rest ys first.parted behind;
}

behind_if : (b : Bool) (xs : List ℕ) → IsBehindWord xs → IsBehindWord (if b then xs else [])
behind_if true xs behind = behind
behind_if false xs behind = tt

behind_each : (f : Part → List ℕ) → ((part : Part) → IsBehindWord (f part)) → (parts : List Part) → IsBehindWord (flat_map f parts)
behind_each f each [] = tt
behind_each f each (part ∷ parts) = behind_both (f part) (flat_map f parts) (each part) (behind_each f each parts)

-- ** calls

-- the first that waits
record HasFirstCall (parts : List Part) : Type 0 where
  part : Part
  among : Contains parts part
  asked : is_asked part.place ≡ true
  verb : first_verb parts ≡ verb_at part.place

first_call : (parts : List Part) → list_any is_told parts ≡ true → HasFirstCall parts
first_call [] any = absurd (false≢true any)
first_call (part ∷ parts) any =
    elim (cases_Bool (is_told part)) [
      | inl is ↦
          record {
            part = part;
            among = (0, omega arith, refl);
            asked = is;
            verb = ap (λ (b : Bool). verb_of (if b then Some part else find is_told parts)) is;
          }
      | inr none ↦
          let later = first_call parts (ap (λ (b : Bool). b || list_any is_told parts) (sym none) ∙ any) in
          record {
            part = later.part;
            among = (suc later.among.0, omega (arith, later.among.1), later.among.2);
            asked = later.asked;
            verb = ap (λ (b : Bool). verb_of (if b then Some part else find is_told parts)) none ∙ later.verb;
          }
    ]

calls_first : (parts : List Part) → list_any is_told parts ≡ true → TellsCall parts (calls_text parts)
calls_first parts any =
    let call = first_call parts any in
    record {
      part = call.part;
      among = call.among;
      asked = call.asked;
      first = record {
        rest = flat_map asked_number parts;
        is = ap (λ z. z ++ flat_map asked_number parts) call.verb;
        parted = behind_each asked_number (λ part. behind_if (is_asked part.place) (spaced_number part.rm) refl) parts;
      };
    }

-- ** outcomes

behind_why : (why : Option (RbCode × ℕ)) → IsBehindWord (why_text why)
behind_why None = tt
behind_why (Some (code, rm)) = refl

standing_first : (standing : Standing) → HasFirst (standing_word standing) (standing_with_reason standing)
standing_first standings.Idle = record { rest = []; is = refl; parted = tt }
standing_first standings.Open = record { rest = []; is = refl; parted = tt }
standing_first standings.Ready = record { rest = []; is = refl; parted = tt }
standing_first standings.Committed = record { rest = []; is = refl; parted = tt }
standing_first (standings.RolledBack why) = record { rest = why_text why; is = refl; parted = behind_why why }
standing_first standings.Unknown = record { rest = []; is = refl; parted = tt }

outcome_first : (t : Transaction) → HasFirst (standing_word t.standing) (outcome_text t)
outcome_first t =
    first_behind (standing_word t.standing) (standing_with_reason t.standing ++ owed_branches_text t) (mixed_text t)
    (first_behind (standing_word t.standing) (standing_with_reason t.standing) (owed_branches_text t) (standing_first t.standing) (behind_if (has_left t) _ refl))
    (behind_if (list_any (is_mixed t.standing) t.parts.items) _ refl)

-- ** the whole

behind_begun : (next : Option Gtrid) → IsBehindWord (next_name_text next)
behind_begun None = tt
behind_begun (Some g) = refl

told_first : (t : Transaction) → TellsOf t (told_text t)
told_first t = by (has_calls t) refl
  where
    stands : (b : Bool) → has_calls t ≡ false → is_decided t.standing ≡ b → HasFirst (standing_word t.standing) (told_text t)
    stands true none is = subst (HasFirst (standing_word t.standing)) (sym (told_outcome t none is)) (outcome_first t)
    stands false none is = subst (HasFirst (standing_word t.standing)) (sym (told_standing t none is)) (standing_first t.standing)

    by : (b : Bool) → has_calls t ≡ b → MatchBool b (TellsCall t.parts.items (told_text t)) (HasFirst (standing_word t.standing) (told_text t))
    by true is = subst (TellsCall t.parts.items) (sym (told_calls t is)) (calls_first t.parts.items is)
    by false is = stands (is_decided t.standing) is refl

tells_or : (b : Bool) (branches : List Part) (word xs ys : List ℕ) → MatchBool b (TellsCall branches xs) (HasFirst word xs) → IsBehindWord ys
    → MatchBool b (TellsCall branches (xs ++ ys)) (HasFirst word (xs ++ ys))
tells_or true branches word xs ys tells behind = record {
  part = tells.part;
  among = tells.among;
  asked = tells.asked;
  first = first_behind _ xs ys tells.first behind;
}
tells_or false branches word xs ys tells behind = first_behind word xs ys tells behind

-- a reply begins by a call, or by how the transaction stands
pub reply_first : (t : Transaction) (next : Option Gtrid) (text : List ℕ) → text ≡ move_reply_text t next → TellsOf t text
reply_first t next text is =
    subst (TellsOf t) (sym is)
    (tells_or (has_calls t) t.parts.items (standing_word t.standing) (told_text t) (next_name_text next) (told_first t) (behind_begun next))

pub start_first : (text : List ℕ) → IsStart text → HasFirst (codes "started") text
start_first text start = record { rest = next_text start.0; is = start.1; parted = refl }

pub error_first : (text : List ℕ) → IsError text → HasFirst (codes "error") text
error_first text (inl is) = record { rest = codes " not a move"; is = is; parted = refl }
error_first text (inr is) = record { rest = codes " not now"; is = is; parted = refl }
