-- One call more, after a list of calls.
use Rattle.std.proofs.Common.{◌≡◌, inl, inr, ℕ, ◌+◌, ◌<◌, ◌≤◌, length, take, get_or, List, [], ◌∷◌, ◌++◌, Option, Some, Ok, Err, IsSomeAnd, refl, sym, ap, subst, ◌∙◌}
use Rattle.std.proofs.lemmas.List.{take_all, take_more}
use Rattle.xa_log.specs.Commands.{AreTold, LeavesFirst, AnswersCommand, content_after, content_after_all}
use Rattle.xa_log.specs.Content.{Content}
use Rattle.xa_log.specs.Contract.{Changes, Moment}
use Rattle.xa_log.specs.declared.commands.Command.{Command}
use Rattle.xa_log.specs.declared.commands.Told.{Told}
use Rattle.xa_log.specs.declared.log_fault.LogFault.{LogFault}

some_is : {A : Type 0} (o : Option A) (x : A) (P : A → Type 0) → o ≡ Some x → IsSomeAnd o P → P x
some_is o x P is h = subst (λ it. IsSomeAnd it P) is h

after_push : (calls : List Command) (call : Command) (c : Content) → content_after_all (calls ++ call ∷ []) c ≡ content_after call (content_after_all calls c)
after_push [] call c = refl
after_push (x ∷ calls) call c = after_push calls call (content_after x c)

told_push : (calls : List Command) (answers : List Told) (call : Command) (answer : Told) (c : Content) → AreTold c calls answers
    → AnswersCommand (content_after_all calls c) call answer → AreTold c (calls ++ call ∷ []) (answers ++ answer ∷ [])
told_push [] [] call answer c told one = (one, tt)
told_push [] (a ∷ answers) call answer c told one = absurd told
told_push (x ∷ calls) [] call answer c told one = absurd told
told_push (x ∷ calls) (a ∷ answers) call answer c told one = (told.0, told_push calls answers call answer (content_after x c) told.1 one)

-- a log has been given these calls without a failure since it was as at the start
pub record HasRun {Log : Type 0} (moment : Log → Moment) (start now : Log) (calls : List Command) (answers : List Told) : Type 0 where
  pub order : (moment start).is_in_order → (moment now).is_in_order
  pub honest : (moment now).is_honest → (moment start).is_honest
  pub count : (moment now).fault_count ≡ (moment start).fault_count
  pub made : (c : Content) → (moment start).is_in_order → (moment now).is_honest → (moment start).content ≡ Some c
      → (moment now).content ≡ Some (content_after_all calls c)
  pub told : (c : Content) → (moment start).is_in_order → (moment now).is_honest → (moment start).content ≡ Some c → AreTold c calls answers

module _ {Log : Type 0} (moment : Log → Moment) (start : Log) where
  pub not_run : HasRun moment start start [] []
  not_run = record { order = λ h. h; honest = λ h. h; count = refl; made = λ c order honest is. is; told = λ c order honest is. tt }

  pub one_more : (old new : Log) (all : List Command) (i : ℕ) (call : Command) (answers more : List Told) (answer : Told)
      → i < length all → call ≡ get_or all i call → more ≡ answers ++ answer ∷ []
      → HasRun moment start old (take i all) answers
      → Changes {A = Told} (content_after call) (moment old) (moment new) (Ok answer)
      → ((moment old).is_in_order → (moment new).is_honest → IsSomeAnd (moment old).content (λ c. AnswersCommand c call answer))
      → HasRun moment start new (take (i + 1) all) more
  one_more old new all i call answers more answer low here listed run changes told =
      let calls = take i all in
      let next : take (i + 1) all ≡ calls ++ call ∷ [] = take_more all i call low ∙ ap (λ x. calls ++ x ∷ []) (sym here) in
      record {
        order = λ at_first. changes.order (run.order at_first);
        honest = λ clean. run.honest (changes.honest clean);
        count = changes.faults ∙ run.count;
        made = λ c at_first clean is.
            some_is (moment old).content (content_after_all calls c) _ (run.made c at_first (changes.honest clean) is) (changes.ok (run.order at_first) clean)
            ∙ ap Some (sym (after_push calls call c) ∙ ap (λ all. content_after_all all c) (sym next));
        told = λ c at_first clean is.
            let one = some_is (moment old).content (content_after_all calls c) _ (run.made c at_first (changes.honest clean) is)
            (told (run.order at_first) clean) in
            subst (λ all. AreTold c all more) (sym next)
            (subst (AreTold c (calls ++ call ∷ [])) (sym listed)
            (told_push calls answers call answer c (run.told c at_first (changes.honest clean) is) one));
      }

  pub whole : (now : Log) (all : List Command) (i : ℕ) (answers : List Told) → length all ≤ i
      → HasRun moment start now (take i all) answers → HasRun moment start now all answers
  whole now all i answers high run = subst (λ calls. HasRun moment start now calls answers) (take_all i all high) run

  -- the next call failed
  pub stopped : (old new : Log) (all : List Command) (i : ℕ) (call : Command) (answers : List Told) → i < length all → call ≡ get_or all i call
      → HasRun moment start old (take i all) answers
      → (e : LogFault) → Changes {A = Told} (content_after call) (moment old) (moment new) (Err e)
      → (c : Content) → (moment start).is_in_order → (moment new).is_honest → (moment start).content ≡ Some c → LeavesFirst all c (moment new).content
  stopped old new all i call answers low here run e changes c at_first clean is =
      let calls = take i all in
      let next : take (i + 1) all ≡ calls ++ call ∷ [] = take_more all i call low ∙ ap (λ x. calls ++ x ∷ []) (sym here) in
      let was = run.made c at_first (changes.honest clean) is in
      elim (changes.err (run.order at_first)) [
        | inl shut ↦ inl shut
        | inr (inl same) ↦ inr (i, same ∙ was)
        | inr (inr made) ↦ inr (
          i + 1,
          some_is (moment old).content (content_after_all calls c) _ was made
              ∙ ap Some (sym (after_push calls call c) ∙ ap (λ all. content_after_all all c) (sym next)),
        )
      ]

  -- the last call was made, and then no memory was left
  pub left : (now : Log) (all : List Command) (i : ℕ) (answers : List Told) → HasRun moment start now (take i all) answers
      → (c : Content) → (moment start).is_in_order → (moment now).is_honest → (moment start).content ≡ Some c → LeavesFirst all c (moment now).content
  left now all i answers run c at_first clean is = inr (i, run.made c at_first clean is)
