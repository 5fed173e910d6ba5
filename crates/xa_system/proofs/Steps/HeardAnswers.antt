-- An answer that is heard.
use Rattle.std.proofs.Common.{◌≡◌, true, false, List, [], ◌∷◌, map, refl, sym, ap, ◌∙◌, subst}
use Rattle.std.specs.Prelude.{Option, Some, None, IsSomeAnd, slice_get, IsSome}
use Rattle.std.specs.Option.{option_map}
use Rattle.std.proofs.lemmas.Bool.{true≢false}
use Rattle.std.proofs.lemmas.List.{append-nil}
use Rattle.xa_base.specs.declared.code.Code.{Code}
use Rattle.xa_base.specs.StateTable.{asks_of, Kind, Kind.Start, Kind.Join, Kind.End, Kind.Prepare, Kind.Commit, Kind.OnePhase, Kind.Rollback, Kind.Forget}
use Rattle.xa_base.specs.Xid.{Xid}
use Rattle.xa_base.specs.Answer.{map_answer}
use Rattle.xa_model.specs.Replies.History.{name_of}
use Rattle.xa_model.specs.Trace.{Answer, Call, Happening.Heard, Line, Trace, Trace.Then, Name}
use Rattle.xa_base.specs.declared.code.How.{How}
use Rattle.xa_base.specs.declared.answer.Answer as Given
use Rattle.xa_base.specs.declared.answer.Answer.TheVariants as Answers
use Rattle.xa_base.specs.declared.call.Call as Asking
use Rattle.xa_base.specs.declared.code.Code.TheVariants as Codes
use Rattle.xa_base.proofs.Options.{some_is}
use Rattle.xa_model.proofs.Keys.{line_eq-refl}
use Rattle.xa_line.specs.Traffic.{Flow, PassesOn, Traffic, all_of, answered, calls_issued}
use Rattle.xa_line.proofs.FlowLaws.{all_of-PassesOn}
use Rattle.xa_tm.specs.Answering.{MakesRecord}
use Rattle.xa_tm.specs.News.{Asked, heuristic_end, news_by, news_for}
use Rattle.xa_line.specs.Histories.{LineStands, known_answered}
use Rattle.xa_line.proofs.TrafficLaws.{line_goes_on}

-- a call and its answer, as they are known
pub known_pair : (o : Option Call) (a : Answer) (q : Call × Answer) → option_map (λ c. (c, a)) o ≡ Some q → (o ≡ Some q.0) × (q ≡ (q.0, a))
known_pair (Some c) a q e = let same : (c, a) ≡ q = some_is _ _ e in (ap (λ p. Some p.0) same, ap (λ p. (q.0, p.1)) (sym same))
known_pair None a q e = absurd (cc)

-- the first of a list that a look found
pub first_is : {A : Type 0} (xs : List A) (x : A) → Some x ≡ slice_get xs 0 → (rest : List A) × (xs ≡ x ∷ rest)
first_is [] x e = absurd (cc)
first_is (y ∷ ys) x e = (ys, ap (λ z. z ∷ ys) (some_is y x (sym e)))

-- what is said of the first of a list, if that is at hand
pub some_and : {A : Type 0} (P : A → Type 0) (o : Option A) (x : A) → Some x ≡ o → IsSomeAnd o P → P x
some_and P (Some y) x e h = subst P (some_is y x (sym e)) h
some_and P None x e h = absurd (cc)

pub heard_line : (tr : Trace) (l : Line) (p : Asking.Call Xid × Given.Answer Xid) (c : Call) (a : Answer) (before after : Traffic)
    → LineStands tr l before → known_answered p ≡ Some (c, a)
    → PassesOn before.answers p after.answers → after.calls ≡ before.calls → LineStands (Then tr (Heard l c a)) l after
heard_line tr l p c a before after stands is passes same =
    line_goes_on tr (Heard l c a) l before after [] [] (p ∷ []) stands refl
    (ap all_of same ∙ sym (append-nil (calls_issued before))) refl
    (all_of-PassesOn before.answers p after.answers passes ∙ sym (append-nil (answered before))) refl
    passes.through (rw (is, line_eq-refl l) refl)
    (ap (λ (f : Flow (Asking.Call Xid)). f.gone) same ∙ stands.each_answered ∙ ap (map (λ q. q.0))
    (sym (all_of-PassesOn before.answers p after.answers passes)))

-- an answer that makes a record is a heuristic code
ended_alone : (code : Code) → IsSome (heuristic_end code) → (how : How) × (code ≡ Codes.Heuristic how)
ended_alone (Codes.Heuristic how) h = (how, refl)
ended_alone (Codes.RolledBack why) h = absurd (true≢false (sym h))
ended_alone Codes.Retry h = absurd (true≢false (sym h))
ended_alone Codes.ReadOnly h = absurd (true≢false (sym h))
ended_alone Codes.Success h = absurd (true≢false (sym h))
ended_alone Codes.RmError h = absurd (true≢false (sym h))
ended_alone Codes.NotAnXid h = absurd (true≢false (sym h))
ended_alone Codes.Invalid h = absurd (true≢false (sym h))
ended_alone Codes.Protocol h = absurd (true≢false (sym h))
ended_alone Codes.RmFailed h = absurd (true≢false (sym h))
ended_alone Codes.DuplicateXid h = absurd (true≢false (sym h))

heuristic_code : (asks : Option (Kind × Name)) (code : Code) → IsSome (news_for asks code).how → (how : How) × (code ≡ Codes.Heuristic how)
heuristic_code None code h = absurd (true≢false (sym h))
heuristic_code (Some (kind, x)) code h = by_kind kind h
  where
    by_kind : (k : Kind) → IsSome (news_by k code).how → (how : How) × (code ≡ Codes.Heuristic how)
    by_kind Start e = absurd (true≢false (sym e))
    by_kind Join e = absurd (true≢false (sym e))
    by_kind (End fail) e = absurd (true≢false (sym e))
    by_kind Prepare e = absurd (true≢false (sym e))
    by_kind Commit e = ended_alone code e
    by_kind OnePhase e = ended_alone code e
    by_kind Rollback e = ended_alone code e
    by_kind Forget e = absurd (true≢false (sym e))

pub recorded_answer : (asked : Asked) (a : Given.Answer Xid) → MakesRecord asked (map_answer name_of a) → (how : How) × (a ≡ Answers.Ret (Codes.Heuristic how))
recorded_answer asked (Answers.Ret code) m = let w = heuristic_code (asks_of asked) code m in (w.0, ap Answers.Ret w.1)
recorded_answer asked (Answers.Page xids) m = absurd m
