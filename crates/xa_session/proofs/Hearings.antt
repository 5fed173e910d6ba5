-- Answers that may be heard.
use Rattle.std.proofs.Common.{◌≡◌, ◌≤◌, ◌⊎◌, inl, inr, ℕ, Bool, true, List, [], ◌∷◌, Some, None, refl, sym, ap, ◌∙◌, subst, arith}
use Rattle.std.specs.Prelude.{nat_le}
use Rattle.std.proofs.lemmas.Bool.Decides.{nat_tests}
use Rattle.std.proofs.lemmas.Bool.{and_parts}
use Rattle.xa_base.proofs.Options.{some_is}
use Rattle.xa_base.specs.Call.{map_call}
use Rattle.xa_base.specs.Xid.{Xid}
use Rattle.xa_base.specs.declared.answer.Answer as Given
use Rattle.xa_base.specs.declared.answer.Answer.TheVariants.{Page, Ret}
use Rattle.xa_base.specs.declared.branch.Branch.{Branch}
use Rattle.xa_base.specs.declared.branch.Gtrid.{Gtrid}
use Rattle.xa_base.specs.declared.call.Call as Asking
use Rattle.xa_base.specs.declared.call.Call.TheVariants as Calls
use Rattle.xa_base.specs.declared.code.Code.{Code}
use Rattle.xa_base.specs.declared.code.Code.TheVariants.{Success}
use Rattle.xa_line.specs.Traffic.{Traffic}
use Rattle.xa_log.specs.Content.{last_number}
use Rattle.xa_log.specs.Contract.{FitsRow}
use Rattle.xa_model.specs.Replies.History.{name_of}
use Rattle.xa_model.specs.Replies.Steps.{accepted}
use Rattle.xa_model.specs.Trace.{Answer, Call, Name.Foreign, Name.Ours}
use Rattle.xa_monitor.specs.Seen.{HasAnswer}
use Rattle.xa_tm.specs.Answering.{FitsRecord, IsAnswerTo, branch_asked}
use Rattle.xa_tm.specs.News.{Asked}
use Rattle.xa_session.specs.Hearing.{can_hear, fits_row, heard_first, is_code_on, is_ok, with_answer_heard}

le_is : (m n : ℕ) → nat_le m n ≡ true → m ≤ n
le_is m n e = grind (arith, nat_tests, e)

row_fits : (g : Gtrid) → fits_row g ≡ true → FitsRow g
row_fits g e =
    let parts = and_parts (nat_le g.incarnation last_number) (nat_le g.sequence last_number) e in
    (le_is g.incarnation last_number parts.0, le_is g.sequence last_number parts.1)

none_is : {A : Type 0} (x : A) → None ≡ Some x → ⊥
none_is x e = absurd (cc)

fits_on : (a : Asked) (b : Branch) (code : Code) → branch_asked a ≡ Some b → fits_row b.gtrid ≡ true → FitsRecord a (Ret code)
fits_on a b code e fits = λ q is how. subst (λ x. FitsRow x.gtrid) (some_is b q (sym e ∙ is)) (row_fits b.gtrid fits)

-- what the manager then asks: the answer is one to the call, makes no record that the log can't
-- hold, and a history knows the call, which has such answers
pub record IsHearable (a : Asked) (answer : Answer) : Type 0 where
  pub answers : IsAnswerTo a answer
  pub fits : FitsRecord a answer
  pub known : (c : Call) × (accepted a ≡ Some c)
  pub has : HasAnswer known.0 answer

ok_is : (code : Code) → is_ok (Ret code) ≡ true → code ≡ Success
ok_is Success e = refl
ok_is _ e = absurd (cc)

pub hearable : (a : Asked) (answer : Answer) → can_hear a answer ≡ true → IsHearable a answer
hearable Calls.OpenRm (Ret code) e = record { answers = tt; fits = λ q is how. absurd (none_is q is); known = (Calls.OpenRm, refl); has = λ n. ok_is code e }
hearable Calls.OpenRm (Page names) e = absurd (cc)
hearable Calls.CloseRm (Ret code) e = record { answers = tt; fits = λ q is how. absurd (none_is q is); known = (Calls.CloseRm, refl); has = λ n. ok_is code e }
hearable Calls.CloseRm (Page names) e = absurd (cc)
hearable (Calls.Recover n x y) (Ret code) e =
    record { answers = tt; fits = λ q is how. absurd (none_is q is); known = (Calls.Recover n x y, refl); has = tt }
hearable (Calls.Recover n x y) (Page names) e = record { answers = tt; fits = tt; known = (Calls.Recover n x y, refl); has = tt }
hearable (Calls.Start (Ours b) j) (Ret code) e =
    record { answers = tt; fits = fits_on (Calls.Start (Ours b) j) b code refl e; known = (Calls.Start b j, refl); has = λ n. absurd (cc) }
hearable (Calls.Start (Ours b) j) (Page names) e = absurd (cc)
hearable (Calls.Start (Foreign x) j) (Ret code) e = absurd (cc)
hearable (Calls.Start (Foreign x) j) (Page names) e = absurd (cc)
hearable (Calls.End (Ours b) j) (Ret code) e =
    record { answers = tt; fits = fits_on (Calls.End (Ours b) j) b code refl e; known = (Calls.End b j, refl); has = λ n. absurd (cc) }
hearable (Calls.End (Ours b) j) (Page names) e = absurd (cc)
hearable (Calls.End (Foreign x) j) (Ret code) e = absurd (cc)
hearable (Calls.End (Foreign x) j) (Page names) e = absurd (cc)
hearable (Calls.Prepare (Ours b)) (Ret code) e =
    record { answers = tt; fits = fits_on (Calls.Prepare (Ours b)) b code refl e; known = (Calls.Prepare b, refl); has = λ n. absurd (cc) }
hearable (Calls.Prepare (Ours b)) (Page names) e = absurd (cc)
hearable (Calls.Prepare (Foreign x)) (Ret code) e = absurd (cc)
hearable (Calls.Prepare (Foreign x)) (Page names) e = absurd (cc)
hearable (Calls.Commit (Ours b) j) (Ret code) e =
    record { answers = tt; fits = fits_on (Calls.Commit (Ours b) j) b code refl e; known = (Calls.Commit b j, refl); has = λ n. absurd (cc) }
hearable (Calls.Commit (Ours b) j) (Page names) e = absurd (cc)
hearable (Calls.Commit (Foreign x) j) (Ret code) e = absurd (cc)
hearable (Calls.Commit (Foreign x) j) (Page names) e = absurd (cc)
hearable (Calls.Rollback (Ours b)) (Ret code) e =
    record { answers = tt; fits = fits_on (Calls.Rollback (Ours b)) b code refl e; known = (Calls.Rollback b, refl); has = λ n. absurd (cc) }
hearable (Calls.Rollback (Ours b)) (Page names) e = absurd (cc)
hearable (Calls.Rollback (Foreign x)) (Ret code) e = absurd (cc)
hearable (Calls.Rollback (Foreign x)) (Page names) e = absurd (cc)
hearable (Calls.Forget (Ours b)) (Ret code) e =
    record { answers = tt; fits = fits_on (Calls.Forget (Ours b)) b code refl e; known = (Calls.Forget b, refl); has = λ n. absurd (cc) }
hearable (Calls.Forget (Ours b)) (Page names) e = absurd (cc)
hearable (Calls.Forget (Foreign x)) (Ret code) e = absurd (cc)
hearable (Calls.Forget (Foreign x)) (Page names) e = absurd (cc)

-- the call has such an answer, as a history knows it
pub has_answer : (a : Asked) (answer : Answer) (c : Call) → can_hear a answer ≡ true → accepted a ≡ Some c → HasAnswer c answer
has_answer a answer c e is =
    let h = hearable a answer e in
    subst (λ k. HasAnswer k answer) (some_is h.known.0 c (sym h.known.1 ∙ is)) h.has

-- a call on a branch is answered by a code
pub on_branch : (call : Asking.Call Xid) (x : Xid) (answer : Answer)
    → ((j : Bool) × (call ≡ Calls.Start x j)) ⊎ (((f : Bool) × (call ≡ Calls.End x f))
    ⊎ ((call ≡ Calls.Prepare x) ⊎ (((p : Bool) × (call ≡ Calls.Commit x p)) ⊎ ((call ≡ Calls.Rollback x) ⊎ (call ≡ Calls.Forget x)))))
    → is_code_on (name_of x) answer ≡ can_hear (map_call name_of call) answer
on_branch call x answer (inl (j, is)) = sym (ap (λ k. can_hear (map_call name_of k) answer) is)
on_branch call x answer (inr (inl (f, is))) = sym (ap (λ k. can_hear (map_call name_of k) answer) is)
on_branch call x answer (inr (inr (inl is))) = sym (ap (λ k. can_hear (map_call name_of k) answer) is)
on_branch call x answer (inr (inr (inr (inl (p, is))))) = sym (ap (λ k. can_hear (map_call name_of k) answer) is)
on_branch call x answer (inr (inr (inr (inr (inl is))))) = sym (ap (λ k. can_hear (map_call name_of k) answer) is)
on_branch call x answer (inr (inr (inr (inr (inr is))))) = sym (ap (λ k. can_hear (map_call name_of k) answer) is)

-- ** the line

first_heard : (t : Traffic) (waiting : List (Asking.Call Xid)) (answer : Given.Answer Xid) → t.answers.waiting ≡ []
    → (heard_first t waiting answer).answers.waiting ≡ []
first_heard t [] answer e = e
first_heard t (call ∷ rest) answer e = refl

pub answer_heard : (t : Traffic) (answer : Given.Answer Xid) → t.answers.waiting ≡ [] → (with_answer_heard t answer).answers.waiting ≡ []
answer_heard t answer e = first_heard t t.calls.waiting answer e
