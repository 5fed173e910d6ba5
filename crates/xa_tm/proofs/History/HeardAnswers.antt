-- Calls whose answers are heard.
use Rattle.std.proofs.Common.{true, false, Option, ◌≡◌, Some, None, Result, Ok, Err, IfErr, refl, sym, ap, ◌∙◌}
use Rattle.xa_base.specs.declared.call.Call.TheVariants as Calls
use Rattle.xa_base.specs.StateTable.{on}
use Rattle.xa_base.specs.declared.answer.Answer.TheVariants.{Ret}
use Rattle.xa_model.specs.Replies.Steps.{accepted}
use Rattle.xa_model.specs.Trace.{Line, Name.Ours, Name.Foreign, Kind, Kind.Start, Kind.Join, Kind.End, Kind.Prepare, Kind.Commit, Kind.OnePhase, Kind.Rollback, Kind.Forget, Call, Happening.Heard}
use Rattle.xa_base.specs.declared.branch.Branch.{Branch}
use Rattle.xa_base.specs.declared.code.Code.{Code}
use Rattle.xa_base.specs.Call.{xid_in}
use Rattle.xa_tm.specs.News.{Asked, news_by, news_to}
use Rattle.xa_tm.specs.Answering.{branch_asked}
use Rattle.xa_tm.specs.Book.{Book, after}
use Rattle.xa_tm.proofs.History.OneMore.{book_is}

-- a call on a branch of this manager
pub record IsCallOn (a : Asked) (b : Branch) (c : Call) : Type 0 where
  pub kind : Kind
  pub call : on kind b ≡ c
  pub news : (code : Code) → news_to a code ≡ news_by kind code

pub call_on : (a : Asked) (b : Branch) (c : Call) → branch_asked a ≡ Some b → accepted a ≡ Some c → IsCallOn a b c
call_on Calls.OpenRm b c e f = absurd (let no : ⊥ = cc in no)
call_on Calls.CloseRm b c e f = absurd (let no : ⊥ = cc in no)
call_on (Calls.Recover n s t) b c e f = absurd (let no : ⊥ = cc in no)
call_on (Calls.Start (Foreign x) j) b c e h = absurd (let no : ⊥ = cc in no)
call_on (Calls.End (Foreign x) f) b c e h = absurd (let no : ⊥ = cc in no)
call_on (Calls.Prepare (Foreign x)) b c e h = absurd (let no : ⊥ = cc in no)
call_on (Calls.Commit (Foreign x) o) b c e h = absurd (let no : ⊥ = cc in no)
call_on (Calls.Rollback (Foreign x)) b c e h = absurd (let no : ⊥ = cc in no)
call_on (Calls.Forget (Foreign x)) b c e h = absurd (let no : ⊥ = cc in no)
call_on (Calls.Start (Ours d) false) b c e h =
    let same : d ≡ b = cc in
    let is : Calls.Start d false ≡ c = cc in
    record { kind = Start; call = ap (λ x. on Start x) (sym same) ∙ is; news = λ code. refl }
call_on (Calls.Start (Ours d) true) b c e h =
    let same : d ≡ b = cc in
    let is : Calls.Start d true ≡ c = cc in
    record { kind = Join; call = ap (λ x. on Join x) (sym same) ∙ is; news = λ code. refl }
call_on (Calls.End (Ours d) f) b c e h =
    let same : d ≡ b = cc in
    let is : Calls.End d f ≡ c = cc in
    record { kind = (End f); call = ap (λ x. on (End f) x) (sym same) ∙ is; news = λ code. refl }
call_on (Calls.Prepare (Ours d)) b c e h =
    let same : d ≡ b = cc in
    let is : Calls.Prepare d ≡ c = cc in
    record { kind = Prepare; call = ap (λ x. on Prepare x) (sym same) ∙ is; news = λ code. refl }
call_on (Calls.Commit (Ours d) false) b c e h =
    let same : d ≡ b = cc in
    let is : Calls.Commit d false ≡ c = cc in
    record { kind = Commit; call = ap (λ x. on Commit x) (sym same) ∙ is; news = λ code. refl }
call_on (Calls.Commit (Ours d) true) b c e h =
    let same : d ≡ b = cc in
    let is : Calls.Commit d true ≡ c = cc in
    record { kind = OnePhase; call = ap (λ x. on OnePhase x) (sym same) ∙ is; news = λ code. refl }
call_on (Calls.Rollback (Ours d)) b c e h =
    let same : d ≡ b = cc in
    let is : Calls.Rollback d ≡ c = cc in
    record { kind = Rollback; call = ap (λ x. on Rollback x) (sym same) ∙ is; news = λ code. refl }
call_on (Calls.Forget (Ours d)) b c e h =
    let same : d ≡ b = cc in
    let is : Calls.Forget d ≡ c = cc in
    record { kind = Forget; call = ap (λ x. on Forget x) (sym same) ∙ is; news = λ code. refl }

none_on : (kind : Kind) (b : Branch) → xid_in (on kind b) ≡ Some b
none_on Start b = refl
none_on Join b = refl
none_on (End f) b = refl
none_on Prepare b = refl
none_on Commit b = refl
none_on OnePhase b = refl
none_on Rollback b = refl
none_on Forget b = refl

never_on : (kind : Kind) (b : Branch) (c : Call) → xid_in c ≡ None → c ≡ on kind b → ⊥
never_on kind b c none is = let no : ◌≡◌ {A = Option Branch} None (Some b) = sym none ∙ ap xid_in is ∙ none_on kind b in absurd (cc)

quiet : (k : Book) (l : Line) (c : Call) (code : Code) → ((kind : Kind) (b : Branch) → c ≡ on kind b → ⊥) → k ≡ after k (Heard l c (Ret code))
quiet k l (Calls.Start b false) code never = absurd (never Start b refl)
quiet k l (Calls.Start b true) code never = absurd (never Join b refl)
quiet k l (Calls.End b f) code never = absurd (never (End f) b refl)
quiet k l (Calls.Prepare b) code never = absurd (never Prepare b refl)
quiet k l (Calls.Commit b false) code never = absurd (never Commit b refl)
quiet k l (Calls.Commit b true) code never = absurd (never OnePhase b refl)
quiet k l (Calls.Rollback b) code never = absurd (never Rollback b refl)
quiet k l (Calls.Forget b) code never = absurd (never Forget b refl)
quiet k l Calls.OpenRm code never =
    book_is _ _ refl refl refl refl refl refl refl (λ g. refl) (λ b. refl) refl (λ r. refl) (λ g. refl) refl (λ b. refl) refl refl
quiet k l Calls.CloseRm code never =
    book_is _ _ refl refl refl refl refl refl refl (λ g. refl) (λ b. refl) refl (λ r. refl) (λ g. refl) refl (λ b. refl) refl refl
quiet k l (Calls.Recover n s t) code never =
    book_is _ _ refl refl refl refl refl refl refl (λ g. refl) (λ b. refl) refl (λ r. refl) (λ g. refl) refl (λ b. refl) refl refl

-- a code that answers a call on no branch says nothing
pub quiet_code : (a : Asked) (c : Call) (k : Book) (l : Line) (code : Code) → branch_asked a ≡ None → accepted a ≡ Some c → k ≡ after k (Heard l c (Ret code))
quiet_code Calls.OpenRm c k l code e f = let is : Calls.OpenRm ≡ c = cc in quiet k l c code (λ kind b s. never_on kind b (Calls.OpenRm) refl (is ∙ s))
quiet_code Calls.CloseRm c k l code e f = let is : Calls.CloseRm ≡ c = cc in quiet k l c code (λ kind b s. never_on kind b (Calls.CloseRm) refl (is ∙ s))
quiet_code (Calls.Recover n x y) c k l code e f =
    let is : Calls.Recover n x y ≡ c = cc in quiet k l c code (λ kind b s. never_on kind b (Calls.Recover n x y) refl (is ∙ s))
quiet_code (Calls.Start (Foreign x) j) c k l code e h = absurd (let no : ⊥ = cc in no)
quiet_code (Calls.Start (Ours d) j) c k l code e h = absurd (let no : ⊥ = cc in no)
quiet_code (Calls.End (Foreign x) f) c k l code e h = absurd (let no : ⊥ = cc in no)
quiet_code (Calls.End (Ours d) f) c k l code e h = absurd (let no : ⊥ = cc in no)
quiet_code (Calls.Prepare (Foreign x)) c k l code e h = absurd (let no : ⊥ = cc in no)
quiet_code (Calls.Prepare (Ours d)) c k l code e h = absurd (let no : ⊥ = cc in no)
quiet_code (Calls.Commit (Foreign x) o) c k l code e h = absurd (let no : ⊥ = cc in no)
quiet_code (Calls.Commit (Ours d) o) c k l code e h = absurd (let no : ⊥ = cc in no)
quiet_code (Calls.Rollback (Foreign x)) c k l code e h = absurd (let no : ⊥ = cc in no)
quiet_code (Calls.Rollback (Ours d)) c k l code e h = absurd (let no : ⊥ = cc in no)
quiet_code (Calls.Forget (Foreign x)) c k l code e h = absurd (let no : ⊥ = cc in no)
quiet_code (Calls.Forget (Ours d)) c k l code e h = absurd (let no : ⊥ = cc in no)

-- how a branch is called
pub call_kind : (a : Asked) (b : Branch) → branch_asked a ≡ Some b → (kind : Kind) × ((code : Code) → news_to a code ≡ news_by kind code)
call_kind Calls.OpenRm b e = absurd (let no : ⊥ = cc in no)
call_kind Calls.CloseRm b e = absurd (let no : ⊥ = cc in no)
call_kind (Calls.Recover n s t) b e = absurd (let no : ⊥ = cc in no)
call_kind (Calls.Start (Foreign x) j) b e = absurd (let no : ⊥ = cc in no)
call_kind (Calls.End (Foreign x) f) b e = absurd (let no : ⊥ = cc in no)
call_kind (Calls.Prepare (Foreign x)) b e = absurd (let no : ⊥ = cc in no)
call_kind (Calls.Commit (Foreign x) o) b e = absurd (let no : ⊥ = cc in no)
call_kind (Calls.Rollback (Foreign x)) b e = absurd (let no : ⊥ = cc in no)
call_kind (Calls.Forget (Foreign x)) b e = absurd (let no : ⊥ = cc in no)
call_kind (Calls.Start (Ours d) false) b e = (Start, λ code. refl)
call_kind (Calls.Start (Ours d) true) b e = (Join, λ code. refl)
call_kind (Calls.End (Ours d) f) b e = ((End f), λ code. refl)
call_kind (Calls.Prepare (Ours d)) b e = (Prepare, λ code. refl)
call_kind (Calls.Commit (Ours d) false) b e = (Commit, λ code. refl)
call_kind (Calls.Commit (Ours d) true) b e = (OnePhase, λ code. refl)
call_kind (Calls.Rollback (Ours d)) b e = (Rollback, λ code. refl)
call_kind (Calls.Forget (Ours d)) b e = (Forget, λ code. refl)

pub if_err : {T E : Type 0} (r : Result T E) (P Q : E → Type 0) → ((e : E) → P e → Q e) → IfErr r P → IfErr r Q
if_err (Ok x) P Q f h = tt
if_err (Err e) P Q f h = f e h
