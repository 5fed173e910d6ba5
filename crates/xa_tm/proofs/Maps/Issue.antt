-- Calls on branches of this manager.
use Rattle.std.proofs.Common.{false, ◌≡◌, ◌<◌, ℕ, ◌∷◌, true, not, ◌&&◌, Option, Some, None, Result, Ok, Err, OnOk, refl, sym, ap, ◌∙◌, subst, arith}
use Rattle.std.specs.Prelude.{if◌then◌else◌, nat_lt}
use Rattle.xa_base.specs.declared.call.Call.TheVariants as Calls
use Rattle.xa_base.specs.declared.step.Step.TheVariants as Steps
use Rattle.std.proofs.Math.Bool.{and-false}
use Rattle.std.specs.Option.{option_or}
use Rattle.xa_base.proofs.Options.{or_none}
use Rattle.xa_base.specs.Opening.{opens}
use Rattle.xa_base.specs.StateTable.{on}
use Rattle.xa_base.specs.Branch.{branch_of_xid}
use Rattle.xa_model.specs.Replies.Steps.{accepted}
use Rattle.xa_model.specs.Replies.History.{name_by, name_of}
use Rattle.xa_model.specs.Replies.Guards.{call_guards, first_guard, has_line, refusal_by, refusal_of}
use Rattle.xa_model.specs.Replies.View.{View}
use Rattle.xa_model.specs.Trace.{Kind, Name.Ours, Name.Foreign, Line, Call, Happening.Issued}
use Rattle.xa_base.specs.Xid.{Xid}
use Rattle.xa_base.specs.declared.branch.Branch.{Branch}
use Rattle.xa_base.specs.declared.refusal.Refusal.{Refusal}
use Rattle.xa_base.specs.declared.refusal.Refusal.TheVariants as Refusals
use Rattle.xa_tm.specs.News.{Asked}
use Rattle.xa_tm.specs.Answering.{branch_handed_over, branch_started}
use Rattle.xa_tm.specs.Book.{Book, after}
use Rattle.xa_tm.specs.Refusing.{at_rest, refusal_in, view_in}
use Rattle.xa_model.proofs.Replies.Guards.{bar_of, issue_rule, none_refused, peel}
use Rattle.xa_tm.proofs.History.OneMore.{book_is}

-- a call is refused for what the call itself is refused for, on a line of the system and while the
-- manager is up
pub issue_refusal : (v : View) (t r : ℕ) (asked : Asked)
    → refusal_of v at_rest (Steps.Issue t r asked)
    ≡ refusal_by (has_line v t r) ((Refusals.ManagerDown, not v.up) ∷ call_guards v t r asked)
issue_refusal v t r asked =
    issue_rule v at_rest t r asked
    ∙ λ i. if has_line v t r then (if not v.up then Some Refusals.ManagerDown
    else option_or (bar_of (and-false (not (opens asked)) i) false) (or_none (first_guard (call_guards v t r asked)) i)) else Some Refusals.Limit

-- the manager refuses no call that may be issued for what it is itself
pub none_of_call : (k : Book) (t r : ℕ) (asked : Asked) → refusal_in k (Steps.Issue t r asked) ≡ None → first_guard (call_guards (view_in k) t r asked) ≡ None
none_of_call k t r asked none =
    (peel (not k.up) Refusals.ManagerDown _ (none_refused (has_line (view_in k) t r) _ (sym (issue_refusal (view_in k) t r asked) ∙ none))).1

there : (t n r m : ℕ) → t < n → r < m → (nat_lt t n && nat_lt r m) ≡ true
there t n r m a b = grind arith

pub asked_there : (k : Book) (t r : ℕ) (asked : Asked) (result : Option Refusal) → t < k.threads → r < k.rms → k.up ≡ true
    → result ≡ first_guard (call_guards (view_in k) t r asked) → result ≡ refusal_in k (Steps.Issue t r asked)
asked_there k t r asked result thread rm up found =
    found
    ∙ sym (issue_refusal (view_in k) t r asked ∙ λ i. refusal_by (there t k.threads r k.rms thread rm i)
    ((Refusals.ManagerDown, not (up i)) ∷ call_guards (view_in k) t r asked))

-- what a branch's guards say of a call is what the call's say
pub asked_ours : (v : View) (t r : ℕ) (asked : Asked) (kind : Kind) (x : Xid) (b : Branch) (result : Option Refusal)
    → asked ≡ on kind (name_of x) → Some b ≡ branch_of_xid x
    → result ≡ first_guard (call_guards v t r (on kind (Ours b)))
    → result ≡ first_guard (call_guards v t r asked)
asked_ours v t r asked kind x b result is own found =
    found ∙ ap (λ o. first_guard (call_guards v t r (on kind (name_by x o)))) own
    ∙ ap (λ a. first_guard (call_guards v t r a)) (sym is)

-- ** what is noted

-- a call that starts nothing and hands nothing over
pub quiet_issue : (a : Asked) (c : Call) (k : Book) (l : Line) → branch_started a ≡ None → branch_handed_over a ≡ None
    → accepted a ≡ Some c → k ≡ after k (Issued l c)
quiet_issue Calls.OpenRm c k l s h e =
    let is : Calls.OpenRm ≡ c = cc in
    subst (λ x. k ≡ after k (Issued l x)) is
    (book_is _ _ refl refl refl refl refl refl refl (λ g. refl) (λ b. refl) refl (λ r. refl) (λ g. refl) refl (λ b. refl) refl refl)
quiet_issue Calls.CloseRm c k l s h e =
    let is : Calls.CloseRm ≡ c = cc in
    subst (λ x. k ≡ after k (Issued l x)) is
    (book_is _ _ refl refl refl refl refl refl refl (λ g. refl) (λ b. refl) refl (λ r. refl) (λ g. refl) refl (λ b. refl) refl refl)
quiet_issue (Calls.Recover n x y) c k l s h e =
    let is : Calls.Recover n x y ≡ c = cc in
    subst (λ x. k ≡ after k (Issued l x)) is
    (book_is _ _ refl refl refl refl refl refl refl (λ g. refl) (λ b. refl) refl (λ r. refl) (λ g. refl) refl (λ b. refl) refl refl)
quiet_issue (Calls.Start (Foreign x) j) c k l s h e = absurd (let no : ⊥ = cc in no)
quiet_issue (Calls.End (Foreign x) f) c k l s h e = absurd (let no : ⊥ = cc in no)
quiet_issue (Calls.Prepare (Foreign x)) c k l s h e = absurd (let no : ⊥ = cc in no)
quiet_issue (Calls.Commit (Foreign x) o) c k l s h e = absurd (let no : ⊥ = cc in no)
quiet_issue (Calls.Rollback (Foreign x)) c k l s h e = absurd (let no : ⊥ = cc in no)
quiet_issue (Calls.Forget (Foreign x)) c k l s h e = absurd (let no : ⊥ = cc in no)
quiet_issue (Calls.Start (Ours b) false) c k l s h e = absurd (let no : ⊥ = cc in no)
quiet_issue (Calls.Start (Ours b) true) c k l s h e = absurd (let no : ⊥ = cc in no)
quiet_issue (Calls.Commit (Ours b) true) c k l s h e = absurd (let no : ⊥ = cc in no)
quiet_issue (Calls.Prepare (Ours b)) c k l s h e =
    let is : Calls.Prepare b ≡ c = cc in
    subst (λ x. k ≡ after k (Issued l x)) is
    (book_is _ _ refl refl refl refl refl refl refl (λ g. refl) (λ b. refl) refl (λ r. refl) (λ g. refl) refl (λ b. refl) refl refl)
quiet_issue (Calls.Commit (Ours b) false) c k l s h e =
    let is : Calls.Commit b false ≡ c = cc in
    subst (λ x. k ≡ after k (Issued l x)) is
    (book_is _ _ refl refl refl refl refl refl refl (λ g. refl) (λ b. refl) refl (λ r. refl) (λ g. refl) refl (λ b. refl) refl refl)
quiet_issue (Calls.Rollback (Ours b)) c k l s h e =
    let is : Calls.Rollback b ≡ c = cc in
    subst (λ x. k ≡ after k (Issued l x)) is
    (book_is _ _ refl refl refl refl refl refl refl (λ g. refl) (λ b. refl) refl (λ r. refl) (λ g. refl) refl (λ b. refl) refl refl)
quiet_issue (Calls.Forget (Ours b)) c k l s h e =
    let is : Calls.Forget b ≡ c = cc in
    subst (λ x. k ≡ after k (Issued l x)) is
    (book_is _ _ refl refl refl refl refl refl refl (λ g. refl) (λ b. refl) refl (λ r. refl) (λ g. refl) refl (λ b. refl) refl refl)
quiet_issue (Calls.End (Ours b) f) c k l s h e =
    let is : Calls.End b f ≡ c = cc in
    subst (λ x. k ≡ after k (Issued l x)) is
    (book_is _ _ refl refl refl refl refl refl refl (λ g. refl) (λ b. refl) refl (λ r. refl) (λ g. refl) refl (λ b. refl) refl refl)

-- a call that starts a branch
pub start_issue : (a : Asked) (c : Call) (b : Branch) (k n : Book) (l : Line) → branch_started a ≡ Some b → accepted a ≡ Some c
    → n ≡ after k (Issued l (Calls.Start b false)) → n ≡ after k (Issued l (Calls.Start b true)) → n ≡ after k (Issued l c)
start_issue Calls.OpenRm c b k n l s e started joined = absurd (let no : ⊥ = cc in no)
start_issue Calls.CloseRm c b k n l s e started joined = absurd (let no : ⊥ = cc in no)
start_issue (Calls.Recover i x y) c b k n l s e started joined = absurd (let no : ⊥ = cc in no)
start_issue (Calls.Start (Foreign x) j) c b k n l s e started joined = absurd (let no : ⊥ = cc in no)
start_issue (Calls.End (Foreign x) f) c b k n l s e started joined = absurd (let no : ⊥ = cc in no)
start_issue (Calls.Prepare (Foreign x)) c b k n l s e started joined = absurd (let no : ⊥ = cc in no)
start_issue (Calls.Commit (Foreign x) o) c b k n l s e started joined = absurd (let no : ⊥ = cc in no)
start_issue (Calls.Rollback (Foreign x)) c b k n l s e started joined = absurd (let no : ⊥ = cc in no)
start_issue (Calls.Forget (Foreign x)) c b k n l s e started joined = absurd (let no : ⊥ = cc in no)
start_issue (Calls.Start (Ours d) false) c b k n l s e started joined =
    let same : d ≡ b = cc in let is : Calls.Start d false ≡ c = cc in started ∙ ap (λ x. after k (Issued l x)) (ap (λ x. Calls.Start x false) (sym same) ∙ is)
start_issue (Calls.Start (Ours d) true) c b k n l s e started joined =
    let same : d ≡ b = cc in let is : Calls.Start d true ≡ c = cc in joined ∙ ap (λ x. after k (Issued l x)) (ap (λ x. Calls.Start x true) (sym same) ∙ is)
start_issue (Calls.Commit (Ours d) true) c b k n l s e started joined = absurd (let no : ⊥ = cc in no)
start_issue (Calls.Prepare (Ours d)) c b k n l s e started joined = absurd (let no : ⊥ = cc in no)
start_issue (Calls.Commit (Ours d) false) c b k n l s e started joined = absurd (let no : ⊥ = cc in no)
start_issue (Calls.Rollback (Ours d)) c b k n l s e started joined = absurd (let no : ⊥ = cc in no)
start_issue (Calls.Forget (Ours d)) c b k n l s e started joined = absurd (let no : ⊥ = cc in no)
start_issue (Calls.End (Ours d) f) c b k n l s e started joined = absurd (let no : ⊥ = cc in no)

-- a call that hands a transaction over
pub handed_issue : (a : Asked) (c : Call) (b : Branch) → branch_handed_over a ≡ Some b → accepted a ≡ Some c → Calls.Commit b true ≡ c
handed_issue (Calls.Commit (Ours d) true) c b s e =
    let same : d ≡ b = cc in let is : Calls.Commit d true ≡ c = cc in ap (λ x. Calls.Commit x true) (sym same) ∙ is
handed_issue Calls.OpenRm c b s e = absurd (let no : ⊥ = cc in no)
handed_issue Calls.CloseRm c b s e = absurd (let no : ⊥ = cc in no)
handed_issue (Calls.Recover i x y) c b s e = absurd (let no : ⊥ = cc in no)
handed_issue (Calls.Start (Foreign x) j) c b s e = absurd (let no : ⊥ = cc in no)
handed_issue (Calls.End (Foreign x) f) c b s e = absurd (let no : ⊥ = cc in no)
handed_issue (Calls.Prepare (Foreign x)) c b s e = absurd (let no : ⊥ = cc in no)
handed_issue (Calls.Commit (Foreign x) o) c b s e = absurd (let no : ⊥ = cc in no)
handed_issue (Calls.Rollback (Foreign x)) c b s e = absurd (let no : ⊥ = cc in no)
handed_issue (Calls.Forget (Foreign x)) c b s e = absurd (let no : ⊥ = cc in no)
handed_issue (Calls.Start (Ours d) false) c b s e = absurd (let no : ⊥ = cc in no)
handed_issue (Calls.Start (Ours d) true) c b s e = absurd (let no : ⊥ = cc in no)
handed_issue (Calls.End (Ours d) f) c b s e = absurd (let no : ⊥ = cc in no)
handed_issue (Calls.Prepare (Ours d)) c b s e = absurd (let no : ⊥ = cc in no)
handed_issue (Calls.Commit (Ours d) false) c b s e = absurd (let no : ⊥ = cc in no)
handed_issue (Calls.Rollback (Ours d)) c b s e = absurd (let no : ⊥ = cc in no)
handed_issue (Calls.Forget (Ours d)) c b s e = absurd (let no : ⊥ = cc in no)

pub both_ok : {T E : Type 0} (r : Result T E) (P Q R : Type 0) → (P → Q → R) → OnOk r P → OnOk r Q → OnOk r R
both_ok (Ok x) P Q R f h i = f h i
both_ok (Err e) P Q R f h i = tt
