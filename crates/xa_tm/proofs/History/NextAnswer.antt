-- The answer that waits first on a line is one that the manager can hear.
use Rattle.std.proofs.Common.{◌≡◌, ◌≤◌, ◌⊎◌, inl, inr, ℕ, List, length, Bool, true, false, refl, sym, subst, arith}
use Rattle.std.specs.Prelude.{IsSome, Option, Some, None, option_map, slice_get}
use Rattle.xa_base.specs.declared.answer.Answer.TheVariants.{Page, Ret}
use Rattle.xa_base.specs.declared.branch.Branch.{Branch}
use Rattle.xa_base.specs.declared.call.Call.TheVariants as Calls
use Rattle.xa_base.specs.declared.code.Code.{Code}
use Rattle.xa_base.specs.declared.code.Code.TheVariants as Codes
use Rattle.xa_base.specs.declared.code.How.{How}
use Rattle.xa_base.specs.declared.state.Standing.{Standing}
use Rattle.xa_base.specs.declared.state.Standing.TheVariants.{Completed, Forgotten, Unstarted}
use Rattle.xa_log.specs.Content.{last_number}
use Rattle.xa_model.specs.Facts.{heard, held_of, next_answer, origin, standing, started, taken}
use Rattle.xa_model.specs.Protocol.{IsRun, Right, SoundAnswer}
use Rattle.xa_model.specs.Replies.Steps.{accepted, ours_of}
use Rattle.xa_model.specs.Trace.{Answer, Call, Happening.Took, Line, Name, Name.Foreign, Name.Ours, Trace, Trace.From, Trace.Then}
use Rattle.xa_model.proofs.Invariant.{AnswerFact, HasBegun, HeuristicFact, Inv, IsHeuristic, IsOlder}
use Rattle.xa_model.proofs.Invariant.Now.{begun_or_older, older_not_started}
use Rattle.xa_model.proofs.Invariant.Lines.{NewTaken, NewTaken.Now, NewTaken.Was, taken_back}
use Rattle.xa_base.proofs.Lists.{get_none}
use Rattle.xa_model.proofs.Invariant.Preservation.{never_found, run_always}
use Rattle.xa_log.specs.Contract.{FitsRow}
use Rattle.xa_tm.specs.Answering.{FitsRecord, IsAnswerTo, branch_asked}
use Rattle.xa_tm.specs.Limits.{IsWithinLimits}
use Rattle.xa_tm.specs.News.{Asked, heuristic_end, news_to}
use Rattle.xa_tm.proofs.History.Limits.{old_fits, started_fits}

-- ** codes

-- what is called on a branch is answered by a code
abbrev IsGiven : Call → Answer → Type 0
IsGiven (Calls.Recover n s e) a = Unit
IsGiven c a = (code : Code) × (a ≡ Ret code)

rightly_given : (tr : Trace) (l : Line) (c : Call) (a : Answer) → SoundAnswer tr l c a → IsGiven c a
rightly_given tr l (Calls.Recover n s e) a r = tt
rightly_given tr l _ a r = (_, r)

given : (tr : Trace) (l : Line) (k : ℕ) (c : Call) (a : Answer) → IsRun tr → slice_get (taken tr l) k ≡ Some (c, a) → IsGiven c a
given (From o) l k c a r h = absurd (get_none k (c, a) h)
given (Then tr e) l k c a r h = by (taken_back tr e l k c a h) (λ p. given tr l k c a r.0 p)
  where
    by : NewTaken tr e l k c a → (slice_get (taken tr l) k ≡ Some (c, a) → IsGiven c a) → IsGiven c a
    by (Was p) before = before p
    by (Now q) before = let took : Right tr (Took l c a) = subst (Right tr) q r.1 in rightly_given tr l c a took.1

-- a page answers no call on a branch
no_page : (names : List Name) (call : Branch → Call) (c : Call) (o : Option Branch)
    → ((b : Branch) → IsGiven (call b) (Page names) → ⊥) → option_map call o ≡ Some c → IsGiven c (Page names) → ⊥
no_page names call c (Some b) none e g = let is : call b ≡ c = cc in none b (subst (λ d. IsGiven d (Page names)) (sym is) g)
no_page names call c None none e g = cc

not_code : (names : List Name) → (code : Code) × (Page names ≡ Ret code) → ⊥
not_code names w = let e = w.1 in cc

codes : (asked : Asked) (c : Call) (a : Answer) → accepted asked ≡ Some c → IsGiven c a → IsAnswerTo asked a
codes asked c (Ret code) e g = tt
codes Calls.OpenRm c (Page names) e g = tt
codes Calls.CloseRm c (Page names) e g = tt
codes (Calls.Recover n s t) c (Page names) e g = tt
codes (Calls.Start x join) c (Page names) e g = no_page names (λ b. Calls.Start b join) c (ours_of x) (λ b w. not_code names w) e g
codes (Calls.End x fail) c (Page names) e g = no_page names (λ b. Calls.End b fail) c (ours_of x) (λ b w. not_code names w) e g
codes (Calls.Prepare x) c (Page names) e g = no_page names Calls.Prepare c (ours_of x) (λ b w. not_code names w) e g
codes (Calls.Commit x one) c (Page names) e g = no_page names (λ b. Calls.Commit b one) c (ours_of x) (λ b w. not_code names w) e g
codes (Calls.Rollback x) c (Page names) e g = no_page names Calls.Rollback c (ours_of x) (λ b w. not_code names w) e g
codes (Calls.Forget x) c (Page names) e g = no_page names Calls.Forget c (ours_of x) (λ b w. not_code names w) e g

pub answer_is_code : (tr : Trace) (l : Line) (c : Call) (a : Answer) (asked : Asked) → IsRun tr
    → next_answer tr l ≡ Some (c, a) → accepted asked ≡ Some c → IsAnswerTo asked a
answer_is_code tr l c a asked r next e = codes asked c a e (given tr l (length (heard tr l)) c a r next)

-- ** records

heuristic_begun : (how : How) (f : Standing) → IsHeuristic how f → HasBegun f
heuristic_begun how (Completed k) h = tt
heuristic_begun how (Forgotten k) h = tt
heuristic_begun how _ h = absurd h

module _ (tr : Trace) (limits : IsWithinLimits tr) where
  branch_fits : (b : Branch) (how : How) → HeuristicFact tr b how → FitsRow b.gtrid
  branch_fits b how fact =
      (old_fits tr b.gtrid fact.closed.old limits.fits, by_start (begun_or_older tr b inv (heuristic_begun how (standing tr b) fact.heuristic)))
    where
      inv : Inv tr
      inv = run_always tr limits.right

      not_there : IsOlder tr b → (held_of (origin tr) b).standing ≡ Unstarted → (t : Bool) → started tr b ≡ t → ⊥
      not_there o u true s = older_not_started tr b inv o s
      not_there o u false s = subst (IsHeuristic how) (never_found tr b limits.right u s) fact.heuristic

      by_found : IsOlder tr b → ((held_of (origin tr) b).standing ≡ Unstarted) ⊎ (b.gtrid.sequence ≤ last_number) → b.gtrid.sequence ≤ last_number
      by_found o (inl u) = absurd (not_there o u (started tr b) refl)
      by_found o (inr n) = n

      by_start : (started tr b ≡ true) ⊎ IsOlder tr b → b.gtrid.sequence ≤ last_number
      by_start (inl s) = let few = started_fits tr b s limits.right in let events = limits.events in omega (arith, few, events)
      by_start (inr o) = by_found o (limits.found b)

  committed_fits : (one : Bool) (b : Branch) (code : Code) → IsSome (heuristic_end code) → AnswerFact tr (Calls.Commit b one) (Ret code) → FitsRow b.gtrid
  committed_fits false b (Codes.Heuristic how) h fact = branch_fits b how fact
  committed_fits true b (Codes.Heuristic how) h fact = branch_fits b how fact
  committed_fits one b _ h fact = absurd (cc)

  rolled_back_fits : (b : Branch) (code : Code) → IsSome (heuristic_end code) → AnswerFact tr (Calls.Rollback b) (Ret code) → FitsRow b.gtrid
  rolled_back_fits b (Codes.Heuristic how) h fact = branch_fits b how fact
  rolled_back_fits b _ h fact = absurd (cc)

  fits : (asked : Asked) (c : Call) (code : Code) → accepted asked ≡ Some c → AnswerFact tr c (Ret code) → (b : Branch)
      → branch_asked asked ≡ Some b → IsSome (news_to asked code).how → FitsRow b.gtrid
  fits (Calls.Commit (Ours d) false) c code e fact b is h =
      let call : Calls.Commit d false ≡ c = cc in
      let same : d ≡ b = cc in
      subst (λ (x : Branch). FitsRow x.gtrid) same (committed_fits false d code h (subst (λ x. AnswerFact tr x (Ret code)) (sym call) fact))
  fits (Calls.Commit (Ours d) true) c code e fact b is h =
      let call : Calls.Commit d true ≡ c = cc in
      let same : d ≡ b = cc in
      subst (λ (x : Branch). FitsRow x.gtrid) same (committed_fits true d code h (subst (λ x. AnswerFact tr x (Ret code)) (sym call) fact))
  fits (Calls.Rollback (Ours d)) c code e fact b is h =
      let call : Calls.Rollback d ≡ c = cc in
      let same : d ≡ b = cc in
      subst (λ (x : Branch). FitsRow x.gtrid) same (rolled_back_fits d code h (subst (λ x. AnswerFact tr x (Ret code)) (sym call) fact))
  fits (Calls.Commit (Foreign x) one) c code e fact b is h = absurd (cc)
  fits (Calls.Rollback (Foreign x)) c code e fact b is h = absurd (cc)
  fits (Calls.Start x false) c code e fact b is h = absurd (cc)
  fits (Calls.Start x true) c code e fact b is h = absurd (cc)
  fits (Calls.End x fail) c code e fact b is h = absurd (cc)
  fits (Calls.Prepare x) c code e fact b is h = absurd (cc)
  fits (Calls.Forget x) c code e fact b is h = absurd (cc)
  fits Calls.OpenRm c code e fact b is h = absurd (cc)
  fits Calls.CloseRm c code e fact b is h = absurd (cc)
  fits (Calls.Recover n s t) c code e fact b is h = absurd (cc)

  pub record_fits : (l : Line) (c : Call) (a : Answer) (asked : Asked) → next_answer tr l ≡ Some (c, a) → accepted asked ≡ Some c → FitsRecord asked a
  record_fits l c (Page names) asked next e = tt
  record_fits l c (Ret code) asked next e = fits asked c code e ((run_always tr limits.right).answered l (length (heard tr l)) c (Ret code) next)
