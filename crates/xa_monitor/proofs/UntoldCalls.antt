-- Calls that were done and not yet reported: what waits, and a right history that leaves the branches there.
use Rattle.std.proofs.Common.{◌≡◌, ◌+◌, ℕ, suc, List, [], ◌∷◌, ◌++◌, length, length-append, Bool, true, false, refl, sym, ap, ◌∙◌, subst, arith}
use Rattle.std.proofs.lemmas.List.{append-nil}
use Rattle.std.proofs.lemmas.Bool.{or_parts}
use Rattle.std.specs.Prelude.{if◌then◌else◌, Option, Some, None, slice_get}
use Rattle.xa_base.proofs.BranchKeys.{branch_eq-refl, branch_eq-true}
use Rattle.xa_base.specs.Branch.{branch_eq}
use Rattle.xa_base.specs.StateTable.{Kind, asks_of, broken, completed}
use Rattle.xa_base.specs.declared.answer.Answer.TheVariants.{Ret}
use Rattle.xa_base.specs.declared.call.Call.TheVariants as Calls
use Rattle.xa_base.specs.declared.code.Code.TheVariants as Codes
use Rattle.xa_base.specs.declared.state.Standing.{Standing}
use Rattle.xa_base.specs.declared.state.Standing.TheVariants.{Completed, Prepared, Unstarted}
use Rattle.xa_model.specs.Facts.{issued, next_call, origin, standing, taken}
use Rattle.xa_model.specs.Facts.Standings.{moved_by}
use Rattle.xa_model.specs.Promises.Processes.{AllAreNamed}
use Rattle.xa_model.specs.Protocol.{IsRun, SoundAnswer}
use Rattle.xa_model.specs.Trace.{Answer, Branch, Call, Happening.CompletedAlone, Happening.Heard, Happening.Took, How, Line, Origin, Trace, Trace.Then, line_eq, line_of}
use Rattle.xa_monitor.specs.Agreement.{MayAllStand, MayAllStand.AsTold, MayAllStand.CutOff, MayAllStand.EndedAlone, MayAllStand.UnderWay, IsLineOf, WaitsAt, WasDone, waiting_call_at, is_line_among, times}
use Rattle.xa_monitor.specs.Named.{IsNamedCall}
use Rattle.xa_monitor.specs.Seen.{Alone, Alone.Ends, Alone.NoMore, IsHistory, Seen, break_of}
use Rattle.xa_monitor.specs.Standings.{ExplainsAsked, ExplainsIf}
use Rattle.xa_monitor.proofs.Books.{SameBooks, same_alone, same_step}
use Rattle.xa_monitor.proofs.RunSteps.{broken_named, taken_named}
use Rattle.xa_monitor.proofs.Names.{AreNamed}
use Rattle.xa_monitor.proofs.Taken.{IsKept, IsOtherThan, TakenThere, alone_runs, retries_kept, same_lines, taken_there}

-- ** calls that wait

-- what waits on a line waits on, where a call is taken on another
taken_other : (tr : Trace) (l m : Line) (c : Call) (a : Answer) (n : ℕ) → line_eq l m ≡ false
    → waiting_call_at (Then tr (Took l c a)) m n ≡ waiting_call_at tr m n
taken_other tr l m c a n apart =
    ap (λ xs. slice_get xs (length (taken tr m ++ (if line_eq l m then (c, a) ∷ [] else [])) + n)) (append-nil (issued tr m))
    ∙ ap (λ xs. slice_get (issued tr m) (length xs + n)) (ap (λ t. taken tr m ++ (if t then (c, a) ∷ [] else [])) apart ∙ append-nil (taken tr m))

one_longer : {X : Type 0} (xs : List X) (x : X) (n : ℕ) → length (xs ++ x ∷ []) + n ≡ length xs + suc n
one_longer xs x n = omega (arith, length-append xs (x ∷ []))

-- and moves up by one, where one is taken on this
pub taken_here : (tr : Trace) (l m : Line) (c : Call) (a : Answer) (n : ℕ) → line_eq l m ≡ true
    → waiting_call_at (Then tr (Took l c a)) m n ≡ waiting_call_at tr m (suc n)
taken_here tr l m c a n same =
    ap (λ xs. slice_get xs (length (taken tr m ++ (if line_eq l m then (c, a) ∷ [] else [])) + n)) (append-nil (issued tr m))
    ∙ ap (slice_get (issued tr m)) (ap (λ t. length (taken tr m ++ (if t then (c, a) ∷ [] else [])) + n) same ∙ one_longer (taken tr m) (c, a) n)

-- so many calls were taken
abbrev pub one_if : Bool → ℕ → ℕ
one_if t n = if t then suc n else n

pub taken_calls : (tr : Trace) (l m : Line) (c : Call) (a : Answer) (n : ℕ)
    → waiting_call_at (Then tr (Took l c a)) m n ≡ waiting_call_at tr m (one_if (line_eq l m) n)
taken_calls tr l m c a n = by (line_eq l m) refl
  where
    by : (t : Bool) → line_eq l m ≡ t → waiting_call_at (Then tr (Took l c a)) m n ≡ waiting_call_at tr m (one_if t n)
    by true e = taken_here tr l m c a n e
    by false e = taken_other tr l m c a n e

-- that an answer is heard is nothing to it
pub heard_calls : (tr : Trace) (l m : Line) (c : Call) (a : Answer) (n : ℕ) → waiting_call_at (Then tr (Heard l c a)) m n ≡ waiting_call_at tr m n
heard_calls tr l m c a n =
    ap (λ xs. slice_get xs (length (taken tr m ++ []) + n)) (append-nil (issued tr m))
    ∙ ap (λ xs. slice_get (issued tr m) (length xs + n)) (append-nil (taken tr m))

-- nor is what resource managers do by themselves
pub alone_calls : (tr now : Trace) (l : Line) (n : ℕ) → Alone tr now → waiting_call_at now l n ≡ waiting_call_at tr l n
alone_calls tr now l n alone =
    let s = same_lines tr now alone in
    ap (λ xs. slice_get xs (length (taken now l) + n)) (s.calls l) ∙ ap (λ xs. slice_get (issued tr l) (length xs + n)) (s.taken_are l)

-- nor is another line that breaks
broken_other : (tr : Trace) (l m : Line) (n : ℕ) → line_eq l m ≡ false → waiting_call_at (Then tr (break_of l)) m n ≡ waiting_call_at tr m n
broken_other tr l m n apart =
    ap (λ t. slice_get (if t then [] else issued tr m ++ []) (length (if t then [] else taken tr m ++ []) + n)) apart
    ∙ (ap (λ xs. slice_get xs (length (taken tr m ++ []) + n)) (append-nil (issued tr m))
    ∙ ap (λ xs. slice_get (issued tr m) (length xs + n)) (append-nil (taken tr m)))

none_more : (n : ℕ) → n + 0 ≡ n
none_more n = omega arith

-- the call that waits first
pub first_at : (tr : Trace) (l : Line) → next_call tr l ≡ waiting_call_at tr l 0
first_at tr l = ap (slice_get (issued tr l)) (sym (none_more (length (taken tr l))))

-- ** what wasn't told yet

pub ended_named : (tr : Trace) (d : Branch) (how : How) → AllAreNamed tr → AllAreNamed (Then tr (CompletedAlone d how))
ended_named tr d how named b unfit = let n = named b unfit in (by_test (branch_eq d b) (standing tr b) n.0, n.1, n.2)
  where
    by_test : (t : Bool) (s : Standing) → s ≡ Unstarted → (if t then completed s how else s) ≡ Unstarted
    by_test true s e = ap (λ x. completed x how) e
    by_test false s e = e

-- a right history leaves the branches there. On lines that weren't cut off what waits is what waited as all was told, but for what was done
pub record LeavesThere (o : Origin) (seen : Seen) (Start : Origin → Type 0) (done cut : List Line) (f : Branch → Standing) : Type 0 where
  pub told : Trace
  pub is_history : IsHistory o seen told
  pub told_runs : IsRun told
  pub now : Trace
  pub runs : IsRun now
  pub start : Start (origin now)
  pub calls : (l : Line) (n : ℕ) → is_line_among cut l ≡ false → waiting_call_at now l n ≡ waiting_call_at told l (times done l + n)
  pub there : (b : Branch) → standing now b ≡ f b
  pub same : SameBooks now told
  pub named : AreNamed seen → ((l : Line) (n : ℕ) (c : Call) → IsLineOf o l → waiting_call_at told l n ≡ Some c → IsNamedCall c) → AllAreNamed now

-- nothing was done yet
pub as_told : (tr : Trace) (l : Line) (n : ℕ) → waiting_call_at tr l n ≡ waiting_call_at tr l (times [] l + n)
as_told tr l n = ap (waiting_call_at tr l) (let same : n ≡ 0 + n = omega arith in same)

module _ (o : Origin) (seen : Seen) (Start : Origin → Type 0) (done cut : List Line) (from to : Branch → Standing)
    (r : LeavesThere o seen Start done cut from) where
  -- the call that waits next on a line was done, and so answered
  was_taken : (l : Line) (c : Call) (a : Answer) (now : Trace) → IsLineOf o l → is_line_among cut l ≡ false → WaitsAt o seen l (times done l) (Some c)
      → Alone r.now now → SoundAnswer now l c a → ((b : Branch) → standing (Then now (Took l c a)) b ≡ to b)
      → ((b : Branch) → IsOtherThan c b → IsKept r.now (Then now (Took l c a)) b) → LeavesThere o seen Start (l ∷ done) cut to
  was_taken l c a now has uncut waits alone sound there kept = record {
    told = r.told;
    is_history = r.is_history;
    told_runs = r.told_runs;
    now = Then now (Took l c a);
    runs = (alone_runs r.now now alone r.runs, (next, sound));
    start = subst Start (sym (same_lines r.now now alone).start) r.start;
    calls = calls_so;
    there = there;
    same = same_step now r.told (Took l c a) tt (same_alone r.now now r.told alone r.same);
    named = λ n each. taken_named r.now (Then now (Took l c a)) c (each l (times done l) c has waited) kept (r.named n each);
  }
    where
      waited : waiting_call_at r.told l (times done l) ≡ Some c
      waited = waits r.told r.is_history r.told_runs

      next : next_call now l ≡ Some c
      next = first_at now l ∙ (alone_calls r.now now l 0 alone ∙ (r.calls l 0 uncut ∙ (ap (waiting_call_at r.told l) (none_more (times done l)) ∙ waited)))

      one_more : (t : Bool) (m n : ℕ) → m + one_if t n ≡ one_if t m + n
      one_more true m n = omega arith
      one_more false m n = refl

      calls_so : (m : Line) (n : ℕ) → is_line_among cut m ≡ false
          → waiting_call_at (Then now (Took l c a)) m n ≡ waiting_call_at r.told m (times (l ∷ done) m + n)
      calls_so m n apart =
          taken_calls now l m c a n
          ∙ (alone_calls r.now now m (one_if (line_eq l m) n) alone
          ∙ (r.calls m (one_if (line_eq l m) n) apart ∙ ap (waiting_call_at r.told m) (one_more (line_eq l m) (times done m) n)))

  -- any call
  under_way : (l : Line) (c : Call) → IsLineOf o l → is_line_among cut l ≡ false → WaitsAt o seen l (times done l) (Some c) → WasDone c from to
      → LeavesThere o seen Start (l ∷ done) cut to
  under_way l c has uncut waits was = by_asks (asks_of c) refl was.1
    where
      sound : (c : Call) → asks_of c ≡ None → SoundAnswer r.now l c (Ret Codes.Success)
      sound Calls.OpenRm e = refl
      sound Calls.CloseRm e = refl
      sound (Calls.Recover n s e) q = tt
      sound _ e = absurd (cc)

      by_asks : (x : Option (Kind × Branch)) → asks_of c ≡ x → ((b : Branch) → ExplainsAsked x was.0 b (from b) (to b))
          → LeavesThere o seen Start (l ∷ done) cut to
      by_asks None asks takes =
          was_taken l c (Ret Codes.Success) r.now has uncut waits NoMore (sound c asks)
          (λ b. ap (λ x. moved_by x Codes.Success b (standing r.now b)) asks ∙ (r.there b ∙ sym (takes b)))
          (λ b other. record {
            stands = ap (λ x. moved_by x Codes.Success b (standing r.now b)) asks;
            votes = refl;
            retries_are = retries_kept r.now l c (Ret Codes.Success) b other;
          })
      by_asks (Some (k, d)) asks takes = was_taken l c (Ret was.0) t.now has uncut waits t.alone t.sound t.there t.kept
        where
          t : TakenThere r.now l c was.0 to
          t = taken_there r.now l c was.0 k d from to asks r.there
              (subst (λ z. ExplainsIf z (from d) k was.0 (to d)) (branch_eq-refl d) (takes d))
              (λ b n. subst (λ z. ExplainsIf z (from b) k was.0 (to b)) n (takes b))

  -- a line is cut off
  cut_off : (l : Line) → ((b : Branch) → to b ≡ (if line_eq l (line_of b) then broken (from b) else from b)) → LeavesThere o seen Start done (l ∷ cut) to
  cut_off l final = record {
    told = r.told;
    is_history = r.is_history;
    told_runs = r.told_runs;
    now = Then r.now (break_of l);
    runs = (r.runs, tt);
    start = r.start;
    calls = λ m n apart.
        let parts = or_parts (line_eq l m) (is_line_among cut m) apart in
        broken_other r.now l m n parts.0 ∙ r.calls m n parts.1;
    there = λ b. ap (λ s. if line_eq l (line_of b) then broken s else s) (r.there b) ∙ sym (final b);
    same = same_step r.now r.told (break_of l) tt r.same;
    named = λ n each. broken_named r.now l (r.named n each);
  }

  -- a prepared branch was ended by its database alone
  ended_alone : (d : Branch) (how : How) → from d ≡ Prepared → ((b : Branch) → to b ≡ (if branch_eq d b then Completed how else from b))
      → LeavesThere o seen Start done cut to
  ended_alone d how was final = record {
    told = r.told;
    is_history = r.is_history;
    told_runs = r.told_runs;
    now = Then r.now (CompletedAlone d how);
    runs = (r.runs, prepared);
    start = r.start;
    calls = λ m n apart. alone_calls r.now (Then r.now (CompletedAlone d how)) m n (Ends r.now d how NoMore prepared) ∙ r.calls m n apart;
    there = λ b. by_test b (branch_eq d b) refl ∙ sym (final b);
    same = same_step r.now r.told (CompletedAlone d how) tt r.same;
    named = λ n each. ended_named r.now d how (r.named n each);
  }
    where
      prepared : standing r.now d ≡ Prepared
      prepared = r.there d ∙ was

      by_test : (b : Branch) (t : Bool) → branch_eq d b ≡ t
          → (if branch_eq d b then completed (standing r.now b) how else standing r.now b) ≡ (if branch_eq d b then Completed how else from b)
      by_test b true e =
          ap (λ t. if t then completed (standing r.now b) how else standing r.now b) e
          ∙ (subst (λ z. completed (standing r.now z) how ≡ Completed how) (branch_eq-true d b e) (ap (λ s. completed s how) prepared)
          ∙ sym (ap (λ t. if t then Completed how else from b) e))
      by_test b false e =
          ap (λ t. if t then completed (standing r.now b) how else standing r.now b) e
          ∙ (r.there b ∙ sym (ap (λ t. if t then Completed how else from b) e))

-- all of that
pub leaves_there : (o : Origin) (seen : Seen) (Start : Origin → Type 0) (Told : Branch → Standing → Type 0)
    → ((f : Branch → Standing) → ((b : Branch) → Told b (f b)) → LeavesThere o seen Start [] [] f)
    → (done cut : List Line) (f : Branch → Standing) → MayAllStand o seen Told done cut f → LeavesThere o seen Start done cut f
leaves_there o seen Start Told told _ _ _ (AsTold f may) = told f may
leaves_there o seen Start Told told _ _ _ (UnderWay done cut from to l c may has uncut waits was) =
    under_way o seen Start done cut from to (leaves_there o seen Start Told told done cut from may) l c has uncut waits was
leaves_there o seen Start Told told _ _ _ (CutOff done cut from to l may final) =
    cut_off o seen Start done cut from to (leaves_there o seen Start Told told done cut from may) l final
leaves_there o seen Start Told told _ _ _ (EndedAlone done cut from to d how may was final) =
    ended_alone o seen Start done cut from to (leaves_there o seen Start Told told done cut from may) d how was final
