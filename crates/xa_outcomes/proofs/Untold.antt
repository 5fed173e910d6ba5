-- A right history that leaves the branches where they stand, and what in it wasn't told:
-- `LeavesThere` of `xa_monitor`, with that part of it.
use Rattle.std.proofs.Common.{◌≡◌, ◌+◌, ℕ, List, [], ◌∷◌, ◌++◌, length, Bool, true, false, refl, sym, ap, ◌∙◌, subst, arith}
use Rattle.std.proofs.lemmas.Bool.{or_parts}
use Rattle.std.proofs.lemmas.List.{append-nil}
use Rattle.std.specs.Prelude.{if◌then◌else◌, Option, Some, None, slice_get}
use Rattle.xa_base.proofs.BranchKeys.{branch_eq-refl, branch_eq-true}
use Rattle.xa_base.specs.Branch.{branch_eq}
use Rattle.xa_base.specs.StateTable.{Kind, asks_of, broken, completed}
use Rattle.xa_base.specs.declared.answer.Answer.TheVariants.{Ret}
use Rattle.xa_base.specs.declared.call.Call.TheVariants as Calls
use Rattle.xa_base.specs.declared.code.Code.TheVariants as Codes
use Rattle.xa_base.specs.declared.state.Standing.{Standing}
use Rattle.xa_base.specs.declared.state.Standing.TheVariants.{Completed, Prepared}
use Rattle.xa_model.specs.Facts.{held_of, issued, next_call, standing, taken}
use Rattle.xa_model.specs.Facts.Standings.{moved_by}
use Rattle.xa_model.specs.Protocol.{OldOrigin, SoundAnswer}
use Rattle.xa_model.specs.Trace.{Answer, Branch, Call, Happening.CompletedAlone, Happening.PutOff, Happening.Took, Happening.Voted, How, Line, Origin, Trace, Trace.Then, line_eq, line_of}
use Rattle.xa_monitor.proofs.Books.{same_alone, same_books, same_step}
use Rattle.xa_monitor.proofs.Choices.{from_start}
use Rattle.xa_monitor.proofs.RunSteps.{broken_named, taken_named}
use Rattle.xa_monitor.proofs.Taken.{IsKept, IsOtherThan, TakenThere, alone_runs, retries_kept, same_lines, taken_there}
use Rattle.xa_monitor.proofs.UntoldCalls.{LeavesThere, alone_calls, as_told, ended_named, first_at, one_if, taken_calls}
use Rattle.xa_monitor.specs.Agreement.{MayAllStand, MayAllStand.AsTold, MayAllStand.CutOff, MayAllStand.EndedAlone, MayAllStand.UnderWay, IsLineOf, WaitsAt, WasDone, waiting_call_at, is_line_among, times}
use Rattle.xa_monitor.specs.Seen.{Alone, Alone.Ends, Alone.NoMore as AloneNoMore, Alone.PutsOff, Alone.Votes, KeepsRules, Seen, break_of}
use Rattle.xa_monitor.specs.Standings.{Comes, ExplainsAsked, ExplainsIf}
use Rattle.xa_outcomes.specs.Parts.{GoesOnUntold, GoesOnUntold.Goes, GoesOnUntold.NoMore}

-- it leaves the branches there, and after what was told only such happened as isn't told
pub record LeavesUntold (o : Origin) (seen : Seen) (Start : Origin → Type 0) (done cut : List Line) (f : Branch → Standing) : Type 0 where
  pub left : LeavesThere o seen Start done cut f
  pub untold : GoesOnUntold left.told left.now

alone_untold : (told tr now : Trace) → Alone tr now → GoesOnUntold told tr → GoesOnUntold told now
alone_untold told tr _ AloneNoMore u = u
alone_untold told tr _ (Votes now b v a) u = Goes now (Voted b v) tt (alone_untold told tr now a u)
alone_untold told tr _ (PutsOff now b n a) u = Goes now (PutOff b n) tt (alone_untold told tr now a u)
alone_untold told tr _ (Ends now b how a p) u = Goes now (CompletedAlone b how) tt (alone_untold told tr now a u)

broken_other : (tr : Trace) (l m : Line) (n : ℕ) → line_eq l m ≡ false → waiting_call_at (Then tr (break_of l)) m n ≡ waiting_call_at tr m n
broken_other tr l m n apart =
    ap (λ t. slice_get (if t then [] else issued tr m ++ []) (length (if t then [] else taken tr m ++ []) + n)) apart
    ∙ (ap (λ xs. slice_get xs (length (taken tr m ++ []) + n)) (append-nil (issued tr m))
    ∙ ap (λ xs. slice_get (issued tr m) (length xs + n)) (append-nil (taken tr m)))

none_more : (n : ℕ) → n + 0 ≡ n
none_more n = omega arith

module _ (o : Origin) (seen : Seen) (Start : Origin → Type 0) (done cut : List Line) (from to : Branch → Standing)
    (u : LeavesUntold o seen Start done cut from) where
  abbrev r : LeavesThere o seen Start done cut from
  r = u.left

  -- the call that waits next on a line was done, and so answered
  was_taken : (l : Line) (c : Call) (a : Answer) (now : Trace) → IsLineOf o l → is_line_among cut l ≡ false → WaitsAt o seen l (times done l) (Some c)
      → Alone r.now now → SoundAnswer now l c a → ((b : Branch) → standing (Then now (Took l c a)) b ≡ to b)
      → ((b : Branch) → IsOtherThan c b → IsKept r.now (Then now (Took l c a)) b) → LeavesUntold o seen Start (l ∷ done) cut to
  was_taken l c a now has uncut waits alone sound there kept = record {
    left = record {
      told = r.told;
      is_history = r.is_history;
      told_runs = r.told_runs;
      now = Then now (Took l c a);
      runs = (alone_runs r.now now alone r.runs, (next, sound));
      start = subst Start (sym (same_lines r.now now alone).start) r.start;
      calls = calls_so;
      there = there;
      same = same_step now r.told (Took l c a) tt (same_alone r.now now r.told alone r.same);
      named = λ n each. taken_named r.now (Then now (Took l c a)) c (each l (times done l) c has waited) kept (r.named n each);
    };
    untold = Goes now (Took l c a) tt (alone_untold r.told r.now now alone u.untold);
  }
    where
      waited : waiting_call_at r.told l (times done l) ≡ Some c
      waited = waits r.told r.is_history r.told_runs

      next : next_call now l ≡ Some c
      next = first_at now l ∙ (alone_calls r.now now l 0 alone ∙ (r.calls l 0 uncut ∙ (ap (waiting_call_at r.told l) (none_more (times done l)) ∙ waited)))

      one_more : (t : Bool) (m n : ℕ) → m + one_if t n ≡ one_if t m + n
      one_more true m n = omega arith
      one_more false m n = refl

      calls_so : (m : Line) (n : ℕ) → is_line_among cut m ≡ false
          → waiting_call_at (Then now (Took l c a)) m n ≡ waiting_call_at r.told m (times (l ∷ done) m + n)
      calls_so m n apart =
          taken_calls now l m c a n
          ∙ (alone_calls r.now now m (one_if (line_eq l m) n) alone
          ∙ (r.calls m (one_if (line_eq l m) n) apart ∙ ap (waiting_call_at r.told m) (one_more (line_eq l m) (times done m) n)))

  -- any call
  under_way : (l : Line) (c : Call) → IsLineOf o l → is_line_among cut l ≡ false → WaitsAt o seen l (times done l) (Some c) → WasDone c from to
      → LeavesUntold o seen Start (l ∷ done) cut to
  under_way l c has uncut waits was = by_asks (asks_of c) refl was.1
    where
      sound : (c : Call) → asks_of c ≡ None → SoundAnswer r.now l c (Ret Codes.Success)
      sound Calls.OpenRm e = refl
      sound Calls.CloseRm e = refl
      sound (Calls.Recover n s e) q = tt
      sound _ e = absurd (cc)

      by_asks : (x : Option (Kind × Branch)) → asks_of c ≡ x → ((b : Branch) → ExplainsAsked x was.0 b (from b) (to b))
          → LeavesUntold o seen Start (l ∷ done) cut to
      by_asks None asks takes =
          was_taken l c (Ret Codes.Success) r.now has uncut waits AloneNoMore (sound c asks)
          (λ b. ap (λ x. moved_by x Codes.Success b (standing r.now b)) asks ∙ (r.there b ∙ sym (takes b)))
          (λ b other. record {
            stands = ap (λ x. moved_by x Codes.Success b (standing r.now b)) asks;
            votes = refl;
            retries_are = retries_kept r.now l c (Ret Codes.Success) b other;
          })
      by_asks (Some (k, d)) asks takes = was_taken l c (Ret was.0) t.now has uncut waits t.alone t.sound t.there t.kept
        where
          t : TakenThere r.now l c was.0 to
          t = taken_there r.now l c was.0 k d from to asks r.there
              (subst (λ z. ExplainsIf z (from d) k was.0 (to d)) (branch_eq-refl d) (takes d))
              (λ b n. subst (λ z. ExplainsIf z (from b) k was.0 (to b)) n (takes b))

  -- a line is cut off
  cut_off : (l : Line) → ((b : Branch) → to b ≡ (if line_eq l (line_of b) then broken (from b) else from b)) → LeavesUntold o seen Start done (l ∷ cut) to
  cut_off l final = record {
    left = record {
      told = r.told;
      is_history = r.is_history;
      told_runs = r.told_runs;
      now = Then r.now (break_of l);
      runs = (r.runs, tt);
      start = r.start;
      calls = λ m n apart.
          let parts = or_parts (line_eq l m) (is_line_among cut m) apart in
          broken_other r.now l m n parts.0 ∙ r.calls m n parts.1;
      there = λ b. ap (λ s. if line_eq l (line_of b) then broken s else s) (r.there b) ∙ sym (final b);
      same = same_step r.now r.told (break_of l) tt r.same;
      named = λ n each. broken_named r.now l (r.named n each);
    };
    untold = Goes r.now (break_of l) tt u.untold;
  }

  -- a prepared branch was ended by its database alone
  ended_alone : (d : Branch) (how : How) → from d ≡ Prepared → ((b : Branch) → to b ≡ (if branch_eq d b then Completed how else from b))
      → LeavesUntold o seen Start done cut to
  ended_alone d how was final = record {
    left = record {
      told = r.told;
      is_history = r.is_history;
      told_runs = r.told_runs;
      now = Then r.now (CompletedAlone d how);
      runs = (r.runs, prepared);
      start = r.start;
      calls = λ m n apart. alone_calls r.now (Then r.now (CompletedAlone d how)) m n (Ends r.now d how AloneNoMore prepared) ∙ r.calls m n apart;
      there = λ b. by_test b (branch_eq d b) refl ∙ sym (final b);
      same = same_step r.now r.told (CompletedAlone d how) tt r.same;
      named = λ n each. ended_named r.now d how (r.named n each);
    };
    untold = Goes r.now (CompletedAlone d how) tt u.untold;
  }
    where
      prepared : standing r.now d ≡ Prepared
      prepared = r.there d ∙ was

      by_test : (b : Branch) (t : Bool) → branch_eq d b ≡ t
          → (if branch_eq d b then completed (standing r.now b) how else standing r.now b) ≡ (if branch_eq d b then Completed how else from b)
      by_test b true e =
          ap (λ t. if t then completed (standing r.now b) how else standing r.now b) e
          ∙ (subst (λ z. completed (standing r.now z) how ≡ Completed how) (branch_eq-true d b e) (ap (λ s. completed s how) prepared)
          ∙ sym (ap (λ t. if t then Completed how else from b) e))
      by_test b false e =
          ap (λ t. if t then completed (standing r.now b) how else standing r.now b) e
          ∙ (r.there b ∙ sym (ap (λ t. if t then Completed how else from b) e))

-- all of that, where it is known how each branch stood at the start
module _ (o : Origin) (seen : Seen) (old : OldOrigin o) (keeps : KeepsRules o seen) where
  as_it_was : (f : Branch → Standing) → ((b : Branch) → Comes seen b (held_of o b).standing (f b)) → LeavesUntold o seen (λ p. p ≡ o) [] [] f
  as_it_was f may =
      let x = from_start o seen old keeps f may in
      record {
        left = record {
          told = x.whole.history;
          is_history = x.whole.is_history;
          told_runs = x.whole.runs;
          now = x.whole.history;
          runs = x.whole.runs;
          start = x.start;
          calls = λ l n uncut. as_told x.whole.history l n;
          there = x.there;
          same = same_books x.whole.history;
          named = λ n first. x.named n;
        };
        untold = NoMore;
      }

  pub leaves_untold : (done cut : List Line) (f : Branch → Standing) → MayAllStand o seen (λ b. Comes seen b (held_of o b).standing) done cut f
      → LeavesUntold o seen (λ p. p ≡ o) done cut f
  leaves_untold _ _ _ (AsTold f may) = as_it_was f may
  leaves_untold _ _ _ (UnderWay done cut from to l c may has uncut waits was) =
      under_way o seen (λ p. p ≡ o) done cut from to (leaves_untold done cut from may) l c has uncut waits was
  leaves_untold _ _ _ (CutOff done cut from to l may final) = cut_off o seen (λ p. p ≡ o) done cut from to (leaves_untold done cut from may) l final
  leaves_untold _ _ _ (EndedAlone done cut from to d how may was final) =
      ended_alone o seen (λ p. p ≡ o) done cut from to (leaves_untold done cut from may) d how was final
