-- A history that leaves each branch at a given standing goes on with what was seen.
use Rattle.std.proofs.Common.{◌≡◌, ℕ, List, Bool, true, false, ◌&&◌, ◌<◌, ◌⊎◌, refl, sym, ap, ◌∙◌, subst}
use Rattle.std.proofs.lemmas.Bool.{eq-eqb}
use Rattle.std.specs.Prelude.{if◌then◌else◌, Option, Some, None}
use mathlib.Core.Logic.{◌⊎◌.inl, ◌⊎◌.inr}
use Rattle.xa_base.proofs.BranchKeys.{branch_eq-refl, branch_eq-true}
use Rattle.xa_base.specs.Branch.{branch_eq, xid_of_branch}
use Rattle.xa_base.specs.HeldBranch.{HeldBranch, new_branch}
use Rattle.xa_base.specs.Standing.{is_in_doubt}
use Rattle.xa_base.specs.StateTable.{Kind, asks_of, broken}
use Rattle.xa_base.specs.Xid.{Xid}
use Rattle.xa_base.specs.declared.answer.Answer.TheVariants.{Page, Ret}
use Rattle.xa_base.specs.declared.call.Call.TheVariants as Calls
use Rattle.xa_base.specs.declared.state.Standing.{Standing}
use Rattle.xa_base.specs.declared.state.Standing.TheVariants.{Unstarted}
use Rattle.xa_base.specs.declared.vote.Vote.TheVariants.{Yes}
use Rattle.xa_model.proofs.NameLemmas.OwnNames.{own_name}
use Rattle.xa_model.proofs.ProcessLemmas.Leaving.{fits_branch}
use Rattle.xa_model.specs.Facts.{fits, held_of, next_call, origin, standing}
use Rattle.xa_model.specs.Promises.Processes.{AllAreNamed}
use Rattle.xa_model.specs.Facts.InDoubt.{is_in_doubt_at, name_of}
use Rattle.xa_model.specs.Facts.Standings.{moved_by, standing_after}
use Rattle.xa_model.specs.Protocol.{IsRun, Lists, SoundAnswer}
use Rattle.xa_model.specs.Trace.{Answer, Branch, Call, Code, Happening, Happening.Begun, Happening.Claimed, Happening.Decided, Happening.Done, Happening.Heard, Happening.Issued, Happening.Nothing, Happening.Resolved, Happening.ResolvedOpen, Happening.Took, Line, Name, Name.Foreign, Name.Ours, Origin, Trace, Trace.Then, line_eq, line_of}
use Rattle.xa_monitor.specs.Explained.{HasOnlyOlderRows, IsExplained}
use Rattle.xa_monitor.specs.Named.{IsNamedCall}
use Rattle.xa_monitor.specs.Seen.{Alone, Alone.NoMore, HasAnswer, IsHistory.Hears, IsHistory.Loses, IsHistory.LosesAnswer, IsHistory.Starts, IsManagers, Seen, Seen.Answered, Seen.Lost, Seen.Start, Waits, break_of, start_with}
use Rattle.xa_monitor.specs.Standings.{Explained, Explains, ExplainsAsked, ExplainsIf, MayBeFound}
use Rattle.xa_monitor.proofs.Names.{AreNamed}
use Rattle.xa_monitor.proofs.Taken.{IsKept, IsOtherThan, TakenThere, alone_runs, first_still, heard_next, retries_kept, same_lines, taken_there}

-- ** the start

-- a right history of what was seen, from this start, that leaves each branch there
pub record RunFrom (o first : Origin) (seen : Seen) (f : Branch → Standing) : Type 0 where
  pub whole : IsExplained o seen
  pub start : origin whole.history ≡ first
  pub there : (b : Branch) → standing whole.history b ≡ f b
  pub named : AreNamed seen → AllAreNamed whole.history

-- at a start none is held
pub none_named : (o : Origin) (held : ℕ → Xid → HeldBranch) → AllAreNamed (start_with o held)
none_named o held b unfit = (
  ap (λ t. (if t then held b.rm (xid_of_branch b) else new_branch).standing) unfit,
  ap (λ t. (if t then held b.rm (xid_of_branch b) else new_branch).vote) unfit,
  ap (λ t. (if t then held b.rm (xid_of_branch b) else new_branch).retries) unfit,
)

held_there : (Branch → Standing) → Name → HeldBranch
held_there f (Ours b) = record { standing = f b; starter = b.thread; vote = Yes; retries = 0 }
held_there f (Foreign x) = new_branch

found_there : (o : Origin) (f : Branch → Standing) (b : Branch) → MayBeFound o b (f b) → (t : Bool) → fits b ≡ t
    → (if t then held_there f (name_of (xid_of_branch b)) else new_branch).standing ≡ f b
unfolding held_there
found_there o f b may true e = ap (λ n. (held_there f n).standing) (own_name b (fits_branch b e))
found_there o f b (inl u) false e = sym u
found_there o f b (inr (g, lt, n)) false e = absurd (cc)

pub held_by : (Branch → Standing) → ℕ → Xid → HeldBranch
held_by f r x = held_there f (name_of x)

pub starts : (o : Origin) → HasOnlyOlderRows o → (f : Branch → Standing) → ((b : Branch) → MayBeFound o b (f b))
    → RunFrom o (record o { held = held_by f }) Start f
unfolding held_there held_by
starts o old f may = record {
  whole = record { history = start_with o (held_by f); is_history = Starts (held_by f); runs = is_old };
  start = refl;
  there = stands;
  named = λ n. none_named o (held_by f);
}
  where
    stands : (b : Branch) → standing (start_with o (held_by f)) b ≡ f b
    stands b = found_there o f b (may b) (fits b) refl

    is_old : IsRun (start_with o (held_by f))
    is_old = record {
      rows_old = old.rows_old;
      record_old = old.record_old;
      held_old = λ b. by_found b (may b);
    }
      where
        by_found : (b : Branch) → MayBeFound o b (f b)
            → ((held_of (record o { held = held_by f }) b).standing ≡ Unstarted) ⊎ (b.gtrid.incarnation < o.incarnation)
        by_found b (inl u) = inl (stands b ∙ u)
        by_found b (inr (g, lt, n)) = inr lt

-- ** what the manager did

pub stays : (tr : Trace) (e : Happening) → IsManagers e → (b : Branch) (f : Standing) → standing_after tr e b f ≡ f
stays tr (Begun g) m b f = refl
stays tr (Issued l c) m b f = refl
stays tr (Resolved r) m b f = refl
stays tr (ResolvedOpen r) m b f = refl
stays tr (Claimed g) m b f = refl
stays tr (Decided g outcome) m b f = refl
stays tr (Done g) m b f = refl
stays tr Nothing m b f = refl
stays tr _ m b f = absurd m

-- ** an answer

-- a branch without an identifier is none that a call asks something of
pub apart_from : (c : Call) (b : Branch) → IsNamedCall c → fits b ≡ false → IsOtherThan c b
apart_from c b named unfit k d asks = by_test (branch_eq d b) refl
  where
    clash : {t : Bool} → t ≡ true → t ≡ false → ⊥
    clash p q = cc

    by_test : (t : Bool) → branch_eq d b ≡ t → t ≡ false
    by_test true e = absurd (clash (subst (λ z. fits z ≡ true) (branch_eq-true d b e) (named k d asks)) unfit)
    by_test false e = refl

pub unstarted_still : (t : Bool) (f : Standing) → f ≡ Unstarted → (if t then broken f else f) ≡ Unstarted
unstarted_still true f e = ap broken e
unstarted_still false f e = e

-- what the manager does is nothing to them
pub did_named : (tr : Trace) (e : Happening) → IsManagers e → AllAreNamed tr → AllAreNamed (Then tr e)
did_named tr (Begun g) m named = named
did_named tr (Issued l c) m named = named
did_named tr (Resolved r) m named = named
did_named tr (ResolvedOpen r) m named = named
did_named tr (Claimed g) m named = named
did_named tr (Decided g outcome) m named = named
did_named tr (Done g) m named = named
did_named tr Nothing m named = named
did_named tr _ m named = absurd m

-- nor is a line that breaks
pub broken_named : (tr : Trace) (l : Line) → AllAreNamed tr → AllAreNamed (Then tr (break_of l))
broken_named tr l named b unfit = let n = named b unfit in (unstarted_still (line_eq l (line_of b)) (standing tr b) n.0, n.1, n.2)

-- nor a call on another branch
pub taken_named : (tr now : Trace) (c : Call) → IsNamedCall c → ((b : Branch) → IsOtherThan c b → IsKept tr now b) → AllAreNamed tr → AllAreNamed now
taken_named tr now c call kept named b unfit =
    let k = kept b (apart_from c b call unfit) in
    let n = named b unfit in
    (k.stands ∙ n.0, k.votes ∙ n.1, k.retries_are ∙ n.2)

module _ (o first : Origin) (seen : Seen) (l : Line) (c : Call) (from to : Branch → Standing) (r : RunFrom o first seen from) where
  abbrev tr : Trace
  tr = r.whole.history

  -- any answer that is sound, with what the resource managers do before it
  heard_so : (a : Answer) (now : Trace) → Alone tr now → Waits tr l c → SoundAnswer now l c a
      → ((b : Branch) → standing (Then now (Took l c a)) b ≡ to b) → ((b : Branch) → IsOtherThan c b → IsKept tr (Then now (Took l c a)) b)
      → RunFrom o first (Answered seen l c a) to
  heard_so a now alone w sound there kept = record {
    whole = record {
      history = Then (Then now (Took l c a)) (Heard l c a);
      is_history = Hears seen tr now l c a r.whole.is_history alone;
      runs = (
        (alone_runs tr now alone r.whole.runs, (first_still tr now l alone ∙ w.first, sound)),
        ((same_lines tr now alone).is_up ∙ w.is_up, heard_next tr now l c a alone w.none_unheard),
      );
    };
    start = (same_lines tr now alone).start ∙ r.start;
    there = there;
    named = λ n. taken_named tr (Then now (Took l c a)) c n.1 kept (r.named n.0);
  }

  -- a code
  pub code_heard : (code : Code) (x : Option (Kind × Branch)) → asks_of c ≡ x → HasAnswer c (Ret code) → Waits tr l c
      → ((b : Branch) → ExplainsAsked x code b (from b) (to b)) → RunFrom o first (Answered seen l c (Ret code)) to
  code_heard code (Some (k, d)) asks has w takes =
      heard_so (Ret code) t.now t.alone w t.sound t.there t.kept
    where
      t : TakenThere tr l c code to
      t = taken_there tr l c code k d from to asks r.there
          (subst (λ z. ExplainsIf z (from d) k code (to d)) (branch_eq-refl d) (takes d))
          (λ b n. subst (λ z. ExplainsIf z (from b) k code (to b)) n (takes b))
  code_heard code None asks has w takes =
      heard_so (Ret code) tr NoMore w (sound c asks has) (λ b. ap (λ x. moved_by x code b (standing tr b)) asks ∙ (r.there b ∙ sym (takes b)))
      (λ b other. record {
        stands = ap (λ x. moved_by x code b (standing tr b)) asks;
        votes = refl;
        retries_are = retries_kept tr l c (Ret code) b other;
      })
    where
      sound : (c : Call) → asks_of c ≡ None → HasAnswer c (Ret code) → SoundAnswer tr l c (Ret code)
      sound Calls.OpenRm e h = ap Ret (h refl)
      sound Calls.CloseRm e h = ap Ret (h refl)
      sound (Calls.Recover n s e) q h = tt
      sound _ e h = absurd (cc)

  -- a page
  pub page_heard : (names : List Name) → HasAnswer c (Page names) → Waits tr l c
      → ((b : Branch) → Explained l c (Page names) b (from b) (to b)) → RunFrom o first (Answered seen l c (Page names)) to
  page_heard names has w x = heard_so (Page names) tr NoMore w (sound c has) (λ b. r.there b ∙ sym (x b).0)
      (λ b other. record { stands = refl; votes = refl; retries_are = retries_kept tr l c (Page names) b other })
    where
      listed : (b : Branch) → Lists names (Ours b) → is_in_doubt_at tr l.rm b ≡ true
      listed b i =
          let y = (x b).1 i in
          λ j. eq-eqb _ _ y.0 j && ((ap is_in_doubt (r.there b) ∙ y.1) j)

      sound : (c : Call) → HasAnswer c (Page names) → SoundAnswer tr l c (Page names)
      sound (Calls.Recover n s e) h = listed
      sound _ h = absurd h

  -- ** a line that is lost

  pub lost_so : (d : Option Call) → ((b : Branch) → to b ≡ from b) → (f : Branch → Standing)
      → ((b : Branch) → f b ≡ (if line_eq l (line_of b) then broken (to b) else to b)) → RunFrom o first (Lost seen l d) f
  lost_so d same f final = record {
    whole = record {
      history = Then tr (break_of l);
      is_history = Loses seen tr l d r.whole.is_history;
      runs = (r.whole.runs, tt);
    };
    start = r.start;
    there = λ b. ap (λ s. if line_eq l (line_of b) then broken s else s) (r.there b ∙ sym (same b)) ∙ sym (final b);
    named = λ n. broken_named tr l (r.named n.0);
  }

  lost_answer : (code : Code) (k : Kind) (d : Branch) → asks_of c ≡ Some (k, d) → next_call tr l ≡ Some c
      → Explains (from d) k code (to d) → ((b : Branch) → branch_eq d b ≡ false → to b ≡ from b) → (f : Branch → Standing)
      → ((b : Branch) → f b ≡ (if line_eq l (line_of b) then broken (to b) else to b)) → RunFrom o first (Lost seen l (Some c)) f
  lost_answer code k d asks waits x others f final = record {
    whole = record {
      history = Then (Then t.now (Took l c (Ret code))) (break_of l);
      is_history = LosesAnswer seen tr t.now l c (Ret code) r.whole.is_history t.alone;
      runs = ((alone_runs tr t.now t.alone r.whole.runs, (first_still tr t.now l t.alone ∙ waits, t.sound)), tt);
    };
    start = (same_lines tr t.now t.alone).start ∙ r.start;
    there = λ b. ap (λ s. if line_eq l (line_of b) then broken s else s) (t.there b) ∙ sym (final b);
    named = λ n. broken_named (Then t.now (Took l c (Ret code))) l
        (taken_named tr (Then t.now (Took l c (Ret code))) c n.1 t.kept (r.named n.0));
  }
    where
      t : TakenThere tr l c code to
      t = taken_there tr l c code k d from to asks r.there x others

  -- the call was done, or it was not, as the branch that it names tells
  pub lost_call : (x : Option (Kind × Branch)) → asks_of c ≡ x → next_call tr l ≡ Some c
      → ((b : Branch) → (to b ≡ from b) ⊎ ((a : Code) × ExplainsAsked x a b (from b) (to b))) → (f : Branch → Standing)
      → ((b : Branch) → f b ≡ (if line_eq l (line_of b) then broken (to b) else to b)) → RunFrom o first (Lost seen l (Some c)) f
  lost_call None asks waits done f final = lost_so (Some c) (λ b. unmoved b (done b)) f final
    where
      unmoved : (b : Branch) → (to b ≡ from b) ⊎ ((a : Code) × (to b ≡ from b)) → to b ≡ from b
      unmoved b (inl e) = e
      unmoved b (inr (a, e)) = e
  lost_call (Some (k, d)) asks waits done f final = by_branch (done d)
    where
      others : (b : Branch) → branch_eq d b ≡ false → (to b ≡ from b) ⊎ ((a : Code) × ExplainsAsked (Some (k, d)) a b (from b) (to b)) → to b ≡ from b
      others b n (inl e) = e
      others b n (inr (a, x)) = subst (λ z. ExplainsIf z (from b) k a (to b)) n x

      all_stay : (e : to d ≡ from d) (b : Branch) (t : Bool) → branch_eq d b ≡ t → to b ≡ from b
      all_stay e b true q = subst (λ z. to z ≡ from z) (branch_eq-true d b q) e
      all_stay e b false q = others b q (done b)

      by_branch : (to d ≡ from d) ⊎ ((a : Code) × ExplainsAsked (Some (k, d)) a d (from d) (to d)) → RunFrom o first (Lost seen l (Some c)) f
      by_branch (inl e) = lost_so (Some c) (λ b. all_stay e b (branch_eq d b) refl) f final
      by_branch (inr (a, x)) =
          lost_answer a k d asks waits (subst (λ z. ExplainsIf z (from d) k a (to d)) (branch_eq-refl d) x) (λ b n. others b n (done b)) f final
