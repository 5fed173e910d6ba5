-- If each call that was made is on a branch that has an identifier, and each page lists such branches, then each call that waits or was done
-- is on one: also those that a recovery lets wait.
use Rattle.std.proofs.Common.{◌≡◌, ◌∙◌, ◌+◌, ℕ, zero, suc, Bool, true, false, List, [], ◌∷◌, ◌++◌, length, Option, Some, None, refl, sym, ap, subst}
use Rattle.std.specs.Prelude.{if◌then◌else◌, slice_get}
use Rattle.xa_base.specs.StateTable.{Kind, asks_of, on}
use Rattle.xa_base.specs.declared.answer.Answer.TheVariants.{Page}
use Rattle.xa_base.specs.declared.call.Call.TheVariants as Calls
use Rattle.xa_model.specs.Facts.{breaks, fits, has_row, issued, live, new_calls, next_call, page, page_after, recorded, resolving_calls, resolving_kind, taken}
use Rattle.xa_model.specs.Protocol.{IsRun, Lists}
use Rattle.xa_model.specs.Trace.{Branch, Call, Happening, Happening.Heard, Happening.Issued, Happening.Resolved, Happening.ResolvedOpen, Happening.Took, Kind.Commit, Kind.Forget, Kind.Rollback, Line, Name, Name.Foreign, Name.Ours, Origin, Trace, Trace.Then, line, line_eq}
use Rattle.xa_monitor.specs.Agreement.{waiting_call_at}
use Rattle.xa_monitor.specs.Named.{AreOnBranches, IsNamedCall, IsNamedPage, MakesNamedCall}
use Rattle.xa_monitor.specs.Seen.{Alone, Alone.Ends, Alone.NoMore, Alone.PutsOff, Alone.Votes, IsHistory, IsHistory.Does, IsHistory.Hears, IsHistory.Loses, IsHistory.LosesAnswer, IsHistory.Starts, IsManagers, KeepsRules, Seen, Seen.Answered, Seen.Did, Seen.Lost, Seen.Start, break_of}

-- ** calls that were done

abbrev pub IsNamedIf : Option Call → Type 0
IsNamedIf None = Unit
IsNamedIf (Some c) = IsNamedCall c

-- each call of which it was seen that it was or may have been done is on a branch that has an identifier
abbrev pub AreNamed : Seen → Type 0
AreNamed Start = Unit
AreNamed (Did seen e) = AreNamed seen
AreNamed (Answered seen l c a) = AreNamed seen × IsNamedCall c
AreNamed (Lost seen l c) = AreNamed seen × IsNamedIf c

-- ** lists

-- so is each of these calls
abbrev pub EachNamed : List Call → Type 0
EachNamed cs = (i : ℕ) (c : Call) → slice_get cs i ≡ Some c → IsNamedCall c

-- each branch of this manager among these has an identifier
abbrev pub HaveIdentifiers : List Name → Type 0
HaveIdentifiers names = (b : Branch) → Lists names (Ours b) → fits b ≡ true

none_named : EachNamed []
none_named i c e = absurd (cc)

one_more_named : (c : Call) (cs : List Call) → IsNamedCall c → EachNamed cs → EachNamed (c ∷ cs)
one_more_named c cs first others zero d e = let same : c ≡ d = cc in subst IsNamedCall same first
one_more_named c cs first others (suc i) d e = others i d e

both_named : (cs ds : List Call) → EachNamed cs → EachNamed ds → EachNamed (cs ++ ds)
both_named [] ds first second i d e = second i d e
both_named (c ∷ cs) ds first second zero d e = first zero d e
both_named (c ∷ cs) ds first second (suc i) d e = both_named cs ds (λ j. first (suc j)) second i d e

others_named : (n : Name) (ns : List Name) → HaveIdentifiers (n ∷ ns) → HaveIdentifiers ns
others_named n ns have b lists = have b (suc lists.0, lists.1)

abbrev branch_or : Branch → Option (Kind × Branch) → Branch
branch_or b None = b
branch_or b (Some (k, c)) = c

-- a recovery lets calls wait on branches of the page
ending_named : (k : Kind) (b : Branch) → fits b ≡ true → asks_of (on k b) ≡ Some (k, b) → IsNamedCall (on k b)
ending_named k b fit asks j d e = subst (λ (x : Branch). fits x ≡ true) (ap (branch_or b) (sym asks ∙ e)) fit

asks_that : (tr : Trace) (b : Branch) → asks_of (on (resolving_kind tr b) b) ≡ Some (resolving_kind tr b, b)
asks_that tr b = by (recorded tr b) (has_row tr b.gtrid)
  where
    by : (t u : Bool) → (let k : Kind = if t then Forget else if u then Commit else Rollback in asks_of (on k b) ≡ Some (k, b))
    by true u = refl
    by false true = refl
    by false false = refl

ended_if : (t : Bool) (k : Kind) (b : Branch) (cs : List Call) → fits b ≡ true → asks_of (on k b) ≡ Some (k, b) → EachNamed cs
    → EachNamed (if t then cs else on k b ∷ cs)
ended_if true k b cs fit asks others = others
ended_if false k b cs fit asks others = one_more_named (on k b) cs (ending_named k b fit asks) others

resolving_named : (tr : Trace) (names : List Name) → HaveIdentifiers names → EachNamed (resolving_calls tr names)
resolving_named tr [] have = none_named
resolving_named tr (Ours b ∷ ns) have =
    ended_if (live tr b.gtrid) (resolving_kind tr b) b (resolving_calls tr ns) (have b (zero, refl)) (asks_that tr b)
    (resolving_named tr ns (others_named (Ours b) ns have))
resolving_named tr (Foreign x ∷ ns) have = resolving_named tr ns (others_named (Foreign x) ns have)

-- ** histories

-- what waits or waited on lines, and what pages list
record NamesIn (tr : Trace) : Type 0 where
  calls : (l : Line) → EachNamed (issued tr l)
  pages : (r : ℕ) → HaveIdentifiers (page tr r)

-- a page that is heard lists such branches
HearsNamedPage : Happening → Type 0
HearsNamedPage (Heard l c a) = IsNamedPage a
HearsNamedPage e = Unit

new_named : (tr : Trace) (e : Happening) (l : Line) → NamesIn tr → MakesNamedCall e → EachNamed (new_calls tr e l)
new_named tr (Issued m c) l names makes = by (line_eq m l)
  where
    by : (t : Bool) → EachNamed (if t then c ∷ [] else [])
    by true = one_more_named c [] makes none_named
    by false = none_named
new_named tr (Resolved r) l names makes = by (line_eq (line 0 r) l)
  where
    by : (t : Bool) → EachNamed (if t then resolving_calls tr (page tr r) else [])
    by true = resolving_named tr (page tr r) (names.pages r)
    by false = none_named
new_named tr (ResolvedOpen r) l names makes = by (line_eq (line 0 r) l)
  where
    by : (t : Bool) → EachNamed (if t then resolving_calls (Then tr (ResolvedOpen r)) (page tr r) else [])
    by true = resolving_named (Then tr (ResolvedOpen r)) (page tr r) (names.pages r)
    by false = none_named
new_named tr _ l names makes = none_named

page_named : (names : List Name) (e : Happening) (r : ℕ) → HaveIdentifiers names → HearsNamedPage e → HaveIdentifiers (page_after names e r)
unfolding HearsNamedPage
page_named names (Heard l (Calls.Recover n s end) (Page ns)) r have hears = by (line_eq l (line 0 r))
  where
    by : (t : Bool) → HaveIdentifiers (if t then ns else names)
    by true = hears
    by false = have
page_named names _ r have hears = have

names_after : (tr : Trace) (e : Happening) → NamesIn tr → MakesNamedCall e → HearsNamedPage e → NamesIn (Then tr e)
names_after tr e names makes hears = record {
  calls = λ l. calls_by l (breaks tr e l);
  pages = λ r. pages_by r (breaks tr e (line 0 r));
}
  where
    calls_by : (l : Line) (t : Bool) → EachNamed (if t then [] else issued tr l ++ new_calls tr e l)
    calls_by l true = none_named
    calls_by l false = both_named (issued tr l) (new_calls tr e l) (names.calls l) (new_named tr e l names makes)

    pages_by : (r : ℕ) (t : Bool) → HaveIdentifiers (if t then [] else page_after (page tr r) e r)
    pages_by r true = λ b lists. absurd (let e = lists.1 in cc)
    pages_by r false = page_named (page tr r) e r (names.pages r) hears

alone_names : (tr now : Trace) → Alone tr now → NamesIn tr → NamesIn now
unfolding HearsNamedPage
alone_names tr _ NoMore names = names
alone_names tr _ (Votes now b v a) names = names_after now _ (alone_names tr now a names) tt tt
alone_names tr _ (PutsOff now b n a) names = names_after now _ (alone_names tr now a names) tt tt
alone_names tr _ (Ends now b how a p) names = names_after now _ (alone_names tr now a names) tt tt

hears_none : (e : Happening) → IsManagers e → HearsNamedPage e
unfolding HearsNamedPage
hears_none (Heard l c a) is = absurd is
hears_none _ is = tt

history_names : (o : Origin) (seen : Seen) (tr : Trace) → IsHistory o seen tr → KeepsRules o seen → AreOnBranches seen → NamesIn tr
unfolding HearsNamedPage
history_names o _ _ (Starts held) keeps on = record { calls = λ l. none_named; pages = λ r b lists. absurd (let e = lists.1 in cc) }
history_names o _ _ (Does seen tr e i) keeps on = names_after tr e (history_names o seen tr i keeps.0 on.0) on.1 (hears_none e keeps.1)
history_names o _ _ (Hears seen tr now l c a i alone) keeps on =
    names_after (Then now (Took l c a)) (Heard l c a)
    (names_after now (Took l c a) (alone_names tr now alone (history_names o seen tr i keeps.0 on.0)) tt tt) tt on.1
history_names o _ _ (Loses seen tr l c i) keeps on = names_after tr (break_of l) (history_names o seen tr i keeps.0 on) tt tt
history_names o _ _ (LosesAnswer seen tr now l c a i alone) keeps on =
    names_after (Then now (Took l c a)) (break_of l)
    (names_after now (Took l c a) (alone_names tr now alone (history_names o seen tr i keeps.0 on)) tt tt) tt tt

-- each call that waits is on a branch that has an identifier
pub waiting_named : (o : Origin) (seen : Seen) (tr : Trace) (l : Line) (n : ℕ) (c : Call) → IsHistory o seen tr → KeepsRules o seen → AreOnBranches seen
    → waiting_call_at tr l n ≡ Some c → IsNamedCall c
waiting_named o seen tr l n c i keeps on has = (history_names o seen tr i keeps on).calls l (length (taken tr l) + n) c has

-- so is the one that waits first
first_named : (o : Origin) (seen : Seen) (tr : Trace) (l : Line) (c : Call) → IsHistory o seen tr → KeepsRules o seen → AreOnBranches seen
    → next_call tr l ≡ Some c → IsNamedCall c
first_named o seen tr l c i keeps on has = (history_names o seen tr i keeps on).calls l (length (taken tr l)) c has

named_if : (c next : Option Call) → next ≡ c → ((d : Call) → next ≡ Some d → IsNamedCall d) → IsNamedIf c
named_if None next same named = tt
named_if (Some c) next same named = named c same

pub alone_ran : (tr now : Trace) → Alone tr now → IsRun now → IsRun tr
alone_ran tr _ NoMore run = run
alone_ran tr _ (Votes now b v a) run = alone_ran tr now a run.0
alone_ran tr _ (PutsOff now b n a) run = alone_ran tr now a run.0
alone_ran tr _ (Ends now b how a p) run = alone_ran tr now a run.0

-- so is each that was done, if there is a right history
pub done_named : (o : Origin) (seen : Seen) (tr : Trace) → IsHistory o seen tr → IsRun tr → KeepsRules o seen → AreOnBranches seen → AreNamed seen
done_named o _ _ (Starts held) run keeps on = tt
done_named o _ _ (Does seen tr e i) run keeps on = done_named o seen tr i run.0 keeps.0 on.0
done_named o _ _ (Hears seen tr now l c a i alone) run keeps on =
    let ran = alone_ran tr now alone run.0.0 in
    (done_named o seen tr i ran keeps.0 on.0, first_named o seen tr l c i keeps.0 on.0 (keeps.2 tr i ran).first)
done_named o _ _ (Loses seen tr l c i) run keeps on =
    (done_named o seen tr i run.0 keeps.0 on, named_if c (next_call tr l) (keeps.1 tr i run.0) (λ d has. first_named o seen tr l d i keeps.0 on has))
done_named o _ _ (LosesAnswer seen tr now l c a i alone) run keeps on =
    let ran = alone_ran tr now alone run.0.0 in
    (done_named o seen tr i ran keeps.0 on, first_named o seen tr l c i keeps.0 on (keeps.1 tr i ran))
