-- Databases that obey the branch state table agree: wherever their branches may stand, some right history leaves them there.
use Rattle.std.proofs.Common.{◌≡◌, ◌≤◌, ℕ, List, [], ◌∷◌, ◌++◌, Bool, true, false, refl, sym, ap, ◌∙◌, subst}
use Rattle.std.proofs.lemmas.List.{append-nil}
use Rattle.std.specs.Prelude.{if◌then◌else◌}
use Rattle.xa_base.specs.HeldBranch.{HeldBranch}
use Rattle.xa_base.specs.Xid.{Xid}
use Rattle.xa_base.specs.declared.state.Standing.{Standing}
use Rattle.xa_model.proofs.AgreementLemmas.Alike.{are_alike, own_alike}
use Rattle.xa_model.specs.Facts.{heard, held_of, origin, standing, taken, up}
use Rattle.xa_model.specs.Promises.Agreement.{IsUndone}
use Rattle.xa_model.specs.Promises.Processes.{Resumes, resumed}
use Rattle.xa_model.specs.Protocol.{AllRight, OldOrigin}
use Rattle.xa_model.specs.Trace.{Answer, Branch, Call, Happening, Happening.Begun, Happening.Claimed, Happening.Decided, Happening.Done, Happening.Issued, Happening.Nothing, Happening.Resolved, Happening.ResolvedOpen, Line, Origin, Trace, Trace.Then, line_eq}
use Rattle.xa_monitor.specs.Across.{IsKnownAsLeft, continued_by}
use Rattle.xa_monitor.specs.Agreement.{HaveCome, MayAllStand, OwnStandAlike, StandAlike, StandSo}
use Rattle.xa_monitor.specs.Explained.{HasOnlyOlderRows}
use Rattle.xa_monitor.specs.Seen.{Alone, IsHistory, IsHistory.Does, IsHistory.Hears, IsHistory.Loses, IsHistory.LosesAnswer, IsHistory.Starts, IsManagers, KeepsRules, Seen}
use Rattle.xa_monitor.specs.Standings.{Comes, MayStand}
use Rattle.xa_monitor.proofs.Books.{same_books}
use Rattle.xa_monitor.proofs.Choices.{behind_right, from_some, from_start, same_there}
use Rattle.xa_monitor.proofs.Taken.{same_lines}
use Rattle.xa_monitor.proofs.UntoldCalls.{LeavesThere, as_told, leaves_there}

-- ** histories

-- one of what was seen begins as the start, with anything at the resource managers
pub history_begins : (o : Origin) (seen : Seen) (tr : Trace) → IsHistory o seen tr
    → (held : (rm : ℕ) → Xid → HeldBranch) × (origin tr ≡ record o { held = held })
history_begins o _ _ (Starts held) = (held, refl)
history_begins o _ _ (Does seen tr e h) = history_begins o seen tr h
history_begins o _ _ (Hears seen tr now l c a h alone) =
    let b = history_begins o seen tr h in (b.0, (same_lines tr now alone).start ∙ b.1)
history_begins o _ _ (Loses seen tr l c h) = history_begins o seen tr h
history_begins o _ _ (LosesAnswer seen tr now l c a h alone) =
    let b = history_begins o seen tr h in (b.0, (same_lines tr now alone).start ∙ b.1)

did_up : (tr : Trace) (e : Happening) → IsManagers e → up (Then tr e) ≡ up tr
did_up tr (Begun g) m = refl
did_up tr (Issued l c) m = refl
did_up tr (Resolved r) m = refl
did_up tr (ResolvedOpen r) m = refl
did_up tr (Claimed g) m = refl
did_up tr (Decided g outcome) m = refl
did_up tr (Done g) m = refl
did_up tr Nothing m = refl
did_up tr _ m = absurd m

-- the manager is up
pub history_up : (o : Origin) (seen : Seen) (tr : Trace) → KeepsRules o seen → IsHistory o seen tr → up tr ≡ true
history_up o _ _ keeps (Starts held) = refl
history_up o _ _ keeps (Does seen tr e h) = did_up tr e keeps.1 ∙ history_up o seen tr keeps.0 h
history_up o _ _ keeps (Hears seen tr now l c a h alone) = (same_lines tr now alone).is_up ∙ history_up o seen tr keeps.0 h
history_up o _ _ keeps (Loses seen tr l c h) = history_up o seen tr keeps.0 h
history_up o _ _ keeps (LosesAnswer seen tr now l c a h alone) = (same_lines tr now alone).is_up ∙ history_up o seen tr keeps.0 h

-- each answer was heard as it came
did_heard : (tr : Trace) (e : Happening) (l : Line) → IsManagers e → heard tr l ≡ taken tr l → heard (Then tr e) l ≡ taken (Then tr e) l
did_heard tr (Begun g) l m same = ap (λ xs. xs ++ []) same
did_heard tr (Issued k c) l m same = ap (λ xs. xs ++ []) same
did_heard tr (Resolved r) l m same = ap (λ xs. xs ++ []) same
did_heard tr (ResolvedOpen r) l m same = ap (λ xs. xs ++ []) same
did_heard tr (Claimed g) l m same = ap (λ xs. xs ++ []) same
did_heard tr (Decided g outcome) l m same = ap (λ xs. xs ++ []) same
did_heard tr (Done g) l m same = ap (λ xs. xs ++ []) same
did_heard tr Nothing l m same = ap (λ xs. xs ++ []) same
did_heard tr _ l m same = absurd m

alone_heard : (tr now : Trace) (l : Line) → Alone tr now → heard tr l ≡ taken tr l → heard now l ≡ taken now l
alone_heard tr now l alone same = let s = same_lines tr now alone in s.heard_are l ∙ (same ∙ sym (s.taken_are l))

answer_lost : (now : Trace) (k l : Line) (c : Call) (a : Answer) (t : Bool) → heard now l ≡ taken now l
    → (if t then [] else (heard now l ++ []) ++ []) ≡ (if t then [] else (taken now l ++ (if t then (c, a) ∷ [] else [])) ++ [])
answer_lost now k l c a true same = refl
answer_lost now k l c a false same = ap (λ xs. (xs ++ []) ++ []) same

pub history_heard : (o : Origin) (seen : Seen) (tr : Trace) (l : Line) → KeepsRules o seen → IsHistory o seen tr → heard tr l ≡ taken tr l
history_heard o _ _ l keeps (Starts held) = refl
history_heard o _ _ l keeps (Does seen tr e h) = did_heard tr e l keeps.1 (history_heard o seen tr l keeps.0 h)
history_heard o _ _ l keeps (Hears seen tr now k c a h alone) =
    let more = if line_eq k l then (c, a) ∷ [] else [] in
    ap (λ xs. xs ++ more) (append-nil (heard now l) ∙ alone_heard tr now l alone (history_heard o seen tr l keeps.0 h))
    ∙ sym (append-nil (taken now l ++ more))
history_heard o _ _ l keeps (Loses seen tr k c h) = ap (λ xs. if line_eq k l then [] else xs ++ []) (history_heard o seen tr l keeps.0 h)
history_heard o _ _ l keeps (LosesAnswer seen tr now k c a h alone) =
    answer_lost now k l c a (line_eq k l) (alone_heard tr now l alone (history_heard o seen tr l keeps.0 h))

-- ** so they agree

pub agreed : (o : Origin) (seen : Seen) → HasOnlyOlderRows o → KeepsRules o seen → (f : Branch → Standing) → StandSo o seen f → OwnStandAlike o.incarnation f
agreed o seen old keeps f so b c own same committed undone =
    own_alike r.now r.runs b c (subst (λ i. i ≤ b.gtrid.incarnation) (sym r.start) own) same (r.there b ∙ committed)
    (subst IsUndone (sym (r.there c)) undone)
  where
    begins : Origin → Type 0
    begins p = p.incarnation ≡ o.incarnation

    told : (f : Branch → Standing) → ((b : Branch) → MayStand o seen b (f b)) → LeavesThere o seen begins [] [] f
    told f may =
        let x = (from_some o seen old keeps f may).run in
        record {
          told = x.whole.history;
          is_history = x.whole.is_history;
          told_runs = x.whole.runs;
          now = x.whole.history;
          runs = x.whole.runs;
          start = ap (λ (p : Origin). p.incarnation) (history_begins o seen x.whole.history x.whole.is_history).1;
          calls = λ l n uncut. as_told x.whole.history l n;
          there = x.there;
          same = same_books x.whole.history;
          named = λ n first. x.named n;
        }

    r : LeavesThere o seen begins so.done so.cut f
    r = leaves_there o seen begins (MayStand o seen) told so.done so.cut f so.may

-- where it is known how each branch stood at the start
pub from_known : (o : Origin) (seen : Seen) → OldOrigin o → KeepsRules o seen → (done cut : List Line) (f : Branch → Standing)
    → MayAllStand o seen (λ b. Comes seen b (held_of o b).standing) done cut f → LeavesThere o seen (λ p. p ≡ o) done cut f
from_known o seen old keeps done cut f may = leaves_there o seen (λ p. p ≡ o) (λ b. Comes seen b (held_of o b).standing) told done cut f may
  where
    told : (f : Branch → Standing) → ((b : Branch) → Comes seen b (held_of o b).standing (f b)) → LeavesThere o seen (λ p. p ≡ o) [] [] f
    told f may =
        let x = from_start o seen old keeps f may in
        record {
          told = x.whole.history;
          is_history = x.whole.is_history;
          told_runs = x.whole.runs;
          now = x.whole.history;
          runs = x.whole.runs;
          start = x.start;
          calls = λ l n uncut. as_told x.whole.history l n;
          there = x.there;
          same = same_books x.whole.history;
          named = λ n first. x.named n;
        }

-- and behind earlier processes, where the start has each branch just as these left it
pub agreed_across : (past : Trace) (o : Origin) (seen : Seen) → AllRight past → Resumes past o → OldOrigin o → KeepsRules o seen
    → ((b : Branch) → IsKnownAsLeft past o b) → (f : Branch → Standing) → HaveCome o seen f → StandAlike f
agreed_across past o seen a resumes old keeps known f so b c same committed undone =
    let whole = (behind_right past o r.now a resumes r.start r.runs).0 in
    are_alike (continued_by (resumed past o) r.now) whole b c same (there b ∙ committed) (subst IsUndone (sym (there c)) undone)
  where
    r : LeavesThere o seen (λ p. p ≡ o) so.done so.cut f
    r = from_known o seen old keeps so.done so.cut f so.may

    there : (b : Branch) → standing (continued_by (resumed past o) r.now) b ≡ f b
    there b = same_there past o r.now a resumes r.start r.runs b (known b) ∙ r.there b
