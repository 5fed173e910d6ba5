-- How the states of branches follow a page.
use Rattle.std.proofs.Common.{◌≡◌, ℕ, Bool, true, false, List, [], ◌∷◌, zero, suc, map, refl, sym, ap, ◌∙◌, subst}
use Rattle.std.specs.Prelude.{if◌then◌else◌}
use Rattle.xa_base.specs.StateTable.{state_of}
use Rattle.xa_base.specs.Xid.{Xid}
use Rattle.xa_base.specs.Answer.{map_answer}
use Rattle.xa_base.specs.declared.answer.Answer.{Answer as Given}
use Rattle.xa_base.specs.declared.answer.Answer.TheVariants.{Page}
use Rattle.xa_model.specs.Protocol.{Lists}
use Rattle.xa_model.specs.Replies.History.{name_of}
use Rattle.xa_model.specs.Trace.{Branch, Call, Line, Name.Ours, line}
use Rattle.xa_monitor.proofs.Pages.{is_listed, listed_if, listed_once, lists_if}
use Rattle.xa_monitor.proofs.RowLemmas.BreakRows.{page_into, page_onto}
use Rattle.xa_monitor.proofs.RowLemmas.StateSets.{is_some, some_state}
use Rattle.xa_monitor.specs.Entries.{AreListable, IsListable, listed_by}
use Rattle.xa_monitor.specs.Monitor.{CanExplain, IsSomewhere, LeadsExactly}
use Rattle.xa_monitor.specs.Rows.{page_row}
use Rattle.xa_monitor.specs.Standings.{Explained}
use Rattle.xa_monitor.specs.States.{LeadsInto, LeadsOnto, has}
use Rattle.xa_monitor.specs.declared.states.States.{States}
use Rattle.xa_monitor.proofs.FollowedCodes.{in_state, there_in}

listable_at : (rm : ℕ) (states : Branch → States) (xs : List Xid) (q : Branch) → AreListable rm states xs → Lists (map name_of xs) (Ours q)
    → IsListable rm states (Ours q)
listable_at rm states [] q all l = absurd (let e = l.1 in let no : ⊥ = cc in no)
listable_at rm states (x ∷ xs) q all (zero, e) = let same : name_of x ≡ Ours q = cc in subst (IsListable rm states) same all.0
listable_at rm states (x ∷ xs) q all (suc i, e) = listable_at rm states xs q all.1 (i, e)

pub page_stuck : (rm t : ℕ) (states : Branch → States) (xs : List Xid) (b : Branch) → Lists (map name_of xs) (Ours b)
    → (IsListable rm states (Ours b) → ⊥) → (c : Call) → CanExplain states (line t rm) c (Page (map name_of xs)) b → ⊥
page_stuck rm t states xs b lists never c can =
    let here = can.leads.1 lists in
    never (
      here.0,
      is_some (page_row (states b)) (state_of can.from)
          (page_into (states b) (page_row (states b)) refl can.from can.from can.among (refl, here.1)),
    )

pub page_can : (rm t : ℕ) (states : Branch → States) (xs : List Xid) → AreListable rm states xs → (c : Call) (q : Branch) → IsSomewhere states q
    → CanExplain states (line t rm) c (Page (map name_of xs)) q
page_can rm t states xs all c q some = by (is_listed xs q) refl
  where
    by : (u : Bool) → is_listed xs q ≡ u → CanExplain states (line t rm) c (Page (map name_of xs)) q
    by true e =
        let here = listable_at rm states xs q all (lists_if xs q e) in
        let at = some_state (page_row (states q)) here.1 in
        let s = page_onto (states q) (page_row (states q)) refl at.0 at.1 in
        let f = in_state s.0 in
        let g = s.2 f.0 f.1 in
        record { from = f.0; to = f.0; among = ap (has (states q)) f.1 ∙ s.1; leads = (refl, λ lists. (here.0, g.1.1)) }
    by false e =
        let f = there_in states q some in
        record {
          from = f.0;
          to = f.0;
          among = f.1;
          leads = (refl, λ lists. let yes = listed_if xs q lists in absurd (let no : ⊥ = cc in no));
        }

pub page_leads : (l : Line) (c : Call) (before after : Branch → States) (xs : List Xid)
    → ((q : Branch) → after q ≡ listed_by xs q (before q)) → ((q : Branch) → CanExplain before l c (Page (map name_of xs)) q)
    → LeadsExactly before (Explained l c (Page (map name_of xs))) after
page_leads l c before after xs e can = record {
  into = λ q f g h step. ap (λ z. has z (state_of g)) (e q ∙ listed_once xs q (before q)) ∙ into_by q (is_listed xs q) refl f g h step;
  onto = λ q t h. onto_by q (is_listed xs q) refl t (sym (ap (λ z. has z t) (e q ∙ listed_once xs q (before q))) ∙ h);
}
  where
    into_by : (q : Branch) (u : Bool) → is_listed xs q ≡ u
        → LeadsInto (before q) (Explained l c (Page (map name_of xs)) q) (if u then page_row (before q) else before q)
    into_by q true p = λ f g h step.
        page_into (before q) (page_row (before q)) refl f g h (step.0, (step.1 (lists_if xs q p)).1)
    into_by q false p = λ f g h step. ap (λ z. has (before q) (state_of z)) step.0 ∙ h

    onto_by : (q : Branch) (u : Bool) → is_listed xs q ≡ u
        → LeadsOnto (before q) (Explained l c (Page (map name_of xs)) q) (if u then page_row (before q) else before q)
    onto_by q true p = λ t h.
        let s = page_onto (before q) (page_row (before q)) refl t h in
        let rm = ((can q).leads.1 (lists_if xs q p)).0 in
        (s.0, s.1, λ f w. let g = s.2 f w in (g.0, (g.1.0, λ lists. (rm, g.1.1)), g.2))
    onto_by q false p = λ t h. (t, h, λ f w. (f, (refl, λ lists. let yes = listed_if xs q lists in absurd (let no : ⊥ = cc in no)), w))

pub page_narrows : (answer : Given Xid) (page xs : List Xid) → answer ≡ Page page → xs ≡ page → (before after : Branch → States)
    → ((q : Branch) → after q ≡ listed_by xs q (before q)) → (l : Line) (c : Call)
    → ((b : Branch) → CanExplain before l c (map_answer name_of answer) b) → LeadsExactly before (Explained l c (map_answer name_of answer)) after
page_narrows answer page xs is same before after e l c can =
    let whole : answer ≡ Page xs = is ∙ ap Page (sym same) in
    subst (λ z. LeadsExactly before (Explained l c (map_answer name_of z)) after) (sym whole)
    (page_leads l c before after xs e (λ b. subst (λ z. CanExplain before l c (map_answer name_of z) b) whole (can b)))
