-- Drivers that break a rule aren't faithful.
use Rattle.std.proofs.Common.{◌≡◌, ◌≢◌, ◌∙◌, ◌⊎◌, inl, inr, All, Bool, true, false, List, [], ◌∷◌, Option, Some, None, refl, sym, ap, subst}
use Rattle.std.proofs.lemmas.Bool.{true≢false}
use Rattle.std.proofs.lemmas.List.Elements.{All-head}
use Rattle.std.specs.Prelude.{◌||◌, if◌then◌else◌}
use Rattle.xa_base.specs.HeldBranch.{new_branch}
use Rattle.xa_base.specs.StateTable.{Kind.Rollback}
use Rattle.xa_base.specs.declared.answer.Answer.TheVariants.{Ret}
use Rattle.xa_base.specs.declared.call.Call.TheVariants as Calls
use Rattle.xa_base.specs.declared.code.Code.TheVariants.{Success}
use Rattle.xa_base.specs.declared.state.Standing.{Standing}
use Rattle.xa_base.specs.declared.state.Standing.TheVariants.{Unstarted}
use Rattle.xa_drivers.specs.Deeds.{Deeds, Deeds.Did, Deeds.Ended, Deeds.Made, Deeds.Nothing, Deeds.Severed, Deeds.Told, Deeds.ToldLost, stands}
use Rattle.xa_drivers.specs.Faithful.{AreUnrelated, IsFaithful, IsLostNext, IsLostNext.FirstMade, IsLostNext.NoneMade, IsToldNext, IsToldNext.Before, IsToldNext.Newest, DrivesByRules, DrivesByRules.Begins, DrivesByRules.Ends, DrivesByRules.Loses, DrivesByRules.Makes, DrivesByRules.Does, DrivesByRules.Tells, DrivesByRules.TellsLoss, MayMakeCall, Untold, Untold.ALoss, Untold.AnAnswer, is_open_branch, is_severed, line_on, open_on}
use Rattle.xa_drivers.specs.Worked.{RulesRefuse, RulesRefuseOthers, asked, listing, recover}
use Rattle.xa_model.proofs.Keys.{line_eq-refl}
use Rattle.xa_model.specs.Facts.{fits}
use Rattle.xa_model.specs.Protocol.{OldOrigin}
use Rattle.xa_model.specs.Trace.{Answer, Branch, Call, Happening.Issued, Line, Origin, line_eq, line_of}
use Rattle.xa_monitor.specs.Explained.{HasOnlyOlderRows}
use Rattle.xa_monitor.specs.Seen.{IsHistory.Starts, start_with}

module _ (o : Origin) (from : Branch → Standing) where
  -- ** what the last deed asks for

  abbrev LastOf : Deeds → List Untold → Type 0
  LastOf Nothing us = us ≡ []
  LastOf (Did ds e) us = DrivesByRules o from ds us
  LastOf (Made ds l c a) us = (vs : List Untold) × DrivesByRules o from ds vs × MayMakeCall o from ds vs l c × (us ≡ AnAnswer l c a ∷ vs)
  LastOf (Severed ds l) us = (vs : List Untold) × DrivesByRules o from ds vs × (us ≡ ALoss l (open_on (stands from ds) l) ∷ vs)
  LastOf (Ended ds b how) us = DrivesByRules o from ds us
  LastOf (Told ds l c a) us = (vs : List Untold) × DrivesByRules o from ds vs × IsToldNext (AnAnswer l c a) vs us
  LastOf (ToldLost ds l c) us = (vs : List Untold) × DrivesByRules o from ds vs × IsLostNext l c vs us

  last_of : (ds : Deeds) (us : List Untold) → DrivesByRules o from ds us → LastOf ds us
  last_of _ _ Begins = refl
  last_of _ _ (Does ds us e k is) = k
  last_of _ _ (Makes ds us l c a k may) = (us, k, may, refl)
  last_of _ _ (Loses ds us l k) = (us, k, refl)
  last_of _ _ (Ends ds us b how k) = k
  last_of _ _ (Tells ds us rest l c a k next) = (us, k, next)
  last_of _ _ (TellsLoss ds us rest l c k next) = (us, k, next)

  -- where calls were issued alone, there is nothing to tell
  none_made_yet : (cs : List (Line × Call)) (us : List Untold) → DrivesByRules o from (asked cs) us → us ≡ []
  none_made_yet [] us k = last_of Nothing us k
  none_made_yet ((l, c) ∷ cs) us k = none_made_yet cs us (last_of (Did (asked cs) (Issued l c)) us k)

  module _ (cs : List (Line × Call)) where
    -- one call was made
    one_made : (l : Line) (c : Call) (a : Answer) (us : List Untold) → DrivesByRules o from (Made (asked cs) l c a) us → us ≡ AnAnswer l c a ∷ []
    one_made l c a us k =
        let m = last_of (Made (asked cs) l c a) us k in
        m.3 ∙ ap (λ z. AnAnswer l c a ∷ z) (none_made_yet cs m.0 m.1)

    -- two were
    two_made : (l m : Line) (c d : Call) (a x : Answer) (us : List Untold) → DrivesByRules o from (Made (Made (asked cs) l c a) m d x) us
        → us ≡ AnAnswer m d x ∷ AnAnswer l c a ∷ []
    two_made l m c d a x us k =
        let n = last_of (Made (Made (asked cs) l c a) m d x) us k in
        n.3 ∙ ap (λ z. AnAnswer m d x ∷ z) (one_made l c a n.0 n.1)

  -- ** what is next

  -- it is the newest, and nothing is older on its line or about its branches; or it is an older
  -- one
  abbrev NextOf : Untold → List Untold → List Untold → Type 0
  NextOf u [] rest = ⊥
  NextOf u (v ∷ vs) rest = ((v ≡ u) × All (AreUnrelated u) vs × (rest ≡ vs)) ⊎ ((ws : List Untold) × (rest ≡ v ∷ ws) × NextOf u vs ws)

  next_of : (u : Untold) (us rest : List Untold) → IsToldNext u us rest → NextOf u us rest
  next_of u _ _ (Newest us apart) = inl (refl, apart, refl)
  next_of u _ _ (Before v us rest next) = inr (rest, refl, next_of u us rest next)

  same_line : (l : Line) (u v : Untold) → line_on u ≡ l → line_on v ≡ l → AreUnrelated u v → ⊥
  same_line l u v e f apart =
      true≢false (sym (line_eq-refl l) ∙ (ap (λ z. line_eq z l) (sym e) ∙ (ap (line_eq (line_on u)) (sym f) ∙ apart.lines)))

  -- nothing was issued yet, in a history that starts with no branch
  pub start : HasOnlyOlderRows o → OldOrigin (record o { held = λ r x. new_branch })
  start old = record { rows_old = old.rows_old; record_old = old.record_old; held_old = λ b. inl (unstarted (fits b)) }
    where
      unstarted : (t : Bool) → (if t then new_branch else new_branch).standing ≡ Unstarted
      unstarted true = refl
      unstarted false = refl

  unissued : HasOnlyOlderRows o → (l : Line) (c : Call) (a : Answer) → IsFaithful o from (Made Nothing l c a) → ⊥
  unissued old l c a f =
      let m = last_of (Made Nothing l c a) f.untold f.keeps in
      let none = last_of Nothing m.0 m.1 in
      let w : None ≡ Some c = m.2.issued (start_with o (λ r x. new_branch)) (Starts (λ r x. new_branch)) (start old) in
      cc

  gone : (ds : Deeds) (l : Line) (c : Call) (a : Answer) → IsFaithful o from (Made (Severed ds l) l c a) → ⊥
  gone ds l c a f =
      let m = last_of (Made (Severed ds l) l c a) f.untold f.keeps in
      let s = last_of (Severed ds l) m.0 m.1 in
      let is : is_severed m.0 l ≡ true = ap (λ z. is_severed z l) s.2 ∙ ap (λ z. z || is_severed s.0 l) (line_eq-refl l) in
      true≢false (sym is ∙ m.2.connected)

  elsewhere : (ds : Deeds) (l : Line) (b : Branch) (a : Answer) → is_open_branch (stands from ds b) ≡ true → l ≢ line_of b
      → IsFaithful o from (Made ds l (Calls.Rollback b) a) → ⊥
  elsewhere ds l b a opens other f =
      let m = last_of (Made ds l (Calls.Rollback b) a) f.untold f.keeps in
      other (m.2.own_line Rollback b refl opens)

  order : (cs : List (Line × Call)) (l : Line) (c d : Call) (a x : Answer) → c ≢ d → IsFaithful o from (Told (Made (Made (asked cs) l c a) l d x) l d x) → ⊥
  order cs l c d a x differ f = by (next_of (AnAnswer l d x) (AnAnswer l d x ∷ AnAnswer l c a ∷ []) f.untold
      (subst (λ z. IsToldNext (AnAnswer l d x) z f.untold) (two_made cs l l c d a x m.0 m.1) m.2))
    where
      m : LastOf (Told (Made (Made (asked cs) l c a) l d x) l d x) f.untold
      m = last_of (Told (Made (Made (asked cs) l c a) l d x) l d x) f.untold f.keeps

      by : NextOf (AnAnswer l d x) (AnAnswer l d x ∷ AnAnswer l c a ∷ []) f.untold → ⊥
      by (inl (same, apart, rest)) =
          same_line l (AnAnswer l d x) (AnAnswer l c a) refl refl (All-head (AreUnrelated (AnAnswer l d x)) (AnAnswer l c a) [] apart)
      by (inr (ws, rest, inl (same, apart, e))) = differ (let e : c ≡ d = cc in e)
      by (inr (ws, rest, inr (vs, e, never))) = never

  -- a loss is among what isn't told
  abbrev HasLoss : Line → List Untold → Type 0
  HasLoss l [] = ⊥
  HasLoss l (AnAnswer m c a ∷ us) = HasLoss l us
  HasLoss l (ALoss m lost ∷ us) = (m ≡ l) ⊎ HasLoss l us

  has_loss : (l : Line) (lost : Branch → Bool) (us rest : List Untold) → IsToldNext (ALoss l lost) us rest → HasLoss l us
  has_loss l lost _ _ (Newest us apart) = inl refl
  has_loss l lost _ _ (Before (AnAnswer m c a) us rest next) = has_loss l lost us rest next
  has_loss l lost _ _ (Before (ALoss m other) us rest next) = inr (has_loss l lost us rest next)

  loss_before : (l : Line) (c : Call) (a : Answer) (us rest : List Untold) → IsToldNext (AnAnswer l c a) us rest → HasLoss l rest → HasLoss l us
  loss_before l c a _ _ (Newest us apart) has = has
  loss_before l c a _ _ (Before (AnAnswer m d x) us rest next) has = loss_before l c a us rest next has
  loss_before l c a _ _ (Before (ALoss m lost) us rest next) (inl e) = inl e
  loss_before l c a _ _ (Before (ALoss m lost) us rest next) (inr has) = inr (loss_before l c a us rest next has)

  lost_has : (l : Line) (c : Option Call) (us rest : List Untold) → IsLostNext l c us rest → HasLoss l us
  lost_has l _ _ _ (NoneMade c lost us rest next) = has_loss l lost us rest next
  lost_has l _ _ _ (FirstMade c a lost us mid rest first next) = loss_before l c a us mid first (has_loss l lost mid rest next)

  connected : (cs : List (Line × Call)) (l : Line) (c d : Call) (a : Answer) → IsFaithful o from (ToldLost (Made (asked cs) l c a) l (Some d)) → ⊥
  connected cs l c d a f =
      let m = last_of (ToldLost (Made (asked cs) l c a) l (Some d)) f.untold f.keeps in
      subst (HasLoss l) (one_made cs l c a m.0 m.1) (lost_has l (Some d) m.0 f.untold m.2)

  module _ (l m : Line) (b : Branch) where
    abbrev the_page : Untold
    the_page = AnAnswer m recover (listing b)

    abbrev the_vote : Untold
    the_vote = AnAnswer l (Calls.Prepare b) (Ret Success)

    vote_first : (rest : List Untold) → NextOf the_page (the_page ∷ the_vote ∷ []) rest → ⊥
    vote_first rest (inl (same, apart, e)) = (All-head (AreUnrelated the_page) the_vote [] apart).branches b (0, refl) refl
    vote_first rest (inr (ws, e, inl (same, apart, i))) = let never : ⊥ = cc in never
    vote_first rest (inr (ws, e, inr (vs, i, never))) = never

  page : (cs : List (Line × Call)) (l m : Line) (b : Branch)
      → IsFaithful o from (Told (Made (Made (asked cs) l (Calls.Prepare b) (Ret Success)) m recover (listing b)) m recover (listing b)) → ⊥
  page cs l m b f =
      let n = last_of (Told (Made (Made (asked cs) l (Calls.Prepare b) (Ret Success)) m recover (listing b)) m recover (listing b)) f.untold f.keeps in
      let next = subst (λ z. IsToldNext (the_page l m b) z f.untold) (two_made cs l m (Calls.Prepare b) recover (Ret Success) (listing b) n.0 n.1) n.2 in
      vote_first l m b f.untold (next_of (the_page l m b) (the_page l m b ∷ the_vote l m b ∷ []) f.untold next)

  answer : (cs : List (Line × Call)) (l : Line) (c : Call) (a x : Answer) → a ≢ x → IsFaithful o from (Told (Made (asked cs) l c a) l c x) → ⊥
  answer cs l c a x differ f = by (next_of (AnAnswer l c x) (AnAnswer l c a ∷ []) f.untold
      (subst (λ z. IsToldNext (AnAnswer l c x) z f.untold) (one_made cs l c a m.0 m.1) m.2))
    where
      m : LastOf (Told (Made (asked cs) l c a) l c x) f.untold
      m = last_of (Told (Made (asked cs) l c a) l c x) f.untold f.keeps

      by : NextOf (AnAnswer l c x) (AnAnswer l c a ∷ []) f.untold → ⊥
      by (inl (same, apart, rest)) = differ (let e : a ≡ x = cc in e)
      by (inr (ws, rest, never)) = never

  -- two calls were made on a line, and then its connection is gone
  module _ (l : Line) (c d : Call) (a x : Answer) (lost : Branch → Bool) where
    abbrev three : List Untold
    three = ALoss l lost ∷ AnAnswer l d x ∷ AnAnswer l c a ∷ []

    none_made : (other : Branch → Bool) (rest : List Untold) → NextOf (ALoss l other) three rest → ⊥
    none_made other rest (inl (same, apart, e)) =
        same_line l (ALoss l other) (AnAnswer l d x) refl refl (All-head (AreUnrelated (ALoss l other)) (AnAnswer l d x) (AnAnswer l c a ∷ []) apart)
    none_made other rest (inr (ws, e, inl (same, apart, i))) = let never : ⊥ = cc in never
    none_made other rest (inr (ws, e, inr (vs, i, inl (same, apart, j)))) = let never : ⊥ = cc in never
    none_made other rest (inr (ws, e, inr (vs, i, inr (us, j, never)))) = never

    -- the second is left, and stands before the loss
    second_left : (y : Answer) (mid : List Untold) → NextOf (AnAnswer l c y) three mid → mid ≡ ALoss l lost ∷ AnAnswer l d x ∷ []
    second_left y mid (inl (same, apart, e)) = let never : ⊥ = cc in absurd never
    second_left y mid (inr (ws, e, inl (same, apart, i))) =
        absurd (same_line l (AnAnswer l c y) (AnAnswer l c a) refl refl (All-head (AreUnrelated (AnAnswer l c y)) (AnAnswer l c a) [] apart))
    second_left y mid (inr (ws, e, inr (vs, i, inl (same, apart, j)))) =
        e ∙ ap (λ z. ALoss l lost ∷ z) (i ∙ ap (λ z. AnAnswer l d x ∷ z) j)
    second_left y mid (inr (ws, e, inr (vs, i, inr (us, j, never)))) = absurd never

    still_made : (other : Branch → Bool) (rest : List Untold) → NextOf (ALoss l other) (ALoss l lost ∷ AnAnswer l d x ∷ []) rest → ⊥
    still_made other rest (inl (same, apart, e)) =
        same_line l (ALoss l other) (AnAnswer l d x) refl refl (All-head (AreUnrelated (ALoss l other)) (AnAnswer l d x) [] apart)
    still_made other rest (inr (ws, e, inl (same, apart, i))) = let never : ⊥ = cc in never
    still_made other rest (inr (ws, e, inr (vs, i, never))) = never

    not_lost : (e : Option Call) (us rest : List Untold) → us ≡ three → e ≡ Some c → IsLostNext l e us rest → ⊥
    not_lost _ _ _ are is (NoneMade e other us rest next) =
        none_made other rest (next_of (ALoss l other) three rest (subst (λ z. IsToldNext (ALoss l other) z rest) are next))
    not_lost _ _ _ are is (FirstMade e y other us mid rest first next) =
        let same : e ≡ c = cc in
        let took : IsToldNext (AnAnswer l c y) three mid = subst (λ z. IsToldNext (AnAnswer l z y) three mid) same (subst (λ z. IsToldNext (AnAnswer l e y) z mid) are first) in
        let left = second_left y mid (next_of (AnAnswer l c y) three mid took) in
        still_made other rest (next_of (ALoss l other) _ rest (subst (λ z. IsToldNext (ALoss l other) z rest) left next))

  both_made : (cs : List (Line × Call)) (l : Line) (c d : Call) (a x : Answer)
      → IsFaithful o from (ToldLost (Severed (Made (Made (asked cs) l c a) l d x) l) l (Some c)) → ⊥
  both_made cs l c d a x f =
      let m = last_of (ToldLost (Severed (Made (Made (asked cs) l c a) l d x) l) l (Some c)) f.untold f.keeps in
      let s = last_of (Severed (Made (Made (asked cs) l c a) l d x) l) m.0 m.1 in
      not_lost l c d a x _ (Some c) m.0 f.untold (s.2 ∙ ap (λ z. ALoss l (open_on (stands from (Made (Made (asked cs) l c a) l d x)) l) ∷ z) (two_made cs l l c d a x s.0 s.1)) refl m.2

  refused : RulesRefuse o from
  refused = record {
    unissued = unissued;
    gone = gone;
    elsewhere = elsewhere;
    order = order;
    connected = connected;
    two_made = both_made;
    page = page;
    answer = answer;
  }

pub refuse : RulesRefuseOthers
refuse o from = refused o from
