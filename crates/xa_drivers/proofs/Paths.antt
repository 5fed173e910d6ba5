-- From where the branches stand by what was told to where they stand: a step for each thing that
-- isn't told yet. What is told next may be taken before all that is older.
use Rattle.std.proofs.Common.{◌≡◌, ◌∙◌, All, Bool, true, false, List, [], ◌∷◌, refl, sym, subst}
use Rattle.std.proofs.lemmas.List.Elements.{All-head, All-tail}
use Rattle.std.proofs.lemmas.Bool.{true≢false}
use Rattle.xa_base.specs.declared.state.Standing.{Standing}
use Rattle.xa_base.specs.declared.state.Standing.TheVariants.{Unstarted}
use Rattle.xa_drivers.proofs.Steps.{StepAlone, StepBy, absorb, behind, names_it, swap}
use Rattle.xa_drivers.specs.Faithful.{AreUnrelated, IsToldNext, IsToldNext.Before, IsToldNext.Newest, Untold, Untold.ALoss, Untold.AnAnswer}
use Rattle.xa_model.specs.Trace.{Branch, How}
use Rattle.xa_monitor.specs.Seen.{HasAnswer}

-- the call has such an answer
abbrev pub IsSound : Untold → Type 0
IsSound (AnAnswer l c a) = HasAnswer c a
IsSound (ALoss l lost) = Unit

-- From the one standing of these branches to the other by what isn't told yet, the newest last; in
-- between, databases ended branches.
pub data Path (mine : Branch → Bool) (mid : Branch → Standing) : List Untold → (Branch → Standing) → Type 0 where
  Here : (to : Branch → Standing) → ((b : Branch) → mine b ≡ true → to b ≡ mid b) → Path mine mid [] to
  Step :
      (u : Untold) (us : List Untold) (from to : Branch → Standing) → Path mine mid us from → IsSound u
      → ((b : Branch) → mine b ≡ true → StepBy u b (from b) (to b)) → Path mine mid (u ∷ us) to
  Alone :
      (us : List Untold) (d : Branch) (how : How) (from to : Branch → Standing) → Path mine mid us from → mine d ≡ true
      → ((b : Branch) → mine b ≡ true → StepAlone d how b (from b) (to b)) → Path mine mid us to

-- what there is for each of these branches is there for all of them
pub record Chosen (mine : Branch → Bool) (A : Branch → Standing → Type 0) : Type 0 where
  pub at : Branch → Standing
  pub so : (b : Branch) → mine b ≡ true → A b (at b)

pub choose : (mine : Branch → Bool) (A : Branch → Standing → Type 0) → ((b : Branch) → mine b ≡ true → (m : Standing) × A b m) → Chosen mine A
choose mine A each = record { at = λ b. pick b (mine b) refl; so = λ b is. picked b (mine b) refl is }
  where
    pick : (b : Branch) (z : Bool) → mine b ≡ z → Standing
    pick b true e = (each b e).0
    pick b false e = Unstarted

    picked : (b : Branch) (z : Bool) (e : mine b ≡ z) → mine b ≡ true → A b (pick b z e)
    picked b true e is = (each b e).1
    picked b false e is = absurd (true≢false (sym is ∙ e))

module _ (mine : Branch → Bool) (mid : Branch → Standing) (u : Untold) where
  -- it was taken first
  pub record TakenFirst (rest : List Untold) (to : Branch → Standing) : Type 0 where
    pub next : Branch → Standing
    pub sound : IsSound u
    pub step : (b : Branch) → mine b ≡ true → StepBy u b (mid b) (next b)
    pub path : Path mine next rest to

  abbrev Steps : (from to : Branch → Standing) → Type 0
  Steps from to = (b : Branch) → mine b ≡ true → StepBy u b (from b) (to b)

  take_first : (us : List Untold) (from to : Branch → Standing) → Path mine mid us from → All (AreUnrelated u) us → IsSound u → Steps from to
      → TakenFirst us to
  take_first _ _ to (Here from same) apart sound steps = record {
    next = to;
    sound = sound;
    step = λ b is. subst (λ z. StepBy u b z (to b)) (same b is) (steps b is);
    path = Here to (λ b is. refl);
  }
  take_first _ _ to (Step v us f g p s st) apart sound steps =
      let m = choose mine (λ b x. StepBy u b (f b) x × StepBy v b x (to b))
      (λ b is. let w = swap u v (All-head (AreUnrelated u) v us apart) b (f b) (g b) (to b) (st b is) (steps b is) in (w.0, (w.1, w.2))) in
      let t = take_first us f m.at p (All-tail (AreUnrelated u) v us apart) sound (λ b is. (m.so b is).0) in
      record { next = t.next; sound = t.sound; step = t.step; path = Step v us m.at to t.path s (λ b is. (m.so b is).1) }
  take_first us _ to (Alone _ d how f g p is_mine st) apart sound steps = by (names_it u d) refl (λ m st. take_first us f m p apart sound st)
    where
      by : (z : Bool) → names_it u d ≡ z → ((m : Branch → Standing) → Steps f m → TakenFirst us m) → TakenFirst us to
      by true e below = below to (λ b is. absorb u d how e b (f b) (g b) (to b) (st b is) (steps b is))
      by false e below =
          let m = choose mine (λ b x. StepBy u b (f b) x × StepAlone d how b x (to b))
          (λ b is. let w = behind u d how e b (f b) (g b) (to b) (st b is) (steps b is) in (w.0, (w.1, w.2))) in
          let t = below m.at (λ b is. (m.so b is).0) in
          record { next = t.next; sound = t.sound; step = t.step; path = Alone us d how m.at to t.path is_mine (λ b is. (m.so b is).1) }

  -- so is what is told next
  pub take_next : (us rest : List Untold) (to : Branch → Standing) → Path mine mid us to → IsToldNext u us rest → TakenFirst rest to
  take_next _ rest to (Here _ same) next = elim next [ ]
  take_next _ _ to (Step _ _ f g p s st) (Newest us apart) = take_first us f to p apart s st
  take_next _ _ to (Step _ _ f g p s st) (Before v us rest next) =
      let t = take_next us rest f p next in
      record { next = t.next; sound = t.sound; step = t.step; path = Step v rest f to t.path s st }
  take_next us rest to (Alone _ d how f g p is_mine st) next =
      let t = take_next us rest f p next in
      record { next = t.next; sound = t.sound; step = t.step; path = Alone rest d how f to t.path is_mine st }

-- it leads to whatever these branches stand at alike
pub same_path : (mine : Branch → Bool) (mid : Branch → Standing) (us : List Untold) (from to : Branch → Standing) → Path mine mid us from
    → ((b : Branch) → mine b ≡ true → to b ≡ from b) → Path mine mid us to
same_path mine mid _ _ to (Here from same) e = Here to (λ b is. e b is ∙ same b is)
same_path mine mid _ _ to (Step u us f g p s st) e = Step u us f to p s (λ b is. subst (λ z. StepBy u b (f b) z) (sym (e b is)) (st b is))
same_path mine mid us _ to (Alone _ d how f g p is_mine st) e =
    Alone us d how f to p is_mine (λ b is. subst (λ z. StepAlone d how b (f b) z) (sym (e b is)) (st b is))
