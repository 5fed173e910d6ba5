-- How a flow over a ring steps. In the last two, r and k are what came out and what waits, s is
-- what went in, and n is how much had come out when the flow began.
use Rattle.std.proofs.Common.{◌≡◌, ◌≤◌, ℕ, List, [], ◌∷◌, ◌++◌, length, drop, append_assoc}
use Rattle.std.proofs.lemmas.List.{append_cancel_left, drop-append-le}
use Rattle.xa_line.specs.Traffic.{Flow, all_of, with_one_more, PassesOn}

module _ {T : Type 0} where
  -- what comes out went in before
  pub all_of-PassesOn : (f : Flow T) (x : T) (g : Flow T) → PassesOn f x g → all_of g ≡ all_of f
  all_of-PassesOn f x g p = rw (p.through, p.oldest) (append_assoc f.gone (x ∷ []) g.waiting)

  abbrev pub flow : List T → List T → Flow T
  flow gone waiting = record { gone = gone; waiting = waiting }

  -- one item more went in
  pub push-flow : (n n' : ℕ) (r r' k k' s s' : List T) (x : T) (f : Flow T)
      → n' ≡ n → flow (drop n r) k ≡ f → r ++ k ≡ s → s' ≡ s ++ x ∷ [] → r' ≡ r → r' ++ k' ≡ s'
      → flow (drop n' r') k' ≡ with_one_more f x
  push-flow n n' r r' k k' s s' x f from e all put same seen =
      let a : r ++ k ++ x ∷ [] ≡ r ++ (k ++ x ∷ []) = append_assoc r k (x ∷ []) in
      let b : r ++ k' ≡ r ++ (k ++ x ∷ []) = cc in
      let w : k' ≡ k ++ x ∷ [] = append_cancel_left r k' (k ++ x ∷ []) b in
      rw (← e, from, same, w)

  -- the oldest item came out
  pub pop-flow : (n n' : ℕ) (r r' r'' k k' k'' s : List T) (x : T) (f : Flow T)
      → n' ≡ n → flow (drop n r) k ≡ f → n ≤ length r → r ++ k ≡ s → r' ≡ r ++ x ∷ [] → k ≡ x ∷ k' → r'' ≡ r' → r'' ++ k'' ≡ s
      → PassesOn f x (flow (drop n' r'') k'')
  pop-flow n n' r r' r'' k k' k'' s x f from e within all came first same seen =
      let a : r ++ x ∷ [] ++ k' ≡ r ++ (x ∷ k') = append_assoc r (x ∷ []) k' in
      let b : r ++ x ∷ [] ++ k'' ≡ r ++ x ∷ [] ++ k' = cc in
      let w : k'' ≡ k' = append_cancel_left (r ++ x ∷ []) k'' k' b in
      rw (← e) (record {
        oldest = cc;
        through = rw (from, same, came) (drop-append-le n r (x ∷ []) within);
      })

  -- what waits is still seen after a look
  pub seen-again : (n : ℕ) (r r' k k' s s' : List T) (f : Flow T)
      → flow (drop n r) k ≡ f → r ++ k ≡ s → r' ≡ r → s' ≡ s → r' ++ k' ≡ s' → k' ≡ f.waiting
  seen-again n r r' k k' s s' f e all same still seen =
      let b : r ++ k' ≡ r ++ k = cc in
      rw (← e) (append_cancel_left r k' k b)
