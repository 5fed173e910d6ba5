-- A resource manager some of whose lines break.
use Rattle.std.proofs.Common.{◌≡◌, ◌≢◌, ◌⊎◌, inl, inr, ℕ, true, false, refl, sym, ap, ◌∙◌, subst}
use Rattle.std.specs.Prelude.{◌==◌, if◌then◌else◌, nat_eq}
use Rattle.std.proofs.lemmas.Bool.{eq-eqb}
use Rattle.std.proofs.lemmas.Bool.Decides.{eqb_tells}
use Rattle.xa_base.specs.Branch.{xid_of_branch}
use Rattle.xa_model.specs.Facts as facts
use Rattle.xa_base.specs.HeldBranch.{HeldBranch, broken_by}
use Rattle.xa_model.specs.Facts.InDoubt.{scan, xid_of_name}
use Rattle.xa_base.specs.Scan.{Scan.NotOpen}
use Rattle.xa_base.specs.Standing.{is_in_doubt}
use Rattle.xa_base.specs.StateTable.{broken}
use Rattle.xa_model.specs.Trace.{Happening, Happening.Crashed, Trace, Trace.Then}
use Rattle.xa_base.specs.declared.branch.Branch.{Branch}
use Rattle.xa_base.specs.declared.step.Part.TheVariants as Parts
use Rattle.xa_base.proofs.StateLemmas.{broken_in_doubt, broken_twice}
use Rattle.xa_rm.proofs.TableLemmas.{broken_by_in_doubt}
use Rattle.xa_system.specs.RmInHistory.{IsHeldAs, RmStands, scan_by}
use Rattle.xa_system.specs.Steps.{Breaks, Crashes}
use Rattle.xa_rm.specs.Look.{Look}

-- ** all lines

-- the happening breaks all lines of a resource manager, and does nothing else to its branches
pub record BreaksAll (tr : Trace) (e : Happening) (r : ℕ) : Type 0 where
  pub standing : (b : Branch) → b.rm ≡ r → facts.standing (Then tr e) b ≡ broken (facts.standing tr b)
  pub vote : (b : Branch) → b.rm ≡ r → facts.vote (Then tr e) b ≡ facts.vote tr b
  pub retries : (b : Branch) → b.rm ≡ r → facts.retries (Then tr e) b ≡ facts.retries tr b
  pub closed : scan (Then tr e) r ≡ NotOpen

module _ {R : Type 0} (look : R → Look) where
  pub crash_stands : (tr : Trace) (e : Happening) (r : ℕ) (old new : R) → BreaksAll tr e r → Crashes look old new
      → RmStands look tr r old → RmStands look (Then tr e) r new
  crash_stands tr e r old new breaks did stand = record {
    branches = record {
      own = λ b h at. subst (IsHeldAs (Then tr e) b) (sym (did.held (xid_of_branch b))) (record {
        standing = ap broken (stand.branches.own b h at).standing ∙ sym (breaks.standing b at);
        vote = (stand.branches.own b h at).vote ∙ sym (breaks.vote b at);
        retries = (stand.branches.own b h at).retries ∙ sym (breaks.retries b at);
        starter = inl (broken_twice ((look old).held (xid_of_branch b)).standing);
      });
      others =
          λ x other. ap (λ (h : HeldBranch). is_in_doubt h.standing) (did.held x) ∙ broken_in_doubt ((look old).held x).standing
          ∙ stand.branches.others x other;
    };
    scan = did.scans 0 ∙ sym (ap (scan_by xid_of_name) breaks.closed);
  }

  -- ** one line

  broke_one : (tr : Trace) (t r : ℕ) (b : Branch) (h : HeldBranch) → b.rm ≡ r → IsHeldAs tr b h
      → IsHeldAs (Then tr (Crashed (Parts.Line t r))) b (broken_by t h)
  broke_one tr t r b h at held_as = by_starter (eqb_tells h.starter t) (eqb_tells t b.thread) held_as.starter
    where
      rm_same : nat_eq r b.rm ≡ true
      rm_same = eq-eqb r b.rm (sym at)

      by_starter : ((nat_eq h.starter t ≡ true) × (h.starter ≡ t)) ⊎ ((nat_eq h.starter t ≡ false) × (h.starter ≢ t))
          → ((nat_eq t b.thread ≡ true) × (t ≡ b.thread)) ⊎ ((nat_eq t b.thread ≡ false) × (t ≢ b.thread))
          → (broken h.standing ≡ h.standing) ⊎ (h.starter ≡ b.thread) → IsHeldAs (Then tr (Crashed (Parts.Line t r))) b (broken_by t h)
      by_starter (inl s) (inl q) o =
          rw s.0 (record {
            standing = rw (q.0, rm_same) (ap broken held_as.standing);
            vote = held_as.vote;
            retries = held_as.retries;
            starter = inl (broken_twice h.standing);
          })
      by_starter (inl s) (inr q) (inl stable) =
          rw s.0 (record {
            standing = rw q.0 (stable ∙ held_as.standing);
            vote = held_as.vote;
            retries = held_as.retries;
            starter = inl (broken_twice h.standing);
          })
      by_starter (inl s) (inr q) (inr own) = absurd (q.1 (sym s.1 ∙ own))
      by_starter (inr s) (inl q) (inl stable) =
          rw s.0 (record {
            standing = rw (q.0, rm_same) (sym stable ∙ ap broken held_as.standing);
            vote = held_as.vote;
            retries = held_as.retries;
            starter = inl stable;
          })
      by_starter (inr s) (inl q) (inr own) = absurd (s.1 (own ∙ sym q.1))
      by_starter (inr s) (inr q) o = rw s.0 (record { standing = rw q.0 held_as.standing; vote = held_as.vote; retries = held_as.retries; starter = o })

  scan_broken : (tr : Trace) (t r : ℕ)
      → (if (0 == t) then NotOpen else scan_by xid_of_name (scan tr r)) ≡ scan_by xid_of_name (scan (Then tr (Crashed (Parts.Line t r))) r)
  scan_broken tr t r = by_thread (eqb_tells 0 t) (eqb_tells t 0)
    where
      by_thread : ((nat_eq 0 t ≡ true) × (0 ≡ t)) ⊎ ((nat_eq 0 t ≡ false) × (0 ≢ t))
          → ((nat_eq t 0 ≡ true) × (t ≡ 0)) ⊎ ((nat_eq t 0 ≡ false) × (t ≢ 0))
          → (if (0 == t) then NotOpen else scan_by xid_of_name (scan tr r)) ≡ scan_by xid_of_name (scan (Then tr (Crashed (Parts.Line t r))) r)
      by_thread (inl p) (inl q) = rw (p.0, q.0, eq-eqb r r refl) refl
      by_thread (inl p) (inr q) = absurd (q.1 (sym p.1))
      by_thread (inr p) (inl q) = absurd (p.1 (sym q.1))
      by_thread (inr p) (inr q) = rw (p.0, q.0) refl

  pub break_stands : (tr : Trace) (t r : ℕ) (old new : R) → Breaks look t old new → RmStands look tr r old
      → RmStands look (Then tr (Crashed (Parts.Line t r))) r new
  break_stands tr t r old new did stand = record {
    branches = record {
      own = λ b h at. subst (IsHeldAs (Then tr (Crashed (Parts.Line t r))) b) (sym (did.held (xid_of_branch b)))
          (broke_one tr t r b ((look old).held (xid_of_branch b)) at (stand.branches.own b h at));
      others = λ x other. ap (λ (h : HeldBranch). is_in_doubt h.standing) (did.held x) ∙ broken_by_in_doubt t ((look old).held x)
          ∙ stand.branches.others x other;
    };
    scan = did.scans 0 ∙ ap (λ s. if (0 == t) then NotOpen else s) stand.scan ∙ scan_broken tr t r;
  }
