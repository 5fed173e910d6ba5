-- What a script changes: one branch, and nothing elsewhere.
use Rattle.std.proofs.Common.{◌≡◌, ◌≢◌, ◌≤◌, ◌⊎◌, inl, ℕ, Bool, true, false, refl, sym, ap, ◌∙◌, subst}
use Rattle.std.specs.Prelude.{if◌then◌else◌}
use Rattle.xa_log.specs.Content.{last_number}
use Rattle.xa_base.specs.Branch.{IsBranch, branch_eq, xid_of_branch}
use Rattle.xa_model.specs.Facts as facts
use Rattle.xa_base.specs.HeldBranch.{HeldBranch, completed_by}
use Rattle.xa_model.specs.Facts.InDoubt.{scan, xid_of_name}
use Rattle.xa_model.specs.Facts.{rm_up}
use Rattle.xa_base.specs.Standing.{is_in_doubt}
use Rattle.xa_base.specs.StateTable.{broken, completed}
use Rattle.xa_model.specs.Trace.{Happening, Happening.CompletedAlone, Happening.PutOff, Happening.Voted, Trace, Trace.Then}
use Rattle.xa_base.specs.declared.branch.Branch.{Branch}
use Rattle.xa_base.specs.declared.code.How.{How}
use Rattle.xa_base.specs.declared.state.Standing.{Standing}
use Rattle.xa_base.specs.declared.state.Standing.TheVariants.{Prepared}
use Rattle.xa_base.specs.declared.vote.Vote.{Vote}
use Rattle.xa_base.proofs.BranchKeys.{branch_eq-refl, branch_eq-true}
use Rattle.xa_rm.specs.ResourceManager.{Sets, retrying, voting}
use Rattle.xa_system.specs.RmInHistory.{IsHeldAs, RmStands, scan_by}
use Rattle.xa_system.proofs.Log.Changes.{IsUncounted}
use Rattle.xa_system.proofs.Rms.Unaffected.{IsQuiet}
use Rattle.xa_system.proofs.Histories.Standing.{IsEvent}
use Rattle.xa_system.proofs.Steps.TakeElsewhere.{elsewhere}
use Rattle.xa_system.proofs.Rms.AfterTake.{other_apart, same_tests}
use Rattle.xa_rm.specs.Look.{Look}

-- what a happening does to the named branch and to the others
pub record Scripts (tr : Trace) (e : Happening) (c : Branch) (change : HeldBranch → HeldBranch) : Type 0 where
  pub own : (h : HeldBranch) → IsHeldAs tr c h → IsHeldAs (Then tr e) c (change h)
  pub others : (b : Branch) → branch_eq c b ≡ false → (h : HeldBranch) → IsHeldAs tr b h → IsHeldAs (Then tr e) b h
  pub scan_stays : scan (Then tr e) c.rm ≡ scan tr c.rm

pub script_stands : {R : Type 0} (look : R → Look) (tr : Trace) (e : Happening) (c : Branch) (change : HeldBranch → HeldBranch) (old new : R)
    → IsBranch c → Scripts tr e c change
    → Sets (xid_of_branch c) change (look old) (look new) → RmStands look tr c.rm old → RmStands look (Then tr e) c.rm new
script_stands look tr e c change old new fits scripts sets stand = record {
  branches = record {
    own = λ b h at. by_test b h at (branch_eq c b) refl;
    others =
        λ x other. ap (λ (h : HeldBranch). is_in_doubt h.standing)
        (sets.held x ∙ ap (λ t. if t then change ((look old).held x) else (look old).held x) (other_apart c.rm x c fits refl other))
        ∙ stand.branches.others x other;
  };
  scan = sets.scans 0 ∙ stand.scan ∙ ap (scan_by xid_of_name) (sym scripts.scan_stays);
}
  where
    by_test : (b : Branch) → IsBranch b → b.rm ≡ c.rm → (t : Bool) → branch_eq c b ≡ t → IsHeldAs (Then tr e) b ((look new).held (xid_of_branch b))
    by_test b h at t is =
        subst (IsHeldAs (Then tr e) b) (sym (sets.held (xid_of_branch b) ∙ ap (λ u. if u then change ((look old).held (xid_of_branch b)) else (look old).held
        (xid_of_branch b)) (same_tests b c h fits ∙ is))) (by_case t is)
      where
        by_case : (t : Bool) → branch_eq c b ≡ t
            → IsHeldAs (Then tr e) b (if t then change ((look old).held (xid_of_branch b)) else (look old).held (xid_of_branch b))
        by_case true is =
            let same = branch_eq-true c b is in
            subst (λ d. IsHeldAs (Then tr e) d (change ((look old).held (xid_of_branch d)))) same
            (scripts.own ((look old).held (xid_of_branch c)) (stand.branches.own c fits refl))
        by_case false is = scripts.others b is ((look old).held (xid_of_branch b)) (stand.branches.own b h at)

pub voted : (tr : Trace) (c : Branch) (v : Vote) → Scripts tr (Voted c v) c (voting v)
voted tr c v = record {
  own = λ h a. record { standing = a.standing; vote = rw (branch_eq-refl c) refl; retries = a.retries; starter = a.starter };
  others = λ b apart h a. record { standing = a.standing; vote = rw apart a.vote; retries = a.retries; starter = a.starter };
  scan_stays = refl;
}

pub put_off : (tr : Trace) (c : Branch) (n : ℕ) → Scripts tr (PutOff c n) c (retrying n)
put_off tr c n = record {
  own = λ h a. record { standing = a.standing; vote = a.vote; retries = rw (branch_eq-refl c) refl; starter = a.starter };
  others = λ b apart h a. record { standing = a.standing; vote = a.vote; retries = rw apart a.retries; starter = a.starter };
  scan_stays = refl;
}

still_owned : (f : Standing) (how : How) (starter thread : ℕ) → (broken f ≡ f) ⊎ (starter ≡ thread)
    → (broken (completed f how) ≡ completed f how) ⊎ (starter ≡ thread)
still_owned Prepared how starter thread o = inl refl
still_owned f how starter thread o = o

pub ended_alone : (tr : Trace) (c : Branch) (how : How) → Scripts tr (CompletedAlone c how) c (completed_by how)
ended_alone tr c how = record {
  own = λ h a. record {
    standing = rw (branch_eq-refl c) (ap (λ f. completed f how) a.standing);
    vote = a.vote;
    retries = a.retries;
    starter = still_owned h.standing how h.starter c.thread a.starter;
  };
  others = λ b apart h a. record { standing = rw apart a.standing; vote = a.vote; retries = a.retries; starter = a.starter };
  scan_stays = refl;
}

-- a script is elsewhere to the other resource managers
pub record IsScript (tr : Trace) (e : Happening) (c : Branch) : Type 0 where
  pub quiet : (r : ℕ) → r ≢ c.rm → IsQuiet tr e r
  pub ups : (r : ℕ) → rm_up (Then tr e) r ≡ rm_up tr r
  pub fits : facts.incarnation tr ≤ last_number → facts.incarnation (Then tr e) ≤ last_number
  pub uncounted : IsUncounted e
  pub event : IsEvent e

pub voted_script : (tr : Trace) (c : Branch) (v : Vote) → IsScript tr (Voted c v) c
voted_script tr c v = record {
  quiet =
      λ r apart. record {
        branches = record { standing = λ b at. refl; vote = λ b at. rw (elsewhere b c c.rm r apart refl at) refl; retries = λ b at. refl };
        scan_stays = refl;
      };
  ups = λ r. refl;
  fits = λ h. h;
  uncounted = λ n. refl;
  event = tt;
}

pub put_off_script : (tr : Trace) (c : Branch) (n : ℕ) → IsScript tr (PutOff c n) c
put_off_script tr c n = record {
  quiet =
      λ r apart. record {
        branches = record { standing = λ b at. refl; vote = λ b at. refl; retries = λ b at. rw (elsewhere b c c.rm r apart refl at) refl };
        scan_stays = refl;
      };
  ups = λ r. refl;
  fits = λ h. h;
  uncounted = λ n. refl;
  event = tt;
}

pub alone_script : (tr : Trace) (c : Branch) (how : How) → IsScript tr (CompletedAlone c how) c
alone_script tr c how = record {
  quiet =
      λ r apart. record {
        branches = record { standing = λ b at. rw (elsewhere b c c.rm r apart refl at) refl; vote = λ b at. refl; retries = λ b at. refl };
        scan_stays = refl;
      };
  ups = λ r. refl;
  fits = λ h. h;
  uncounted = λ n. refl;
  event = tt;
}
