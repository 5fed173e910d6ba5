-- A Take is nothing to the other resource managers.
use Rattle.std.proofs.Common.{◌≡◌, ◌≢◌, ℕ, Bool, true, false, List, refl, sym, ◌∙◌}
use Rattle.std.specs.Prelude.{◌&&◌, nat_eq}
use Rattle.std.proofs.lemmas.Bool.{ne_eqb}
use Rattle.xa_base.specs.declared.call.Call.TheVariants as Calls
use Rattle.xa_base.specs.StateTable.{on}
use Rattle.xa_base.specs.declared.answer.Answer.TheVariants.{Ret, Page}
use Rattle.xa_base.specs.Branch.{branch_eq, gtrid_eq}
use Rattle.xa_model.specs.Facts as facts
use Rattle.xa_model.specs.Trace.{Answer, Call, Happening.Took, Kind, Kind.Commit, Line, Name, Trace, Trace.Then, Kind.Start, Kind.Join, Kind.End, Kind.Prepare, Kind.OnePhase, Kind.Rollback, Kind.Forget}
use Rattle.xa_line.proofs.ChangedLines.{lines_apart_rm}
use Rattle.xa_base.specs.declared.branch.Branch.{Branch}
use Rattle.xa_system.specs.Trace.{IsHome}
use Rattle.xa_base.proofs.BranchOrder.{branch_numbers}
use Rattle.xa_system.proofs.OnBranch.{standing_none}
use Rattle.xa_system.proofs.Rms.Unaffected.{IsQuiet}
use Rattle.xa_system.proofs.Rms.AfterTake.{retries_stay}

-- a branch of another resource manager is another branch
pub elsewhere : (b c : Branch) (r s : ℕ) → s ≢ r → c.rm ≡ r → b.rm ≡ s → branch_eq c b ≡ false
elsewhere b c r s apart at there =
    sym (branch_numbers c b) ∙ by_rest (gtrid_eq c.gtrid b.gtrid) (nat_eq c.thread b.thread) (ne_eqb c.rm b.rm (λ e. apart (sym there ∙ sym e ∙ at)))
  where
    by_rest : (p q : Bool) → nat_eq c.rm b.rm ≡ false → (p && (q && nat_eq c.rm b.rm)) ≡ false
    by_rest true true e = e
    by_rest true false e = refl
    by_rest false q e = refl

retries_page : (tr : Trace) (l : Line) (k : Kind) (b c : Branch) (ns : List Name) → facts.retries (Then tr (Took l (on k c) (Page ns))) b ≡ facts.retries tr b
retries_page tr l Commit b c ns = refl
retries_page tr l k b c ns = refl

pub took_quiet : (tr : Trace) (l : Line) (k : Call) (a : Answer) (s : ℕ) → IsHome l k → s ≢ l.rm → IsQuiet tr (Took l k a) s
took_quiet tr l (Calls.Start c false) (Ret code) s home apart = record {
  branches = record {
    standing = λ b at. rw (elsewhere b c l.rm s apart home at) refl;
    vote = λ b at. refl;
    retries = λ b at. retries_stay tr l Start b c code (elsewhere b c l.rm s apart home at);
  };
  scan_stays = refl;
}
took_quiet tr l (Calls.Start c false) (Page ns) s home apart =
    record { branches = record { standing = λ b at. refl; vote = λ b at. refl; retries = λ b at. retries_page tr l Start b c ns }; scan_stays = refl }
took_quiet tr l (Calls.Start c true) (Ret code) s home apart = record {
  branches = record {
    standing = λ b at. rw (elsewhere b c l.rm s apart home at) refl;
    vote = λ b at. refl;
    retries = λ b at. retries_stay tr l Join b c code (elsewhere b c l.rm s apart home at);
  };
  scan_stays = refl;
}
took_quiet tr l (Calls.Start c true) (Page ns) s home apart =
    record { branches = record { standing = λ b at. refl; vote = λ b at. refl; retries = λ b at. retries_page tr l Join b c ns }; scan_stays = refl }
took_quiet tr l (Calls.End c f) (Ret code) s home apart = record {
  branches = record {
    standing = λ b at. rw (elsewhere b c l.rm s apart home at) refl;
    vote = λ b at. refl;
    retries = λ b at. retries_stay tr l (End f) b c code (elsewhere b c l.rm s apart home at);
  };
  scan_stays = refl;
}
took_quiet tr l (Calls.End c f) (Page ns) s home apart =
    record { branches = record { standing = λ b at. refl; vote = λ b at. refl; retries = λ b at. retries_page tr l (End f) b c ns }; scan_stays = refl }
took_quiet tr l (Calls.Prepare c) (Ret code) s home apart = record {
  branches = record {
    standing = λ b at. rw (elsewhere b c l.rm s apart home at) refl;
    vote = λ b at. refl;
    retries = λ b at. retries_stay tr l Prepare b c code (elsewhere b c l.rm s apart home at);
  };
  scan_stays = refl;
}
took_quiet tr l (Calls.Prepare c) (Page ns) s home apart =
    record { branches = record { standing = λ b at. refl; vote = λ b at. refl; retries = λ b at. retries_page tr l Prepare b c ns }; scan_stays = refl }
took_quiet tr l (Calls.Commit c false) (Ret code) s home apart = record {
  branches = record {
    standing = λ b at. rw (elsewhere b c l.rm s apart home at) refl;
    vote = λ b at. refl;
    retries = λ b at. retries_stay tr l Commit b c code (elsewhere b c l.rm s apart home at);
  };
  scan_stays = refl;
}
took_quiet tr l (Calls.Commit c false) (Page ns) s home apart =
    record { branches = record { standing = λ b at. refl; vote = λ b at. refl; retries = λ b at. retries_page tr l Commit b c ns }; scan_stays = refl }
took_quiet tr l (Calls.Commit c true) (Ret code) s home apart = record {
  branches = record {
    standing = λ b at. rw (elsewhere b c l.rm s apart home at) refl;
    vote = λ b at. refl;
    retries = λ b at. retries_stay tr l OnePhase b c code (elsewhere b c l.rm s apart home at);
  };
  scan_stays = refl;
}
took_quiet tr l (Calls.Commit c true) (Page ns) s home apart =
    record { branches = record { standing = λ b at. refl; vote = λ b at. refl; retries = λ b at. retries_page tr l OnePhase b c ns }; scan_stays = refl }
took_quiet tr l (Calls.Rollback c) (Ret code) s home apart = record {
  branches = record {
    standing = λ b at. rw (elsewhere b c l.rm s apart home at) refl;
    vote = λ b at. refl;
    retries = λ b at. retries_stay tr l Rollback b c code (elsewhere b c l.rm s apart home at);
  };
  scan_stays = refl;
}
took_quiet tr l (Calls.Rollback c) (Page ns) s home apart =
    record { branches = record { standing = λ b at. refl; vote = λ b at. refl; retries = λ b at. retries_page tr l Rollback b c ns }; scan_stays = refl }
took_quiet tr l (Calls.Forget c) (Ret code) s home apart = record {
  branches = record {
    standing = λ b at. rw (elsewhere b c l.rm s apart home at) refl;
    vote = λ b at. refl;
    retries = λ b at. retries_stay tr l Forget b c code (elsewhere b c l.rm s apart home at);
  };
  scan_stays = refl;
}
took_quiet tr l (Calls.Forget c) (Page ns) s home apart =
    record { branches = record { standing = λ b at. refl; vote = λ b at. refl; retries = λ b at. retries_page tr l Forget b c ns }; scan_stays = refl }
took_quiet tr l Calls.OpenRm a s home apart =
    record { branches = record { standing = λ b at. standing_none tr l Calls.OpenRm a b refl; vote = λ b at. refl; retries = λ b at. refl }; scan_stays = refl }
took_quiet tr l Calls.CloseRm a s home apart =
    record {
      branches = record { standing = λ b at. standing_none tr l Calls.CloseRm a b refl; vote = λ b at. refl; retries = λ b at. refl };
      scan_stays = refl;
    }
took_quiet tr l (Calls.Recover n x y) a s home apart =
    record {
      branches = record { standing = λ b at. standing_none tr l (Calls.Recover n x y) a b refl; vote = λ b at. refl; retries = λ b at. refl };
      scan_stays = rw (lines_apart_rm l.thread l.rm 0 s apart) refl;
    }
