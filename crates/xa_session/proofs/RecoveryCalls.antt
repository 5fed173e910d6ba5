-- A recovery and the calls that it comes to, in histories.
use Rattle.std.proofs.Common.{◌≡◌, ℕ, false, List, [], ◌∷◌, map, Some, None, refl, sym, ap, ◌∙◌, subst, append_assoc}
use Rattle.std.proofs.lemmas.List.{append-nil}
use Rattle.xa_base.specs.Xid.{Xid}
use Rattle.xa_base.specs.declared.call.Call as Asking
use Rattle.xa_line.specs.Grid.{HasLine, IsWhole, line_at, with_line}
use Rattle.xa_line.specs.Histories.{LineStands, known as known_call}
use Rattle.xa_line.specs.Traffic.{Traffic, answered, answers_heard, calls_issued, calls_taken, with_more}
use Rattle.xa_line.proofs.GridLaws.{whole-with_line}
use Rattle.xa_line.proofs.TrafficLaws.{line_goes_on}
use Rattle.xa_line.proofs.HistoryLaws.{closed_known}
use Rattle.xa_line.proofs.ChangedLines.{line_stays, lines_with}
use Rattle.xa_model.specs.Facts as facts
use Rattle.xa_model.specs.Facts.Distinct.{ApartRows}
use Rattle.xa_model.specs.Protocol.{Right}
use Rattle.xa_model.specs.Trace.{Call, Happening, Happening.Resolved, Happening.ResolvedOpen, Line, Trace, Trace.Then, line, line_eq}
use Rattle.xa_model.proofs.Keys.{line_eq-refl}
use Rattle.xa_tm.specs.Book.{Doubt.NoDoubt, after, book_after, doubt_of_happening}
use Rattle.xa_tm.specs.Calls.{book_in}
use Rattle.xa_tm.specs.Refusing.{resolved_in, resolved_open_in}
use Rattle.xa_tm.proofs.History.Recovery.{resolved_is, resolved_open_is}
use Rattle.xa_session.specs.Following.{AreRight, LeadsTo, StandsIn}
use Rattle.xa_session.specs.Session.{LetsWait, recovery_refusal}
use Rattle.xa_session.specs.declared.session.Session.{Session}
use Rattle.xa_session.proofs.Books.{book_goes, resolves_alike, resolves_open_alike}
use Rattle.xa_tm.specs.Release.{MayFollow}
use Rattle.xa_session.proofs.Lines.{may_recover, may_tell}
use Rattle.xa_session.proofs.Recoveries.{closed_in}
use Rattle.xa_session.proofs.LostLines.{up_in}

more_issued : (tr : Trace) (e : Happening) (l : Line) (old : Traffic) (calls : List (Asking.Call Xid)) → LineStands tr l old
    → facts.breaks tr e l ≡ false → facts.new_taken e l ≡ [] → facts.new_heard e l ≡ []
    → map known_call calls ≡ map Some (facts.new_calls tr e l) → LineStands (Then tr e) l (record old { calls = with_more old.calls calls })
more_issued tr e l old calls stands unbroken no_taken no_heard are =
    line_goes_on tr e l old (record old { calls = with_more old.calls calls }) calls [] [] stands unbroken
    (sym (append_assoc (calls_taken old) old.calls.waiting calls)) are
    (sym (append-nil (answered old))) (rw no_taken refl) (sym (append-nil (answers_heard old))) (rw no_heard refl) stands.each_answered

-- what a recovery is to the lines and the resource managers
record IsRecovery (tr : Trace) (e : Happening) (r : ℕ) (calls : List Call) : Type 0 where
  pub unbroken : (l : Line) → facts.breaks tr e l ≡ false
  pub here : facts.new_calls tr e (line 0 r) ≡ calls
  pub elsewhere : (l : Line) → line_eq (line 0 r) l ≡ false → facts.new_calls tr e l ≡ []
  pub taken : (l : Line) → facts.new_taken e l ≡ []
  pub heard : (l : Line) → facts.new_heard e l ≡ []
  pub rms_up : (q : ℕ) → facts.rm_up (Then tr e) q ≡ facts.rm_up tr q
  pub origin : facts.origin (Then tr e) ≡ facts.origin tr
  pub doubt : doubt_of_happening tr e ≡ NoDoubt

resolved_so : (tr : Trace) (r : ℕ) → IsRecovery tr (Resolved r) r (facts.resolving_calls tr (facts.page tr r))
resolved_so tr r = record {
  unbroken = λ l. refl;
  here = rw (line_eq-refl (line 0 r)) refl;
  elsewhere = λ l apart. rw apart refl;
  taken = λ l. refl;
  heard = λ l. refl;
  rms_up = λ q. refl;
  origin = refl;
  doubt = refl;
}

open_so : (tr : Trace) (r : ℕ) → IsRecovery tr (ResolvedOpen r) r (facts.resolving_calls (Then tr (ResolvedOpen r)) (facts.page tr r))
open_so tr r = record {
  unbroken = λ l. refl;
  here = rw (line_eq-refl (line 0 r)) refl;
  elsewhere = λ l apart. rw apart refl;
  taken = λ l. refl;
  heard = λ l. refl;
  rms_up = λ q. refl;
  origin = refl;
  doubt = refl;
}

module _ {L : Type 0} (old new : Session L) (r : ℕ) where
  unclosed_in : (tr : Trace) (n : ℕ) → StandsIn tr old → recovery_refusal old r n ≡ None → facts.is_closed tr (line 0 r) ≡ false
  unclosed_in tr n stands none =
      let may = may_tell old 0 r (may_recover old r n none).0 in
      sym (closed_known (calls_issued (line_at old.lines 0 r)) (facts.issued tr (line 0 r)) (stands.lines 0 r may.has).all_issued)
      ∙ closed_in (line_at old.lines 0 r) n (may_recover old r n none).1

  recovery_goes : (tr : Trace) (e : Happening) (n : ℕ) (known : List Call) (calls : List (Asking.Call Xid)) → StandsIn tr old → Right tr e
      → IsRecovery tr e r known → recovery_refusal old r n ≡ None → map known_call calls ≡ map Some known
      → MayFollow (book_in old.manager) e → book_in new.manager ≡ after (book_in old.manager) e
      → new.lines ≡ with_line old.lines 0 r (record (line_at old.lines 0 r) { calls = with_more (line_at old.lines 0 r).calls calls })
      → AreRight tr (e ∷ []) × StandsIn (Then tr e) new
  recovery_goes tr e n known calls stands right recovery none are may_be book lines =
      let at = line_at old.lines 0 r in
      let may = may_tell old 0 r (may_recover old r n none).0 in
      let stand = lines_with (Then tr e) old.lines 0 r (record at { calls = with_more at.calls calls }) stands.whole may.has
      (more_issued tr e (line 0 r) at calls (stands.lines 0 r may.has) (recovery.unbroken (line 0 r)) (recovery.taken (line 0 r)) (recovery.heard (line 0 r))
      (are ∙ ap (map Some) (sym recovery.here)))
      (λ u q has_u apart. line_stays tr e (line u q) (line_at old.lines u q) (recovery.unbroken (line u q)) (recovery.elsewhere (line u q) apart)
      (recovery.taken (line u q)) (recovery.heard (line u q)) (stands.lines u q has_u)) in (
        (right, tt),
        record {
          run = (stands.run, right);
          apart = subst (λ o. ApartRows o.rows) (sym recovery.origin) stands.apart;
          threads = ap (λ g. g.threads) lines ∙ stands.threads ∙ ap (λ o. o.threads) (sym recovery.origin);
          rms = ap (λ g. g.rms) lines ∙ stands.rms ∙ ap (λ o. o.rms) (sym recovery.origin);
          whole = subst IsWhole (sym lines) (whole-with_line old.lines 0 r (record at { calls = with_more at.calls calls }) stands.whole);
          rms_up = λ q. recovery.rms_up q ∙ stands.rms_up q;
          book =
              book_goes tr (book_in old.manager) stands.book e _ stands.run right stands.apart may_be
              (book ∙ ap (λ d. book_after (book_in old.manager) d e) (sym recovery.doubt));
          lines =
              λ u q has. subst (λ g. LineStands (Then tr e) (line u q) (line_at g u q)) (sym lines) (stand u q (subst (λ g. HasLine g u q) lines has));
        },
      )

  pub resolved_follows : (n : ℕ) → recovery_refusal old r n ≡ None → new.manager ≡ old.manager
      → LetsWait r (resolved_in (book_in old.manager) r) old.lines new.lines
      → LeadsTo (Resolved r ∷ []) old new
  resolved_follows n none same waits tr stands =
      let may = may_tell old 0 r (may_recover old r n none).0 in
      recovery_goes tr (Resolved r) n (facts.resolving_calls tr (facts.page tr r)) waits.calls stands
      (up_in old new 0 r tr stands may.up, unclosed_in tr n stands none) (resolved_so tr r) none
      (waits.are ∙ ap (map Some) (resolves_alike tr (book_in old.manager) stands.book r ∙ resolved_is tr r)) tt (ap book_in same) waits.lines

  pub open_resolved_follows : (n : ℕ) → recovery_refusal old r n ≡ None → book_in new.manager ≡ after (book_in old.manager) (ResolvedOpen r)
      → LetsWait r (resolved_open_in (book_in old.manager) r) old.lines new.lines → LeadsTo (ResolvedOpen r ∷ []) old new
  open_resolved_follows n none book waits tr stands =
      let may = may_tell old 0 r (may_recover old r n none).0 in
      recovery_goes tr (ResolvedOpen r) n (facts.resolving_calls (Then tr (ResolvedOpen r)) (facts.page tr r)) waits.calls stands
      (up_in old new 0 r tr stands may.up, unclosed_in tr n stands none) (open_so tr r) none
      (waits.are ∙ ap (map Some) (resolves_open_alike tr (book_in old.manager) stands.book r ∙ resolved_open_is tr r)) tt book waits.lines
