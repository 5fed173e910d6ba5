-- A line that is lost, in histories.
use Rattle.std.proofs.Common.{◌≡◌, ℕ, true, false, refl, sym, ap, ◌∙◌, subst}
use Rattle.std.specs.Prelude.{◌&&◌, nat_lt}
use Rattle.xa_base.specs.declared.step.Part.TheVariants as Parts
use Rattle.xa_line.specs.Grid.{HasLine, IsWhole, grid_has_line, line_at, with_line}
use Rattle.xa_line.specs.Histories.{LineStands}
use Rattle.xa_line.specs.Traffic.{no_traffic}
use Rattle.xa_line.proofs.GridLaws.{whole-with_line}
use Rattle.xa_line.proofs.TrafficLaws.{line_renewed}
use Rattle.xa_line.proofs.ChangedLines.{line_stays, lines_with}
use Rattle.xa_model.specs.Facts as facts
use Rattle.xa_model.specs.Facts.Distinct.{ApartRows}
use Rattle.xa_model.specs.Protocol.{IsRun, Right}
use Rattle.xa_model.specs.Trace.{Answer as KnownAnswer, Call, Happening.Crashed, Happening.Took, Trace, Trace.Then, line, line_eq}
use Rattle.xa_model.proofs.Keys.{line_eq-refl}
use Rattle.xa_tm.specs.Book.{after}
use Rattle.xa_tm.specs.Calls.{book_in}
use Rattle.xa_session.specs.Following.{BookStands, LeadsByLoss, StandsIn}
use Rattle.xa_session.specs.Session.{known_waiting}
use Rattle.xa_session.specs.declared.session.Session.{Session}
use Rattle.xa_session.proofs.Books.{book_goes, up_alike}
use Rattle.xa_session.proofs.Lines.{MayTell}
use Rattle.xa_session.proofs.WaitingCalls.{first_waits}

-- a session stands in a history except for one line
record StandsBeside {L : Type 0} (tr : Trace) (t r : ℕ) (s : Session L) : Type 0 where
  run : IsRun tr
  apart : ApartRows (facts.origin tr).rows
  threads : s.lines.threads ≡ (facts.origin tr).threads
  rms : s.lines.rms ≡ (facts.origin tr).rms
  whole : IsWhole s.lines
  rms_up : (q : ℕ) → facts.rm_up tr q ≡ true
  book : BookStands tr (book_in s.manager)
  others : (u q : ℕ) → HasLine s.lines u q → line_eq (line t r) (line u q) ≡ false → LineStands tr (line u q) (line_at s.lines u q)

beside : {L : Type 0} (tr : Trace) (t r : ℕ) (s : Session L) → StandsIn tr s → StandsBeside tr t r s
beside tr t r s stands = record {
  run = stands.run;
  apart = stands.apart;
  threads = stands.threads;
  rms = stands.rms;
  whole = stands.whole;
  rms_up = stands.rms_up;
  book = stands.book;
  others = λ u q has apart. stands.lines u q has;
}

-- the same if a call on that line was done, and its answer not heard
beside_taken : {L : Type 0} (tr : Trace) (t r : ℕ) (s : Session L) (k : Call) (a : KnownAnswer) → StandsIn tr s → Right tr (Took (line t r) k a)
    → StandsBeside (Then tr (Took (line t r) k a)) t r s
beside_taken tr t r s k a stands right = record {
  run = (stands.run, right);
  apart = stands.apart;
  threads = stands.threads;
  rms = stands.rms;
  whole = stands.whole;
  rms_up = λ q. stands.rms_up q;
  book = stands.book;
  others =
      λ u q has apart. line_stays tr (Took (line t r) k a) (line u q) (line_at s.lines u q) refl refl (rw apart refl) refl
      (stands.lines u q has);
}

module _ {L : Type 0} (old new : Session L) (t r : ℕ) where
  pub there_in : (tr : Trace) → StandsIn tr old → grid_has_line old.lines t r ≡ true
      → (nat_lt t (facts.origin tr).threads && nat_lt r (facts.origin tr).rms) ≡ true
  there_in tr stands there = (λ i. nat_lt t (sym stands.threads i) && nat_lt r (sym stands.rms i)) ∙ there

  pub up_in : (tr : Trace) → StandsIn tr old → (book_in old.manager).up ≡ true → facts.up tr ≡ true
  up_in tr stands up = up_alike tr (book_in old.manager) stands.book ∙ up

  -- where the loss of the line leads, whatever was under way on it
  lost_goes : (tr : Trace) → StandsBeside tr t r old → MayTell old t r
      → book_in new.manager ≡ after (book_in old.manager) (Crashed (Parts.Line t r)) → new.lines ≡ with_line old.lines t r no_traffic
      → StandsIn (Then tr (Crashed (Parts.Line t r))) new
  lost_goes tr stands may book lines =
      let e = Crashed (Parts.Line t r) in
      let stand = lines_with (Then tr e) old.lines t r no_traffic stands.whole may.has (line_renewed tr e (line t r) (line_eq-refl (line t r)))
      (λ u q has_u apart. line_stays tr e (line u q) (line_at old.lines u q) apart refl refl refl (stands.others u q has_u apart)) in
      record {
        run = (stands.run, tt);
        apart = stands.apart;
        threads = ap (λ g. g.threads) lines ∙ stands.threads;
        rms = ap (λ g. g.rms) lines ∙ stands.rms;
        whole = subst IsWhole (sym lines) (whole-with_line old.lines t r no_traffic stands.whole);
        rms_up = λ q. stands.rms_up q;
        book = book_goes tr (book_in old.manager) stands.book e _ stands.run tt stands.apart tt book;
        lines =
            λ u q has. subst (λ g. LineStands (Then tr e) (line u q) (line_at g u q)) (sym lines) (stand u q (subst (λ g. HasLine g u q) lines has));
      }

  pub lost_follows : MayTell old t r → book_in new.manager ≡ after (book_in old.manager) (Crashed (Parts.Line t r))
      → new.lines ≡ with_line old.lines t r no_traffic → LeadsByLoss (line t r) (known_waiting old.lines t r) old new
  lost_follows may book lines tr stands =
      let first = first_waits old tr t r stands may.has may.there in (
        first,
        lost_goes tr (beside tr t r old stands) may book lines,
        λ k a is sound. lost_goes (Then tr (Took (line t r) k a)) (beside_taken tr t r old k a stands (first ∙ is, sound)) may book lines,
      )
