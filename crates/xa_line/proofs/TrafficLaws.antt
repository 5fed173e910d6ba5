-- What waits on a line is what waits in a history if the two stand alike, and how a line goes on to
-- stand so.
use Rattle.std.proofs.Common.{◌≡◌, refl, sym, ap, ◌∙◌, arith, ℕ, List, [], ◌∷◌, ◌++◌, length, length-append, map, true, false, Option, Some}
use Rattle.std.proofs.lemmas.List.{map-append, length-map}
use Rattle.std.proofs.lemmas.Option.{slice_get-map}
use Rattle.std.specs.List.{slice_get}
use Rattle.std.specs.Option.{option_map}
use Rattle.xa_model.specs.Facts as facts
use Rattle.xa_model.specs.Facts.{unheard, waiting}
use Rattle.xa_model.specs.Trace.{Happening, Line, Trace, Trace.Then}
use Rattle.xa_base.specs.Xid.{Xid}
use Rattle.xa_base.specs.declared.answer.Answer.{Answer}
use Rattle.xa_base.specs.declared.call.Call.{Call}
use Rattle.xa_line.specs.Histories.{AreAnsweredAs, AreKnownAs, LineStands, known, known_answered}
use Rattle.xa_line.specs.Traffic.{Traffic, answered, answers_heard, calls_issued, calls_taken, no_traffic}

-- ** lists that are seen through a function that may fail

get_behind : {A : Type 0} (xs ys : List A) → slice_get (xs ++ ys) (length xs) ≡ slice_get ys 0
get_behind [] ys = refl
get_behind (x ∷ xs) ys = get_behind xs ys

module _ {A B : Type 0} (f : A → Option B) where
  pub same_length : (xs : List A) (us : List B) → map f xs ≡ map Some us → length xs ≡ length us
  same_length xs us e = sym (length-map xs f) ∙ ap length e ∙ length-map us Some

  -- the first of ys, after xs
  seen_behind : (xs ys : List A) (us : List B) (n : ℕ) → map f (xs ++ ys) ≡ map Some us → n ≡ length xs
      → option_map f (slice_get ys 0) ≡ option_map Some (slice_get us n)
  seen_behind xs ys us n e len =
      ap (option_map f) (sym (get_behind xs ys)) ∙ sym (slice_get-map f (xs ++ ys) (length xs))
      ∙ ap (slice_get (map f (xs ++ ys))) (sym len) ∙ ap (λ zs. slice_get zs n) e ∙ slice_get-map Some us n

  -- one list after another
  seen_more : (xs ys : List A) (us vs : List B) → map f xs ≡ map Some us → map f ys ≡ map Some vs → map f (xs ++ ys) ≡ map Some (us ++ vs)
  seen_more xs ys us vs e d = map-append f xs ys ∙ ap (λ zs. zs ++ map f ys) e ∙ ap (λ zs. map Some us ++ zs) d ∙ sym (map-append Some us vs)

-- ** what waits

module _ (tr : Trace) (l : Line) (t : Traffic) (stands : LineStands tr l t) where
  -- as many calls were taken as in the history
  as_many_taken : length (facts.taken tr l) ≡ length (calls_taken t)
  as_many_taken = sym (same_length known_answered (answered t) (facts.taken tr l) stands.all_answered)
      ∙ sym (ap length stands.each_answered ∙ length-map (answered t) (λ p. p.0))

  as_many_heard : length (facts.heard tr l) ≡ length (answers_heard t)
  as_many_heard = sym (same_length known_answered (answers_heard t) (facts.heard tr l) stands.all_heard)

  pub next_call_waits : option_map known (slice_get t.calls.waiting 0) ≡ option_map Some (facts.next_call tr l)
  next_call_waits = seen_behind known (calls_taken t) t.calls.waiting (facts.issued tr l) (length (facts.taken tr l)) stands.all_issued as_many_taken

  pub next_answer_waits : option_map known_answered (slice_get t.answers.waiting 0) ≡ option_map Some (facts.next_answer tr l)
  next_answer_waits = seen_behind known_answered (answers_heard t) t.answers.waiting (facts.taken tr l) (length (facts.heard tr l)) stands.all_answered
      as_many_heard

  pub as_many_calls : length t.calls.waiting ≡ waiting tr l
  as_many_calls =
      let all = same_length known (calls_issued t) (facts.issued tr l) stands.all_issued in
      let gone = as_many_taken in
      omega (arith, length-append (calls_taken t) t.calls.waiting)

  pub as_many_answers : length t.answers.waiting ≡ unheard tr l
  as_many_answers =
      let all = same_length known_answered (answered t) (facts.taken tr l) stands.all_answered in
      let gone = as_many_heard in
      omega (arith, length-append (answers_heard t) t.answers.waiting)

-- ** one happening more

-- a line that breaks is new
pub line_renewed : (tr : Trace) (e : Happening) (l : Line) → facts.breaks tr e l ≡ true → LineStands (Then tr e) l no_traffic
line_renewed tr e l b = record {
  all_issued = rw b refl;
  all_answered = rw b refl;
  all_heard = rw b refl;
  each_answered = refl;
}

-- one that doesn't break has what was added
pub line_goes_on : (tr : Trace) (e : Happening) (l : Line) (old new : Traffic) (calls : List (Call Xid)) (answers hearings : List (Call Xid × Answer Xid))
    → LineStands tr l old → facts.breaks tr e l ≡ false
    → calls_issued new ≡ calls_issued old ++ calls → AreKnownAs calls (facts.new_calls tr e l)
    → answered new ≡ answered old ++ answers → AreAnsweredAs answers (facts.new_taken e l)
    → answers_heard new ≡ answers_heard old ++ hearings → AreAnsweredAs hearings (facts.new_heard e l)
    → calls_taken new ≡ map (λ p. p.0) (answered new) → LineStands (Then tr e) l new
line_goes_on tr e l old new calls answers hearings stands b i ik a ak h hk each = record {
  all_issued = rw b (ap (map known) i ∙ seen_more known (calls_issued old) calls (facts.issued tr l) (facts.new_calls tr e l) stands.all_issued ik);
  all_answered =
      rw b (ap (map known_answered) a ∙ seen_more known_answered (answered old) answers (facts.taken tr l) (facts.new_taken e l) stands.all_answered ak);
  all_heard = rw b (ap (map known_answered) h
      ∙ seen_more known_answered (answers_heard old) hearings (facts.heard tr l) (facts.new_heard e l) stands.all_heard hk);
  each_answered = each;
}
