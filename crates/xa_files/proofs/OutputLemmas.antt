-- A text that is written in turns.
use Rattle.std.proofs.Common.{◌≡◌, ◌∙◌, ℕ, ◌-◌, List, [], ◌++◌, length, take, drop, take-append-drop, Option, Some, None, sym, ap, append_assoc, subst}
use Rattle.std.proofs.Math.Seq.{take-length}
use Rattle.std.proofs.lemmas.List.{append-nil, length-drop}
use Rattle.std.specs.Io.KnownBytes.{Appends, Keeps}
use Rattle.std.specs.Prelude.{Result, Ok, Err, OnErr}
use Rattle.xa_files.specs.Outputs.{AppendsBeginning, IsWrittenBut}

-- what two writes append
pub both_written : (a b c : Option (List ℕ)) (bs cs : List ℕ) → Appends a b bs → Appends b c cs → Appends a c (bs ++ cs)
both_written None b c bs cs first second = tt
both_written (Some x) None c bs cs first second = absurd first
both_written (Some x) (Some y) None bs cs first second = absurd second
both_written (Some x) (Some y) (Some z) bs cs first second = second ∙ ap (λ l. l ++ cs) first ∙ append_assoc x bs cs

pub written_then_kept : (a b c : Option (List ℕ)) (bs : List ℕ) → Appends a b bs → Keeps b c → Appends a c bs
written_then_kept None b c bs p q = tt
written_then_kept (Some x) None c bs p q = absurd p
written_then_kept (Some x) (Some y) None bs p q = absurd q
written_then_kept (Some x) (Some y) (Some z) bs p q = q ∙ p

-- a write that failed, and a flush
pub still_written : (start old new : Option (List ℕ)) (rest bs : List ℕ) → IsWrittenBut rest bs start old → Keeps old new → IsWrittenBut rest bs start new
still_written start old new rest bs so_far keeps = record {
  written = so_far.written;
  whole = so_far.whole;
  appends = written_then_kept start old new so_far.written so_far.appends keeps;
}

-- what is left of a slice from n on
from_on : (n : ℕ) (xs : List ℕ) → take (length xs - n) (drop n xs) ≡ drop n xs
from_on n xs = ap (λ k. take k (drop n xs)) (sym (length-drop n xs)) ∙ take-length (drop n xs)

-- a write that took n bytes
pub more_written : (start old new : Option (List ℕ)) (rest bs : List ℕ) (n : ℕ) → IsWrittenBut rest bs start old → Appends old new (take n rest)
    → IsWrittenBut (take (length rest - n) (drop n rest)) bs start new
more_written start old new rest bs n so_far more = subst (λ left. IsWrittenBut left bs start new) (sym (from_on n rest)) (record {
  written = so_far.written ++ take n rest;
  whole = so_far.whole ∙ ap (λ xs. so_far.written ++ xs) (sym (take-append-drop n rest)) ∙ sym (append_assoc so_far.written (take n rest) (drop n rest));
  appends = both_written start old new so_far.written (take n rest) so_far.appends more;
})

-- a flush that failed after a text that was written whole
pub begun_with_all : {A E : Type 0} (result : Result A E) (old new : Option (List ℕ)) (bs : List ℕ) → Appends old new bs
    → OnErr result (AppendsBeginning old new bs)
begun_with_all (Ok x) old new bs appended = tt
begun_with_all (Err e) old new bs appended = ([], record { written = bs; whole = sym (append-nil bs); appends = appended })
