-- A recovery that nothing hinders.
use Rattle.std.proofs.Common.{◌≡◌, ◌≤◌, ℕ, Bool, true, false, List, ◌++◌, length, map, refl, ap, ◌∙◌, arith}
use Rattle.std.specs.Prelude.{◌+◌, not, if◌then◌else◌, Some, None, nat_lt}
use Rattle.std.specs.Option.{option_or}
use Rattle.std.proofs.lemmas.Bool.Decides.{nat_tests}
use Rattle.std.proofs.lemmas.Bool.{or_from}
use Rattle.std.proofs.lemmas.List.Folds.{list_any-append}
use Rattle.xa_base.specs.Opening.{closes, has_closed, has_opened}
use Rattle.xa_base.specs.Xid.{Xid}
use Rattle.xa_base.specs.declared.call.Call as Asking
use Rattle.xa_base.specs.declared.refusal.Refusal.TheVariants as Refusals
use Rattle.xa_line.specs.Grid.{line_at}
use Rattle.xa_line.specs.Histories.{known as known_call}
use Rattle.xa_line.specs.Traffic.{Traffic, calls_issued, opening_refusal, places, room_refusal}
use Rattle.xa_line.proofs.HistoryLaws.{closed_known}
use Rattle.xa_line.proofs.TrafficLaws.{same_length}
use Rattle.xa_model.specs.Trace.{Call}
use Rattle.xa_session.specs.Session.{awaits_page, recovery_refusal}
use Rattle.xa_session.specs.declared.session.Session.{Session}
use Rattle.xa_session.proofs.Lines.{may_recover, none_first, none_second, recovery_bar}

opening_so : (opened closed : Bool) → (if not opened then Some Refusals.NotOpen else (if closed then Some Refusals.Closed else None)) ≡ None
    → (opened ≡ true) × (closed ≡ false)
opening_so true false e = (refl, refl)
opening_so true true e = absurd (cc)
opening_so false closed e = absurd (cc)

-- the line is open, and isn't closed
open_in : (at : Traffic) (n : ℕ) → recovery_bar at n ≡ None → (has_opened (calls_issued at) ≡ true) × (has_closed (calls_issued at) ≡ false)
open_in at n none =
    opening_so (has_opened (calls_issued at)) (has_closed (calls_issued at))
    (none_first (opening_refusal (calls_issued at)) (option_or (if awaits_page at then Some Refusals.Busy else None) (room_refusal at n)) none)

pub closed_in : (at : Traffic) (n : ℕ) → recovery_bar at n ≡ None → has_closed (calls_issued at) ≡ false
closed_in at n none = (open_in at n none).1

pub recovery_open : {L : Type 0} (s : Session L) (r n : ℕ) (x : Traffic) → recovery_refusal s r n ≡ None → x ≡ line_at s.lines 0 r
    → has_opened (calls_issued x) ≡ true
recovery_open s r n x none is = ap (λ t. has_opened (calls_issued t)) is ∙ (open_in (line_at s.lines 0 r) n (may_recover s r n none).1).0

-- and has room for its calls
pub recovery_room : {L : Type 0} (s : Session L) (r n : ℕ) (ks : List Call) (calls : List (Asking.Call Xid)) (x : Traffic) (count : ℕ)
    → recovery_refusal s r n ≡ None → map known_call calls ≡ map Some ks → x ≡ line_at s.lines 0 r → count ≡ length calls → n ≡ length ks
    → length x.calls.waiting + count ≤ places
recovery_room s r n ks calls x count none are is len many =
    let at = line_at s.lines 0 r in
    let behind = option_or (if awaits_page at then Some Refusals.Busy else None) (room_refusal at n) in
    let room = none_second (if awaits_page at then Some Refusals.Busy else None) (room_refusal at n)
    (none_second (opening_refusal (calls_issued at)) behind (may_recover s r n none).1) in
    let fits = fits_so (length at.calls.waiting + n) room in
    let same = same_length known_call calls ks are in
    let here : length x.calls.waiting ≡ length at.calls.waiting = ap (λ (t : Traffic). length t.calls.waiting) is in
    omega (arith, fits, same, here, len, many)
  where
    by_number : (m : ℕ) → nat_lt places m ≡ false → m ≤ places
    by_number m e = grind (arith, nat_tests, e)

    by_test : (t : Bool) → (if t then Some Refusals.Full else None) ≡ None → t ≡ false
    by_test true e = absurd (cc)
    by_test false e = refl

    fits_so : (m : ℕ) → (if nat_lt places m then Some Refusals.Full else None) ≡ None → m ≤ places
    fits_so m e = by_number m (by_test (nat_lt places m) e)

-- no call of it closes the line
pub recovery_unclosed : {L : Type 0} (s : Session L) (r n : ℕ) (ks : List Call) (calls : List (Asking.Call Xid)) (x : Traffic)
    → recovery_refusal s r n ≡ None → map known_call calls ≡ map Some ks → x ≡ line_at s.lines 0 r → has_closed ks ≡ false
    → has_closed (calls_issued x ++ calls) ≡ false
recovery_unclosed s r n ks calls x none are is plain =
    let at = line_at s.lines 0 r in
    list_any-append closes (calls_issued x) calls
    ∙ or_from _ _ (ap (λ t. has_closed (calls_issued t)) is
    ∙ closed_in at n (may_recover s r n none).1)
    (closed_known calls ks are ∙ plain)
