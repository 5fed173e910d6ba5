-- Laws of the grid of lines.
use Rattle.std.proofs.Common.{◌≡◌, ◌≢◌, ◌<◌, ◌≤◌, ◌+◌, ◌*◌, ◌/◌, ℕ, length, arith, sym, ◌∙◌, ap, get_or-set_same, get_or-set_other, length-set, below_more, replicate, inl, inr}
use Rattle.std.proofs.lemmas.Bool.{cases_lt}
use Rattle.std.proofs.lemmas.List.{get_or-replicate, get_or_past, length-replicate}
use Rattle.std.proofs.lemmas.Nat.{div-mul-add}
use Rattle.std.proofs.Math.Nat.{mul-le-mul_right}
use Rattle.xa_line.specs.Grid.{Grid, HasLine, IsWhole, line_at, new_grid, place, with_line}
use Rattle.xa_line.specs.Traffic.{Traffic, no_traffic}

-- ** places

-- a place is that of one thread and one resource manager
pub same_thread : (n t r u s : ℕ) → r < n → s < n → t * n + r ≡ u * n + s → t ≡ u
same_thread n t r u s a b e = sym (div-mul-add t n r a) ∙ ap (λ k. k / n) e ∙ div-mul-add u n s b

pub same_rm : (n t r u s : ℕ) → r < n → s < n → t * n + r ≡ u * n + s → r ≡ s
same_rm n t r u s a b e =
    let p : t * n ≡ u * n = ap (λ k. k * n) (same_thread n t r u s a b e) in
    omega arith

pub place_within : (threads rms t r : ℕ) → t < threads → r < rms → t * rms + r < threads * rms
place_within threads rms t r a b =
    let h : t + 1 ≤ threads = omega arith in
    let k : (t + 1) * rms ≤ threads * rms = mul-le-mul_right rms h in
    omega arith

pub place_in_lines : (g : Grid) (t r : ℕ) → IsWhole g → HasLine g t r → place g t r < length g.lines
place_in_lines g t r whole has = rw whole (place_within g.threads g.rms t r has.0 has.1)

-- ** one line changed

pub whole-with_line : (g : Grid) (t r : ℕ) (l : Traffic) → IsWhole g → IsWhole (with_line g t r l)
whole-with_line g t r l whole = length-set g.lines (t * g.rms + r) l ∙ whole

pub line_at-with_line_same : (g : Grid) (t r : ℕ) (l : Traffic) → IsWhole g → HasLine g t r → line_at (with_line g t r l) t r ≡ l
line_at-with_line_same g t r l whole has = get_or-set_same g.lines (t * g.rms + r) l no_traffic (place_in_lines g t r whole has)

pub line_at-with_line_other_rm : (g : Grid) (t r u s : ℕ) (l : Traffic) → r < g.rms → s < g.rms → s ≢ r → line_at (with_line g t r l) u s ≡ line_at g u s
line_at-with_line_other_rm g t r u s l a b apart =
    get_or-set_other g.lines (t * g.rms + r) (u * g.rms + s) l no_traffic (λ e. apart (same_rm g.rms u s t r b a e))

pub line_at-with_line_other_thread : (g : Grid) (t r u s : ℕ) (l : Traffic) → r < g.rms → s < g.rms → u ≢ t → line_at (with_line g t r l) u s ≡ line_at g u s
line_at-with_line_other_thread g t r u s l a b apart =
    get_or-set_other g.lines (t * g.rms + r) (u * g.rms + s) l no_traffic (λ e. apart (same_thread g.rms u s t r b a e))

-- ** new grids

pub whole-new_grid : (threads rms : ℕ) → IsWhole (new_grid threads rms)
whole-new_grid threads rms = length-replicate (threads * rms) no_traffic

pub line_at-new_grid : (threads rms t r : ℕ) → line_at (new_grid threads rms) t r ≡ no_traffic
line_at-new_grid threads rms t r =
    let count : length (replicate (threads * rms) no_traffic) ≡ threads * rms = length-replicate (threads * rms) no_traffic in
    elim (cases_lt (t * rms + r) (threads * rms)) [
      | inl within ↦ get_or-replicate (threads * rms) (t * rms + r) no_traffic no_traffic within
      | inr past ↦ get_or_past (replicate (threads * rms) no_traffic) (t * rms + r) no_traffic (omega arith)
    ]

-- ** the lines of one resource manager renewed

-- those of the threads below `next` are renewed
pub record RenewsBelow (old new : Grid) (rm next : ℕ) : Type 0 where
  pub threads : new.threads ≡ old.threads
  pub rms : new.rms ≡ old.rms
  pub whole : IsWhole new
  pub renewed : (t : ℕ) → t < next → line_at new t rm ≡ no_traffic
  pub others : (t r : ℕ) → HasLine old t r → r ≢ rm → line_at new t r ≡ line_at old t r

pub renews_one_more : (old g : Grid) (rm n : ℕ) (x : Traffic) → HasLine old n rm → x ≡ no_traffic
    → RenewsBelow old g rm n → RenewsBelow old (with_line g n rm x) rm (n + 1)
renews_one_more old g rm n x has new h =
    let in_g : HasLine g n rm = (rw h.threads has.0, rw h.rms has.1) in
    record {
      threads = h.threads;
      rms = h.rms;
      whole = whole-with_line g n rm x h.whole;
      renewed = below_more _ n
          (λ t lt. line_at-with_line_other_thread g n rm t rm x in_g.1 in_g.1 (λ e. absurd (omega arith)) ∙ h.renewed t lt)
          (line_at-with_line_same g n rm x h.whole in_g ∙ new);
      others = λ t r here apart. line_at-with_line_other_rm g n rm t r x in_g.1 (rw h.rms here.1) apart ∙ h.others t r here apart;
    }
