-- The order of byte strings is that of the numbers they are. So the order of transactions and
-- branches is that of their identifiers.
use Rattle.std.proofs.Common.{◌≡◌, ℕ, zero, suc, ◌+◌, ◌*◌, ◌^◌, ◌<◌, ◌≤◌, ◌%◌, ◌/◌, List, [], ◌∷◌, ◌++◌, length, refl, sym, ap, ◌∙◌, subst, arith}
use Rattle.std.specs.Int.{byte_at, bytes_high_first, from_be_bytes, to_be_bytes, w32, w64}
use Rattle.std.specs.Cmp.{ranks, nat_cmp_is}
use Rattle.std.specs.Cmp.Lexicographic.{slice_cmp}
use Rattle.std.specs.Ordering.{nat_cmp, ordering_then, MatchOrdering}
use Rattle.std.specs.declared.cmp.Ordering.{Ordering}
use Rattle.std.specs.declared.cmp.Ordering.TheVariants.{Less, Equal, Greater}
use Rattle.std.proofs.Math.Arith.{mod-mul}
use Rattle.std.proofs.lemmas.Nat.{be_bytes_8, mul-le, mod_below}
use Rattle.hex.specs.Hex.{IsBytes}
use Rattle.xa_base.proofs.BranchLemmas.{u64_fits}
use Rattle.xa_base.specs.Branch.{IsBranch, xid_of_branch, branch_cmp}
use Rattle.xa_base.specs.Xid.{xid_cmp}
use Rattle.xa_base.specs.declared.branch.Branch.{Branch}

below : (p h l i m : ℕ) → h < i → l < p → h * p + l < i * p + m
below p h l i m q f = let k : (h + 1) * p ≤ i * p = mul-le (h + 1) p i p (omega arith) (omega arith) in omega (arith, k)

-- two numbers of two digits each
digits : (p h l i m : ℕ) → l < p → m < p → ordering_then (nat_cmp h i) (nat_cmp l m) ≡ nat_cmp (h * p + l) (i * p + m)
digits p h l i m f g = by_rank (nat_cmp h i) (ranks h i)
  where
    by_low : (o : Ordering) → h ≡ i → MatchOrdering o (l < m) (l ≡ m) (m < l) → o ≡ nat_cmp (h * p + l) (i * p + m)
    by_low Less q r = nat_cmp_is _ _ Less (subst (λ x. h * p + l < x * p + m) q (omega (arith, r)))
    by_low Equal q r = nat_cmp_is _ _ Equal (λ j. q j * p + r j)
    by_low Greater q r = nat_cmp_is _ _ Greater (subst (λ x. x * p + m < h * p + l) q (omega (arith, r)))

    by_rank :
        (o : Ordering) → MatchOrdering o (h < i) (h ≡ i) (i < h)
        → ordering_then o (nat_cmp l m) ≡ nat_cmp (h * p + l) (i * p + m)
    by_rank Less q = nat_cmp_is _ _ Less (below p h l i m q f)
    by_rank Equal q = by_low (nat_cmp l m) q (ranks l m)
    by_rank Greater q = nat_cmp_is _ _ Greater (below p i m h l q g)

power_positive : (k : ℕ) → 0 < 256 ^ k
power_positive zero = omega arith
power_positive (suc k) = let p = power_positive k in omega (arith, p)

byte_is : (k n : ℕ) → byte_at k n ≡ n / 256 ^ k % 256
byte_is zero n = omega arith
byte_is (suc k) n = refl

low_bytes : (k n : ℕ) → n % 256 ^ suc k ≡ byte_at k n * 256 ^ k + n % 256 ^ k
low_bytes k n =
    let p = power_positive k in
    subst (λ x. n % x ≡ byte_at k n * 256 ^ k + n % 256 ^ k) (omega arith)
    (mod-mul n {m = 256} {c = 256 ^ k} (omega arith) p ∙ ap (λ d. d * 256 ^ k + n % 256 ^ k) (sym (byte_is k n)))

bytes_order : (k a b : ℕ) → slice_cmp nat_cmp (bytes_high_first k a) (bytes_high_first k b) ≡ nat_cmp (a % 256 ^ k) (b % 256 ^ k)
bytes_order zero a b = let e : a % 256 ^ 0 ≡ b % 256 ^ 0 = omega arith in nat_cmp_is (a % 256 ^ 0) (b % 256 ^ 0) Equal e
bytes_order (suc k) a b =
    let p = power_positive k in
    ap (λ o. ordering_then (nat_cmp (byte_at k a) (byte_at k b)) o) (bytes_order k a b)
    ∙ digits (256 ^ k) (byte_at k a) (a % 256 ^ k) (byte_at k b) (b % 256 ^ k) (mod_below a (256 ^ k) p) (mod_below b (256 ^ k) p)
    ∙ (λ i. nat_cmp (sym (low_bytes k a) i) (sym (low_bytes k b) i))

small_8 : (n : ℕ) → n < 2 ^ 64 → n % 256 ^ 8 ≡ n
small_8 n p = omega (arith, p)

small_4 : (n : ℕ) → n < 2 ^ 32 → n % 256 ^ 4 ≡ n
small_4 n p = omega (arith, p)

u64_order : (a b : ℕ) → a < 2 ^ 64 → b < 2 ^ 64 → slice_cmp nat_cmp (to_be_bytes w64 a) (to_be_bytes w64 b) ≡ nat_cmp a b
u64_order a b p q = bytes_order 8 a b ∙ (λ i. nat_cmp (small_8 a p i) (small_8 b q i))

u32_order : (a b : ℕ) → a < 2 ^ 32 → b < 2 ^ 32 → slice_cmp nat_cmp (to_be_bytes w32 a) (to_be_bytes w32 b) ≡ nat_cmp a b
u32_order a b p q = bytes_order 4 a b ∙ (λ i. nat_cmp (small_4 a p i) (small_4 b q i))

then_assoc : (o p q : Ordering) → ordering_then (ordering_then o p) q ≡ ordering_then o (ordering_then p q)
then_assoc Less p q = refl
then_assoc Equal p q = refl
then_assoc Greater p q = refl

-- texts of one length, each followed by another
joined_order :
    (xs ys us vs : List ℕ) → length xs ≡ length ys
    → slice_cmp nat_cmp (xs ++ us) (ys ++ vs) ≡ ordering_then (slice_cmp nat_cmp xs ys) (slice_cmp nat_cmp us vs)
joined_order [] [] us vs l = refl
joined_order [] (y ∷ ys) us vs l = absurd (omega arith)
joined_order (x ∷ xs) [] us vs l = absurd (omega arith)
joined_order (x ∷ xs) (y ∷ ys) us vs l =
    ap (λ o. ordering_then (nat_cmp x y) o) (joined_order xs ys us vs (omega arith)) ∙ sym (then_assoc (nat_cmp x y) _ _)

-- words stand in the order of their bytes
pub word_order :
    (xs ys : List ℕ) → length xs ≡ 8 → length ys ≡ 8 → IsBytes xs → IsBytes ys
    → nat_cmp (from_be_bytes w64 xs) (from_be_bytes w64 ys) ≡ slice_cmp nat_cmp xs ys
word_order xs ys l m h k =
    let x = be_bytes_8 xs (from_be_bytes w64 xs) l h refl in
    let y = be_bytes_8 ys (from_be_bytes w64 ys) m k refl in
    sym (u64_order (from_be_bytes w64 xs) (from_be_bytes w64 ys) (u64_fits xs h) (u64_fits ys k)) ∙ (λ i. slice_cmp nat_cmp (x i) (y i))

pub branch_order : (b c : Branch) → IsBranch b → IsBranch c → xid_cmp (xid_of_branch b) (xid_of_branch c) ≡ branch_cmp b c
branch_order b c h k =
    let gtrids = joined_order
    (to_be_bytes w64 b.gtrid.incarnation) (to_be_bytes w64 c.gtrid.incarnation)
    (to_be_bytes w64 b.gtrid.sequence) (to_be_bytes w64 c.gtrid.sequence) refl in
    let bquals = joined_order
    (to_be_bytes w32 b.thread) (to_be_bytes w32 c.thread) (to_be_bytes w32 b.rm) (to_be_bytes w32 c.rm) refl in
    let incarnations = u64_order b.gtrid.incarnation c.gtrid.incarnation h.incarnation k.incarnation in
    let sequences = u64_order b.gtrid.sequence c.gtrid.sequence h.sequence k.sequence in
    let threads = u32_order b.thread c.thread h.thread k.thread in
    let rms = u32_order b.rm c.rm h.rm k.rm in
    (λ i. ordering_then (gtrids i) (bquals i))
    ∙ (λ i. ordering_then (ordering_then (incarnations i) (sequences i)) (ordering_then (threads i) (rms i)))
