-- Record numbers counted in lists of lines: where they are distinct and from 1 to R, there are at most R lines.
-- Assumes nothing. Met again in Chains, Reached and Lines, and in correspondence where events and input lines are counted.
use mathlib.Core.Path.{◌≡◌, refl}
use Prim.Native.Nat.{ℕ, zero, suc, ◌+◌, ◌≤◌, ◌<◌}
use mathlib.Core.Bool.{false}
use mathlib.Core.List.{List, [], ◌∷◌}
use native.Mathlib.Omega.{arith}
use native.Mathlib.Nat.{le_refl}
use borrow.Author.Tests.{eq-eqb, ne_eqb}
use lib.Dec.{eqb}
use lib.ListN.{get_or, length}
use Rattle.model.specs.Word.{bit}
use Rattle.model.specs.CaseFile.{Line, sum_of_lines, sum_of_threads, has_number}
use Rattle.laws.specs.RecordNumber.{RecordNumber}
use Rattle.laws.proofs.Views.{EqView, same, diff, eq_view}

-- f i + f (i + 1) + .. : so many numbers
abbrev pub sum_from : (ℕ → ℕ) → ℕ → ℕ → ℕ
sum_from f i zero = 0
sum_from f i (suc many) = f i + sum_from f (suc i) many

sum_of_sums : (f g : ℕ → ℕ) (i many : ℕ) → sum_from (λ k. f k + g k) i many ≡ sum_from f i many + sum_from g i many
sum_of_sums f g i zero = refl
sum_of_sums f g i (suc many) = omega (arith, sum_of_sums f g (suc i) many)

sum_of_zeros : (i many : ℕ) → sum_from (λ k. 0) i many ≡ 0
sum_of_zeros i zero = refl
sum_of_zeros i (suc many) = omega (arith, sum_of_zeros (suc i) many)

pub sum_of_bits : (f : ℕ → ℕ) (i many : ℕ) → ((k : ℕ) → f k ≤ 1) → sum_from f i many ≤ many
sum_of_bits f i zero h = le_refl 0
sum_of_bits f i (suc many) h = omega (arith, h i, sum_of_bits f (suc i) many h)

no_hit : (x i many : ℕ) → x < i → sum_from (λ k. bit (eqb x k)) i many ≡ 0
no_hit x i zero h = refl
no_hit x i (suc many) h = rw (ne_eqb x i (λ e. omega arith)) (omega (arith, no_hit x (suc i) many (omega arith)))

one_hit : (x i many : ℕ) → i ≤ x → x < i + many → sum_from (λ k. bit (eqb x k)) i many ≡ 1
one_hit x i zero h h' = absurd (omega arith)
one_hit x i (suc many) h h' = go (eq_view x i) (one_hit x (suc i) many)
  where
    go : EqView x i → (suc i ≤ x → x < suc i + many → sum_from (λ k. bit (eqb x k)) (suc i) many ≡ 1) → sum_from (λ k. bit (eqb x k)) i (suc many) ≡ 1
    go (same e q) rest = rw q (omega (arith, no_hit x (suc i) many (omega arith)))
    go (diff e q) rest = rw q (omega (arith, rest (omega arith) (omega arith)))

-- A line counts for its own number, and for no other.
pub own_number_counts : (l : Line) → has_number l.number l ≡ 1
own_number_counts l = rw (eq-eqb l.number l.number refl)

pub number_is_other : (k : ℕ) (l : Line) → has_number k l ≡ 0 → eqb l.number k ≡ false
number_is_other k l e = go (eq_view l.number k)
  where
    go : EqView l.number k → eqb l.number k ≡ false
    go (same p q) = absurd (omega (arith, rw q at e))
    go (diff p q) = q

module _ (R : ℕ) where
  -- every number that occurs is from 1 to R
  abbrev pub NumbersWithin : List Line → Type 0
  NumbersWithin ls = (k : ℕ) → 0 < sum_of_lines (has_number k) ls → RecordNumber R k

  counts_add_up : (ls : List Line) → NumbersWithin ls → sum_from (λ k. sum_of_lines (has_number k) ls) 1 R ≡ length ls
  counts_add_up [] w = sum_of_zeros 1 R
  counts_add_up (l ∷ ls) w =
      let here = w l.number (omega (arith, own_number_counts l)) in
      omega (
        arith,
        sum_of_sums (λ k. has_number k l) (λ k. sum_of_lines (has_number k) ls) 1 R,
        one_hit l.number 1 R here.some (omega arith),
        counts_add_up ls (λ k c. w k (omega (arith, c))),
      )

  pub distinct_lines_are_few : (ls : List Line) → NumbersWithin ls → ((k : ℕ) → sum_of_lines (has_number k) ls ≤ 1) → length ls ≤ R
  distinct_lines_are_few ls w once = omega (arith, counts_add_up ls w, sum_of_bits (λ k. sum_of_lines (has_number k) ls) 1 R once)

module _ (weight : Line → ℕ) where
  pub thread_sum_at_most : (threads : List (List Line)) (t : ℕ) → sum_of_lines weight (get_or threads t []) ≤ sum_of_threads weight threads
  thread_sum_at_most [] t = omega arith
  thread_sum_at_most (ls ∷ threads) zero = omega arith
  thread_sum_at_most (ls ∷ threads) (suc t) = omega (arith, thread_sum_at_most threads t)

  -- what has a sum has it in some thread
  pub record HasInThread (threads : List (List Line)) : Type 0 where
    pub thread : ℕ
    pub among : thread < length threads
    pub some : 0 < sum_of_lines weight (get_or threads thread [])

  pub some_thread_has : (threads : List (List Line)) → 0 < sum_of_threads weight threads → HasInThread threads
  some_thread_has [] h = absurd (omega arith)
  some_thread_has (ls ∷ threads) h = go (sum_of_lines weight ls) refl (some_thread_has threads)
    where
      go : (x : ℕ) → sum_of_lines weight ls ≡ x → (0 < sum_of_threads weight threads → HasInThread threads) → HasInThread (ls ∷ threads)
      go zero e rest = let found = rest (omega (arith, h, e)) in record { thread = suc found.thread; among = omega arith; some = found.some }
      go (suc x) e rest = record { thread = 0; among = omega arith; some = omega (arith, e) }
