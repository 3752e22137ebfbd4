-- The counts that the code keeps are how often each record is reached, and their sum says whether each is.
-- Assumes nothing.
use mathlib.Core.Path.{◌≡◌, refl, sym, ap, ◌∙◌}
use mathlib.Core.Logic.{◌≢◌}
use Prim.Native.Nat.{ℕ, zero, suc, ◌+◌, ◌-◌, ◌≤◌, ◌<◌}
use mathlib.Core.Bool.{Bool, true, false}
use mathlib.Core.List.{List, [], ◌∷◌}
use native.Mathlib.Omega.{arith}
use borrow.Author.Tests.{le-leb, leb-true}
use lib.Dec.{eqb}
use lib.ListN.{length, get_or, set, replicate, length-set, length-replicate}
use lib.Seq.{get_or-set_same, get_or-set_other}
use Rattle.model.specs.Word.{bit}
use Rattle.model.specs.Limits.{most_records, record_places}
use Rattle.model.specs.Lists.{all_from}
use Rattle.model.specs.CaseFile.{Line, records, thread_count, next_record, line_of, chain, chains, sum_of_lines, sum_of_threads, has_number}
use Rattle.model.specs.Accept.{times_reached, reached_ok}
use Rattle.laws.proofs.Views.{EqView, same, diff, eq_view}
use Rattle.laws.proofs.Ranges.{all_from_gives, all_from_of}
use Rattle.laws.proofs.Chains.{chain_end}
use Rattle.links.specs.Links.{once_ok}
use Rattle.links.specs.ReachCounts.{one_more_at, count_lines, count_threads, reached_of, sum_to, Marks, Twice}

-- Along a chain that is followed for so many steps.
chain_of_record : (bytes : List ℕ) (t most k : ℕ) → 0 < most → k ≢ 0 → chain bytes t most k ≡ line_of bytes t k ∷ chain bytes t (most - 1) (next_record bytes k)
unfolding chain
chain_of_record bytes t zero k h n = absurd (omega arith)
chain_of_record bytes t (suc most) zero h n = absurd (n refl)
chain_of_record bytes t (suc most) (suc k) h n = let e : suc most - 1 ≡ most = omega arith in rw e

module _ (bytes : List ℕ) (t most k : ℕ) where
  chain_of_end : k ≡ 0 → chain bytes t most k ≡ []
  chain_of_end h = rw h (chain_end bytes t most)

  pub count_at_end : (counts : List ℕ) → k ≡ 0 → count_lines counts (chain bytes t most k) ≡ counts
  unfolding count_lines
  count_at_end counts h = rw (chain_of_end h)

  pub count_goes_on : (counts : List ℕ) → 0 < most → k ≢ 0 → count_lines counts (chain bytes t most k) ≡ count_lines (one_more_at counts k) (chain bytes t (most - 1) (next_record bytes k))
  unfolding count_lines
  count_goes_on counts h n = rw (chain_of_record bytes t most k h n)

  -- How many lines there are: n so far, and those that are left.
  pub lines_told : (n all : ℕ) → n + length (chain bytes t most k) ≡ all → k ≡ 0 → n ≡ all
  lines_told n all e h = omega (arith, e, ap length (chain_of_end h))

  pub lines_left : (n all : ℕ) → n + length (chain bytes t most k) ≡ all → 0 < most → k ≢ 0 → n + 1 + length (chain bytes t (most - 1) (next_record bytes k)) ≡ all
  lines_left n all e h z = omega (arith, e, ap length (chain_of_record bytes t most k h z))

pub zeros_are_0 : (n j : ℕ) → get_or (replicate n 0) j 0 ≤ 0
zeros_are_0 zero j = omega arith
zeros_are_0 (suc n) zero = omega arith
zeros_are_0 (suc n) (suc j) = zeros_are_0 n j

pub length_of_count : (counts : List ℕ) (ls : List Line) → length (count_lines counts ls) ≡ length counts
unfolding count_lines
length_of_count counts [] = refl
length_of_count counts (l ∷ ls) = length_of_count (one_more_at counts l.number) ls ∙ length-set counts l.number (get_or counts l.number 0 + 1)

-- Each count grows by how many of the lines have its number.
count_of_lines : (counts : List ℕ) (ls : List Line) (j : ℕ) → j < length counts → get_or (count_lines counts ls) j 0 ≡ get_or counts j 0 + sum_of_lines (has_number j) ls
unfolding count_lines
count_of_lines counts [] j h = omega arith
count_of_lines counts (l ∷ ls) j h =
    go (eq_view l.number j) (count_of_lines (one_more_at counts l.number) ls j (omega (arith, length-set counts l.number (get_or counts l.number 0 + 1))))
  where
    go : EqView l.number j → get_or (count_lines (one_more_at counts l.number) ls) j 0 ≡ get_or (one_more_at counts l.number) j 0 + sum_of_lines (has_number j) ls
        → get_or (count_lines (one_more_at counts l.number) ls) j 0 ≡ get_or counts j 0 + (bit (eqb l.number j) + sum_of_lines (has_number j) ls)
    go (same e q) ih =
        let s : get_or (one_more_at counts l.number) j 0 ≡ get_or counts j 0 + 1 = rw e (get_or-set_same counts j (get_or counts j 0 + 1) 0 h) in
        rw q (omega (arith, ih, s))
    go (diff n q) ih = rw q (omega (arith, ih, get_or-set_other counts l.number j (get_or counts l.number 0 + 1) 0 (λ p. n (sym p))))

count_of_threads : (counts : List ℕ) (threads : List (List Line)) (j : ℕ) → j < length counts → get_or (count_threads counts threads) j 0 ≡ get_or counts j 0 + sum_of_threads (has_number j) threads
unfolding count_threads
count_of_threads counts [] j h = omega arith
count_of_threads counts (ls ∷ threads) j h =
    omega (arith, count_of_threads (count_lines counts ls) threads j (omega (arith, length_of_count counts ls)), count_of_lines counts ls j h)

-- No count falls.
pub count_grows : (counts : List ℕ) (ls : List Line) (j : ℕ) → j < length counts → get_or counts j 0 ≤ get_or (count_lines counts ls) j 0
count_grows counts ls j h = omega (arith, count_of_lines counts ls j h)

pub twice_goes_on : (counts : List ℕ) (threads : List (List Line)) (most : ℕ) → most < length counts → Twice counts most → Twice (count_threads counts threads) most
twice_goes_on counts threads most h two =
    record { place = two.place; low = two.low; high = two.high; count = omega (arith, two.count, count_of_threads counts threads two.place (omega (arith, two.high))) }

-- The sum of the counts of records 1 to `most`.
pub sum_of_zeros : (n most : ℕ) → sum_to (replicate n 0) most ≡ 0
unfolding sum_to
sum_of_zeros n zero = refl
sum_of_zeros n (suc most) = omega (arith, sum_of_zeros n most, zeros_are_0 n (suc most))

sum_beyond : (counts : List ℕ) (k x most : ℕ) → most < k → sum_to (set counts k x) most ≡ sum_to counts most
unfolding sum_to
sum_beyond counts k x zero h = refl
sum_beyond counts k x (suc most) h = omega (arith, sum_beyond counts k x most (omega arith), get_or-set_other counts k (suc most) x 0 (λ e. omega arith))

pub sum_of_one_more : (counts : List ℕ) (k most : ℕ) → 0 < k → k ≤ most → most < length counts → sum_to (one_more_at counts k) most ≡ sum_to counts most + 1
unfolding sum_to
sum_of_one_more counts k zero p h l = absurd (omega arith)
sum_of_one_more counts k (suc most) p h l = go (λ i. sum_of_one_more counts k most p i (omega arith)) (eq_view (suc most) k)
  where
    go : (k ≤ most → sum_to (one_more_at counts k) most ≡ sum_to counts most + 1) → EqView (suc most) k → sum_to (one_more_at counts k) most + get_or (one_more_at counts k) (suc most) 0 ≡ sum_to counts most + get_or counts (suc most) 0 + 1
    go before (same e q) =
        let s : get_or (one_more_at counts k) (suc most) 0 ≡ get_or counts (suc most) 0 + 1 = rw e (get_or-set_same counts k (get_or counts k 0 + 1) 0 (omega arith)) in
        omega (arith, s, sum_beyond counts k (get_or counts k 0 + 1) most (omega arith))
    go before (diff n q) = omega (arith, before (omega arith), get_or-set_other counts k (suc most) (get_or counts k 0 + 1) 0 n)

pub sum_at_most : (counts : List ℕ) (most : ℕ) → ((j : ℕ) → get_or counts j 0 ≤ 1) → sum_to counts most ≤ most
unfolding sum_to
sum_at_most counts zero h = omega arith
sum_at_most counts (suc most) h = omega (arith, sum_at_most counts most h, h (suc most))

sum_at_least : (counts : List ℕ) (most : ℕ) → ((j : ℕ) → 0 < j → j ≤ most → 1 ≤ get_or counts j 0) → most ≤ sum_to counts most
unfolding sum_to
sum_at_least counts zero h = omega arith
sum_at_least counts (suc most) h = omega (arith, sum_at_least counts most (λ j a b. h j a (omega arith)), h (suc most) (omega arith) (omega arith))

-- Where no count is over 1 and the sum is full, no count is 0.
none_is_0 : (counts : List ℕ) (most : ℕ) → ((j : ℕ) → get_or counts j 0 ≤ 1) → most ≤ sum_to counts most → (j : ℕ) → 0 < j → j ≤ most → 1 ≤ get_or counts j 0
unfolding sum_to
none_is_0 counts zero single full j a b = absurd (omega arith)
none_is_0 counts (suc most) single full j a b = go (none_is_0 counts most single (omega (arith, full, single (suc most))) j a) (eq_view j (suc most))
  where
    go : (j ≤ most → 1 ≤ get_or counts j 0) → EqView j (suc most) → 1 ≤ get_or counts j 0
    go before (same e q) = rw e (omega (arith, full, sum_at_most counts most single))
    go before (diff n q) = before (omega arith)

-- A test of a range that cannot hold of each number fails.
unless_each : (test : ℕ → Bool) (i many : ℕ) → (((j : ℕ) → i ≤ j → j < i + many → test j ≡ true) → ⊥) → all_from test i many ≡ false
unless_each test i many never = go (all_from test i many) refl
  where
    go : (q : Bool) → all_from test i many ≡ q → q ≡ false
    go true e = absurd (never (all_from_gives test i many e))
    go false e = refl

-- The counts of all threads, from 0, for checks 6 and 7.
module _ (bytes : List ℕ) (few : records bytes ≤ most_records) where
  times_of_count : (j : ℕ) → j ≤ records bytes → get_or (reached_of bytes) j 0 ≡ times_reached bytes j
  times_of_count j h =
      omega (arith, count_of_threads (replicate record_places 0) (chains bytes 0 (thread_count bytes)) j (omega (arith, length-replicate {A = ℕ} record_places 0)), zeros_are_0 record_places j)

  pub twice_reached : Twice (reached_of bytes) (records bytes) → once_ok bytes ≡ false
  twice_reached two =
      unless_each _ 1 (records bytes)
      (λ each. omega (arith, leb-true (times_reached bytes two.place) 1 (each two.place two.low (omega (arith, two.high))), times_of_count two.place two.high, two.count))

  module _ (counts : List ℕ) (e : counts ≡ reached_of bytes) (marks : Marks counts) where
    is_times : (j : ℕ) → j ≤ records bytes → get_or counts j 0 ≡ times_reached bytes j
    is_times j h = ap (λ (xs : List ℕ). get_or xs j 0) e ∙ times_of_count j h

    pub once_reached : once_ok bytes ≡ true
    once_reached = all_from_of _ 1 (records bytes) (λ j a b. le-leb (times_reached bytes j) 1 (omega (arith, is_times j (omega arith), marks.single j)))

    pub all_reached : records bytes ≤ sum_to counts (records bytes) → reached_ok bytes ≡ true
    all_reached full =
        all_from_of _ 1 (records bytes) (λ j a b. le-leb 1 (times_reached bytes j) (omega (arith, is_times j (omega arith), none_is_0 counts (records bytes) marks.single full j a (omega arith))))

    pub not_all_reached : sum_to counts (records bytes) < records bytes → reached_ok bytes ≡ false
    not_all_reached less =
        unless_each _ 1 (records bytes)
        (λ each. omega (arith, less, sum_at_least counts (records bytes) (λ j a b. omega (arith, is_times j b, leb-true 1 (times_reached bytes j) (each j a (omega arith))))))
