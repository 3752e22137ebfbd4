-- Laws of the counts of a thread's lines by block, and of the lengths that they give.
-- Assumes nothing. Met again in Walks.
use mathlib.Core.Path.{◌≡◌, refl, sym, ap, ◌∙◌}
use mathlib.Core.Logic.{◌≢◌}
use Prim.Native.Nat.{ℕ, suc, ◌+◌, ◌-◌, ◌%◌, ◌≤◌, ◌<◌}
use mathlib.Core.Bool.{cond}
use mathlib.Core.List.{List, [], ◌∷◌, ◌++◌}
use native.Mathlib.Omega.{arith}
use native.Mathlib.Nat.{mod-lt, mod-eq_of_lt, mod_self, suc-mod}
use native.Mathlib.Numerals.{add-one}
use lib.Dec.{ltb}
use lib.ListN.{get_or, set, length, replicate, length-set, get_or-replicate, get_or-eq_default}
use lib.Seq.{get_or-set_same, get_or-set_other}
use borrow.Author.Tests.{ne_eqb}
use Rattle.model.specs.Limits.{most_threads, most_blocks}
use Rattle.model.specs.Lists.{numbers_from}
use Rattle.model.specs.CaseFile.{Line, thread_count, switch_count, case_of, lines_of}
use Rattle.model.specs.Assignment.{assignment_of}
use Rattle.model.specs.Schedule.{lines_in_block, counted_lengths}
use Rattle.laws.specs.Accepted.{Accepted}
use Rattle.laws.proofs.Chains.{threads_are}
use Rattle.laws.proofs.Ranges.{same_numbers}
use Rattle.laws.proofs.Schedules.{lines_in_block_few}
use Rattle.laws.proofs.Writing.{Writing}
use Rattle.laws.proofs.Views.{EqView, same, diff, eq_view, LtView, below, above, lt_view}
use Rattle.assignment.specs.Numbers.{record_block}
use Rattle.schedule.specs.Schedules.{AllCounts, with_line, lengths_in}

-- The counts so far of thread t's lines by block, the lines that are left, and all its lines; the counts of the other threads stay.
pub record CountingLines (counts₀ counts : List (List ℕ)) (t : ℕ) (block : ℕ → ℕ) (rest all : List Line) : Type 0 where
  pub rows : length counts ≡ most_threads
  pub places : length (get_or counts t []) ≡ most_blocks
  pub each : (i : ℕ) → i < most_blocks → get_or (get_or counts t []) i 0 + lines_in_block block i rest ≡ lines_in_block block i all
  pub others : (u : ℕ) → u ≢ t → get_or counts u [] ≡ get_or counts₀ u []

pub counting_lines_start : {counts : List (List ℕ)} {t : ℕ} → length counts ≡ most_threads → get_or counts t [] ≡ replicate most_blocks 0 → (block : ℕ → ℕ) (ls : List Line)
    → CountingLines counts counts t block ls ls
counting_lines_start rows fresh block ls = record {
  rows = rows;
  places = rw fresh;
  each = λ i h. rw fresh (omega (arith, get_or-replicate {A = ℕ} most_blocks i 0 0 h));
  others = λ u n. refl;
}

module _ {counts₀ counts : List (List ℕ)} {t : ℕ} {block : ℕ → ℕ} {rest all : List Line} (v : CountingLines counts₀ counts t block rest all) where
  pub counting_lines_few : (i : ℕ) → get_or (get_or counts t []) i 0 ≤ length all
  counting_lines_few i = go (lt_view i most_blocks)
    where
      go : LtView i most_blocks → get_or (get_or counts t []) i 0 ≤ length all
      go (below h q) = omega (arith, v.each i h, lines_in_block_few block i all)
      go (above h q) = omega (arith, get_or-eq_default (get_or counts t []) 0 {n = i} (omega (arith, v.places)))

pub counting_lines_more : {counts₀ counts : List (List ℕ)} {t : ℕ} {block : ℕ → ℕ} {l : Line} {rest all : List Line} → t < most_threads
    → CountingLines counts₀ counts t block (l ∷ rest) all → CountingLines counts₀ (with_line counts t (block l.number)) t block rest all
unfolding with_line lines_in_block
counting_lines_more {counts₀} {counts} {t} {block} {l} {rest} {all} few v = go (lt_view b most_blocks)
  where
    b : ℕ
    b = block l.number

    row : List ℕ
    row = get_or counts t []

    up : List ℕ
    up = set row b (get_or row b 0 + 1)

    own : get_or (set counts t up) t [] ≡ up
    own = get_or-set_same counts t up [] (omega (arith, v.rows))

    go : LtView b most_blocks → CountingLines counts₀ (cond (ltb b most_blocks) (set counts t up) counts) t block rest all
    go (below h q) = rw q (record {
      rows = length-set counts t up ∙ v.rows;
      places = rw own (length-set row b _ ∙ v.places);
      each = λ i under. rw own (at i under (eq_view b i));
      others = λ u n. get_or-set_other counts t u up [] n ∙ v.others u n;
    })
      where
        at : (i : ℕ) → i < most_blocks → EqView b i → get_or up i 0 + lines_in_block block i rest ≡ lines_in_block block i all
        at i under (same e s) =
            let raised : get_or up i 0 ≡ get_or row i 0 + 1 = rw (← e) (get_or-set_same row b (get_or row b 0 + 1) 0 (omega (arith, v.places))) in
            omega (arith, raised, rw s at (v.each i under))
        at i under (diff n s) = omega (arith, get_or-set_other row b i (get_or row b 0 + 1) 0 (λ z. n (sym z)), rw s at (v.each i under))
    go (above h q) = rw q (record {
      rows = v.rows;
      places = v.places;
      each = λ i under. omega (arith, rw (ne_eqb b i (λ e. omega (arith, e))) at (v.each i under));
      others = v.others;
    })

pub counting_lines_end : {counts₀ counts : List (List ℕ)} {t : ℕ} {block : ℕ → ℕ} {all : List Line} → CountingLines counts₀ counts t block [] all
    → (i : ℕ) → i < most_blocks → get_or (get_or counts t []) i 0 ≡ lines_in_block block i all
unfolding lines_in_block
counting_lines_end v i h = omega (arith, v.each i h)

-- The thread of the next block: the next one, or thread 0 after the last.
module _ (i : ℕ) {t many : ℕ} (few : t < many) (e : t ≡ i % many) where
  next_is : (t + 1) % many ≡ (i + 1) % many
  next_is = rw (e, add-one (i % many), ← (suc-mod i many), add-one i)

  pub after_last : t + 1 ≡ many → 0 ≡ (i + 1) % many
  after_last last = sym (mod_self many) ∙ ap (λ (n : ℕ). n % many) (sym last) ∙ next_is

  pub after_other : t + 1 ≢ many → t + 1 ≡ (i + 1) % many
  after_other other = sym (mod-eq_of_lt (omega (arith, other))) ∙ next_is

-- The lengths of the blocks from block i on, by the counts.
abbrev pub lengths_from : List ℕ → List (List ℕ) → ℕ → List ℕ
lengths_from bytes counts i = numbers_from (λ j. get_or (get_or counts (j % thread_count bytes) []) j 0) i (suc (switch_count bytes) - i)

-- Before block i, whose thread is t.
pub record Lengths (bytes : List ℕ) (counts : List (List ℕ)) (before out : List ℕ) (i t : ℕ) : Type 0 where
  pub writing : Writing (lengths_in bytes counts) before 0 out i (lengths_from bytes counts i)
  pub turn : t ≡ i % thread_count bytes

pub turn_few : {bytes : List ℕ} {counts : List (List ℕ)} {before out : List ℕ} {i t : ℕ} → Accepted bytes → Lengths bytes counts before out i t
    → t < thread_count bytes
turn_few {bytes} {i = i} ok v = let some : 0 < thread_count bytes = omega (arith, ok.some_threads) in omega (arith, v.turn, mod-lt i some)

module _ (bytes : List ℕ) (counts : List (List ℕ)) (i : ℕ) where
  pub lengths_go_on : i ≤ switch_count bytes → (t : ℕ) → t ≡ i % thread_count bytes
      → lengths_from bytes counts i ≡ (get_or (get_or counts t []) i 0 ∷ []) ++ lengths_from bytes counts (i + 1)
  unfolding numbers_from
  lengths_go_on h t e =
      let s : suc (switch_count bytes) - i ≡ suc (suc (switch_count bytes) - (i + 1)) = omega arith in
      rw (s, ← (add-one i), e)

  pub lengths_end : switch_count bytes < i → lengths_from bytes counts i ≡ []
  unfolding numbers_from
  lengths_end h = let s : suc (switch_count bytes) - i ≡ 0 = omega arith in rw s

-- The counts of all threads give the lengths that decoding counts.
pub lengths_counted : (bytes xs : List ℕ) → Accepted bytes → (counts : List (List ℕ)) → AllCounts bytes xs counts
    → lengths_in bytes counts ≡ counted_lengths (case_of bytes) (assignment_of (case_of bytes) xs)
unfolding assignment_of
lengths_counted bytes xs ok counts h = same_numbers _ _ 0 0 (suc (switch_count bytes)) (λ i under. at (0 + i) (omega arith))
  where
    at : (i : ℕ) → i < 0 + suc (switch_count bytes)
        → get_or (get_or counts (i % thread_count bytes) []) i 0 ≡ lines_in_block (record_block xs) i (lines_of (case_of bytes) (i % thread_count bytes))
    at i under =
        let own : i % thread_count bytes < thread_count bytes = mod-lt i (omega (arith, ok.some_threads)) in
        rw (threads_are bytes (i % thread_count bytes) own) (h (i % thread_count bytes) own i (omega (arith, ok.few_switches)))
