-- How many blocks a thread has, how many lines a case has, and how often lines have one of the items as target.
-- Assumes nothing. Met again in Rows and Text.
use mathlib.Core.Path.{◌≡◌, refl}
use Prim.Native.Nat.{ℕ, zero, suc, ◌+◌, ◌-◌, ◌*◌, ◌≤◌, ◌<◌}
use mathlib.Core.Bool.{Bool, true, false, cond}
use mathlib.Core.List.{List, [], ◌∷◌}
use native.Mathlib.Omega.{arith}
use native.Mathlib.Nat.{mul-zero, mul-suc, le_refl}
use borrow.Author.Tests.{leb-true}
use lib.Dec.{eqb, leb}
use lib.ListN.{length}
use Rattle.model.specs.Word.{bit}
use Rattle.model.specs.Limits.{most_lines}
use Rattle.model.specs.CaseFile.{Line, Case, records, thread_count, first_record, chains, case_of, sum_of_lines, sum_of_threads, line_at}
use Rattle.model.specs.Line.{item_name, target_name, is_input}
use Rattle.model.specs.Holds.{from_record}
use Rattle.script.specs.Assertions.{source, sources_from, sources_of, most_sources, blocks_from}
use Rattle.laws.specs.Accepted.{Accepted, lines_from}
use Rattle.laws.proofs.Counting.{sum_from, sum_of_bits}
use Rattle.laws.proofs.Lines.{few_lines_from}
use Rattle.laws.proofs.RecordSums.{lines_add_up}
use Rattle.laws.proofs.Views.{EqView, same, diff, eq_view}

-- A case has at most six sources.
sources_from_few : (case : Case) (many k room : ℕ) → length (sources_from case many k room) ≤ room
unfolding sources_from
sources_from_few case zero k room = omega arith
sources_from_few case (suc many) k room = go (is_input (line_at case k).kind) room (sources_from_few case many (suc k))
  where
    go : (q : Bool) (room : ℕ) → ((room : ℕ) → length (sources_from case many (suc k) room) ≤ room) → length (source q k (sources_from case many (suc k)) room) ≤ room
    go true zero later = omega arith
    go true (suc room) later = omega (arith, later room)
    go false room later = later room

pub sources_few : (case : Case) → length (sources_of case) ≤ most_sources
unfolding sources_of
sources_few case = sources_from_few case case.R 1 most_sources

-- Every T-th block from i to n.
pub blocks_few : (T n most i : ℕ) → T * length (blocks_from T n most i) ≤ n + T - i
unfolding blocks_from
blocks_few T n zero i = omega (arith, mul-zero T)
blocks_few T n (suc most) i = go (leb i n) refl (blocks_few T n most (i + T))
  where
    go : (q : Bool) → leb i n ≡ q → T * length (blocks_from T n most (i + T)) ≤ n + T - (i + T)
        → T * length (cond q (i ∷ blocks_from T n most (i + T)) []) ≤ n + T - i
    go true e later = omega (arith, leb-true i n e, mul-suc T (length (blocks_from T n most (i + T))))
    go false e later = omega (arith, mul-zero T)

-- The lines of all threads: at most R, and at most 64 a thread.
abbrev pub line_count : List (List Line) → ℕ
line_count threads = sum_of_threads (λ l. 1) threads

pub lines_counted_lem : (ls : List Line) → sum_of_lines (λ l. 1) ls ≡ length ls
lines_counted_lem [] = refl
lines_counted_lem (l ∷ ls) = omega (arith, lines_counted_lem ls)

module _ (bytes : List ℕ) (ok : Accepted bytes) where
  pub lines_are_few : line_count (case_of bytes).threads ≤ records bytes
  lines_are_few = omega (arith, lines_add_up (λ k. 1) bytes ok (λ l. 1) (λ t k. refl), sum_of_bits (λ k. 1) 1 (records bytes) (λ k. le_refl 1))

  lines_by_thread : (t many : ℕ) → t + many ≤ thread_count bytes → line_count (chains bytes t many) ≤ most_lines * many
  unfolding chains
  lines_by_thread t zero h = omega arith
  lines_by_thread t (suc many) h =
      omega (
        arith,
        lines_counted_lem (lines_from bytes t (first_record bytes t)),
        few_lines_from bytes ok t (first_record bytes t) (ok.firsts t (omega arith)),
        lines_by_thread (suc t) many (omega arith),
      )

  pub lines_a_thread : line_count (case_of bytes).threads ≤ most_lines * thread_count bytes
  lines_a_thread = lines_by_thread 0 (thread_count bytes) (omega arith)

-- How many of these lines have item g as target; no line has two.
abbrev pub hits : Case → ℕ → List Line → ℕ
hits case g ls = sum_of_lines (λ l. bit (eqb (target_name case.G l) (item_name g))) ls

pub hits_from_record : (case : Case) (g k : ℕ) (ls : List Line) → hits case g (from_record k ls) ≤ hits case g ls
unfolding from_record
hits_from_record case g k [] = omega arith
hits_from_record case g k (l ∷ ls) = go (eqb l.number k) (hits_from_record case g k ls)
  where
    go : (q : Bool) → hits case g (from_record k ls) ≤ hits case g ls → hits case g (cond q (l ∷ ls) (from_record k ls)) ≤ hits case g (l ∷ ls)
    go true later = omega arith
    go false later = omega arith

not_yet : (x g many : ℕ) → x < item_name g → sum_from (λ j. bit (eqb x (item_name j))) g many ≡ 0
not_yet x g zero h = refl
not_yet x g (suc many) h = go (eq_view x (item_name g)) (not_yet x (suc g) many (omega arith))
  where
    go : EqView x (item_name g) → sum_from (λ j. bit (eqb x (item_name j))) (suc g) many ≡ 0 → sum_from (λ j. bit (eqb x (item_name j))) g (suc many) ≡ 0
    go (same e q) later = absurd (omega arith)
    go (diff e q) later = rw q (omega arith)

one_at_most : (x g many : ℕ) → sum_from (λ j. bit (eqb x (item_name j))) g many ≤ 1
one_at_most x g zero = omega arith
one_at_most x g (suc many) = go (eq_view x (item_name g)) (one_at_most x (suc g) many)
  where
    go : EqView x (item_name g) → sum_from (λ j. bit (eqb x (item_name j))) (suc g) many ≤ 1 → sum_from (λ j. bit (eqb x (item_name j))) g (suc many) ≤ 1
    go (same e q) later = rw q (omega (arith, not_yet x (suc g) many (omega arith)))
    go (diff e q) later = rw q (omega arith)

no_hits : (case : Case) (g many : ℕ) → sum_from (λ j. hits case j []) g many ≡ 0
no_hits case g zero = refl
no_hits case g (suc many) = omega (arith, no_hits case (suc g) many)

hits_add : (case : Case) (l : Line) (ls : List Line) (g many : ℕ)
    → sum_from (λ j. hits case j (l ∷ ls)) g many ≡ sum_from (λ j. bit (eqb (target_name case.G l) (item_name j))) g many + sum_from (λ j. hits case j ls) g many
hits_add case l ls g zero = refl
hits_add case l ls g (suc many) = omega (arith, hits_add case l ls (suc g) many)

pub hits_at_most : (case : Case) (ls : List Line) (g many : ℕ) → sum_from (λ j. hits case j ls) g many ≤ length ls
hits_at_most case [] g many = omega (arith, no_hits case g many)
hits_at_most case (l ∷ ls) g many = omega (arith, hits_add case l ls g many, one_at_most (target_name case.G l) g many, hits_at_most case ls g many)
