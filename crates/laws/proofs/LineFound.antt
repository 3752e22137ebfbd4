-- A record number finds its own line: where no number occurs twice, looking for the number of a line gives that line.
-- Assumes nothing. Met again in Rows, since a row names its line by number.
use mathlib.Core.Path.{◌≡◌, refl, ◌∙◌}
use Prim.Native.Nat.{ℕ, zero, suc, ◌≤◌, ◌<◌}
use mathlib.Core.List.{List, [], ◌∷◌}
use native.Mathlib.Omega.{arith}
use lib.ListN.{get_or}
use borrow.Author.Tests.{eq-eqb}
use Rattle.model.specs.CaseFile.{Line, Case, lines_of, sum_of_lines, sum_of_threads, has_number, find_line, find_thread, line_at}
use Rattle.laws.proofs.Counting.{own_number_counts, number_is_other}
use Rattle.laws.proofs.Lines.{find_nothing}
use Rattle.laws.specs.Order.{AllLines}
use Rattle.laws.proofs.AllLines.{all_lines_map}

find_passes_one : (k : ℕ) (l : Line) (ls : List Line) (other : Line) → has_number k l ≡ 0 → find_line k (l ∷ ls) other ≡ find_line k ls other
unfolding find_line
find_passes_one k l ls other none = rw (number_is_other k l none)

find_first : (l : Line) (ls : List Line) (other : Line) → find_line l.number (l ∷ ls) other ≡ l
unfolding find_line
find_first l ls other = rw (eq-eqb l.number l.number refl)

-- a line is found by its number and counted: in a thread, where each number has another line to fall back on; among threads
record FoundIn (ls : List Line) (other : ℕ → Line) (l : Line) : Type 0 where
  found : find_line l.number ls (other l.number) ≡ l
  counted : 0 < sum_of_lines (has_number l.number) ls

record FoundAmong (threads : List (List Line)) (l : Line) : Type 0 where
  found : find_thread l.number threads ≡ l
  counted : 0 < sum_of_threads (has_number l.number) threads

found_in_lines : (ls : List Line) (other : ℕ → Line) → ((k : ℕ) → sum_of_lines (has_number k) ls ≤ 1) → AllLines (FoundIn ls other) ls
found_in_lines [] other once = tt
found_in_lines (l ∷ ls) other once = (
  record { found = find_first l ls (other l.number); counted = omega (arith, own_number_counts l) },
  all_lines_map (FoundIn ls other) (FoundIn (l ∷ ls) other) ls
      (λ l' h. record { found = find_passes_one l'.number l ls (other l'.number) (omega (arith, once l'.number, h.counted)) ∙ h.found; counted = omega (arith, h.counted) })
      (found_in_lines ls other (λ k. omega (arith, once k))),
)

found_in_threads : (threads : List (List Line)) → ((k : ℕ) → sum_of_threads (has_number k) threads ≤ 1) → (t : ℕ)
    → AllLines (FoundAmong threads) (get_or threads t [])
unfolding find_thread
found_in_threads [] once t = tt
found_in_threads (ls ∷ threads) once zero =
    all_lines_map (FoundIn ls (λ k. find_thread k threads)) (FoundAmong (ls ∷ threads)) ls (λ l h. record { found = h.found; counted = omega (arith, h.counted) })
    (found_in_lines ls (λ k. find_thread k threads) (λ k. omega (arith, once k)))
found_in_threads (ls ∷ threads) once (suc t) =
    all_lines_map (FoundAmong threads) (FoundAmong (ls ∷ threads)) (get_or threads t [])
    (λ l h. record { found = find_nothing l.number ls (find_thread l.number threads) (omega (arith, once l.number, h.counted)) ∙ h.found; counted = omega (arith, h.counted) })
    (found_in_threads threads (λ k. omega (arith, once k)) t)

pub line_found : (case : Case) → ((k : ℕ) → sum_of_threads (has_number k) case.threads ≤ 1) → (t : ℕ)
    → AllLines (λ l. line_at case l.number ≡ l) (lines_of case t)
line_found case once t =
    all_lines_map (FoundAmong case.threads) (λ l. line_at case l.number ≡ l) (lines_of case t) (λ l h. h.found)
    (found_in_threads case.threads once t)
