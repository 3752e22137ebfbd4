-- What is noted from the 3s of an accepted case's table are the threads of its lines.
-- Assumes nothing. Met again in `threads_of`.
use mathlib.Core.Path.{◌≡◌, refl, sym, ap, ◌∙◌}
use Prim.Native.Nat.{ℕ, suc, ◌+◌, ◌<◌}
use mathlib.Core.List.{List, [], ◌∷◌}
use native.Mathlib.Omega.{arith}
use native.Mathlib.Nat.{add-zero}
use lib.ListN.{length, get_or, set, replicate, length-set, length-replicate}
use lib.Seq.{get_or-set_same, get_or-set_other}
use Rattle.model.specs.Limits.{record_places}
use Rattle.model.specs.CaseFile.{Line, Case, case_of, sum_of_lines, sum_of_threads, has_number, line_at}
use Rattle.model.specs.Table.{Row, line_order_rows, order_rows, value_rows, all_order_rows, all_value_rows}
use Rattle.laws.specs.Accepted.{Accepted}
use Rattle.laws.specs.Order.{AllLines}
use Rattle.laws.proofs.Views.{EqView, same, diff, eq_view}
use Rattle.walk_text.specs.Previous.{HasTable, noted, noted_from}
use Rattle.walk_text.proofs.NotedRows.{noted_rows, rows_append, table_numbers_lem, behind_none, demand_none, table_lines}
use Rattle.line_threads.specs.Threads.{HasThreads}
use Rattle.line_threads.proofs.RecordLines.{found_threads}

-- "3, line, T, thread"
abbrev noted_threes : List Row → List ℕ → List ℕ
noted_threes = noted_rows 3 3

-- ---- Only 3s are noted

module _ (case : Case) where
  value_none : (earlier ls : List Line) (threads : List ℕ) → noted_threes (value_rows case earlier ls) threads ≡ threads
  unfolding noted_rows noted value_rows
  value_none earlier [] threads = refl
  value_none earlier (l ∷ ls) threads =
      demand_none 3 3 case refl l.kind earlier l (value_rows case (l ∷ earlier) ls) threads ∙ value_none (l ∷ earlier) ls threads

  all_value_none : (lines : List (List Line)) (threads : List ℕ) → noted_threes (all_value_rows case lines) threads ≡ threads
  unfolding noted_rows all_value_rows
  all_value_none [] threads = refl
  all_value_none (ls ∷ lines) threads =
      rows_append 3 3 (value_rows case [] ls) (all_value_rows case lines) threads
      ∙ ap (noted_threes (all_value_rows case lines)) (value_none [] ls threads) ∙ all_value_none lines threads

-- ---- The 3s have the threads

-- Where no line to come has number k, its thread is noted.
record Noted (thread : ℕ → ℕ) (k to_come : ℕ) (threads : List ℕ) : Type 0 where
  places : length threads ≡ record_places
  known : to_come ≡ 0 → get_or threads k 0 ≡ thread k

module _ (case : Case) (thread : ℕ → ℕ) (k : ℕ) (inside : k < record_places) where
  line_noted : (t to_come : ℕ) (l : Line) (threads : List ℕ) → thread l.number ≡ t → Noted thread k (has_number k l + to_come) threads
      → Noted thread k to_come (set threads l.number t)
  line_noted t to_come l threads own v = record { places = length-set threads l.number t ∙ v.places; known = λ none. go (eq_view l.number k) none }
    where
      go : EqView l.number k → to_come ≡ 0 → get_or (set threads l.number t) k 0 ≡ thread k
      go (same e q) none = rw (← e) (get_or-set_same threads l.number t 0 (omega (arith, e, inside, v.places)) ∙ sym own)
      go (diff e q) none = get_or-set_other threads l.number k t 0 (λ z. e (sym z)) ∙ v.known (rw q (omega (arith, none)))

  thread_noted : (t to_come : ℕ) (earlier ls : List Line) (threads : List ℕ) → AllLines (λ l. thread l.number ≡ t) ls
      → Noted thread k (sum_of_lines (has_number k) ls + to_come) threads → Noted thread k to_come (noted_threes (order_rows case t earlier ls) threads)
  unfolding noted_rows noted order_rows line_order_rows
  thread_noted t to_come earlier [] threads own v = let z : 0 + to_come ≡ to_come = omega arith in rw z at v
  thread_noted t to_come earlier (l ∷ ls) threads own v =
      let z : has_number k l + sum_of_lines (has_number k) ls + to_come ≡ has_number k l + (sum_of_lines (has_number k) ls + to_come) = omega arith in
      rw (behind_none 3 3 case refl refl refl earlier l ls (order_rows case t (l ∷ earlier) ls) (set threads l.number t))
      (thread_noted t to_come (l ∷ earlier) ls _ own.1 (line_noted t (sum_of_lines (has_number k) ls + to_come) l threads own.0 (rw z at v)))

  threads_noted : (t : ℕ) (lines : List (List Line)) (threads : List ℕ) → ((u : ℕ) → AllLines (λ l. thread l.number ≡ t + u) (get_or lines u []))
      → Noted thread k (sum_of_threads (has_number k) lines) threads → Noted thread k 0 (noted_threes (all_order_rows case t lines) threads)
  unfolding noted_rows all_order_rows
  threads_noted t [] threads own v = v
  threads_noted t (ls ∷ lines) threads own v =
      rw (rows_append 3 3 (order_rows case t [] ls) (all_order_rows case (suc t) lines) threads)
      (threads_noted (suc t) lines _ (λ u. rw (shift u) (own (suc u)))
      (thread_noted t (sum_of_threads (has_number k) lines) [] ls threads (rw (add-zero t) at (own 0)) v))
    where
      shift : (u : ℕ) → suc t + u ≡ t + suc u
      shift u = omega arith

pub noted_threads : {xs notes : List ℕ} {count : ℕ} → notes ≡ noted_from 3 3 xs 0 count (replicate record_places 0)
    → (bytes : List ℕ) → Accepted bytes → HasTable (case_of bytes) xs count → HasThreads (case_of bytes) notes
noted_threads e bytes ok h k low high =
    rw (
      e,
      table_numbers_lem 3 3 (omega arith) h empty,
      table_lines 3 3 case refl refl empty,
      all_value_none case case.threads (noted_threes (all_order_rows case 0 case.threads) empty),
    )
    ((threads_noted case (λ j. (line_at case j).thread) k (omega (arith, ok.few_records)) 0 case.threads empty own start).known refl)
  where
    case : Case
    case = case_of bytes

    empty : List ℕ
    empty = replicate record_places 0

    own : (u : ℕ) → AllLines (λ l. (line_at case l.number).thread ≡ 0 + u) (get_or case.threads u [])
    own u = let z : 0 + u ≡ u = omega arith in rw z (found_threads ok u)

    start : Noted (λ j. (line_at case j).thread) k (sum_of_threads (has_number k) case.threads) empty
    start = record { places = length-replicate {A = ℕ} record_places 0; known = λ none. absurd (omega (arith, none, ok.reached_once k low high)) }
