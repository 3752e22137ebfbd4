-- What is noted from the 4s of an accepted case's table are the copies before its lines.
-- Assumes nothing. Met again in `previous_copies`.
use mathlib.Core.Path.{◌≡◌, refl, ap, ◌∙◌}
use Prim.Native.Nat.{ℕ, suc, ◌+◌}
use mathlib.Core.List.{List, [], ◌∷◌, reverse, reverse_aux}
use native.Mathlib.Omega.{arith}
use lib.ListN.{length, get_or, replicate}
use Rattle.model.specs.Limits.{record_places}
use Rattle.model.specs.CaseFile.{Line, Case, case_of, lines_of}
use Rattle.model.specs.Table.{Row, line_order_rows, order_rows, value_rows, all_order_rows, all_value_rows}
use Rattle.laws.specs.Accepted.{Accepted}
use Rattle.laws.proofs.Chains.{thread_count_lem}
use Rattle.copies.specs.CopyChains.{Noted}
use Rattle.copies.proofs.CopyChains.{noted_start, noted_next, noted_more}
use Rattle.walk_text.specs.Walk.{PreviousCopies}
use Rattle.walk_text.specs.Previous.{HasTable, noted, noted_from}
use Rattle.walk_text.proofs.NotedRows.{noted_rows, rows_append, table_numbers_lem, behind_none, demand_none, table_lines}

-- "4, line, guard copy, a copy, b copy, target copy"
abbrev noted_fours : List Row → List ℕ → List ℕ
noted_fours = noted_rows 4 5

-- ---- Only 4s are noted

module _ (case : Case) where
  order_none : (t : ℕ) (earlier ls : List Line) (previous : List ℕ) → noted_fours (order_rows case t earlier ls) previous ≡ previous
  unfolding noted_rows noted order_rows line_order_rows
  order_none t earlier [] previous = refl
  order_none t earlier (l ∷ ls) previous =
      behind_none 4 5 case refl refl refl earlier l ls (order_rows case t (l ∷ earlier) ls) previous ∙ order_none t (l ∷ earlier) ls previous

  all_order_none : (t : ℕ) (threads : List (List Line)) (previous : List ℕ) → noted_fours (all_order_rows case t threads) previous ≡ previous
  unfolding noted_rows all_order_rows
  all_order_none t [] previous = refl
  all_order_none t (ls ∷ threads) previous =
      rows_append 4 5 (order_rows case t [] ls) (all_order_rows case (suc t) threads) previous
      ∙ ap (noted_fours (all_order_rows case (suc t) threads)) (order_none t [] ls previous) ∙ all_order_none (suc t) threads previous

-- ---- The 4s have the copies

module _ {bytes : List ℕ} (ok : Accepted bytes) where
  abbrev case : Case
  case = case_of bytes

  thread_noted : (t : ℕ) (ls earlier : List Line) (previous : List ℕ) → reverse_aux ls earlier ≡ reverse (lines_of case t)
      → Noted case previous t earlier → Noted case (noted_fours (value_rows case earlier ls) previous) (suc t) []
  unfolding noted_rows noted value_rows
  thread_noted t [] earlier previous e v = noted_next v e
  thread_noted t (l ∷ ls) earlier previous e v =
      rw (demand_none 4 5 case refl l.kind earlier l (value_rows case (l ∷ earlier) ls) _)
      (thread_noted t ls (l ∷ earlier) _ e (noted_more bytes ok v l ls e refl))

  threads_noted : (threads : List (List Line)) (t : ℕ) (previous : List ℕ) → ((u : ℕ) → get_or threads u [] ≡ lines_of case (t + u)) → Noted case previous t []
      → Noted case (noted_fours (all_value_rows case threads) previous) (t + length threads) []
  unfolding noted_rows all_value_rows
  threads_noted [] t previous are v = let z : t + 0 ≡ t = omega arith in rw z v
  threads_noted (ls ∷ threads) t previous are v =
      let z : t + suc (length threads) ≡ suc t + length threads = omega arith in
      let here : ls ≡ lines_of case t = are 0 ∙ ap (lines_of case) (omega arith) in
      rw (z, rows_append 4 5 (value_rows case [] ls) (all_value_rows case threads) previous)
      (threads_noted threads (suc t) _ (λ u. are (suc u) ∙ ap (lines_of case) (omega arith))
      (thread_noted t ls [] previous (ap reverse here) v))

  table_noted : {xs : List ℕ} {count : ℕ} → HasTable case xs count → PreviousCopies case (noted_from 4 5 xs 0 count (replicate record_places 0))
  table_noted h t below =
      rw (table_numbers_lem 4 5 (omega arith) h empty, table_lines 4 5 case refl refl empty, all_order_none case 0 case.threads empty)
      (all.done t (omega (arith, thread_count_lem bytes)))
    where
      empty : List ℕ
      empty = replicate record_places 0

      all : Noted case (noted_fours (all_value_rows case case.threads) empty) (0 + length case.threads) []
      all = threads_noted case.threads 0 empty (λ u. ap (lines_of case) (omega arith)) (noted_start case empty refl)

pub copies_noted : {xs notes : List ℕ} {count : ℕ} → notes ≡ noted_from 4 5 xs 0 count (replicate record_places 0)
    → (bytes : List ℕ) → Accepted bytes → HasTable (case_of bytes) xs count → PreviousCopies (case_of bytes) notes
copies_noted e bytes ok h = rw e (table_noted ok h)
