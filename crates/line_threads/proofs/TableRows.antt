-- The rows of an accepted case's table, where they stand in the table's numbers, are about its records.
-- Assumes nothing. Met again where the text of a row is written.
use mathlib.Core.Path.{◌≡◌, refl, sym, ap, ◌∙◌}
use Prim.Native.Nat.{ℕ, zero, suc, ◌+◌, ◌*◌, ◌<◌}
use mathlib.Core.List.{List, [], ◌∷◌, ◌++◌}
use native.Mathlib.Omega.{arith}
use lib.ListN.{length, drop}
use Rattle.model.specs.CaseFile.{Case, case_of}
use Rattle.model.specs.Table.{Row, table, numbers_of}
use Rattle.laws.specs.Accepted.{Accepted}
use Rattle.walk_text.specs.Previous.{HasTable}
use Rattle.walk_text.proofs.NotedRows.{numbers_and_rest}
use Rattle.line_threads.specs.Threads.{RowOf, RowsOf, row_at}
use Rattle.line_threads.proofs.RowLines.{table_rows_of}

-- Six numbers a row.
module _ (w : Row) (xs : List ℕ) where
  row_behind : (j : ℕ) → row_at (w.kind ∷ (w.one ∷ (w.two ∷ (w.three ∷ (w.four ∷ (w.five ∷ xs)))))) (suc j) ≡ row_at xs j
  row_behind j =
      let five : 6 * suc j + 5 ≡ suc (suc (suc (suc (suc (suc (6 * j + 5)))))) = omega arith in
      let four : 6 * suc j + 4 ≡ suc (suc (suc (suc (suc (suc (6 * j + 4)))))) = omega arith in
      let three : 6 * suc j + 3 ≡ suc (suc (suc (suc (suc (suc (6 * j + 3)))))) = omega arith in
      let two : 6 * suc j + 2 ≡ suc (suc (suc (suc (suc (suc (6 * j + 2)))))) = omega arith in
      let one : 6 * suc j + 1 ≡ suc (suc (suc (suc (suc (suc (6 * j + 1)))))) = omega arith in
      let kind : 6 * suc j ≡ suc (suc (suc (suc (suc (suc (6 * j)))))) = omega arith in
      rw (five, four, three, two, one, kind)

row_comes : (rows : List Row) (rest : List ℕ) (j : ℕ) → j < length rows → drop j rows ≡ row_at (numbers_of rows ++ rest) j ∷ drop (suc j) rows
unfolding numbers_of
row_comes [] rest j h = absurd (omega arith)
row_comes (w ∷ ws) rest zero h = refl
row_comes (w ∷ ws) rest (suc j) h =
    row_comes ws rest j (omega arith) ∙ ap (λ (u : Row). u ∷ drop (suc j) ws) (sym (row_behind w (numbers_of ws ++ rest) j))

-- The rows that are left at row j are that row and those behind it.
pub table_row : {case : Case} {xs : List ℕ} {count : ℕ} → HasTable case xs count → (j : ℕ) → j < count → drop j (table case) ≡ row_at xs j ∷ drop (suc j) (table case)
table_row {case} h j below =
    row_comes (table case) _ j (omega (arith, h.rows)) ∙ ap (λ (ns : List ℕ). row_at ns j ∷ drop (suc j) (table case)) (sym (numbers_and_rest h))

-- What all rows have of the case, each has.
row_of : (case : Case) (w : Row) (rest rows : List Row) (j : ℕ) → RowsOf case rows → drop j rows ≡ w ∷ rest → RowOf case w
row_of case w rest [] zero ofs e = let z : ◌≡◌ {A = ℕ} 0 1 = cc in absurd (omega arith)
row_of case w rest [] (suc j) ofs e = let z : ◌≡◌ {A = ℕ} 0 1 = cc in absurd (omega arith)
row_of case w rest (u ∷ us) zero ofs e = let same : u ≡ w = cc in rw (← same) ofs.0
row_of case w rest (u ∷ us) (suc j) ofs e = row_of case w rest us j ofs.1 e

pub table_row_of : {bytes xs : List ℕ} {count : ℕ} → Accepted bytes → HasTable (case_of bytes) xs count → (j : ℕ) → j < count → RowOf (case_of bytes) (row_at xs j)
table_row_of {bytes} {xs} ok h j below =
    row_of (case_of bytes) (row_at xs j) (drop (suc j) (table (case_of bytes))) (table (case_of bytes)) j (table_rows_of ok) (table_row h j below)
