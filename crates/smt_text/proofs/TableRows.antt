-- What is known of each row of an accepted case's table. Assumes nothing. Met again in Assertions.
use mathlib.Core.Path.{◌≡◌}
use Prim.Native.Nat.{ℕ, zero, suc, ◌<◌}
use mathlib.Core.List.{List, [], ◌∷◌}
use native.Mathlib.Omega.{arith}
use lib.ListN.{drop}
use Rattle.model.specs.Limits.{most_lines}
use Rattle.model.specs.CaseFile.{case_of}
use Rattle.model.specs.Table.{Row, table}
use Rattle.script.specs.Assertions.{sources_of}
use Rattle.laws.specs.Accepted.{Accepted}
use Rattle.walk_text.specs.Previous.{HasTable}
use Rattle.walk_text.specs.Walk.{PreviousCopies, walk_copies, SixesWalk}
use Rattle.walk_text.proofs.Sixes.{table_walks}
use Rattle.line_threads.specs.Threads.{row_at}
use Rattle.line_threads.proofs.TableRows.{table_row, table_row_of}
use Rattle.smt_text.specs.Rows.{row_assertion, RowKnown}

-- What is known of all rows is known of each.
module _ (bytes previous : List ℕ) where
  abbrev Walk : Row → Type 0
  Walk w = w.kind ≡ 6 → walk_copies (case_of bytes) (sources_of (case_of bytes)) w.two w.one previous most_lines w.three ≡ row_assertion bytes w

  walk_at : (w : Row) (rest rows : List Row) (j : ℕ) → SixesWalk (case_of bytes) (sources_of (case_of bytes)) previous rows → drop j rows ≡ w ∷ rest → Walk w
  walk_at w rest [] zero walks e = let z : ◌≡◌ {A = ℕ} 0 1 = cc in absurd (omega arith)
  walk_at w rest [] (suc j) walks e = let z : ◌≡◌ {A = ℕ} 0 1 = cc in absurd (omega arith)
  walk_at w rest (u ∷ us) zero walks e = let same : u ≡ w = cc in rw (← same) walks.0
  walk_at w rest (u ∷ us) (suc j) walks e = walk_at w rest us j walks.1 e

pub row_known : {bytes previous xs : List ℕ} {count : ℕ} → Accepted bytes → HasTable (case_of bytes) xs count → PreviousCopies (case_of bytes) previous
    → (j : ℕ) → j < count → RowKnown bytes previous (row_at xs j)
row_known {bytes} {previous} {xs} ok h before j below = record {
  of = table_row_of ok h j below;
  walk = walk_at bytes previous (row_at xs j) (drop (suc j) (table (case_of bytes))) (table (case_of bytes)) j
      (table_walks ok (sources_of (case_of bytes)) previous before) (table_row h j below);
}
