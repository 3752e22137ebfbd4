-- What is noted from a table's numbers is what is noted from its rows, and rows of other kinds change nothing.
-- Assumes nothing. Met again in Previous, and where other numbers of the rows are noted.
use mathlib.Core.Path.{◌≡◌, refl, sym, ap, ◌∙◌}
use Prim.Native.Nat.{ℕ, zero, suc, ◌+◌, ◌*◌, ◌%◌, ◌<◌}
use mathlib.Core.Bool.{false}
use mathlib.Core.List.{List, [], ◌∷◌, ◌++◌, reverse, append_assoc}
use native.Mathlib.Omega.{arith}
use native.Mathlib.Nat.{zero-add}
use lib.Dec.{eqb}
use lib.ListN.{length, get_or, drop}
use Rattle.model.specs.CaseFile.{Line, Case, lines_of, item_count}
use Rattle.model.specs.declared.Kind.{Kind}
use Rattle.model.specs.declared.Kind.TheVariants.{Compute, Store, Load, Input, Assert, Assume, Lock, Unlock}
use Rattle.std.proofs.lemmas.List.{take-append-drop}
use Rattle.model.specs.Table.{Row, row, follow_row, stay_rows, demand_rows, all_order_rows, all_value_rows, item_rows, block_rows, run_rows, goal_row, table, numbers_of}
use Rattle.laws.proofs.StayRows.{stay_rows_by}
use Rattle.walk_text.specs.Previous.{HasTable, noted, noted_row, noted_from}

-- A slice that has a table has its numbers, and others behind them.
pub numbers_and_rest : {case : Case} {xs : List ℕ} {count : ℕ} → HasTable case xs count
    → xs ≡ numbers_of (table case) ++ drop (length (numbers_of (table case))) xs
numbers_and_rest {case} {xs} h =
    let many = length (numbers_of (table case)) in
    sym (take-append-drop many xs) ∙ ap (λ (ns : List ℕ). ns ++ drop many xs) h.numbers

-- A row in front of other numbers.
abbrev in_front : Row → List ℕ → List ℕ
in_front w xs = w.kind ∷ (w.one ∷ (w.two ∷ (w.three ∷ (w.four ∷ (w.five ∷ xs)))))

-- The number at a place of a row.
abbrev pub number_at : ℕ → Row → ℕ
number_at place w = get_or (in_front w []) place 0

module _ (which place : ℕ) where
  unfoldable pub noted_rows : List Row → List ℕ → List ℕ
  noted_rows [] notes = notes
  noted_rows (w ∷ ws) notes = noted_rows ws (noted which w.kind w.one (number_at place w) notes)

  pub rows_append : (ws us : List Row) (notes : List ℕ) → noted_rows (ws ++ us) notes ≡ noted_rows us (noted_rows ws notes)
  unfolding noted_rows
  rows_append [] us notes = refl
  rows_append (w ∷ ws) us notes = rows_append ws us (noted which w.kind w.one (number_at place w) notes)

  -- ---- The rows that the numbers are

  module _ (w : Row) (xs : List ℕ) where
    row_behind : (j : ℕ) (notes : List ℕ) → noted_row which place (in_front w xs) (suc j) notes ≡ noted_row which place xs j notes
    unfolding noted_row
    row_behind j notes =
        let own : 6 * suc j + place ≡ suc (suc (suc (suc (suc (suc (6 * j + place)))))) = omega arith in
        let one : 6 * suc j + 1 ≡ suc (suc (suc (suc (suc (suc (6 * j + 1)))))) = omega arith in
        let kind : 6 * suc j ≡ suc (suc (suc (suc (suc (suc (6 * j)))))) = omega arith in
        rw (own, one, kind)

    rows_behind : (j many : ℕ) (notes : List ℕ) → noted_from which place (in_front w xs) (suc j) many notes ≡ noted_from which place xs j many notes
    unfolding noted_from
    rows_behind j zero notes = refl
    rows_behind j (suc many) notes = rw (row_behind j notes) (rows_behind (suc j) many (noted_row which place xs j notes))

-- A place of a row is in the row, whatever comes behind it.
place_in_row : (w : Row) (xs : List ℕ) (place : ℕ) → place < 6 → get_or (in_front w xs) place 0 ≡ number_at place w
place_in_row w xs zero h = refl
place_in_row w xs (suc zero) h = refl
place_in_row w xs (suc (suc zero)) h = refl
place_in_row w xs (suc (suc (suc zero))) h = refl
place_in_row w xs (suc (suc (suc (suc zero)))) h = refl
place_in_row w xs (suc (suc (suc (suc (suc zero))))) h = refl
place_in_row w xs (suc (suc (suc (suc (suc (suc place)))))) h = absurd (omega arith)

module _ (which place : ℕ) (inside : place < 6) where
  first_row : (w : Row) (xs notes : List ℕ) → noted_row which place (in_front w xs) 0 notes ≡ noted which w.kind w.one (number_at place w) notes
  unfolding noted_row
  first_row w xs notes =
      ap (λ (x : ℕ). noted which w.kind w.one x notes)
      (ap (λ (x : ℕ). get_or (in_front w xs) x 0) (zero-add place) ∙ place_in_row w xs place inside)

  numbers_noted : (rows : List Row) (rest notes : List ℕ)
      → noted_from which place (numbers_of rows ++ rest) 0 (length rows) notes ≡ noted_rows which place rows notes
  unfolding noted_from noted_rows numbers_of
  numbers_noted [] rest notes = refl
  numbers_noted (w ∷ ws) rest notes =
      rows_behind which place w (numbers_of ws ++ rest) 0 (length ws) _
      ∙ numbers_noted ws rest _
      ∙ ap (noted_rows which place ws) (first_row w (numbers_of ws ++ rest) notes)

  pub table_numbers_lem : {case : Case} {xs : List ℕ} {count : ℕ} → HasTable case xs count → (notes : List ℕ)
      → noted_from which place xs 0 count notes ≡ noted_rows which place (table case) notes
  table_numbers_lem {case} {count = count} h notes =
      ap (λ (ns : List ℕ). noted_from which place ns 0 count notes) (numbers_and_rest h)
      ∙ rw h.rows (numbers_noted (table case) _ notes)

-- ---- Rows of other kinds

module _ (which place : ℕ) (case : Case) where
  abbrev noted_in : List Row → List ℕ → List ℕ
  noted_in = noted_rows which place

  pub other_first : (w : Row) (ws : List Row) (notes : List ℕ) → eqb w.kind which ≡ false → noted_in (w ∷ ws) notes ≡ noted_in ws notes
  unfolding noted_rows noted
  other_first w ws notes other = rw other

  follow_none : eqb 1 which ≡ false → eqb 2 which ≡ false → (l : Line) (ls : List Line) (ws : List Row) (notes : List ℕ)
      → noted_in (follow_row case l ls ∷ ws) notes ≡ noted_in ws notes
  unfolding follow_row
  follow_none one two l [] ws notes = other_first _ ws notes two
  follow_none one two l (next ∷ ls) ws notes = other_first _ ws notes one

  stay_none : eqb 8 which ≡ false → (earlier : List Line) (l : Line) (ws : List Row) (notes : List ℕ)
      → noted_in (stay_rows earlier l ++ ws) notes ≡ noted_in ws notes
  stay_none eight earlier l ws notes =
      stay_rows_by (λ us. noted_in (us ++ ws) notes ≡ noted_in ws notes) earlier l refl (λ before. other_first (row 8 l.number before.number 0 0 0) ws notes eight)

  -- The order rows of a line behind its 3.
  pub behind_none : eqb 8 which ≡ false → eqb 1 which ≡ false → eqb 2 which ≡ false → (earlier : List Line) (l : Line) (ls : List Line) (ws : List Row)
      (notes : List ℕ) → noted_in ((stay_rows earlier l ++ (follow_row case l ls ∷ [])) ++ ws) notes ≡ noted_in ws notes
  behind_none eight one two earlier l ls ws notes =
      ap (λ (us : List Row). noted_in us notes) (append_assoc (stay_rows earlier l) (follow_row case l ls ∷ []) ws)
      ∙ stay_none eight earlier l (follow_row case l ls ∷ ws) notes ∙ follow_none one two l ls ws notes

  pub demand_none : eqb 5 which ≡ false → (kind : Kind) (earlier : List Line) (l : Line) (ws : List Row) (notes : List ℕ)
      → noted_in (demand_rows kind case earlier l ++ ws) notes ≡ noted_in ws notes
  unfolding demand_rows
  demand_none five Compute earlier l ws notes = refl
  demand_none five Store earlier l ws notes = refl
  demand_none five Load earlier l ws notes = refl
  demand_none five Input earlier l ws notes = refl
  demand_none five Assert earlier l ws notes = refl
  demand_none five Assume earlier l ws notes = other_first _ ws notes five
  demand_none five Lock earlier l ws notes = other_first _ ws notes five
  demand_none five Unlock earlier l ws notes = refl

  module _ (six : eqb 6 which ≡ false) where
    items_none : (lines : List Line) (i g many : ℕ) (notes : List ℕ) → noted_in (item_rows case lines i g many) notes ≡ notes
    unfolding noted_rows item_rows
    items_none lines i g zero notes = refl
    items_none lines i g (suc many) notes =
        other_first _ (item_rows case lines i (suc g) many) notes six ∙ items_none lines i (suc g) many notes

    blocks_none : (i many : ℕ) (notes : List ℕ) → noted_in (block_rows case i many) notes ≡ notes
    unfolding noted_rows block_rows
    blocks_none i zero notes = refl
    blocks_none i (suc many) notes =
        let lines = reverse (lines_of case (i % case.T)) in
        rows_append which place (item_rows case lines i 0 (item_count case)) (block_rows case (suc i) many) notes
        ∙ ap (noted_in (block_rows case (suc i) many)) (items_none lines i 0 (item_count case) notes) ∙ blocks_none (suc i) many notes

    goal_none : eqb 7 which ≡ false → (notes : List ℕ) → noted_in (goal_row ∷ []) notes ≡ notes
    unfolding noted_rows
    goal_none seven notes = other_first goal_row [] notes seven

    -- The 6s and the 7 change nothing.
    pub table_lines : eqb 7 which ≡ false → (notes : List ℕ)
        → noted_in (table case) notes ≡ noted_in (all_value_rows case case.threads) (noted_in (all_order_rows case 0 case.threads) notes)
    unfolding table run_rows
    table_lines seven notes =
        rows_append which place (run_rows case) _ notes
        ∙ goal_none seven _
        ∙ rows_append which place (all_order_rows case 0 case.threads) (all_value_rows case case.threads ++ block_rows case 0 case.n) notes
        ∙ rows_append which place (all_value_rows case case.threads) (block_rows case 0 case.n) _
        ∙ blocks_none 0 case.n _
