-- The items' values where the run starts, and where a block starts.
-- Assumes nothing.
use mathlib.Core.Path.{◌≡◌, refl, sym, ap, ◌∙◌}
use mathlib.Core.Logic.{◌≢◌}
use Prim.Native.Nat.{ℕ, zero, suc, ◌+◌, ◌*◌, ◌-◌, ◌≤◌, ◌<◌}
use mathlib.Core.List.{List, ◌++◌}
use native.Mathlib.Omega.{arith}
use native.Mathlib.Nat.{mul-le-mul, add-zero}
use lib.ListN.{get_or, length, set, length-set, length-append, length-replicate, replicate}
use lib.Seq.{get_or-set_same, get_or-set_other}
use Rattle.model.specs.Limits.{most_switches, most_items}
use Rattle.model.specs.Lists.{numbers_from}
use Rattle.model.specs.CaseFile.{Case, records, global_count, mutex_count, initial_value, case_of, item_count}
use Rattle.model.specs.Assignment.{Assignment, assignment_of}
use Rattle.model.specs.Copies.{value_before}
use Rattle.laws.specs.Accepted.{Accepted}
use Rattle.laws.proofs.Ranges.{length_numbers_from}
use Rattle.case_file.specs.FirstItems.{first_items}
use Rattle.laws.proofs.Views.{EqView, same, diff, eq_view, LtView, below, above, lt_view}
use Rattle.assignment.specs.Numbers.{Filled, initial_item, number_from, StartOf}

-- ---- An array filled one after the other

pub filled_all : (value : ℕ → ℕ) (g count : ℕ) (items : List ℕ) → Filled value g items → count ≤ g → Filled value count items
filled_all value g count items v h = record { wide = v.wide; filled = λ j small. v.filled j (omega arith) }

-- The first g of so many.
pub record Filling (value : ℕ → ℕ) (count g : ℕ) (items : List ℕ) : Type 0 where
  pub upto : g ≤ count
  pub here : Filled value g items

module _ {value : ℕ → ℕ} {count : ℕ} where
  pub filling_start : Filling value count 0 (replicate most_items 0)
  filling_start = record { upto = omega arith; here = record { wide = refl; filled = λ g h. absurd (omega arith) } }

  module _ {g : ℕ} {items : List ℕ} (v : Filling value count g items) where
    pub filling_more : (x : ℕ) → g < count → count ≤ most_items → x ≡ value g → Filling value count (g + 1) (set items g x)
    filling_more x h few e = record {
      upto = omega arith;
      here = record { wide = length-set items g x ∙ v.here.wide; filled = λ j small. at j small (eq_view j g) };
    }
      where
        at : (j : ℕ) → j < g + 1 → EqView j g → get_or (set items g x) j 0 ≡ value j
        at j small (same p q) = ap (λ (i : ℕ). get_or (set items g x) i 0) p ∙ get_or-set_same items g x 0 (omega (arith, v.here.wide)) ∙ e ∙ ap value (sym p)
        at j small (diff n q) = get_or-set_other items g j x 0 n ∙ v.here.filled j (omega arith)

    pub filling_end : count ≤ g → Filled value count items
    filling_end h = filled_all value g count items v.here h

-- ---- The values where the run starts

-- "globals are at their initial values and mutexes at 0"
numbers_from_at : (f : ℕ → ℕ) (i many j : ℕ) (ys : List ℕ) → j < many → get_or (numbers_from f i many ++ ys) j 0 ≡ f (i + j)
unfolding numbers_from
numbers_from_at f i zero j ys h = absurd (omega arith)
numbers_from_at f i (suc many) zero ys h = ap f (sym (add-zero i))
numbers_from_at f i (suc many) (suc j) ys h = numbers_from_at f (suc i) many j ys (omega arith) ∙ ap f (omega arith)

zeros_at : (many j : ℕ) → ◌≡◌ {A = ℕ} (get_or (replicate many 0) j 0) 0
zeros_at zero j = refl
zeros_at (suc many) zero = refl
zeros_at (suc many) (suc j) = zeros_at many j

numbers_from_past : (f : ℕ → ℕ) (i many j more : ℕ) → many ≤ j → get_or (numbers_from f i many ++ replicate more 0) j 0 ≡ 0
unfolding numbers_from
numbers_from_past f i zero j more h = zeros_at more j
numbers_from_past f i (suc many) zero more h = absurd (omega arith)
numbers_from_past f i (suc many) (suc j) more h = numbers_from_past f (suc i) many j more (omega arith)

pub first_items_filled : (bytes : List ℕ) → Accepted bytes → (items : List ℕ) → items ≡ first_items bytes (global_count bytes)
    → Filled (initial_item bytes) (item_count (case_of bytes)) items
unfolding first_items
first_items_filled bytes ok items e = record {
  wide = ap length e ∙ length-append globals zeros
      ∙ omega (arith, length_numbers_from (initial_value bytes) 0 (global_count bytes), length-replicate {A = ℕ} (most_items - global_count bytes) 0, ok.few_globals);
  filled = λ g h. ap (λ (xs : List ℕ). get_or xs g 0) e ∙ at g (lt_view g (global_count bytes));
}
  where
    globals : List ℕ
    globals = numbers_from (initial_value bytes) 0 (global_count bytes)

    zeros : List ℕ
    zeros = replicate (most_items - global_count bytes) 0

    at : (g : ℕ) → LtView g (global_count bytes) → get_or (globals ++ zeros) g 0 ≡ initial_item bytes g
    at g (below h _) = numbers_from_at (initial_value bytes) 0 (global_count bytes) g zeros h ∙ sym (numbers_from_at (initial_value bytes) 0 (global_count bytes) g _ h)
    at g (above h _) = numbers_from_past (initial_value bytes) 0 (global_count bytes) g (most_items - global_count bytes) h
        ∙ sym (numbers_from_past (initial_value bytes) 0 (global_count bytes) g (mutex_count bytes) h)

-- ---- The values where a block starts

value_before_later : (case : Case) (α : Assignment) (i g : ℕ) → i ≢ 0 → α.block_value (i - 1) g ≡ value_before case α i g
unfolding value_before
value_before_later case α zero g h = absurd (h refl)
value_before_later case α (suc i) g h = let e : suc i - 1 ≡ i = omega arith in rw e

module _ (bytes xs : List ℕ) (i : ℕ) {items : List ℕ} where
  pub start_of_first : i ≡ 0 → Filled (initial_item bytes) (item_count (case_of bytes)) items → StartOf bytes xs i items
  unfolding value_before
  start_of_first e v = rw e v

  pub start_of_later : (place count : ℕ) → i ≢ 0 → count ≡ item_count (case_of bytes) → place ≡ 2 * records bytes + (i - 1) * count
      → Filled (number_from xs place) count items → StartOf bytes xs i items
  unfolding assignment_of
  start_of_later place count some ec ep v = record {
    wide = v.wide;
    filled = λ g h. v.filled g (omega (arith, ec)) ∙ (rw (ep, ec) (value_before_later (case_of bytes) (assignment_of (case_of bytes) xs) i g some));
  }

pub block_place_at_most : (i count : ℕ) → i ≤ most_switches → count ≤ most_items → (i - 1) * count ≤ (most_switches - 1) * most_items
block_place_at_most i count h h' = let few : i - 1 ≤ most_switches - 1 = omega arith in mul-le-mul few h'
