-- An assignment as its list of numbers: writing it and reading it back.
-- Assumes nothing. Met again in Claims, where an assignment is filled in.
use mathlib.Core.Path.{◌≡◌, refl, sym, ap, ap₂, ◌∙◌}
use Prim.Native.Nat.{ℕ, zero, suc, ◌+◌, ◌-◌, ◌*◌, ◌≤◌, ◌<◌}
use mathlib.Core.List.{List, ◌∷◌, ◌++◌}
use native.Mathlib.Omega.{arith}
use native.Mathlib.Nat.{zero-add, add-zero, suc-mul, zero-mul}
use lib.ListN.{get_or, length}
use lib.Seq.{ext_get_or}
use Rattle.laws.proofs.Ranges.{length_numbers_from, numbers_at_lem, same_numbers}
use Rattle.model.specs.Lists.{numbers_from}
use Rattle.model.specs.CaseFile.{Case, item_count}
use Rattle.model.specs.Assignment.{Assignment, variables, assignment_of}
use Rattle.correspondence.specs.Traced.{record_numbers, block_numbers, numbers_of_assignment}

numbers_append : (f : ℕ → ℕ) (i many more : ℕ) → numbers_from f i (many + more) ≡ numbers_from f i many ++ numbers_from f (i + many) more
unfolding numbers_from
numbers_append f i zero more = ap (numbers_from f i) (zero-add more) ∙ ap (λ (k : ℕ). numbers_from f k more) (sym (add-zero i))
numbers_append f i (suc many) more = ap (numbers_from f i) one
    ∙ ap (λ (xs : List ℕ). f i ∷ xs) (numbers_append f (suc i) many more ∙ ap (λ (k : ℕ). numbers_from f (suc i) many ++ numbers_from f k more) (omega arith))
  where
    one : suc many + more ≡ suc (many + more)
    one = omega arith

numbers_of_list : (xs : List ℕ) → numbers_from (λ j. get_or xs j 0) 0 (length xs) ≡ xs
numbers_of_list xs =
    let read : ℕ → ℕ = λ j. get_or xs j 0 in
    ext_get_or 0 (numbers_from read 0 (length xs)) xs (length_numbers_from read 0 (length xs))
    (λ i h. numbers_at_lem read 0 (length xs) i (rw (length_numbers_from read 0 (length xs)) at h) ∙ ap read (zero-add i))

-- A list of the right length is what its own assignment writes.
module _ (case : Case) (xs : List ℕ) where
  records_of_own : (k many : ℕ) → 0 < k → record_numbers (assignment_of case xs) k many ≡ numbers_from (λ j. get_or xs j 0) (2 * (k - 1)) (2 * many)
  unfolding assignment_of numbers_from
  records_of_own k zero h = refl
  records_of_own k (suc many) h =
      ap₂ (λ (y : ℕ) (ys : List ℕ). get_or xs (2 * (k - 1)) 0 ∷ (y ∷ ys)) (ap (λ (j : ℕ). get_or xs j 0) up)
      (records_of_own (suc k) many (omega arith) ∙ ap (λ (j : ℕ). numbers_from (λ i. get_or xs i 0) j (2 * many)) up_twice)
      ∙ ap (numbers_from (λ j. get_or xs j 0) (2 * (k - 1))) two
    where
      up : 2 * (k - 1) + 1 ≡ suc (2 * (k - 1))
      up = omega arith

      up_twice : 2 * (suc k - 1) ≡ suc (suc (2 * (k - 1)))
      up_twice = omega arith

      two : suc (suc (2 * many)) ≡ 2 * suc many
      two = omega arith

  blocks_of_own : (i many : ℕ) → block_numbers case (assignment_of case xs) i many
      ≡ numbers_from (λ j. get_or xs j 0) (2 * case.R + i * item_count case) (many * item_count case)
  unfolding assignment_of numbers_from
  blocks_of_own i zero = ap (numbers_from (λ j. get_or xs j 0) (2 * case.R + i * item_count case)) (sym (zero-mul (item_count case)))
  blocks_of_own i (suc many) =
      ap₂ (λ (ys zs : List ℕ). ys ++ zs)
      (same_numbers (λ g. get_or xs (2 * case.R + i * item_count case + g) 0) (λ j. get_or xs j 0) 0 (2 * case.R + i * item_count case) (item_count case)
      (λ j few. ap (λ (z : ℕ). get_or xs (2 * case.R + i * item_count case + z) 0) (zero-add j)))
      (blocks_of_own (suc i) many ∙ ap (λ (j : ℕ). numbers_from (λ q. get_or xs q 0) j (many * item_count case)) next)
      ∙ sym (numbers_append (λ j. get_or xs j 0) (2 * case.R + i * item_count case) (item_count case) (many * item_count case))
      ∙ ap (numbers_from (λ j. get_or xs j 0) (2 * case.R + i * item_count case)) one
    where
      next : 2 * case.R + suc i * item_count case ≡ 2 * case.R + i * item_count case + item_count case
      next = omega (arith, suc-mul i (item_count case))

      one : item_count case + many * item_count case ≡ suc many * item_count case
      one = omega (arith, suc-mul many (item_count case))

  pub numbers_of_own : length xs ≡ variables case → numbers_of_assignment case (assignment_of case xs) ≡ xs
  numbers_of_own h =
      ap₂ (λ (ys zs : List ℕ). ys ++ zs) (records_of_own 1 case.R (omega arith))
      (blocks_of_own 0 case.n ∙ ap (λ (j : ℕ). numbers_from (λ q. get_or xs q 0) j (case.n * item_count case)) start)
      ∙ sym (numbers_append (λ j. get_or xs j 0) 0 (2 * case.R) (case.n * item_count case))
      ∙ ap (numbers_from (λ j. get_or xs j 0) 0) (sym h) ∙ numbers_of_list xs
    where
      start : 2 * case.R + 0 * item_count case ≡ 0 + 2 * case.R
      start = omega (arith, zero-mul (item_count case))

-- Two assignments that are equal on every variable write the same list.
records_same : (α β : Assignment) (k many : ℕ) → ((j : ℕ) → k ≤ j → j < k + many → (α.block j ≡ β.block j) × (α.value j ≡ β.value j))
    → record_numbers α k many ≡ record_numbers β k many
records_same α β k zero h = refl
records_same α β k (suc many) h =
    let one = h k (omega arith) (omega arith) in
    ap₂ (λ (y : ℕ) (ys : List ℕ). y ∷ ys) one.0
    (ap₂ (λ (y : ℕ) (ys : List ℕ). y ∷ ys) one.1 (records_same α β (suc k) many (λ j low high. h j (omega arith) (omega arith))))

blocks_same : (case : Case) (α β : Assignment) (i many : ℕ) → ((j g : ℕ) → j < i + many → g < item_count case → α.block_value j g ≡ β.block_value j g)
    → block_numbers case α i many ≡ block_numbers case β i many
blocks_same case α β i zero h = refl
blocks_same case α β i (suc many) h = ap₂ (λ (ys zs : List ℕ). ys ++ zs)
    (same_numbers (α.block_value i) (β.block_value i) 0 0 (item_count case) (λ g few. h i (0 + g) (omega arith) (omega arith)))
    (blocks_same case α β (suc i) many (λ j g few some. h j g (omega arith) some))

pub numbers_same : (case : Case) (α β : Assignment) → ((k : ℕ) → 0 < k → k ≤ case.R → (α.block k ≡ β.block k) × (α.value k ≡ β.value k))
    → ((i g : ℕ) → i < case.n → g < item_count case → α.block_value i g ≡ β.block_value i g) → numbers_of_assignment case α ≡ numbers_of_assignment case β
numbers_same case α β h hb = ap₂ (λ (ys zs : List ℕ). ys ++ zs)
    (records_same α β 1 case.R (λ j low high. h j (omega arith) (omega arith)))
    (blocks_same case α β 0 case.n (λ j g few some. hb j g (omega arith) some))
