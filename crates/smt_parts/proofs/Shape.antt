-- The items' initial values, and zeros beyond them. Assumes nothing. Met again in `shape_of`.
use mathlib.Core.Path.{◌≡◌, refl, sym, ap, ◌∙◌}
use Prim.Native.Nat.{ℕ, zero, suc, ◌-◌, ◌≤◌}
use mathlib.Core.List.{List, [], ◌∷◌, ◌++◌}
use native.Mathlib.Omega.{arith}
use lib.ListN.{get_or, length, replicate, length-append, length-replicate}
use Rattle.model.specs.Limits.{most_globals, most_items}
use Rattle.model.specs.Lists.{numbers_from}
use Rattle.model.specs.CaseFile.{global_count, mutex_count, initial_value, case_of}
use Rattle.laws.proofs.Ranges.{length_numbers_from}
use Rattle.case_file.specs.FirstItems.{first_items}

zeros_at : (many j : ℕ) → ◌≡◌ {A = ℕ} (get_or (replicate many 0) j 0) 0
zeros_at zero j = refl
zeros_at (suc many) zero = refl
zeros_at (suc many) (suc j) = zeros_at many j

any_zeros : (xs : List ℕ) (a b j : ℕ) → get_or (xs ++ replicate a 0) j 0 ≡ get_or (xs ++ replicate b 0) j 0
any_zeros [] a b j = zeros_at a j ∙ sym (zeros_at b j)
any_zeros (x ∷ xs) a b zero = refl
any_zeros (x ∷ xs) a b (suc j) = any_zeros xs a b j

pub first_whole : (bytes items : List ℕ) → global_count bytes ≤ most_globals → items ≡ first_items bytes (global_count bytes) → length items ≡ most_items
unfolding first_items
first_whole bytes items few e =
    let values = numbers_from (initial_value bytes) 0 (global_count bytes) in
    ap length e ∙ length-append values (replicate (most_items - global_count bytes) 0)
    ∙ omega (arith, length_numbers_from (initial_value bytes) 0 (global_count bytes), length-replicate {A = ℕ} (most_items - global_count bytes) 0)

pub first_values : (bytes items : List ℕ) → items ≡ first_items bytes (global_count bytes) → (g : ℕ) → get_or items g 0 ≡ get_or (case_of bytes).initial g 0
unfolding first_items
first_values bytes items e g =
    ap (λ (xs : List ℕ). get_or xs g 0) e
    ∙ any_zeros (numbers_from (initial_value bytes) 0 (global_count bytes)) (most_items - global_count bytes) (mutex_count bytes) g
