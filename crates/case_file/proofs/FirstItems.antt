-- The items where a run starts, one global after the other.
-- Assumes nothing.
use mathlib.Core.Path.{◌≡◌, refl, sym, ap, ◌∙◌}
use Prim.Native.Nat.{ℕ, zero, suc, ◌+◌, ◌-◌, ◌≤◌, ◌<◌}
use mathlib.Core.List.{List, [], ◌∷◌, ◌++◌, append_assoc}
use native.Mathlib.Omega.{arith}
use native.Mathlib.Nat.{add-zero, zero-add}
use native.Mathlib.Numerals.{add-one}
use lib.ListN.{set, replicate}
use lib.Seq.{set_at}
use Rattle.model.specs.Limits.{most_globals, most_items}
use Rattle.model.specs.Lists.{numbers_from}
use Rattle.model.specs.CaseFile.{global_count, initial_value}
use Rattle.laws.proofs.Ranges.{length_numbers_from}
use Rattle.case_file.specs.FirstItems.{first_items}

numbers_from_snoc : (f : ℕ → ℕ) (i many : ℕ) → numbers_from f i (suc many) ≡ numbers_from f i many ++ (f (i + many) ∷ [])
unfolding numbers_from
numbers_from_snoc f i zero = ap (λ (x : ℕ). f x ∷ []) (sym (add-zero i))
numbers_from_snoc f i (suc many) =
    ap (λ (xs : List ℕ). f i ∷ xs) (numbers_from_snoc f (suc i) many ∙ ap (λ (x : ℕ). numbers_from f (suc i) many ++ (f x ∷ [])) (omega arith))

-- The items so far: those of the first g of so many globals.
pub record Started (bytes : List ℕ) (globals : ℕ) (items : List ℕ) (g : ℕ) : Type 0 where
  pub passed : g ≤ globals
  pub values : items ≡ first_items bytes g

module _ (bytes : List ℕ) (globals : ℕ) where
  pub items_none : Started bytes globals (replicate most_items 0) 0
  unfolding first_items numbers_from
  items_none = record { passed = omega arith; values = refl }

  pub items_more : (g value : ℕ) (items : List ℕ) → globals ≤ most_globals → g < globals → Started bytes globals items g → value ≡ initial_value bytes g
      → Started bytes globals (set items g value) (g + 1)
  unfolding first_items
  items_more g value items few h so_far is =
      let left = most_items - (g + 1) in
      let more : most_items - g ≡ suc left = omega arith in
      let f = initial_value bytes in
      record {
        passed = omega arith;
        values =
            rw (so_far.values, more, is)
            (set_at (numbers_from f 0 g) 0 (replicate left 0) (f g) g (length_numbers_from f 0 g)
            ∙ sym (append_assoc (numbers_from f 0 g) (f g ∷ []) (replicate left 0))
            ∙ ap (λ (xs : List ℕ). xs ++ replicate left 0)
            (sym (ap (numbers_from f 0) (add-one g) ∙ numbers_from_snoc f 0 g ∙ ap (λ (x : ℕ). numbers_from f 0 g ++ (f x ∷ [])) (zero-add g))));
      }

  pub items_all : (g : ℕ) (items : List ℕ) → Started bytes globals items g → globals ≤ g → globals ≡ global_count bytes → items ≡ first_items bytes (global_count bytes)
  items_all g items so_far h is = let e : global_count bytes ≡ g = omega arith in rw e so_far.values
