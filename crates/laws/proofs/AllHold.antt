-- An assignment meets every row of a list of constraints.
-- Assumes nothing. Met again in OrderRows, in correspondence's ValueRows and Rows, and in the checker.
use mathlib.Core.Path.{◌≡◌, refl}
use Prim.Native.Nat.{ℕ, suc, ◌<◌}
use mathlib.Core.Bool.{Bool, true, false, cond}
use mathlib.Core.List.{List, [], ◌∷◌, ◌++◌}
use native.Mathlib.Omega.{arith}
use Rattle.model.specs.CaseFile.{Case}
use Rattle.model.specs.Assignment.{Assignment}
use Rattle.model.specs.Table.{Row}
use Rattle.model.specs.Holds.{holds, first_failing}
use Rattle.laws.specs.AllHold.{AllHold}

pub all_hold_append : (case : Case) (α : Assignment) (ws us : List Row) → AllHold case α ws → AllHold case α us → AllHold case α (ws ++ us)
all_hold_append case α [] us h g = g
all_hold_append case α (w ∷ ws) us h g = (h.0, all_hold_append case α ws us h.1 g)

pub record BothHold (case : Case) (α : Assignment) (ws us : List Row) : Type 0 where
  pub front : AllHold case α ws
  pub back : AllHold case α us

pub all_hold_split : (case : Case) (α : Assignment) (ws us : List Row) → AllHold case α (ws ++ us) → BothHold case α ws us
all_hold_split case α [] us h = record { front = tt; back = h }
all_hold_split case α (w ∷ ws) us h = let rest = all_hold_split case α ws us h.1 in record { front = (h.0, rest.front); back = rest.back }

module _ (case : Case) (α : Assignment) where
  -- No row is named as the first that fails just when all hold.
  pub none_fails : (k : ℕ) (rows : List Row) → first_failing case α k rows ≡ 0 → 0 < k → AllHold case α rows
  unfolding first_failing
  none_fails k [] e h = tt
  none_fails k (w ∷ ws) e h = go (holds case α w) refl e (λ e'. none_fails (suc k) ws e' (omega arith))
    where
      go : (q : Bool) → holds case α w ≡ q → cond q (first_failing case α (suc k) ws) k ≡ 0
          → (first_failing case α (suc k) ws ≡ 0 → AllHold case α ws) → AllHold case α (w ∷ ws)
      go true r e' ih = (r, ih e')
      go false r e' ih = absurd (omega (arith, h, e'))

  pub all_hold_none_fails : (k : ℕ) (rows : List Row) → AllHold case α rows → first_failing case α k rows ≡ 0
  unfolding first_failing
  all_hold_none_fails k [] h = refl
  all_hold_none_fails k (w ∷ ws) h = rw h.0 (all_hold_none_fails (suc k) ws h.1)
