-- The copies of a name, and what is read with one.
-- Assumes nothing. Met again in Step and Walk, for the run, and in ValueRows and Rows, for the table.
use mathlib.Core.Path.{◌≡◌, ap}
use mathlib.Core.Logic.{◌≢◌}
use Prim.Native.Nat.{ℕ, ◌+◌, ◌-◌, ◌≤◌, ◌<◌}
use mathlib.Core.Bool.{false}
use mathlib.Core.List.{List, ◌∷◌}
use native.Mathlib.Omega.{arith}
use lib.Dec.{eqb}
use borrow.Author.Tests.{eq-eqb, ne_eqb}
use Rattle.laws.proofs.Views.{LtView, below, above, lt_view}
use Rattle.model.specs.Limits.{local_count}
use Rattle.model.specs.CaseFile.{Line, Case, item_count}
use Rattle.model.specs.Line.{item_name, target_name}
use Rattle.model.specs.Assignment.{Assignment}
use Rattle.model.specs.Copies.{latest, read_local, read_item, read_name, read_after}

pub item_of_name : (g : ℕ) → item_name g - local_count ≡ g
item_of_name g = omega arith

-- The copy of a name after one more line.
pub latest_target : (G name : ℕ) (l : Line) (earlier : List Line) → target_name G l ≡ name → latest G name (l ∷ earlier) ≡ l.number
unfolding latest
latest_target G name l earlier e = rw (eq-eqb (target_name G l) name e)

pub latest_other : (G name : ℕ) (l : Line) (earlier : List Line) → target_name G l ≢ name
    → latest G name (l ∷ earlier) ≡ latest G name earlier
unfolding latest
latest_other G name l earlier differs = rw (ne_eqb (target_name G l) name differs)

module _ (case : Case) (α : Assignment) where
  pub read_name_no_name : (i name p : ℕ) → local_count + item_count case ≤ name → read_name case α i name p ≡ 0
  unfolding read_name
  read_name_no_name i name p h = go (lt_view name local_count) (lt_view (name - local_count) (item_count case))
    where
      go : LtView name local_count → LtView (name - local_count) (item_count case) → read_name case α i name p ≡ 0
      go (below q e) _ = absurd (omega arith)
      go (above q e) (below q' e') = absurd (omega arith)
      go (above q e) (above q' e') = rw (e, e')

  -- A copy of the reading line's own block is read by its value, whether the name is a local or an item.
  pub read_name_own_block : (i name p : ℕ) → name < local_count + item_count case → 0 < p → α.block p ≡ i
      → read_name case α i name p ≡ α.value p
  unfolding read_name read_local read_item
  read_name_own_block i name p h positive in_block = go (lt_view name local_count) (lt_view (name - local_count) (item_count case))
    where
      some_copy : eqb p 0 ≡ false
      some_copy = ne_eqb p 0 (λ e. omega arith)

      go : LtView name local_count → LtView (name - local_count) (item_count case) → read_name case α i name p ≡ α.value p
      go (below q e) _ = rw (e, some_copy)
      go (above q e) (below q' e') = rw (e, e', some_copy, eq-eqb (α.block p) i in_block)
      go (above q e) (above q' e') = absurd (omega arith)

  pub read_after_target : (i name : ℕ) (l : Line) (earlier : List Line) → target_name case.G l ≡ name
      → read_after case α i (l ∷ earlier) name ≡ read_name case α i name l.number
  unfolding read_after
  read_after_target i name l earlier e = ap (read_name case α i name) (latest_target case.G name l earlier e)

  pub read_after_other : (i name : ℕ) (l : Line) (earlier : List Line) → target_name case.G l ≢ name
      → read_after case α i (l ∷ earlier) name ≡ read_after case α i earlier name
  unfolding read_after
  read_after_other i name l earlier differs = ap (read_name case α i name) (latest_other case.G name l earlier differs)
