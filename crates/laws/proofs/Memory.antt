-- Looking up names in a memory where a name has got a value.
-- Assumes nothing. Met again in correspondence's Step, and where the checker keeps what a thread's lines read.
use mathlib.Core.Path.{◌≡◌, refl}
use mathlib.Core.Logic.{◌≢◌}
use Prim.Native.Nat.{ℕ, ◌+◌, ◌-◌, ◌≤◌, ◌<◌}
use mathlib.Core.Bool.{Bool, true, false}
use native.Mathlib.Omega.{arith}
use lib.ListN.{length, get_or-eq_default}
use lib.Seq.{get_or-set_same, get_or-set_other}
use Rattle.model.specs.Limits.{local_count}
use Rattle.model.specs.Machine.{Memory, look, put_local, put_item}
use Rattle.laws.proofs.Views.{LtView, below, above, lt_view}

-- A memory where a name gets a value, if it is given one.
abbrev pub put : Bool → ℕ → ℕ → Memory → Memory
put on name value m = record { locals = put_local on name value m.locals; items = put_item on name value m.items }

pub look_put_same : (name value : ℕ) (m : Memory) → length m.locals ≡ local_count → name < local_count + length m.items
    → look (put true name value m) name ≡ value
unfolding look put_local put_item
look_put_same name value m few in-range = go (lt_view name local_count)
  where
    go : LtView name local_count → look (put true name value m) name ≡ value
    go (below h e) = rw e (get_or-set_same m.locals name value 0 (omega arith))
    go (above h e) = rw e (get_or-set_same m.items (name - local_count) value 0 (omega arith))

pub look_put_other : (on : Bool) (name other value : ℕ) (m : Memory) → other ≢ name → look (put on other value m) name ≡ look m name
unfolding look put_local put_item
look_put_other true name other value m differs = go (lt_view name local_count) (lt_view other local_count)
  where
    go : LtView name local_count → LtView other local_count → look (put true other value m) name ≡ look m name
    go (below h e) (below h' e') = rw (e, e') (get_or-set_other m.locals other name value 0 (omega arith))
    go (below h e) (above h' e') = rw (e, e')
    go (above h e) (below h' e') = rw (e, e')
    go (above h e) (above h' e') = rw (e, e') (get_or-set_other m.items (other - local_count) (name - local_count) value 0 (omega arith))
look_put_other false name other value m differs = refl

-- beyond the items there is nothing
pub look_beyond : (name : ℕ) (m : Memory) → local_count + length m.items ≤ name → look m name ≡ 0
unfolding look
look_beyond name m beyond = go (lt_view name local_count)
  where
    go : LtView name local_count → look m name ≡ 0
    go (below h e) = absurd (omega arith)
    go (above h e) = rw e (get_or-eq_default m.items 0 {n = name - local_count} (omega arith))
