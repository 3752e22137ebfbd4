-- Tables without their 8s.
-- Assumes nothing. Met again in OrderRows, and in correspondence's Rows and Demand3.
use mathlib.Core.Path.{◌≡◌, refl, ap, ◌∙◌}
use Prim.Native.Nat.{ℕ, zero, suc, ◌%◌}
use mathlib.Core.Bool.{Bool, true, false, cond}
use mathlib.Core.List.{List, [], ◌∷◌, ◌++◌, reverse}
use lib.Dec.{eqb}
use Rattle.model.specs.CaseFile.{Line, Case, lines_of, item_count}
use Rattle.model.specs.declared.Kind.{Kind}
use Rattle.model.specs.declared.Kind.TheVariants.{Compute, Store, Load, Input, Assert, Assume, Lock, Unlock}
use Rattle.model.specs.Assignment.{Assignment}
use Rattle.model.specs.Table.{Row, value_row, demand_rows, value_rows, all_value_rows, item_rows, block_rows, without_eights}
use Rattle.laws.specs.AllHold.{AllHold}

pub without_append : (ws us : List Row) → without_eights (ws ++ us) ≡ without_eights ws ++ without_eights us
unfolding without_eights
without_append [] us = refl
without_append (w ∷ ws) us = go (eqb w.kind 8) (without_append ws us)
  where
    go : (q : Bool) → without_eights (ws ++ us) ≡ without_eights ws ++ without_eights us
        → cond q (without_eights (ws ++ us)) (w ∷ without_eights (ws ++ us)) ≡ cond q (without_eights ws) (w ∷ without_eights ws) ++ without_eights us
    go true ih = ih
    go false ih = ap (λ (vs : List Row). w ∷ vs) ih

-- Where all rows hold, all but the 8s do.
pub all_hold_without : (case : Case) (α : Assignment) (ws : List Row) → AllHold case α ws → AllHold case α (without_eights ws)
unfolding without_eights
all_hold_without case α [] h = tt
all_hold_without case α (w ∷ ws) h = go (eqb w.kind 8) (all_hold_without case α ws h.1)
  where
    go : (q : Bool) → AllHold case α (without_eights ws) → AllHold case α (cond q (without_eights ws) (w ∷ without_eights ws))
    go true rest = rest
    go false rest = (h.0, rest)

-- There are no 8s among the 4s and 5s, and none among the 6s.
demand_without : (kind : Kind) (case : Case) (earlier : List Line) (l : Line) → without_eights (demand_rows kind case earlier l) ≡ demand_rows kind case earlier l
unfolding demand_rows without_eights
demand_without Compute case earlier l = refl
demand_without Store case earlier l = refl
demand_without Load case earlier l = refl
demand_without Input case earlier l = refl
demand_without Assert case earlier l = refl
demand_without Assume case earlier l = refl
demand_without Lock case earlier l = refl
demand_without Unlock case earlier l = refl

values_without : (case : Case) (earlier ls : List Line) → without_eights (value_rows case earlier ls) ≡ value_rows case earlier ls
unfolding value_rows without_eights
values_without case earlier [] = refl
values_without case earlier (l ∷ ls) =
    ap (λ (vs : List Row). value_row case earlier l ∷ vs)
    (without_append (demand_rows l.kind case earlier l) (value_rows case (l ∷ earlier) ls)
    ∙ rw (demand_without l.kind case earlier l, values_without case (l ∷ earlier) ls))

pub all_values_without : (case : Case) (threads : List (List Line)) → without_eights (all_value_rows case threads) ≡ all_value_rows case threads
unfolding all_value_rows without_eights
all_values_without case [] = refl
all_values_without case (ls ∷ threads) =
    without_append (value_rows case [] ls) (all_value_rows case threads) ∙ rw (values_without case [] ls, all_values_without case threads)

items_without : (case : Case) (lines : List Line) (i g many : ℕ) → without_eights (item_rows case lines i g many) ≡ item_rows case lines i g many
unfolding item_rows without_eights
items_without case lines i g zero = refl
items_without case lines i g (suc many) = rw (items_without case lines i (suc g) many)

pub blocks_without : (case : Case) (i many : ℕ) → without_eights (block_rows case i many) ≡ block_rows case i many
unfolding block_rows without_eights
blocks_without case i zero = refl
blocks_without case i (suc many) =
    without_append (item_rows case (reverse (lines_of case (i % case.T))) i 0 (item_count case)) (block_rows case (suc i) many)
    ∙ rw (items_without case (reverse (lines_of case (i % case.T))) i 0 (item_count case), blocks_without case (suc i) many)
