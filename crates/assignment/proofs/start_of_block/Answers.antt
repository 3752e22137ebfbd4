-- `assignment::start_of_block` meets its contract. Assumes nothing.
use Prim.Native.Nat.{ℕ, ◌+◌, ◌-◌, ◌*◌}
use mathlib.Core.Path.{ap}
use native.Mathlib.Omega.{arith}
use Rattle.assignment.proofs.BlockValues.{first_items_filled, start_of_first, start_of_later, block_place_at_most}
use borrow.Author.Rules.{rules}
use Rattle.assignment.proofs.start_of_block.Goals as goal

pub returns-then-i-eq0 : goal.returns-then-i-eq0
returns-then-i-eq0 c = start_of_first _ _ _ c.if-i-eq0.true (first_items_filled _ c.args.case.now.accepted _ c.first_items.ensures)

pub overflow_mul-place-2 : goal.overflow_mul-place-2
overflow_mul-place-2 c = omega (arith, block_place_at_most c.args.i c.items-count.result (search rules) c.items-count.ensures.most)

pub overflow_add-place : goal.overflow_add-place
overflow_add-place c = omega (arith, block_place_at_most c.args.i c.items-count.result (search rules) c.items-count.ensures.most, c.records.ensures)

pub items_at-requires : goal.items_at-requires
items_at-requires c = omega (arith, block_place_at_most c.args.i c.items-count.result (search rules) c.items-count.ensures.most, c.records.ensures, c.args.case.now.accepted.few_records)

pub returns : goal.returns
returns c =
    start_of_later _ _ _ _ _ c.if-i-eq0.false c.items-count.ensures.is (ap (λ (x : ℕ). 2 * x + (c.args.i - 1) * c.items-count.result) c.records.ensures) c.items_at.ensures
