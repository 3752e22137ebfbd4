-- Walking back over record numbers, as the code does.
-- Assumes nothing.
use Rattle.std.specs.Prelude.{ℕ, zero, suc, cond, List, eqb, get_or}
use Rattle.assignment.specs.Numbers.{record_block, record_value}

-- The first copy with block number i, from copy p back over so many copies; 0 if there is none.
unfoldable pub deciding : List ℕ → List ℕ → ℕ → ℕ → ℕ → ℕ
deciding previous xs i zero p = 0
deciding previous xs i (suc most) p = cond (eqb p 0) 0 (cond (eqb (record_block xs p) i) p (deciding previous xs i most (get_or previous p 0)))

-- The value of an item where the deciding copy is p; with 0 there is none, and it has its value where the block starts.
abbrev pub decided_value : List ℕ → ℕ → ℕ → ℕ
decided_value xs before p = cond (eqb p 0) before (record_value xs p)
