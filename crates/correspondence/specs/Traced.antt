-- The assignment that a trace has, and an assignment as its list of numbers.
-- Assumes nothing. The statement does not rest on it.
use Rattle.std.specs.Prelude.{ℕ, zero, suc, cond, List, [], ◌∷◌, ◌++◌, eqb}
use Rattle.model.specs.Lists.{numbers_from}
use Rattle.model.specs.CaseFile.{Case, item_count}
use Rattle.model.specs.Assignment.{Assignment}
use Rattle.correspondence.specs.Trace.{Event}

-- The block and the value of record k in the events.
abbrev pub block_in : ℕ → List Event → ℕ
block_in k [] = 0
block_in k (e ∷ es) = cond (eqb e.line.number k) e.block (block_in k es)

abbrev pub value_in : ℕ → List Event → ℕ
value_in k [] = 0
value_in k (e ∷ es) = cond (eqb e.line.number k) e.value (value_in k es)

-- The assignment that the events have; they say nothing of block values.
abbrev pub traced : List Event → Assignment
traced es = record { block = λ k. block_in k es; value = λ k. value_in k es; block_value = λ i g. 0 }

-- An assignment as its list of numbers: so many records from record k on, so many blocks from block i on.
abbrev pub record_numbers : Assignment → ℕ → ℕ → List ℕ
record_numbers α k zero = []
record_numbers α k (suc many) = α.block k ∷ (α.value k ∷ record_numbers α (suc k) many)

abbrev pub block_numbers : Case → Assignment → ℕ → ℕ → List ℕ
block_numbers case α i zero = []
block_numbers case α i (suc many) = numbers_from (α.block_value i) 0 (item_count case) ++ block_numbers case α (suc i) many

abbrev pub numbers_of_assignment : Case → Assignment → List ℕ
numbers_of_assignment case α = record_numbers α 1 case.R ++ block_numbers case α 0 case.n
