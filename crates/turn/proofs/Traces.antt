-- The numbers of a record in a trace that has not both places for them.
-- Assumes nothing.
use mathlib.Core.Path.{◌≡◌, sym, ap, ◌∙◌}
use Prim.Native.Nat.{ℕ, ◌≤◌}
use mathlib.Core.List.{List}
use native.Mathlib.Omega.{arith}
use lib.ListN.{set, length}
use lib.Seq.{set_out}
use Rattle.model.specs.Assignment.{block_place, value_place}
use Rattle.model.specs.Fill.{put_record}

module _ (trace : List ℕ) (k block value : ℕ) where
  pub put_none : length trace ≤ block_place k → trace ≡ put_record k block value trace
  put_none over =
      sym (ap (λ (xs : List ℕ). set xs (value_place k) value) (set_out trace (block_place k) block over) ∙ set_out trace (value_place k) value (omega arith))

  pub put_one : length (set trace (block_place k) block) ≤ value_place k → set trace (block_place k) block ≡ put_record k block value trace
  put_one over = sym (set_out (set trace (block_place k) block) (value_place k) value over)
