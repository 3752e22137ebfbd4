-- Which block number a line has that was not run.
-- Assumes nothing. Met again in `was_run`, and where nothing is read of such a line.
use mathlib.Core.Path.{◌≡◌, refl}
use Prim.Native.Nat.{ℕ, ◌+◌}
use mathlib.Core.Bool.{not}
use native.Mathlib.Numerals.{add-one}
use lib.Dec.{eqb}
use Rattle.model.specs.CaseFile.{Case}
use Rattle.model.specs.Assignment.{was_run}

pub run_of_block : (case : Case) (n i : ℕ) → n ≡ case.n → not (eqb i (n + 1)) ≡ was_run case i
unfolding was_run
run_of_block case n i e = rw (e, add-one case.n) refl
