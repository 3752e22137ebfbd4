-- Five, worked out by hand: an assert that is run in a later block than the line before it, and the same run with it moved.
-- Assumes nothing.
use Rattle.std.specs.Prelude.{Ok}
use mathlib.Core.Path.{◌≡◌, refl}
use Prim.Native.Nat.{ℕ, zero, suc}
use mathlib.Core.Bool.{true≢false}
use mathlib.Core.List.{List, [], ◌∷◌}
use native.Mathlib.Omega.{arith}
use lib.ListN.{take, drop, replicate}
use Rattle.model.specs.CaseFile.{case_of}
use Rattle.model.specs.Runs.{KeepsRule}
use Rattle.model.specs.Answers.{encoded_into, checked, decoded_into, replayed}
use Rattle.model.specs.declared.Checked.TheVariants.{Meets, Fails}
use Rattle.model.specs.declared.Replayed.TheVariants.{Violated}
use Rattle.correspondence.proofs.Computing.{computing}
use Rattle.correspondence.proofs.CaseBytes.{header, rec, file}

-- Thread 0: 2 local 0 gets global 0; 1 assert 0. Thread 1: 3 global 0 gets 5. Two switches.
load_then_assert : List ℕ
unfolding file
load_then_assert = file (header 2 2 1 0 2 3 0 0) (rec 0 5 0 0 0 16 0 0 (rec 1 3 0 0 0 0 0 0 (rec 0 2 0 0 0 16 0 5 [])))

-- "constraint 8 (line, line before) after that line's 3": rows 3 to 5 are the assert's order rows; a thread's first line has no 8, nor has a
-- visible one.
eight_listed : take 18 (drop 12 (encoded_into load_then_assert (replicate 78 9))) ≡ 3 ∷ 1 ∷ 2 ∷ 0 ∷ 0 ∷ 0 ∷ 8 ∷ 1 ∷ 2 ∷ 0 ∷ 0 ∷ 0 ∷ 2 ∷ 1 ∷ 2 ∷ 0 ∷ 0 ∷ 0 ∷ []
unfolding computing load_then_assert
eight_listed = refl

-- "the replayer still takes all": the assert in block 2, after the load in block 0. No assignment is this run: its own fails at row 4.
late_is_violated : replayed load_then_assert (1 ∷ 1 ∷ 1 ∷ []) 1 ≡ Ok (Violated 1)
unfolding computing load_then_assert
late_is_violated = refl

late_breaks_the_rule : KeepsRule (case_of load_then_assert) (1 ∷ 1 ∷ 1 ∷ []) → ⊥
unfolding computing load_then_assert
late_breaks_the_rule keeps = true≢false (keeps 0 (omega arith)).0

late_fails_its_8 : checked load_then_assert (2 ∷ 0 ∷ 0 ∷ 0 ∷ 1 ∷ 5 ∷ 0 ∷ 5 ∷ []) ≡ Ok (Fails 4)
unfolding computing load_then_assert
late_fails_its_8 = refl

-- With the assert in the load's block it is an assignment's, with the same values.
moved_meets : checked load_then_assert (0 ∷ 0 ∷ 0 ∷ 0 ∷ 1 ∷ 5 ∷ 0 ∷ 5 ∷ []) ≡ Ok Meets
unfolding computing load_then_assert
moved_meets = refl

moved_decoded : decoded_into load_then_assert (0 ∷ 0 ∷ 0 ∷ 0 ∷ 1 ∷ 5 ∷ 0 ∷ 5 ∷ []) (replicate 3 9) ≡ 2 ∷ 1 ∷ 0 ∷ []
unfolding computing load_then_assert
moved_decoded = refl

moved_keeps_the_rule : KeepsRule (case_of load_then_assert) (2 ∷ 1 ∷ 0 ∷ [])
unfolding computing load_then_assert
moved_keeps_the_rule zero few = (refl, tt)
moved_keeps_the_rule (suc zero) few = tt
moved_keeps_the_rule (suc (suc t)) few = absurd (omega arith)

-- "or n + 1": the assert is not run, and of the 13 constraints only the 7 fails.
unrun_meets_its_8 : checked load_then_assert (3 ∷ 1 ∷ 0 ∷ 0 ∷ 1 ∷ 5 ∷ 0 ∷ 5 ∷ []) ≡ Ok (Fails 13)
unfolding computing load_then_assert
unrun_meets_its_8 = refl
