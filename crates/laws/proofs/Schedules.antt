-- How many numbers decoding gives: a value for each input line, and no more lines in a block than the thread has.
-- Assumes nothing. Met again where the schedule is written, and where its numbers are held below a bound.
use mathlib.Core.Path.{◌≡◌, refl, ap}
use Prim.Native.Nat.{ℕ, suc, ◌≤◌}
use mathlib.Core.Bool.{Bool, true, false, cond, ◌&&◌}
use mathlib.Core.List.{List, [], ◌∷◌}
use native.Mathlib.Omega.{arith}
use lib.Dec.{eqb}
use lib.ListN.{length, length-append}
use Rattle.model.specs.CaseFile.{Line, Case}
use Rattle.model.specs.Line.{guard_true, is_input}
use Rattle.model.specs.Assignment.{Assignment, was_run}
use Rattle.model.specs.Copies.{reads_after}
use Rattle.model.specs.Schedule.{input_lines, all_input_lines, lines_in_block, decoded_values, all_decoded_values}

module _ (case : Case) (α : Assignment) where
  length_of_thread : (earlier ls : List Line) → length (decoded_values case α earlier ls) ≡ length (input_lines ls)
  unfolding decoded_values input_lines
  length_of_thread earlier [] = refl
  length_of_thread earlier (l ∷ ls) =
      go (is_input l.kind) (cond (was_run case (α.block l.number) && guard_true l (reads_after case α earlier l)) (α.value l.number) 0) (length_of_thread (l ∷ earlier) ls)
    where
      rest : List ℕ
      rest = decoded_values case α (l ∷ earlier) ls

      go : (q : Bool) (v : ℕ) → length rest ≡ length (input_lines ls) → length (cond q (v ∷ rest) rest) ≡ length (cond q (l ∷ input_lines ls) (input_lines ls))
      go true v e = ap suc e
      go false v e = e

  pub length_of_decoded : (threads : List (List Line)) → length (all_decoded_values case α threads) ≡ length (all_input_lines threads)
  unfolding all_decoded_values all_input_lines
  length_of_decoded [] = refl
  length_of_decoded (ls ∷ threads) =
      omega (
        arith,
        length-append (decoded_values case α [] ls) (all_decoded_values case α threads),
        length-append (input_lines ls) (all_input_lines threads),
        length_of_thread [] ls,
        length_of_decoded threads,
      )

pub lines_in_block_few : (block : ℕ → ℕ) (i : ℕ) (ls : List Line) → lines_in_block block i ls ≤ length ls
unfolding lines_in_block
lines_in_block_few block i [] = omega arith
lines_in_block_few block i (l ∷ ls) = go (eqb (block l.number) i) (lines_in_block_few block i ls)
  where
    go : (q : Bool) → lines_in_block block i ls ≤ length ls → cond q (suc (lines_in_block block i ls)) (lines_in_block block i ls) ≤ suc (length ls)
    go true h = omega arith
    go false h = omega arith
