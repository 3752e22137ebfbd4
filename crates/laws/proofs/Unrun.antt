-- Lines that were not run: which block numbers tell them, and what their values are.
-- Assumes nothing. Met again wherever "was it run" is asked.
use mathlib.Core.Path.{◌≡◌, ap}
use Prim.Native.Nat.{ℕ, suc, ◌≤◌, ◌<◌}
use mathlib.Core.Bool.{true, false, not}
use native.Mathlib.Omega.{arith}
use borrow.Author.Tests.{eq-eqb, eqb-false, ne_eqb, not-true}
use Rattle.model.specs.Word.{word_size}
use Rattle.model.specs.CaseFile.{Case}
use Rattle.model.specs.declared.Kind.{Kind}
use Rattle.model.specs.declared.Kind.TheVariants.{Compute, Store, Load, Input, Assert, Assume, Lock, Unlock}
use Rattle.model.specs.Line.{unrun_value}
use Rattle.model.specs.Assignment.{was_run}

module _ (case : Case) (x : ℕ) where
  pub run_within_blocks : x ≤ case.n → was_run case x ≡ true
  unfolding was_run
  run_within_blocks few = ap not (ne_eqb x (suc case.n) (λ e. omega arith))

  pub within_blocks_of_run : x ≤ suc case.n → was_run case x ≡ true → x ≤ case.n
  unfolding was_run
  within_blocks_of_run upto was_run_lem = let other = eqb-false x (suc case.n) (not-true _ was_run_lem) in omega (arith, upto, other)

  pub unrun_past_blocks : x ≡ suc case.n → was_run case x ≡ false
  unfolding was_run
  unrun_past_blocks e = ap not (eq-eqb x (suc case.n) e)

pub unrun_small : (kind : Kind) → unrun_value kind < word_size
unfolding unrun_value
unrun_small Compute = omega arith
unrun_small Store = omega arith
unrun_small Load = omega arith
unrun_small Input = omega arith
unrun_small Assert = omega arith
unrun_small Assume = omega arith
unrun_small Lock = omega arith
unrun_small Unlock = omega arith
