-- Checks 1 to 5 passed: what the later checks require.
-- Assumes nothing.
use Rattle.std.specs.Prelude.{◌≡◌, ℕ, true, List}
use Rattle.model.specs.Accept.{size_ok, threads_ok, switches_ok, items_ok, absent_ok}

pub record HeaderPassed (bytes : List ℕ) : Type 0 where
  pub size_ok_lem : size_ok bytes ≡ true
  pub threads_ok_lem : threads_ok bytes ≡ true
  pub switches_ok_lem : switches_ok bytes ≡ true
  pub items_ok_lem : items_ok bytes ≡ true
  pub absent_ok_lem : absent_ok bytes ≡ true
