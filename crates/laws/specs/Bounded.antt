-- A number that a call answers, and how large it is at the most.
-- Assumes nothing.
use Rattle.std.specs.Prelude.{◌≡◌, ℕ, ◌≤◌}

-- r is the number x, and is at most a limit.
pub record Bounded (x limit r : ℕ) : Type 0 where
  pub is : r ≡ x
  pub most : r ≤ limit
