-- Numbers written into a lent slice: what the contracts of the calls that write one number after the other cite.
-- Assumes nothing.
use Rattle.std.specs.Prelude.{◌≡◌, ℕ, ◌+◌, List, length}
use Rattle.std.proofs.lemmas.List.Edits.{sets}

-- A slice after these numbers are written from a place on.
unfoldable pub numbers_at : List ℕ → ℕ → List ℕ → List ℕ
numbers_at slice at numbers = sets slice at numbers

-- These numbers are written from a place on, and r is the place after them.
pub record Put (numbers before : List ℕ) (at : ℕ) (after : List ℕ) (r : ℕ) : Type 0 where
  pub slice : after ≡ numbers_at before at numbers
  pub place : r ≡ at + length numbers
