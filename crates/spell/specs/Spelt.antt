-- Bytes that are spelled into a lent slice from a place on.
-- Assumes nothing.
use Rattle.std.specs.Prelude.{◌≡◌, cond, ℕ, ◌+◌, ◌≤◌, List, ltb, length}
use Rattle.laws.specs.Written.{numbers_at}
use Rattle.spell.specs.declared.Writer.{Writer}

-- The highest place, and a place that is not beyond it.
abbrev pub top : ℕ
top = 18446744073709551615

unfoldable pub capped : ℕ → ℕ
capped place = cond (ltb top place) top place

-- Where these bytes fit they are in the slice from the place on; r is the place after them, whether they fit or not.
pub record Spelt (bytes before : List ℕ) (at : ℕ) (after : List ℕ) (r : ℕ) : Type 0 where
  pub same : length after ≡ length before
  pub place : r ≡ capped (at + length bytes)
  pub slice : at + length bytes ≤ length before → length before ≤ top → after ≡ numbers_at before at bytes

-- These bytes are what a writer has spelled between two states, into the slice that it holds.
pub record Puts (bytes : List ℕ) (before after : Writer) : Type 0 where
  pub spelt : Spelt bytes before.text.now before.at after.text.now after.at
  pub same_slice : after.text.ghost_name ≡ before.text.ghost_name
