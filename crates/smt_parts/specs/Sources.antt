-- The sources that are found so far.
-- Assumes nothing.
use Rattle.std.specs.Prelude.{◌≡◌, ℕ, ◌≤◌, cond, ◌&&◌, List, [], ◌∷◌, ◌++◌, ltb, length, take}
use Rattle.model.specs.declared.Kind.{Kind}
use Rattle.model.specs.Line.{is_input}
use Rattle.script.specs.Assertions.{most_sources}
use Rattle.linked.specs.declared.Sources.{Sources}

-- These are found, in an array that has room for the most.
pub record Found (xs : List ℕ) (sources : Sources) : Type 0 where
  pub few : sources.count ≤ most_sources
  pub room : length sources.records ≡ most_sources
  pub are : take sources.count sources.records ≡ xs

-- Record k is one more where it is an input and there is room.
unfoldable pub with_source : List ℕ → Kind → ℕ → List ℕ
with_source xs kind k = cond (is_input kind && ltb (length xs) most_sources) (xs ++ (k ∷ [])) xs
