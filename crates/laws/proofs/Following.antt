-- Following a chain of an accepted case record by record, and the threads one by one, as loops do.
-- Assumes nothing. Met again wherever code follows a chain.
use mathlib.Core.Path.{◌≡◌, ap}
use mathlib.Core.Logic.{◌≢◌}
use Prim.Native.Nat.{ℕ, suc, ◌+◌, ◌-◌, ◌≤◌, ◌<◌}
use mathlib.Core.List.{List, [], ◌∷◌}
use native.Mathlib.Omega.{arith}
use native.Mathlib.Numerals.{add-one}
use lib.ListN.{length}
use Rattle.model.specs.CaseFile.{records, first_record, next_record, line_of, chains}
use Rattle.laws.specs.Accepted.{Accepted, lines_from}
use Rattle.laws.proofs.Chains.{lines_from_end}

-- at the end of a chain
pub lines_end : (bytes : List ℕ) (t k : ℕ) → k ≡ 0 → lines_from bytes t k ≡ []
lines_end bytes t k h = rw h (lines_from_end bytes t)

module _ (bytes : List ℕ) (v : Accepted bytes) (t k : ℕ) (some : k ≢ 0) (low : k ≤ records bytes) where
  pub lines_more : lines_from bytes t k ≡ line_of bytes t k ∷ lines_from bytes t (next_record bytes k)
  lines_more = v.lines_go_on t k (omega arith) low

  pub next_low : next_record bytes k ≤ records bytes
  next_low = v.nexts k (omega arith) low

  pub lines_less : (next : ℕ) → next ≡ next_record bytes k → length (lines_from bytes t next) < length (lines_from bytes t k)
  lines_less next e = omega (arith, ap length lines_more, ap (λ (j : ℕ). length (lines_from bytes t j)) e)

-- the threads from t on
pub chains_more : (bytes : List ℕ) (t to : ℕ) → t < to → chains bytes t (to - t) ≡ lines_from bytes t (first_record bytes t) ∷ chains bytes (t + 1) (to - (t + 1))
unfolding chains
chains_more bytes t to h = let e : to - t ≡ suc (to - (t + 1)) = omega arith in rw (e, add-one t)

pub chains_end : (bytes : List ℕ) (t to : ℕ) → to ≤ t → chains bytes t (to - t) ≡ []
unfolding chains
chains_end bytes t to h = let e : to - t ≡ 0 = omega arith in rw e
