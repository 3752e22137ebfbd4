-- `case_file::Case::block_values` meets its contract. Assumes nothing.
use mathlib.Core.Path.{◌≡◌}
use Prim.Native.Nat.{ℕ, ◌*◌, ◌≤◌}
use mathlib.Core.List.{List}
use native.Mathlib.Omega.{arith}
use native.Mathlib.Nat.{mul-le-mul}
use Rattle.model.specs.Limits.{most_switches, most_items}
use Rattle.model.specs.CaseFile.{switch_count}
use Rattle.laws.specs.Accepted.{Accepted}
use Rattle.case_file.proofs.Case.block_values.Goals as goal

few : (bytes : List ℕ) → Accepted bytes → (n items : ℕ) → n ≡ switch_count bytes → items ≤ most_items → n * items ≤ most_switches * most_items
few bytes ok n items e h = let low : n ≤ most_switches = omega (arith, ok.few_switches) in mul-le-mul low h

pub overflow_mul-result : goal.overflow_mul-result
overflow_mul-result c = omega (arith, few _ c.args.self.now.accepted _ _ c.switches.ensures c.items.ensures.most)

pub returns : goal.returns
returns c = record { is = rw (c.switches.ensures, c.items.ensures.is); most = few _ c.args.self.now.accepted _ _ c.switches.ensures c.items.ensures.most }
