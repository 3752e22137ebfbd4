-- Where the steps of a block end it nowhere, the memory that they hand on is the one after them.
-- Assumes nothing. Met again in the run of a schedule, whose blocks leave the state that the next one finds.
use mathlib.Core.Path.{◌≡◌}
use Prim.Native.Nat.{ℕ, zero, suc}
use mathlib.Core.Bool.{Bool, true, false, cond}
use mathlib.Core.List.{List, [], ◌∷◌}
use native.Mathlib.Omega.{arith}
use Rattle.model.specs.CaseFile.{Line, Case}
use Rattle.model.specs.Line.{stops, stray_input}
use Rattle.model.specs.Machine.{Memory, BlockEnd, strayed, stopped, passed, reads_in, stepped, noted_at, run_block}
use Rattle.model.specs.Runs.{memory_after}

not_ended : (p q : Bool) (k : ℕ) (items : List ℕ) (rest : BlockEnd) (m : Memory) (note : ℕ)
    → cond p (strayed k) (cond q (stopped k items) rest) ≡ passed m note → rest ≡ passed m note
not_ended true q k items rest m note e = absurd (let z : ◌≡◌ {A = ℕ} 0 1 = cc in omega arith)
not_ended false true k items rest m note e = absurd (let z : ◌≡◌ {A = ℕ} 0 1 = cc in omega arith)
not_ended false false k items rest m note e = e

module _ (case : Case) (given : ℕ → ℕ) where
  pub passed_memory : (steps : ℕ) (ls : List Line) (m : Memory) (note : ℕ) (m' : Memory) (note' : ℕ)
      → run_block case given steps ls m note ≡ passed m' note' → m' ≡ memory_after case given steps ls m
  unfolding run_block
  passed_memory zero ls m note m' note' e = cc
  passed_memory (suc steps) [] m note m' note' e = cc
  passed_memory (suc steps) (l ∷ ls) m note m' note' e =
      passed_memory steps ls (stepped case given l m) (noted_at case given note l m) m' note'
      (not_ended (stray_input l.kind l (reads_in case given l m)) (stops l.kind l (reads_in case given l m)) l.number m.items _ m' note' e)
