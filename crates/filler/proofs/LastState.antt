-- A run that violates ends in the state after its last block.
-- Assumes nothing.
use mathlib.Core.Path.{◌≡◌, refl, ap, ◌∙◌}
use Prim.Native.Nat.{ℕ, suc}
use mathlib.Core.Bool.{Bool, true, false, cond}
use mathlib.Core.List.{List, [], ◌∷◌}
use native.Mathlib.Omega.{arith}
use lib.Dec.{eqb}
use Rattle.model.specs.CaseFile.{Case}
use Rattle.model.specs.Machine.{Memory, State, refused14, violated, clean, BlockEnd, strayed, stopped, passed, rest_in, memory_in, after_block, after_steps, run_block, first_stray_left, run_blocks}
use Rattle.model.specs.Runs.{next_state, last_state}
use Rattle.laws.proofs.Passing.{passed_memory}

ended : (p q : Bool) (note stray k : ℕ) (s s' : State) → cond p (cond q (clean s) (violated note s)) (refused14 stray) ≡ violated k s' → s' ≡ s
ended true true note stray k s s' e = absurd (let z : ◌≡◌ {A = ℕ} 0 1 = cc in omega arith)
ended true false note stray k s s' e = cc
ended false q note stray k s s' e = absurd (let z : ◌≡◌ {A = ℕ} 0 1 = cc in omega arith)

module _ (case : Case) (given : ℕ → ℕ) (k : ℕ) (s' : State) where
  pub violated_state : (i : ℕ) (lengths : List ℕ) (s : State) (note : ℕ) → run_blocks case given i lengths s note ≡ violated k s' → s' ≡ last_state case given i lengths s
  unfolding run_blocks
  violated_state i [] s note e = ended (eqb (first_stray_left given s.rests) 0) (eqb note 0) note (first_stray_left given s.rests) k s s' e
  violated_state i (len ∷ lens) s note e =
      go (run_block case given len (rest_in case i s) (memory_in case i s) note) refl e (λ m note'. violated_state (suc i) lens (after_block case i len s m) note')
    where
      go : (end : BlockEnd) → run_block case given len (rest_in case i s) (memory_in case i s) note ≡ end
          → after_steps end (λ m note'. run_blocks case given (suc i) lens (after_block case i len s m) note') ≡ violated k s'
          → ((m : Memory) (note' : ℕ) → run_blocks case given (suc i) lens (after_block case i len s m) note' ≡ violated k s'
          → s' ≡ last_state case given (suc i) lens (after_block case i len s m))
          → s' ≡ last_state case given (suc i) lens (next_state case given i len s)
      go (strayed j) is h later = absurd (let z : ◌≡◌ {A = ℕ} 0 1 = cc in omega arith)
      go (stopped j items) is h later = absurd (let z : ◌≡◌ {A = ℕ} 0 1 = cc in omega arith)
      go (passed m note') is h later =
          later m note' h
          ∙ ap (λ (x : Memory). last_state case given (suc i) lens (after_block case i len s x))
          (passed_memory case given len (rest_in case i s) (memory_in case i s) note m note' is)
