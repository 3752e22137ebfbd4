-- What a line reads: "x is what is read" is true exactly if x has the value that the model reads. Only the blocks of the line's own
-- thread are tested, so the line has to be in one of them, as a line is that was run.
-- Assumes nothing. Met again in Lines.
use mathlib.Core.Path.{◌≡◌, refl, ap, ◌∙◌}
use Prim.Native.Nat.{ℕ, zero, suc, ◌+◌, ◌-◌, ◌*◌, ◌/◌, ◌%◌, ◌≤◌, ◌<◌}
use mathlib.Core.Bool.{Bool, true, false, cond}
use mathlib.Core.List.{List}
use native.Mathlib.Omega.{arith}
use native.Mathlib.Nat.{div-add-mod, div-le_self, mul-zero, mul-suc}
use lib.Dec.{eqb}
use borrow.Author.Tests.{eq-eqb, le-leb}
use Rattle.model.specs.Limits.{local_count}
use Rattle.model.specs.CaseFile.{Line, Case, item_count}
use Rattle.model.specs.Assignment.{Assignment, assignment_of}
use Rattle.model.specs.Copies.{value_before, read_local, read_item, read_name}
use Rattle.smt.specs.Term.{Term, Formula, value, meets, tested}
use Rattle.smt.specs.Script.{environment}
use Rattle.script.specs.Assertions.{blocks_from, own_blocks, read_before, local_with}
use Rattle.script.specs.Assertions
use Rattle.laws.proofs.Views.{EqView, same, diff, eq_view, LtView, below, above, lt_view}
use Rattle.script_truth.proofs.Links.{value_cond, same_value}

-- A block number that is one of thread t's: constraints 2 and 3 of a line that was run.
pub record OwnBlock (case : Case) (t i : ℕ) : Type 0 where
  pub upto : i ≤ case.n
  pub mine : i % case.T ≡ t

module _ (case : Case) (xs : List ℕ) where
  abbrev env : ℕ → ℕ
  env = environment xs

  abbrev α : Assignment
  α = assignment_of case xs

  pub before_value : (i g : ℕ) → value (Assertions.value_before case i g) env ≡ value_before case α i g
  unfolding Assertions.value_before value_before value assignment_of
  before_value zero g = refl
  before_value (suc i) g = refl

  pub local_value : (p : ℕ) → value (local_with p) env ≡ read_local α p
  unfolding local_with read_local value assignment_of
  local_value p = value_cond env (eqb p 0) _ _

  module _ (sources : List ℕ) (x : Term) where
    -- The block of line k is q blocks of its thread after block i, and more of them are tested.
    block_is_tested : (k g most i q : ℕ) → α.block k ≡ i + case.T * q → q < most → α.block k ≤ case.n
        → meets (read_before case sources x k g (blocks_from case.T case.n most i)) env ≡ eqb (value x env) (value_before case α (α.block k) g)
    unfolding read_before blocks_from meets tested assignment_of
    block_is_tested k g zero i q e few upto = absurd (omega arith)
    block_is_tested k g (suc most) i zero e few upto =
        let here : α.block k ≡ i = omega (arith, e, mul-zero case.T) in
        rw (le-leb i case.n (omega arith), eq-eqb (α.block k) i here, here)
        (same_value env sources x _ ∙ ap (eqb (value x env)) (before_value i g))
    block_is_tested k g (suc most) i (suc q) e few upto =
        rw (le-leb i case.n (omega arith)) (go (eq_view (α.block k) i)
        (block_is_tested k g most (i + case.T) q (omega (arith, e, mul-suc case.T q)) (omega arith) upto))
      where
        later : Formula
        later = read_before case sources x k g (blocks_from case.T case.n most (i + case.T))

        go : EqView (α.block k) i → meets later env ≡ eqb (value x env) (value_before case α (α.block k) g)
            → cond (eqb (α.block k) i) (meets (Assertions.same sources x (Assertions.value_before case i g)) env) (meets later env)
            ≡ eqb (value x env) (value_before case α (α.block k) g)
        go (same here q) rest = rw (q, here) (same_value env sources x _ ∙ ap (eqb (value x env)) (before_value i g))
        go (diff other q) rest = rw q rest

    module _ (l : Line) (own : OwnBlock case l.thread (α.block l.number)) where
      before_block : (g : ℕ)
          → meets (read_before case sources x l.number g (own_blocks case l.thread)) env
          ≡ eqb (value x env) (value_before case α (α.block l.number) g)
      before_block g =
          let i = α.block l.number in
          block_is_tested l.number g (suc case.n) l.thread (i / case.T)
          (omega (arith, div-add-mod i case.T, own.mine)) (omega (arith, div-le_self i case.T, own.upto)) own.upto

      item_is_read : (g p : ℕ) → meets (Assertions.read_item case sources x l g p) env ≡ eqb (value x env) (read_item case α (α.block l.number) g p)
      unfolding Assertions.read_item read_item meets tested assignment_of
      item_is_read g p = go (eq_view p 0)
        where
          by_copy : (here : Bool)
              → cond here (meets (Assertions.same sources x (Assertions.value_of p)) env)
              (meets (read_before case sources x l.number g (own_blocks case l.thread)) env)
              ≡ eqb (value x env) (cond here (α.value p) (value_before case α (α.block l.number) g))
          by_copy true = same_value env sources x (Assertions.value_of p)
          by_copy false = before_block g

          go : EqView p 0 → meets (Assertions.read_item case sources x l g p) env ≡ eqb (value x env) (read_item case α (α.block l.number) g p)
          go (same e q) = rw q (before_block g)
          go (diff e q) = rw q (by_copy (eqb (α.block p) (α.block l.number)))

      pub name_is_read : (name p : ℕ)
          → meets (Assertions.read_name case sources x l name p) env ≡ eqb (value x env) (read_name case α (α.block l.number) name p)
      unfolding Assertions.read_name read_name meets tested value
      name_is_read name p = go (lt_view name local_count) (lt_view (name - local_count) (item_count case))
        where
          go : LtView name local_count → LtView (name - local_count) (item_count case)
              → meets (Assertions.read_name case sources x l name p) env ≡ eqb (value x env) (read_name case α (α.block l.number) name p)
          go (below h q) v = rw q (same_value env sources x (local_with p) ∙ ap (eqb (value x env)) (local_value p))
          go (above h q) (below h' q') = rw (q, q') (item_is_read (name - local_count) p)
          go (above h q) (above h' q') = rw (q, q')
