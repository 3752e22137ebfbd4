-- How long the texts of equations with links and of reads are at the most. Assumes nothing. Met again in Lines and Rows.
use Prim.Native.Nat.{ℕ, zero, suc, ◌+◌, ◌-◌, ◌*◌, ◌≤◌}
use mathlib.Core.Bool.{◌&&◌}
use mathlib.Core.List.{List, [], ◌∷◌}
use native.Mathlib.Omega.{arith}
use lib.Dec.{eqb, ltb}
use lib.ListN.{length}
use Rattle.model.specs.Limits.{local_count}
use Rattle.model.specs.CaseFile.{Line, Case, item_count}
use Rattle.smt.specs.Term.{Term, constant, Formula, select}
use Rattle.script.specs.Assertions.{most_sources, equal, block_of, value_of, value_before, local_with, linked, is_variable, same, own_blocks, read_before, read_item, read_name}
use Rattle.text_size.proofs.Formulas.{term_size, size, either_formula, either_term}

-- An atom, an equation of atoms, and one with its links.
abbrev pub Atomic : Term → Type 0
Atomic x = term_size x ≤ 6

pub local_atomic : (p : ℕ) → Atomic (local_with p)
unfolding local_with term_size
local_atomic p = either_term (eqb p 0) (constant 0) (value_of p) (omega arith) (omega arith)

pub before_atomic : (case : Case) (i g : ℕ) → Atomic (value_before case i g)
unfolding value_before term_size
before_atomic case zero g = omega arith
before_atomic case (suc i) g = omega arith

pub equal_size : (x y : Term) → Atomic x → Atomic y → size (equal x y) ≤ 17
unfolding size
equal_size x y h k = omega arith

linked_size : (sources : List ℕ) (x y : Term) → Atomic x → Atomic y → size (linked sources x y) ≤ 17 + 54 * length sources
unfolding linked size
linked_size [] x y h k = omega arith
linked_size (s ∷ sources) x y h k = omega (arith, linked_size sources x y h k)

module _ (case : Case) (sources : List ℕ) (few : length sources ≤ most_sources) where
  pub same_size : (x y : Term) → Atomic x → Atomic y → size (same sources x y) ≤ 341
  unfolding same
  same_size x y h k =
      either_formula (is_variable x && is_variable y) (linked sources x y) (equal x y)
      (omega (arith, linked_size sources x y h k)) (omega (arith, equal_size x y h k))

  -- A read: so many own blocks, and the copy.
  read_before_size : (x : Term) → Atomic x → (k g : ℕ) (blocks : List ℕ) → size (read_before case sources x k g blocks) ≤ 5 + 366 * length blocks
  unfolding read_before size
  read_before_size x h k g [] = omega arith
  read_before_size x h k g (i ∷ blocks) =
      omega (arith, same_size x (value_before case i g) h (before_atomic case i g), read_before_size x h k g blocks)

  module _ (reads : ℕ) (own : (t : ℕ) → 371 + 366 * length (own_blocks case t) ≤ reads) where
    read_item_size : (x : Term) → Atomic x → (l : Line) (g p : ℕ) → size (read_item case sources x l g p) ≤ reads
    unfolding read_item size
    read_item_size x h l g p =
        either_formula (eqb p 0) before (select (equal (block_of p) (block_of l.number)) (same sources x (value_of p)) before)
        (omega (arith, own l.thread, before_size)) (copy_size before before_size)
      where
        before : Formula
        before = read_before case sources x l.number g (own_blocks case l.thread)

        before_size : size before ≤ 5 + 366 * length (own_blocks case l.thread)
        before_size = read_before_size x h l.number g (own_blocks case l.thread)

        copy_size : (f : Formula) → size f ≤ 5 + 366 * length (own_blocks case l.thread)
            → size (select (equal (block_of p) (block_of l.number)) (same sources x (value_of p)) f) ≤ reads
        copy_size f few_bytes = omega (arith, own l.thread, same_size x (value_of p) h (omega arith))

    pub read_name_size : (x : Term) → Atomic x → (l : Line) (name p : ℕ) → size (read_name case sources x l name p) ≤ reads
    unfolding read_name size
    read_name_size x h l name p =
        either_formula (ltb name local_count) (same sources x (local_with p)) _
        (omega (arith, own 0, same_size x (local_with p) h (local_atomic p)))
        (either_formula (ltb (name - local_count) (item_count case)) (read_item case sources x l (name - local_count) p) (equal x (constant 0))
        (read_item_size x h l (name - local_count) p) (omega (arith, own 0, equal_size x (constant 0) h six)))
      where
        six : Atomic (constant 0)
        six = omega arith
