-- How long the assertions of a line's 4 and 5 and its part in the goal are at the most, kind by kind. Assumes nothing. Met again in Rows.
use mathlib.Core.Path.{◌≡◌, refl}
use Prim.Native.Nat.{ℕ, ◌+◌, ◌*◌, ◌≤◌}
use mathlib.Core.Bool.{true, ◌&&◌}
use mathlib.Core.List.{List, [], ◌∷◌}
use native.Mathlib.Omega.{arith}
use lib.Dec.{eqb, ltb, leb}
use lib.ListN.{length}
use Rattle.model.specs.Limits.{local_count}
use Rattle.model.specs.CaseFile.{Line, Case, line_at}
use Rattle.model.specs.declared.Kind.{Kind}
use Rattle.model.specs.declared.Kind.TheVariants.{Compute, Store, Load, Input, Assert, Assume, Lock, Unlock}
use Rattle.model.specs.Line.{guard_name, operand_a, target_name, holder}
use Rattle.model.specs.Copies.{copy_of}
use Rattle.smt.specs.Term.{Test, equals, bvult, bvule, disjunction, implication, Term, constant, choice, apply, Formula, truth, test, negation, join, select}
use Rattle.script.specs.Assertions.{most_sources, equal, is_zero, value_of, local_with, is_variable, same, own_blocks, read_name, guard_true, operand, bit, comparison, operation, expression, fact_of, facts_with, facts, with_facts, is_expression, is_truth, operands_of, guarded_in, guarded_out, not_run, line_assertion, value_assertion, mutex_reads, demand_assertion, unlocks_as_stranger, or_breaks}
use Rattle.text_size.proofs.Formulas.{test_size, term_size, size, either_formula, either_term}
use Rattle.text_size.proofs.ReadTexts.{Atomic, local_atomic, same_size, read_name_size}

guard_size : (l : Line) (p : ℕ) → size (guard_true l p) ≤ 23
unfolding guard_true size
guard_size l p =
    either_formula (ltb l.guard 17) (negation (is_zero (local_with p))) (is_zero (local_with p))
    (omega (arith, local_atomic p)) (omega (arith, local_atomic p))

operand_atomic : (x c p : ℕ) → Atomic (operand x c p)
unfolding operand term_size
operand_atomic x c p = either_term (eqb x local_count) (constant c) (local_with p) (omega arith) (local_atomic p)

test_at_most : (t : Test) → test_size t ≤ 9
test_at_most equals = omega arith
test_at_most bvult = omega arith
test_at_most bvule = omega arith

expression_size : (op : ℕ) (x y : Term) → Atomic x → Atomic y → term_size (expression op x y) ≤ 41
unfolding expression term_size
expression_size op x y h k =
    either_term (eqb op 0) x _ (omega arith)
    (either_term (ltb op 5) (apply (operation op) x y) (bit (test (comparison op) x y)) (omega arith) (omega (arith, test_at_most (comparison op))))

-- Facts: one for each two sources.
fact_size : (t : Test) (x y : Term) (s u : ℕ) → Atomic x → Atomic y → size (fact_of t x y (value_of s) (value_of u)) ≤ 102
unfolding size
fact_size t x y s u h k = omega (arith, test_at_most t)

facts_with_size : (t : Test) (x y : Term) (s : ℕ) (others : List ℕ) (base : Formula) → Atomic x → Atomic y
    → size (facts_with t x y s others base) ≤ 109 * length others + size base
unfolding facts_with size
facts_with_size t x y s [] base h k = omega arith
facts_with_size t x y s (u ∷ others) base h k = omega (arith, fact_size t x y s u h k, facts_with_size t x y s others base h k)

-- A 3, a 5 or what an unlock's part denies, which a line meets that was not run.
pub or_not_run_size : (case : Case) (k : ℕ) (f : Formula) → size (join disjunction (not_run case k) f) ≡ 23 + size f
unfolding size
or_not_run_size case k f = omega arith

module _ (case : Case) (sources : List ℕ) (few : length sources ≤ most_sources) where
  facts_size : (t : Test) (x y : Term) (firsts : List ℕ) (base : Formula) → Atomic x → Atomic y → size (facts t x y sources firsts base) ≤ 654 * length firsts + size base
  unfolding facts
  facts_size t x y [] base h k = omega arith
  facts_size t x y (s ∷ firsts) base h k =
      omega (arith, facts_with_size t x y s sources (facts t x y sources firsts base) h k, facts_size t x y firsts base h k)

  with_facts_size : (op : ℕ) (x y : Term) (base : Formula) → Atomic x → Atomic y → size (with_facts sources op x y base) ≤ 3924 + size base
  unfolding with_facts
  with_facts_size op x y base h k =
      either_formula (leb 5 op && (is_variable x && is_variable y)) (facts (comparison op) x y sources sources base) base
      (omega (arith, facts_size (comparison op) x y sources base h k)) (omega arith)

  expressed_size : (v : Term) (op : ℕ) (x y : Term) → Atomic v → Atomic x → Atomic y → size (equal v (expression op x y)) ≤ 52
  unfolding size
  expressed_size v op x y a h k = omega (arith, expression_size op x y h k)

  is_expression_size : (v : Term) (op : ℕ) (x y : Term) → Atomic v → Atomic x → Atomic y → size (is_expression sources v op x y) ≤ 3976
  unfolding is_expression
  is_expression_size v op x y a h k =
      either_formula (eqb op 0) (same sources v x) (with_facts sources op x y (equal v (expression op x y)))
      (omega (arith, same_size case sources few v x a h))
      (omega (arith, with_facts_size op x y (equal v (expression op x y)) h k, expressed_size v op x y a h k))

  truth_size : (v : Term) (op : ℕ) (x y : Term) → Atomic v → Atomic x → Atomic y → size (equal v (choice (is_zero (expression op x y)) (constant 0) (constant 1))) ≤ 83
  unfolding size
  truth_size v op x y a h k = omega (arith, expression_size op x y h k)

  is_truth_size : (v : Term) (op : ℕ) (x y : Term) → Atomic v → Atomic x → Atomic y → size (is_truth sources v op x y) ≤ 4007
  unfolding is_truth
  is_truth_size v op x y a h k =
      omega (arith, with_facts_size op x y (equal v (choice (is_zero (expression op x y)) (constant 0) (constant 1))) h k, truth_size v op x y a h k)

  -- A line with its guard true, with its guard false, the text of its 5 with what the line of an assertion has besides, and its part in
  -- the goal.
  abbrev in_most : ℕ → Kind → ℕ
  in_most reads Compute = 3976
  in_most reads Store = 3976
  in_most reads Load = reads
  in_most reads Input = 5
  in_most reads Assert = 4007
  in_most reads Assume = 4007
  in_most reads Lock = 17
  in_most reads Unlock = 17

  abbrev out_most : ℕ → Kind → ℕ
  out_most reads Compute = reads
  out_most reads Store = reads
  out_most reads Load = reads
  out_most reads Input = reads
  out_most reads Assert = 17
  out_most reads Assume = 17
  out_most reads Lock = reads
  out_most reads Unlock = reads

  abbrev pub demand_most : ℕ → Kind → ℕ
  demand_most reads Compute = 0
  demand_most reads Store = 0
  demand_most reads Load = 0
  demand_most reads Input = 0
  demand_most reads Assert = 0
  demand_most reads Assume = 50
  demand_most reads Lock = 62 + reads
  demand_most reads Unlock = 0

  abbrev pub part_most : ℕ → Kind → ℕ
  part_most reads Compute = 0
  part_most reads Store = 0
  part_most reads Load = 0
  part_most reads Input = 0
  part_most reads Assert = 23
  part_most reads Assume = 0
  part_most reads Lock = 0
  part_most reads Unlock = 64 + reads

  module _ (reads : ℕ) (own : (t : ℕ) → 371 + 366 * length (own_blocks case t) ≤ reads) where
    value_atomic : (k : ℕ) → Atomic (value_of k)
    unfolding term_size
    value_atomic k = omega arith

    is_number_size : (k n : ℕ) → size (equal (value_of k) (constant n)) ≤ 17
    unfolding size
    is_number_size k n = omega arith

    line_expression : (l : Line) (a b : ℕ) → size (operands_of (is_expression sources (value_of l.number) l.op) l a b) ≤ 3976
    line_expression l a b =
        is_expression_size (value_of l.number) l.op (operand l.a l.c a) (operand l.b l.c b)
        (value_atomic l.number) (operand_atomic l.a l.c a) (operand_atomic l.b l.c b)

    line_truth : (l : Line) (a b : ℕ) → size (operands_of (is_truth sources (value_of l.number) l.op) l a b) ≤ 4007
    line_truth l a b =
        is_truth_size (value_of l.number) l.op (operand l.a l.c a) (operand l.b l.c b)
        (value_atomic l.number) (operand_atomic l.a l.c a) (operand_atomic l.b l.c b)

    truth_most : size (truth true) ≤ 5
    unfolding size
    truth_most = omega arith

    in_size : (κ : Kind) (l : Line) (a b : ℕ) → size (guarded_in κ case sources l a b) ≤ in_most reads κ
    unfolding guarded_in
    in_size Compute l a b = line_expression l a b
    in_size Store l a b = line_expression l a b
    in_size Load l a b = read_name_size case sources few reads own (value_of l.number) (value_atomic l.number) l (operand_a l) a
    in_size Input l a b = omega (arith, truth_most)
    in_size Assert l a b = line_truth l a b
    in_size Assume l a b = line_truth l a b
    in_size Lock l a b = is_number_size l.number (holder l)
    in_size Unlock l a b = is_number_size l.number 0

    old_size : (l : Line) (target : ℕ) → size (read_name case sources (value_of l.number) l (target_name case.G l) target) ≤ reads
    old_size l target = read_name_size case sources few reads own (value_of l.number) (value_atomic l.number) l (target_name case.G l) target

    out_size : (κ : Kind) (l : Line) (target : ℕ) → size (guarded_out κ case sources l target) ≤ out_most reads κ
    unfolding guarded_out
    out_size Compute l target = old_size l target
    out_size Store l target = old_size l target
    out_size Load l target = old_size l target
    out_size Input l target = old_size l target
    out_size Assert l target = is_number_size l.number 1
    out_size Assume l target = is_number_size l.number 1
    out_size Lock l target = old_size l target
    out_size Unlock l target = old_size l target

    chosen_size : (f g h : Formula) → size (select f g h) ≡ 8 + size f + size g + size h
    unfolding size
    chosen_size f g h = refl

    line_size : (l : Line) (guard a b target : ℕ) → size (line_assertion case sources l guard a b target) ≤ 31 + in_most reads l.kind + out_most reads l.kind
    unfolding line_assertion
    line_size l guard a b target =
        let inside = in_size l.kind l a b in
        let outside = out_size l.kind l target in
        either_formula (eqb l.guard 0) (guarded_in l.kind case sources l a b) _ (omega (arith, inside))
        (omega (arith, chosen_size (guard_true l guard) (guarded_in l.kind case sources l a b) (guarded_out l.kind case sources l target), guard_size l guard, inside, outside))

    reads_size : (n : ℕ) (l : Line) (guard target : ℕ) → size (mutex_reads case sources (constant n) l guard target) ≤ 29 + reads
    unfolding mutex_reads size
    reads_size n l guard target =
        let read = read_name_size case sources few reads own (constant n) atomic l (target_name case.G l) target in
        either_formula (eqb l.guard 0) (read_name case sources (constant n) l (target_name case.G l) target) _ (omega (arith, read))
        (implied (read_name case sources (constant n) l (target_name case.G l) target) read)
      where
        atomic : Atomic (constant n)
        atomic = omega arith

        implied : (f : Formula) → size f ≤ reads → size (join implication (guard_true l guard) f) ≤ 29 + reads
        implied f h = omega (arith, guard_size l guard)

    pub assume_size : (l : Line) (guard target : ℕ) → size (demand_assertion Assume case sources l guard target) ≤ 17
    unfolding demand_assertion
    assume_size l guard target = is_number_size l.number 1

    pub lock_size : (l : Line) (guard target : ℕ) → size (demand_assertion Lock case sources l guard target) ≤ 29 + reads
    unfolding demand_assertion
    lock_size l guard target = reads_size 0 l guard target

    stranger_size : (l : Line) (guard target : ℕ) → size (unlocks_as_stranger case sources l guard target) ≤ 58 + reads
    unfolding unlocks_as_stranger size
    stranger_size l guard target = omega (arith, reads_size (holder l) l guard target)

    pub part_size : (κ : Kind) (earlier : List Line) (l : Line) (f : Formula) → size (or_breaks κ case sources earlier l f) ≤ part_most reads κ + size f
    unfolding or_breaks size
    part_size Compute earlier l f = omega arith
    part_size Store earlier l f = omega arith
    part_size Load earlier l f = omega arith
    part_size Input earlier l f = omega arith
    part_size Assert earlier l f = omega arith
    part_size Assume earlier l f = omega arith
    part_size Lock earlier l f = omega arith
    part_size Unlock earlier l f =
        omega (arith, stranger_size l (copy_of case.G (guard_name l) earlier) (copy_of case.G (target_name case.G l) earlier))

    -- All together: a 4 that has the most has no 5 and no read in the goal.
    kind_most : (κ : Kind) → reads ≤ 3800 → 371 ≤ reads → in_most reads κ + out_most reads κ + demand_most reads κ + part_most reads κ ≤ 3976 + reads
    kind_most Compute h k = omega arith
    kind_most Store h k = omega arith
    kind_most Load h k = omega arith
    kind_most Input h k = omega arith
    kind_most Assert h k = omega arith
    kind_most Assume h k = omega arith
    kind_most Lock h k = omega arith
    kind_most Unlock h k = omega arith

    -- The 4 of a line that its number finds.
    found_size : (l : Line) → line_at case l.number ≡ l → (guard a b target : ℕ)
        → size (value_assertion case sources l.number guard a b target) ≤ 73 + in_most reads l.kind + out_most reads l.kind
    unfolding value_assertion size
    found_size l found guard a b target = rw found (omega (arith, line_size l guard a b target))

    pub line_most : reads ≤ 3800 → (l : Line) → line_at case l.number ≡ l → (guard a b target : ℕ)
        → 10 + size (value_assertion case sources l.number guard a b target) + demand_most reads l.kind + part_most reads l.kind ≤ 4059 + reads
    line_most h l found guard a b target = omega (arith, found_size l found guard a b target, kind_most l.kind h (omega (arith, own 0)))
