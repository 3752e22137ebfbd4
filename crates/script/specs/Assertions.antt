-- The assertion of each row of a case's table: docs/SMT-TEXT.md, "The assertions". Each definition of `model` about an assignment has
-- its like here: what is known from the case stays `cond`, what depends on the assignment becomes a formula.
-- Assumes nothing.
use Rattle.std.specs.Prelude.{ℕ, zero, suc, ◌+◌, ◌-◌, ◌*◌, ◌%◌, Bool, true, false, cond, ◌&&◌, List, [], ◌∷◌, reverse, eqb, ltb, leb, get_or}
use Rattle.model.specs.Limits.{local_count}
use Rattle.model.specs.CaseFile.{Line, Case, item_count, lines_of, line_at}
use Rattle.model.specs.declared.Kind.{Kind}
use Rattle.model.specs.declared.Kind.TheVariants.{Compute, Store, Load, Input, Assert, Assume, Lock, Unlock}
use Rattle.model.specs.Line.{item_name, guard_name, operand_a, target_name, holder, unrun_value, is_input}
use Rattle.model.specs.Table.{Row, table}
use Rattle.model.specs.Assignment.{variables}
use Rattle.model.specs.Copies.{copy_of}
use Rattle.model.specs.Holds.{from_record}
use Rattle.smt.specs.Term.{Operation, bvadd, bvsub, bvand, bvor, bvurem, Test, equals, bvult, bvule, conjunction, disjunction, exclusion, implication, Term, variable, constant, choice, apply, Formula, truth, test, negation, join, select}
use Rattle.smt.specs.Script.{Script}

abbrev pub equal : Term → Term → Formula
equal x y = test equals x y

abbrev pub is_zero : Term → Formula
is_zero x = equal x (constant 0)

-- Two formulas are both true or both false.
abbrev pub agree : Formula → Formula → Formula
agree f g = negation (join exclusion f g)

-- The variables of record k, and the block value of item g at the end of block i.
abbrev pub block_of : ℕ → Term
block_of k = variable (2 * (k - 1))

abbrev pub value_of : ℕ → Term
value_of k = variable (2 * (k - 1) + 1)

abbrev pub block_value : Case → ℕ → ℕ → Term
block_value case i g = variable (2 * case.R + i * item_count case + g)

-- The value of item g where block i begins.
unfoldable pub value_before : Case → ℕ → ℕ → Term
value_before case zero g = constant (get_or case.initial g 0)
value_before case (suc i) g = block_value case i g

-- The value of a local with copy p.
unfoldable pub local_with : ℕ → Term
local_with p = cond (eqb p 0) (constant 0) (value_of p)

-- "The sources of a case are its input lines, by record number, the first six": among so many records from record k on.
abbrev pub most_sources : ℕ
most_sources = 6

abbrev pub source : Bool → ℕ → (ℕ → List ℕ) → ℕ → List ℕ
source true k more zero = []
source true k more (suc room) = k ∷ more room
source false k more room = more room

unfoldable pub sources_from : Case → ℕ → ℕ → ℕ → List ℕ
sources_from case zero k room = []
sources_from case (suc many) k room = source (is_input (line_at case k).kind) k (sources_from case many (suc k)) room

unfoldable pub sources_of : Case → List ℕ
sources_of case = sources_from case case.R 1 most_sources

-- "Two variables are equal, and for each source both equal it or neither does."
unfoldable pub linked : List ℕ → Term → Term → Formula
linked [] x y = equal x y
linked (s ∷ sources) x y = join conjunction (agree (equal x (value_of s)) (equal y (value_of s))) (linked sources x y)

-- Two terms are equal, with links where both are variables.
abbrev pub is_variable : Term → Bool
is_variable (variable k) = true
is_variable (constant n) = false
is_variable (choice f x y) = false
is_variable (apply o x y) = false

unfoldable pub same : List ℕ → Term → Term → Formula
same sources x y = cond (is_variable x && is_variable y) (linked sources x y) (equal x y)

-- The blocks of a thread from block i on, so many at most: every T-th up to n.
unfoldable pub blocks_from : ℕ → ℕ → ℕ → ℕ → List ℕ
blocks_from T n zero i = []
blocks_from T n (suc most) i = cond (leb i n) (i ∷ blocks_from T n most (i + T)) []

abbrev pub own_blocks : Case → ℕ → List ℕ
own_blocks case t = blocks_from case.T case.n (suc case.n) t

-- x is the value of item g where the block of line k begins, which is one of these blocks.
unfoldable pub read_before : Case → List ℕ → Term → ℕ → ℕ → List ℕ → Formula
read_before case sources x k g [] = truth true
read_before case sources x k g (i ∷ blocks) = select (equal (block_of k) (constant i)) (same sources x (value_before case i g)) (read_before case sources x k g blocks)

-- x is what line l reads of item g with copy p.
unfoldable pub read_item : Case → List ℕ → Term → Line → ℕ → ℕ → Formula
read_item case sources x l g p =
    cond (eqb p 0) (read_before case sources x l.number g (own_blocks case l.thread))
    (select (equal (block_of p) (block_of l.number)) (same sources x (value_of p)) (read_before case sources x l.number g (own_blocks case l.thread)))

-- x is what line l reads of a name with copy p; what is no name reads 0.
unfoldable pub read_name : Case → List ℕ → Term → Line → ℕ → ℕ → Formula
read_name case sources x l name p =
    cond (ltb name local_count) (same sources x (local_with p))
    (cond (ltb (name - local_count) (item_count case)) (read_item case sources x l (name - local_count) p) (equal x (constant 0)))

-- The guard, with this copy of its local.
unfoldable pub guard_true : Line → ℕ → Formula
guard_true l p = cond (ltb l.guard 17) (negation (is_zero (local_with p))) (is_zero (local_with p))

-- An operand with this copy, and the expression of two operands.
unfoldable pub operand : ℕ → ℕ → ℕ → Term
operand x c p = cond (eqb x local_count) (constant c) (local_with p)

abbrev pub bit : Formula → Term
bit f = choice f (constant 1) (constant 0)

unfoldable pub comparison : ℕ → Test
comparison op = cond (eqb op 5) equals bvult

unfoldable pub operation : ℕ → Operation
operation op = cond (eqb op 1) bvadd (cond (eqb op 2) bvsub (cond (eqb op 3) bvand bvor))

unfoldable pub expression : ℕ → Term → Term → Term
expression op x y = cond (eqb op 0) x (cond (ltb op 5) (apply (operation op) x y) (bit (test (comparison op) x y)))

-- "Where the first operand equals one source and the second another, the comparison is that of the sources": for one first source, and
-- for all.
abbrev pub fact_of : Test → Term → Term → Term → Term → Formula
fact_of t x y s u = join implication (join conjunction (equal x s) (equal y u)) (agree (test t x y) (test t s u))

unfoldable pub facts_with : Test → Term → Term → ℕ → List ℕ → Formula → Formula
facts_with t x y s [] base = base
facts_with t x y s (u ∷ others) base = join conjunction (fact_of t x y (value_of s) (value_of u)) (facts_with t x y s others base)

unfoldable pub facts : Test → Term → Term → List ℕ → List ℕ → Formula → Formula
facts t x y sources [] base = base
facts t x y sources (s ∷ firsts) base = facts_with t x y s sources (facts t x y sources firsts base)

-- Facts stand beside the comparison of two variables.
unfoldable pub with_facts : List ℕ → ℕ → Term → Term → Formula → Formula
with_facts sources op x y base = cond (leb 5 op && (is_variable x && is_variable y)) (facts (comparison op) x y sources sources base) base

-- v is the expression, and v is 1 if the expression is not zero, else 0.
unfoldable pub is_expression : List ℕ → Term → ℕ → Term → Term → Formula
is_expression sources v op x y = cond (eqb op 0) (same sources v x) (with_facts sources op x y (equal v (expression op x y)))

unfoldable pub is_truth : List ℕ → Term → ℕ → Term → Term → Formula
is_truth sources v op x y = with_facts sources op x y (equal v (choice (is_zero (expression op x y)) (constant 0) (constant 1)))

-- The value of a line whose guard is true, and of one whose guard is false; the copies are of the guard, a, b and the target.
abbrev pub operands_of : (Term → Term → Formula) → Line → ℕ → ℕ → Formula
operands_of of l a b = of (operand l.a l.c a) (operand l.b l.c b)

unfoldable pub guarded_in : Kind → Case → List ℕ → Line → ℕ → ℕ → Formula
guarded_in Compute case sources l a b = operands_of (is_expression sources (value_of l.number) l.op) l a b
guarded_in Store case sources l a b = operands_of (is_expression sources (value_of l.number) l.op) l a b
guarded_in Load case sources l a b = read_name case sources (value_of l.number) l (operand_a l) a
guarded_in Input case sources l a b = truth true
guarded_in Assert case sources l a b = operands_of (is_truth sources (value_of l.number) l.op) l a b
guarded_in Assume case sources l a b = operands_of (is_truth sources (value_of l.number) l.op) l a b
guarded_in Lock case sources l a b = equal (value_of l.number) (constant (holder l))
guarded_in Unlock case sources l a b = equal (value_of l.number) (constant 0)

abbrev pub old_target : Case → List ℕ → Line → ℕ → Formula
old_target case sources l target = read_name case sources (value_of l.number) l (target_name case.G l) target

unfoldable pub guarded_out : Kind → Case → List ℕ → Line → ℕ → Formula
guarded_out Compute case sources l target = old_target case sources l target
guarded_out Store case sources l target = old_target case sources l target
guarded_out Load case sources l target = old_target case sources l target
guarded_out Input case sources l target = old_target case sources l target
guarded_out Assert case sources l target = equal (value_of l.number) (constant 1)
guarded_out Assume case sources l target = equal (value_of l.number) (constant 1)
guarded_out Lock case sources l target = old_target case sources l target
guarded_out Unlock case sources l target = old_target case sources l target

-- "A line with block number n + 1 was not run"
abbrev pub not_run : Case → ℕ → Formula
not_run case k = equal (block_of k) (constant (suc case.n))

-- A 4 and a 5 of a line that was run, and a 6.
unfoldable pub line_assertion : Case → List ℕ → Line → ℕ → ℕ → ℕ → ℕ → Formula
line_assertion case sources l guard a b target =
    cond (eqb l.guard 0) (guarded_in l.kind case sources l a b)
    (select (guard_true l guard) (guarded_in l.kind case sources l a b) (guarded_out l.kind case sources l target))

unfoldable pub value_assertion : Case → List ℕ → ℕ → ℕ → ℕ → ℕ → ℕ → Formula
value_assertion case sources k guard a b target =
    select (not_run case k) (equal (value_of k) (constant (unrun_value (line_at case k).kind))) (line_assertion case sources (line_at case k) guard a b target)

-- Where its guard is true, line l reads x of its mutex.
unfoldable pub mutex_reads : Case → List ℕ → Term → Line → ℕ → ℕ → Formula
mutex_reads case sources x l guard target =
    cond (eqb l.guard 0) (read_name case sources x l (target_name case.G l) target)
    (join implication (guard_true l guard) (read_name case sources x l (target_name case.G l) target))

unfoldable pub demand_assertion : Kind → Case → List ℕ → Line → ℕ → ℕ → Formula
demand_assertion Compute case sources l guard target = truth true
demand_assertion Store case sources l guard target = truth true
demand_assertion Load case sources l guard target = truth true
demand_assertion Input case sources l guard target = truth true
demand_assertion Assert case sources l guard target = truth true
demand_assertion Assume case sources l guard target = equal (value_of l.number) (constant 1)
demand_assertion Lock case sources l guard target = mutex_reads case sources (constant 0) l guard target
demand_assertion Unlock case sources l guard target = truth true

unfoldable pub walk_back : Case → List ℕ → ℕ → ℕ → List Line → Formula
walk_back case sources i g [] = same sources (block_value case i g) (value_before case i g)
walk_back case sources i g (l ∷ earlier) =
    cond (eqb (target_name case.G l) (item_name g))
    (select (equal (block_of l.number) (constant i)) (same sources (block_value case i g) (value_of l.number)) (walk_back case sources i g earlier))
    (walk_back case sources i g earlier)

-- Line l unlocks what its thread does not hold: it was run, its guard is true, and it does not read its thread as holder.
unfoldable pub unlocks_as_stranger : Case → List ℕ → Line → ℕ → ℕ → Formula
unlocks_as_stranger case sources l guard target =
    negation (join disjunction (not_run case l.number) (mutex_reads case sources (constant (holder l)) l guard target))

-- A 7: "some assert has value 0", or, since Four, some line unlocks what its thread does not hold; or else others do. The earlier lines
-- of the thread are given latest first.
unfoldable pub or_breaks : Kind → Case → List ℕ → List Line → Line → Formula → Formula
or_breaks Compute case sources earlier l others = others
or_breaks Store case sources earlier l others = others
or_breaks Load case sources earlier l others = others
or_breaks Input case sources earlier l others = others
or_breaks Assert case sources earlier l others = join disjunction (is_zero (value_of l.number)) others
or_breaks Assume case sources earlier l others = others
or_breaks Lock case sources earlier l others = others
or_breaks Unlock case sources earlier l others =
    join disjunction (unlocks_as_stranger case sources l (copy_of case.G (guard_name l) earlier) (copy_of case.G (target_name case.G l) earlier)) others

unfoldable pub some_breaks : Case → List ℕ → List Line → List Line → Formula → Formula
some_breaks case sources earlier [] others = others
some_breaks case sources earlier (l ∷ ls) others = or_breaks l.kind case sources earlier l (some_breaks case sources (l ∷ earlier) ls others)

unfoldable pub some_thread_breaks : Case → List ℕ → List (List Line) → Formula
some_thread_breaks case sources [] = truth false
some_thread_breaks case sources (ls ∷ threads) = some_breaks case sources [] ls (some_thread_breaks case sources threads)

-- The assertion of a row, by its kind.
unfoldable pub assertion_of : Case → List ℕ → Row → Formula
assertion_of case sources w =
    cond (eqb w.kind 3) (join disjunction (not_run case w.one) (equal (apply bvurem (block_of w.one) (constant w.two)) (constant w.three)))
    (cond (eqb w.kind 8) (join disjunction (not_run case w.one) (equal (block_of w.one) (block_of w.two)))
    (cond (eqb w.kind 1) (test bvule (block_of w.one) (block_of w.two))
    (cond (eqb w.kind 2) (test bvule (block_of w.one) (constant (suc w.two)))
    (cond (eqb w.kind 4) (value_assertion case sources w.one w.two w.three w.four w.five)
    (cond (eqb w.kind 5) (join disjunction (not_run case w.one) (demand_assertion (line_at case w.one).kind case sources (line_at case w.one) w.two w.three))
    (cond (eqb w.kind 6) (walk_back case sources w.two w.one (from_record w.three (reverse (lines_of case (w.two % case.T)))))
    (cond (eqb w.kind 7) (some_thread_breaks case sources case.threads) (truth false))))))))

-- One assertion for each row, in the table's order; the script of a case.
unfoldable pub assertions_of : Case → List ℕ → List Row → List Formula
assertions_of case sources [] = []
assertions_of case sources (w ∷ ws) = assertion_of case sources w ∷ assertions_of case sources ws

unfoldable pub script_of : Case → Script
script_of case = record { variables = variables case; assertions = assertions_of case (sources_of case) (table case) }
