-- The assertion of a row has only variables of the case and constants of 16 bits, where the numbers of the row are those of records,
-- blocks and items.
-- Assumes nothing. Met again in SpelledTable.
use mathlib.Core.Path.{◌≡◌, refl}
use Prim.Native.Nat.{ℕ, zero, suc, ◌+◌, ◌-◌, ◌≤◌, ◌<◌}
use mathlib.Core.Bool.{Bool, true, false, cond, ◌&&◌}
use mathlib.Core.List.{List, [], ◌∷◌}
use native.Mathlib.Omega.{arith}
use native.Mathlib.Nat.{mul-le-mul_right, suc-mul}
use lib.Dec.{eqb, ltb, leb}
use lib.ListN.{get_or}
use borrow.Author.Tests.{eqb-false, ltb-true, leb-true}
use Rattle.model.specs.Word.{word_size}
use Rattle.model.specs.Limits.{local_count}
use Rattle.model.specs.CaseFile.{Line, Case, item_count, line_at}
use Rattle.model.specs.declared.Kind.{Kind}
use Rattle.model.specs.declared.Kind.TheVariants.{Compute, Store, Load, Input, Assert, Assume, Lock, Unlock}
use Rattle.model.specs.Line.{no_name, item_name, guard_name, operand_a, target_name, holder}
use Rattle.model.specs.Assignment.{variables}
use Rattle.model.specs.Copies.{latest, copy_of}
use Rattle.smt.specs.Term.{Test, disjunction, Term, constant, Formula, join}
use Rattle.script.specs.Assertions.{block_of, value_of, block_value, value_before, local_with, linked, is_variable, same, blocks_from, own_blocks, read_before, read_item, read_name, guard_true, operand, comparison, expression, operands_of, old_target, facts_with, facts, with_facts, is_expression, is_truth, guarded_in, guarded_out, not_run, line_assertion, value_assertion, mutex_reads, unlocks_as_stranger, demand_assertion, walk_back, or_breaks, some_breaks, some_thread_breaks}
use Rattle.laws.specs.RecordNumber.{RecordNumber}
use Rattle.laws.specs.Order.{AllLines, AllThreads}
use Rattle.laws.proofs.Unrun.{unrun_small}
use Rattle.correspondence.specs.Meaning.{SmallLine}
use Rattle.reading.specs.Spellable.{TermSpellable, FormulaSpellable}

-- What is so of what a test takes, either way.
pub taken : {A : Type 0} (P : A → Type 0) (p : Bool) (x y : A) → (p ≡ true → P x) → (p ≡ false → P y) → P (cond p x y)
taken P true x y f g = f refl
taken P false x y f g = g refl

-- Sources are numbers of records.
abbrev pub AllRecords : ℕ → List ℕ → Type 0
AllRecords R [] = Unit
AllRecords R (s ∷ sources) = RecordNumber R s × AllRecords R sources

-- A line's own number is a record's and finds it, and the numbers that it brings with it have 16 bits.
pub record Spells (case : Case) (l : Line) : Type 0 where
  pub found : line_at case l.number ≡ l
  pub number : RecordNumber case.R l.number
  pub own : SmallLine l

-- A copy among such lines is a record or 0.
latest_low : (case : Case) (name : ℕ) (earlier : List Line) → AllLines (Spells case) earlier → latest case.G name earlier ≤ case.R
unfolding latest
latest_low case name [] all = omega arith
latest_low case name (l ∷ earlier) all = go (latest_low case name earlier all.1)
  where
    go : latest case.G name earlier ≤ case.R → latest case.G name (l ∷ earlier) ≤ case.R
    go rest = taken (λ p. p ≤ case.R) (eqb (target_name case.G l) name) l.number _ (λ e. all.0.number.low) (λ e. rest)

pub copy_low : (case : Case) (name : ℕ) (earlier : List Line) → AllLines (Spells case) earlier → copy_of case.G name earlier ≤ case.R
unfolding copy_of
copy_low case name earlier all = taken (λ p. p ≤ case.R) (ltb name no_name) _ 0 (λ e. latest_low case name earlier all) (λ e. omega arith)

module _ (case : Case) (few : suc case.n < word_size) (initials : (g : ℕ) → get_or case.initial g 0 < word_size) where
  abbrev T : Term → Type 0
  T x = TermSpellable (variables case) x

  abbrev F : Formula → Type 0
  F f = FormulaSpellable (variables case) f

  abbrev Known : ℕ → Type 0
  Known k = RecordNumber case.R k

  pub block_spelled : (k : ℕ) → Known k → T (block_of k)
  block_spelled k known = omega (arith, known.some, known.low)

  not_run_spelled : (k : ℕ) → Known k → F (not_run case k)
  not_run_spelled k known = (block_spelled k known, few)

  value_spelled : (k : ℕ) → Known k → T (value_of k)
  value_spelled k known = omega (arith, known.some, known.low)

  item_spelled : (i g : ℕ) → i < case.n → g < item_count case → T (block_value case i g)
  item_spelled i g h k = omega (arith, mul-le-mul_right (item_count case) h, suc-mul i (item_count case))

  before_spelled : (i g : ℕ) → i ≤ case.n → g < item_count case → T (value_before case i g)
  unfolding value_before
  before_spelled zero g h k = initials g
  before_spelled (suc i) g h k = item_spelled i g h k

  copy_known : (p : ℕ) → p ≤ case.R → eqb p 0 ≡ false → Known p
  copy_known p h q = let some = eqb-false p 0 q in record { some = omega arith; low = h }

  local_spelled : (p : ℕ) → p ≤ case.R → T (local_with p)
  unfolding local_with
  local_spelled p h = taken T (eqb p 0) _ (value_of p) (λ q. omega arith) (λ q. value_spelled p (copy_known p h q))

  -- ---- Links and facts.
  module _ (x y : Term) (first : T x) (second : T y) where
    linked_spelled : (sources : List ℕ) → AllRecords case.R sources → F (linked sources x y)
    unfolding linked
    linked_spelled [] all = (first, second)
    linked_spelled (s ∷ sources) all =
        let source = value_spelled s all.0 in
        (((first, source), (second, source)), linked_spelled sources all.1)

    module _ (t : Test) where
      first_facts_spelled : (s : ℕ) (others : List ℕ) (base : Formula) → Known s → AllRecords case.R others → F base
          → F (facts_with t x y s others base)
      unfolding facts_with
      first_facts_spelled s [] base one all b = b
      first_facts_spelled s (u ∷ others) base one all b =
          let p = value_spelled s one in
          let q = value_spelled u all.0 in
          ((((first, p), (second, q)), ((first, second), (p, q))), first_facts_spelled s others base one all.1 b)

      facts_spelled : (sources firsts : List ℕ) (base : Formula) → AllRecords case.R sources → AllRecords case.R firsts → F base
          → F (facts t x y sources firsts base)
      unfolding facts
      facts_spelled sources [] base all these b = b
      facts_spelled sources (s ∷ firsts) base all these b =
          first_facts_spelled s sources (facts t x y sources firsts base) these.0 all (facts_spelled sources firsts base all these.1 b)

  module _ (sources : List ℕ) (known : AllRecords case.R sources) where
    same_spelled : (x y : Term) → T x → T y → F (same sources x y)
    unfolding same
    same_spelled x y p q = taken F (is_variable x && is_variable y) (linked sources x y) _ (λ e. linked_spelled x y p q sources known) (λ e. (p, q))

    -- ---- Reads.
    module _ (x : Term) (spelled : T x) where
      read_before_spelled : (k g most i : ℕ) → Known k → g < item_count case
          → F (read_before case sources x k g (blocks_from case.T case.n most i))
      unfolding read_before blocks_from
      read_before_spelled k g zero i own h = tt
      read_before_spelled k g (suc most) i own h = go (read_before_spelled k g most (i + case.T) own h)
        where
          go : F (read_before case sources x k g (blocks_from case.T case.n most (i + case.T)))
              → F (read_before case sources x k g (cond (leb i case.n) (i ∷ blocks_from case.T case.n most (i + case.T)) []))
          go rest = taken (λ blocks. F (read_before case sources x k g blocks)) (leb i case.n) _ _
              (λ q. let low = leb-true i case.n q in
              ((block_spelled k own, omega arith), same_spelled x (value_before case i g) spelled (before_spelled i g low h), rest))
              (λ q. tt)

      item_is_spelled : (l : Line) (g p : ℕ) → Known l.number → g < item_count case → p ≤ case.R → F (read_item case sources x l g p)
      unfolding read_item
      item_is_spelled l g p own h copy =
          let before = read_before_spelled l.number g (suc case.n) l.thread own h in
          taken F (eqb p 0) (read_before case sources x l.number g (own_blocks case l.thread)) _ (λ q. before)
          (λ q. let some = copy_known p copy q in
          ((block_spelled p some, block_spelled l.number own), same_spelled x (value_of p) spelled (value_spelled p some), before))

      name_spelled : (l : Line) (name p : ℕ) → Known l.number → p ≤ case.R → F (read_name case sources x l name p)
      unfolding read_name
      name_spelled l name p own copy =
          taken F (ltb name local_count) (same sources x (local_with p)) _ (λ q. same_spelled x (local_with p) spelled (local_spelled p copy))
          (λ q. taken F (ltb (name - local_count) (item_count case)) (read_item case sources x l (name - local_count) p) _
          (λ q'. item_is_spelled l (name - local_count) p own (ltb-true (name - local_count) (item_count case) q') copy) (λ q'. (spelled, omega arith)))

    -- ---- Guards and expressions.
    guard_spelled : (l : Line) (p : ℕ) → p ≤ case.R → F (guard_true l p)
    unfolding guard_true
    guard_spelled l p copy =
        taken F (ltb l.guard 17) _ _ (λ q. (local_spelled p copy, omega arith)) (λ q. (local_spelled p copy, omega arith))

    operand_spelled : (x c p : ℕ) → c < word_size → p ≤ case.R → T (operand x c p)
    unfolding operand
    operand_spelled x c p small copy = taken T (eqb x local_count) _ (local_with p) (λ q. small) (λ q. local_spelled p copy)

    module _ (v x y : Term) (op : ℕ) (result : T v) (first : T x) (second : T y) where
      expression_spelled : T (expression op x y)
      unfolding expression
      expression_spelled =
          taken T (eqb op 0) x _ (λ q. first)
          (λ q. taken T (ltb op 5) _ _ (λ q'. (first, second)) (λ q'. ((first, second), omega arith, omega arith)))

      with_facts_spelled : (base : Formula) → F base → F (with_facts sources op x y base)
      unfolding with_facts
      with_facts_spelled base b =
          taken F (leb 5 op && (is_variable x && is_variable y)) (facts (comparison op) x y sources sources base) base
          (λ q. facts_spelled x y first second (comparison op) sources sources base known known b) (λ q. b)

      is_expression_spelled : F (is_expression sources v op x y)
      unfolding is_expression
      is_expression_spelled =
          taken F (eqb op 0) (same sources v x) _ (λ q. same_spelled v x result first) (λ q. with_facts_spelled _ (result, expression_spelled))

      is_truth_spelled : F (is_truth sources v op x y)
      unfolding is_truth
      is_truth_spelled = with_facts_spelled _ (result, ((expression_spelled, omega arith), omega arith, omega arith))

    -- ---- Constraints 4 and 5 of a line, with these copies.
    module _ (l : Line) (line : Spells case l) where
      own_spelled : T (value_of l.number)
      own_spelled = value_spelled l.number line.number

      own_expression_spelled : (a b : ℕ) → a ≤ case.R → b ≤ case.R → F (operands_of (is_expression sources (value_of l.number) l.op) l a b)
      own_expression_spelled a b p q =
          is_expression_spelled (value_of l.number) (operand l.a l.c a) (operand l.b l.c b) l.op own_spelled
          (operand_spelled l.a l.c a line.own.constant p) (operand_spelled l.b l.c b line.own.constant q)

      own_truth_spelled : (a b : ℕ) → a ≤ case.R → b ≤ case.R → F (operands_of (is_truth sources (value_of l.number) l.op) l a b)
      own_truth_spelled a b p q =
          is_truth_spelled (value_of l.number) (operand l.a l.c a) (operand l.b l.c b) l.op own_spelled
          (operand_spelled l.a l.c a line.own.constant p) (operand_spelled l.b l.c b line.own.constant q)

      in_spelled : (kind : Kind) (a b : ℕ) → a ≤ case.R → b ≤ case.R → F (guarded_in kind case sources l a b)
      unfolding guarded_in
      in_spelled Compute a b p q = own_expression_spelled a b p q
      in_spelled Store a b p q = own_expression_spelled a b p q
      in_spelled Load a b p q = name_spelled (value_of l.number) own_spelled l (operand_a l) a line.number p
      in_spelled Input a b p q = tt
      in_spelled Assert a b p q = own_truth_spelled a b p q
      in_spelled Assume a b p q = own_truth_spelled a b p q
      in_spelled Lock a b p q = (own_spelled, line.own.holding)
      in_spelled Unlock a b p q = (own_spelled, omega arith)

      old_target_spelled : (target : ℕ) → target ≤ case.R → F (old_target case sources l target)
      old_target_spelled target p = name_spelled (value_of l.number) own_spelled l (target_name case.G l) target line.number p

      out_spelled : (kind : Kind) (target : ℕ) → target ≤ case.R → F (guarded_out kind case sources l target)
      unfolding guarded_out
      out_spelled Compute target p = old_target_spelled target p
      out_spelled Store target p = old_target_spelled target p
      out_spelled Load target p = old_target_spelled target p
      out_spelled Input target p = old_target_spelled target p
      out_spelled Assert target p = (own_spelled, omega arith)
      out_spelled Assume target p = (own_spelled, omega arith)
      out_spelled Lock target p = old_target_spelled target p
      out_spelled Unlock target p = old_target_spelled target p

      line_spelled : (guard a b target : ℕ) → guard ≤ case.R → a ≤ case.R → b ≤ case.R → target ≤ case.R
          → F (line_assertion case sources l guard a b target)
      unfolding line_assertion
      line_spelled guard a b target g p q r =
          let inside = in_spelled l.kind a b p q in
          taken F (eqb l.guard 0) (guarded_in l.kind case sources l a b) _ (λ e. inside)
          (λ e. (guard_spelled l guard g, inside, out_spelled l.kind target r))

      pub value_assertion_spelled : (guard a b target : ℕ) → guard ≤ case.R → a ≤ case.R → b ≤ case.R → target ≤ case.R
          → F (value_assertion case sources l.number guard a b target)
      unfolding value_assertion
      value_assertion_spelled guard a b target g p q r =
          rw line.found (not_run_spelled l.number line.number, (own_spelled, unrun_small l.kind), line_spelled guard a b target g p q r)

      mutex_spelled : (n guard target : ℕ) → n < word_size → guard ≤ case.R → target ≤ case.R → F (mutex_reads case sources (constant n) l guard target)
      unfolding mutex_reads
      mutex_spelled n guard target small g p =
          let read = name_spelled (constant n) small l (target_name case.G l) target line.number p in
          taken F (eqb l.guard 0) (read_name case sources (constant n) l (target_name case.G l) target) _ (λ e. read)
          (λ e. (guard_spelled l guard g, read))

      demand_spelled : (kind : Kind) (guard target : ℕ) → guard ≤ case.R → target ≤ case.R
          → F (demand_assertion kind case sources l guard target)
      unfolding demand_assertion
      demand_spelled Compute guard target g p = tt
      demand_spelled Store guard target g p = tt
      demand_spelled Load guard target g p = tt
      demand_spelled Input guard target g p = tt
      demand_spelled Assert guard target g p = tt
      demand_spelled Assume guard target g p = (own_spelled, omega arith)
      demand_spelled Lock guard target g p = mutex_spelled 0 guard target (omega arith) g p
      demand_spelled Unlock guard target g p = tt

      pub demand_assertion_spelled : (guard target : ℕ) → guard ≤ case.R → target ≤ case.R
          → F (join disjunction (not_run case l.number) (demand_assertion (line_at case l.number).kind case sources (line_at case l.number) guard target))
      demand_assertion_spelled guard target g p =
          rw line.found (not_run_spelled l.number line.number, demand_spelled l.kind guard target g p)

      or_break_spelled : (kind : Kind) (earlier : List Line) (others : Formula) → copy_of case.G (guard_name l) earlier ≤ case.R
          → copy_of case.G (target_name case.G l) earlier ≤ case.R → F others → F (or_breaks kind case sources earlier l others)
      unfolding or_breaks unlocks_as_stranger
      or_break_spelled Compute earlier others g p rest = rest
      or_break_spelled Store earlier others g p rest = rest
      or_break_spelled Load earlier others g p rest = rest
      or_break_spelled Input earlier others g p rest = rest
      or_break_spelled Assert earlier others g p rest = ((own_spelled, omega arith), rest)
      or_break_spelled Assume earlier others g p rest = rest
      or_break_spelled Lock earlier others g p rest = rest
      or_break_spelled Unlock earlier others g p rest =
          ((not_run_spelled l.number line.number, mutex_spelled (holder l) _ _ line.own.holding g p), rest)

    -- ---- Constraints 6 and 7.
    pub walk_spelled : (i g : ℕ) (ls : List Line) → i < case.n → g < item_count case → AllLines (Spells case) ls
        → F (walk_back case sources i g ls)
    unfolding walk_back
    walk_spelled i g [] h k all = same_spelled (block_value case i g) (value_before case i g) (item_spelled i g h k) (before_spelled i g (omega arith) k)
    walk_spelled i g (l ∷ ls) h k all = go (walk_spelled i g ls h k all.1)
      where
        go : F (walk_back case sources i g ls) → F (walk_back case sources i g (l ∷ ls))
        go rest =
            taken F (eqb (target_name case.G l) (item_name g)) _ (walk_back case sources i g ls)
            (λ e. (
              (block_spelled l.number all.0.number, omega arith),
              same_spelled (block_value case i g) (value_of l.number) (item_spelled i g h k) (value_spelled l.number all.0.number),
              rest,
            ))
            (λ e. rest)

    some_break_spelled : (earlier ls : List Line) (others : Formula) → AllLines (Spells case) earlier → AllLines (Spells case) ls → F others
        → F (some_breaks case sources earlier ls others)
    unfolding some_breaks
    some_break_spelled earlier [] others before all rest = rest
    some_break_spelled earlier (l ∷ ls) others before all rest =
        or_break_spelled l all.0 l.kind earlier _ (copy_low case (guard_name l) earlier before) (copy_low case (target_name case.G l) earlier before)
        (some_break_spelled (l ∷ earlier) ls others (all.0, before) all.1 rest)

    pub goal_spelled : (threads : List (List Line)) → AllThreads (Spells case) threads → F (some_thread_breaks case sources threads)
    unfolding some_thread_breaks
    goal_spelled [] all = tt
    goal_spelled (ls ∷ threads) all = some_break_spelled [] ls _ tt all.0 (goal_spelled threads all.1)
