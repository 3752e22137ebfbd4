-- The machine's step is document 01's, kind by kind, for lines that obey check 9: so for every line of an accepted case.
-- Assumes nothing. Met again in Demand3.
use mathlib.Core.Path.{◌≡◌, refl, sym, ◌∙◌}
use Prim.Native.Nat.{ℕ, zero, suc, ◌+◌, ◌-◌, ◌%◌, ◌≤◌, ◌<◌}
use mathlib.Core.Bool.{Bool, true, false, cond, not, ◌&&◌}
use mathlib.Core.List.{List, [], ◌∷◌, ◌++◌}
use native.Mathlib.Omega.{arith}
use borrow.Author.Tests.{leb-true, ltb-true, lt-ltb, le-ltb, ne_eqb}
use lib.Dec.{eqb, leb, ltb}
use lib.ListN.{get_or, length, drop}
use lib.Seq.{set_out}
use Rattle.model.specs.Word.{bit, nonzero}
use Rattle.model.specs.Limits.{local_count, most_globals, most_mutexes, highest_guard}
use Rattle.model.specs.CaseFile.{Line, Case, item_count, records, thread_count, line_of, case_of, lines_of}
use Rattle.model.specs.declared.Kind.{Kind}
use Rattle.model.specs.declared.Kind.TheVariants.{Compute, Store, Load, Input, Assert, Assume, Lock, Unlock}
use Rattle.model.specs.Accept.{expression_ok, kind_rule}
use Rattle.model.specs.Line.{no_name, local_name, item_name, guard_name, name_of_a, name_of_b, name_of_target, Reads, guard_true, apply, operand_value, expression, holder, guarded_in_value, guarded_out_value, value_by, stops, breaks, stray_input}
use Rattle.model.specs.Machine.{Memory, State, look, put_local, put_item, stepped, start, rest_in, memory_in}
use Rattle.model.specs.Schedule.{block_lengths, given_in}
use Rattle.model.specs.Runs.{Step, block_steps, memory_after, next_state, course}
use Rattle.laws.specs.Accepted.{Accepted}
use Rattle.laws.proofs.Views.{EqView, same, diff, eq_view, LtView, below, above, lt_view, LeView, within, beyond, le_view, and-true, and_false}
use Rattle.laws.proofs.Rules.{records_obey}
use Rattle.laws.specs.Order.{AllLines}
use Rattle.correspondence.specs.KindByKind.{local_in, global_in, local_gets, global_gets, guard_holds, operand_in, expression_in, done_by_kind, step_by_kind, ends_by_kind, noted_by_kind, refused_by_kind, DoneAsSaid, EachStep, StepsAsSaid}
use Rattle.correspondence.specs.Meaning.{WellFormed}
use Rattle.correspondence.proofs.WellFormed.{all_lines_by}
use Rattle.laws.proofs.AllLines.{all_dropped, each_after_set}
use Rattle.laws.proofs.Copies.{item_of_name}
use Rattle.laws.proofs.Memory.{put}
use Rattle.correspondence.proofs.Step.{length_put_item}

look_local : (m : Memory) (x : ℕ) → x < local_count → look m (local_name x) ≡ local_in m x
unfolding look local_name
look_local m x h = rw (lt-ltb x local_count h, lt-ltb x local_count h)

look_item : (m : Memory) (g : ℕ) → look m (item_name g) ≡ global_in m g
unfolding look
look_item m g = rw (le-ltb (local_count + g) local_count (omega arith), item_of_name g)

module _ (l : Line) (m : Memory) where
  guard_is : (reads : Reads) → l.guard ≤ highest_guard → reads.guard ≡ look m (guard_name l) → guard_true l reads ≡ guard_holds l m
  unfolding guard_true guard_name
  guard_is reads h e = go (eq_view l.guard 0) (le_view l.guard 16)
    where
      go : EqView l.guard 0 → LeView l.guard 16 → guard_true l reads ≡ guard_holds l m
      go (same z q) v = rw q
      go (diff z q) (within b r) =
          rw (q, r, e, q, lt-ltb l.guard 17 (omega arith), look_local m (l.guard - 1) (omega arith))
      go (diff z q) (beyond b r) =
          rw (q, r, e, q, le-ltb l.guard 17 b, look_local m (l.guard - 17) (omega arith))

operand_is : (m : Memory) (x c : ℕ) → x ≤ local_count → operand_value x c (look m (local_name x)) ≡ operand_in m c x
operand_is m x c h = go (lt_view x local_count)
  where
    go : LtView x local_count → operand_value x c (look m (local_name x)) ≡ operand_in m c x
    go (below b q) = rw (q, ne_eqb x local_count (λ e. omega arith), look_local m x b)
    go (above b q) = let e : x ≡ local_count = omega arith in rw e

module _ (l : Line) (m : Memory) where
  expression_is : (reads : Reads) → expression_ok l ≡ true → reads.a ≡ look m (local_name l.a)
      → reads.b ≡ look m (cond (nonzero l.op) (local_name l.b) no_name) → expression l reads ≡ expression_in l m
  unfolding expression apply
  expression_is reads rule ea eb = go (eq_view l.op 0)
    where
      small : (l.a ≤ local_count) × (l.b ≤ local_count)
      small =
          let one = and-true (leb l.op 6) _ rule in
          let two = and-true (leb l.a local_count) _ one.rest in
          let three = and-true (leb l.b local_count) _ two.rest in
          (leb-true l.a local_count two.first, leb-true l.b local_count three.first)

      go : EqView l.op 0 → expression l reads ≡ expression_in l m
      go (same z q) = rw (q, ea) (operand_is m l.a l.c small.0)
      go (diff z q) = rw (ea, eb, q, operand_is m l.a l.c small.0, operand_is m l.b l.c small.1)

-- A name that gets a value: a local, an item, or none.
put_local_lem : (x value : ℕ) (m : Memory) → x < local_count
    → put true (local_name x) value m ≡ local_gets x value m
unfolding put_local put_item local_name
put_local_lem x value m h = rw (lt-ltb x local_count h, lt-ltb x local_count h)

put_item_lem : (g value : ℕ) (m : Memory)
    → put true (item_name g) value m ≡ global_gets g value m
unfolding put_local put_item
put_item_lem g value m = rw (le-ltb (local_count + g) local_count (omega arith), item_of_name g)

put_nothing : (value : ℕ) (m : Memory) → length m.items ≤ most_globals + most_mutexes
    → put true no_name value m ≡ m
unfolding put_local put_item
put_nothing value m h = rw (set_out m.items (most_globals + most_mutexes) value h)

zero_and : (guard is_zero : Bool) → eqb (cond guard (bit (not is_zero)) 1) 0 ≡ (guard && is_zero)
zero_and true true = refl
zero_and true false = refl
zero_and false is_zero = refl

module _ (case : Case) (t : ℕ) (given : ℕ → ℕ) (l : Line) (own : l.thread ≡ t) (m : Memory) where
  -- the line's reads, with its kind apart
  abbrev reads_for : Kind → Reads
  reads_for kind = record {
    guard = look m (guard_name l);
    a = look m (name_of_a kind l.a);
    b = look m (name_of_b kind l.op l.b);
    target = look m (name_of_target case.G kind l.target);
    given = given l.number;
  }

  abbrev Rule : Kind → Type 0
  Rule kind = kind_rule kind case.G case.M l ≡ true

  local_target : (rest : Bool) → (ltb l.target local_count && rest) ≡ true → l.target < local_count
  local_target rest r = ltb-true l.target local_count (and-true (ltb l.target local_count) rest r).first

  done_is : (kind : Kind) → Rule kind → length m.items ≤ most_globals + most_mutexes
      → put true (name_of_target case.G kind l.target) (guarded_in_value kind l (reads_for kind)) m ≡ done_by_kind kind case t given l m
  unfolding kind_rule name_of_a name_of_b name_of_target guarded_in_value
  done_is Compute r h =
      rw (expression_is l m (reads_for Compute) (and-true (ltb l.target local_count) (expression_ok l) r).rest refl refl)
      (put_local_lem l.target (expression_in l m) m (local_target _ r))
  done_is Store r h =
      rw (expression_is l m (reads_for Store) (and-true (ltb l.target case.G) (expression_ok l) r).rest refl refl)
      (put_item_lem l.target (expression_in l m) m)
  done_is Load r h = rw (look_item m l.a) (put_local_lem l.target (global_in m l.a) m (local_target _ r))
  done_is Input r h = put_local_lem l.target (given l.number) m (local_target _ r)
  done_is Assert r h = put_nothing _ m h
  done_is Assume r h = put_nothing _ m h
  done_is Lock r h = rw (← own) (put_item_lem (case.G + l.target) (holder l) m)
  done_is Unlock r h = put_item_lem (case.G + l.target) 0 m

  module _ (small : l.guard ≤ highest_guard) where
    ends_is : (kind : Kind) → Rule kind → stops kind l (reads_for kind) ≡ (guard_holds l m && ends_by_kind kind case l m)
    unfolding kind_rule name_of_a name_of_b name_of_target stops
    ends_is Compute r = sym (and_false (guard_holds l m))
    ends_is Store r = sym (and_false (guard_holds l m))
    ends_is Load r = sym (and_false (guard_holds l m))
    ends_is Input r = sym (and_false (guard_holds l m))
    ends_is Assert r = sym (and_false (guard_holds l m))
    ends_is Assume r =
        rw (guard_is l m (reads_for Assume) small refl, expression_is l m (reads_for Assume) (and-true (eqb l.target 0) (expression_ok l) r).rest refl refl)
    ends_is Lock r = rw (guard_is l m (reads_for Lock) small refl, look_item m (case.G + l.target))
    ends_is Unlock r = sym (and_false (guard_holds l m))

    noted_is : (kind : Kind) → Rule kind
        → breaks true kind l (reads_for kind) (value_by kind l (reads_for kind)) ≡ (guard_holds l m && noted_by_kind kind case t l m)
    unfolding kind_rule name_of_a name_of_b name_of_target breaks value_by guarded_in_value guarded_out_value
    noted_is Compute r = sym (and_false (guard_holds l m))
    noted_is Store r = sym (and_false (guard_holds l m))
    noted_is Load r = sym (and_false (guard_holds l m))
    noted_is Input r = sym (and_false (guard_holds l m))
    noted_is Assert r =
        rw (guard_is l m (reads_for Assert) small refl, expression_is l m (reads_for Assert) (and-true (eqb l.target 0) (expression_ok l) r).rest refl refl)
        (zero_and (guard_holds l m) (eqb (expression_in l m) 0))
    noted_is Assume r = sym (and_false (guard_holds l m))
    noted_is Lock r = sym (and_false (guard_holds l m))
    noted_is Unlock r = rw (guard_is l m (reads_for Unlock) small refl, look_item m (case.G + l.target), ← own)

    refused_is : (kind : Kind) → stray_input kind l (reads_for kind) ≡ (not (guard_holds l m) && refused_by_kind kind given l)
    unfolding stray_input
    refused_is Compute = sym (and_false (not (guard_holds l m)))
    refused_is Store = sym (and_false (not (guard_holds l m)))
    refused_is Load = sym (and_false (not (guard_holds l m)))
    refused_is Input = rw (guard_is l m (reads_for Input) small refl)
    refused_is Assert = sym (and_false (not (guard_holds l m)))
    refused_is Assume = sym (and_false (not (guard_holds l m)))
    refused_is Lock = sym (and_false (not (guard_holds l m)))
    refused_is Unlock = sym (and_false (not (guard_holds l m)))

    step_is : Rule l.kind → length m.items ≤ most_globals + most_mutexes → stepped case given l m ≡ step_by_kind case t given l m
    unfolding value_by put_local put_item
    step_is r h = rw (guard_is l m (reads_for l.kind) small refl) (go (guard_holds l m))
      where
        kind : Kind
        kind = l.kind

        go : (on : Bool)
            → put on (name_of_target case.G kind l.target) (cond on (guarded_in_value kind l (reads_for kind)) (guarded_out_value kind (reads_for kind))) m
            ≡ cond on (done_by_kind kind case t given l m) m
        go true = done_is l.kind r h
        go false = refl

    pub line_is_done_as_said : Rule l.kind → length m.items ≤ most_globals + most_mutexes → DoneAsSaid case t given l m
    line_is_done_as_said r h = record { memory = step_is r h; end = ends_is l.kind r; note = noted_is l.kind r; refusal = refused_is l.kind }

-- The machine never has more or fewer items than at the start.
pub step_keeps_item_count : (case : Case) (given : ℕ → ℕ) (l : Line) (m : Memory) → length (stepped case given l m).items ≡ length m.items
step_keeps_item_count case given l m = length_put_item _ _ _ m.items

-- Every line of every thread of an accepted case, in a memory that has the case's items.
pub lines_are_done_as_said : (bytes : List ℕ) → Accepted bytes → (t : ℕ)
    → AllLines (λ l. (given : ℕ → ℕ) (m : Memory) → length m.items ≡ item_count (case_of bytes) → DoneAsSaid (case_of bytes) t given l m)
    (lines_of (case_of bytes) t)
lines_are_done_as_said bytes ok t = all_lines_by bytes ok _ t each
  where
    each : (k : ℕ) → t < thread_count bytes → 0 < k → k ≤ records bytes → (given : ℕ → ℕ) (m : Memory) → length m.items ≡ item_count (case_of bytes)
        → DoneAsSaid (case_of bytes) t given (line_of bytes t k) m
    each k thread low high given m h =
        let rule = records_obey bytes ok t k low high in
        line_is_done_as_said (case_of bytes) t given (line_of bytes t k) refl m rule.guard rule.kind_rule_lem (omega (arith, h, ok.few_globals, ok.few_mutexes))

-- ---- Along the steps of a run.
each_step_append : (P : Step → Type 0) (steps more : List Step) → EachStep P steps → EachStep P more → EachStep P (steps ++ more)
each_step_append P [] more all rest = rest
each_step_append P (s ∷ steps) more all rest = (all.0, each_step_append P steps more all.1 rest)

module _ (bytes : List ℕ) (given : ℕ → ℕ) where
  abbrev case : Case
  case = case_of bytes

  abbrev Whole : List ℕ → Type 0
  Whole items = length items ≡ item_count case

  abbrev Said : ℕ → Line → Type 0
  Said t l = (given : ℕ → ℕ) (m : Memory) → Whole m.items → DoneAsSaid case t given l m

  abbrev StepSaid : Step → Type 0
  StepSaid s = DoneAsSaid case (s.block % case.T) given s.line s.memory

  block_as_said : (i steps : ℕ) (ls : List Line) (m : Memory) → AllLines (Said (i % case.T)) ls → Whole m.items
      → EachStep StepSaid (block_steps case given i steps ls m)
  block_as_said i zero ls m all whole = tt
  block_as_said i (suc steps) [] m all whole = tt
  block_as_said i (suc steps) (l ∷ ls) m all whole =
      (all.0 given m whole, block_as_said i steps ls (stepped case given l m) all.1 (step_keeps_item_count case given l m ∙ whole))

  block_keeps_item_count : (steps : ℕ) (ls : List Line) (m : Memory) → Whole m.items → Whole (memory_after case given steps ls m).items
  block_keeps_item_count zero ls m whole = whole
  block_keeps_item_count (suc steps) [] m whole = whole
  block_keeps_item_count (suc steps) (l ∷ ls) m whole =
      block_keeps_item_count steps ls (stepped case given l m) (step_keeps_item_count case given l m ∙ whole)

  course_as_said : (i : ℕ) (lens : List ℕ) (s : State) → ((t : ℕ) → AllLines (Said t) (get_or s.rests t [])) → Whole s.items
      → EachStep StepSaid (course case given i lens s)
  course_as_said i [] s all whole = tt
  course_as_said i (len ∷ lens) s all whole =
      let t = i % case.T in
      let rest = rest_in case i s in
      let after = next_state case given i len s in
      each_step_append StepSaid (block_steps case given i len rest (memory_in case i s)) (course case given (suc i) lens after)
      (block_as_said i len rest (memory_in case i s) (all t) whole)
      (course_as_said (suc i) lens after
      (each_after_set (λ u. AllLines (Said u)) [] s.rests t (drop len rest) all (all_dropped (Said t) len rest (all t)))
      (block_keeps_item_count len rest (memory_in case i s) whole))

pub steps_as_said_lem : (bytes : List ℕ) → Accepted bytes → WellFormed (case_of bytes) → (schedule : List ℕ) → StepsAsSaid (case_of bytes) schedule
steps_as_said_lem bytes ok wf schedule =
    course_as_said bytes (given_in (case_of bytes) schedule) 0 (block_lengths (case_of bytes) schedule) (start (case_of bytes))
    (lines_are_done_as_said bytes ok) wf.item_count_lem
