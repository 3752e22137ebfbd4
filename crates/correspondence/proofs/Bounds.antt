-- Every number that a run, a filled assignment or a decoded schedule has is below 65,536.
-- Assumes nothing. Met again in Demand3, which speaks of 16-bit numbers only.
use mathlib.Core.Path.{◌≡◌}
use Prim.Native.Nat.{ℕ, zero, suc, ◌+◌, ◌-◌, ◌*◌, ◌%◌, ◌<◌}
use mathlib.Core.Bool.{Bool, true, false, cond, not, ◌&&◌}
use mathlib.Core.List.{List, [], ◌∷◌}
use native.Mathlib.Omega.{arith}
use native.Mathlib.Nat.{mod-lt}
use lib.Dec.{ltb, eqb}
use lib.Bits.{and_lt, or_lt}
use lib.ListN.{get_or, set, length, drop, replicate}
use lib.Seq.{sets}
use Rattle.laws.proofs.Below.{below_at, all_below_set, all_below_append, all_below_replicate, all_below_numbers_from}
use Rattle.model.specs.Word.{word_size, AllBelow, bit, nonzero}
use Rattle.model.specs.Limits.{local_count}
use Rattle.model.specs.CaseFile.{Line, Case, lines_of}
use Rattle.model.specs.declared.Kind.{Kind}
use Rattle.model.specs.declared.Kind.TheVariants.{Compute, Store, Load, Input, Assert, Assume, Lock, Unlock}
use Rattle.model.specs.Line.{operand_a, operand_b, target_name, Reads, guard_true, apply, expression, guarded_in_value, guarded_out_value, value_by, value_of, unrun_value, is_input}
use Rattle.model.specs.Assignment.{Assignment, variables, block_place, value_place, items_place, assignment_of, was_run}
use Rattle.model.specs.Copies.{reads_after}
use Rattle.model.specs.Machine.{Memory, State, look, put_local, put_item, reads_in, stepped, start, rest_in, memory_in}
use Rattle.model.specs.Schedule.{all_input_lines, block_lengths, input_values, value_given, given_in, counted_lengths, decoded_values, all_decoded_values, decode}
use Rattle.laws.specs.Order.{AllLines}
use Rattle.correspondence.specs.Meaning.{SmallLine, WellFormed}
use Rattle.model.specs.Runs.{block_steps, memory_after, end_memory, next_state, lines_left}
use Rattle.model.specs.Fill.{put_record, put_steps, put_blocks, put_unrun, put_all_unrun, fill}
use Rattle.laws.proofs.Schedules.{lines_in_block_few}
use Rattle.laws.proofs.AllLines.{all_dropped, each_after_set}
use Rattle.laws.proofs.Unrun.{unrun_small}
use Rattle.correspondence.proofs.Blocks.{turn}

-- A number of 16 bits; lists of such numbers; lists by number whose every list is such a one.
abbrev IsWord : ℕ → Type 0
IsWord x = x < word_size

abbrev Small : List ℕ → Type 0
Small xs = AllBelow word_size xs

abbrev EachSmall : List (List ℕ) → Type 0
EachSmall xss = (j : ℕ) → Small (get_or xss j [])

each_small_replicate : (many : ℕ) (xs : List ℕ) → Small xs → EachSmall (replicate many xs)
each_small_replicate zero xs h j = tt
each_small_replicate (suc many) xs h zero = h
each_small_replicate (suc many) xs h (suc j) = each_small_replicate many xs h j

-- What both have, the one that a test takes has.
either : {A : Type 0} (P : A → Type 0) (q : Bool) (x y : A) → P x → P y → P (cond q x y)
either P true x y h g = h
either P false x y h g = g

below_bit : (q : Bool) → bit q < word_size
below_bit true = omega arith
below_bit false = omega arith

-- The value of a line.
below_apply : (op x y : ℕ) → x < word_size → y < word_size → apply op x y < word_size
unfolding apply
below_apply op x y hx hy =
    either IsWord (eqb op 0) _ _ hx
    (either IsWord (eqb op 1) _ _ (mod-lt (x + y) (omega arith))
    (either IsWord (eqb op 2) _ _ (mod-lt (x + (word_size - y)) (omega arith))
    (either IsWord (eqb op 3) _ _ (and_lt 16 x y hx hy)
    (either IsWord (eqb op 4) _ _ (or_lt 16 x y hx hy)
    (either IsWord (eqb op 5) _ _ (below_bit (eqb x y))
    (either IsWord (eqb op 6) _ _ (below_bit (ltb x y)) (omega arith)))))))

record SmallReads (reads : Reads) : Type 0 where
  a : reads.a < word_size
  b : reads.b < word_size
  target : reads.target < word_size
  given : reads.given < word_size

below_expression : (l : Line) (reads : Reads) → l.c < word_size → SmallReads reads → expression l reads < word_size
unfolding expression
below_expression l reads c h = below_apply l.op _ _
    (either IsWord (eqb l.a local_count) l.c reads.a c h.a) (either IsWord (eqb l.b local_count) l.c reads.b c h.b)

below_guarded_in : (kind : Kind) (l : Line) (reads : Reads) → SmallLine l → SmallReads reads → guarded_in_value kind l reads < word_size
unfolding guarded_in_value
below_guarded_in Compute l reads own h = below_expression l reads own.constant h
below_guarded_in Store l reads own h = below_expression l reads own.constant h
below_guarded_in Load l reads own h = h.a
below_guarded_in Input l reads own h = h.given
below_guarded_in Assert l reads own h = below_bit (nonzero (expression l reads))
below_guarded_in Assume l reads own h = below_bit (nonzero (expression l reads))
below_guarded_in Lock l reads own h = own.holding
below_guarded_in Unlock l reads own h = omega arith

below_guarded_out : (kind : Kind) (reads : Reads) → SmallReads reads → guarded_out_value kind reads < word_size
unfolding guarded_out_value
below_guarded_out Compute reads h = h.target
below_guarded_out Store reads h = h.target
below_guarded_out Load reads h = h.target
below_guarded_out Input reads h = h.target
below_guarded_out Assert reads h = omega arith
below_guarded_out Assume reads h = omega arith
below_guarded_out Lock reads h = h.target
below_guarded_out Unlock reads h = h.target

below_value : (l : Line) (reads : Reads) → SmallLine l → SmallReads reads → value_of l reads < word_size
unfolding value_by
below_value l reads own h =
    either IsWord (guard_true l reads) _ _ (below_guarded_in l.kind l reads own h) (below_guarded_out l.kind reads h)

-- The machine.
record SmallMemory (m : Memory) : Type 0 where
  locals : Small m.locals
  items : Small m.items

below_look : (m : Memory) (name : ℕ) → SmallMemory m → look m name < word_size
unfolding look
below_look m name h =
    either IsWord (ltb name local_count) _ _ (below_at word_size m.locals (omega arith) h.locals name)
    (below_at word_size m.items (omega arith) h.items (name - local_count))

small_put_local : (on : Bool) (name x : ℕ) (xs : List ℕ) → Small xs → x < word_size → Small (put_local on name x xs)
unfolding put_local
small_put_local on name x xs h small = either Small (on && ltb name local_count) (set xs name x) xs (all_below_set word_size xs name x h small) h

small_put_item : (on : Bool) (name x : ℕ) (xs : List ℕ) → Small xs → x < word_size → Small (put_item on name x xs)
unfolding put_item
small_put_item on name x xs h small =
    either Small (on && not (ltb name local_count)) (set xs (name - local_count) x) xs (all_below_set word_size xs (name - local_count) x h small) h

abbrev SmallLines : List Line → Type 0
SmallLines ls = AllLines SmallLine ls

-- Numbers that are written.
small_record : (k block value : ℕ) (xs : List ℕ) → block < word_size → value < word_size → Small xs → Small (put_record k block value xs)
small_record k block value xs few small h =
    all_below_set word_size (set xs (block_place k) block) (value_place k) value (all_below_set word_size xs (block_place k) block h few) small

small_sets : (xs : List ℕ) (at : ℕ) (vs : List ℕ) → Small vs → Small xs → Small (sets xs at vs)
small_sets xs at [] small h = h
small_sets xs at (v ∷ vs) small h = small_sets (set xs at v) (suc at) vs small.1 (all_below_set word_size xs at v h small.0)

module _ (case : Case) (few : suc case.n < word_size) where
  small_unrun : (ls : List Line) (xs : List ℕ) → Small xs → Small (put_unrun case ls xs)
  small_unrun [] xs h = h
  small_unrun (l ∷ ls) xs h = small_unrun ls _ (small_record l.number (suc case.n) (unrun_value l.kind) xs few (unrun_small l.kind) h)

  small_all_unrun : (rests : List (List Line)) (xs : List ℕ) → Small xs → Small (put_all_unrun case rests xs)
  small_all_unrun [] xs h = h
  small_all_unrun (ls ∷ rests) xs h = small_all_unrun rests (put_unrun case ls xs) (small_unrun ls xs h)

record SmallState (s : State) : Type 0 where
  lines : (j : ℕ) → SmallLines (get_or s.rests j [])
  locals : EachSmall s.locals
  items : Small s.items

module _ (case : Case) (given : ℕ → ℕ) (small_given : (k : ℕ) → given k < word_size) where
  below_line : (l : Line) (m : Memory) → SmallLine l → SmallMemory m → value_of l (reads_in case given l m) < word_size
  below_line l m own h = below_value l (reads_in case given l m) own (record {
    a = below_look m (operand_a l) h;
    b = below_look m (operand_b l) h;
    target = below_look m (target_name case.G l) h;
    given = small_given l.number;
  })

  small_step : (l : Line) (m : Memory) → SmallLine l → SmallMemory m → SmallMemory (stepped case given l m)
  small_step l m own h = record {
    locals = small_put_local _ (target_name case.G l) _ m.locals h.locals (below_line l m own h);
    items = small_put_item _ (target_name case.G l) _ m.items h.items (below_line l m own h);
  }

  small_steps : (steps : ℕ) (ls : List Line) (m : Memory) → SmallLines ls → SmallMemory m → SmallMemory (memory_after case given steps ls m)
  small_steps zero ls m c h = h
  small_steps (suc steps) [] m c h = h
  small_steps (suc steps) (l ∷ ls) m c h = small_steps steps ls (stepped case given l m) c.1 (small_step l m c.0 h)

  small_block : (i steps : ℕ) (ls : List Line) (m : Memory) (xs : List ℕ) → i < word_size → SmallLines ls → SmallMemory m → Small xs
      → Small (put_steps case given (block_steps case given i steps ls m) xs)
  small_block i zero ls m xs few c h small = small
  small_block i (suc steps) [] m xs few c h small = small
  small_block i (suc steps) (l ∷ ls) m xs few c h small =
      small_block i steps ls (stepped case given l m) _ few c.1 (small_step l m c.0 h)
      (small_record l.number i (value_of l (reads_in case given l m)) xs few (below_line l m c.0 h) small)

  small_memory : (i : ℕ) (s : State) → SmallState s → SmallMemory (memory_in case i s)
  small_memory i s h = record { locals = h.locals (i % case.T); items = h.items }

  small_next : (i len : ℕ) (s : State) → SmallState s → SmallState (next_state case given i len s)
  small_next i len s h =
      let end = small_steps len (rest_in case i s) (memory_in case i s) (h.lines (i % case.T)) (small_memory i s h) in
      record {
        lines = each_after_set (λ j. SmallLines) [] s.rests (i % case.T) (drop len (rest_in case i s)) h.lines
            (all_dropped SmallLine len (rest_in case i s) (h.lines (i % case.T)));
        locals = each_after_set (λ j. Small) [] s.locals (i % case.T) (end_memory case given i len s).locals h.locals end.locals;
        items = end.items;
      }

  small_blocks : (i : ℕ) (lens : List ℕ) (s : State) (xs : List ℕ) → i + length lens < word_size → SmallState s → Small xs
      → Small (put_blocks case given i lens s xs)
  small_blocks i [] s xs few h small = small
  small_blocks i (len ∷ lens) s xs few h small =
      let next = small_next i len s h in
      let steps = small_block i len (rest_in case i s) (memory_in case i s) xs (omega arith) (h.lines (i % case.T)) (small_memory i s h) small in
      small_blocks (suc i) lens (next_state case given i len s) _ (omega arith) next
      (either Small (ltb i case.n) _ _ (small_sets _ (items_place case i) (next_state case given i len s).items next.items steps) steps)

below_given : (ls : List Line) (values : List ℕ) (k : ℕ) → Small values → value_given ls values k < word_size
unfolding value_given
below_given [] values k h = omega arith
below_given (l ∷ ls) [] k h = omega arith
below_given (l ∷ ls) (x ∷ values) k h = either IsWord (eqb l.number k) x (value_given ls values k) h.0 (below_given ls values k h.1)

-- Decoding.
module _ (case : Case) (wf : WellFormed case) where
  pub filled_below : (schedule : List ℕ) → AllBelow word_size (input_values case schedule) → length (block_lengths case schedule) ≡ suc case.n
      → AllBelow word_size (fill case schedule)
  unfolding fill
  filled_below schedule h all =
      let given = given_in case schedule in
      let lens = block_lengths case schedule in
      let begin : SmallState (start case) = record {
        lines = wf.small_lines_lem;
        locals = each_small_replicate case.T (replicate local_count 0) (all_below_replicate word_size local_count 0 (omega arith));
        items = wf.small_initial;
      } in
      small_all_unrun case (omega (arith, wf.few_blocks)) (lines_left case schedule) _
      (small_blocks case given (λ k. below_given (all_input_lines case.threads) (input_values case schedule) k h) 0 lens (start case)
      (replicate (variables case) 0) (omega (arith, all, wf.few_blocks)) begin (all_below_replicate word_size (variables case) 0 (omega arith)))

  module _ (α : Assignment) (small : (k : ℕ) → α.value k < word_size) where
    below_decoded : (earlier ls : List Line) → Small (decoded_values case α earlier ls)
    unfolding decoded_values
    below_decoded earlier [] = tt
    below_decoded earlier (l ∷ ls) =
        let rest = below_decoded (l ∷ earlier) ls in
        let own = either IsWord (was_run case (α.block l.number) && guard_true l (reads_after case α earlier l)) (α.value l.number) 0
        (small l.number) (omega arith) in
        either Small (is_input l.kind) _ _ (own, rest) rest

    below_all_decoded : (threads : List (List Line)) → Small (all_decoded_values case α threads)
    unfolding all_decoded_values
    below_all_decoded [] = tt
    below_all_decoded (ls ∷ threads) =
        all_below_append word_size (decoded_values case α [] ls) (all_decoded_values case α threads) (below_decoded [] ls) (below_all_decoded threads)

  pub decoded_below : ((t : ℕ) → t < case.T → length (lines_of case t) < word_size) → (α : Assignment) → ((k : ℕ) → α.value k < word_size)
      → AllBelow word_size (decode case α)
  unfolding decode
  decoded_below few α h =
      all_below_append word_size (counted_lengths case α) (all_decoded_values case α case.threads)
      (all_below_numbers_from word_size _ 0 (suc case.n)
      (λ i. omega (arith, lines_in_block_few α.block i (lines_of case (i % case.T)), few (i % case.T) (turn case wf i))))
      (below_all_decoded α h case.threads)

  -- The values of an assignment that is a list of such numbers.
  pub values_below : (xs : List ℕ) → AllBelow word_size xs → (k : ℕ) → (assignment_of case xs).value k < word_size
  unfolding assignment_of
  values_below xs h k = below_at word_size xs (omega arith) h (2 * (k - 1) + 1)
