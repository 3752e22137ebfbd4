-- What the constraints say of an assignment, as propositions by topic: values and demands of lines, block values; the order of
-- block numbers is laws' Order. That the rows of the table say just this is proofs/Rows.antt.
-- Assumes nothing.
use Rattle.std.specs.Prelude.{◌≡◌, ℕ, zero, suc, ◌+◌, ◌%◌, ◌≤◌, ◌<◌, Bool, true, cond, ◌&&◌, List, [], ◌∷◌, reverse, length}
use Rattle.model.specs.Word.{word_size, AllBelow, bit}
use Rattle.model.specs.Limits.{local_count}
use Rattle.model.specs.CaseFile.{Line, Case, lines_of, item_count, sum_of_threads, has_number}
use Rattle.model.specs.declared.Kind.{Kind}
use Rattle.model.specs.declared.Kind.TheVariants.{Compute, Store, Load, Input, Assert, Assume, Lock, Unlock}
use Rattle.model.specs.Line.{no_name, Reads, guard_true, holder, is_input}
use Rattle.model.specs.Assignment.{Assignment, was_run}
use Rattle.model.specs.Copies.{reads_after, walk_back}
use Rattle.model.specs.Holds.{breaks_after}
use Rattle.model.specs.Schedule.{lines_in_block}
use Rattle.laws.specs.RecordNumber.{RecordNumber}
use Rattle.laws.specs.Order.{AllLines, Positive, Ordered, Stays}
use Rattle.laws.specs.RowValue.{value_after}

-- The numbers that a line brings with it, its constant and its thread as holder, have 16 bits.
pub record SmallLine (l : Line) : Type 0 where
  pub constant : l.c < word_size
  pub holding : holder l < word_size

-- What the theorem needs of a case. That an accepted case has it is proofs/WellFormed.antt.
pub record WellFormed (case : Case) : Type 0 where
  pub some_thread : 0 < case.T
  pub thread_count_lem : length case.threads ≡ case.T
  pub item_count_lem : length case.initial ≡ item_count case
  pub few_items : local_count + item_count case ≤ no_name
  pub few_blocks : case.n + 2 ≤ word_size
  pub positive : (t : ℕ) → AllLines Positive (lines_of case t)
  pub once : (k : ℕ) → sum_of_threads (has_number k) case.threads ≤ 1
  pub known : (k : ℕ) → 0 < k → k ≤ case.R → 0 < sum_of_threads (has_number k) case.threads
  pub within : (k : ℕ) → 0 < sum_of_threads (has_number k) case.threads → RecordNumber case.R k
  pub small_lines_lem : (t : ℕ) → AllLines SmallLine (lines_of case t)
  pub small_initial : AllBelow word_size case.initial

-- Constraint 5: an assume's value is 1; a lock whose guard is true reads 0.
abbrev pub Demanded : Kind → Line → Reads → ℕ → Type 0
Demanded Compute l reads value = Unit
Demanded Store l reads value = Unit
Demanded Load l reads value = Unit
Demanded Input l reads value = Unit
Demanded Assert l reads value = Unit
Demanded Assume l reads value = value ≡ 1
Demanded Lock l reads value = guard_true l reads ≡ true → reads.target ≡ 0
Demanded Unlock l reads value = Unit

-- Constraints 4 and 5 of a line after these earlier lines, latest first; of a line that was not run "constraint 5 is met" (Two).
pub record LineMet (case : Case) (α : Assignment) (earlier : List Line) (l : Line) : Type 0 where
  pub value : α.value l.number ≡ value_after case α earlier l
  pub demand : was_run case (α.block l.number) ≡ true → Demanded l.kind l (reads_after case α earlier l) (α.value l.number)

abbrev pub LinesMet : Case → Assignment → List Line → List Line → Type 0
LinesMet case α earlier [] = Unit
LinesMet case α earlier (l ∷ ls) = LineMet case α earlier l × LinesMet case α (l ∷ earlier) ls

-- Constraint 6 of item g in block i.
abbrev pub BlockMet : Case → Assignment → ℕ → ℕ → Type 0
BlockMet case α i g = α.block_value i g ≡ walk_back case α i g (reverse (lines_of case (i % case.T)))

-- Constraints 1 to 6.
pub record Meets (case : Case) (α : Assignment) : Type 0 where
  pub order : (t : ℕ) → t < case.T → Ordered case α.block t 0 (lines_of case t)
  pub lines : (t : ℕ) → t < case.T → LinesMet case α [] (lines_of case t)
  pub blocks : (i : ℕ) → i < case.n → (g : ℕ) → g < item_count case → BlockMet case α i g

-- The 8s, which Five has put beside them.
abbrev pub AllStay : Case → Assignment → Type 0
AllStay case α = (t : ℕ) → t < case.T → Stays case α.block [] (lines_of case t)

-- Constraint 7 counts: how many of the lines that are asked about violate, of a thread after these earlier lines, and of all threads.
abbrev pub every_line : Line → Bool
every_line l = true

abbrev pub breaks_in : Case → Assignment → (Line → Bool) → List Line → List Line → ℕ
breaks_in case α asked earlier [] = 0
breaks_in case α asked earlier (l ∷ ls) = bit (asked l && breaks_after case α earlier l) + breaks_in case α asked (l ∷ earlier) ls

abbrev pub sum_below : (ℕ → ℕ) → ℕ → ℕ
sum_below f zero = 0
sum_below f (suc m) = f m + sum_below f m

abbrev pub break_count : Case → Assignment → (Line → Bool) → ℕ
break_count case α asked = sum_below (λ t. breaks_in case α asked [] (lines_of case t)) case.T

-- The value that decoding gives to an input line: its own where it was run and its guard is true, else 0.
abbrev pub InputGiven : Kind → Bool → ℕ → ℕ → Type 0
InputGiven kind own value given = is_input kind ≡ true → given ≡ cond own value 0

abbrev pub GivenTo : Case → Assignment → (ℕ → ℕ) → List Line → Line → Type 0
GivenTo case α given earlier l =
    InputGiven l.kind (was_run case (α.block l.number) && guard_true l (reads_after case α earlier l))
    (α.value l.number) (given l.number)

abbrev pub InputsGiven : Case → Assignment → (ℕ → ℕ) → List Line → List Line → Type 0
InputsGiven case α given earlier [] = Unit
InputsGiven case α given earlier (l ∷ ls) = GivenTo case α given earlier l × InputsGiven case α given (l ∷ earlier) ls

-- The block lengths from block i on are the numbers of lines counted.
abbrev pub Counted : Case → Assignment → ℕ → List ℕ → Type 0
Counted case α i [] = Unit
Counted case α i (len ∷ lens) = (len ≡ lines_in_block α.block i (lines_of case (i % case.T))) × Counted case α (suc i) lens

-- The assignment decodes to these block lengths and given values.
pub record DecodesTo (case : Case) (α : Assignment) (lens : List ℕ) (given : ℕ → ℕ) : Type 0 where
  pub all_blocks : length lens ≡ suc case.n
  pub lengths : Counted case α 0 lens
  pub inputs : (t : ℕ) → t < case.T → InputsGiven case α given [] (lines_of case t)
