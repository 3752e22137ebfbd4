-- Schedules as lists: the values that decoding writes are those that the input lines are given, and no others are; the same
-- for the block lengths.
-- Assumes nothing. Met again in Claims, where an assignment is decoded.
use mathlib.Core.Path.{◌≡◌, refl, sym, ap, ap₂, ◌∙◌}
use Prim.Native.Nat.{ℕ, zero, suc, ◌+◌, ◌%◌, ◌≤◌, ◌<◌}
use mathlib.Core.Bool.{Bool, true, false, cond, ◌&&◌, true≢false}
use mathlib.Core.List.{List, [], ◌∷◌, ◌++◌}
use native.Mathlib.Omega.{arith}
use native.Mathlib.Nat.{le_refl, zero-add}
use lib.ListN.{get_or, length}
use borrow.Author.Tests.{eq-eqb}
use Rattle.laws.proofs.Views.{EqView, same, diff, eq_view}
use Rattle.laws.proofs.Ranges.{length_numbers_from}
use Rattle.laws.proofs.Counting.{own_number_counts}
use Rattle.model.specs.Lists.{numbers_from}
use Rattle.model.specs.CaseFile.{Line, Case, lines_of, sum_of_lines, sum_of_threads, has_number}
use Rattle.model.specs.Line.{is_input, guard_true}
use Rattle.model.specs.Assignment.{Assignment, was_run}
use Rattle.model.specs.Copies.{reads_after}
use Rattle.model.specs.Schedule.{input_lines, all_input_lines, value_given, lines_in_block, counted_lengths, decoded_values, all_decoded_values}
use Rattle.correspondence.specs.Meaning.{WellFormed, InputsGiven, Counted}

-- Each of these lines is given its value of the list.
abbrev GivenBy : (ℕ → ℕ) → List Line → List ℕ → Type 0
GivenBy given [] values = Unit
GivenBy given (l ∷ ls) [] = Unit
GivenBy given (l ∷ ls) (x ∷ values) = (given l.number ≡ x) × GivenBy given ls values

-- No record number occurs twice among the input lines.
sum_of_append : (weight : Line → ℕ) (ls ms : List Line) → sum_of_lines weight (ls ++ ms) ≡ sum_of_lines weight ls + sum_of_lines weight ms
sum_of_append weight [] ms = sym (zero-add (sum_of_lines weight ms))
sum_of_append weight (l ∷ ls) ms = omega (arith, sum_of_append weight ls ms)

sum_of_inputs : (weight : Line → ℕ) (ls : List Line) → sum_of_lines weight (input_lines ls) ≤ sum_of_lines weight ls
unfolding input_lines
sum_of_inputs weight [] = le_refl 0
sum_of_inputs weight (l ∷ ls) = go (is_input l.kind) (sum_of_inputs weight ls)
  where
    go : (q : Bool) → sum_of_lines weight (input_lines ls) ≤ sum_of_lines weight ls
        → sum_of_lines weight (cond q (l ∷ input_lines ls) (input_lines ls)) ≤ weight l + sum_of_lines weight ls
    go true h = omega arith
    go false h = omega arith

sum_of_all_inputs : (weight : Line → ℕ) (threads : List (List Line)) → sum_of_lines weight (all_input_lines threads) ≤ sum_of_threads weight threads
unfolding all_input_lines
sum_of_all_inputs weight [] = le_refl 0
sum_of_all_inputs weight (ls ∷ threads) =
    omega (arith, sum_of_append weight (input_lines ls) (all_input_lines threads), sum_of_inputs weight ls, sum_of_all_inputs weight threads)

-- So each has its own value.
given_same : (given given' : ℕ → ℕ) (ls : List Line) (values : List ℕ) → ((k : ℕ) → 0 < sum_of_lines (has_number k) ls → given' k ≡ given k)
    → GivenBy given ls values → GivenBy given' ls values
given_same given given' [] values e h = tt
given_same given given' (l ∷ ls) [] e h = tt
given_same given given' (l ∷ ls) (x ∷ values) e h =
    (e l.number (omega (arith, own_number_counts l)) ∙ h.0, given_same given given' ls values (λ k some. e k (omega (arith, some))) h.1)

given_by_values : (ls : List Line) (values : List ℕ) → ((k : ℕ) → sum_of_lines (has_number k) ls ≤ 1) → GivenBy (value_given ls values) ls values
unfolding value_given
given_by_values [] values once = tt
given_by_values (l ∷ ls) [] once = tt
given_by_values (l ∷ ls) (x ∷ values) once = (
  rw (eq-eqb l.number l.number refl),
  given_same (value_given ls values) (value_given (l ∷ ls) (x ∷ values)) ls values past (given_by_values ls values (λ k. omega (arith, once k))),
)
  where
    past : (k : ℕ) → 0 < sum_of_lines (has_number k) ls → value_given (l ∷ ls) (x ∷ values) k ≡ value_given ls values k
    past k some = go (eq_view l.number k)
      where
        go : EqView l.number k → value_given (l ∷ ls) (x ∷ values) k ≡ value_given ls values k
        go (same e q) = absurd (omega (arith, some, rw q at (once k)))
        go (diff e q) = rw q

append_of_cond : {A : Type 0} (q : Bool) (x : A) (xs ys : List A) → cond q (x ∷ xs) xs ++ ys ≡ cond q (x ∷ (xs ++ ys)) (xs ++ ys)
append_of_cond true x xs ys = refl
append_of_cond false x xs ys = refl

join_of_cond : {A : Type 0} (q : Bool) (x : A) (values later xs rest : List A) → values ≡ cond q (x ∷ later) later → later ≡ xs ++ rest
    → values ≡ cond q (x ∷ xs) xs ++ rest
join_of_cond true x values later xs rest e h = e ∙ ap (λ z. x ∷ z) h
join_of_cond false x values later xs rest e h = e ∙ h

module _ (case : Case) (α : Assignment) where
  -- the value that decoding writes for an input line
  abbrev decoded_value : List Line → Line → ℕ
  decoded_value earlier l = cond (was_run case (α.block l.number) && guard_true l (reads_after case α earlier l)) (α.value l.number) 0

  module _ (given : ℕ → ℕ) where
    given_line : (q : Bool) (l : Line) (ls : List Line) (x : ℕ) (values : List ℕ) → GivenBy given (cond q (l ∷ ls) ls) (cond q (x ∷ values) values)
        → (q ≡ true → given l.number ≡ x) × GivenBy given ls values
    given_line true l ls x values h = (λ e. h.0, h.1)
    given_line false l ls x values h = (λ e. absurd (true≢false (sym e)), h)

    given_thread : (earlier ls more : List Line) (values : List ℕ) → GivenBy given (input_lines ls ++ more) (decoded_values case α earlier ls ++ values)
        → InputsGiven case α given earlier ls × GivenBy given more values
    unfolding input_lines decoded_values
    given_thread earlier [] more values h = (tt, h)
    given_thread earlier (l ∷ ls) more values h =
        let line = given_line (is_input l.kind) l (input_lines ls ++ more) (decoded_value earlier l) (decoded_values case α (l ∷ earlier) ls ++ values)
        (rw (
          append_of_cond (is_input l.kind) l (input_lines ls) more,
          append_of_cond (is_input l.kind) (decoded_value earlier l) (decoded_values case α (l ∷ earlier) ls) values,
        ) at h) in
        let rest = given_thread (l ∷ earlier) ls more values line.1 in
        ((line.0, rest.0), rest.1)

    given_threads : (threads : List (List Line)) → GivenBy given (all_input_lines threads) (all_decoded_values case α threads)
        → (t : ℕ) → InputsGiven case α given [] (get_or threads t [])
    unfolding all_input_lines all_decoded_values
    given_threads [] h t = tt
    given_threads (ls ∷ threads) h zero = (given_thread [] ls (all_input_lines threads) (all_decoded_values case α threads) h).0
    given_threads (ls ∷ threads) h (suc t) = given_threads threads (given_thread [] ls (all_input_lines threads) (all_decoded_values case α threads) h).1 t

    -- the values left for these lines
    abbrev Left : List Line → List ℕ → Type 0
    Left ls values = GivenBy given ls values × (length values ≡ length ls)

    only_line : (q : Bool) (l : Line) (ls : List Line) (x : ℕ) (values : List ℕ) → (q ≡ true → given l.number ≡ x) → Left (cond q (l ∷ ls) ls) values
        → (rest : List ℕ) × (values ≡ cond q (x ∷ rest) rest) × Left ls rest
    only_line true l ls x [] i h = absurd (omega (arith, h.1))
    only_line true l ls x (y ∷ values) i h = (values, ap (λ (z : ℕ). z ∷ values) (sym h.0.0 ∙ i refl), (h.0.1, omega (arith, h.1)))
    only_line false l ls x values i h = (values, refl, h)

    only_thread : (earlier ls more : List Line) (values : List ℕ) → InputsGiven case α given earlier ls → Left (input_lines ls ++ more) values
        → (rest : List ℕ) × (values ≡ decoded_values case α earlier ls ++ rest) × Left more rest
    unfolding input_lines decoded_values
    only_thread earlier [] more values i h = (values, refl, h)
    only_thread earlier (l ∷ ls) more values i h =
        let one = only_line (is_input l.kind) l (input_lines ls ++ more) (decoded_value earlier l) values i.0
        (rw (append_of_cond (is_input l.kind) l (input_lines ls) more) at h) in
        let next = only_thread (l ∷ earlier) ls more one.0 i.1 one.2 in (
          next.0,
          join_of_cond (is_input l.kind) (decoded_value earlier l) values one.0 (decoded_values case α (l ∷ earlier) ls) next.0 one.1 next.1,
          next.2,
        )

    only_threads : (threads : List (List Line)) (values : List ℕ) → ((t : ℕ) → t < length threads → InputsGiven case α given [] (get_or threads t []))
        → Left (all_input_lines threads) values → values ≡ all_decoded_values case α threads
    unfolding all_input_lines all_decoded_values
    only_threads [] [] i h = refl
    only_threads [] (x ∷ values) i h = absurd (omega (arith, h.1))
    only_threads (ls ∷ threads) values i h =
        let one = only_thread [] ls (all_input_lines threads) values (i 0 (omega arith)) h in
        one.1 ∙ ap (λ (z : List ℕ). decoded_values case α [] ls ++ z) (only_threads threads one.0 (λ t few. i (suc t) (omega arith)) one.2)

  -- Block lengths.
  abbrev count_in : ℕ → ℕ
  count_in i = lines_in_block α.block i (lines_of case (i % case.T))

  counted_from : (i many : ℕ) → Counted case α i (numbers_from count_in i many)
  unfolding numbers_from
  counted_from i zero = tt
  counted_from i (suc many) = (refl, counted_from (suc i) many)

  only_counted_from : (i many : ℕ) (lens : List ℕ) → length lens ≡ many → Counted case α i lens → lens ≡ numbers_from count_in i many
  unfolding numbers_from
  only_counted_from i zero [] h c = refl
  only_counted_from i (suc many) [] h c = absurd (omega arith)
  only_counted_from i zero (len ∷ lens) h c = absurd (omega arith)
  only_counted_from i (suc many) (len ∷ lens) h c =
      ap₂ (λ (x : ℕ) (xs : List ℕ). x ∷ xs) c.0 (only_counted_from (suc i) many lens (omega arith) c.1)

  pub counted_lengths_lem : Counted case α 0 (counted_lengths case α)
  counted_lengths_lem = counted_from 0 (suc case.n)

  pub only_counted : (lens : List ℕ) → length lens ≡ suc case.n → Counted case α 0 lens → lens ≡ counted_lengths case α
  only_counted lens h c = only_counted_from 0 (suc case.n) lens h c

  pub length_of_counted : length (counted_lengths case α) ≡ suc case.n
  length_of_counted = length_numbers_from count_in 0 (suc case.n)

module _ (case : Case) (wf : WellFormed case) where
  given_by_schedule : (values : List ℕ) → GivenBy (value_given (all_input_lines case.threads) values) (all_input_lines case.threads) values
  given_by_schedule values =
      given_by_values (all_input_lines case.threads) values (λ k. omega (arith, wf.once k, sum_of_all_inputs (has_number k) case.threads))

  pub inputs_of_decoded : (α : Assignment) (t : ℕ)
      → InputsGiven case α (value_given (all_input_lines case.threads) (all_decoded_values case α case.threads)) [] (lines_of case t)
  inputs_of_decoded α t = given_threads case α _ case.threads (given_by_schedule (all_decoded_values case α case.threads)) t

  pub decoded_of_inputs : (α : Assignment) (values : List ℕ)
      → ((t : ℕ) → t < case.T → InputsGiven case α (value_given (all_input_lines case.threads) values) [] (lines_of case t))
      → length values ≡ length (all_input_lines case.threads) → values ≡ all_decoded_values case α case.threads
  decoded_of_inputs α values i h =
      only_threads case α _ case.threads values (λ t few. i t (omega (arith, wf.thread_count_lem))) (given_by_schedule values, h)
