-- What the spread values come to: as many as there are input lines, and each line's value where its record's number says.
-- Assumes nothing.
use mathlib.Core.Path.{◌≡◌, refl, sym, ap, ◌∙◌}
use Prim.Native.Nat.{ℕ, suc, ◌+◌, ◌≤◌, ◌<◌}
use mathlib.Core.Bool.{Bool, true, false, cond}
use mathlib.Core.List.{List, [], ◌∷◌, ◌++◌}
use native.Mathlib.Omega.{arith}
use lib.Dec.{eqb}
use lib.ListN.{get_or, set, length, drop, replicate, length-set, length-replicate, get_or-replicate, get_or-eq_default}
use lib.Seq.{get_or-set_same, get_or-set_other, drop-cons}
use borrow.Author.Tests.{eq-eqb}
use Rattle.model.specs.Limits.{record_places}
use Rattle.model.specs.CaseFile.{Line, case_of, sum_of_lines, sum_of_threads, has_number}
use Rattle.model.specs.Line.{is_input}
use Rattle.model.specs.Schedule.{input_lines, all_input_lines, value_given}
use Rattle.laws.specs.Accepted.{Accepted}
use Rattle.laws.proofs.Views.{EqView, same, diff, eq_view, LtView, below, above, lt_view}
use Rattle.laws.proofs.Lines.{numbers_within_lem, numbers_once}
use Rattle.schedule_check.specs.InputValues.{Inputs, put_next, put_lines, put_threads, no_inputs}

-- the next value goes to record k
abbrev put : List ℕ → ℕ → Inputs → Inputs
put schedule k f = record { given = set f.given k (get_or schedule f.used 0); used = f.used + 1 }

abbrev puts : List ℕ → List Line → Inputs → Inputs
puts schedule [] f = f
puts schedule (l ∷ ls) f = puts schedule ls (put schedule l.number f)

lines_put : (schedule : List ℕ) (ls : List Line) (f : Inputs) → put_lines schedule ls f ≡ puts schedule (input_lines ls) f
unfolding put_lines put_next input_lines
lines_put schedule [] f = refl
lines_put schedule (l ∷ ls) f = go (is_input l.kind) (λ g. lines_put schedule ls g)
  where
    go : (q : Bool) → ((g : Inputs) → put_lines schedule ls g ≡ puts schedule (input_lines ls) g)
        → put_lines schedule ls (cond q (put schedule l.number f) f) ≡ puts schedule (cond q (l ∷ input_lines ls) (input_lines ls)) f
    go true later = later (put schedule l.number f)
    go false later = later f

puts_append : (schedule : List ℕ) (xs ys : List Line) (f : Inputs) → puts schedule (xs ++ ys) f ≡ puts schedule ys (puts schedule xs f)
puts_append schedule [] ys f = refl
puts_append schedule (l ∷ xs) ys f = puts_append schedule xs ys (put schedule l.number f)

threads_put : (schedule : List ℕ) (threads : List (List Line)) (f : Inputs) → put_threads schedule threads f ≡ puts schedule (all_input_lines threads) f
unfolding put_threads all_input_lines
threads_put schedule [] f = refl
threads_put schedule (ls ∷ threads) f =
    threads_put schedule threads (put_lines schedule ls f) ∙ ap (puts schedule (all_input_lines threads)) (lines_put schedule ls f)
    ∙ sym (puts_append schedule (input_lines ls) (all_input_lines threads) f)

puts_used : (schedule : List ℕ) (ls : List Line) (f : Inputs) → (puts schedule ls f).used ≡ f.used + length ls
puts_used schedule [] f = omega arith
puts_used schedule (l ∷ ls) f = omega (arith, puts_used schedule ls (put schedule l.number f))

puts_places : (schedule : List ℕ) (ls : List Line) (f : Inputs) → length (puts schedule ls f).given ≡ length f.given
puts_places schedule [] f = refl
puts_places schedule (l ∷ ls) f =
    puts_places schedule ls (put schedule l.number f) ∙ length-set f.given l.number (get_or schedule f.used 0)

-- the value given to record k, or else the other
abbrev value_or : List Line → List ℕ → ℕ → ℕ → ℕ
value_or [] values k other = other
value_or (l ∷ ls) [] k other = other
value_or (l ∷ ls) (x ∷ values) k other = cond (eqb l.number k) x (value_or ls values k other)

value_or_none : (ls : List Line) (values : List ℕ) (k : ℕ) → value_or ls values k 0 ≡ value_given ls values k
unfolding value_given
value_or_none [] values k = refl
value_or_none (l ∷ ls) [] k = refl
value_or_none (l ∷ ls) (x ∷ values) k = ap (cond (eqb l.number k) x) (value_or_none ls values k)

-- a record that is no line has no value
value_of_none : (ls : List Line) (values : List ℕ) (k other : ℕ) → sum_of_lines (has_number k) ls ≡ 0 → value_or ls values k other ≡ other
value_of_none [] values k other h = refl
value_of_none (l ∷ ls) [] k other h = refl
value_of_none (l ∷ ls) (x ∷ values) k other h = go (eq_view l.number k) (value_of_none ls values k other)
  where
    go : EqView l.number k → (sum_of_lines (has_number k) ls ≡ 0 → value_or ls values k other ≡ other)
        → cond (eqb l.number k) x (value_or ls values k other) ≡ other
    go (same e q) later = absurd (omega (arith, rw q at h))
    go (diff e q) later = rw q (later (omega (arith, rw q at h)))

-- every record number has a place
abbrev AllSmall : List Line → Type 0
AllSmall [] = Unit
AllSmall (l ∷ ls) = (l.number < record_places) × AllSmall ls

puts_value : (schedule : List ℕ) (ls : List Line) (f : Inputs) (k : ℕ) → length f.given ≡ record_places → f.used + length ls ≤ length schedule
    → AllSmall ls → sum_of_lines (has_number k) ls ≤ 1
    → get_or (puts schedule ls f).given k 0 ≡ value_or ls (drop f.used schedule) k (get_or f.given k 0)
puts_value schedule [] f k places enough small once = refl
puts_value schedule (l ∷ ls) f k places enough small once =
    rw (drop-cons schedule f.used 0 (omega arith))
    (puts_value schedule ls (put schedule l.number f) k (length-set f.given l.number v ∙ places) (omega arith) small.1 (omega (arith, once))
    ∙ rw (← next) (go (eq_view l.number k)))
  where
    v : ℕ
    v = get_or schedule f.used 0

    next : suc f.used ≡ f.used + 1
    next = omega arith

    go : EqView l.number k
        → value_or ls (drop (suc f.used) schedule) k (get_or (set f.given l.number v) k 0)
        ≡ cond (eqb l.number k) v (value_or ls (drop (suc f.used) schedule) k (get_or f.given k 0))
    go (same e q) =
        rw q (value_of_none ls (drop (suc f.used) schedule) k (get_or (set f.given l.number v) k 0) (omega (arith, rw q at once))
        ∙ ap (λ (x : ℕ). get_or (set f.given x v) k 0) e ∙ get_or-set_same f.given k v 0 (omega (arith, places, small.0, e)))
    go (diff e q) =
        rw q (ap (value_or ls (drop (suc f.used) schedule) k) (get_or-set_other f.given l.number k v 0 (λ p. e (sym p))))

-- the input lines are among the lines
inputs_among : (weight : Line → ℕ) (ls : List Line) → sum_of_lines weight (input_lines ls) ≤ sum_of_lines weight ls
unfolding input_lines
inputs_among weight [] = omega arith
inputs_among weight (l ∷ ls) = go (is_input l.kind) (inputs_among weight ls)
  where
    go : (q : Bool) → sum_of_lines weight (input_lines ls) ≤ sum_of_lines weight ls
        → sum_of_lines weight (cond q (l ∷ input_lines ls) (input_lines ls)) ≤ weight l + sum_of_lines weight ls
    go true h = omega arith
    go false h = omega arith

sum_append : (weight : Line → ℕ) (xs ys : List Line) → sum_of_lines weight (xs ++ ys) ≡ sum_of_lines weight xs + sum_of_lines weight ys
sum_append weight [] ys = omega arith
sum_append weight (l ∷ xs) ys = omega (arith, sum_append weight xs ys)

all_inputs_among : (weight : Line → ℕ) (threads : List (List Line)) → sum_of_lines weight (all_input_lines threads) ≤ sum_of_threads weight threads
unfolding all_input_lines
all_inputs_among weight [] = omega arith
all_inputs_among weight (ls ∷ threads) =
    omega (arith, sum_append weight (input_lines ls) (all_input_lines threads), inputs_among weight ls, all_inputs_among weight threads)

small_numbers : (ls : List Line) → ((k : ℕ) → 0 < sum_of_lines (has_number k) ls → k < record_places) → AllSmall ls
small_numbers [] h = tt
small_numbers (l ∷ ls) h =
    (h l.number (rw (eq-eqb l.number l.number refl) (omega arith)), small_numbers ls (λ k found. h k (omega (arith, found))))

no_value : (k : ℕ) → get_or {A = ℕ} (replicate record_places 0) k 0 ≡ 0
no_value k = go (lt_view k record_places)
  where
    go : LtView k record_places → get_or {A = ℕ} (replicate record_places 0) k 0 ≡ 0
    go (below h q) = get_or-replicate record_places k 0 0 h
    go (above h q) = get_or-eq_default (replicate record_places 0) 0 {n = k} (omega (arith, h, length-replicate {A = ℕ} record_places 0))

module _ (bytes schedule : List ℕ) (lengths : ℕ) where
  abbrev lines : List Line
  lines = all_input_lines (case_of bytes).threads

  abbrev spread : Inputs
  spread = put_threads schedule (case_of bytes).threads (no_inputs lengths)

  pub used_is : spread.used ≡ lengths + length lines
  used_is = ap (λ (x : Inputs). x.used) (threads_put schedule (case_of bytes).threads (no_inputs lengths)) ∙ puts_used schedule lines (no_inputs lengths)

  pub places_are : length spread.given ≡ record_places
  places_are =
      ap (λ (x : Inputs). length x.given) (threads_put schedule (case_of bytes).threads (no_inputs lengths))
      ∙ puts_places schedule lines (no_inputs lengths) ∙ length-replicate {A = ℕ} record_places 0

  pub value_is : Accepted bytes → length schedule ≡ lengths + length lines → (k : ℕ)
      → get_or spread.given k 0 ≡ value_given lines (drop lengths schedule) k
  value_is ok enough k =
      let among : (j : ℕ) → sum_of_lines (has_number j) lines ≤ sum_of_threads (has_number j) (case_of bytes).threads =
      λ j. all_inputs_among (has_number j) (case_of bytes).threads in
      ap (λ (x : Inputs). get_or x.given k 0) (threads_put schedule (case_of bytes).threads (no_inputs lengths))
      ∙ puts_value schedule lines (no_inputs lengths) k (length-replicate {A = ℕ} record_places 0) (omega arith)
      (small_numbers lines (λ j found. omega (arith, ok.few_records, (numbers_within_lem bytes ok j (omega (arith, found, among j))).low)))
      (omega (arith, numbers_once bytes ok k, among k))
      ∙ ap (value_or lines (drop lengths schedule) k) (no_value k)
      ∙ value_or_none lines (drop lengths schedule) k
