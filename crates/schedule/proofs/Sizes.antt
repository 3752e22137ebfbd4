-- Laws of the number of input lines: there are as many as input records; and of the loop that counts them.
-- Assumes nothing.
use mathlib.Core.Path.{◌≡◌, refl, sym, ◌∙◌}
use Prim.Native.Nat.{ℕ, ◌+◌, ◌≤◌, ◌<◌}
use mathlib.Core.Bool.{Bool, true, false, cond}
use mathlib.Core.List.{List, [], ◌∷◌}
use native.Mathlib.Omega.{arith}
use lib.ListN.{length, length-append}
use Rattle.model.specs.Word.{bit}
use Rattle.model.specs.Limits.{most_schedule_numbers}
use Rattle.model.specs.CaseFile.{Line, records, record_field, switch_count, kind_of, case_of, sum_of_lines, sum_of_threads}
use Rattle.model.specs.declared.Kind.{Kind}
use Rattle.model.specs.Line.{is_input}
use Rattle.model.specs.Schedule.{input_lines, all_input_lines, schedule_size}
use Rattle.laws.specs.Accepted.{Accepted}
use Rattle.laws.specs.Bounded.{Bounded}
use Rattle.laws.proofs.RecordSums.{lines_add_up, records_from, records_all, records_more, records_none}
use Rattle.laws.proofs.Sizes.{schedule_numbers}

-- 1 for an input record.
abbrev input_at : List ℕ → ℕ → ℕ
input_at bytes k = bit (is_input (kind_of (record_field bytes k 1)))

inputs_sum : (ls : List Line) → sum_of_lines (λ l. bit (is_input l.kind)) ls ≡ length (input_lines ls)
unfolding input_lines
inputs_sum [] = refl
inputs_sum (l ∷ ls) = go (is_input l.kind) (inputs_sum ls)
  where
    go : (q : Bool) → sum_of_lines (λ m. bit (is_input m.kind)) ls ≡ length (input_lines ls)
        → bit q + sum_of_lines (λ m. bit (is_input m.kind)) ls ≡ length (cond q (l ∷ input_lines ls) (input_lines ls))
    go true e = omega (arith, e)
    go false e = omega (arith, e)

all_inputs_sum : (threads : List (List Line)) → sum_of_threads (λ l. bit (is_input l.kind)) threads ≡ length (all_input_lines threads)
unfolding all_input_lines
all_inputs_sum [] = refl
all_inputs_sum (ls ∷ threads) = omega (arith, inputs_sum ls, all_inputs_sum threads, length-append (input_lines ls) (all_input_lines threads))

inputs_start : (bytes : List ℕ) → Accepted bytes → records_from bytes (input_at bytes) 1 ≡ length (all_input_lines (case_of bytes).threads)
inputs_start bytes ok =
    records_all bytes (input_at bytes)
    ∙ sym (lines_add_up (input_at bytes) bytes ok (λ l. bit (is_input l.kind)) (λ t k. refl))
    ∙ all_inputs_sum (case_of bytes).threads

-- The loop over the records, at record k: so many numbers are counted.
pub record Sizing (bytes : List ℕ) (k n : ℕ) : Type 0 where
  pub some : 0 < k
  pub left : n + records_from bytes (input_at bytes) k ≡ schedule_size (case_of bytes)

pub sizing_start : {bytes : List ℕ} {last : ℕ} → Accepted bytes → last ≡ switch_count bytes → Sizing bytes 1 (last + 1)
sizing_start {bytes} ok e = record { some = omega arith; left = omega (arith, inputs_start bytes ok) }

pub sizing_more : {bytes : List ℕ} {k n : ℕ} {kind : Kind} {m : ℕ} → Sizing bytes k n → k ≤ records bytes → kind ≡ kind_of (record_field bytes k 1) → m ≡ bit (is_input kind)
    → Sizing bytes (k + 1) (n + m)
sizing_more {bytes} {k} v high ek em = record { some = omega arith; left = rw (em, ek) (omega (arith, v.left, records_more bytes (input_at bytes) k high)) }

pub sizing_few : {bytes : List ℕ} {k n : ℕ} → Accepted bytes → Sizing bytes k n → n ≤ most_schedule_numbers
sizing_few {bytes} ok v = omega (arith, v.left, schedule_numbers bytes ok)

pub sizing_end : {bytes : List ℕ} {k n : ℕ} → Accepted bytes → Sizing bytes k n → records bytes < k → Bounded (schedule_size (case_of bytes)) most_schedule_numbers n
sizing_end {bytes} {k} ok v over = record { is = omega (arith, v.left, records_none bytes (input_at bytes) k over); most = sizing_few ok v }
