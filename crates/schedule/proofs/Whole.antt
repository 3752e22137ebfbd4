-- The values and then the lengths before them are the whole schedule.
-- Assumes nothing. Met again in write_schedule.
use mathlib.Core.Path.{◌≡◌, ap, ap₂, ◌∙◌}
use Prim.Native.Nat.{ℕ, suc, ◌+◌, ◌≤◌}
use mathlib.Core.List.{List}
use native.Mathlib.Omega.{arith}
use lib.ListN.{length, length-append}
use Rattle.model.specs.Lists.{written_over}
use Rattle.model.specs.CaseFile.{switch_count, case_of}
use Rattle.model.specs.Assignment.{assignment_of}
use Rattle.model.specs.Schedule.{all_input_lines, counted_lengths, schedule_size, decode}
use Rattle.laws.specs.Accepted.{Accepted}
use Rattle.laws.specs.Written.{numbers_at}
use Rattle.laws.proofs.Ranges.{length_numbers_from}
use Rattle.laws.proofs.Schedules.{length_of_decoded}
use Rattle.laws.proofs.Writing.{numbers_before}
use Rattle.schedule.specs.Schedules.{schedule_of, values_of, AllWritten, lengths_in}
use Rattle.schedule.proofs.Counts.{lengths_counted}

pub length_values : (bytes xs : List ℕ) → length (values_of bytes xs) ≡ length (all_input_lines (case_of bytes).threads)
length_values bytes xs = length_of_decoded (case_of bytes) (assignment_of (case_of bytes) xs) (case_of bytes).threads

pub schedule_written : {bytes xs d a b : List ℕ} {counts : List (List ℕ)} {last : ℕ} → Accepted bytes → schedule_size (case_of bytes) ≤ length d
    → last ≡ switch_count bytes → AllWritten bytes xs d (last + 1) a counts → b ≡ numbers_at a 0 (lengths_in bytes counts) → b ≡ written_over (schedule_of bytes xs) d
unfolding decode
schedule_written {bytes} {xs} {d} {counts = counts} {last = last} ok room el written eb =
    eb
    ∙ ap₂ (λ (ys ls : List ℕ). numbers_at ys 0 ls) (written.values ∙ ap (λ (at : ℕ). numbers_at d at values) place)
    (lengths_counted bytes xs ok counts written.counts)
    ∙ numbers_before d lengths values (omega (arith, size, length-append lengths values, length_values bytes xs))
  where
    lengths : List ℕ
    lengths = counted_lengths (case_of bytes) (assignment_of (case_of bytes) xs)

    values : List ℕ
    values = values_of bytes xs

    size : length lengths ≡ suc (switch_count bytes)
    size = length_numbers_from _ 0 (suc (switch_count bytes))

    place : last + 1 ≡ length lengths
    place = omega (arith, el, size)
