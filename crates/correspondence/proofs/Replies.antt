-- What an answer of a call says of the tests before it, and the other way round: laws of the call-level definitions.
-- Assumes nothing. Met again in Demand3 and CaseA.
use Rattle.std.specs.Prelude.{Ok, Err}
use mathlib.Core.Path.{◌≡◌}
use Prim.Native.Nat.{ℕ, ◌≤◌, ◌<◌}
use mathlib.Core.Bool.{true}
use mathlib.Core.List.{List}
use native.Mathlib.Omega.{arith}
use lib.Dec.{leb, eqb}
use lib.ListN.{length}
use borrow.Author.Tests.{leb-true, le-leb, lt-leb, eqb-true, eq-eqb}
use Rattle.model.specs.Lists.{written_over}
use Rattle.model.specs.CaseFile.{case_of, item_count}
use Rattle.model.specs.Accept.{verdict}
use Rattle.model.specs.Assignment.{variables, assignment_of}
use Rattle.model.specs.Table.{table, numbers_of}
use Rattle.model.specs.Schedule.{schedule_size, block_lengths, lengths_fit, run_of, decode}
use Rattle.model.specs.Answers.{answer_of_run, failed_in, encoded, encoded_into, checked, decoded, decoded_into, replayed}
use Rattle.laws.proofs.OnCase.{on_accepted, past_unless, past_refusals}
use Rattle.model.specs.declared.Checked.TheVariants.{Meets}
use Rattle.correspondence.specs.Demand3.{NotRefused}
use Rattle.model.specs.declared.Refusal.TheVariants as refusals

-- What refusals 1 to 13 leave to a schedule that is answered.
pub record Fits (bytes schedule : List ℕ) (room : ℕ) : Type 0 where
  pub accepted : verdict bytes ≡ Ok tt
  pub has_room : item_count (case_of bytes) ≤ room
  pub has_size : length schedule ≡ schedule_size (case_of bytes)
  pub fit : lengths_fit (case_of bytes) (block_lengths (case_of bytes) schedule) ≡ true

pub fits_of_answered : (bytes schedule : List ℕ) (room : ℕ) → NotRefused (replayed bytes schedule room) → Fits bytes schedule room
unfolding replayed
fits_of_answered bytes schedule room taken =
    let case = past_refusals NotRefused (verdict bytes) _ _ (λ r t. t) taken in
    let items = past_unless NotRefused (leb (item_count (case_of bytes)) room) _ _ (λ t. t) case.later in
    let size = past_unless NotRefused (eqb (length schedule) (schedule_size (case_of bytes))) _ _ (λ t. t) items.later in
    let fit = past_unless NotRefused (lengths_fit (case_of bytes) (block_lengths (case_of bytes) schedule)) _ _ (λ t. t) size.later in
    record { accepted = case.here; has_room = leb-true _ _ items.here; has_size = eqb-true _ _ size.here; fit = fit.here }

pub replayed_fits : (bytes schedule : List ℕ) (room : ℕ) → Fits bytes schedule room
    → replayed bytes schedule room ≡ answer_of_run (run_of (case_of bytes) schedule)
unfolding replayed
replayed_fits bytes schedule room f = rw (on_accepted _ _ _ f.accepted, le-leb _ _ f.has_room, eq-eqb _ _ f.has_size, f.fit)

-- The checker's yes.
pub record PassesCheck (bytes xs : List ℕ) : Type 0 where
  pub accepted : verdict bytes ≡ Ok tt
  pub has_size : length xs ≡ variables (case_of bytes)
  pub none_failed : failed_in bytes xs ≡ 0

pub passes_of_meets : (bytes xs : List ℕ) → checked bytes xs ≡ Ok Meets → PassesCheck bytes xs
unfolding checked
passes_of_meets bytes xs e =
    let case = past_refusals (λ r. r ≡ Ok Meets) (verdict bytes) _ _ (λ r e'. let z : ◌≡◌ {A = ℕ} 0 1 = cc in omega arith) e in
    let size = past_unless (λ r. r ≡ Ok Meets) (eqb (length xs) (variables (case_of bytes))) _ _ (λ e'. let z : ◌≡◌ {A = ℕ} 0 1 = cc in omega arith) case.later in
    let none = past_unless (λ r. r ≡ Ok Meets) (eqb (failed_in bytes xs) 0) _ _ (λ e'. let z : ◌≡◌ {A = ℕ} 0 1 = cc in omega arith) size.later in
    record { accepted = case.here; has_size = eqb-true _ _ size.here; none_failed = eqb-true _ _ none.here }

pub meets_of_passes : (bytes xs : List ℕ) → PassesCheck bytes xs → checked bytes xs ≡ Ok Meets
unfolding checked
meets_of_passes bytes xs p = rw (on_accepted _ _ _ p.accepted, eq-eqb _ _ p.has_size, p.none_failed)

module _ (bytes : List ℕ) (accepted : verdict bytes ≡ Ok tt) where
  -- The encoder.
  pub encoded_with_room : (room : ℕ) → length (numbers_of (table (case_of bytes))) ≤ room
      → encoded bytes room ≡ Ok (record { constraints = length (table (case_of bytes)); variables = variables (case_of bytes) })
  unfolding encoded
  encoded_with_room room h = rw (on_accepted _ _ _ accepted, le-leb _ _ h)

  pub encoded_short : (room : ℕ) → room < length (numbers_of (table (case_of bytes))) → encoded bytes room ≡ Err refusals.Short
  unfolding encoded
  encoded_short room h = rw (on_accepted _ _ _ accepted, lt-leb _ _ h)

  pub encoded_into_lem : (slice : List ℕ) → length (numbers_of (table (case_of bytes))) ≤ length slice
      → encoded_into bytes slice ≡ written_over (numbers_of (table (case_of bytes))) slice
  unfolding encoded_into
  encoded_into_lem slice h = rw (encoded_with_room (length slice) h)

  -- The decoder on an assignment that passes the check.
  module _ (xs : List ℕ) (passes : PassesCheck bytes xs) where
    pub decoded_with_room : (room : ℕ) → schedule_size (case_of bytes) ≤ room → decoded bytes xs room ≡ Ok (schedule_size (case_of bytes))
    unfolding decoded
    decoded_with_room room h = rw (on_accepted _ _ _ accepted, le-leb _ _ h, eq-eqb _ _ passes.has_size, passes.none_failed)

    pub decoded_short : (room : ℕ) → room < schedule_size (case_of bytes) → decoded bytes xs room ≡ Err refusals.Short
    unfolding decoded
    decoded_short room h = rw (on_accepted _ _ _ accepted, lt-leb _ _ h)

    pub decoded_into_lem : (slice : List ℕ) → schedule_size (case_of bytes) ≤ length slice
        → decoded_into bytes xs slice ≡ written_over (decode (case_of bytes) (assignment_of (case_of bytes) xs)) slice
    unfolding decoded_into
    decoded_into_lem slice h = rw (decoded_with_room (length slice) h)

  -- The replayer.
  pub replayed_short : (schedule : List ℕ) (room : ℕ) → room < item_count (case_of bytes) → replayed bytes schedule room ≡ Err refusals.Short
  unfolding replayed
  replayed_short schedule room h = rw (on_accepted _ _ _ accepted, lt-leb _ _ h)
