-- The filler's answer is told as the decoder's: how many numbers were written, or the refusal.
-- Assumes nothing. Met again in menduvo's call of the filler.
use Rattle.std.specs.Prelude.{◌≡◌, ℕ, Result, Ok, Err, refl}
use Rattle.model.specs.declared.Refusal.{Refusal}
use Rattle.model.specs.Answers.{decoded_numbers, filled_numbers}

pub filled_as_decoded : (r : Result ℕ Refusal) → decoded_numbers r ≡ filled_numbers r
filled_as_decoded (Ok numbers) = refl
filled_as_decoded (Err e) = refl
