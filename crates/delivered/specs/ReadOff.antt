-- What C and Rust get is an answer's numbers: they tell the answers apart, so demand 3 can be read off them.
-- It is proved in proofs/ReadOff.antt.
-- Assumes nothing.
use Rattle.std.specs.Prelude.{◌≡◌, ◌↔◌, ◌≢◌, ℕ, ◌≤◌, List, Result, Ok, Err}
use Rattle.model.specs.Word.{word_size, AllBelow}
use Rattle.model.specs.declared.Refusal.{Refusal}
use Rattle.model.specs.Refusals.{Verdict, refusal_number, refusal_place}
use Rattle.model.specs.Answers.{refused_numbers, answer_numbers, verdict_numbers, encoded_numbers, checked_numbers, decoded_numbers, replayed_numbers, filled_numbers, checked, replayed}
use Rattle.model.specs.Listing.{listed_numbers}
use Rattle.model.specs.declared.TableSize.{TableSize}
use Rattle.model.specs.declared.Checked.{Checked}
use Rattle.model.specs.declared.Checked.TheVariants as checkeds
use Rattle.model.specs.declared.Replayed.{Replayed}
use Rattle.model.specs.declared.Replayed.TheVariants as replayeds
use Rattle.model.specs.Taking.{taken_numbers}
use Rattle.model.specs.declared.Copies.{Copies}
use Rattle.script.specs.Text.{spelled_numbers}
use Rattle.correspondence.specs.Numbered.{Numbered, RefusalsNumbered}
use Rattle.correspondence.specs.Demand3.{item_room}

-- An answer is a refusal with this number and this place.
abbrev pub RefusedWith : {A : Type 0} → ℕ → ℕ → Result A Refusal → Type 0
RefusedWith number place (Ok answer) = ⊥
RefusedWith number place (Err e) = Numbered e number place

-- Each answer of each call has numbers of its own, and number and place are a refusal's own.
pub record AnswersToldApart : Type 0 where
  pub numbered : RefusalsNumbered
  pub refusals : (e f : Refusal) → refusal_number e ≡ refusal_number f → refusal_place e ≡ refusal_place f → e ≡ f
  pub accepted : (r : Verdict) → (verdict_numbers r ≡ answer_numbers 1 0 0) ↔ (r ≡ Ok tt)
  pub not_accepted : (r : Verdict) (number place : ℕ) → (verdict_numbers r ≡ refused_numbers number place) ↔ RefusedWith number place r
  pub table : (r : Result TableSize Refusal) (constraints variables : ℕ)
      → (encoded_numbers r ≡ answer_numbers 1 constraints variables) ↔ (r ≡ Ok (record { constraints = constraints; variables = variables }))
  pub not_encoded : (r : Result TableSize Refusal) (number place : ℕ) → (encoded_numbers r ≡ refused_numbers number place) ↔ RefusedWith number place r
  pub meets : (r : Result Checked Refusal) → (checked_numbers r ≡ answer_numbers 1 0 0) ↔ (r ≡ Ok checkeds.Meets)
  pub fails : (r : Result Checked Refusal) (constraint : ℕ) → (checked_numbers r ≡ answer_numbers 2 constraint 0) ↔ (r ≡ Ok (checkeds.Fails constraint))
  pub not_checked : (r : Result Checked Refusal) (number place : ℕ) → (checked_numbers r ≡ refused_numbers number place) ↔ RefusedWith number place r
  pub schedule : (r : Result ℕ Refusal) (numbers : ℕ) → (decoded_numbers r ≡ answer_numbers 1 numbers 0) ↔ (r ≡ Ok numbers)
  pub not_decoded : (r : Result ℕ Refusal) (number place : ℕ) → (decoded_numbers r ≡ refused_numbers number place) ↔ RefusedWith number place r
  pub violated : (r : Result Replayed Refusal) (k : ℕ) → (replayed_numbers r ≡ answer_numbers 1 k 0) ↔ (r ≡ Ok (replayeds.Violated k))
  pub clean : (r : Result Replayed Refusal) → (replayed_numbers r ≡ answer_numbers 2 0 0) ↔ (r ≡ Ok replayeds.Clean)
  pub cut_off : (r : Result Replayed Refusal) (k : ℕ) → (replayed_numbers r ≡ answer_numbers 3 k 0) ↔ (r ≡ Ok (replayeds.CutOff k))
  pub not_replayed : (r : Result Replayed Refusal) (number place : ℕ) → (replayed_numbers r ≡ refused_numbers number place) ↔ RefusedWith number place r
  pub assignment : (r : Result ℕ Refusal) (numbers : ℕ) → (filled_numbers r ≡ answer_numbers 1 numbers 0) ↔ (r ≡ Ok numbers)
  pub not_filled : (r : Result ℕ Refusal) (number place : ℕ) → (filled_numbers r ≡ refused_numbers number place) ↔ RefusedWith number place r
  pub text : (r : Result ℕ Refusal) (bytes : ℕ) → (listed_numbers r ≡ answer_numbers 1 bytes 0) ↔ (r ≡ Ok bytes)
  pub not_listed : (r : Result ℕ Refusal) (number place : ℕ) → (listed_numbers r ≡ refused_numbers number place) ↔ RefusedWith number place r
  pub spelled : (r : Result ℕ Refusal) (bytes : ℕ) → (spelled_numbers r ≡ spelled_numbers (Ok bytes)) ↔ (r ≡ Ok bytes)
  -- No refusal has number 0.
  pub not_spelled : (r : Result ℕ Refusal) (number place : ℕ) → number ≢ 0
      → (spelled_numbers r ≡ record { refusal = number; place = place; bytes = 0 }) ↔ RefusedWith number place r
  pub copies : (r : Result Copies Refusal) (guard a b target : ℕ)
      → (taken_numbers r ≡ record { refusal = 0; place = 0; guard = guard; a = a; b = b; target = target })
      ↔ (r ≡ Ok (record { guard = guard; a = a; b = b; target = target }))
  pub not_taken : (r : Result Copies Refusal) (number place : ℕ) → number ≢ 0
      → (taken_numbers r ≡ record { refusal = number; place = place; guard = 0; a = 0; b = 0; target = 0 }) ↔ RefusedWith number place r

-- Some assignment is answered with 1 by the checker, and some schedule with 1 and a record by the replayer, the same one in every
-- room that holds the items.
abbrev pub SomeYes : List ℕ → Type 0
SomeYes bytes = (xs : List ℕ) × AllBelow word_size xs × (checked_numbers (checked bytes xs) ≡ answer_numbers 1 0 0)

abbrev pub SomeViolated : List ℕ → Type 0
SomeViolated bytes =
    (schedule : List ℕ) × AllBelow word_size schedule
    × ((k : ℕ) × ((room : ℕ) → item_room bytes ≤ room → replayed_numbers (replayed bytes schedule room) ≡ answer_numbers 1 k 0))
