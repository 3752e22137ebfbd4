-- The document's number of each refusal and its place, so that what demand 3 says of a refusal is said of these numbers.
-- It is proved in proofs/Demand3.antt.
-- Assumes nothing.
use Rattle.std.specs.Prelude.{◌≡◌, ℕ}
use Rattle.model.specs.declared.Refusal.{Refusal}
use Rattle.model.specs.declared.Refusal.TheVariants.{Size, Threads, Switches, Counts, Absent, Links, Unreached, Lines, Fields, Short, Assignment, Schedule, Lengths, Stray, Fails, NoViolation, Late}
use Rattle.model.specs.Refusals.{refusal_number, refusal_place}

-- A refusal has this number and this place.
abbrev pub Numbered : Refusal → ℕ → ℕ → Type 0
Numbered e number place = (refusal_number e ≡ number) × (refusal_place e ≡ place)

-- The document's number of each refusal, 1 to 15, and Six's 16 and 17; "Each comes with a place, 0 unless stated".
pub record RefusalsNumbered : Type 0 where
  pub size : Numbered Size 1 0
  pub threads : Numbered Threads 2 0
  pub switches : Numbered Switches 3 0
  pub counts : Numbered Counts 4 0
  pub absent : Numbered Absent 5 0
  pub links : Numbered Links 6 0
  pub unreached : Numbered Unreached 7 0
  pub lines : Numbered Lines 8 0
  pub fields : (k : ℕ) → Numbered (Fields k) 9 k
  pub short : Numbered Short 10 0
  pub assignment : Numbered Assignment 11 0
  pub schedule : Numbered Schedule 12 0
  pub lengths : Numbered Lengths 13 0
  pub stray : (k : ℕ) → Numbered (Stray k) 14 k
  pub fails : (k : ℕ) → Numbered (Fails k) 15 k
  pub no_violation : Numbered NoViolation 16 0
  pub late : (k : ℕ) → Numbered (Late k) 17 k
