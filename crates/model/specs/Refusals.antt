-- Document 01, "Refusals, in checking order": 1 to 15, and 16 and 17 of document 02, Six; the number of each and its place.
-- Assumes nothing.
use Rattle.std.specs.Prelude.{ℕ, Result, ⊤}
use Rattle.model.specs.declared.Refusal.{Refusal}
use Rattle.model.specs.declared.Refusal.TheVariants.{Size, Threads, Switches, Counts, Absent, Links, Unreached, Lines, Fields, Short, Assignment, Schedule, Lengths, Stray, Fails, NoViolation, Late}

abbrev pub refusal_number : Refusal → ℕ
refusal_number Size = 1
refusal_number Threads = 2
refusal_number Switches = 3
refusal_number Counts = 4
refusal_number Absent = 5
refusal_number Links = 6
refusal_number Unreached = 7
refusal_number Lines = 8
refusal_number (Fields k) = 9
refusal_number Short = 10
refusal_number Assignment = 11
refusal_number Schedule = 12
refusal_number Lengths = 13
refusal_number (Stray k) = 14
refusal_number (Fails constraint) = 15
refusal_number NoViolation = 16
refusal_number (Late k) = 17

-- "Each comes with a place, 0 unless stated"
abbrev pub refusal_place : Refusal → ℕ
refusal_place (Fields k) = k
refusal_place (Stray k) = k
refusal_place (Fails constraint) = constraint
refusal_place (Late k) = k
refusal_place _ = 0

-- What checks 1 to 9 answer of a case.
abbrev pub Verdict : Type 0
Verdict = Result ⊤ Refusal
