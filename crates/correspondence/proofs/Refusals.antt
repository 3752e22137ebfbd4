-- Worked examples of refusals 1 to 15 with their places and their order, computed from bytes over what the calls answer.
-- Assumes nothing. No proof uses them: they hold the definitions beside the document.
use Rattle.std.specs.Prelude.{Ok, Err}
use mathlib.Core.Path.{◌≡◌, refl}
use Prim.Native.Nat.{ℕ, zero, suc}
use mathlib.Core.List.{List, [], ◌∷◌, map}
use lib.ListN.{replicate}
use Rattle.model.specs.Accept.{verdict}
use Rattle.model.specs.Listing.{listing_text, listed, listed_into}
use Rattle.model.specs.Answers.{encoded, encoded_into, checked, decoded, decoded_into, replayed}
use Rattle.correspondence.proofs.Computing.{computing}
use Rattle.correspondence.proofs.CaseA.{case_a, codes_of, lines_of_text}
use Rattle.correspondence.proofs.CaseBytes.{header, rec, file}
use Rattle.model.specs.declared.Refusal.TheVariants as refusals

-- ---- Refusals 1 to 9, with their places, and their order

refused_1_short : verdict [] ≡ Err refusals.Size
unfolding computing
refused_1_short = refl

refused_1_ragged : verdict (0 ∷ file (header 2 0 0 0 0 0 0 0) []) ≡ Err refusals.Size
unfolding computing file
refused_1_ragged = refl

-- R 257
refused_1_long : verdict (replicate 4144 0) ≡ Err refusals.Size
unfolding computing
refused_1_long = refl

refused_2 : verdict (file (header 1 0 0 0 0 0 0 0) []) ≡ Err refusals.Threads
unfolding computing file
refused_2 = refl

refused_2_five : verdict (file (header 5 0 0 0 0 0 0 0) []) ≡ Err refusals.Threads
unfolding computing file
refused_2_five = refl

-- T, n, G and M at their largest.
largest_header : verdict (file (header 4 15 8 4 0 0 0 0) []) ≡ Ok tt
unfolding computing file
largest_header = refl

refused_3 : verdict (file (header 2 16 0 0 0 0 0 0) []) ≡ Err refusals.Switches
unfolding computing file
refused_3 = refl

refused_4 : verdict (file (header 2 0 9 0 0 0 0 0) []) ≡ Err refusals.Counts
unfolding computing file
refused_4 = refl

refused_4_mutexes : verdict (file (header 2 0 0 5 0 0 0 0) []) ≡ Err refusals.Counts
unfolding computing file
refused_4_mutexes = refl

refused_5 : verdict (file (header 2 0 0 0 0 0 1 0) (rec 0 7 0 0 0 0 0 0 [])) ≡ Err refusals.Absent
unfolding computing file
refused_5 = refl

-- Global 0 is absent and has an initial value.
refused_5_global : verdict (file (2 ∷ 0 ∷ 0 ∷ 0 ∷ 0 ∷ 0 ∷ 0 ∷ 0 ∷ 1 ∷ 0 ∷ 0 ∷ 0 ∷ 0 ∷ 0 ∷ 0 ∷ 0 ∷ []) []) ≡ Err refusals.Absent
unfolding computing file
refused_5_global = refl

refused_6_first : verdict (file (header 2 0 0 0 0 1 0 0) []) ≡ Err refusals.Links
unfolding computing file
refused_6_first = refl

-- A next number over R counts, also in a record that no chain reaches.
refused_6_over : verdict (file (header 2 0 0 0 0 0 0 0) (rec 2 1 0 0 0 0 0 0 [])) ≡ Err refusals.Links
unfolding computing file
refused_6_over = refl

refused_6_twice : verdict (file (header 2 0 0 0 1 1 0 0) (rec 0 1 0 0 0 0 0 0 [])) ≡ Err refusals.Links
unfolding computing file
refused_6_twice = refl

refused_6_cycle : verdict (file (header 2 0 0 0 1 0 0 0) (rec 1 1 0 0 0 0 0 0 [])) ≡ Err refusals.Links
unfolding computing file
refused_6_cycle = refl

-- Reached is reached from a thread's first record: a stray cycle is in no chain.
refused_7 : verdict (file (header 2 0 0 0 0 0 0 0) (rec 1 1 0 0 0 0 0 0 [])) ≡ Err refusals.Unreached
unfolding computing file
refused_7 = refl

-- "R is at most 256 and may be 0."
no_records : verdict (file (header 2 0 0 0 0 0 0 0) []) ≡ Ok tt
unfolding computing file
no_records = refl

-- Thread 0 has so many computing lines from record k on.
long_thread : ℕ → ℕ → List ℕ
unfolding rec
long_thread k zero = []
long_thread k (suc zero) = rec 0 1 0 0 0 0 0 0 []
long_thread k (suc (suc more)) = rec (suc k) 1 0 0 0 0 0 0 (long_thread (suc k) (suc more))

lines_64 : verdict (file (header 2 0 0 0 1 0 0 0) (long_thread 1 64)) ≡ Ok tt
unfolding computing file long_thread
lines_64 = refl

refused_8 : verdict (file (header 2 0 0 0 1 0 0 0) (long_thread 1 65)) ≡ Err refusals.Lines
unfolding computing file long_thread
refused_8 = refl

-- "the place is the lowest such record": record 2 has kind 9, and record 3 a guard of 33.
refused_9 : verdict (file (header 2 0 0 0 1 0 0 0) (rec 2 1 0 0 0 0 0 0 (rec 3 9 0 0 0 0 0 0 (rec 0 1 33 0 0 0 0 0 [])))) ≡ Err (refusals.Fields 2)
unfolding computing file
refused_9 = refl

-- "For a refused case it prints the number and place on one line."
refused_9_text : listing_text (file (header 2 0 0 0 1 0 0 0) (rec 2 1 0 0 0 0 0 0 (rec 0 9 0 0 0 0 0 0 []))) ≡ lines_of_text ("9 2" ∷ [])
unfolding computing file codes_of lines_of_text
refused_9_text = refl

-- "c is 0 unless a used operand is 16"
refused_9_constant : verdict (file (header 2 0 0 0 1 0 0 0) (rec 0 1 0 0 0 0 0 1 [])) ≡ Err (refusals.Fields 1)
unfolding computing file
refused_9_constant = refl

-- The rules of a record's fields, by kind: a case with G 2 and M 1 whose only record is the one given.
alone : List ℕ → List ℕ
unfolding file
alone record_fields = file (header 2 0 2 1 1 0 0 0) record_fields

-- Each kind, with its fields at their limits.
fields_kept : List (List ℕ)
unfolding rec
fields_kept =
    rec 0 1 32 15 6 15 16 7 []
    ∷ rec 0 2 0 1 1 16 16 9 []
    ∷ rec 0 3 16 15 0 1 0 0 []
    ∷ rec 0 4 17 15 0 0 0 0 []
    ∷ rec 0 5 1 0 5 16 0 0 []
    ∷ rec 0 6 0 0 0 16 0 1 []
    ∷ rec 0 7 0 0 0 0 0 0 []
    ∷ rec 0 8 0 0 0 0 0 0 []
    ∷ []

fields_kept_lem : map (λ fields. verdict (alone fields)) fields_kept ≡ replicate 8 (Ok tt)
unfolding computing alone fields_kept
fields_kept_lem = refl

-- One field over its limit, or not 0 where the kind does not use it: kind and guard; compute (target, op, a, b, b of op 0, c);
-- store (target, op); load (target, op, a, b, c); input (target, op, a, b, c); assert, assume (target, op); lock, unlock (target,
-- op, a, b, c).
fields_broken : List (List ℕ)
unfolding rec
fields_broken =
    rec 0 0 0 0 0 0 0 0 []
    ∷ rec 0 9 0 0 0 0 0 0 []
    ∷ rec 0 1 33 0 0 0 0 0 []
    ∷ rec 0 1 0 16 0 0 0 0 []
    ∷ rec 0 1 0 0 7 0 0 0 []
    ∷ rec 0 1 0 0 1 17 0 0 []
    ∷ rec 0 1 0 0 1 0 17 0 []
    ∷ rec 0 1 0 0 0 0 1 0 []
    ∷ rec 0 1 0 0 1 0 0 1 []
    ∷ rec 0 2 0 2 0 0 0 0 []
    ∷ rec 0 2 0 0 7 0 0 0 []
    ∷ rec 0 3 0 16 0 0 0 0 []
    ∷ rec 0 3 0 0 1 0 0 0 []
    ∷ rec 0 3 0 0 0 2 0 0 []
    ∷ rec 0 3 0 0 0 0 1 0 []
    ∷ rec 0 3 0 0 0 0 0 1 []
    ∷ rec 0 4 0 16 0 0 0 0 []
    ∷ rec 0 4 0 0 1 0 0 0 []
    ∷ rec 0 4 0 0 0 1 0 0 []
    ∷ rec 0 4 0 0 0 0 1 0 []
    ∷ rec 0 4 0 0 0 0 0 1 []
    ∷ rec 0 5 0 1 0 0 0 0 []
    ∷ rec 0 5 0 0 7 0 0 0 []
    ∷ rec 0 6 0 1 0 0 0 0 []
    ∷ rec 0 6 0 0 7 0 0 0 []
    ∷ rec 0 7 0 1 0 0 0 0 []
    ∷ rec 0 7 0 0 1 0 0 0 []
    ∷ rec 0 7 0 0 0 1 0 0 []
    ∷ rec 0 7 0 0 0 0 1 0 []
    ∷ rec 0 7 0 0 0 0 0 1 []
    ∷ rec 0 8 0 1 0 0 0 0 []
    ∷ rec 0 8 0 0 1 0 0 0 []
    ∷ rec 0 8 0 0 0 1 0 0 []
    ∷ rec 0 8 0 0 0 0 1 0 []
    ∷ rec 0 8 0 0 0 0 0 1 []
    ∷ []

fields_broken_lem : map (λ fields. verdict (alone fields)) fields_broken ≡ replicate 35 (Err (refusals.Fields 1))
unfolding computing alone fields_broken
fields_broken_lem = refl

-- 3 before 4, and 6 before 9.
order_3_4 : verdict (file (header 2 16 9 0 0 0 0 0) []) ≡ Err refusals.Switches
unfolding computing file
order_3_4 = refl

order_6_9 : verdict (file (header 2 0 0 0 1 1 0 0) (rec 0 9 0 0 0 0 0 0 [])) ≡ Err refusals.Links
unfolding computing file
order_6_9 = refl

-- ---- Refusals 10 to 15; none alters a slice

refused_10 : encoded (case_a 2) 113 ≡ Err refusals.Short
unfolding computing case_a
refused_10 = refl

refused_10_slice : encoded_into (case_a 2) (1 ∷ 2 ∷ 3 ∷ []) ≡ 1 ∷ 2 ∷ 3 ∷ []
unfolding computing case_a
refused_10_slice = refl

refused_10_listing : listed (case_a 2) 233 ≡ Err refusals.Short
unfolding computing case_a
refused_10_listing = refl

refused_10_listing_slice : listed_into (case_a 2) (1 ∷ 2 ∷ 3 ∷ []) ≡ 1 ∷ 2 ∷ 3 ∷ []
unfolding computing case_a
refused_10_listing_slice = refl

refused_11 : checked (case_a 2) (0 ∷ []) ≡ Err refusals.Assignment
unfolding computing case_a
refused_11 = refl

refused_12 : replayed (case_a 2) (2 ∷ 1 ∷ []) 1 ≡ Err refusals.Schedule
unfolding computing case_a
refused_12 = refl

-- Two: "refusal 13 is only for more": a step more than the lines of thread 0, and of thread 1 though thread 0 has steps left.
refused_13 : replayed (case_a 2) (2 ∷ 1 ∷ 3 ∷ []) 1 ≡ Err refusals.Lengths
unfolding computing case_a
refused_13 = refl

refused_13_thread_1 : replayed (case_a 2) (2 ∷ 2 ∷ 1 ∷ []) 1 ≡ Err refusals.Lengths
unfolding computing case_a
refused_13_thread_1 = refl

-- "10 .. 12": 10 comes first.
order_10_12 : replayed (case_a 2) (2 ∷ 1 ∷ []) 0 ≡ Err refusals.Short
unfolding computing case_a
order_10_12 = refl

-- "the place is the first failed constraint, from 1"
refused_15 : decoded (case_a 2) (0 ∷ 0 ∷ 0 ∷ 1 ∷ 2 ∷ 1 ∷ 2 ∷ 1 ∷ 1 ∷ 5 ∷ 1 ∷ 5 ∷ []) 3 ≡ Err (refusals.Fails 14)
unfolding computing case_a
refused_15 = refl

refused_15_slice : decoded_into (case_a 2) (0 ∷ 0 ∷ 0 ∷ 1 ∷ 2 ∷ 1 ∷ 2 ∷ 1 ∷ 1 ∷ 5 ∷ 1 ∷ 5 ∷ []) (4 ∷ 5 ∷ 6 ∷ []) ≡ 4 ∷ 5 ∷ 6 ∷ []
unfolding computing case_a
refused_15_slice = refl
