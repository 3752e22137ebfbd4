-- Worked examples of runs that stop early (document 02, request Two), computed from bytes over what the calls answer.
-- Assumes nothing. No proof uses them: they hold the definitions beside the documents.
use Rattle.std.specs.Prelude.{Result, Ok, Err}
use mathlib.Core.Path.{◌≡◌, refl}
use Prim.Native.Nat.{ℕ, ◌+◌, ◌-◌}
use mathlib.Core.Bool.{Bool, true, false}
use mathlib.Core.List.{List, [], ◌∷◌}
use lib.ListN.{replicate}
use Rattle.model.specs.Lists.{all_from}
use Rattle.model.specs.Answers.{checked, decoded_into, replayed, replayed_into}
use Rattle.model.specs.declared.Checked.TheVariants.{Meets, Fails}
use Rattle.model.specs.declared.Replayed.{Replayed}
use Rattle.model.specs.declared.Replayed.TheVariants.{Violated, Clean, CutOff}
use Rattle.correspondence.proofs.Computing.{computing}
use Rattle.correspondence.proofs.CaseA.{case_a}
use Rattle.correspondence.proofs.CaseBytes.{header, rec, file}
use Rattle.model.specs.declared.Refusal.{Refusal}
use Rattle.model.specs.declared.Refusal.TheVariants as refusals

-- ---- A fault that only a run which stops can show

-- The case of `cases/handshake.case`, with four switches. Thread 0: 1 global 0 gets 1; 2 and 3 assert that global 2, loaded, is 0; 4
-- and 5 assume that global 1, loaded, is 1; 6 global 0 gets 2; 7 and 8 assume that global 1 is 2; 9 global 0 gets 3; 10 and 11 assume
-- that global 1 is 3. Thread 1: 12 and 13 assume that global 0, loaded, is 1; 14 and 15 globals 2 and 1 get 1; 16 and 17 assume that
-- global 0 is 2; 18 and 19 globals 2 and 1 get 2; 20 and 21 assume that global 0 is 3; 22 global 2 gets 0; 23 global 1 gets 3.
handshake : List ℕ
unfolding file
handshake = file (header 2 4 3 0 1 12 0 0)
    (rec 2 2 0 0 0 16 0 1
    (rec 3 3 0 0 0 2 0 0
    (rec 4 5 0 0 5 0 16 0
    (rec 5 3 0 1 0 1 0 0
    (rec 6 6 0 0 5 1 16 1
    (rec 7 2 0 0 0 16 0 2
    (rec 8 3 0 1 0 1 0 0
    (rec 9 6 0 0 5 1 16 2
    (rec 10 2 0 0 0 16 0 3
    (rec 11 3 0 1 0 1 0 0
    (rec 0 6 0 0 5 1 16 3
    (rec 13 3 0 0 0 0 0 0
    (rec 14 6 0 0 5 0 16 1
    (rec 15 2 0 2 0 16 0 1
    (rec 16 2 0 1 0 16 0 1
    (rec 17 3 0 0 0 0 0 0
    (rec 18 6 0 0 5 0 16 2
    (rec 19 2 0 2 0 16 0 2
    (rec 20 2 0 1 0 16 0 2
    (rec 21 3 0 0 0 0 0 0
    (rec 22 6 0 0 5 0 16 3
    (rec 23 2 0 2 0 16 0 0
    (rec 0 2 0 1 0 16 0 3
    [])))))))))))))))))))))))

-- "A run is legal when nothing cuts it off, and violates when it also contains a zero assert": thread 0 has run three of its eleven
-- lines and thread 1 three of its twelve.
stopped_run_violates : replayed handshake (1 ∷ 3 ∷ 2 ∷ 0 ∷ 0 ∷ []) 3 ≡ Ok (Violated 3)
unfolding computing handshake
stopped_run_violates = refl

-- All lines run: so many of thread 0's eleven in blocks 0 and 2, and so many of thread 1's twelve in block 1.
whole_run : ℕ → ℕ → ℕ → List ℕ
whole_run x y z = x ∷ z ∷ y ∷ (12 - z) ∷ (11 - (x + y)) ∷ []

whole_run_is_cut_off : replayed handshake (whole_run 1 10 12) 3 ≡ Ok (CutOff 17)
unfolding computing handshake whole_run
whole_run_is_cut_off = refl

-- "no run that finished within the bound": wherever the switches are, some assume cuts a run of all lines off.
abbrev is_cut_off : Result Replayed Refusal → Bool
is_cut_off (Ok (Violated k)) = false
is_cut_off (Ok Clean) = false
is_cut_off (Ok (CutOff k)) = true
is_cut_off (Err e) = false

no_run_finishes : all_from (λ x. all_from (λ y. all_from (λ z. is_cut_off (replayed handshake (whole_run x y z) 3)) 0 13) 0 (12 - x)) 0 12 ≡ true
unfolding computing handshake whole_run
no_run_finishes = refl

-- The assignment of the run that stops: the lines that were not run have block number 5 and value 0, or 1 for the assumes; then the
-- globals after blocks 0 to 3.
stopped_run : List ℕ
stopped_run =
    0 ∷ 1 ∷ 2 ∷ 1 ∷ 2 ∷ 0 ∷ 5 ∷ 0 ∷ 5 ∷ 1 ∷ 5 ∷ 0 ∷ 5 ∷ 0 ∷ 5 ∷ 1 ∷ 5 ∷ 0 ∷ 5 ∷ 0 ∷ 5 ∷ 1
    ∷ 1 ∷ 1 ∷ 1 ∷ 1 ∷ 1 ∷ 1 ∷ 5 ∷ 0 ∷ 5 ∷ 0 ∷ 5 ∷ 1 ∷ 5 ∷ 0 ∷ 5 ∷ 0 ∷ 5 ∷ 0 ∷ 5 ∷ 1 ∷ 5 ∷ 0 ∷ 5 ∷ 0
    ∷ 1 ∷ 0 ∷ 0 ∷ 1 ∷ 0 ∷ 1 ∷ 1 ∷ 0 ∷ 1 ∷ 1 ∷ 0 ∷ 1 ∷ []

stopped_run_meets : checked handshake stopped_run ≡ Ok Meets
unfolding computing handshake stopped_run
stopped_run_meets = refl

stopped_run_decoded : decoded_into handshake stopped_run (replicate 5 9) ≡ 1 ∷ 3 ∷ 2 ∷ 0 ∷ 0 ∷ []
unfolding computing handshake stopped_run
stopped_run_decoded = refl

-- ---- Lines that were not run

-- Thread 0: 1 lock mutex 0; 2 and 3 assert 0; 4 local 0 is 7; 5 lock mutex 0 again; 6 assume 0.
stops_after_two : List ℕ
unfolding file
stops_after_two = file (header 2 0 0 1 1 0 0 0)
    (rec 2 7 0 0 0 0 0 0 (rec 3 5 0 0 0 16 0 0 (rec 4 5 0 0 0 16 0 0 (rec 5 1 0 0 0 16 0 7 (rec 6 7 0 0 0 0 0 0 (rec 0 6 0 0 0 16 0 0 []))))))

-- Records 1 and 2 in block 0, and 3 to 6 in block n + 1 with these values.
leaving : ℕ → ℕ → ℕ → ℕ → List ℕ
leaving x y z w = 0 ∷ 1 ∷ 0 ∷ 0 ∷ 1 ∷ x ∷ 1 ∷ y ∷ 1 ∷ z ∷ 1 ∷ w ∷ []

-- "constraint 2 then allows n + 1, constraint 3 accepts it, constraint 5 is met, and the value is 0, or 1 for assert and assume"
unrun_lines_accepted : checked stops_after_two (leaving 1 0 0 1) ≡ Ok Meets
unfolding computing stops_after_two leaving
unrun_lines_accepted = refl

-- After sixteen rows of order and the first lock's two, rows 19 to 22 are the 4s of records 2 to 5, 23 is the lock's 5, and 24 and 25
-- are the 4 and the 5 of record 6.
unrun_assert_is_1 : checked stops_after_two (leaving 0 0 0 1) ≡ Ok (Fails 20)
unfolding computing stops_after_two leaving
unrun_assert_is_1 = refl

unrun_compute_is_0 : checked stops_after_two (leaving 1 7 0 1) ≡ Ok (Fails 21)
unfolding computing stops_after_two leaving
unrun_compute_is_0 = refl

unrun_lock_is_0 : checked stops_after_two (leaving 1 0 1 1) ≡ Ok (Fails 22)
unfolding computing stops_after_two leaving
unrun_lock_is_0 = refl

unrun_assume_is_1 : checked stops_after_two (leaving 1 0 0 0) ≡ Ok (Fails 24)
unfolding computing stops_after_two leaving
unrun_assume_is_1 = refl

-- The same lines run: the second lock finds its mutex at 1.
run_lock_must_read_0 : checked stops_after_two (0 ∷ 1 ∷ 0 ∷ 0 ∷ 0 ∷ 0 ∷ 0 ∷ 7 ∷ 0 ∷ 1 ∷ 1 ∷ 1 ∷ []) ≡ Ok (Fails 23)
unfolding computing stops_after_two
run_lock_must_read_0 = refl

-- No block counts the lines that were not run.
unrun_lines_not_counted : decoded_into stops_after_two (leaving 1 0 0 1) (9 ∷ 9 ∷ []) ≡ 2 ∷ 9 ∷ []
unfolding computing stops_after_two leaving
unrun_lines_not_counted = refl

stops_before_the_lock : replayed stops_after_two (2 ∷ []) 1 ≡ Ok (Violated 2)
unfolding computing stops_after_two
stops_before_the_lock = refl

-- "Block lengths may add up to less than a thread's lines": each thread of case A leaves one. What is refused is in Refusals.
fewer_lines_run : replayed (case_a 2) (2 ∷ 0 ∷ 1 ∷ []) 1 ≡ Ok Clean
unfolding computing case_a
fewer_lines_run = refl

-- ---- Inputs that were not run

-- Thread 0: 1 input to local 0. Thread 1: 2 input to local 0 where local 1 is not zero, which it is not; 3 assume 0.
input_left : List ℕ
unfolding file
input_left = file (header 2 1 1 0 1 2 0 0) (rec 0 4 0 0 0 0 0 0 (rec 3 4 2 0 0 0 0 0 (rec 0 6 0 0 0 16 0 0 [])))

-- "An unrun input has value 0, otherwise 14"
unrun_input_is_0 : replayed input_left (0 ∷ 1 ∷ 0 ∷ 0 ∷ []) 1 ≡ Ok Clean
unfolding computing input_left
unrun_input_is_0 = refl

unrun_input_refused : replayed input_left (0 ∷ 1 ∷ 8 ∷ 0 ∷ []) 1 ≡ Err (refusals.Stray 1)
unfolding computing input_left
unrun_input_refused = refl

-- "Each .. alters no buffer."
unrun_input_slice : replayed_into input_left (0 ∷ 1 ∷ 8 ∷ 0 ∷ []) (9 ∷ []) ≡ 9 ∷ []
unfolding computing input_left
unrun_input_slice = refl

-- "looked for after the last step": an input that strays on the way comes first, though thread 0's comes first by thread; and so does
-- a cut-off.
stray_on_the_way_first : replayed input_left (0 ∷ 1 ∷ 8 ∷ 8 ∷ []) 1 ≡ Err (refusals.Stray 2)
unfolding computing input_left
stray_on_the_way_first = refl

cut_off_first : replayed input_left (0 ∷ 2 ∷ 8 ∷ 0 ∷ []) 1 ≡ Ok (CutOff 3)
unfolding computing input_left
cut_off_first = refl
