-- Six, worked out by hand: schedules that are filled in, and those that refusals 12 to 17 meet, in this order.
-- Assumes nothing.
use Rattle.std.specs.Prelude.{Ok, Err}
use mathlib.Core.Path.{◌≡◌, refl}
use Prim.Native.Nat.{ℕ}
use mathlib.Core.List.{List, [], ◌∷◌}
use lib.ListN.{replicate}
use Rattle.model.specs.Answers.{checked, decoded_into, replayed, filled, filled_into}
use Rattle.model.specs.declared.Checked.TheVariants.{Meets}
use Rattle.model.specs.declared.Replayed.TheVariants.{Clean, CutOff}
use Rattle.correspondence.proofs.Computing.{computing}
use Rattle.correspondence.proofs.CaseA.{case_a, schedule_p1, schedule_p2}
use Rattle.correspondence.proofs.CaseBytes.{header, rec, file}
use Rattle.model.specs.declared.Refusal.TheVariants as refusals

-- Case A, P1 and P2: lines 1 to 5 in their blocks, each with its value, and the global where blocks 0 and 1 end. What stood beyond stays.
p1_filled : filled_into (case_a 2) schedule_p1 (replicate 13 9)
    ≡ 0 ∷ 0 ∷ 0 ∷ 1 ∷ 2 ∷ 5 ∷ 2 ∷ 0 ∷ 1 ∷ 5 ∷ 1 ∷ 5 ∷ 9 ∷ []
unfolding computing case_a
p1_filled = refl

p1_meets : checked (case_a 2) (0 ∷ 0 ∷ 0 ∷ 1 ∷ 2 ∷ 5 ∷ 2 ∷ 0 ∷ 1 ∷ 5 ∷ 1 ∷ 5 ∷ []) ≡ Ok Meets
unfolding computing case_a
p1_meets = refl

p2_has_12 : filled (case_a 2) schedule_p2 12 ≡ Ok 12
unfolding computing case_a
p2_has_12 = refl

-- 10 before 12: neither the room nor the schedule is long enough.
ten_before_twelve : filled (case_a 2) [] 11 ≡ Err refusals.Short
unfolding computing case_a
ten_before_twelve = refl

twelve : filled (case_a 2) (5 ∷ []) 12 ≡ Err refusals.Schedule
unfolding computing case_a
twelve = refl

thirteen : filled (case_a 2) (5 ∷ 1 ∷ 2 ∷ []) 12 ≡ Err refusals.Lengths
unfolding computing case_a
thirteen = refl

-- "It refuses with 16, place 0, a schedule whose run does not violate, and then with 17": P4's run is clean, and breaks the rule.
sixteen_before_seventeen : filled (case_a 2) (3 ∷ 1 ∷ 1 ∷ []) 12 ≡ Err refusals.NoViolation
unfolding computing case_a
sixteen_before_seventeen = refl

-- Thread 0: 2 local 0 gets global 0; 3 local 1 is an input; 1 assert 0. Thread 1: 5 global 0 gets 5; 4 local 0 is 7. Four switches.
stretches : List ℕ
unfolding file
stretches =
    file (header 2 4 1 0 2 5 0 0)
    (rec 0 5 0 0 0 16 0 0 (rec 3 3 0 0 0 0 0 0 (rec 1 4 0 1 0 0 0 0 (rec 0 1 0 0 0 16 0 7 (rec 4 2 0 0 0 16 0 5 [])))))

-- "the first such record by thread and chain": record 4 is run late in block 3, and record 3 in block 4. By thread it is record 3.
late_by_thread : filled stretches (1 ∷ 1 ∷ 0 ∷ 1 ∷ 2 ∷ 6 ∷ []) 14 ≡ Err (refusals.Late 3)
unfolding computing stretches
late_by_thread = refl

-- By chain it is record 1 where records 2 and 3 are in block 0; of thread 1 alone it is record 4.
late_by_chain : filled stretches (2 ∷ 1 ∷ 1 ∷ 1 ∷ 0 ∷ 6 ∷ []) 14 ≡ Err (refusals.Late 1)
unfolding computing stretches
late_by_chain = refl

late_of_thread_1 : filled stretches (3 ∷ 1 ∷ 0 ∷ 1 ∷ 0 ∷ 6 ∷ []) 14 ≡ Err (refusals.Late 4)
unfolding computing stretches
late_of_thread_1 = refl

-- A line that is not run is not late: record 4 has block number 5 and value 0. The input has its value.
not_run_is_not_late : filled_into stretches (3 ∷ 1 ∷ 0 ∷ 0 ∷ 0 ∷ 6 ∷ []) (replicate 14 9)
    ≡ 0 ∷ 0 ∷ 0 ∷ 0 ∷ 0 ∷ 6 ∷ 5 ∷ 0 ∷ 1 ∷ 5 ∷ 0 ∷ 5 ∷ 5 ∷ 5 ∷ []
unfolding computing stretches
not_run_is_not_late = refl

not_run_decoded : decoded_into stretches (0 ∷ 0 ∷ 0 ∷ 0 ∷ 0 ∷ 6 ∷ 5 ∷ 0 ∷ 1 ∷ 5 ∷ 0 ∷ 5 ∷ 5 ∷ 5 ∷ []) (replicate 6 9) ≡ 3 ∷ 1 ∷ 0 ∷ 0 ∷ 0 ∷ 6 ∷ []
unfolding computing stretches
not_run_decoded = refl

-- 14 before 16: an unrun input has a value, and the run is clean; without the value it is 16.
fourteen_before_sixteen : filled stretches (1 ∷ 0 ∷ 0 ∷ 0 ∷ 0 ∷ 6 ∷ []) 14 ≡ Err (refusals.Stray 3)
unfolding computing stretches
fourteen_before_sixteen = refl

clean : replayed stretches (1 ∷ 0 ∷ 0 ∷ 0 ∷ 0 ∷ 0 ∷ []) 1 ≡ Ok Clean
unfolding computing stretches
clean = refl

sixteen_of_clean : filled stretches (1 ∷ 0 ∷ 0 ∷ 0 ∷ 0 ∷ 0 ∷ []) 14 ≡ Err refusals.NoViolation
unfolding computing stretches
sixteen_of_clean = refl

-- Thread 0: 1 assert 0; 2 assume 0. The run violates and is then cut off: 16.
broken_then_cut : List ℕ
unfolding file
broken_then_cut = file (header 2 0 0 0 1 0 0 0) (rec 2 5 0 0 0 16 0 0 (rec 0 6 0 0 0 16 0 0 []))

ended_cut_off : replayed broken_then_cut (2 ∷ []) 0 ≡ Ok (CutOff 2)
unfolding computing broken_then_cut
ended_cut_off = refl

sixteen_of_cut_off : filled broken_then_cut (2 ∷ []) 4 ≡ Err refusals.NoViolation
unfolding computing broken_then_cut
sixteen_of_cut_off = refl
