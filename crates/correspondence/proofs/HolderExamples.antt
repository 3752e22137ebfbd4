-- Worked examples of mutexes that know their holders (document 02, request Four), computed from bytes over what the calls answer.
-- Assumes nothing. No proof uses them: they hold the definitions beside the documents.
use Rattle.std.specs.Prelude.{Ok}
use mathlib.Core.Path.{◌≡◌, refl}
use Prim.Native.Nat.{ℕ}
use mathlib.Core.List.{List, [], ◌∷◌}
use Rattle.model.specs.Answers.{checked, decoded_into, replayed, replayed_into}
use Rattle.model.specs.declared.Checked.TheVariants.{Meets, Fails}
use Rattle.model.specs.declared.Replayed.TheVariants.{Violated, Clean, CutOff}
use Rattle.correspondence.proofs.Computing.{computing}
use Rattle.correspondence.proofs.CaseBytes.{header, rec, file}

-- ---- A stranger

-- Thread 0: 1 lock mutex 0. Thread 1: 2 unlock it; 3 lock it.
stranger_unlocks : List ℕ
unfolding file
stranger_unlocks = file (header 2 1 0 1 1 2 0 0) (rec 0 7 0 0 0 0 0 0 (rec 3 8 0 0 0 0 0 0 (rec 0 7 0 0 0 0 0 0 [])))

-- "a run line that unlocks with its guard true while the mutex does not read t + 1 is a violation"
stranger_violates : replayed stranger_unlocks (1 ∷ 2 ∷ []) 1 ≡ Ok (Violated 2)
unfolding computing stranger_unlocks
stranger_violates = refl

-- "though it still frees the mutex": where the run stops there it reads 0, and else record 3 finds it free. "Final values show holders".
stranger_frees : replayed_into stranger_unlocks (1 ∷ 1 ∷ []) (9 ∷ []) ≡ 0 ∷ []
unfolding computing stranger_unlocks
stranger_frees = refl

holder_shown : replayed_into stranger_unlocks (1 ∷ 0 ∷ []) (9 ∷ []) ≡ 1 ∷ []
unfolding computing stranger_unlocks
holder_shown = refl

next_holder_shown : replayed_into stranger_unlocks (1 ∷ 2 ∷ []) (9 ∷ []) ≡ 2 ∷ []
unfolding computing stranger_unlocks
next_holder_shown = refl

-- "Constraint 7 is met by such a line too": there is no assert. The mutex reads 1 after block 0.
stranger_meets_7 : checked stranger_unlocks (0 ∷ 1 ∷ 1 ∷ 0 ∷ 1 ∷ 2 ∷ 1 ∷ []) ≡ Ok Meets
unfolding computing stranger_unlocks
stranger_meets_7 = refl

stranger_decoded : decoded_into stranger_unlocks (0 ∷ 1 ∷ 1 ∷ 0 ∷ 1 ∷ 2 ∷ 1 ∷ []) (9 ∷ 9 ∷ []) ≡ 1 ∷ 2 ∷ []
unfolding computing stranger_unlocks
stranger_decoded = refl

-- "A lock by thread t now puts t + 1 in the mutex": thread 1's lock does not have value 1. After six rows of order and those of records
-- 1 and 2, row 10 is the 4 of record 3.
holder_asked : checked stranger_unlocks (0 ∷ 1 ∷ 1 ∷ 0 ∷ 1 ∷ 1 ∷ 1 ∷ []) ≡ Ok (Fails 10)
unfolding computing stranger_unlocks
holder_asked = refl

-- Nothing is unlocked in block 2, where records 2 and 3 were not run, and row 13 is the 7.
unrun_stranger_fails_7 : checked stranger_unlocks (0 ∷ 1 ∷ 2 ∷ 0 ∷ 2 ∷ 0 ∷ 1 ∷ []) ≡ Ok (Fails 13)
unfolding computing stranger_unlocks
unrun_stranger_fails_7 = refl

unrun_stranger_is_clean : replayed stranger_unlocks (1 ∷ 0 ∷ []) 1 ≡ Ok Clean
unfolding computing stranger_unlocks
unrun_stranger_is_clean = refl

-- ---- A free mutex, one's own, and a false guard

-- Thread 0: 1 unlock mutex 0.
free_unlocked : List ℕ
unfolding file
free_unlocked = file (header 2 0 0 1 1 0 0 0) (rec 0 8 0 0 0 0 0 0 [])

free_is_nobodys : replayed free_unlocked (1 ∷ []) 1 ≡ Ok (Violated 1)
unfolding computing free_unlocked
free_is_nobodys = refl

free_meets_7 : checked free_unlocked (0 ∷ 0 ∷ []) ≡ Ok Meets
unfolding computing free_unlocked
free_meets_7 = refl

-- Thread 0: 1 lock mutex 0; 2 unlock it; 3 lock it; 4 lock it.
own_unlocked : List ℕ
unfolding file
own_unlocked = file (header 2 0 0 1 1 0 0 0) (rec 2 7 0 0 0 0 0 0 (rec 3 8 0 0 0 0 0 0 (rec 4 7 0 0 0 0 0 0 (rec 0 7 0 0 0 0 0 0 []))))

own_is_clean : replayed own_unlocked (2 ∷ []) 1 ≡ Ok Clean
unfolding computing own_unlocked
own_is_clean = refl

-- "a lock whose mutex is not 0 ends the run there", also where the thread holds it itself.
own_lock_cut_off : replayed own_unlocked (4 ∷ []) 1 ≡ Ok (CutOff 4)
unfolding computing own_unlocked
own_lock_cut_off = refl

-- After eight rows of order, seven of values and none of blocks, row 16 is the 7. Records 3 and 4 were not run.
own_fails_7 : checked own_unlocked (0 ∷ 1 ∷ 0 ∷ 0 ∷ 1 ∷ 0 ∷ 1 ∷ 0 ∷ []) ≡ Ok (Fails 16)
unfolding computing own_unlocked
own_fails_7 = refl

-- Thread 0: 1 lock mutex 0. Thread 1: 2 unlock it where local 0 is not zero, which it is.
guarded_unlock : List ℕ
unfolding file
guarded_unlock = file (header 2 1 0 1 1 2 0 0) (rec 0 7 0 0 0 0 0 0 (rec 0 8 1 0 0 0 0 0 []))

guarded_out_is_clean : replayed guarded_unlock (1 ∷ 1 ∷ []) 1 ≡ Ok Clean
unfolding computing guarded_unlock
guarded_out_is_clean = refl

guarded_out_keeps_holder : replayed_into guarded_unlock (1 ∷ 1 ∷ []) (9 ∷ []) ≡ 1 ∷ []
unfolding computing guarded_unlock
guarded_out_keeps_holder = refl

-- After four rows of order, three of values and one of blocks, row 9 is the 7.
guarded_out_fails_7 : checked guarded_unlock (0 ∷ 1 ∷ 1 ∷ 1 ∷ 1 ∷ []) ≡ Ok (Fails 9)
unfolding computing guarded_unlock
guarded_out_fails_7 = refl

-- ---- The first of either sort

-- Thread 0: 1 lock mutex 0; 2 assert 0. Thread 1: 3 unlock mutex 0; 4 assume 0.
both_sorts : List ℕ
unfolding file
both_sorts = file (header 2 2 0 1 1 3 0 0) (rec 2 7 0 0 0 0 0 0 (rec 0 5 0 0 0 16 0 0 (rec 4 8 0 0 0 0 0 0 (rec 0 6 0 0 0 16 0 0 []))))

-- "replay names the first of either sort", in running order.
unlock_named_first : replayed both_sorts (1 ∷ 1 ∷ 1 ∷ []) 1 ≡ Ok (Violated 3)
unfolding computing both_sorts
unlock_named_first = refl

assert_named_first : replayed both_sorts (2 ∷ 1 ∷ 0 ∷ []) 1 ≡ Ok (Violated 2)
unfolding computing both_sorts
assert_named_first = refl

-- "a later cut-off is then the reply"
cut_off_after_stranger : replayed both_sorts (1 ∷ 2 ∷ 0 ∷ []) 1 ≡ Ok (CutOff 4)
unfolding computing both_sorts
cut_off_after_stranger = refl

-- ---- Every thread's own number

-- Thread 3 of four: 1 lock mutex 1; 2 unlock it. Two mutexes and a global.
fourth_thread : List ℕ
unfolding file
fourth_thread = file (header 4 3 1 2 0 0 0 1) (rec 2 7 0 1 0 0 0 0 (rec 0 8 0 1 0 0 0 0 []))

fourth_thread_holds : replayed_into fourth_thread (0 ∷ 0 ∷ 0 ∷ 1 ∷ []) (9 ∷ 9 ∷ 9 ∷ []) ≡ 0 ∷ 0 ∷ 4 ∷ []
unfolding computing fourth_thread
fourth_thread_holds = refl

fourth_thread_frees : replayed fourth_thread (0 ∷ 0 ∷ 0 ∷ 2 ∷ []) 3 ≡ Ok Clean
unfolding computing fourth_thread
fourth_thread_frees = refl
