-- Worked examples of constraints and runs, each for a sentence of document 01 that case A does not touch, computed from bytes over
-- what the calls answer.
-- Assumes nothing. No proof uses them: they hold the definitions beside the document.
use Rattle.std.specs.Prelude.{Ok, Err}
use mathlib.Core.Path.{◌≡◌, refl}
use Prim.Native.Nat.{ℕ}
use mathlib.Core.List.{List, [], ◌∷◌}
use lib.ListN.{take, drop, replicate}
use Rattle.model.specs.Answers.{encoded_into, checked, decoded_into, replayed, replayed_into}
use Rattle.model.specs.declared.Checked.TheVariants as checkeds
use Rattle.model.specs.declared.Replayed.TheVariants.{Violated, Clean, CutOff}
use Rattle.correspondence.proofs.Computing.{computing}
use Rattle.correspondence.proofs.CaseA.{case_a}
use Rattle.correspondence.proofs.CaseBytes.{header, rec, file}
use Rattle.model.specs.declared.Refusal.TheVariants as refusals

-- ---- Reading and copies

-- Thread 0: store 5 to global 0; store 7 to it where local 0 is not zero, which it is not; assert that local 1, loaded, is 0.
guarded_store : List ℕ
unfolding file
guarded_store = file (header 2 0 1 0 1 0 0 0) (rec 2 2 0 0 0 16 0 5 (rec 3 2 1 0 0 16 0 7 (rec 4 3 0 1 0 0 0 0 (rec 0 5 0 0 5 1 16 0 []))))

-- "Taking a store with a false guard as no copy: it carries the value it reads." Record 2's value is 5.
guarded_store_carries : checked guarded_store (0 ∷ 5 ∷ 0 ∷ 5 ∷ 0 ∷ 5 ∷ 0 ∷ 0 ∷ []) ≡ Ok checkeds.Meets
unfolding computing guarded_store
guarded_store_carries = refl

-- After nine rows of order, row 11 is the 4 of record 2.
guarded_store_must_carry : checked guarded_store (0 ∷ 5 ∷ 0 ∷ 7 ∷ 0 ∷ 7 ∷ 0 ∷ 0 ∷ []) ≡ Ok (checkeds.Fails 11)
unfolding computing guarded_store
guarded_store_must_carry = refl

-- Record 2 is the copy that record 3 reads: row 12 is its 4.
guarded_store_is_a_copy : take 6 (drop 66 (encoded_into guarded_store (replicate 84 9))) ≡ 4 ∷ 3 ∷ 0 ∷ 2 ∷ 0 ∷ 0 ∷ []
unfolding computing guarded_store
guarded_store_is_a_copy = refl

guarded_store_runs : replayed_into guarded_store (4 ∷ []) (9 ∷ 9 ∷ []) ≡ 5 ∷ 9 ∷ []
unfolding computing guarded_store
guarded_store_runs = refl

-- "Reading a copy from an earlier block because it is the latest in the thread." In case A, record 3 in block 2 must read the
-- 5 of thread 1 and not the 1 of record 2 in block 0: row 14 is its 4.
earlier_block_not_read : checked (case_a 2) (0 ∷ 0 ∷ 0 ∷ 1 ∷ 2 ∷ 1 ∷ 2 ∷ 1 ∷ 1 ∷ 5 ∷ 1 ∷ 5 ∷ []) ≡ Ok (checkeds.Fails 14)
unfolding computing case_a
earlier_block_not_read = refl

-- "2, last line, n: the block number is at most n"; Two: "allows n + 1". Records 3 and 4 in block n + 2, which is thread 0's too:
-- row 9.
too_late : checked (case_a 2) (0 ∷ 0 ∷ 0 ∷ 1 ∷ 4 ∷ 5 ∷ 4 ∷ 0 ∷ 1 ∷ 5 ∷ 1 ∷ 5 ∷ []) ≡ Ok (checkeds.Fails 9)
unfolding computing case_a
too_late = refl

-- "6 .. the block value is that of the first with block number i". Row 17 is block 0's.
wrong_block_value : checked (case_a 2) (0 ∷ 0 ∷ 0 ∷ 1 ∷ 2 ∷ 5 ∷ 2 ∷ 0 ∷ 1 ∷ 5 ∷ 2 ∷ 5 ∷ []) ≡ Ok (checkeds.Fails 17)
unfolding computing case_a
wrong_block_value = refl

-- Thread 0: local 0 is 9, and assume 0, both where local 1 is not zero, which it is not; assert local 0.
guarded_out : List ℕ
unfolding file
guarded_out = file (header 2 0 0 0 1 0 0 0) (rec 2 1 2 0 0 16 0 9 (rec 3 6 2 0 0 16 0 0 (rec 0 5 0 0 0 0 0 0 [])))

-- "Guard false: the target's old value (a local without copy has 0, ..), and 1 for assert and assume."
guarded_out_values : checked guarded_out (0 ∷ 0 ∷ 0 ∷ 1 ∷ 0 ∷ 0 ∷ []) ≡ Ok checkeds.Meets
unfolding computing guarded_out
guarded_out_values = refl

-- After eight rows of order, rows 9 and 10 are the 4s of records 1 and 2.
guarded_out_local : checked guarded_out (0 ∷ 9 ∷ 0 ∷ 1 ∷ 0 ∷ 1 ∷ []) ≡ Ok (checkeds.Fails 9)
unfolding computing guarded_out
guarded_out_local = refl

guarded_out_assume : checked guarded_out (0 ∷ 0 ∷ 0 ∷ 0 ∷ 0 ∷ 0 ∷ []) ≡ Ok (checkeds.Fails 10)
unfolding computing guarded_out
guarded_out_assume = refl

-- Globals 0 and 1 begin at 6 and 7. Thread 0: 1 local 0 gets global 0; 2 global 0 gets 8; 3 local 1 gets global 0.
-- Thread 1: 4 assert 0. Records 1 and 2 are in block 0, 3 in block 2, 4 in block 1.
starts_at : List ℕ
unfolding file
starts_at = file (2 ∷ 2 ∷ 2 ∷ 0 ∷ 1 ∷ 4 ∷ 0 ∷ 0 ∷ 6 ∷ 7 ∷ 0 ∷ 0 ∷ 0 ∷ 0 ∷ 0 ∷ 0 ∷ [])
    (rec 2 3 0 0 0 0 0 0 (rec 3 2 0 0 0 16 0 8 (rec 0 3 0 1 0 0 0 0 (rec 0 5 0 0 0 16 0 0 []))))

starts_read : checked starts_at (0 ∷ 6 ∷ 0 ∷ 8 ∷ 2 ∷ 8 ∷ 1 ∷ 0 ∷ 8 ∷ 7 ∷ 8 ∷ 7 ∷ []) ≡ Ok checkeds.Meets
unfolding computing starts_at
starts_read = refl

-- "or its initial value when k is in block 0": row 9 is the 4 of record 1.
initial_value_read : checked starts_at (0 ∷ 0 ∷ 0 ∷ 8 ∷ 2 ∷ 8 ∷ 1 ∷ 0 ∷ 8 ∷ 7 ∷ 8 ∷ 7 ∷ []) ≡ Ok (checkeds.Fails 9)
unfolding computing starts_at
initial_value_read = refl

-- "if none, .. the initial one for i = 0": row 14 is the 6 of item 1 in block 0.
initial_value_stays : checked starts_at (0 ∷ 6 ∷ 0 ∷ 8 ∷ 2 ∷ 8 ∷ 1 ∷ 0 ∷ 8 ∷ 0 ∷ 8 ∷ 0 ∷ []) ≡ Ok (checkeds.Fails 14)
unfolding computing starts_at
initial_value_stays = refl

-- "if none, the block value at i − 1": row 15 is the 6 of item 0 in block 1.
block_value_stays : checked starts_at (0 ∷ 6 ∷ 0 ∷ 8 ∷ 2 ∷ 6 ∷ 1 ∷ 0 ∷ 8 ∷ 7 ∷ 6 ∷ 7 ∷ []) ≡ Ok (checkeds.Fails 15)
unfolding computing starts_at
block_value_stays = refl

-- Thread 0: 1 local 0 is 7; 2 global 0 gets 8; 3 input to local 1; 4 lock mutex 0; 5 unlock it.
unused_fields : List ℕ
unfolding file
unused_fields = file (header 2 0 1 1 1 0 0 0) (rec 2 1 0 0 0 16 0 7 (rec 3 2 0 0 0 16 0 8 (rec 4 4 0 1 0 0 0 0 (rec 5 7 0 0 0 0 0 0 (rec 0 8 0 0 0 0 0 0 [])))))

-- "unused ones are 0": after eleven rows of order and two 4s, the rows of an input, a lock and an unlock. Their operands name nothing,
-- though both local 0 and global 0 have a copy.
unused_fields_listed : take 24 (drop 78 (encoded_into unused_fields (replicate 108 9)))
    ≡ 4 ∷ 3 ∷ 0 ∷ 0 ∷ 0 ∷ 0 ∷ 4 ∷ 4 ∷ 0 ∷ 0 ∷ 0 ∷ 0 ∷ 5 ∷ 4 ∷ 0 ∷ 0 ∷ 0 ∷ 0 ∷ 4 ∷ 5 ∷ 0 ∷ 0 ∷ 0 ∷ 4 ∷ []
unfolding computing unused_fields
unused_fields_listed = refl

-- ---- Locks

-- Thread 0 locks mutex 0; thread 1 locks it.
two_locks : List ℕ
unfolding file
two_locks = file (header 2 1 0 1 1 2 0 0) (rec 0 7 0 0 0 0 0 0 (rec 0 7 0 0 0 0 0 0 []))

-- "a lock whose mutex is not 0 ends the run there with nothing changed": at the cut-off the mutex is thread 0's.
lock_taken : replayed two_locks (1 ∷ 1 ∷ []) 1 ≡ Ok (CutOff 2)
unfolding computing two_locks
lock_taken = refl

lock_taken_items : replayed_into two_locks (1 ∷ 1 ∷ []) (9 ∷ []) ≡ 1 ∷ []
unfolding computing two_locks
lock_taken_items = refl

-- ---- Inputs, refusal 14 and cut-offs

-- Thread 0: input to local 0 where local 1 is not zero; assume 0; input to local 0 where local 1 is not zero.
inputs : List ℕ
unfolding file
inputs = file (header 2 0 0 0 1 0 0 0) (rec 2 4 2 0 0 0 0 0 (rec 3 6 0 0 0 16 0 0 (rec 0 4 2 0 0 0 0 0 [])))

-- "Refusal 14 and a cut-off exclude each other: the one met first is given."
stray_before_cut : replayed inputs (3 ∷ 8 ∷ 0 ∷ []) 0 ≡ Err (refusals.Stray 1)
unfolding computing inputs
stray_before_cut = refl

stray_after_cut : replayed inputs (3 ∷ 0 ∷ 8 ∷ []) 0 ≡ Ok (CutOff 2)
unfolding computing inputs
stray_after_cut = refl

-- Thread 0: input to local 0; assert that it is less than 9.
one_input : List ℕ
unfolding file
one_input = file (header 2 0 0 0 1 0 0 0) (rec 2 4 0 0 0 0 0 0 (rec 0 5 0 0 6 0 16 9 []))

-- "a run input line with a true guard has its variable's value"
input_decoded : decoded_into one_input (0 ∷ 12 ∷ 0 ∷ 0 ∷ []) (7 ∷ 7 ∷ 7 ∷ []) ≡ 2 ∷ 12 ∷ 7 ∷ []
unfolding computing one_input
input_decoded = refl

input_replayed : replayed one_input (2 ∷ 12 ∷ []) 0 ≡ Ok (Violated 2)
unfolding computing one_input
input_replayed = refl

-- Thread 0: assert 0; assume 0.
late_assume : List ℕ
unfolding file
late_assume = file (header 2 0 0 0 1 0 0 0) (rec 2 5 0 0 0 16 0 0 (rec 0 6 0 0 0 16 0 0 []))

-- "a failed assume after that assert, even in the last line, means no violation"; row 8 is the assume's 5.
assume_after_assert : replayed late_assume (2 ∷ []) 0 ≡ Ok (CutOff 2)
unfolding computing late_assume
assume_after_assert = refl

assume_must_hold : checked late_assume (0 ∷ 0 ∷ 0 ∷ 0 ∷ []) ≡ Ok (checkeds.Fails 8)
unfolding computing late_assume
assume_must_hold = refl

-- ---- Threads and blocks

-- Thread 0 has no lines; thread 1 asserts 0.
no_lines : ℕ → List ℕ
unfolding file
no_lines n = file (header 2 n 0 0 0 1 0 0) (rec 0 5 0 0 0 16 0 0 [])

-- "Giving thread 1 block 0 when thread 0 has no lines" is wrong: "Block i (0 to n) belongs to thread i modulo T".
no_lines_block_0 : replayed (no_lines 0) (1 ∷ []) 0 ≡ Err refusals.Lengths
unfolding computing no_lines
no_lines_block_0 = refl

-- Two: "a thread may stop": thread 1 has no block, and its line is not run.
no_lines_no_block : replayed (no_lines 0) (0 ∷ []) 0 ≡ Ok Clean
unfolding computing no_lines
no_lines_no_block = refl

no_lines_block_1 : replayed (no_lines 1) (0 ∷ 1 ∷ []) 0 ≡ Ok (Violated 1)
unfolding computing no_lines
no_lines_block_1 = refl

-- T 4 with n 1: threads 2 and 3 have no block and no lines. Row 1 says that record 1's block is thread 1's.
four_threads : List ℕ
unfolding file
four_threads = file (header 4 1 0 0 0 1 0 0) (rec 0 5 0 0 0 16 0 0 [])

four_threads_lem : encoded_into four_threads (0 ∷ 0 ∷ 0 ∷ 0 ∷ 0 ∷ 0 ∷ 0 ∷ 0 ∷ 0 ∷ 0 ∷ 0 ∷ 0 ∷ 0 ∷ 0 ∷ 0 ∷ 0 ∷ 0 ∷ 0 ∷ 0 ∷ 0 ∷ 0 ∷ 0 ∷ 0 ∷ 0 ∷ 5 ∷ [])
    ≡ 3 ∷ 1 ∷ 4 ∷ 1 ∷ 0 ∷ 0 ∷ 2 ∷ 1 ∷ 1 ∷ 0 ∷ 0 ∷ 0 ∷ 4 ∷ 1 ∷ 0 ∷ 0 ∷ 0 ∷ 0 ∷ 7 ∷ 0 ∷ 0 ∷ 0 ∷ 0 ∷ 0 ∷ 5 ∷ []
unfolding computing four_threads
four_threads_lem = refl

four_threads_run : replayed four_threads (0 ∷ 1 ∷ []) 0 ≡ Ok (Violated 1)
unfolding computing four_threads
four_threads_run = refl

-- ---- Ops

-- Thread 0: local 0 is 0 − 1; global 0 gets local 0; local 0 is local 0 + 3; global 1 gets local 0; globals 2 and 3 get
-- local 0 and 6, local 0 or 5.
ops : List ℕ
unfolding file
ops = file (header 2 0 4 0 1 0 0 0)
    (rec 2 1 0 0 2 1 16 1 (rec 3 2 0 0 0 0 0 0 (rec 4 1 0 0 1 0 16 3 (rec 5 2 0 1 0 0 0 0 (rec 6 2 0 2 3 0 16 6 (rec 0 2 0 3 4 0 16 5 []))))))

-- "1 sum and 2 difference, both taken modulo 65,536; 3 bitwise and; 4 bitwise or"
ops_run : replayed_into ops (6 ∷ []) (0 ∷ 0 ∷ 0 ∷ 0 ∷ []) ≡ 65535 ∷ 2 ∷ 2 ∷ 7 ∷ []
unfolding computing ops
ops_run = refl

-- Thread 0: local 0 is 0 − 1; global 0 gets local 0 < 1; local 1 is 1; globals 1 to 3 get local 1 < local 0, local 1 = 1 and
-- local 0 = 1.
comparisons : List ℕ
unfolding file
comparisons = file (header 2 0 4 0 1 0 0 0)
    (rec 2 1 0 0 2 1 16 1 (rec 3 2 0 0 6 0 16 1 (rec 4 1 0 1 0 16 0 1 (rec 5 2 0 1 6 1 0 0 (rec 6 2 0 2 5 1 16 1 (rec 0 2 0 3 5 0 16 1 []))))))

-- "5 equal; 6 less (unsigned). Ops 5 and 6 give 1 or 0."
comparisons_run : replayed_into comparisons (6 ∷ []) (9 ∷ 9 ∷ 9 ∷ 9 ∷ []) ≡ 0 ∷ 1 ∷ 1 ∷ 0 ∷ []
unfolding computing comparisons
comparisons_run = refl

-- ---- Guards

-- Thread 0: global 0 gets 5 where local 0 is zero; local 0 is 1; global 1 gets 6 where local 0 is zero; global 2 gets 7 where
-- local 15 is zero; global 3 gets 8 where local 15 is not zero; global 4 gets 9 where local 0 is not zero.
guards : List ℕ
unfolding file
guards = file (header 2 0 5 0 1 0 0 0)
    (rec 2 2 17 0 0 16 0 5 (rec 3 1 0 0 0 16 0 1 (rec 4 2 17 1 0 16 0 6 (rec 5 2 32 2 0 16 0 7 (rec 6 2 16 3 0 16 0 8 (rec 0 2 1 4 0 16 0 9 []))))))

-- "1 to 16 means local (guard − 1) is not zero; 17 to 32 means local (guard − 17) is zero."
guards_run : replayed_into guards (6 ∷ []) (3 ∷ 3 ∷ 3 ∷ 3 ∷ 3 ∷ []) ≡ 5 ∷ 0 ∷ 7 ∷ 0 ∷ 9 ∷ []
unfolding computing guards
guards_run = refl
