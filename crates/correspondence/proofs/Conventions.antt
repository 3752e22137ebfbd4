-- Conventions of document 01, as worked examples: the columns of a constraint, the numbers of variables, the order of input
-- values, the bytes of a field, which assert a reply names; and the numbers that C gets. A consistent renaming, such as two columns
-- exchanged both where a row is made and where it is read, keeps the main theorem; it does not keep these, computed from bytes over
-- what the calls answer.
-- Assumes nothing. No proof uses them: they hold the definitions beside the document.
use Rattle.std.specs.Prelude.{Ok, Err}
use mathlib.Core.Path.{◌≡◌, refl}
use Prim.Native.Nat.{ℕ}
use mathlib.Core.List.{List, [], ◌∷◌}
use lib.ListN.{replicate}
use Rattle.model.specs.Accept.{verdict}
use Rattle.model.specs.Answers.{encoded, encoded_into, checked, decoded, decoded_into, replayed, replayed_into}
use Rattle.model.specs.Answers.{verdict_numbers, encoded_numbers, checked_numbers, decoded_numbers, replayed_numbers}
use Rattle.model.specs.Listing.{listed, listed_numbers}
use Rattle.model.specs.declared.Numbers.{Numbers}
use Rattle.model.specs.declared.Checked.TheVariants.{Meets, Fails}
use Rattle.model.specs.declared.Replayed.TheVariants.{Violated, CutOff}
use Rattle.correspondence.proofs.Computing.{computing}
use Rattle.correspondence.proofs.CaseA.{case_a}
use Rattle.correspondence.proofs.CaseBytes.{header, rec, file}
use Rattle.model.specs.declared.Refusal.TheVariants as refusals

-- ---- Columns and numbers: a table that has every column in use

-- G 1 and M 1, so that item 0 is global 0 and item 1 is mutex 0. In chain order, by record:
-- thread 0: 7 local 0 is 20; 12 local 1 is 6; 9 local 3 is 30; 5 global 0 gets 11; 3 where local 3 is not zero, global 0 gets
-- local 0 − local 1; 10 lock; 4 where local 0 is not zero, lock; 13 where local 1 is not zero, local 0 gets global 0;
-- 1 where local 3 is not zero, assert that locals 0 and 1 are equal;
-- thread 1: 11 input to local 0; 6 unlock; 2 global 0 gets local 0; 8 where local 0 is not zero, assume that local 2 is less.
columns : List ℕ
unfolding file
columns = file (header 2 2 1 1 7 11 0 0)
    (rec 0 5 4 0 5 0 1 0
    (rec 8 2 0 0 0 0 0 0
    (rec 10 2 4 0 2 0 1 0
    (rec 13 7 1 0 0 0 0 0
    (rec 3 2 0 0 0 16 0 11
    (rec 2 8 0 0 0 0 0 0
    (rec 12 1 0 0 0 16 0 20
    (rec 0 6 1 0 6 2 0 0
    (rec 5 1 0 3 0 16 0 30
    (rec 4 7 0 0 0 0 0 0
    (rec 6 4 0 0 0 0 0 0
    (rec 9 1 0 1 0 16 0 6
    (rec 1 3 2 0 0 0 0 0
    [])))))))))))))

-- "3, line, T, thread", "1, line, next line", "2, last line, n": "for each thread and line a 3, then a 1 or (last line) a 2"; Five: "8 (line,
-- line before)", at records 12, 9 and 1 and at 8, after their 3s: the line before in the chain, whatever its number;
-- "then for each thread and line a 4, and a 5 for assume and lock; then the 6s by block and item; then the 7."
-- "4, line, guard copy, a copy, b copy, target copy": record 3 has five different numbers, and so has 13 but for b.
-- "5, line, guard copy, target copy": record 4's, the second lock; 8's is an assume ("both copies then 0").
-- "6, item, block i, last copy in thread i modulo T": items 0 and 1 in block 0, then in block 1.
-- "unused ones are 0": op 0 has no b and a lock no a, though those fields' 0 is also the number of a local that has a copy.
columns_listing : List ℕ
columns_listing =
    3 ∷ 7 ∷ 2 ∷ 0 ∷ 0 ∷ 0
    ∷ 1 ∷ 7 ∷ 12 ∷ 0 ∷ 0 ∷ 0
    ∷ 3 ∷ 12 ∷ 2 ∷ 0 ∷ 0 ∷ 0
    ∷ 8 ∷ 12 ∷ 7 ∷ 0 ∷ 0 ∷ 0
    ∷ 1 ∷ 12 ∷ 9 ∷ 0 ∷ 0 ∷ 0
    ∷ 3 ∷ 9 ∷ 2 ∷ 0 ∷ 0 ∷ 0
    ∷ 8 ∷ 9 ∷ 12 ∷ 0 ∷ 0 ∷ 0
    ∷ 1 ∷ 9 ∷ 5 ∷ 0 ∷ 0 ∷ 0
    ∷ 3 ∷ 5 ∷ 2 ∷ 0 ∷ 0 ∷ 0
    ∷ 1 ∷ 5 ∷ 3 ∷ 0 ∷ 0 ∷ 0
    ∷ 3 ∷ 3 ∷ 2 ∷ 0 ∷ 0 ∷ 0
    ∷ 1 ∷ 3 ∷ 10 ∷ 0 ∷ 0 ∷ 0
    ∷ 3 ∷ 10 ∷ 2 ∷ 0 ∷ 0 ∷ 0
    ∷ 1 ∷ 10 ∷ 4 ∷ 0 ∷ 0 ∷ 0
    ∷ 3 ∷ 4 ∷ 2 ∷ 0 ∷ 0 ∷ 0
    ∷ 1 ∷ 4 ∷ 13 ∷ 0 ∷ 0 ∷ 0
    ∷ 3 ∷ 13 ∷ 2 ∷ 0 ∷ 0 ∷ 0
    ∷ 1 ∷ 13 ∷ 1 ∷ 0 ∷ 0 ∷ 0
    ∷ 3 ∷ 1 ∷ 2 ∷ 0 ∷ 0 ∷ 0
    ∷ 8 ∷ 1 ∷ 13 ∷ 0 ∷ 0 ∷ 0
    ∷ 2 ∷ 1 ∷ 2 ∷ 0 ∷ 0 ∷ 0
    ∷ 3 ∷ 11 ∷ 2 ∷ 1 ∷ 0 ∷ 0
    ∷ 1 ∷ 11 ∷ 6 ∷ 0 ∷ 0 ∷ 0
    ∷ 3 ∷ 6 ∷ 2 ∷ 1 ∷ 0 ∷ 0
    ∷ 1 ∷ 6 ∷ 2 ∷ 0 ∷ 0 ∷ 0
    ∷ 3 ∷ 2 ∷ 2 ∷ 1 ∷ 0 ∷ 0
    ∷ 1 ∷ 2 ∷ 8 ∷ 0 ∷ 0 ∷ 0
    ∷ 3 ∷ 8 ∷ 2 ∷ 1 ∷ 0 ∷ 0
    ∷ 8 ∷ 8 ∷ 2 ∷ 0 ∷ 0 ∷ 0
    ∷ 2 ∷ 8 ∷ 2 ∷ 0 ∷ 0 ∷ 0
    ∷ 4 ∷ 7 ∷ 0 ∷ 0 ∷ 0 ∷ 0
    ∷ 4 ∷ 12 ∷ 0 ∷ 0 ∷ 0 ∷ 0
    ∷ 4 ∷ 9 ∷ 0 ∷ 0 ∷ 0 ∷ 0
    ∷ 4 ∷ 5 ∷ 0 ∷ 0 ∷ 0 ∷ 0
    ∷ 4 ∷ 3 ∷ 9 ∷ 7 ∷ 12 ∷ 5
    ∷ 4 ∷ 10 ∷ 0 ∷ 0 ∷ 0 ∷ 0
    ∷ 5 ∷ 10 ∷ 0 ∷ 0 ∷ 0 ∷ 0
    ∷ 4 ∷ 4 ∷ 7 ∷ 0 ∷ 0 ∷ 10
    ∷ 5 ∷ 4 ∷ 7 ∷ 10 ∷ 0 ∷ 0
    ∷ 4 ∷ 13 ∷ 12 ∷ 3 ∷ 0 ∷ 7
    ∷ 4 ∷ 1 ∷ 9 ∷ 13 ∷ 12 ∷ 0
    ∷ 4 ∷ 11 ∷ 0 ∷ 0 ∷ 0 ∷ 0
    ∷ 4 ∷ 6 ∷ 0 ∷ 0 ∷ 0 ∷ 0
    ∷ 4 ∷ 2 ∷ 0 ∷ 11 ∷ 0 ∷ 0
    ∷ 4 ∷ 8 ∷ 11 ∷ 0 ∷ 11 ∷ 0
    ∷ 5 ∷ 8 ∷ 0 ∷ 0 ∷ 0 ∷ 0
    ∷ 6 ∷ 0 ∷ 0 ∷ 3 ∷ 0 ∷ 0
    ∷ 6 ∷ 1 ∷ 0 ∷ 4 ∷ 0 ∷ 0
    ∷ 6 ∷ 0 ∷ 1 ∷ 2 ∷ 0 ∷ 0
    ∷ 6 ∷ 1 ∷ 1 ∷ 6 ∷ 0 ∷ 0
    ∷ 7 ∷ 0 ∷ 0 ∷ 0 ∷ 0 ∷ 0
    ∷ []

columns_listing_lem : encoded_into columns (replicate 306 9) ≡ columns_listing
unfolding computing columns columns_listing
columns_listing_lem = refl

-- 51 constraints; "2R + n × (G + M)": 26 + 2 × 2.
columns_counts : encoded columns 306 ≡ Ok (record { constraints = 51; variables = 30 })
unfolding computing columns
columns_counts = refl

-- "Record k has variable 2(k − 1), its block number, and 2(k − 1) + 1, its value.": records 1 to 13, with thread 0's last three
-- lines in block 2 and thread 1's in block 1; then the block values that are given.
assigned : ℕ → ℕ → ℕ → ℕ → List ℕ
assigned w x y z =
    2 ∷ 0 ∷ 1 ∷ 25 ∷ 0 ∷ 14 ∷ 2 ∷ 1 ∷ 0 ∷ 11 ∷ 1 ∷ 0 ∷ 0 ∷ 20 ∷ 1 ∷ 1 ∷ 0 ∷ 30 ∷ 0 ∷ 1 ∷ 1 ∷ 25 ∷ 0 ∷ 6 ∷ 2 ∷ 25
    ∷ w ∷ x ∷ y ∷ z ∷ []

-- "block i (0 ≤ i < n), item g at 2R + i × (G + M) + g, globals first, then mutexes": global 0 has 14 and then 25, the mutex is
-- locked in block 0 and free in block 1.
block_values : checked columns (assigned 14 1 25 0) ≡ Ok Meets
unfolding computing columns assigned
block_values = refl

-- The items of block 0 exchanged: row 47 is the 6 of item 0 in block 0.
items_of_block_0_exchanged : checked columns (assigned 1 14 25 0) ≡ Ok (Fails 47)
unfolding computing columns assigned
items_of_block_0_exchanged = refl

-- The items of block 1 exchanged: the mutex reads 25 at record 4 in block 2, and row 39 is its 5.
items_of_block_1_exchanged : checked columns (assigned 14 1 0 25) ≡ Ok (Fails 39)
unfolding computing columns assigned
items_of_block_1_exchanged = refl

-- The blocks of item 0 exchanged: record 13 in block 2 loads 14, and row 40 is its 4.
blocks_of_item_0_exchanged : checked columns (assigned 25 1 14 0) ≡ Ok (Fails 40)
unfolding computing columns assigned
blocks_of_item_0_exchanged = refl

-- The blocks of item 1 exchanged: the mutex reads 1 at record 4.
blocks_of_item_1_exchanged : checked columns (assigned 14 0 25 1) ≡ Ok (Fails 39)
unfolding computing columns assigned
blocks_of_item_1_exchanged = refl

-- By item and then block: record 13 loads 1.
block_and_item_exchanged : checked columns (assigned 14 25 1 0) ≡ Ok (Fails 40)
unfolding computing columns assigned
block_and_item_exchanged = refl

-- "walking back over that thread's copies of the item, the block value is that of the first with block number i": record 10's,
-- since 4 is in block 2. Row 48 is the 6 of item 1 in block 0.
walks_back : checked columns (assigned 14 0 25 0) ≡ Ok (Fails 48)
unfolding computing columns assigned
walks_back = refl

-- "the length of block i is the number of lines of thread i modulo T whose block number is i", and the input's value.
columns_decoded : decoded_into columns (assigned 14 1 25 0) (replicate 5 9) ≡ 6 ∷ 4 ∷ 3 ∷ 25 ∷ 9 ∷ []
unfolding computing columns assigned
columns_decoded = refl

-- "writes the items' values at the end of the run": "globals first, then mutexes".
columns_replayed : replayed_into columns (6 ∷ 4 ∷ 3 ∷ 25 ∷ []) (replicate 3 9) ≡ 25 ∷ 1 ∷ 9 ∷ []
unfolding computing columns
columns_replayed = refl

-- ---- Fields of two bytes, and initial values

-- T 2, n 0, G 2, M 1 and no records, written as bytes: the initial values are 44 + 2 × 256 and 7 + 1 × 256.
initial_values : List ℕ
initial_values =
    2 ∷ 0 ∷ 0 ∷ 0 ∷ 2 ∷ 0 ∷ 1 ∷ 0 ∷ 0 ∷ 0 ∷ 0 ∷ 0 ∷ 0 ∷ 0 ∷ 0 ∷ 0
    ∷ 44 ∷ 2 ∷ 7 ∷ 1 ∷ 0 ∷ 0 ∷ 0 ∷ 0 ∷ 0 ∷ 0 ∷ 0 ∷ 0 ∷ 0 ∷ 0 ∷ 0 ∷ 0
    ∷ []

-- "Fields are unsigned, 16 bits wide, low byte first"; "the initial values of globals 0 to 7"; "globals are at their initial
-- values and mutexes at 0".
initial_values_lem : replayed_into initial_values (0 ∷ []) (replicate 4 9) ≡ 556 ∷ 263 ∷ 0 ∷ 9 ∷ []
unfolding computing initial_values
initial_values_lem = refl

-- ---- The order of input values

-- Records count down along both chains, and thread 0 has the higher ones. Thread 0: inputs 9 and 8 to locals 0 and 1, which
-- globals 0 and 1 get. Thread 1: inputs 5 and 4 to locals 0 and 1, which globals 2 and 3 get; assert 0.
four_inputs : List ℕ
unfolding file
four_inputs = file (header 2 2 4 0 9 5 0 0)
    (rec 0 5 0 0 0 16 0 0
    (rec 1 2 0 3 0 1 0 0
    (rec 2 2 0 2 0 0 0 0
    (rec 3 4 0 1 0 0 0 0
    (rec 4 4 0 0 0 0 0 0
    (rec 0 2 0 1 0 1 0 0
    (rec 6 2 0 0 0 0 0 0
    (rec 7 4 0 1 0 0 0 0
    (rec 8 4 0 0 0 0 0 0
    [])))))))))

-- "then one value for each input line, by thread and then by chain": not by record, and not as they are run, since thread 1
-- runs in block 1 and thread 0 in block 2.
inputs_by_thread_and_chain : replayed_into four_inputs (0 ∷ 5 ∷ 4 ∷ 10 ∷ 20 ∷ 30 ∷ 40 ∷ []) (replicate 4 0) ≡ 10 ∷ 20 ∷ 30 ∷ 40 ∷ []
unfolding computing four_inputs
inputs_by_thread_and_chain = refl

four_inputs_violate : replayed four_inputs (0 ∷ 5 ∷ 4 ∷ 10 ∷ 20 ∷ 30 ∷ 40 ∷ []) 4 ≡ Ok (Violated 1)
unfolding computing four_inputs
four_inputs_violate = refl

-- Block number and value of records 1 to 9, then the globals after block 0 and after block 1.
inputs_decoded : decoded_into four_inputs
    (1 ∷ 0 ∷ 1 ∷ 40 ∷ 1 ∷ 30 ∷ 1 ∷ 40 ∷ 1 ∷ 30 ∷ 2 ∷ 20 ∷ 2 ∷ 10 ∷ 2 ∷ 20 ∷ 2 ∷ 10 ∷ 0 ∷ 0 ∷ 0 ∷ 0 ∷ 0 ∷ 0 ∷ 30 ∷ 40 ∷ []) (replicate 7 0)
    ≡ 0 ∷ 5 ∷ 4 ∷ 10 ∷ 20 ∷ 30 ∷ 40 ∷ []
unfolding computing four_inputs
inputs_decoded = refl

-- Two: "14 at the first such record by thread and chain": not the lowest record. The first that is left with a value is 8 of thread 0,
-- and where thread 0's have none, 5 of thread 1.
unrun_inputs_by_thread : replayed four_inputs (0 ∷ 0 ∷ 1 ∷ 10 ∷ 20 ∷ 30 ∷ 40 ∷ []) 4 ≡ Err (refusals.Stray 8)
unfolding computing four_inputs
unrun_inputs_by_thread = refl

unrun_inputs_by_chain : replayed four_inputs (0 ∷ 0 ∷ 1 ∷ 10 ∷ 0 ∷ 30 ∷ 40 ∷ []) 4 ≡ Err (refusals.Stray 5)
unfolding computing four_inputs
unrun_inputs_by_chain = refl

-- ---- Which assert is named

-- Thread 0: asserts 3 and then 1. Thread 1: assert 2. All are zero.
three_asserts : List ℕ
unfolding file
three_asserts = file (header 2 2 0 0 3 2 0 0) (rec 0 5 0 0 0 16 0 0 (rec 0 5 0 0 0 16 0 0 (rec 1 5 0 0 0 16 0 0 [])))

-- "violated (the first zero assert in running order)": thread 1's, which is not that of thread 0 and not the lowest record.
thread_1_asserts_first : replayed three_asserts (0 ∷ 1 ∷ 2 ∷ []) 0 ≡ Ok (Violated 2)
unfolding computing three_asserts
thread_1_asserts_first = refl

-- Running order 3, 2, 1: neither the lowest record nor the last that is run.
thread_0_asserts_first : replayed three_asserts (1 ∷ 1 ∷ 1 ∷ []) 0 ≡ Ok (Violated 3)
unfolding computing three_asserts
thread_0_asserts_first = refl

-- ---- A cut-off after a zero assert

-- G 2 and M 1. Thread 0: 4 lock; 6 global 0 gets 5; 2 assert 0; 5 global 1 gets 6; 3 lock, which fails; 1 global 0 gets 7.
-- Thread 1: 7 global 1 gets 8.
cut_after_assert : List ℕ
unfolding file
cut_after_assert = file (header 2 1 2 1 4 7 0 0)
    (rec 0 2 0 0 0 16 0 7
    (rec 5 5 0 0 0 16 0 0
    (rec 1 7 0 0 0 0 0 0
    (rec 6 7 0 0 0 0 0 0
    (rec 3 2 0 1 0 16 0 6
    (rec 2 2 0 0 0 16 0 5
    (rec 0 2 0 1 0 16 0 8
    [])))))))

-- "After a zero assert it goes on; a later cut-off is then the reply."
cut_off_after_assert : replayed cut_after_assert (6 ∷ 1 ∷ []) 5 ≡ Ok (CutOff 3)
unfolding computing cut_after_assert
cut_off_after_assert = refl

-- "writes the items' values .. at the cut-off with the failed line not run": what comes before record 3 is done and what comes
-- after it is not. "numbers beyond the result keep their values".
items_at_cut_off : replayed_into cut_after_assert (6 ∷ 1 ∷ []) (90 ∷ 91 ∷ 92 ∷ 93 ∷ 94 ∷ []) ≡ 5 ∷ 6 ∷ 1 ∷ 93 ∷ 94 ∷ []
unfolding computing cut_after_assert
items_at_cut_off = refl

-- ---- The numbers that C gets

-- The refusal and its place, and which answer it is with the values that it carries: on case A, and on cases from above.
numbers : ℕ → ℕ → ℕ → ℕ → ℕ → Numbers
numbers refusal place answer first second = record { refusal = refusal; place = place; answer = answer; first = first; second = second }

accepted_numbers : verdict_numbers (verdict (case_a 2)) ≡ numbers 0 0 1 0 0
unfolding computing case_a numbers
accepted_numbers = refl

-- Refusal 9 at record 2, whose kind is 9.
refused_numbers_lem : verdict_numbers (verdict (file (header 2 0 0 0 1 0 0 0) (rec 2 1 0 0 0 0 0 0 (rec 0 9 0 0 0 0 0 0 [])))) ≡ numbers 9 2 0 0 0
unfolding computing file numbers
refused_numbers_lem = refl

encoded_numbers_lem : encoded_numbers (encoded (case_a 2) 114) ≡ numbers 0 0 1 19 12
unfolding computing case_a numbers
encoded_numbers_lem = refl

meets_numbers : checked_numbers (checked columns (assigned 14 1 25 0)) ≡ numbers 0 0 1 0 0
unfolding computing columns assigned numbers
meets_numbers = refl

fails_numbers : checked_numbers (checked columns (assigned 14 0 25 0)) ≡ numbers 0 0 2 48 0
unfolding computing columns assigned numbers
fails_numbers = refl

decoded_numbers_lem : decoded_numbers (decoded columns (assigned 14 1 25 0) 5) ≡ numbers 0 0 1 4 0
unfolding computing columns assigned numbers
decoded_numbers_lem = refl

violated_numbers : replayed_numbers (replayed (case_a 2) (2 ∷ 1 ∷ 2 ∷ []) 1) ≡ numbers 0 0 1 4 0
unfolding computing case_a numbers
violated_numbers = refl

clean_numbers : replayed_numbers (replayed (case_a 2) (4 ∷ 1 ∷ 0 ∷ []) 1) ≡ numbers 0 0 2 0 0
unfolding computing case_a numbers
clean_numbers = refl

cut_off_numbers : replayed_numbers (replayed cut_after_assert (6 ∷ 1 ∷ []) 5) ≡ numbers 0 0 3 3 0
unfolding computing cut_after_assert numbers
cut_off_numbers = refl

listed_numbers_lem : listed_numbers (listed (case_a 2) 234) ≡ numbers 0 0 1 234 0
unfolding computing case_a numbers
listed_numbers_lem = refl
