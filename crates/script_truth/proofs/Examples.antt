-- The text of case A is the one that docs/SMT-TEXT.md shows, to the byte, and so are the two assertions with links that it shows, and the
-- two about holders.
-- Assumes nothing. No proof uses them: they hold the definitions of the text beside its document.
use Rattle.std.specs.Prelude.{Ok}
use mathlib.Core.Path.{◌≡◌, refl}
use Prim.Native.Nat.{ℕ}
use mathlib.Core.List.{List, [], ◌∷◌}
use lib.ListN.{take, drop}
use Rattle.model.specs.CaseFile.{case_of}
use Rattle.model.specs.Line.{unrun_value}
use Rattle.model.specs.Accept.{verdict}
use Rattle.smt.specs.Spelling.{four_hex, term_text, formula_text, declaration, declarations, assertion, assertion_lines, script_text}
use Rattle.script.specs.Assertions.{value_before, local_with, sources_from, sources_of, linked, same, blocks_from, read_before, read_item, read_name, guard_true, operand, comparison, operation, expression, facts_with, facts, with_facts, is_expression, is_truth, guarded_in, guarded_out, line_assertion, value_assertion, mutex_reads, demand_assertion, walk_back, unlocks_as_stranger, or_breaks, some_breaks, some_thread_breaks, assertion_of, assertions_of, script_of}
use Rattle.script.specs.Text.{smt_text}
use Rattle.correspondence.proofs.Computing.{computing}
use Rattle.correspondence.proofs.CaseA.{bytes_of, case_a, codes_of, lines_of_text}
use Rattle.correspondence.proofs.CaseBytes.{header, rec, file}

-- `unfolding spelling` lets the text of a case compute.
unfoldable spelling : Type 0
unfolding computing unrun_value
    four_hex term_text formula_text declaration declarations assertion assertion_lines script_text
    value_before local_with sources_from sources_of linked same blocks_from read_before read_item read_name guard_true operand comparison operation expression
    facts_with facts with_facts is_expression is_truth guarded_in guarded_out line_assertion value_assertion mutex_reads demand_assertion walk_back
    unlocks_as_stranger or_breaks some_breaks some_thread_breaks assertion_of assertions_of script_of
    smt_text
spelling = Unit

unfoldable pub smt_text_a : List ℕ
unfolding codes_of lines_of_text
smt_text_a = lines_of_text (
    "(set-logic QF_BV)"
    ∷ "(declare-fun v0 () (_ BitVec 16))"
    ∷ "(declare-fun v1 () (_ BitVec 16))"
    ∷ "(declare-fun v2 () (_ BitVec 16))"
    ∷ "(declare-fun v3 () (_ BitVec 16))"
    ∷ "(declare-fun v4 () (_ BitVec 16))"
    ∷ "(declare-fun v5 () (_ BitVec 16))"
    ∷ "(declare-fun v6 () (_ BitVec 16))"
    ∷ "(declare-fun v7 () (_ BitVec 16))"
    ∷ "(declare-fun v8 () (_ BitVec 16))"
    ∷ "(declare-fun v9 () (_ BitVec 16))"
    ∷ "(declare-fun v10 () (_ BitVec 16))"
    ∷ "(declare-fun v11 () (_ BitVec 16))"
    ∷ "(assert (or (= v0 #x0003) (= (bvurem v0 #x0002) #x0000)))"
    ∷ "(assert (bvule v0 v2))"
    ∷ "(assert (or (= v2 #x0003) (= (bvurem v2 #x0002) #x0000)))"
    ∷ "(assert (bvule v2 v4))"
    ∷ "(assert (or (= v4 #x0003) (= (bvurem v4 #x0002) #x0000)))"
    ∷ "(assert (bvule v4 v6))"
    ∷ "(assert (or (= v6 #x0003) (= (bvurem v6 #x0002) #x0000)))"
    ∷ "(assert (or (= v6 #x0003) (= v6 v4)))"
    ∷ "(assert (bvule v6 #x0003))"
    ∷ "(assert (or (= v8 #x0003) (= (bvurem v8 #x0002) #x0001)))"
    ∷ "(assert (bvule v8 #x0003))"
    ∷ "(assert (ite (= v0 #x0003) (= v1 #x0000) (ite (= v0 #x0000) (= v1 #x0000) (ite (= v0 #x0002) (= v1 v11) true))))"
    ∷ "(assert (ite (= v2 #x0003) (= v3 #x0000) (= v3 (bvadd v1 #x0001))))"
    ∷ "(assert (ite (= v4 #x0003) (= v5 #x0000) (ite (= v2 v4) (= v5 v3) (ite (= v4 #x0000) (= v5 #x0000) (ite (= v4 #x0002) (= v5 v11) true)))))"
    ∷ "(assert (ite (= v6 #x0003) (= v7 #x0001) (= v7 (ite (= (ite (= v5 #x0001) #x0001 #x0000) #x0000) #x0000 #x0001))))"
    ∷ "(assert (ite (= v8 #x0003) (= v9 #x0000) (= v9 #x0005)))"
    ∷ "(assert (ite (= v2 #x0000) (= v10 v3) (= v10 #x0000)))"
    ∷ "(assert (ite (= v8 #x0001) (= v11 v9) (= v11 v10)))"
    ∷ "(assert (or (= v7 #x0000) false))"
    ∷ "(check-sat)"
    ∷ [])

pub text_of_case_a : smt_text (case_a 2) ≡ smt_text_a
unfolding spelling case_a smt_text_a
text_of_case_a = refl

-- "With an input at record 1, line 2 storing its local in global 0 and line 3 loading it", T 2, n 1: constraints 8 and 9.
unfoldable pub linked_case : List ℕ
unfolding file header rec bytes_of
linked_case = file (header 2 1 1 0 1 0 0 0) (rec 2 4 0 0 0 0 0 0 (rec 3 2 0 0 0 0 0 0 (rec 0 3 0 1 0 0 0 0 [])))

pub linked_case_accepted : verdict linked_case ≡ Ok tt
unfolding computing linked_case
linked_case_accepted = refl

pub linked_lines : assertion_lines (take 2 (drop 7 (script_of (case_of linked_case)).assertions)) ≡ lines_of_text (
    "(assert (ite (= v2 #x0002) (= v3 #x0000) (and (not (xor (= v3 v1) (= v1 v1))) (= v3 v1))))"
    ∷ "(assert (ite (= v4 #x0002) (= v5 #x0000) (ite (= v2 v4) (and (not (xor (= v5 v1) (= v3 v1))) (= v5 v3)) (ite (= v4 #x0000) (= v5 #x0000) true))))"
    ∷ [])
unfolding spelling linked_case codes_of lines_of_text
linked_lines = refl

-- "With a lock and an unlock of mutex 0 in thread 0, records 1 and 2, and in thread 1 local 0 set by record 3, an unlock of mutex 0 where
-- it is not zero, record 4, and a lock of it, record 5", T 2, n 1: constraints 16 and 19.
unfoldable pub held_case : List ℕ
unfolding file header rec bytes_of
held_case = file (header 2 1 0 1 1 3 0 0)
    (rec 2 7 0 0 0 0 0 0 (rec 0 8 0 0 0 0 0 0 (rec 4 1 0 0 0 16 0 1 (rec 5 8 1 0 0 0 0 0 (rec 0 7 0 0 0 0 0 0 [])))))

pub held_case_accepted : verdict held_case ≡ Ok tt
unfolding computing held_case
held_case_accepted = refl

pub held_line : assertion_lines (take 1 (drop 15 (script_of (case_of held_case)).assertions)) ≡ lines_of_text (
    "(assert (ite (= v8 #x0002) (= v9 #x0000) (= v9 #x0002)))"
    ∷ [])
unfolding spelling held_case codes_of lines_of_text
held_line = refl

pub held_goal : assertion_lines (drop 18 (script_of (case_of held_case)).assertions) ≡ lines_of_text (
    "(assert (or (not (or (= v2 #x0002) (ite (= v0 v2) (= #x0001 v1) (ite (= v2 #x0000) (= #x0001 #x0000) true)))) (or (not (or (= v6 #x0002) (=> (not (= v5 #x0000)) (ite (= v6 #x0001) (= #x0002 v10) true)))) false)))"
    ∷ [])
unfolding spelling held_case codes_of lines_of_text
held_goal = refl
