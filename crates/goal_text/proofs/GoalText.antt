-- The text of the goal: what the table's rows put before `false`, and a closing parenthesis for each part. Assumes nothing. Met again in
-- `put_goal`.
use mathlib.Core.Path.{◌≡◌, refl, sym, ap, ◌∙◌}
use Prim.Native.Nat.{ℕ, zero, suc, ◌+◌}
use mathlib.Core.List.{List, [], ◌∷◌, ◌++◌, append_assoc, append-nil}
use native.Mathlib.Omega.{arith}
use Rattle.model.specs.Word.{bit}
use Rattle.model.specs.CaseFile.{Line, Case, case_of, sum_of_lines, line_at}
use Rattle.model.specs.declared.Kind.{Kind}
use Rattle.model.specs.declared.Kind.TheVariants.{Compute, Store, Load, Input, Assert, Assume, Lock, Unlock}
use Rattle.model.specs.Line.{guard_name, target_name}
use Rattle.model.specs.Copies.{copy_of}
use Rattle.model.specs.Table.{value_rows, all_value_rows}
use Rattle.laws.specs.Accepted.{Accepted}
use Rattle.laws.specs.Order.{AllLines, AllThreads}
use Rattle.laws.proofs.AllLines.{all_threads_lem}
use Rattle.laws.proofs.LineFound.{line_found}
use Rattle.laws.proofs.Lines.{numbers_once}
use Rattle.smt.specs.Term.{Formula}
use Rattle.smt.specs.Spelling.{ascii, formula_text}
use Rattle.script.specs.Assertions.{is_zero, value_of, sources_of, unlocks_as_stranger, or_breaks, some_breaks, some_thread_breaks}
use Rattle.spell.specs.declared.Writer.{Writer}
use Rattle.spell.specs.Spelt.{Puts}
use Rattle.spell.specs.Atoms.{closing}
use Rattle.spell.proofs.Spelling.{puts_then, puts_as}
use Rattle.linked.proofs.Nesting.{head_of_two}
use Rattle.goal_text.specs.Goal.{has_part, parts_of, or_head, part_head, row_heads, goal_heads}
use Rattle.goal_text.proofs.RowHeads.{heads_append, line_heads, table_heads}

closing_more : (n m : ℕ) → closing n ++ closing m ≡ closing (m + n)
unfolding closing
closing_more zero m = let e : m + 0 ≡ m = omega arith in rw e
closing_more (suc n) m = let e : m + suc n ≡ suc (m + n) = omega arith in rw e (ap (λ (xs : List ℕ). 41 ∷ xs) (closing_more n m))

-- What is outside encloses what is inside.
enclosed : (here heads text : List ℕ) (n m : ℕ) → here ++ ((heads ++ (text ++ closing n)) ++ closing m) ≡ (here ++ heads) ++ (text ++ closing (m + n))
enclosed here heads text n m =
    simp append_assoc (ap (λ (xs : List ℕ). here ++ (heads ++ (text ++ xs))) (closing_more n m))

module _ (case : Case) (sources : List ℕ) where
  line_text : (κ : Kind) (earlier : List Line) (l : Line) (f : Formula)
      → formula_text (or_breaks κ case sources earlier l f)
      ≡ part_head κ case sources l (copy_of case.G (guard_name l) earlier) (copy_of case.G (target_name case.G l) earlier) ++ (formula_text f ++ closing (bit (has_part κ)))
  unfolding or_breaks part_head or_head closing formula_text
  line_text Compute earlier l f = sym (append-nil (formula_text f))
  line_text Store earlier l f = sym (append-nil (formula_text f))
  line_text Load earlier l f = sym (append-nil (formula_text f))
  line_text Input earlier l f = sym (append-nil (formula_text f))
  line_text Assert earlier l f = head_of_two (ascii "(or ") (formula_text (is_zero (value_of l.number))) (formula_text f)
  line_text Assume earlier l f = sym (append-nil (formula_text f))
  line_text Lock earlier l f = sym (append-nil (formula_text f))
  line_text Unlock earlier l f =
      head_of_two (ascii "(or ")
      (formula_text (unlocks_as_stranger case sources l (copy_of case.G (guard_name l) earlier) (copy_of case.G (target_name case.G l) earlier))) (formula_text f)

  abbrev parts : List Line → ℕ
  parts ls = sum_of_lines (λ l. bit (has_part l.kind)) ls

  thread_text : (earlier ls : List Line) (f : Formula) → AllLines (λ l. line_at case l.number ≡ l) ls
      → formula_text (some_breaks case sources earlier ls f) ≡ row_heads case sources (value_rows case earlier ls) ++ (formula_text f ++ closing (parts ls))
  unfolding some_breaks closing value_rows row_heads
  thread_text earlier [] f found = sym (append-nil (formula_text f))
  thread_text earlier (l ∷ ls) f found =
      let rest = row_heads case sources (value_rows case (l ∷ earlier) ls) in
      let here = part_head l.kind case sources l (copy_of case.G (guard_name l) earlier) (copy_of case.G (target_name case.G l) earlier) in
      line_text l.kind earlier l (some_breaks case sources (l ∷ earlier) ls f)
      ∙ ap (λ (xs : List ℕ). here ++ (xs ++ closing (bit (has_part l.kind)))) (thread_text (l ∷ earlier) ls f found.1)
      ∙ enclosed here rest (formula_text f) (parts ls) (bit (has_part l.kind))
      ∙ ap (λ (xs : List ℕ). xs ++ (formula_text f ++ closing (parts (l ∷ ls)))) (sym (line_heads case sources earlier l ls found.0))

  threads_text : (threads : List (List Line)) → AllThreads (λ l. line_at case l.number ≡ l) threads
      → formula_text (some_thread_breaks case sources threads) ≡ row_heads case sources (all_value_rows case threads) ++ (ascii "false" ++ closing (parts_of threads))
  unfolding some_thread_breaks formula_text closing all_value_rows row_heads
  threads_text [] found = refl
  threads_text (ls ∷ threads) found =
      let first = row_heads case sources (value_rows case [] ls) in
      let rest = row_heads case sources (all_value_rows case threads) in
      thread_text [] ls (some_thread_breaks case sources threads) found.0
      ∙ ap (λ (xs : List ℕ). first ++ (xs ++ closing (parts ls))) (threads_text threads found.1)
      ∙ enclosed first rest (ascii "false") (parts_of threads) (parts ls)
      ∙ ap (λ (xs : List ℕ). xs ++ (ascii "false" ++ closing (parts_of (ls ∷ threads)))) (sym (heads_append case sources (value_rows case [] ls) (all_value_rows case threads)))

module _ (bytes : List ℕ) (ok : Accepted bytes) where
  abbrev case : Case
  case = case_of bytes

  found : AllThreads (λ l. line_at case l.number ≡ l) case.threads
  found = all_threads_lem (λ l. line_at case l.number ≡ l) case.threads (λ t h. line_found case (numbers_once bytes ok) t)

  goal_text : formula_text (some_thread_breaks case (sources_of case) case.threads)
      ≡ goal_heads bytes ++ (ascii "false" ++ closing (parts_of case.threads))
  goal_text =
      threads_text case (sources_of case) case.threads found
      ∙ ap (λ (xs : List ℕ). xs ++ (ascii "false" ++ closing (parts_of case.threads))) (sym (table_heads case (sources_of case)))

  pub goal_spelt : {many : ℕ} → many ≡ parts_of case.threads → {d a b e : Writer} → Puts (goal_heads bytes) d a
      → Puts (ascii "false") a b → Puts (closing many) b e → Puts (formula_text (some_thread_breaks case (sources_of case) case.threads)) d e
  goal_spelt is heads word close = puts_as (sym goal_text) (puts_then heads (puts_then word (rw is at close)))
