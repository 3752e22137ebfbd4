-- What a line and a row put before `false` in the goal. Assumes nothing. Met again in `put_zero`, `put_stranger`, `put_part`,
-- `put_head` and `put_heads`.
use mathlib.Core.Path.{◌≡◌, refl, sym, ap, ◌∙◌}
use mathlib.Core.Logic.{◌≢◌}
use Prim.Native.Nat.{ℕ, ◌+◌, ◌-◌, ◌*◌, ◌≤◌, ◌<◌}
use mathlib.Core.List.{List, [], ◌++◌, append_assoc}
use native.Mathlib.Omega.{arith}
use native.Mathlib.Numerals.{add-one}
use borrow.Author.Tests.{ne_eqb}
use lib.ListN.{drop, drop_of_length-le}
use Rattle.model.specs.CaseFile.{Line, Case, case_of, line_at, records}
use Rattle.model.specs.Line.{holder}
use Rattle.model.specs.Table.{Row, table}
use Rattle.model.specs.declared.Kind.{Kind}
use Rattle.model.specs.declared.Kind.TheVariants.{Compute, Store, Load, Input, Assert, Assume, Lock, Unlock}
use Rattle.smt.specs.Term.{constant}
use Rattle.smt.specs.Spelling.{ascii, formula_text}
use Rattle.script.specs.Assertions.{equal, is_zero, value_of, sources_of, not_run, mutex_reads, unlocks_as_stranger}
use Rattle.spell.specs.Spelt.{top, Puts}
use Rattle.spell.specs.declared.Writer.{Writer}
use Rattle.spell.specs.Atoms.{atom_term}
use Rattle.spell.specs.declared.Atom.TheVariants.{Variable, Constant}
use Rattle.spell.proofs.Spelling.{puts_nothing, puts_then, Remains, left_start, left_more, left_end, puts_as}
use Rattle.laws.specs.Accepted.{Accepted}
use Rattle.laws.specs.RecordNumber.{RecordNumber}
use Rattle.linked.specs.declared.Frame.{Frame}
use Rattle.line_threads.specs.Threads.{CaseHanded, row_at}
use Rattle.line_threads.proofs.TableRows.{table_row, table_row_of}
use Rattle.goal_text.specs.Goal.{or_head, part_head, row_head, row_heads, goal_heads}

-- ---- One line.

pub zero_spelt : (k : ℕ) {d a b e : Writer} {value : ℕ} → value ≡ 2 * (k - 1) + 1 → Puts (ascii "(or ") d a
    → Puts (formula_text (equal (atom_term (Variable value)) (atom_term (Constant 0)))) a b
    → Puts (ascii " ") b e → Puts (or_head (is_zero (value_of k))) d e
unfolding or_head
zero_spelt k is word zero blank = rw (← is) (puts_then word (puts_then zero blank))

wrapped : (x y : List ℕ) → ((x ++ (ascii " " ++ (y ++ ascii ")"))) ++ ascii ")") ++ ascii " " ≡ x ++ (ascii " " ++ (y ++ ascii ")) "))
wrapped x y =
    append_assoc (x ++ (ascii " " ++ (y ++ ascii ")"))) (ascii ")") (ascii " ") ∙ append_assoc x (ascii " " ++ (y ++ ascii ")")) (ascii ") ")
    ∙ ap (λ (bytes : List ℕ). x ++ (ascii " " ++ bytes)) (append_assoc y (ascii ")") (ascii ") "))

module _ (case : Case) (sources : List ℕ) (l : Line) (guard target : ℕ) where
  stranger_text : or_head (unlocks_as_stranger case sources l guard target)
      ≡ ascii "(or (not (or " ++ (formula_text (not_run case l.number) ++ (ascii " " ++ (formula_text (mutex_reads case sources (constant (holder l)) l guard target) ++ ascii ")) ")))
  unfolding or_head unlocks_as_stranger formula_text
  stranger_text =
      ap (λ (bytes : List ℕ). ascii "(or (not (or " ++ bytes)
      (wrapped (formula_text (not_run case l.number)) (formula_text (mutex_reads case sources (constant (holder l)) l guard target)))

  pub stranger_spelt : {own : ℕ} → own ≡ holder l → {d a b e x y : Writer} → Puts (ascii "(or (not (or ") d a
      → Puts (formula_text (not_run case l.number)) a b → Puts (ascii " ") b e
      → Puts (formula_text (mutex_reads case sources (constant own) l guard target)) e x → Puts (ascii ")) ") x y
      → Puts (or_head (unlocks_as_stranger case sources l guard target)) d y
  stranger_spelt is word unrun blank reads close =
      puts_as (sym stranger_text) (puts_then word (puts_then unrun (puts_then blank (puts_then (rw is at reads) close))))

module _ (case : Case) (sources : List ℕ) (l : Line) (guard target : ℕ) {w : Writer} (room : w.at ≤ top) where
  -- A line of another kind has no part.
  pub part_other : (kind : Kind) → kind ≢ Assert → kind ≢ Unlock → Puts (part_head kind case sources l guard target) w w
  unfolding part_head
  part_other Compute n m = puts_nothing room
  part_other Store n m = puts_nothing room
  part_other Load n m = puts_nothing room
  part_other Input n m = puts_nothing room
  part_other Assert n m = absurd (n refl)
  part_other Assume n m = puts_nothing room
  part_other Lock n m = puts_nothing room
  part_other Unlock n m = absurd (m refl)

-- ---- One row.

module _ (case : Case) (sources : List ℕ) {w u : Row} (is : w ≡ u) where
  pub row_four : w.kind ≡ 4 → {l : Line} → l ≡ line_at case w.one → {d a : Writer} → Puts (part_head l.kind case sources l w.two w.five) d a
      → Puts (row_head case sources u) d a
  unfolding row_head
  row_four e found put = rw (← is, e, ← found) put

  pub row_other : w.kind ≢ 4 → {d a : Writer} → Puts [] d a → Puts (row_head case sources u) d a
  unfolding row_head
  row_other n put = rw (← is, ne_eqb w.kind 4 n) put

module _ {bytes : List ℕ} {frame : Frame} {xs : List ℕ} {count : ℕ} {threads : List ℕ} (ok : Accepted bytes) (h : CaseHanded bytes frame xs count threads) where
  -- The line of a 4.
  pub four_there : {j : ℕ} → j < count → {w : Row} → w ≡ row_at xs j → w.kind ≡ 4 → RecordNumber (records bytes) w.one
  four_there {j} below {w} is e = (rw (← is) at (table_row_of ok h.has j below)).line (omega (arith, e))

-- ---- The loop over the rows, at row j.

abbrev heads_from : List ℕ → ℕ → List ℕ
heads_from bytes j = row_heads (case_of bytes) (sources_of (case_of bytes)) (drop j (table (case_of bytes)))

pub record Heading (bytes : List ℕ) (before after : Writer) (j : ℕ) : Type 0 where
  pub left : Remains (goal_heads bytes) before after (heads_from bytes j)

pub heading_start : {bytes : List ℕ} {before : Writer} → before.at ≤ top → Heading bytes before before 0
heading_start h = record { left = left_start h refl }

module _ {bytes : List ℕ} {frame : Frame} {xs : List ℕ} {count : ℕ} {threads : List ℕ} (h : CaseHanded bytes frame xs count threads)
    {before after : Writer} {j : ℕ} (v : Heading bytes before after j) where
  pub heading_more : j < count → {then : Writer} → Puts (row_head (case_of bytes) (sources_of (case_of bytes)) (row_at xs j)) after then → Heading bytes before then (j + 1)
  unfolding row_heads
  heading_more below put = record { left = left_more v.left one put }
    where
      one : heads_from bytes j ≡ row_head (case_of bytes) (sources_of (case_of bytes)) (row_at xs j) ++ heads_from bytes (j + 1)
      one = rw (add-one j, table_row h.has j below)

  pub heading_end : count ≤ j → Puts (goal_heads bytes) before after
  unfolding row_heads
  heading_end past = left_end v.left none
    where
      none : heads_from bytes j ≡ []
      none = rw (drop_of_length-le (table (case_of bytes)) {i = j} (omega (arith, h.has.rows)))
