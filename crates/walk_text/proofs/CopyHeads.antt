-- The text of a walk over copies: a head for each of them, what stands innermost, and the closing parentheses.
-- Assumes nothing. Met again in `put_copy`, `put_copies` and `put_walk`.
use mathlib.Core.Path.{◌≡◌, refl, sym, ap, ◌∙◌}
use mathlib.Core.Logic.{◌≢◌}
use Prim.Native.Nat.{ℕ, zero, suc, ◌+◌, ◌-◌, ◌*◌, ◌≤◌, ◌<◌}
use mathlib.Core.List.{List, [], ◌∷◌, ◌++◌, append-nil}
use native.Mathlib.Omega.{arith}
use borrow.Author.Tests.{eq-eqb, ne_eqb}
use lib.ListN.{length, get_or}
use Rattle.model.specs.Limits.{most_lines}
use Rattle.model.specs.CaseFile.{Case}
use Rattle.smt.specs.Term.{Term, variable, constant}
use Rattle.smt.specs.Spelling.{ascii, formula_text}
use Rattle.script.specs.Assertions.{equal, block_of, value_of, block_value, value_before, same, sources_of}
use Rattle.spell.specs.Spelt.{top, Puts}
use Rattle.spell.specs.declared.Writer.{Writer}
use Rattle.spell.specs.Atoms.{closing}
use Rattle.spell.proofs.Spelling.{Remains, left_start, left_more, left_end, puts_then, puts_as}
use Rattle.linked.specs.Shape.{HasShape, HasFrame, block_value_number}
use Rattle.linked.specs.declared.Shape.{Shape}
use Rattle.linked.specs.declared.Frame.{Frame}
use Rattle.linked.proofs.Nesting.{closing_none, nested, head_of_three}
use Rattle.walk_text.specs.Walk.{copies_back, walk_over, copy_head, copy_heads, HeadsPut}

-- ---- Copies back from p

module _ (previous : List ℕ) where
  copies_end : (most p : ℕ) → p ≡ 0 → copies_back previous most p ≡ []
  unfolding copies_back
  copies_end zero p e = refl
  copies_end (suc most) p e = rw (eq-eqb p 0 e)

  copies_spent : (most p : ℕ) → most ≡ 0 → copies_back previous most p ≡ []
  unfolding copies_back
  copies_spent most p e = rw e

  copies_go_on : (j p : ℕ) → j < most_lines → p ≢ 0
      → copies_back previous (most_lines - j) p ≡ p ∷ copies_back previous (most_lines - (j + 1)) (get_or previous p 0)
  unfolding copies_back
  copies_go_on j p h n = let z : most_lines - j ≡ suc (most_lines - (j + 1)) = omega arith in rw (z, ne_eqb p 0 n)

-- ---- One copy's head, and all heads

ending : (case : Case) (shape : Shape) → HasShape case shape → (i g : ℕ) {x : ℕ} → x ≡ block_value_number shape i g → variable x ≡ block_value case i g
ending case shape s i g e = rw (e, s.base, s.items)

module _ (case : Case) (shape : Shape) (s : HasShape case shape) (sources : List ℕ) (i g p : ℕ)
    {d a b e f h : Writer} where
  pub copy_spelt : {block value x : ℕ} → block ≡ 2 * (p - 1) → value ≡ 2 * (p - 1) + 1 → x ≡ block_value_number shape i g
      → Puts (ascii "(ite ") d a → Puts (formula_text (equal (variable block) (constant i))) a b → Puts (ascii " ") b e
      → Puts (formula_text (same sources (variable x) (variable value))) e f → Puts (ascii " ") f h → Puts (copy_head case sources i g p) d h
  unfolding copy_head
  copy_spelt eb ev ex word asked blank alike behind =
      puts_then word (puts_then (rw eb at asked) (puts_then blank (puts_then (rw (ev, ending case shape s i g ex) at alike) behind)))

module _ (case : Case) (sources : List ℕ) (i g : ℕ) where
  abbrev innermost : List ℕ
  innermost = formula_text (same sources (block_value case i g) (value_before case i g))

  walk_text : (ps : List ℕ) → formula_text (walk_over case sources i g ps) ≡ copy_heads case sources i g ps ++ (innermost ++ closing (length ps))
  unfolding formula_text walk_over copy_heads copy_head
  walk_text [] = rw closing_none (sym (append-nil innermost))
  walk_text (p ∷ ps) =
      head_of_three (ascii "(ite ") (formula_text (equal (block_of p) (constant i))) (formula_text (same sources (block_value case i g) (value_of p)))
      (formula_text (walk_over case sources i g ps))
      ∙ nested (copy_head case sources i g p) (copy_heads case sources i g ps) innermost (length ps) (walk_text ps)

-- ---- The loop over the copies, at copy p, after so many

pub record Walking (frame : Frame) (previous : List ℕ) (i g last : ℕ) (before after : Writer) (p many : ℕ) : Type 0 where
  pub upto : many ≤ most_lines
  pub count : many + length (copies_back previous (most_lines - many) p) ≡ length (copies_back previous most_lines last)
  pub left : (case : Case) → HasFrame case frame
      → Remains (copy_heads case (sources_of case) i g (copies_back previous most_lines last)) before after (copy_heads case (sources_of case) i g (copies_back previous (most_lines - many) p))

module _ {frame : Frame} {previous : List ℕ} {i g last : ℕ} {before : Writer} where
  pub walking_start : before.at ≤ top → Walking frame previous i g last before before last 0
  walking_start h = record { upto = omega arith; count = omega arith; left = λ case f. left_start h refl }

  module _ {after : Writer} {p many : ℕ} (v : Walking frame previous i g last before after p many) where
    pub walking_more : many < most_lines → p ≢ 0 → {then : Writer} {q : ℕ}
        → ((case : Case) → HasFrame case frame → Puts (copy_head case (sources_of case) i g p) after then)
        → q ≡ get_or previous p 0 → Walking frame previous i g last before then q (many + 1)
    unfolding copy_heads
    walking_more h n put e = record {
      upto = omega arith;
      count = rw e (omega (arith, v.count, ap length (copies_go_on previous many p h n)));
      left = λ case f. rw e (left_more (v.left case f) (ap (copy_heads case (sources_of case) i g) (copies_go_on previous many p h n)) (put case f));
    }

    -- Where none is left all are put, so many.
    all_put : copies_back previous (most_lines - many) p ≡ [] → HeadsPut frame previous i g last before after many
    unfolding copy_heads
    all_put e = record {
      count = omega (arith, v.count, ap length e);
      text = λ case f. left_end (v.left case f) (ap (copy_heads case (sources_of case) i g) e);
    }

    pub walking_first : p ≡ 0 → HeadsPut frame previous i g last before after many
    walking_first h = all_put (copies_end previous (most_lines - many) p h)

    pub walking_spent : most_lines ≤ many → HeadsPut frame previous i g last before after most_lines
    walking_spent h = let e : many ≡ most_lines = omega (arith, v.upto) in rw e at (all_put (copies_spent previous (most_lines - many) p (omega arith)))

-- ---- The whole walk

pub walk_spelt : (case : Case) (shape : Shape) → HasShape case shape → (sources : List ℕ) (i g : ℕ) (ps : List ℕ)
    {d a b e : Writer} {many x : ℕ} {y : Term} → many ≡ length ps → x ≡ block_value_number shape i g → y ≡ value_before case i g
    → Puts (copy_heads case sources i g ps) d a → Puts (formula_text (same sources (variable x) y)) a b → Puts (closing many) b e
    → Puts (formula_text (walk_over case sources i g ps)) d e
walk_spelt case shape s sources i g ps em ex ey heads base close =
    puts_as (sym (walk_text case sources i g ps)) (puts_then heads (puts_then (rw (ending case shape s i g ex, ey) at base) (rw em at close)))
