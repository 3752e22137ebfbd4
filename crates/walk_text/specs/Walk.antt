-- The assertion of a 6 over record numbers: the copies of an item from its last one back, each asked whether it is in the block.
-- Assumes nothing.
use Rattle.std.specs.Prelude.{◌≡◌, ℕ, zero, suc, ◌%◌, ◌<◌, cond, List, [], ◌∷◌, ◌++◌, reverse, eqb, length, get_or}
use Rattle.model.specs.Limits.{most_lines}
use Rattle.model.specs.CaseFile.{Line, Case, lines_of}
use Rattle.model.specs.Line.{item_name}
use Rattle.model.specs.Copies.{latest}
use Rattle.model.specs.Table.{Row}
use Rattle.smt.specs.Term.{constant, Formula, select}
use Rattle.smt.specs.Spelling.{ascii, formula_text}
use Rattle.script.specs.Assertions.{equal, block_of, value_of, block_value, value_before, same, sources_of, assertion_of}
use Rattle.spell.specs.Spelt.{Puts}
use Rattle.spell.specs.declared.Writer.{Writer}
use Rattle.linked.specs.Shape.{HasFrame}
use Rattle.linked.specs.declared.Frame.{Frame}
use Rattle.copies.specs.CopyChains.{HasBefore}

-- `previous` has for each line of a case, by record number, the copy of its target before it.
abbrev pub PreviousCopies : Case → List ℕ → Type 0
PreviousCopies case previous = (t : ℕ) → t < case.T → HasBefore case.G previous (reverse (lines_of case t))

-- The last copy of item g in the thread of block i, whose lines are given latest first.
abbrev pub lines_back : Case → ℕ → List Line
lines_back case i = reverse (lines_of case (i % case.T))

abbrev pub last_copy : Case → ℕ → ℕ → ℕ
last_copy case i g = latest case.G (item_name g) (lines_back case i)

-- Copy p, the copy before it, and so on to the first; so many at most.
unfoldable pub copies_back : List ℕ → ℕ → ℕ → List ℕ
copies_back previous zero p = []
copies_back previous (suc most) p = cond (eqb p 0) [] (p ∷ copies_back previous most (get_or previous p 0))

-- The value of item g at the end of block i is that of the first of these copies which is in the block; if none is, the one before it.
unfoldable pub walk_over : Case → List ℕ → ℕ → ℕ → List ℕ → Formula
walk_over case sources i g [] = same sources (block_value case i g) (value_before case i g)
walk_over case sources i g (p ∷ ps) =
    select (equal (block_of p) (constant i)) (same sources (block_value case i g) (value_of p)) (walk_over case sources i g ps)

abbrev pub walk_copies : Case → List ℕ → ℕ → ℕ → List ℕ → ℕ → ℕ → Formula
walk_copies case sources i g previous most p = walk_over case sources i g (copies_back previous most p)

-- Each 6 of these rows, "6, item, block i, last copy in thread i modulo T", has the walk from its copy back as its assertion.
abbrev pub SixesWalk : Case → List ℕ → List ℕ → List Row → Type 0
SixesWalk case sources previous [] = Unit
SixesWalk case sources previous (w ∷ ws) =
    (w.kind ≡ 6 → walk_copies case sources w.two w.one previous most_lines w.three ≡ assertion_of case sources w) × SixesWalk case sources previous ws

-- The text of the walk as the code writes it: a head for each copy, then the value before the block, and the closing parentheses.
unfoldable pub copy_head : Case → List ℕ → ℕ → ℕ → ℕ → List ℕ
copy_head case sources i g p =
    ascii "(ite " ++ (formula_text (equal (block_of p) (constant i)) ++ (ascii " "
    ++ (formula_text (same sources (block_value case i g) (value_of p)) ++ ascii " ")))

unfoldable pub copy_heads : Case → List ℕ → ℕ → ℕ → List ℕ → List ℕ
copy_heads case sources i g [] = []
copy_heads case sources i g (p ∷ ps) = copy_head case sources i g p ++ copy_heads case sources i g ps

-- The heads of copy `last` and all copies before it are put, so many.
pub record HeadsPut (frame : Frame) (previous : List ℕ) (i g last : ℕ) (before after : Writer) (many : ℕ) : Type 0 where
  pub count : many ≡ length (copies_back previous most_lines last)
  pub text : (case : Case) → HasFrame case frame → Puts (copy_heads case (sources_of case) i g (copies_back previous most_lines last)) before after
