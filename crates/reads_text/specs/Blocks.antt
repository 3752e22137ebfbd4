-- The text of a read over blocks as the code writes it: a head for each block.
-- Assumes nothing.
use Rattle.std.specs.Prelude.{◌≡◌, ℕ, List, [], ◌∷◌, ◌++◌, length}
use Rattle.model.specs.CaseFile.{Case}
use Rattle.smt.specs.Term.{Term, constant}
use Rattle.smt.specs.Spelling.{ascii, formula_text}
use Rattle.script.specs.Assertions.{equal, block_of, same, value_before}
use Rattle.spell.specs.Spelt.{Puts}
use Rattle.spell.specs.declared.Writer.{Writer}

unfoldable pub block_head : Case → List ℕ → Term → ℕ → ℕ → ℕ → List ℕ
block_head case sources x k g i =
    ascii "(ite " ++ (formula_text (equal (block_of k) (constant i)) ++ (ascii " " ++ (formula_text (same sources x (value_before case i g)) ++ ascii " ")))

unfoldable pub block_heads : Case → List ℕ → Term → ℕ → ℕ → List ℕ → List ℕ
block_heads case sources x k g [] = []
block_heads case sources x k g (i ∷ blocks) = block_head case sources x k g i ++ block_heads case sources x k g blocks

-- The heads of these blocks are written, and counted.
pub record Headed (case : Case) (sources : List ℕ) (x : Term) (k g : ℕ) (blocks : List ℕ) (before after : Writer) (many : ℕ) : Type 0 where
  pub spelt : Puts (block_heads case sources x k g blocks) before after
  pub counted : many ≡ length blocks
