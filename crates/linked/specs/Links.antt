-- The text of linked equations as the code writes it: the links one after the other, the equation, and the closing parentheses.
-- Assumes nothing.
use Rattle.std.specs.Prelude.{ℕ, List, [], ◌∷◌, ◌++◌}
use Rattle.smt.specs.Term.{variable}
use Rattle.smt.specs.Spelling.{ascii, formula_text}
use Rattle.script.specs.Assertions.{equal, agree, value_of}

unfoldable pub link_head : ℕ → ℕ → ℕ → List ℕ
link_head x y source = ascii "(and " ++ (formula_text (agree (equal (variable x) (value_of source)) (equal (variable y) (value_of source))) ++ ascii " ")

unfoldable pub link_heads : ℕ → ℕ → List ℕ → List ℕ
link_heads x y [] = []
link_heads x y (source ∷ sources) = link_head x y source ++ link_heads x y sources
