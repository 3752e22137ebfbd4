-- The text of the facts that stand beside a comparison, as the code writes it: their heads one after the other, what they stand
-- beside, and the closing parentheses.
-- Assumes nothing.
use Rattle.std.specs.Prelude.{ℕ, ◌*◌, Bool, cond, ◌&&◌, List, [], ◌∷◌, ◌++◌, leb}
use Rattle.smt.specs.Term.{Test, Term}
use Rattle.smt.specs.Spelling.{ascii, formula_text}
use Rattle.script.specs.Assertions.{value_of, is_variable, comparison, fact_of}
use Rattle.spell.specs.Atoms.{closing}

-- One fact, those of one first source, and all.
unfoldable pub fact_head : Test → Term → Term → ℕ → ℕ → List ℕ
fact_head t x y s u = ascii "(and " ++ (formula_text (fact_of t x y (value_of s) (value_of u)) ++ ascii " ")

unfoldable pub fact_heads_with : Test → Term → Term → ℕ → List ℕ → List ℕ
fact_heads_with t x y s [] = []
fact_heads_with t x y s (u ∷ others) = fact_head t x y s u ++ fact_heads_with t x y s others

unfoldable pub fact_heads : Test → Term → Term → List ℕ → List ℕ → List ℕ
fact_heads t x y sources [] = []
fact_heads t x y sources (s ∷ firsts) = fact_heads_with t x y s sources ++ fact_heads t x y sources firsts

-- Whether facts stand beside an expression; what stands before it and what behind, for so many sources.
unfoldable pub has_facts : ℕ → Term → Term → Bool
has_facts op x y = leb 5 op && (is_variable x && is_variable y)

unfoldable pub facts_before : List ℕ → ℕ → Term → Term → List ℕ
facts_before sources op x y = cond (has_facts op x y) (fact_heads (comparison op) x y sources sources) []

unfoldable pub facts_behind : ℕ → ℕ → Term → Term → List ℕ
facts_behind many op x y = cond (has_facts op x y) (closing (many * many)) []
