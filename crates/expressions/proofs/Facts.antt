-- The facts beside a comparison: one after the other, and as the formula that they begin. Assumes nothing. Met again in `put_fact`,
-- `put_facts_with` and `put_facts`, and for what stands before an equation and behind it.
use mathlib.Core.Path.{◌≡◌, refl, sym, ap, ◌∙◌}
use Prim.Native.Nat.{ℕ, ◌+◌, ◌-◌, ◌*◌, ◌<◌, ◌≤◌}
use mathlib.Core.List.{List, [], ◌∷◌, ◌++◌, append_assoc, append-nil}
use native.Mathlib.Nat.{zero-mul, suc-mul}
use lib.ListN.{length, get_or, drop, replicate-append-replicate}
use Rattle.smt.specs.Term.{Test, Term, variable, test, Formula}
use Rattle.smt.specs.Spelling.{ascii, two, formula_text}
use Rattle.script.specs.Assertions.{equal, value_of, fact_of, facts_with, facts}
use Rattle.spell.specs.declared.Writer.{Writer}
use Rattle.spell.specs.Spelt.{Puts}
use Rattle.spell.specs.Atoms.{closing}
use Rattle.spell.proofs.Spelling.{puts_then, Remains, puts_as}
use Rattle.linked.proofs.Nesting.{closing_none, nested, head_of_two}
use Rattle.linked.proofs.Going.{going_more, going_end}
use Rattle.expressions.specs.Facts.{fact_head, fact_heads_with, fact_heads}

-- One fact, as it is put: words that stand together are put together.
words_of_fact : (A B C D : List ℕ)
    → ascii "(and (=> (and " ++ (A ++ (ascii " " ++ (B ++ (ascii ") (not (xor " ++ (C ++ (ascii " " ++ (D ++ ascii "))) ")))))))
    ≡ ascii "(and " ++ (two (ascii "(=> ") (two (ascii "(and ") A B) (ascii "(not " ++ (two (ascii "(xor ") C D ++ ascii ")")) ++ ascii " ")
words_of_fact A B C D = simp append_assoc

module _ {e₁ e₂ e₃ e₄ e₅ e₆ e₇ e₈ e₉ e₀ : Writer} (t : Test) (x y : Term) (s u : ℕ) {v w : ℕ} where
  pub fact_spelt : v ≡ 2 * (s - 1) + 1 → w ≡ 2 * (u - 1) + 1
      → Puts (ascii "(and (=> (and ") e₀ e₁ → Puts (formula_text (equal x (variable v))) e₁ e₂
      → Puts (ascii " ") e₂ e₃ → Puts (formula_text (equal y (variable w))) e₃ e₄
      → Puts (ascii ") (not (xor ") e₄ e₅ → Puts (formula_text (test t x y)) e₅ e₆
      → Puts (ascii " ") e₆ e₇ → Puts (formula_text (test t (variable v) (variable w))) e₇ e₈
      → Puts (ascii "))) ") e₈ e₉ → Puts (fact_head t x y s u) e₀ e₉
  unfolding fact_head formula_text
  fact_spelt h k a b c d e f g i j =
      puts_as
      (words_of_fact (formula_text (equal x (value_of s))) (formula_text (equal y (value_of u))) (formula_text (test t x y)) (formula_text (test t (value_of s) (value_of u))))
      (rw (h, k) at (puts_then a (puts_then b (puts_then c (puts_then d (puts_then e (puts_then f (puts_then g (puts_then i j)))))))))

-- The two loops: over the second sources, and over the first.
module _ (t : Test) (x y : Term) (xs : List ℕ) {before : Writer} {j : ℕ} {out : Writer} where
  module _ (s : ℕ) (v : Remains (fact_heads_with t x y s xs) before out (fact_heads_with t x y s (drop j xs))) where
    pub seconds_more : j < length xs → {a : Writer} → Puts (fact_head t x y s (get_or xs j 0)) out a
        → Remains (fact_heads_with t x y s xs) before a (fact_heads_with t x y s (drop (j + 1) xs))
    unfolding fact_heads_with
    seconds_more h put = going_more (fact_heads_with t x y s) xs v (fact_head t x y s) (λ u others. refl) h put

    pub seconds_end : length xs ≤ j → Puts (fact_heads_with t x y s xs) before out
    unfolding fact_heads_with
    seconds_end h = going_end (fact_heads_with t x y s) xs v refl h

  module _ (sources : List ℕ) (v : Remains (fact_heads t x y sources xs) before out (fact_heads t x y sources (drop j xs))) where
    pub firsts_more : j < length xs → {a : Writer} → Puts (fact_heads_with t x y (get_or xs j 0) sources) out a
        → Remains (fact_heads t x y sources xs) before a (fact_heads t x y sources (drop (j + 1) xs))
    unfolding fact_heads
    firsts_more h put = going_more (fact_heads t x y sources) xs v (λ (s : ℕ). fact_heads_with t x y s sources) (λ s firsts. refl) h put

    pub firsts_end : length xs ≤ j → Puts (fact_heads t x y sources xs) before out
    unfolding fact_heads
    firsts_end h = going_end (fact_heads t x y sources) xs v refl h

-- The formula that the heads begin.
closing_add : (many more : ℕ) → closing many ++ closing more ≡ closing (many + more)
unfolding closing
closing_add many more = replicate-append-replicate many more 41

regrouped : (H G B : List ℕ) (many more : ℕ) → H ++ ((G ++ (B ++ closing many)) ++ closing more) ≡ (H ++ G) ++ (B ++ closing (many + more))
regrouped H G B many more = rw (sym (closing_add many more)) (simp append_assoc)

module _ (t : Test) (x y : Term) where
  with_text : (s : ℕ) (others : List ℕ) (base : Formula)
      → formula_text (facts_with t x y s others base) ≡ fact_heads_with t x y s others ++ (formula_text base ++ closing (length others))
  unfolding formula_text facts_with fact_heads_with fact_head
  with_text s [] base = rw closing_none (sym (append-nil (formula_text base)))
  with_text s (u ∷ others) base =
      head_of_two (ascii "(and ") (formula_text (fact_of t x y (value_of s) (value_of u))) (formula_text (facts_with t x y s others base))
      ∙ nested (fact_head t x y s u) (fact_heads_with t x y s others) (formula_text base) (length others) (with_text s others base)

  pub facts_text : (sources firsts : List ℕ) (base : Formula)
      → formula_text (facts t x y sources firsts base) ≡ fact_heads t x y sources firsts ++ (formula_text base ++ closing (length firsts * length sources))
  unfolding facts fact_heads
  facts_text sources [] base = rw (zero-mul (length sources), closing_none) (sym (append-nil (formula_text base)))
  facts_text sources (s ∷ firsts) base =
      with_text s sources (facts t x y sources firsts base)
      ∙ ap (λ (bytes : List ℕ). fact_heads_with t x y s sources ++ (bytes ++ closing (length sources))) (facts_text sources firsts base)
      ∙ regrouped (fact_heads_with t x y s sources) (fact_heads t x y sources firsts) (formula_text base) (length firsts * length sources) (length sources)
      ∙ ap (λ (many : ℕ). (fact_heads_with t x y s sources ++ fact_heads t x y sources firsts) ++ (formula_text base ++ closing many)) (sym (suc-mul (length firsts) (length sources)))
