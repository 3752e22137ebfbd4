-- The links of two variables: one after the other, and as the formula that they begin. Assumes nothing. Met again in `put_link`,
-- `put_links`, `put_linked` and `put_same`.
use mathlib.Core.Path.{◌≡◌, refl, sym, ap, ◌∙◌}
use Prim.Native.Nat.{ℕ, ◌+◌, ◌-◌, ◌*◌, ◌<◌, ◌≤◌}
use mathlib.Core.List.{List, [], ◌∷◌, ◌++◌, append_assoc, append-nil}
use lib.ListN.{length, get_or, drop}
use Rattle.smt.specs.Term.{variable}
use Rattle.smt.specs.Spelling.{ascii, formula_text}
use Rattle.script.specs.Assertions.{sources_of, equal, agree, value_of, linked}
use Rattle.spell.specs.declared.Writer.{Writer}
use Rattle.spell.specs.Spelt.{Puts}
use Rattle.spell.specs.Atoms.{closing}
use Rattle.spell.proofs.Spelling.{puts_then, Remains, puts_as}
use Rattle.model.specs.CaseFile.{Case}
use Rattle.linked.specs.Links.{link_head, link_heads}
use Rattle.linked.specs.Shape.{HasSources, source_list}
use Rattle.linked.specs.declared.Sources.{Sources}
use Rattle.linked.proofs.Going.{going_more, going_end}
use Rattle.linked.proofs.Nesting.{closing_none, nested, head_of_two}

-- One link, as it is put: what closes it stands together.
closed : (A B : List ℕ) → ((A ++ (ascii " " ++ (B ++ ascii ")"))) ++ ascii ")") ++ ascii " " ≡ A ++ (ascii " " ++ (B ++ ascii ")) "))
closed A B = simp append_assoc

module _ {d a b e f h : Writer} {v : ℕ} (x y source : ℕ) where
  pub link_spelt : v ≡ 2 * (source - 1) + 1 → Puts (ascii "(and (not (xor ") d a
      → Puts (formula_text (equal (variable x) (variable v))) a b → Puts (ascii " ") b e
      → Puts (formula_text (equal (variable y) (variable v))) e f → Puts (ascii ")) ") f h → Puts (link_head x y source) d h
  unfolding link_head formula_text
  link_spelt z word first blank second close =
      puts_as
      (ap (λ (bytes : List ℕ). ascii "(and (not (xor " ++ bytes) (sym (closed (formula_text (equal (variable x) (value_of source))) (formula_text (equal (variable y) (value_of source))))))
      (rw z at (puts_then word (puts_then first (puts_then blank (puts_then second close)))))

-- One link more, and the last.
module _ (x y : ℕ) (xs : List ℕ) {before : Writer} {j : ℕ} {out : Writer} (v : Remains (link_heads x y xs) before out (link_heads x y (drop j xs))) where
  pub links_more : j < length xs → {a : Writer} → Puts (link_head x y (get_or xs j 0)) out a
      → Remains (link_heads x y xs) before a (link_heads x y (drop (j + 1) xs))
  unfolding link_heads
  links_more h put = going_more (link_heads x y) xs v (link_head x y) (λ s sources. refl) h put

  pub links_end : length xs ≤ j → Puts (link_heads x y xs) before out
  unfolding link_heads
  links_end h = going_end (link_heads x y) xs v refl h

pub linked_text : (x y : ℕ) (sources : List ℕ)
    → formula_text (linked sources (variable x) (variable y)) ≡ link_heads x y sources ++ (formula_text (equal (variable x) (variable y)) ++ closing (length sources))
unfolding formula_text linked link_heads link_head
linked_text x y [] = rw closing_none (sym (append-nil (formula_text (equal (variable x) (variable y)))))
linked_text x y (s ∷ sources) =
    head_of_two (ascii "(and ") (formula_text (agree (equal (variable x) (value_of s)) (equal (variable y) (value_of s)))) (formula_text (linked sources (variable x) (variable y)))
    ∙ nested (link_head x y s) (link_heads x y sources) (formula_text (equal (variable x) (variable y))) (length sources) (linked_text x y sources)

-- The whole equation of two variables.
module _ {case : Case} {sources : Sources} (s : HasSources case sources) where
  pub linked_spelt : (x y : ℕ) {d a b e : Writer} → Puts (link_heads x y (source_list sources)) d a
      → Puts (formula_text (equal (variable x) (variable y))) a b → Puts (closing (length (source_list sources))) b e
      → Puts (formula_text (linked (sources_of case) (variable x) (variable y))) d e
  linked_spelt x y links equation close =
      puts_as (rw s.list (sym (linked_text x y (sources_of case)))) (puts_then links (puts_then equation close))
