-- Formulas that are nested to the right: their heads one after the other, what stands innermost, and the closing parentheses.
-- Assumes nothing. Met again wherever such a formula is written by a loop.
use mathlib.Core.Path.{◌≡◌, refl, sym, ap, ◌∙◌}
use Prim.Native.Nat.{ℕ, zero, suc}
use mathlib.Core.List.{List, [], ◌∷◌, ◌++◌, append_assoc}
use Rattle.smt.specs.Spelling.{ascii, two, three}
use Rattle.spell.specs.Atoms.{closing}

pub closing_none : closing 0 ≡ []
unfolding closing
closing_none = refl

closing_more : (many : ℕ) → closing many ++ ascii ")" ≡ closing (suc many)
unfolding closing
closing_more zero = refl
closing_more (suc many) = ap (λ (bytes : List ℕ). 41 ∷ bytes) (closing_more many)

-- A head, and what it is the head of, with the closing parenthesis of both.
pub nested : (head heads base : List ℕ) (many : ℕ) {text : List ℕ} → text ≡ heads ++ (base ++ closing many)
    → head ++ (text ++ ascii ")") ≡ (head ++ heads) ++ (base ++ closing (suc many))
nested head heads base many e =
    ap (λ (bytes : List ℕ). head ++ (bytes ++ ascii ")")) e
    ∙ ap (λ (bytes : List ℕ). head ++ bytes) (append_assoc heads (base ++ closing many) (ascii ")"))
    ∙ ap (λ (bytes : List ℕ). head ++ (heads ++ bytes)) (append_assoc base (closing many) (ascii ")"))
    ∙ ap (λ (bytes : List ℕ). head ++ (heads ++ (base ++ bytes))) (closing_more many)
    ∙ sym (append_assoc head heads (base ++ closing (suc many)))

-- The head of a formula of two parts, and of three: all but the last part and what closes it.
pub head_of_two : (word x y : List ℕ) → two word x y ≡ (word ++ (x ++ ascii " ")) ++ (y ++ ascii ")")
head_of_two word x y =
    ap (λ (bytes : List ℕ). word ++ bytes) (sym (append_assoc x (ascii " ") (y ++ ascii ")")))
    ∙ sym (append_assoc word (x ++ ascii " ") (y ++ ascii ")"))

pub head_of_three : (word x y z : List ℕ) → three word x y z ≡ (word ++ (x ++ (ascii " " ++ (y ++ ascii " ")))) ++ (z ++ ascii ")")
head_of_three word x y z =
    ap (λ (bytes : List ℕ). word ++ (x ++ (ascii " " ++ bytes))) (sym (append_assoc y (ascii " ") (z ++ ascii ")")))
    ∙ ap (λ (bytes : List ℕ). word ++ bytes) (sym (append_assoc x (ascii " " ++ (y ++ ascii " ")) (z ++ ascii ")")))
    ∙ sym (append_assoc word (x ++ (ascii " " ++ (y ++ ascii " "))) (z ++ ascii ")"))
