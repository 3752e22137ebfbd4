-- How long the text of a formula is at the most: a variable or a constant has at most six bytes.
-- Assumes nothing. Met again in ReadTexts, Lines, Rows and Text.
use mathlib.Core.Path.{◌≡◌, refl}
use Prim.Native.Nat.{ℕ, zero, suc, ◌+◌, ◌/◌, ◌%◌, ◌≤◌}
use mathlib.Core.Bool.{Bool, true, false, cond}
use mathlib.Core.List.{List, [], ◌∷◌, ◌++◌}
use native.Mathlib.Omega.{arith}
use lib.Dec.{ltb}
use lib.ListN.{length, length-append}
use Rattle.model.specs.Listing.{digit, digits_of, decimal}
use Rattle.smt.specs.Term.{Operation, bvadd, bvsub, bvand, bvor, bvudiv, bvurem, Test, equals, bvult, bvule, Connective, conjunction, disjunction, exclusion, implication, Term, variable, constant, choice, apply, Formula, truth, test, negation, join, select}
use Rattle.smt.specs.Spelling.{ascii, operation_word, test_word, connective_word, truth_word, four_hex, two, three, term_text, formula_text}

-- The word of a test or a connective, a blank and the closing parenthesis.
abbrev pub test_size : Test → ℕ
test_size equals = 5
test_size bvult = 9
test_size bvule = 9

abbrev pub join_size : Connective → ℕ
join_size conjunction = 7
join_size disjunction = 6
join_size exclusion = 7
join_size implication = 6

unfoldable mutual
  pub term_size : Term → ℕ
  term_size (variable k) = 6
  term_size (constant n) = 6
  term_size (choice f x y) = 8 + size f + term_size x + term_size y
  term_size (apply o x y) = 10 + term_size x + term_size y

  pub size : Formula → ℕ
  size (truth p) = 5
  size (test t x y) = test_size t + term_size x + term_size y
  size (negation f) = 6 + size f
  size (join c f g) = join_size c + size f + size g
  size (select f g h) = 8 + size f + size g + size h

digits_at_most : (most x : ℕ) → length (digits_of most x) ≤ most
unfolding digits_of
digits_at_most zero x = omega arith
digits_at_most (suc most) x = go (ltb x 10) (digits_at_most most (x / 10))
  where
    go : (q : Bool) → length (digits_of most (x / 10)) ≤ most → length (cond q (digit x ∷ []) (digits_of most (x / 10) ++ (digit (x % 10) ∷ []))) ≤ suc most
    go true rest = omega arith
    go false rest = omega (arith, length-append (digits_of most (x / 10)) (digit (x % 10) ∷ []))

pub five_digits : (x : ℕ) → length (decimal x) ≤ 5
unfolding decimal
five_digits x = digits_at_most 5 x

two_length : (word x y : List ℕ) → length (two word x y) ≡ length word + length x + length y + 2
two_length word x y =
    omega (arith, length-append word (x ++ (ascii " " ++ (y ++ ascii ")"))), length-append x (ascii " " ++ (y ++ ascii ")")), length-append y (ascii ")"))

three_length : (word x y z : List ℕ) → length (three word x y z) ≡ length word + length x + length y + length z + 3
three_length word x y z =
    omega (
      arith,
      length-append word (x ++ (ascii " " ++ (y ++ (ascii " " ++ (z ++ ascii ")"))))),
      length-append x (ascii " " ++ (y ++ (ascii " " ++ (z ++ ascii ")")))),
      length-append y (ascii " " ++ (z ++ ascii ")")),
      length-append z (ascii ")"),
    )

test_word_lem : (t : Test) → length (test_word t) + 2 ≡ test_size t
test_word_lem equals = refl
test_word_lem bvult = refl
test_word_lem bvule = refl

join_word : (c : Connective) → length (connective_word c) + 2 ≡ join_size c
join_word conjunction = refl
join_word disjunction = refl
join_word exclusion = refl
join_word implication = refl

operation_word_lem : (o : Operation) → length (operation_word o) ≤ 8
operation_word_lem bvadd = omega arith
operation_word_lem bvsub = omega arith
operation_word_lem bvand = omega arith
operation_word_lem bvor = omega arith
operation_word_lem bvudiv = omega arith
operation_word_lem bvurem = omega arith

truth_word_lem : (p : Bool) → length (truth_word p) ≤ 5
truth_word_lem true = omega arith
truth_word_lem false = omega arith

mutual
  unfolding term_text term_size four_hex

  pub term_text_lem : (x : Term) → length (term_text x) ≤ term_size x
  term_text_lem (variable k) = omega (arith, five_digits k)
  term_text_lem (constant n) = omega arith
  term_text_lem (choice f x y) =
      omega (arith, three_length (ascii "(ite ") (formula_text f) (term_text x) (term_text y), formula_text_lem f, term_text_lem x, term_text_lem y)
  term_text_lem (apply o x y) = omega (arith, two_length (operation_word o) (term_text x) (term_text y), operation_word_lem o, term_text_lem x, term_text_lem y)

  pub formula_text_lem : (f : Formula) → length (formula_text f) ≤ size f
  formula_text_lem (truth p) = truth_word_lem p
  formula_text_lem (test t x y) = omega (arith, two_length (test_word t) (term_text x) (term_text y), test_word_lem t, term_text_lem x, term_text_lem y)
  formula_text_lem (negation f) = omega (arith, length-append (formula_text f) (ascii ")"), formula_text_lem f)
  formula_text_lem (join c f g) = omega (arith, two_length (connective_word c) (formula_text f) (formula_text g), join_word c, formula_text_lem f, formula_text_lem g)
  formula_text_lem (select f g h) =
      omega (arith, three_length (ascii "(ite ") (formula_text f) (formula_text g) (formula_text h), formula_text_lem f, formula_text_lem g, formula_text_lem h)

-- One of two.
pub either_formula : (p : Bool) (f g : Formula) {n : ℕ} → size f ≤ n → size g ≤ n → size (cond p f g) ≤ n
either_formula true f g h k = h
either_formula false f g h k = k

pub either_term : (p : Bool) (x y : Term) {n : ℕ} → term_size x ≤ n → term_size y ≤ n → term_size (cond p x y) ≤ n
either_term true x y h k = h
either_term false x y h k = k
