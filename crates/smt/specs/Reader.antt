-- A reader of the spelling: the script that some bytes are the text of. What is not spelled as docs/SMT-TEXT.md says, to the byte, is
-- not read, nor is a variable that no line before declares.
-- Assumes nothing.
use Rattle.std.specs.Prelude.{ℕ, zero, suc, ◌+◌, ◌-◌, ◌*◌, Bool, true, false, cond, ◌&&◌, List, [], ◌∷◌, eqb, ltb, leb, length}
use Rattle.std.proofs.Math.Option.{Option, none, some}
use Rattle.model.specs.Listing.{decimal}
use Rattle.smt.specs.Term.{Operation, bvadd, bvsub, bvand, bvor, bvudiv, bvurem, Test, equals, bvult, bvule, Connective, conjunction, disjunction, exclusion, implication, Term, variable, constant, choice, apply, Formula, truth, test, negation, join, select}
use Rattle.smt.specs.Script.{Script}
use Rattle.smt.specs.Spelling.{ascii, operation_word, test_word, connective_word, truth_word, four_hex, logic_line, declaration, question_line}

-- What was read, and the bytes after it.
pub data Got (A : Type 0) : Type 0 where
  got : A → List ℕ → Got A
  nothing : Got A

-- What follows what was read.
abbrev pub and_then : {A B : Type 0} → Got A → (A → List ℕ → Got B) → Got B
and_then (got x rest) next = next x rest
and_then nothing next = nothing

-- The bytes after a word that they begin with.
unfoldable pub after : List ℕ → List ℕ → Option (List ℕ)
after [] bytes = some bytes
after (c ∷ word) [] = none
after (c ∷ word) (b ∷ bytes) = cond (eqb b c) (after word bytes) none

abbrev pub onward : {B : Type 0} → Option (List ℕ) → (List ℕ → Got B) → Got B
onward none next = nothing
onward (some rest) next = next rest

-- The bytes must go on with this word.
abbrev pub expect : {B : Type 0} → List ℕ → List ℕ → (List ℕ → Got B) → Got B
expect word bytes next = onward (after word bytes) next

-- The number of the decimal digits that the bytes begin with.
unfoldable pub digits_read : ℕ → List ℕ → ℕ
digits_read x [] = x
digits_read x (b ∷ bytes) = cond (leb 48 b && ltb b 58) (digits_read (10 * x + (b - 48)) bytes) x

-- A variable's number, spelled as numbers are, below the number of those that are declared.
abbrev pub number_below : ℕ → ℕ → List ℕ → Got ℕ
number_below declared k bytes = cond (ltb k declared) (expect (decimal k) bytes (got k)) nothing

unfoldable pub read_number : ℕ → List ℕ → Got ℕ
read_number declared bytes = number_below declared (digits_read 0 bytes) bytes

-- A constant's number: four hexadecimal digits, spelled as they are.
abbrev pub hex_read : ℕ → ℕ
hex_read b = cond (ltb b 58) (b - 48) (b - 87)

abbrev pub four_read : List ℕ → ℕ
four_read (a ∷ (b ∷ (c ∷ (d ∷ bytes)))) = 4096 * hex_read a + (256 * hex_read b + (16 * hex_read c + hex_read d))
four_read (a ∷ (b ∷ (c ∷ []))) = 0
four_read (a ∷ (b ∷ [])) = 0
four_read (a ∷ []) = 0
four_read [] = 0

unfoldable pub read_four : List ℕ → Got ℕ
read_four bytes = expect (four_hex (four_read bytes)) bytes (got (four_read bytes))

-- What a term or formula begins with.
pub data Head : Type 0 where
  a_variable a_constant a_choice a_negation : Head
  an_operation : Operation → Head
  a_test : Test → Head
  a_connective : Connective → Head
  a_truth : Bool → Head

pub record Opening : Type 0 where
  pub word : List ℕ
  pub head : Head

abbrev pub opening : List ℕ → Head → Opening
opening word head = record { word = word; head = head }

abbrev pub openings : List Opening
openings =
    opening (ascii "v") a_variable ∷ (opening (ascii "#x") a_constant ∷ (opening (ascii "(ite ") a_choice ∷ (opening (ascii "(not ") a_negation ∷
    (opening (operation_word bvadd) (an_operation bvadd) ∷ (opening (operation_word bvsub) (an_operation bvsub) ∷
    (opening (operation_word bvand) (an_operation bvand) ∷ (opening (operation_word bvor) (an_operation bvor) ∷
    (opening (operation_word bvudiv) (an_operation bvudiv) ∷ (opening (operation_word bvurem) (an_operation bvurem) ∷
    (opening (test_word equals) (a_test equals) ∷ (opening (test_word bvult) (a_test bvult) ∷ (opening (test_word bvule) (a_test bvule) ∷
    (opening (connective_word conjunction) (a_connective conjunction) ∷ (opening (connective_word disjunction) (a_connective disjunction) ∷
    (opening (connective_word exclusion) (a_connective exclusion) ∷ (opening (connective_word implication) (a_connective implication) ∷
    (opening (truth_word true) (a_truth true) ∷ (opening (truth_word false) (a_truth false) ∷ []))))))))))))))))))

-- The first of these openings that the bytes begin with, and the bytes after it.
abbrev pub or_else : Option (List ℕ) → Head → Got Head → Got Head
or_else none head others = others
or_else (some rest) head others = got head rest

unfoldable pub head_among : List Opening → List ℕ → Got Head
head_among [] bytes = nothing
head_among (o ∷ os) bytes = or_else (after o.word bytes) o.head (head_among os bytes)

unfoldable pub read_head : List ℕ → Got Head
read_head bytes = head_among openings bytes

-- Two parts, or three, a blank between them and a closing parenthesis behind.
abbrev pub read_two : {A B C : Type 0} → (A → B → C) → (List ℕ → Got A) → (List ℕ → Got B) → List ℕ → Got C
read_two make first second bytes =
    and_then (first bytes) (λ x rest. expect (ascii " ") rest (λ rest. and_then (second rest) (λ y rest. expect (ascii ")") rest (got (make x y)))))

abbrev pub read_three : {A B C D : Type 0} → (A → B → C → D) → (List ℕ → Got A) → (List ℕ → Got B) → (List ℕ → Got C) → List ℕ → Got D
read_three make first second third bytes =
    and_then (first bytes) (λ x rest. expect (ascii " ") rest (λ rest. read_two (make x) second third rest))

-- The rest of a term, and of a formula, by its head; the parts are read by these readers.
abbrev pub term_by : ℕ → (List ℕ → Got Term) → (List ℕ → Got Formula) → Head → List ℕ → Got Term
term_by declared term formula a_variable bytes = and_then (read_number declared bytes) (λ k rest. got (variable k) rest)
term_by declared term formula a_constant bytes = and_then (read_four bytes) (λ n rest. got (constant n) rest)
term_by declared term formula a_choice bytes = read_three choice formula term term bytes
term_by declared term formula a_negation bytes = nothing
term_by declared term formula (an_operation o) bytes = read_two (apply o) term term bytes
term_by declared term formula (a_test t) bytes = nothing
term_by declared term formula (a_connective c) bytes = nothing
term_by declared term formula (a_truth p) bytes = nothing

abbrev pub formula_by : (List ℕ → Got Term) → (List ℕ → Got Formula) → Head → List ℕ → Got Formula
formula_by term formula a_variable bytes = nothing
formula_by term formula a_constant bytes = nothing
formula_by term formula a_choice bytes = read_three select formula formula formula bytes
formula_by term formula a_negation bytes = and_then (formula bytes) (λ f rest. expect (ascii ")") rest (got (negation f)))
formula_by term formula (an_operation o) bytes = nothing
formula_by term formula (a_test t) bytes = read_two (test t) term term bytes
formula_by term formula (a_connective c) bytes = read_two (join c) formula formula bytes
formula_by term formula (a_truth p) bytes = got (truth p) bytes

-- Terms and formulas that are nested so deep at most, over so many declared variables.
unfoldable mutual
  pub read_term : ℕ → ℕ → List ℕ → Got Term
  read_term zero declared bytes = nothing
  read_term (suc deep) declared bytes = and_then (read_head bytes) (term_by declared (λ rest. read_term deep declared rest) (λ rest. read_formula deep declared rest))

  pub read_formula : ℕ → ℕ → List ℕ → Got Formula
  read_formula zero declared bytes = nothing
  read_formula (suc deep) declared bytes = and_then (read_head bytes) (formula_by (λ rest. read_term deep declared rest) (λ rest. read_formula deep declared rest))

-- The lines that declare variables k, k + 1 and on, so many at most: the number after the last.
abbrev pub next_line : Option (List ℕ) → (List ℕ → Got ℕ) → Got ℕ → Got ℕ
next_line none more ended = ended
next_line (some rest) more ended = more rest

unfoldable pub read_declarations : ℕ → ℕ → List ℕ → Got ℕ
read_declarations zero k bytes = got k bytes
read_declarations (suc most) k bytes = next_line (after (declaration k) bytes) (read_declarations most (suc k)) (got k bytes)

-- The assertions up to the question, so many at most, each nested so deep at most.
abbrev pub prepend : Formula → List Formula → List ℕ → Got (List Formula)
prepend f fs rest = got (f ∷ fs) rest

abbrev pub next_assertion : Option (List ℕ) → (List ℕ → Got (List Formula)) → List ℕ → Got (List Formula)
next_assertion none more bytes = expect question_line bytes (got [])
next_assertion (some rest) more bytes = more rest

unfoldable pub read_assertions : ℕ → ℕ → ℕ → List ℕ → Got (List Formula)
read_assertions zero deep declared bytes = nothing
read_assertions (suc most) deep declared bytes =
    next_assertion (after (ascii "(assert ") bytes)
    (λ rest. and_then (read_formula deep declared rest) (λ f rest. expect (ascii ")\n") rest (λ rest. and_then (read_assertions most deep declared rest) (prepend f))))
    bytes

-- A whole text: nothing stands behind the question.
abbrev pub ended : Got Script → Option Script
ended (got script []) = some script
ended (got script (b ∷ bytes)) = none
ended nothing = none

-- No text has more lines, or deeper formulas, than bytes.
unfoldable pub read_script : List ℕ → Option Script
read_script bytes =
    ended (expect logic_line bytes (λ rest. and_then (read_declarations (length bytes) 0 rest)
    (λ k rest. and_then (read_assertions (length bytes) (length bytes) k rest) (λ fs rest. got (record { variables = k; assertions = fs }) rest))))
