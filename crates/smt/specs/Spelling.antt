-- The spelling of a script, byte by byte: docs/SMT-TEXT.md. White space stands where it is shown here and nowhere else.
-- Assumes nothing.
use Rattle.std.specs.Prelude.{ℕ, zero, suc, ◌+◌, ◌/◌, ◌%◌, Bool, true, false, cond, List, [], ◌∷◌, ◌++◌, ltb}
use Prim.Native.Char.{code}
use Prim.Native.String.{String, [] as no_text, ◌∷◌ as text_of}
use Rattle.model.specs.Listing.{decimal}
use Rattle.smt.specs.Term.{Operation, bvadd, bvsub, bvand, bvor, bvudiv, bvurem, Test, equals, bvult, bvule, Connective, conjunction, disjunction, exclusion, implication, Term, variable, constant, choice, apply, Formula, truth, test, negation, join, select}
use Rattle.smt.specs.Script.{Script}

-- A text's bytes: its characters' ASCII codes.
abbrev pub ascii : String → List ℕ
ascii no_text = []
ascii (text_of c s) = code c ∷ ascii s

-- "(bvadd " and so on: what the text of an operation, a test or a connective begins with.
abbrev pub operation_word : Operation → List ℕ
operation_word bvadd = ascii "(bvadd "
operation_word bvsub = ascii "(bvsub "
operation_word bvand = ascii "(bvand "
operation_word bvor = ascii "(bvor "
operation_word bvudiv = ascii "(bvudiv "
operation_word bvurem = ascii "(bvurem "

abbrev pub test_word : Test → List ℕ
test_word equals = ascii "(= "
test_word bvult = ascii "(bvult "
test_word bvule = ascii "(bvule "

abbrev pub connective_word : Connective → List ℕ
connective_word conjunction = ascii "(and "
connective_word disjunction = ascii "(or "
connective_word exclusion = ascii "(xor "
connective_word implication = ascii "(=> "

abbrev pub truth_word : Bool → List ℕ
truth_word true = ascii "true"
truth_word false = ascii "false"

-- A hexadecimal digit, 0 to 9 and a to f; the four digits of a number of 16 bits.
abbrev pub hex_digit : ℕ → ℕ
hex_digit d = cond (ltb d 10) (48 + d) (87 + d)

unfoldable pub four_hex : ℕ → List ℕ
four_hex n = hex_digit (n / 4096 % 16) ∷ (hex_digit (n / 256 % 16) ∷ (hex_digit (n / 16 % 16) ∷ (hex_digit (n % 16) ∷ [])))

-- Two or three texts after a word, a blank between them, and the closing parenthesis.
abbrev pub two : List ℕ → List ℕ → List ℕ → List ℕ
two word x y = word ++ (x ++ (ascii " " ++ (y ++ ascii ")")))

abbrev pub three : List ℕ → List ℕ → List ℕ → List ℕ → List ℕ
three word x y z = word ++ (x ++ (ascii " " ++ (y ++ (ascii " " ++ (z ++ ascii ")")))))

unfoldable mutual
  pub term_text : Term → List ℕ
  term_text (variable k) = ascii "v" ++ decimal k
  term_text (constant n) = ascii "#x" ++ four_hex n
  term_text (choice f x y) = three (ascii "(ite ") (formula_text f) (term_text x) (term_text y)
  term_text (apply o x y) = two (operation_word o) (term_text x) (term_text y)

  pub formula_text : Formula → List ℕ
  formula_text (truth p) = truth_word p
  formula_text (test t x y) = two (test_word t) (term_text x) (term_text y)
  formula_text (negation f) = ascii "(not " ++ (formula_text f ++ ascii ")")
  formula_text (join c f g) = two (connective_word c) (formula_text f) (formula_text g)
  formula_text (select f g h) = three (ascii "(ite ") (formula_text f) (formula_text g) (formula_text h)

-- The lines of a script: the logic, the variables in number order, the assertions, and the question.
abbrev pub logic_line : List ℕ
logic_line = ascii "(set-logic QF_BV)\n"

unfoldable pub declaration : ℕ → List ℕ
declaration k = ascii "(declare-fun v" ++ (decimal k ++ ascii " () (_ BitVec 16))\n")

unfoldable pub declarations : ℕ → ℕ → List ℕ
declarations k zero = []
declarations k (suc many) = declaration k ++ declarations (suc k) many

unfoldable pub assertion : Formula → List ℕ
assertion f = ascii "(assert " ++ (formula_text f ++ ascii ")\n")

unfoldable pub assertion_lines : List Formula → List ℕ
assertion_lines [] = []
assertion_lines (f ∷ fs) = assertion f ++ assertion_lines fs

abbrev pub question_line : List ℕ
question_line = ascii "(check-sat)\n"

unfoldable pub script_text : Script → List ℕ
script_text script = logic_line ++ (declarations 0 script.variables ++ (assertion_lines script.assertions ++ question_line))
