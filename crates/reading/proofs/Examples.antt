-- Worked examples of the reader: a text that it reads, and texts that differ from one in a little and are refused.
-- Assumes nothing. No proof uses them: they hold the reader beside its document.
use mathlib.Core.Path.{◌≡◌, refl}
use Prim.Native.Nat.{ℕ}
use Prim.Native.String.{String}
use mathlib.Core.List.{List, [], ◌∷◌, ◌++◌}
use mathlib.Core.Option.{none, some}
use native.Mathlib.Omega.{arith}
use Rattle.model.specs.Listing.{digits_of, decimal}
use Rattle.smt.specs.Term.{equals, bvadd, variable, constant, apply, test}
use Rattle.smt.specs.Script.{Script}
use Rattle.smt.specs.Spelling.{ascii, four_hex, logic_line, declaration}
use Rattle.smt.specs.Reader.{after, digits_read, read_number, read_four, head_among, read_head, read_term, read_declarations, read_assertions, read_script}
use Rattle.reading.specs.Spellable.{ScriptSpellable}

unfoldable computing : Type 0
unfolding digits_of decimal four_hex declaration after digits_read read_number read_four head_among read_head read_term read_declarations read_assertions read_script
computing = Unit

-- A text that declares one variable, up to its assertions
abbrev declares_one : String → List ℕ
declares_one text = logic_line ++ (declaration 0 ++ ascii text)

abbrev one_assertion : Script
one_assertion = record { variables = 1; assertions = test equals (apply bvadd (variable 0) (constant 255)) (variable 0) ∷ [] }

one_assertion_spellable : ScriptSpellable one_assertion
one_assertion_spellable = record { declared = omega arith; assertions = (((omega arith, omega arith), omega arith), tt) }

one_assertion_read : read_script (declares_one "(assert (= (bvadd v0 #x00ff) v0))\n(check-sat)\n") ≡ some one_assertion
unfolding computing
one_assertion_read = refl

-- Variable 0 is declared first.
out_of_order_refused : read_script (logic_line ++ (declaration 1 ++ (declaration 0 ++ ascii "(check-sat)\n"))) ≡ none
unfolding computing
out_of_order_refused = refl

not_declared_refused : read_script (declares_one "(assert (= v0 v1))\n(check-sat)\n") ≡ none
unfolding computing
not_declared_refused = refl

-- A number has one spelling.
zero_before_refused : read_script (declares_one "(assert (= v0 v00))\n(check-sat)\n") ≡ none
unfolding computing
zero_before_refused = refl

capital_refused : read_script (declares_one "(assert (= v0 #x00FF))\n(check-sat)\n") ≡ none
unfolding computing
capital_refused = refl

-- Nothing stands behind the question, and it is asked.
more_behind_refused : read_script (declares_one "(check-sat)\n\n") ≡ none
unfolding computing
more_behind_refused = refl

no_question_refused : read_script (declares_one "(assert true)\n") ≡ none
unfolding computing
no_question_refused = refl
