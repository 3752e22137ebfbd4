-- A script that was written is read back: its declarations, its assertions, and the whole. So no two scripts have one text.
-- Assumes nothing. `read_back` and `one_script` are what the crate is for.
use mathlib.Core.Path.{◌≡◌, refl, ap, ◌∙◌}
use Prim.Native.Nat.{ℕ, zero, suc, ◌+◌, ◌≤◌, ◌<◌}
use mathlib.Core.List.{List, [], ◌∷◌, ◌++◌, append_assoc}
use mathlib.Core.Option.{none, some}
use native.Mathlib.Omega.{arith}
use lib.ListN.{length, length-append}
use Rattle.smt.specs.Term.{Formula}
use Rattle.smt.specs.Script.{Script}
use Rattle.smt.specs.Spelling.{formula_text, declaration, declarations, assertion, assertion_lines, question_line, script_text}
use Rattle.smt.specs.Reader.{got, after, and_then, read_declarations, read_assertions, ended, read_script}
use Rattle.reading.specs.Spellable.{AllSpellable, ScriptSpellable}
use Rattle.reading.proofs.Words.{after_itself}
use Rattle.reading.proofs.Terms.{formula_read}

-- Where no declaration follows, all are read.
declarations_read :
    (many most k : ℕ) (rest : List ℕ) → many ≤ most → ((j : ℕ) → after (declaration j) rest ≡ none)
    → read_declarations most k (declarations k many ++ rest) ≡ got (k + many) rest
unfolding read_declarations declarations
declarations_read zero zero k rest h none_left = ap (λ (j : ℕ). got j rest) (omega arith)
declarations_read zero (suc most) k rest h none_left = rw (none_left k) (ap (λ (j : ℕ). got j rest) (omega arith))
declarations_read (suc many) zero k rest h none_left = absurd (omega arith)
declarations_read (suc many) (suc most) k rest h none_left =
    rw (append_assoc (declaration k) (declarations (suc k) many) rest, after_itself (declaration k) (declarations (suc k) many ++ rest))
    (declarations_read many most (suc k) rest (omega arith) none_left ∙ ap (λ (j : ℕ). got j rest) (omega arith))

-- Each declaration has a byte at least.
declarations_long : (many k : ℕ) → many ≤ length (declarations k many)
unfolding declarations declaration
declarations_long zero k = omega arith
declarations_long (suc many) k = omega (arith, length-append (declaration k) (declarations (suc k) many), declarations_long many (suc k))

-- The letter behind the parenthesis tells an assertion, or the question, from a declaration.
no_declaration_left : (fs : List Formula) (j : ℕ) → after (declaration j) (assertion_lines fs ++ question_line) ≡ none
unfolding after declaration assertion_lines assertion
no_declaration_left [] j = refl
no_declaration_left (f ∷ fs) j = refl

module _ (declared deep : ℕ) (small : declared ≤ 65536) where
  assertions_read :
      (fs : List Formula) (most : ℕ) → AllSpellable declared fs → length (assertion_lines fs) < most → length (assertion_lines fs) ≤ deep
      → read_assertions most deep declared (assertion_lines fs ++ question_line) ≡ got fs []
  unfolding read_assertions assertion_lines assertion after
  assertions_read [] zero s h deeper = absurd (omega arith)
  assertions_read [] (suc most) s h deeper = refl
  assertions_read (f ∷ fs) zero s h deeper = absurd (omega arith)
  assertions_read (f ∷ fs) (suc most) s h deeper =
      let size = length-append (assertion f) (assertion_lines fs) in
      let own = length-append (formula_text f) (41 ∷ (10 ∷ [])) in
      rw (
        append_assoc (formula_text f) (41 ∷ (10 ∷ [])) (assertion_lines fs),
        append_assoc (formula_text f) (41 ∷ (10 ∷ assertion_lines fs)) question_line,
        formula_read declared small f deep (41 ∷ (10 ∷ (assertion_lines fs ++ question_line))) s.0 (omega arith),
        assertions_read fs most s.1 (omega arith) (omega arith),
      )

-- With a bound on lines and depth that is large enough
lines_read :
    (script : Script) (most : ℕ) → ScriptSpellable script → script.variables ≤ most → length (assertion_lines script.assertions) < most
    → and_then (read_declarations most 0 (declarations 0 script.variables ++ (assertion_lines script.assertions ++ question_line)))
    (λ k rest. and_then (read_assertions most most k rest) (λ fs rest. got (record { variables = k; assertions = fs }) rest))
    ≡ got script []
lines_read script most s enough more =
    let all_declared : read_declarations most 0 (declarations 0 script.variables ++ (assertion_lines script.assertions ++ question_line))
    ≡ got script.variables (assertion_lines script.assertions ++ question_line)
    = declarations_read script.variables most 0 (assertion_lines script.assertions ++ question_line) enough (no_declaration_left script.assertions)
    ∙ ap (λ (k : ℕ). got k (assertion_lines script.assertions ++ question_line)) (omega arith) in
    rw (all_declared, assertions_read script.variables most s.declared script.assertions most s.assertions more (omega arith))

-- There are no more lines, and no deeper formulas, than the text has bytes.
record Enough (script : Script) : Type 0 where
  lines : script.variables ≤ length (script_text script)
  depth : length (assertion_lines script.assertions) < length (script_text script)

enough_bytes : (script : Script) → Enough script
unfolding script_text
enough_bytes script =
    let all = length-append (declarations 0 script.variables) (assertion_lines script.assertions ++ question_line) in
    let last = length-append (assertion_lines script.assertions) question_line in
    let many = declarations_long script.variables 0 in
    record { lines = omega arith; depth = omega arith }

pub read_back : (script : Script) → ScriptSpellable script → read_script (script_text script) ≡ some script
unfolding read_script script_text after
read_back script s = ap ended (lines_read script (length (script_text script)) s (enough_bytes script).lines (enough_bytes script).depth)

pub one_script : (a b : Script) → ScriptSpellable a → ScriptSpellable b → script_text a ≡ script_text b → a ≡ b
one_script a b sa sb same = cc (read_back a sa, read_back b sb)
