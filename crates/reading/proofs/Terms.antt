-- A term that was written, and a formula, is read, whatever follows it; behind a term no digit follows. How deep the reader may go is
-- bounded by the bytes of the text.
-- Assumes nothing. Met where the assertions are read.
use mathlib.Core.Path.{◌≡◌, refl, ap, ◌∙◌}
use Prim.Native.Nat.{ℕ, zero, suc, ◌-◌, ◌≤◌, ◌<◌}
use mathlib.Core.Bool.{Bool, true, false}
use mathlib.Core.List.{List, [], ◌∷◌, ◌++◌, append_assoc}
use native.Mathlib.Omega.{arith}
use lib.ListN.{length, length-append}
use Rattle.model.specs.Listing.{decimal}
use Rattle.smt.specs.Term.{Operation, bvadd, bvsub, bvand, bvor, bvudiv, bvurem, Test, equals, bvult, bvule, Connective, conjunction, disjunction, exclusion, implication, Term, variable, constant, choice, apply, Formula, truth, test, negation, join, select}
use Rattle.smt.specs.Spelling.{ascii, operation_word, test_word, connective_word, truth_word, four_hex, two, three, term_text, formula_text}
use Rattle.smt.specs.Reader.{got, after, Head, a_variable, a_constant, a_choice, a_negation, an_operation, a_test, a_connective, a_truth, head_among, read_head, term_by, formula_by, read_term, read_formula}
use Rattle.reading.specs.Spellable.{TermSpellable, FormulaSpellable}
use Rattle.reading.proofs.Words.{two_then, three_then, one_read, two_read, three_read}
use Rattle.reading.proofs.Numbers.{NoDigit, number_read, four_read_lem}

-- The words that a text begins with
operation_read : (o : Operation) (rest : List ℕ) → read_head (operation_word o ++ rest) ≡ got (an_operation o) rest
unfolding read_head head_among after
operation_read bvadd rest = refl
operation_read bvsub rest = refl
operation_read bvand rest = refl
operation_read bvor rest = refl
operation_read bvudiv rest = refl
operation_read bvurem rest = refl

test_read : (t : Test) (rest : List ℕ) → read_head (test_word t ++ rest) ≡ got (a_test t) rest
unfolding read_head head_among after
test_read equals rest = refl
test_read bvult rest = refl
test_read bvule rest = refl

connective_read : (c : Connective) (rest : List ℕ) → read_head (connective_word c ++ rest) ≡ got (a_connective c) rest
unfolding read_head head_among after
connective_read conjunction rest = refl
connective_read disjunction rest = refl
connective_read exclusion rest = refl
connective_read implication rest = refl

truth_read : (p : Bool) (rest : List ℕ) → read_head (truth_word p ++ rest) ≡ got (a_truth p) rest
unfolding read_head head_among after
truth_read true rest = refl
truth_read false rest = refl

variable_read : (rest : List ℕ) → read_head (ascii "v" ++ rest) ≡ got a_variable rest
unfolding read_head head_among after
variable_read rest = refl

constant_read : (rest : List ℕ) → read_head (ascii "#x" ++ rest) ≡ got a_constant rest
unfolding read_head head_among after
constant_read rest = refl

negation_read : (rest : List ℕ) → read_head (ascii "(not " ++ rest) ≡ got a_negation rest
unfolding read_head head_among after
negation_read rest = refl

choice_read : (rest : List ℕ) → read_head (ascii "(ite " ++ rest) ≡ got a_choice rest
unfolding read_head head_among after
choice_read rest = refl

truth_fits : {deep : ℕ} (p : Bool) → length (truth_word p) ≤ deep → 0 < deep
truth_fits true h = omega arith
truth_fits false h = omega arith

-- Each part of a text has fewer bytes than the whole.
record TwoFit (deep : ℕ) (a b : List ℕ) : Type 0 where
  some : 0 < deep
  first : length a ≤ deep - 1
  second : length b ≤ deep - 1

two_fit : {deep : ℕ} (word a b : List ℕ) → length (two word a b) ≤ deep → TwoFit deep a b
two_fit word a b h =
    let n = length-append word (a ++ (32 ∷ (b ++ (41 ∷ [])))) in
    let na = length-append a (32 ∷ (b ++ (41 ∷ []))) in
    let nb = length-append b (41 ∷ []) in
    record { some = omega arith; first = omega arith; second = omega arith }

record ThreeFit (deep : ℕ) (a b c : List ℕ) : Type 0 where
  some : 0 < deep
  first : length a ≤ deep - 1
  second : length b ≤ deep - 1
  third : length c ≤ deep - 1

three_fit : {deep : ℕ} (word a b c : List ℕ) → length (three word a b c) ≤ deep → ThreeFit deep a b c
three_fit word a b c h =
    let n = length-append word (a ++ (32 ∷ (b ++ (32 ∷ (c ++ (41 ∷ [])))))) in
    let na = length-append a (32 ∷ (b ++ (32 ∷ (c ++ (41 ∷ []))))) in
    let nb = length-append b (32 ∷ (c ++ (41 ∷ []))) in
    let nc = length-append c (41 ∷ []) in
    record { some = omega arith; first = omega arith; second = omega arith; third = omega arith }

module _ (declared : ℕ) (small : declared ≤ 65536) where
  -- Read by its head, with parts one level less deep
  term_by_lem :
      (deep : ℕ) (bytes : List ℕ) {body rest : List ℕ} {head : Head} {t : Term} → 0 < deep → read_head bytes ≡ got head body
      → term_by declared (λ r. read_term (deep - 1) declared r) (λ r. read_formula (deep - 1) declared r) head body ≡ got t rest
      → read_term deep declared bytes ≡ got t rest
  unfolding read_term
  term_by_lem zero bytes h eh et = absurd (omega arith)
  term_by_lem (suc deep) bytes h eh et = let e : suc deep - 1 ≡ deep = omega arith in rw eh (rw e at et)

  formula_by_lem :
      (deep : ℕ) (bytes : List ℕ) {body rest : List ℕ} {head : Head} {f : Formula} → 0 < deep → read_head bytes ≡ got head body
      → formula_by (λ r. read_term (deep - 1) declared r) (λ r. read_formula (deep - 1) declared r) head body ≡ got f rest
      → read_formula deep declared bytes ≡ got f rest
  unfolding read_formula
  formula_by_lem zero bytes h eh ef = absurd (omega arith)
  formula_by_lem (suc deep) bytes h eh ef = let e : suc deep - 1 ≡ deep = omega arith in rw eh (rw e at ef)

  mutual
    unfolding term_text formula_text

    pub term_read :
        (t : Term) (deep : ℕ) (rest : List ℕ) → TermSpellable declared t → length (term_text t) ≤ deep → NoDigit rest
        → read_term deep declared (term_text t ++ rest) ≡ got t rest
    term_read (variable k) deep rest s h none =
        term_by_lem deep _ (omega arith) (variable_read (decimal k ++ rest)) (rw (number_read declared k rest s small none))
    term_read (constant n) deep rest s h none = term_by_lem deep _ (omega arith) (constant_read (four_hex n ++ rest)) (rw (four_read_lem n rest s))
    term_read (choice f x y) deep rest s h none =
        let fit = three_fit (ascii "(ite ") (formula_text f) (term_text x) (term_text y) h in
        ap (λ (bytes : List ℕ). read_term deep declared bytes) (three_then (ascii "(ite ") (formula_text f) (term_text x) (term_text y) rest)
        ∙ term_by_lem deep _ fit.some (choice_read _)
        (three_read choice (read_formula (deep - 1) declared) (read_term (deep - 1) declared) (read_term (deep - 1) declared)
        (formula_read f (deep - 1) _ s.0 fit.first) (term_read x (deep - 1) _ s.1 fit.second refl)
        (term_read y (deep - 1) _ s.2 fit.third refl))
    term_read (apply o x y) deep rest s h none =
        let fit = two_fit (operation_word o) (term_text x) (term_text y) h in
        ap (λ (bytes : List ℕ). read_term deep declared bytes) (two_then (operation_word o) (term_text x) (term_text y) rest)
        ∙ term_by_lem deep _ fit.some (operation_read o _)
        (two_read (apply o) (read_term (deep - 1) declared) (read_term (deep - 1) declared)
        (term_read x (deep - 1) _ s.0 fit.first refl) (term_read y (deep - 1) _ s.1 fit.second refl))

    pub formula_read :
        (f : Formula) (deep : ℕ) (rest : List ℕ) → FormulaSpellable declared f → length (formula_text f) ≤ deep
        → read_formula deep declared (formula_text f ++ rest) ≡ got f rest
    formula_read (truth p) deep rest s h = formula_by_lem deep _ (truth_fits p h) (truth_read p rest) refl
    formula_read (test t x y) deep rest s h =
        let fit = two_fit (test_word t) (term_text x) (term_text y) h in
        ap (λ (bytes : List ℕ). read_formula deep declared bytes) (two_then (test_word t) (term_text x) (term_text y) rest)
        ∙ formula_by_lem deep _ fit.some (test_read t _)
        (two_read (test t) (read_term (deep - 1) declared) (read_term (deep - 1) declared)
        (term_read x (deep - 1) _ s.0 fit.first refl) (term_read y (deep - 1) _ s.1 fit.second refl))
    formula_read (negation f) deep rest s h =
        let size = length-append (formula_text f) (41 ∷ []) in
        ap (λ (bytes : List ℕ). read_formula deep declared (ascii "(not " ++ bytes)) (append_assoc (formula_text f) (41 ∷ []) rest)
        ∙ formula_by_lem deep _ (omega arith) (negation_read _) (one_read negation (read_formula (deep - 1) declared) (formula_read f (deep - 1) _ s (omega arith)))
    formula_read (join c f g) deep rest s h =
        let fit = two_fit (connective_word c) (formula_text f) (formula_text g) h in
        ap (λ (bytes : List ℕ). read_formula deep declared bytes) (two_then (connective_word c) (formula_text f) (formula_text g) rest)
        ∙ formula_by_lem deep _ fit.some (connective_read c _)
        (two_read (join c) (read_formula (deep - 1) declared) (read_formula (deep - 1) declared)
        (formula_read f (deep - 1) _ s.0 fit.first) (formula_read g (deep - 1) _ s.1 fit.second))
    formula_read (select f g h) deep rest s fits =
        let fit = three_fit (ascii "(ite ") (formula_text f) (formula_text g) (formula_text h) fits in
        ap (λ (bytes : List ℕ). read_formula deep declared bytes) (three_then (ascii "(ite ") (formula_text f) (formula_text g) (formula_text h) rest)
        ∙ formula_by_lem deep _ fit.some (choice_read _)
        (three_read select (read_formula (deep - 1) declared) (read_formula (deep - 1) declared) (read_formula (deep - 1) declared)
        (formula_read f (deep - 1) _ s.0 fit.first) (formula_read g (deep - 1) _ s.1 fit.second)
        (formula_read h (deep - 1) _ s.2 fit.third))
