-- Links and facts, which stand beside equations and comparisons, change no truth; and choices that the case alone decides.
-- Assumes nothing. Met again in Reading, Lines and Rows.
use mathlib.Core.Path.{◌≡◌, refl, sym, ap, ap₂, ◌∙◌}
use Prim.Native.Nat.{ℕ}
use mathlib.Core.Bool.{Bool, true, false, cond, not, ◌&&◌, ◌||◌, true≢false}
use mathlib.Core.List.{List, [], ◌∷◌}
use lib.Dec.{eqb, leb}
use borrow.Author.Tests.{eqb-true}
use Rattle.laws.proofs.Views.{EqView, same, diff, eq_view}
use Rattle.smt.specs.Term.{Test, Term, Formula, tested, joined, value, meets}
use Rattle.script.specs.Assertions.{value_of, linked, is_variable, comparison, facts_with, facts, with_facts}
use Rattle.script.specs.Assertions

-- Two formulas that are both true or both false, beside one that gives that they are.
agreed_adds_nothing : (p q r : Bool) → (r ≡ true → p ≡ q) → (not (cond p (not q) q) && r) ≡ r
agreed_adds_nothing true true r h = refl
agreed_adds_nothing true false true h = absurd (true≢false (h refl))
agreed_adds_nothing true false false h = refl
agreed_adds_nothing false true true h = absurd (true≢false (sym (h refl)))
agreed_adds_nothing false true false h = refl
agreed_adds_nothing false false r h = refl

-- A link says no more than the equation, and a fact says nothing.
link_adds_nothing : (x y s : ℕ) (r : Bool) → r ≡ eqb x y → (not (cond (eqb x s) (not (eqb y s)) (eqb y s)) && r) ≡ eqb x y
link_adds_nothing x y s r e =
    agreed_adds_nothing (eqb x s) (eqb y s) r (λ held. ap (λ (n : ℕ). eqb n s) (eqb-true x y (sym e ∙ held))) ∙ e

fact_adds_nothing : (t : Test) (x y s u : ℕ) (r : Bool)
    → ((not (eqb x s && eqb y u) || not (cond (tested t x y) (not (tested t s u)) (tested t s u))) && r) ≡ r
fact_adds_nothing t x y s u r = go (eq_view x s) (eq_view y u)
  where
    go : EqView x s → EqView y u → ((not (eqb x s && eqb y u) || not (cond (tested t x y) (not (tested t s u)) (tested t s u))) && r) ≡ r
    go (same e q) (same e' q') = rw (q, q') (agreed_adds_nothing (tested t x y) (tested t s u) r (λ held. ap₂ (tested t) e e'))
    go (same e q) (diff e' q') = rw (q, q')
    go (diff e q) v = rw q

module _ (env : ℕ → ℕ) where
  pub value_cond : (p : Bool) (x y : Term) → value (cond p x y) env ≡ cond p (value x env) (value y env)
  value_cond true x y = refl
  value_cond false x y = refl

  pub meets_cond : (p : Bool) (f g : Formula) → meets (cond p f g) env ≡ cond p (meets f env) (meets g env)
  meets_cond true f g = refl
  meets_cond false f g = refl

  linked_value : (sources : List ℕ) (x y : Term) → meets (linked sources x y) env ≡ eqb (value x env) (value y env)
  unfolding linked meets tested joined
  linked_value [] x y = refl
  linked_value (s ∷ sources) x y = link_adds_nothing (value x env) (value y env) (value (value_of s) env) _ (linked_value sources x y)

  -- An equation of two terms, with links or without.
  pub same_value : (sources : List ℕ) (x y : Term) → meets (Assertions.same sources x y) env ≡ eqb (value x env) (value y env)
  unfolding Assertions.same meets tested
  same_value sources x y = meets_cond (is_variable x && is_variable y) _ _ ∙ go (is_variable x && is_variable y)
    where
      go : (p : Bool) → cond p (meets (linked sources x y) env) (eqb (value x env) (value y env)) ≡ eqb (value x env) (value y env)
      go true = linked_value sources x y
      go false = refl

  module _ (t : Test) (x y : Term) where
    first_facts : (s : ℕ) (others : List ℕ) (base : Formula) → meets (facts_with t x y s others base) env ≡ meets base env
    unfolding facts_with meets tested joined
    first_facts s [] base = refl
    first_facts s (u ∷ others) base =
        fact_adds_nothing t (value x env) (value y env) (value (value_of s) env) (value (value_of u) env) _ ∙ first_facts s others base

    all_facts : (sources firsts : List ℕ) (base : Formula) → meets (facts t x y sources firsts base) env ≡ meets base env
    unfolding facts
    all_facts sources [] base = refl
    all_facts sources (s ∷ firsts) base = first_facts s sources (facts t x y sources firsts base) ∙ all_facts sources firsts base

  pub with_facts_lem : (sources : List ℕ) (op : ℕ) (x y : Term) (base : Formula) → meets (with_facts sources op x y base) env ≡ meets base env
  unfolding with_facts
  with_facts_lem sources op x y base = go (leb 5 op && (is_variable x && is_variable y))
    where
      go : (p : Bool) → meets (cond p (facts (comparison op) x y sources sources base) base) env ≡ meets base env
      go true = all_facts (comparison op) x y sources sources base
      go false = refl
