-- What holds of every schedule of a case without inputs, found by trying: no block length is over the lines of its thread, so the
-- schedules that fit are among the lists of small numbers, and a test of all of these is one that the checker computes.
-- Assumes nothing. Met again in CaseA.
use Rattle.std.specs.Prelude.{Result, Ok, Err}
use mathlib.Core.Path.{◌≡◌, refl, sym, ap₂}
use mathlib.Core.Logic.{◌⊎◌, inl, inr}
use Prim.Native.Nat.{ℕ, zero, suc, ◌%◌, ◌<◌}
use mathlib.Core.Bool.{Bool, true, false, cond, ◌&&◌, ◌||◌, true≢false}
use mathlib.Core.List.{List, [], ◌∷◌}
use native.Mathlib.Omega.{arith}
use lib.ListN.{length}
use lib.Seq.{take_all}
use lib.Dec.{ltb, eqb}
use borrow.Author.Tests.{ltb-true, eqb-true, eq-eqb}
use Rattle.model.specs.Word.{AllBelow}
use Rattle.model.specs.Lists.{all_from}
use Rattle.model.specs.CaseFile.{Case, lines_of}
use Rattle.model.specs.Schedule.{block_lengths, steps_of, lengths_fit}
use Rattle.model.specs.declared.Replayed.{Replayed}
use Rattle.model.specs.declared.Replayed.TheVariants.{Violated, Clean, CutOff}
use Rattle.laws.proofs.Views.{and-true}
use Rattle.laws.proofs.Ranges.{all_from_gives}
use Rattle.correspondence.specs.Meaning.{WellFormed}
use Rattle.correspondence.proofs.Blocks.{turn}
use Rattle.correspondence.proofs.Endings.{few_steps_lem}
use Rattle.model.specs.declared.Refusal.{Refusal}

-- ---- Tests and what they say

-- An answer with clean.
abbrev pub is_clean : Result Replayed Refusal → Bool
is_clean (Ok (Violated k)) = false
is_clean (Ok Clean) = true
is_clean (Ok (CutOff k)) = false
is_clean (Err e) = false

pub clean_is : (r : Result Replayed Refusal) → is_clean r ≡ true → r ≡ Ok Clean
clean_is (Ok (Violated k)) e = absurd (true≢false (sym e))
clean_is (Ok Clean) e = refl
clean_is (Ok (CutOff k)) e = absurd (true≢false (sym e))
clean_is (Err r) e = absurd (true≢false (sym e))

-- The same numbers; and numbers below a bound.
abbrev pub same : List ℕ → List ℕ → Bool
same [] [] = true
same [] (y ∷ ys) = false
same (x ∷ xs) [] = false
same (x ∷ xs) (y ∷ ys) = eqb x y && same xs ys

pub same_is : (xs ys : List ℕ) → same xs ys ≡ true → xs ≡ ys
same_is [] [] e = refl
same_is [] (y ∷ ys) e = absurd (true≢false (sym e))
same_is (x ∷ xs) [] e = absurd (true≢false (sym e))
same_is (x ∷ xs) (y ∷ ys) e =
    let both = and-true (eqb x y) (same xs ys) e in
    ap₂ (λ (z : ℕ) (zs : List ℕ). z ∷ zs) (eqb-true x y both.first) (same_is xs ys both.rest)

abbrev pub below : ℕ → List ℕ → Bool
below bound [] = true
below bound (x ∷ xs) = ltb x bound && below bound xs

pub below_is : (bound : ℕ) (xs : List ℕ) → below bound xs ≡ true → AllBelow bound xs
below_is bound [] e = tt
below_is bound (x ∷ xs) e =
    let both = and-true (ltb x bound) (below bound xs) e in (ltb-true x bound both.first, below_is bound xs both.rest)

pub either_is : (p q : Bool) → (p || q) ≡ true → (p ≡ true) ⊎ (q ≡ true)
either_is true q e = inl refl
either_is false q e = inr e

-- ---- Trying

-- The test holds of every list of so many numbers below the bound.
unfoldable pub all_lists : ℕ → ℕ → (List ℕ → Bool) → Bool
all_lists bound zero test = test []
all_lists bound (suc many) test = all_from (λ x. all_lists bound many (λ xs. test (x ∷ xs))) 0 bound

all_lists_give : (bound many : ℕ) (test : List ℕ → Bool) → all_lists bound many test ≡ true
    → (xs : List ℕ) → length xs ≡ many → AllBelow bound xs → test xs ≡ true
unfolding all_lists
all_lists_give bound zero test e [] h low = e
all_lists_give bound zero test e (x ∷ xs) h low = absurd (omega (arith, h))
all_lists_give bound (suc many) test e [] h low = absurd (omega (arith, h))
all_lists_give bound (suc many) test e (x ∷ xs) h low =
    all_lists_give bound many (λ ys. test (x ∷ ys))
    (all_from_gives (λ y. all_lists bound many (λ ys. test (y ∷ ys))) 0 bound e x (omega arith) (omega (arith, low.0))) xs (omega (arith, h)) low.1

module _ (case : Case) (wf : WellFormed case) (bound : ℕ) where
  -- A length is among the steps of its thread.
  lengths_below : (i : ℕ) (lens : List ℕ) → ((t : ℕ) → t < case.T → steps_of case t i lens < bound) → AllBelow bound lens
  unfolding steps_of
  lengths_below i [] few = tt
  lengths_below i (len ∷ lens) few = (
    omega (arith, rw (eq-eqb (i % case.T) (i % case.T) refl) at (few (i % case.T) (turn case wf i))),
    lengths_below (suc i) lens (λ t h. omega (arith, few t h)),
  )

  -- Every schedule of block lengths alone that fits passes the test.
  pub each_that_fits : (test : List ℕ → Bool) → ((t : ℕ) → t < case.T → length (lines_of case t) < bound)
      → all_lists bound (suc case.n) (λ lens. cond (lengths_fit case lens) (test lens) true) ≡ true
      → (schedule : List ℕ) → length schedule ≡ suc case.n → lengths_fit case (block_lengths case schedule) ≡ true → test schedule ≡ true
  each_that_fits test few_lines_lem tried schedule sized fit =
      let whole = take_all (suc case.n) schedule (omega (arith, sized)) in
      let fits = rw whole at fit in
      let few = few_steps_lem case schedule fits in
      rw fits at (all_lists_give bound (suc case.n) (λ lens. cond (lengths_fit case lens) (test lens) true) tried schedule sized
      (lengths_below 0 schedule (λ t h. omega (arith, few t h, few_lines_lem t h))))
