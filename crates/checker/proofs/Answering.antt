-- From the first constraint that fails to the checker's answer.
-- Assumes nothing.
use mathlib.Core.Path.{◌≡◌, refl, ap}
use Prim.Native.Nat.{ℕ, zero, suc}
use native.Mathlib.Omega.{arith}
use borrow.Author.Tests.{ne_eqb}
use Rattle.std.specs.Prelude.{Ok, Err}
use Rattle.model.specs.Answers.{answer_of_check}
use Rattle.model.specs.declared.Checked.TheVariants.{Meets, Fails}
use Rattle.search.specs.declared.Failed.{Failed}
use Rattle.search.specs.Search.{unless_fails}
use Rattle.checker.specs.Answer.{held_unless}

pub meets_of : (n : ℕ) → Ok tt ≡ held_unless n → Ok Meets ≡ answer_of_check n
unfolding unless_fails
meets_of zero e = refl
meets_of (suc n) e = absurd cc

pub fails_of : (n : ℕ) {f : Failed} → Err f ≡ held_unless n → Ok (Fails f.constraint) ≡ answer_of_check n
unfolding unless_fails
fails_of zero e = absurd cc
fails_of (suc n) {f} e = let z : f ≡ record { constraint = suc n } = cc in rw (ne_eqb (suc n) 0 (λ x. omega (arith, x))) (ap (λ (x : Failed). Ok (Fails x.constraint)) z)
