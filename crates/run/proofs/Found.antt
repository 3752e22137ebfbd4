-- What a search finds, from what it answers, and back.
-- Assumes nothing. Met again where a call looks for the first line that is late.
use Rattle.std.proofs.Common.{◌≡◌, ℕ, Bool, true, false, cond, eqb, Option, None, Some, refl, sym, ap, ◌∙◌, ne_eqb}
use Rattle.std.specs.Option.{unwrap_or}
use Rattle.model.specs.Lists.{unless_0}
use Rattle.run.specs.Found.{Finds}

-- A search that is given what the lines after them come to, by what it finds.
module _ {search : ℕ → ℕ} {r : Option ℕ} (finds : Finds search r) {later whole : ℕ} (is : search later ≡ whole) where
  pub finds_none : r ≡ None → later ≡ whole
  finds_none none = ap (λ (x : Option ℕ). unwrap_or x later) (sym none) ∙ sym (finds.answers later) ∙ is

  pub finds_some : {k : ℕ} → r ≡ Some k → Some k ≡ unless_0 whole
  finds_some {k} some =
      let found : k ≡ whole = ap (λ (x : Option ℕ). unwrap_or x later) (sym some) ∙ sym (finds.answers later) ∙ is in
      rw (← found, ne_eqb k 0 (λ none. finds.is_record (some ∙ ap Some none)))

pub none_by : (n : ℕ) → None ≡ unless_0 n → eqb n 0 ≡ true
none_by n is = by (eqb n 0) is
  where
    by : (b : Bool) → None ≡ cond b None (Some n) → b ≡ true
    by true e = refl
    by false e = cc

pub some_by : (n : ℕ) {k : ℕ} → Some k ≡ unless_0 n → (eqb n 0 ≡ false) × (k ≡ n)
some_by n {k} is = by (eqb n 0) is
  where
    by : (b : Bool) → Some k ≡ cond b None (Some n) → (b ≡ false) × (k ≡ n)
    by true e = cc
    by false e = (refl, cc)
