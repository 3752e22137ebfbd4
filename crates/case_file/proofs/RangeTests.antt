-- What `all` answers over a range of numbers.
-- Assumes nothing. Met again in links.
use mathlib.Core.Path.{◌≡◌, refl, sym, ap, subst, ◌∙◌}
use Prim.Native.Nat.{ℕ, ◌-◌}
use mathlib.Core.Bool.{Bool, true, false}
use mathlib.Core.List.{List, [], ◌∷◌}
use native.Mathlib.Omega.{arith}
use denote.Param.Members.{Mut}
use Rattle.std.specs.declared.option.Option.{Option}
use Rattle.std.specs.declared.option.Option.TheVariants.{None, Some}
use Rattle.std.specs.declared.ops.Range.{Range}
use Rattle.std.specs.Iterator.{YieldsThen, ChecksAll}
use Rattle.std.specs.List.{FoldsTo}
use Rattle.std.specs.Fn.{Called}
use Rattle.std.specs.Option.{MatchOption}
use Rattle.std.proofs.iter.Yields.{nat_range_steps}
use Rattle.model.specs.Lists.{all_from}
use Rattle.case_file.proofs.LoopTests.{all_at_end, all_fails, all_goes_on}

module _ {F : Type 0} {g : Mut F (ℕ × Unit {0}) Bool} (f : F) (test : ℕ → Bool)
    (tests : (x : ℕ) (b : Bool) (q : F) → Called g f (x, tt) b q → (q ≡ f) × (b ≡ test x)) where
  pub all_of_range : {s u : Range ℕ} {r : Bool} → ChecksAll nat_range_steps g s f r u → r ≡ all_from test s.start (s.end - s.start)
  all_of_range {s} {u} {r} d = go d.0 s d.1 d.2 d.3 f refl d.4 d.5
    where
      go : (xs : List ℕ) (s : Range ℕ) (o : Option ℕ) (f' : F) → YieldsThen nat_range_steps s xs o u → (k : F) → k ≡ f
          → FoldsTo (λ p x q. Called g p (x, tt) true q) k xs f' → MatchOption o (r ≡ true) (λ x. (r ≡ false) × ((h : F) × Called g f' (x, tt) false h))
          → r ≡ all_from test s.start (s.end - s.start)
      go [] s None f' (t, e, st) k ek ef er = rw e (er ∙ sym (all_at_end test t.start t.end (omega (arith, st.1.0))))
      go [] s (Some x) f' (t, e, st) k ek ef (er, (h, called)) =
          let told = tests x false h (subst (λ (p : F). Called g p (x, tt) false h) (sym ef ∙ ek) called) in
          rw e (er ∙ sym (all_fails test t.start t.end (omega (arith, st.1.0)) (ap test (sym st.1.1) ∙ sym told.1)))
      go (x ∷ xs) s o f' (t, (j, step, ys), st) k ek (q, called, folds) er =
          let told = tests x true q (subst (λ (p : F). Called g p (x, tt) true q) ek called) in
          go xs j o f' (t, ys, st) q told.0 folds er
          ∙ rw (step.0, step.1.2) (sym (all_goes_on test s.start s.end (omega (arith, step.1.0)) (ap test (sym step.1.1) ∙ sym told.1)))
