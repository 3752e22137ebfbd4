-- The first part of 6: its answer is the definition's, and what it says of 6 to 8.
-- Assumes nothing.
use mathlib.Core.Path.{◌≡◌, sym, ap₂, ◌∙◌}
use Prim.Native.Nat.{ℕ, ◌-◌}
use mathlib.Core.Bool.{Bool, true, ◌&&◌}
use mathlib.Core.List.{List}
use native.Mathlib.Omega.{arith}
use borrow.Author.Tests.{leb-true}
use lib.Dec.{leb}
use Rattle.model.specs.Lists.{all_from}
use Rattle.model.specs.CaseFile.{records, thread_count, first_record, next_record}
use Rattle.laws.proofs.Views.{and-true}
use Rattle.laws.proofs.Ranges.{all_from_gives}
use Rattle.links.specs.Links.{firsts_in, nexts_in, numbers_ok, ThreadsWithin, LinksWithin}

pub numbers_are_ok :
    (bytes : List ℕ) (T most : ℕ) (firsts nexts : Bool) → T ≡ thread_count bytes → most ≡ records bytes → firsts ≡ all_from (λ t. leb (first_record bytes t) most) 0 (T - 0) →
    nexts ≡ nexts_in bytes (records bytes) → (firsts && nexts) ≡ numbers_ok bytes
numbers_are_ok bytes T most firsts nexts e_t em ef en =
    ap₂ (λ (x y : Bool). x && y) (ef ∙ ap₂ (λ (m n : ℕ). all_from (λ t. leb (first_record bytes t) m) 0 n) em (omega arith)) en

module _ (bytes : List ℕ) (r : Bool) (e : r ≡ numbers_ok bytes) where
  pub numbers_link : ThreadsWithin bytes → r ≡ true → LinksWithin bytes
  numbers_link threads h =
      let both = and-true (firsts_in bytes (records bytes)) (nexts_in bytes (records bytes)) (sym e ∙ h) in
      record {
        threads = threads;
        firsts = λ t low. leb-true _ _ (all_from_gives (λ t. leb (first_record bytes t) (records bytes)) 0 (thread_count bytes) both.first t (omega arith) (omega (arith, low)));
        nexts = λ k a b. leb-true _ _ (all_from_gives (λ k. leb (next_record bytes k) (records bytes)) 1 (records bytes) both.rest k a (omega (arith, b)));
      }
