-- Block numbers alone, along one thread: what constraints 1 to 3 say of its lines, and which lines a block runs.
-- Assumes nothing. Met again in Blocks, for all threads, and in Walk.
use mathlib.Core.Path.{◌≡◌, refl, sym, ap, ◌∙◌, subst}
use mathlib.Core.Logic.{◌≢◌}
use Prim.Native.Nat.{ℕ, zero, suc, ◌+◌, ◌%◌, ◌≤◌, ◌<◌}
use mathlib.Core.Bool.{Bool, true, false, cond}
use mathlib.Core.List.{List, [], ◌∷◌, reverse_aux}
use native.Mathlib.Omega.{arith}
use native.Mathlib.Nat.{zero-add}
use lib.Dec.{eqb}
use lib.ListN.{drop}
use borrow.Author.Tests.{eq-eqb, ne_eqb}
use Rattle.laws.proofs.Views.{EqView, same, diff, eq_view}
use Rattle.model.specs.CaseFile.{Line, Case}
use Rattle.model.specs.Schedule.{lines_in_block}
use Rattle.laws.specs.Order.{AllLines, Ordered}
use Rattle.laws.proofs.Walk.{RunBefore}

-- The lines already run, latest first, after so many more of these.
abbrev pub run_more : ℕ → List Line → List Line → List Line
run_more zero ls earlier = earlier
run_more (suc steps) [] earlier = earlier
run_more (suc steps) (l ∷ ls) earlier = run_more steps ls (l ∷ earlier)

pub run_more_and_rest : (steps : ℕ) (ls earlier : List Line) → reverse_aux (run_more steps ls earlier) (drop steps ls) ≡ reverse_aux earlier ls
run_more_and_rest zero ls earlier = refl
run_more_and_rest (suc steps) [] earlier = refl
run_more_and_rest (suc steps) (l ∷ ls) earlier = run_more_and_rest steps ls (l ∷ earlier)

module _ (block : ℕ → ℕ) where
  -- A line has block number i.
  abbrev pub HasBlock : ℕ → Line → Type 0
  HasBlock i l = block l.number ≡ i

  -- There are so many next lines, and they are of block i.
  abbrev pub NextIn : ℕ → ℕ → List Line → Type 0
  NextIn i zero ls = Unit
  NextIn i (suc steps) [] = ⊥
  NextIn i (suc steps) (l ∷ ls) = (block l.number ≡ i) × NextIn i steps ls

  pub run_before_has_none : (high i : ℕ) (earlier : List Line) → high ≤ i → RunBefore block high earlier → lines_in_block block i earlier ≡ 0
  unfolding lines_in_block
  run_before_has_none high i [] h before = refl
  run_before_has_none high i (l ∷ earlier) h before =
      rw (ne_eqb (block l.number) i (λ e. omega arith)) (run_before_has_none (suc (block l.number)) i earlier (omega arith) before.1)

  pub run_before_after_block : (i steps : ℕ) (ls earlier : List Line) → NextIn i steps ls → RunBefore block (suc i) earlier
      → RunBefore block (suc i) (run_more steps ls earlier)
  run_before_after_block i zero ls earlier next before = before
  run_before_after_block i (suc steps) [] earlier next before = before
  run_before_after_block i (suc steps) (l ∷ ls) earlier next before =
      run_before_after_block i steps ls (l ∷ earlier) next.1 (omega arith, rw next.0 before)

  pub lines_in_block_of_reverse : (i : ℕ) (earlier ls : List Line)
      → lines_in_block block i (reverse_aux earlier ls) ≡ lines_in_block block i earlier + lines_in_block block i ls
  unfolding lines_in_block
  lines_in_block_of_reverse i [] ls = sym (zero-add (lines_in_block block i ls))
  lines_in_block_of_reverse i (l ∷ earlier) ls = lines_in_block_of_reverse i earlier (l ∷ ls) ∙ go (eqb (block l.number) i)
    where
      go : (q : Bool) → lines_in_block block i earlier + cond q (suc (lines_in_block block i ls)) (lines_in_block block i ls)
          ≡ cond q (suc (lines_in_block block i earlier)) (lines_in_block block i earlier) + lines_in_block block i ls
      go true = omega arith
      go false = refl

module _ (case : Case) (block : ℕ → ℕ) where
  pub ordered_weakened : (t low lower : ℕ) (ls : List Line) → lower ≤ low → Ordered case block t low ls → Ordered case block t lower ls
  ordered_weakened t low lower [] h ordered = tt
  ordered_weakened t low lower (l ∷ ls) h ordered =
      (record { from = omega (arith, ordered.0.from); upto = ordered.0.upto; mine = ordered.0.mine }, ordered.1)

  -- A block of another thread has none of the lines.
  pub ordered_past_other_thread : (t i : ℕ) (ls : List Line) → i ≤ case.n → i % case.T ≢ t → Ordered case block t i ls
      → Ordered case block t (suc i) ls
  ordered_past_other_thread t i [] few other ordered = tt
  ordered_past_other_thread t i (l ∷ ls) few other ordered =
      (record { from = go (eq_view (block l.number) i); upto = ordered.0.upto; mine = ordered.0.mine }, ordered.1)
    where
      go : EqView (block l.number) i → suc i ≤ block l.number
      go (same e _) = absurd (other (ap (λ (x : ℕ). x % case.T) (sym e) ∙ ordered.0.mine (omega arith)))
      go (diff differs _) = omega (arith, ordered.0.from)

  pub ordered_has_none_below : (t low i : ℕ) (ls : List Line) → i < low → Ordered case block t low ls → lines_in_block block i ls ≡ 0
  unfolding lines_in_block
  ordered_has_none_below t low i [] h ordered = refl
  ordered_has_none_below t low i (l ∷ ls) h ordered =
      rw (ne_eqb (block l.number) i (λ e. omega (arith, ordered.0.from)))
      (ordered_has_none_below t (block l.number) i ls (omega (arith, ordered.0.from)) ordered.1)

  -- After block n the lines that are left have block number n + 1, and lines that have it are in order there.
  pub ordered_end_is_unrun : (t i : ℕ) (ls : List Line) → i ≡ suc case.n → Ordered case block t i ls → AllLines (HasBlock block i) ls
  ordered_end_is_unrun t i [] e ordered = tt
  ordered_end_is_unrun t i (l ∷ ls) e ordered =
      let own : block l.number ≡ i = omega (arith, ordered.0.from, ordered.0.upto) in
      (own, ordered_end_is_unrun t i ls e (subst (λ (x : ℕ). Ordered case block t x ls) own ordered.1))

  pub unrun_is_ordered : (t i : ℕ) (ls : List Line) → i ≡ suc case.n → AllLines (HasBlock block i) ls → Ordered case block t i ls
  unrun_is_ordered t i [] e unrun = tt
  unrun_is_ordered t i (l ∷ ls) e unrun = (
    record { from = omega (arith, unrun.0); upto = omega (arith, unrun.0); mine = λ few. absurd (omega (arith, unrun.0)) },
    subst (λ (x : ℕ). Ordered case block t x ls) (sym unrun.0) (unrun_is_ordered t i ls e unrun.1),
  )

  -- A block runs as many lines as have its number: these are the next ones, and the rest is of later blocks.
  pub counted_block_is_next : (t i steps : ℕ) (ls : List Line) → steps ≡ lines_in_block block i ls → Ordered case block t i ls
      → NextIn block i steps ls × Ordered case block t (suc i) (drop steps ls)
  unfolding lines_in_block
  counted_block_is_next t i zero [] e ordered = (tt, tt)
  counted_block_is_next t i (suc steps) [] e ordered = absurd (omega arith)
  counted_block_is_next t i zero (l ∷ ls) e ordered = (tt, go (eq_view (block l.number) i))
    where
      go : EqView (block l.number) i → Ordered case block t (suc i) (l ∷ ls)
      go (same _ q) = absurd (omega (arith, rw q at e))
      go (diff differs q) = (record { from = omega (arith, ordered.0.from); upto = ordered.0.upto; mine = ordered.0.mine }, ordered.1)
  counted_block_is_next t i (suc steps) (l ∷ ls) e ordered = go (eq_view (block l.number) i)
      (λ e'. counted_block_is_next t i steps ls e' (ordered_weakened t (block l.number) i ls ordered.0.from ordered.1))
    where
      go : EqView (block l.number) i
          → (steps ≡ lines_in_block block i ls → NextIn block i steps ls × Ordered case block t (suc i) (drop steps ls))
          → NextIn block i (suc steps) (l ∷ ls) × Ordered case block t (suc i) (drop steps ls)
      go (same p q) ih = let both = ih (omega (arith, rw q at e)) in ((p, both.0), both.1)
      go (diff differs q) ih =
          absurd (omega (arith, rw q at e, ordered_has_none_below t (block l.number) i ls (omega (arith, ordered.0.from)) ordered.1))

  -- And the other way round.
  pub next_is_ordered : (t i steps : ℕ) (ls : List Line) → i ≤ case.n → i % case.T ≡ t → NextIn block i steps ls
      → Ordered case block t (suc i) (drop steps ls) → Ordered case block t i ls
  next_is_ordered t i zero ls few mine next ordered = ordered_weakened t (suc i) i ls (omega arith) ordered
  next_is_ordered t i (suc steps) [] few mine next ordered = tt
  next_is_ordered t i (suc steps) (l ∷ ls) few mine next ordered = (
    record { from = omega (arith, next.0); upto = omega (arith, next.0); mine = λ few'. rw next.0 mine },
    rw next.0 (next_is_ordered t i steps ls few mine next.1 ordered),
  )

  pub next_is_counted : (t i steps : ℕ) (ls : List Line) → NextIn block i steps ls → Ordered case block t (suc i) (drop steps ls)
      → lines_in_block block i ls ≡ steps
  unfolding lines_in_block
  next_is_counted t i zero ls next ordered = ordered_has_none_below t (suc i) i ls (omega arith) ordered
  next_is_counted t i (suc steps) [] next ordered = absurd next
  next_is_counted t i (suc steps) (l ∷ ls) next ordered =
      rw (eq-eqb (block l.number) i next.0) (ap suc (next_is_counted t i steps ls next.1 ordered))
