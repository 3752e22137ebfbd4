-- Constraint 6: what walking back over a thread's copies of an item finds.
-- Assumes nothing. Met again in Values, where a block ends, and in Rows.
use mathlib.Core.Path.{◌≡◌, refl, sym, ap, ◌∙◌}
use mathlib.Core.Logic.{◌≢◌}
use Prim.Native.Nat.{ℕ, suc, ◌≤◌, ◌<◌}
use mathlib.Core.List.{List, [], ◌∷◌, reverse_aux}
use native.Mathlib.Omega.{arith}
use lib.Dec.{eqb}
use borrow.Author.Tests.{eq-eqb, ne_eqb}
use Rattle.laws.proofs.Views.{EqView, same, diff, eq_view, and_false}
use Rattle.model.specs.Word.{nonzero}
use Rattle.model.specs.CaseFile.{Line, Case}
use Rattle.model.specs.Line.{item_name, target_name}
use Rattle.model.specs.Assignment.{Assignment}
use Rattle.model.specs.Copies.{latest, value_before, read_item, walk_back}
use Rattle.laws.specs.Order.{AllLines, Positive, Ordered}
use Rattle.laws.proofs.Copies.{latest_target, latest_other}

module _ (block : ℕ → ℕ) where
  -- Lines already run, latest first: their block numbers are below `high` and do not rise.
  abbrev pub RunBefore : ℕ → List Line → Type 0
  RunBefore high [] = Unit
  RunBefore high (l ∷ earlier) = (block l.number < high) × RunBefore (suc (block l.number)) earlier

  pub run_before_weakened : (high higher : ℕ) (earlier : List Line) → high ≤ higher → RunBefore high earlier → RunBefore higher earlier
  run_before_weakened high higher [] h before = tt
  run_before_weakened high higher (l ∷ earlier) h before = (omega arith, before.1)

module _ (case : Case) (α : Assignment) where
  -- One line: it is passed over if it is of another block or has another target, else it is what is found.
  pub walk_back_past_other_block : (i g : ℕ) (l : Line) (earlier : List Line) → α.block l.number ≢ i
      → walk_back case α i g (l ∷ earlier) ≡ walk_back case α i g earlier
  unfolding walk_back
  walk_back_past_other_block i g l earlier differs =
      rw (ne_eqb (α.block l.number) i differs, and_false (eqb (target_name case.G l) (item_name g)))

  pub walk_back_past_other_target : (i g : ℕ) (l : Line) (earlier : List Line) → target_name case.G l ≢ item_name g
      → walk_back case α i g (l ∷ earlier) ≡ walk_back case α i g earlier
  unfolding walk_back
  walk_back_past_other_target i g l earlier differs = rw (ne_eqb (target_name case.G l) (item_name g) differs)

  pub walk_back_finds : (i g : ℕ) (l : Line) (earlier : List Line) → target_name case.G l ≡ item_name g → α.block l.number ≡ i
      → walk_back case α i g (l ∷ earlier) ≡ α.value l.number
  unfolding walk_back
  walk_back_finds i g l earlier e e' = rw (eq-eqb (target_name case.G l) (item_name g) e, eq-eqb (α.block l.number) i e')

  -- Lines of later blocks are passed over.
  pub walk_back_past_later_blocks : (t low i g : ℕ) (ls earlier : List Line) → i < low → Ordered case α.block t low ls
      → walk_back case α i g (reverse_aux ls earlier) ≡ walk_back case α i g earlier
  walk_back_past_later_blocks t low i g [] earlier h ordered = refl
  walk_back_past_later_blocks t low i g (l ∷ ls) earlier h ordered =
      walk_back_past_later_blocks t (α.block l.number) i g ls (l ∷ earlier) (omega (arith, ordered.0.from)) ordered.1
      ∙ walk_back_past_other_block i g l earlier (λ e. omega (arith, ordered.0.from))

  -- Among lines of earlier blocks nothing is found.
  pub walk_back_in_earlier_blocks : (high i g : ℕ) (earlier : List Line) → high ≤ i → RunBefore α.block high earlier
      → walk_back case α i g earlier ≡ value_before case α i g
  unfolding walk_back
  walk_back_in_earlier_blocks high i g [] h before = refl
  walk_back_in_earlier_blocks high i g (l ∷ earlier) h before =
      walk_back_past_other_block i g l earlier (λ e. omega arith)
      ∙ walk_back_in_earlier_blocks (suc (α.block l.number)) i g earlier (omega arith) before.1

  read_item_own_block : (i g p : ℕ) → 0 < p → α.block p ≡ i → read_item case α i g p ≡ α.value p
  unfolding read_item
  read_item_own_block i g p positive e = rw (ne_eqb p 0 (λ e'. omega arith), eq-eqb (α.block p) i e)

  read_item_other_block : (i g p : ℕ) → α.block p ≢ i → read_item case α i g p ≡ value_before case α i g
  unfolding read_item
  read_item_other_block i g p differs = rw (ne_eqb (α.block p) i differs, and_false (nonzero p))

  read_item_no_copy : (i g : ℕ) → read_item case α i g 0 ≡ value_before case α i g
  unfolding read_item
  read_item_no_copy i g = refl

  -- Within a block, walking back finds what is read with the latest copy: if that one is of an earlier block, so are all others.
  pub walk_back_is_reading_latest : (i g : ℕ) (earlier : List Line) → AllLines Positive earlier → RunBefore α.block (suc i) earlier
      → walk_back case α i g earlier ≡ read_item case α i g (latest case.G (item_name g) earlier)
  unfolding walk_back latest
  walk_back_is_reading_latest i g [] positive before = sym (read_item_no_copy i g)
  walk_back_is_reading_latest i g (l ∷ earlier) positive before =
      go (eq_view (target_name case.G l) (item_name g)) (eq_view (α.block l.number) i)
      (walk_back_is_reading_latest i g earlier positive.1 (run_before_weakened α.block (suc (α.block l.number)) (suc i) earlier
      (omega arith) before.1))
    where
      go : EqView (target_name case.G l) (item_name g) → EqView (α.block l.number) i
          → walk_back case α i g earlier ≡ read_item case α i g (latest case.G (item_name g) earlier)
          → walk_back case α i g (l ∷ earlier) ≡ read_item case α i g (latest case.G (item_name g) (l ∷ earlier))
      go (diff differs _) _ ih =
          walk_back_past_other_target i g l earlier differs ∙ ih
          ∙ ap (read_item case α i g) (sym (latest_other case.G (item_name g) l earlier differs))
      go (same e _) (same e' _) ih =
          walk_back_finds i g l earlier e e'
          ∙ sym (read_item_own_block i g l.number positive.0 e')
          ∙ ap (read_item case α i g) (sym (latest_target case.G (item_name g) l earlier e))
      go (same e _) (diff differs _) ih =
          walk_back_past_other_block i g l earlier differs
          ∙ walk_back_in_earlier_blocks (suc (α.block l.number)) i g earlier (omega arith) before.1
          ∙ sym (read_item_other_block i g l.number differs)
          ∙ ap (read_item case α i g) (sym (latest_target case.G (item_name g) l earlier e))

  -- Where a block starts, no copy is of the block.
  pub read_item_at_start : (i g : ℕ) (earlier : List Line) → AllLines Positive earlier → RunBefore α.block i earlier
      → read_item case α i g (latest case.G (item_name g) earlier) ≡ value_before case α i g
  read_item_at_start i g earlier positive before =
      sym (walk_back_is_reading_latest i g earlier positive (run_before_weakened α.block i (suc i) earlier (omega arith) before))
      ∙ walk_back_in_earlier_blocks i i g earlier (omega arith) before
