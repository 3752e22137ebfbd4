-- The assertion of a 6 over record numbers, as the code writes it, is its assertion over lines.
-- Assumes nothing. Met again where the text of a 6 is written.
use mathlib.Core.Path.{◌≡◌, refl, sym, subst, ◌∙◌}
use Prim.Native.Nat.{ℕ, zero, suc, ◌%◌, ◌≤◌, ◌<◌}
use mathlib.Core.Bool.{false}
use mathlib.Core.List.{List, [], ◌∷◌, reverse, reverse_aux}
use native.Mathlib.Omega.{arith}
use native.Mathlib.Nat.{mod-lt}
use lib.Dec.{eqb}
use lib.ListN.{length, length-reverse}
use borrow.Author.Tests.{eq-eqb, ne_eqb, lt-ltb}
use Rattle.model.specs.Limits.{most_lines}
use Rattle.model.specs.CaseFile.{Line, Case, thread_count, line_of, case_of, lines_of, item_count}
use Rattle.model.specs.Line.{no_name, item_name, target_name}
use Rattle.model.specs.Copies.{latest, copy_of}
use Rattle.model.specs.Table.{row}
use Rattle.model.specs.Holds.{from_record}
use Rattle.script.specs.Assertions.{walk_back, assertion_of}
use Rattle.laws.specs.Accepted.{Accepted}
use Rattle.laws.specs.Order.{AllLines, Positive}
use Rattle.laws.proofs.Views.{EqView, same, diff, eq_view}
use Rattle.laws.proofs.Copies.{latest_other}
use Rattle.laws.proofs.Lines.{thread_lines_by}
use Rattle.laws.proofs.Sizes.{item_numbers_lem}
use Rattle.copies.specs.CopyChains.{HasBefore}
use Rattle.walk_text.specs.Walk.{PreviousCopies, lines_back, last_copy, copies_back, walk_over, walk_copies}

module _ (case : Case) (sources previous : List ℕ) (i g : ℕ) where
  abbrev last : List Line → ℕ
  last = latest case.G (item_name g)

  none_before : (most : ℕ) → walk_copies case sources i g previous most 0 ≡ walk_back case sources i g []
  unfolding copies_back walk_over walk_back
  none_before zero = refl
  none_before (suc most) = refl

  module _ (few : item_name g < no_name) where
    before_item : (l : Line) (earlier : List Line) → target_name case.G l ≡ item_name g → copy_of case.G (target_name case.G l) earlier ≡ last earlier
    unfolding copy_of
    before_item l earlier e = rw (e, lt-ltb (item_name g) no_name few)

    walked : (most : ℕ) (d : List Line) → HasBefore case.G previous d → AllLines Positive d → length d ≤ most
        → walk_copies case sources i g previous most (last d) ≡ walk_back case sources i g d
    unfolding latest walk_back copies_back walk_over
    walked most [] has positive h = none_before most
    walked zero (l ∷ d) has positive h = absurd (omega arith)
    walked (suc most) (l ∷ d) has positive h =
        go (eq_view (target_name case.G l) (item_name g)) (walked most d has.1 positive.1 (omega arith))
        (walked (suc most) d has.1 positive.1 (omega arith))
      where
        some : eqb l.number 0 ≡ false
        some = ne_eqb l.number 0 (λ e. omega (arith, positive.0))

        go : EqView (target_name case.G l) (item_name g)
            → walk_copies case sources i g previous most (last d) ≡ walk_back case sources i g d
            → walk_copies case sources i g previous (suc most) (last d) ≡ walk_back case sources i g d
            → walk_copies case sources i g previous (suc most) (last (l ∷ d)) ≡ walk_back case sources i g (l ∷ d)
        go (same e q) less same' = rw (q, some, has.0, before_item l d e, less)
        go (diff e q) less same' = rw q same'

  -- Walking back from the last copy skips only lines that have another target.
  walk_from_last : (d : List Line) → walk_back case sources i g (from_record (last d) d) ≡ walk_back case sources i g d
  unfolding latest walk_back from_record
  walk_from_last [] = refl
  walk_from_last (l ∷ d) = go (eq_view (target_name case.G l) (item_name g)) (eq_view l.number (last d)) (walk_from_last d)
    where
      go : EqView (target_name case.G l) (item_name g) → EqView l.number (last d)
          → walk_back case sources i g (from_record (last d) d) ≡ walk_back case sources i g d
          → walk_back case sources i g (from_record (last (l ∷ d)) (l ∷ d)) ≡ walk_back case sources i g (l ∷ d)
      go (same e q) _ rest = rw (q, eq-eqb l.number l.number refl, q)
      go (diff e q) (same f s) rest = rw (q, s, q)
      go (diff e q) (diff f s) rest =
          subst (λ (k : ℕ). walk_back case sources i g (from_record k (l ∷ d)) ≡ walk_back case sources i g (l ∷ d)) (sym (latest_other case.G (item_name g) l d e)) (rw (s, q) rest)

module _ {bytes : List ℕ} (ok : Accepted bytes) where
  -- the earlier lines of a thread, latest first, have record numbers too
  positive_back : (t : ℕ) → AllLines Positive (reverse (lines_of (case_of bytes) t))
  positive_back t =
      thread_lines_by bytes ok t (λ ls. (earlier : List Line) → AllLines Positive earlier → AllLines Positive (reverse_aux ls earlier)) (λ earlier all. all)
      (λ k ls low high rest earlier all. rest (line_of bytes t k ∷ earlier) (low, all)) [] tt

  module _ (sources previous : List ℕ) (before : PreviousCopies (case_of bytes) previous) (i g : ℕ) (h : g < item_count (case_of bytes)) where
    pub copies_walked : walk_copies (case_of bytes) sources i g previous most_lines (last_copy (case_of bytes) i g)
        ≡ walk_back (case_of bytes) sources i g (from_record (last_copy (case_of bytes) i g) (lines_back (case_of bytes) i))
    copies_walked =
        walked (case_of bytes) sources previous i g (omega (arith, item_numbers_lem bytes ok)) most_lines (lines_back (case_of bytes) i)
        (before t below) (positive_back t) (rw (length-reverse (lines_of (case_of bytes) t)) (ok.few_lines_lem t below))
        ∙ sym (walk_from_last (case_of bytes) sources previous i g (lines_back (case_of bytes) i))
      where
        t : ℕ
        t = i % thread_count bytes

        below : t < thread_count bytes
        below = mod-lt i (omega (arith, ok.some_threads))

    -- The assertion of the row.
    pub six_walked : walk_copies (case_of bytes) sources i g previous most_lines (last_copy (case_of bytes) i g)
        ≡ assertion_of (case_of bytes) sources (row 6 g i (last_copy (case_of bytes) i g) 0 0)
    unfolding assertion_of
    six_walked = copies_walked
