-- Walking back over record numbers, as the code does, is walking back over lines, as constraint 6 does.
-- Assumes nothing.
use mathlib.Core.Path.{◌≡◌, refl, sym, ap, ap₂, subst, ◌∙◌}
use Prim.Native.Nat.{ℕ, zero, suc, ◌%◌, ◌≤◌, ◌<◌}
use mathlib.Core.Bool.{false}
use mathlib.Core.List.{List, [], ◌∷◌, reverse, reverse_aux}
use native.Mathlib.Omega.{arith}
use native.Mathlib.Nat.{mod-lt}
use lib.Dec.{eqb}
use lib.ListN.{length, length-reverse}
use borrow.Author.Tests.{eq-eqb, ne_eqb, lt-ltb}
use Rattle.model.specs.Limits.{most_lines}
use Rattle.model.specs.CaseFile.{Line, Case, thread_count, case_of, lines_of, item_count}
use Rattle.model.specs.Line.{no_name, item_name, target_name}
use Rattle.model.specs.Assignment.{Assignment, assignment_of}
use Rattle.model.specs.Copies.{latest, copy_of, value_before, walk_back}
use Rattle.model.specs.Table.{row}
use Rattle.model.specs.Holds.{from_record, holds}
use Rattle.laws.specs.Accepted.{Accepted}
use Rattle.laws.specs.Order.{AllLines, Positive}
use Rattle.laws.proofs.Views.{EqView, same, diff, eq_view}
use Rattle.laws.proofs.Copies.{latest_other}
use Rattle.laws.proofs.Lines.{thread_lines_by}
use Rattle.laws.proofs.Sizes.{item_numbers_lem}
use Rattle.copies.specs.CopyChains.{HasBefore, CopyChains}
use Rattle.assignment.specs.Numbers.{record_block}
use Rattle.walk_back.specs.Deciding.{deciding, decided_value}

module _ (case : Case) (xs previous : List ℕ) (i g : ℕ) where
  abbrev α : Assignment
  α = assignment_of case xs

  abbrev last : List Line → ℕ
  last = latest case.G (item_name g)

  deciding_none : (most : ℕ) → deciding previous xs i most 0 ≡ 0
  unfolding deciding
  deciding_none zero = refl
  deciding_none (suc most) = refl

  module _ (few : item_name g < no_name) where
    before_item : (l : Line) (earlier : List Line) → target_name case.G l ≡ item_name g → copy_of case.G (target_name case.G l) earlier ≡ last earlier
    unfolding copy_of
    before_item l earlier e = rw (e, lt-ltb (item_name g) no_name few)

    walked : (most : ℕ) (d : List Line) → HasBefore case.G previous d → AllLines Positive d → length d ≤ most
        → decided_value xs (value_before case α i g) (deciding previous xs i most (last d)) ≡ walk_back case α i g d
    unfolding latest walk_back deciding assignment_of
    walked most [] has positive h = ap (decided_value xs (value_before case α i g)) (deciding_none most)
    walked zero (l ∷ d) has positive h = absurd (omega arith)
    walked (suc most) (l ∷ d) has positive h =
        go (eq_view (target_name case.G l) (item_name g)) (eq_view (record_block xs l.number) i)
        (walked most d has.1 positive.1 (omega arith)) (walked (suc most) d has.1 positive.1 (omega arith))
      where
        some : eqb l.number 0 ≡ false
        some = ne_eqb l.number 0 (λ e. omega (arith, positive.0))

        go : EqView (target_name case.G l) (item_name g) → EqView (record_block xs l.number) i
            → decided_value xs (value_before case α i g) (deciding previous xs i most (last d)) ≡ walk_back case α i g d
            → decided_value xs (value_before case α i g) (deciding previous xs i (suc most) (last d)) ≡ walk_back case α i g d
            → decided_value xs (value_before case α i g) (deciding previous xs i (suc most) (last (l ∷ d))) ≡ walk_back case α i g (l ∷ d)
        go (same e q) (same f s) less same' = rw (q, some, s, some)
        go (same e q) (diff f s) less same' = rw (q, some, s, has.0, before_item l d e) less
        go (diff e q) _ less same' = rw q same'

  -- Walking back from the last copy skips only lines that have another target.
  walk_from_last : (d : List Line) → walk_back case α i g (from_record (last d) d) ≡ walk_back case α i g d
  unfolding latest walk_back from_record
  walk_from_last [] = refl
  walk_from_last (l ∷ d) = go (eq_view (target_name case.G l) (item_name g)) (eq_view l.number (last d)) (walk_from_last d)
    where
      go : EqView (target_name case.G l) (item_name g) → EqView l.number (last d)
          → walk_back case α i g (from_record (last d) d) ≡ walk_back case α i g d
          → walk_back case α i g (from_record (last (l ∷ d)) (l ∷ d)) ≡ walk_back case α i g (l ∷ d)
      go (same e q) _ rest = rw (q, eq-eqb l.number l.number refl, q)
      go (diff e q) (same f s) rest = rw (q, s, q)
      go (diff e q) (diff f s) rest =
          subst (λ (k : ℕ). walk_back case α i g (from_record k (l ∷ d)) ≡ walk_back case α i g (l ∷ d)) (sym (latest_other case.G (item_name g) l d e)) (rw (s, q) rest)

all_reversed : (P : Line → Type 0) (ls earlier : List Line) → AllLines P ls → AllLines P earlier → AllLines P (reverse_aux ls earlier)
all_reversed P [] earlier all before = before
all_reversed P (l ∷ ls) earlier all before = all_reversed P ls (l ∷ earlier) all.1 (all.0, before)

-- A 6 by the copy that decides it.
module _ {bytes : List ℕ} (ok : Accepted bytes) (xs : List ℕ) {copies : List (List ℕ)} {previous : List ℕ} (chains : CopyChains (case_of bytes) copies previous (thread_count bytes))
    (i g : ℕ) (h : g < item_count (case_of bytes)) where
  abbrev t : ℕ
  t = i % thread_count bytes

  abbrev d : List Line
  d = reverse (lines_of (case_of bytes) t)

  pub six_holds : (before after v p : ℕ) → before ≡ value_before (case_of bytes) (assignment_of (case_of bytes) xs) i g
      → after ≡ value_before (case_of bytes) (assignment_of (case_of bytes) xs) (suc i) g → p ≡ latest (case_of bytes).G (item_name g) d
      → v ≡ decided_value xs before (deciding previous xs i most_lines p)
      → eqb after v ≡ holds (case_of bytes) (assignment_of (case_of bytes) xs) (row 6 g i (latest (case_of bytes).G (item_name g) d) 0 0)
  unfolding holds value_before
  six_holds before after v p eb ea ep ev =
      ap₂ eqb ea (ev ∙ ap₂ (λ (x y : ℕ). decided_value xs x (deciding previous xs i most_lines y)) eb ep
      ∙ walked (case_of bytes) xs previous i g (omega (arith, item_numbers_lem bytes ok)) most_lines d (chains.noted.done t below) positive
      (rw (length-reverse (lines_of (case_of bytes) t)) (ok.few_lines_lem t below))
      ∙ sym (walk_from_last (case_of bytes) xs previous i g d))
    where
      below : t < thread_count bytes
      below = mod-lt i (omega (arith, ok.some_threads))

      positive : AllLines Positive d
      positive = all_reversed Positive (lines_of (case_of bytes) t) []
          (thread_lines_by bytes ok t (AllLines Positive) tt (λ k ls low high rest. (low, rest))) tt
