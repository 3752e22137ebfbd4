-- What is held of all threads, as the walks over their lines end, and what a look-up gives then.
-- Assumes nothing. Met again where the encoder writes copies and where the checker goes along a thread.
use mathlib.Core.Path.{◌≡◌, ap, ◌∙◌}
use Prim.Native.Nat.{ℕ, suc, ◌<◌}
use mathlib.Core.List.{List, [], reverse}
use native.Mathlib.Omega.{arith}
use borrow.Author.Tests.{lt-ltb}
use lib.ListN.{length, get_or, set, replicate, length-set, length-replicate, get_or-replicate}
use lib.Seq.{get_or-set_same, get_or-set_other}
use Rattle.model.specs.Limits.{most_threads}
use Rattle.model.specs.CaseFile.{Line, Case, lines_of}
use Rattle.model.specs.Line.{no_name, guard_name, operand_a, operand_b, target_name}
use Rattle.model.specs.Copies.{latest, copy_of, nothing_held, held_copy, take_copy, take_line, held_after}
use Rattle.laws.proofs.Views.{EqView, same, diff, eq_view}
use Rattle.laws.proofs.ForwardWalk.{for_any_lines_lem}
use Rattle.model.specs.Taking.{copies_at}
use Rattle.copies.specs.Held.{Held}

-- A line is taken, each of its names having been found and looked up.
pub line_taken :
    (G : ℕ) (l : Line) (held after : List ℕ) (guard a b target p q r s : ℕ) → guard ≡ guard_name l → a ≡ operand_a l → b ≡ operand_b l → target ≡ target_name G l
    → p ≡ held_copy held guard → q ≡ held_copy held a → r ≡ held_copy held b → s ≡ held_copy held target → after ≡ take_copy held target l.number
    → (record { guard = p; a = q; b = r; target = s } ≡ copies_at G held l) × (after ≡ take_line G held l)
line_taken G l held after guard a b target p q r s eg ea eb et ep eq er es e = (rw (ep, eq, er, es, eg, ea, eb, et), rw (e, et))

module _ (case : Case) where
  pub held_start : (copies : List (List ℕ)) → copies ≡ replicate most_threads nothing_held → Held case copies 0
  held_start copies e = record {
    size = ap length e ∙ length-replicate {A = List ℕ} most_threads nothing_held;
    done = λ u h few. absurd (omega arith);
    none = λ u h few. ap (λ (xs : List (List ℕ)). get_or xs u []) e ∙ get_or-replicate most_threads u nothing_held [] few;
  }

  module _ (copies : List (List ℕ)) (t : ℕ) (v : Held case copies t) where
    -- all lines of thread t have been taken
    pub held_next : t < most_threads → (held : List ℕ) → held ≡ held_after case.G (lines_of case t) → Held case (set copies t held) (suc t)
    held_next few held e = record {
      size = length-set copies t held ∙ v.size;
      done = λ u h few'. go u few' (eq_view u t) h;
      none = λ u h few'. get_or-set_other copies t u held [] (λ z. omega arith) ∙ v.none u (omega arith) few';
    }
      where
        go : (u : ℕ) → u < most_threads → EqView u t → u < suc t → get_or (set copies t held) u [] ≡ held_after case.G (lines_of case u)
        go u few' (same p _) h = rw p (get_or-set_same copies t held [] (omega (arith, v.size)) ∙ e)
        go u few' (diff p _) h = get_or-set_other copies t u held [] p ∙ v.done u (omega arith) few'

    -- the last copy in a thread before it
    pub held_last : (u name : ℕ) → u < t → u < most_threads → name < no_name
        → held_copy (get_or copies u []) name ≡ latest case.G name (reverse (lines_of case u))
    unfolding copy_of
    held_last u name h few low =
        ap (λ (held : List ℕ). held_copy held name) (v.done u h few)
        ∙ ((for_any_lines_lem case.G (lines_of case u)).copy name ∙ rw (lt-ltb name no_name low))
