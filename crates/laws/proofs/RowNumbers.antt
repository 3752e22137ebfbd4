-- The numbers of rows that are written one after the other.
-- Assumes nothing. Met again where the encoder writes its rows.
use mathlib.Core.Path.{◌≡◌, refl, sym, ap, ◌∙◌}
use Prim.Native.Nat.{ℕ, ◌+◌, ◌*◌}
use mathlib.Core.List.{List, [], ◌∷◌, ◌++◌}
use native.Mathlib.Omega.{arith}
use lib.ListN.{length}
use Rattle.model.specs.Table.{Row, numbers_of}
use Rattle.laws.specs.Written.{numbers_at}
use Rattle.laws.proofs.Writing.{numbers_append}
use Rattle.laws.proofs.Sizes.{six_a_row}

pub numbers_of_append : (ws us : List Row) → numbers_of (ws ++ us) ≡ numbers_of ws ++ numbers_of us
unfolding numbers_of
numbers_of_append [] us = refl
numbers_of_append (w ∷ ws) us =
    ap (λ (r : List ℕ). w.kind ∷ (w.one ∷ (w.two ∷ (w.three ∷ (w.four ∷ (w.five ∷ r)))))) (numbers_of_append ws us)

-- rows, and then more rows
pub rows_then : (d a b : List ℕ) (at p : ℕ) (ws us : List Row) → a ≡ numbers_at d at (numbers_of ws) → p ≡ at + 6 * length ws
    → b ≡ numbers_at a p (numbers_of us) → b ≡ numbers_at d at (numbers_of (ws ++ us))
rows_then d a b at p ws us ea ep eb =
    let place : p ≡ at + length (numbers_of ws) = omega (arith, six_a_row ws) in
    rw (eb, place, ea) (sym (numbers_append d at (numbers_of ws) (numbers_of us)) ∙ ap (numbers_at d at) (sym (numbers_of_append ws us)))
