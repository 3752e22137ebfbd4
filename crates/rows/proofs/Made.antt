-- What the numbers of one row are, and which rows a line has.
-- Assumes nothing.
use mathlib.Core.Path.{◌≡◌, refl, sym, ap, ◌∙◌}
use mathlib.Core.Logic.{◌≢◌}
use Prim.Native.Nat.{ℕ, ◌+◌, ◌*◌, ◌≤◌}
use mathlib.Core.Bool.{Bool, true, false, cond}
use mathlib.Core.List.{List, [], ◌∷◌}
use native.Mathlib.Omega.{arith}
use native.Mathlib.Numerals.{add-one, add-two, add-three, add-four, add_five}
use borrow.Author.Tests.{ne_eqb}
use lib.Dec.{eqb}
use lib.ListN.{length, set}
use Rattle.model.specs.CaseFile.{Line, line_of, Case, case_of}
use Rattle.model.specs.declared.Kind.{Kind}
use Rattle.model.specs.declared.Kind.TheVariants.{Assume, Lock}
use Rattle.model.specs.Table.{Row, row, follow_row, stay_rows, line_order_rows, value_row, demand_rows, numbers_of}
use Rattle.laws.specs.RowCounts.{has_eight, order_row_count, value_row_count}
use Rattle.laws.specs.Written.{numbers_at, Put}
use Rattle.laws.proofs.Writing.{numbers_none, put_then}
use Rattle.laws.proofs.RowNumbers.{numbers_of_append, rows_then}
use Rattle.laws.proofs.Sizes.{six_a_row, line_value_length}
use Rattle.case_file.specs.declared.Link.{Link}
use Rattle.line.proofs.Eights.{rows_by_eight, stay_after}
use Rattle.rows.specs.Rows.{Nearest, Stands, eight_of}

pub six_stores :
    (d : List ℕ) (at a b c e f g : ℕ) →
    set (set (set (set (set (set d at a) (at + 1) b) (at + 2) c) (at + 3) e) (at + 4) f) (at + 5) g ≡ numbers_at d at (numbers_of (row a b c e f g ∷ []))
unfolding numbers_at numbers_of
six_stores d at a b c e f g = rw (add-one at, add-two at, add-three at, add-four at, add_five at)

-- one row, as a row of the table
pub one_row : (d a : List ℕ) (at : ℕ) {v w : Row} → a ≡ numbers_at d at (numbers_of (v ∷ [])) → v ≡ w → a ≡ numbers_at d at (numbers_of (w ∷ []))
one_row d a at ea e = rw (← e) ea

pub put_one : {d a : List ℕ} {at : ℕ} {v w : Row} → a ≡ numbers_at d at (numbers_of (v ∷ [])) → v ≡ w → Put (numbers_of (w ∷ [])) d at a (at + 6)
put_one {d} {a} {at} {w = w} ea e = record { slice = one_row d a at ea e; place = omega (arith, six_a_row (w ∷ [])) }

-- the last order row of a line
module _ (link : Link) (case : Case) (earlier : List Line) (l : Line) where
  pub follow_last : (ls : List Line) (n : ℕ) → link.next ≡ 0 → Stands link earlier l ls → n ≡ case.n → row 2 link.line n 0 0 0 ≡ follow_row case l ls
  unfolding follow_row Nearest
  follow_last [] n z s en = rw (s.line, en)
  follow_last (next ∷ ls) n z s en = absurd (s.next.some z)

  pub follow_next : (ls : List Line) → link.next ≢ 0 → Stands link earlier l ls → row 1 link.line link.next 0 0 0 ≡ follow_row case l ls
  unfolding follow_row Nearest
  follow_next [] z s = absurd (z s.next)
  follow_next (next ∷ ls) z s = rw (s.line, s.next.number)

  -- the 8
  pub stay_is : (ls : List Line) → Stands link earlier l ls → eight_of link ≡ stay_rows earlier l
  unfolding stay_rows Nearest
  stay_is ls s = go earlier s.before
    where
      go : (early : List Line) → Nearest link.before early → eight_of link ≡ stay_rows early l
      go [] none = rw none
      go (before ∷ early) near = rw (ne_eqb link.before 0 near.some, s.kind, s.line, near.number) (stay_after before early l)

  -- all order rows
  pub order_put :
      (ls : List Line) {d a b e : List ℕ} {at T t place : ℕ} {v w : Row} → Stands link earlier l ls → T ≡ case.T → v ≡ row 3 link.line T t 0 0
      → w ≡ follow_row case l ls → a ≡ numbers_at d at (numbers_of (v ∷ [])) → Put (numbers_of (eight_of link)) a (at + 6) b place
      → e ≡ numbers_at b place (numbers_of (w ∷ [])) → Put (numbers_of (line_order_rows case t earlier l ls)) d at e (place + 6)
  unfolding line_order_rows
  order_put ls {t = t} s e_t ev ew ea put ee =
      rw (numbers_of_append (row 3 l.number case.T t 0 0 ∷ []) _, numbers_of_append (stay_rows earlier l) _, ← (stay_is ls s))
      (put_then (put_one ea (ev ∙ rw (s.line, e_t))) (put_then put (put_one ee ew)))

-- an 8, by whether the line has one, and how many numbers it is
pub eight_by : (link : Link) {r q : Bool} → r ≡ has_eight (eqb link.before 0) link.kind → r ≡ q
    → eight_of link ≡ cond q (row 8 link.line link.before 0 0 0 ∷ []) []
eight_by link is h = ap (λ (x : Bool). cond x (row 8 link.line link.before 0 0 0 ∷ []) []) (sym is ∙ h)

pub eight_size : (link : Link) → 12 + length (numbers_of (eight_of link)) ≡ 6 * order_row_count (eqb link.before 0) link.kind
unfolding numbers_of
eight_size link = go (has_eight (eqb link.before 0) link.kind) ∙ ap (λ (x : ℕ). 6 * x) (rows_by_eight _ _ refl refl)
  where
    go : (q : Bool) → 12 + length (numbers_of (cond q (row 8 link.line link.before 0 0 0 ∷ []) [])) ≡ 6 * cond q 3 2
    go true = refl
    go false = refl

-- the 5s
module _ (case : Case) (earlier : List Line) (l : Line) (d a : List ℕ) (at : ℕ) where
  pub none_put : d ≡ numbers_at d at (numbers_of [])
  unfolding numbers_of
  none_put = sym (numbers_none d at)

  module _ (w v : Row) (e : w ≡ value_row case earlier l) (ea : a ≡ numbers_at d at (numbers_of (v ∷ []))) where
    pub assume_put : v ≡ row 5 w.one 0 0 0 0 → a ≡ numbers_at d at (numbers_of (demand_rows Assume case earlier l))
    unfolding demand_rows
    assume_put ev = one_row d a at ea (ev ∙ rw e)

    pub lock_put : v ≡ row 5 w.one w.two w.five 0 0 → a ≡ numbers_at d at (numbers_of (demand_rows Lock case earlier l))
    unfolding demand_rows
    lock_put ev = one_row d a at ea (ev ∙ rw e)

pub some_row : (kind : Kind) → 1 ≤ value_row_count kind
some_row kind = omega (arith, line_value_length kind (case_of []) [] (line_of [] 0 0))

-- the 4 and the 5
pub values_are :
    (kind : Kind) (case : Case) (earlier : List Line) (l : Line) (d a b : List ℕ) (at : ℕ) (v w : Row) → w ≡ value_row case earlier l → v ≡ w
    → a ≡ numbers_at d at (numbers_of (v ∷ [])) → b ≡ numbers_at a (at + 6) (numbers_of (demand_rows kind case earlier l))
    → b ≡ numbers_at d at (numbers_of (value_row case earlier l ∷ demand_rows kind case earlier l))
values_are kind case earlier l d a b at v w ew ev ea eb =
    rows_then d a b at (at + 6) (value_row case earlier l ∷ []) _ (one_row d a at ea (ev ∙ ew)) refl eb
