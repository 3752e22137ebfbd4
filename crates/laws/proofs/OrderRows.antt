-- Constraints 1, 2, 3 and 8 of the table hold just when the block numbers of each thread are in order and its invisible lines stay with
-- the lines before them.
-- Assumes nothing. Met again in correspondence's Rows.
use mathlib.Core.Path.{◌≡◌, refl, ap, ◌∙◌}
use Prim.Native.Nat.{ℕ, zero, suc, ◌+◌, ◌%◌, ◌≤◌, ◌<◌}
use mathlib.Core.Bool.{Bool, true, false, cond, not, ◌||◌}
use mathlib.Core.List.{List, [], ◌∷◌, ◌++◌}
use native.Mathlib.Omega.{arith}
use native.Mathlib.Nat.{le_trans, add-zero}
use lib.Dec.{eqb}
use lib.ListN.{get_or, length}
use borrow.Author.Tests.{eqb-true, eq-eqb, leb-true, le-leb}
use Rattle.model.specs.CaseFile.{Line, Case}
use Rattle.model.specs.Line.{visible}
use Rattle.model.specs.Assignment.{Assignment, was_run}
use Rattle.model.specs.Table.{Row, row, follow_row, stay_rows, line_order_rows, order_rows, all_order_rows, without_eights}
use Rattle.model.specs.Holds.{holds}
use Rattle.laws.specs.Order.{Ordered, StaysAfter, Stays}
use Rattle.laws.specs.AllHold.{AllHold}
use Rattle.laws.proofs.Views.{EqView, same, diff, eq_view}
use Rattle.laws.proofs.Unrun.{run_within_blocks}
use Rattle.laws.proofs.AllHold.{all_hold_append, all_hold_split}
use Rattle.laws.proofs.WithoutEights.{without_append}
use Rattle.laws.proofs.StayRows.{stay_rows_by}

-- Constraint 3 at a line with block number x.
mine_of_three : (case : Case) (t x : ℕ) → not (was_run case x) || eqb (x % case.T) t ≡ true → x ≤ case.n → x % case.T ≡ t
mine_of_three case t x h few = eqb-true (x % case.T) t (rw (run_within_blocks case x few) at h)

three_of_mine : (case : Case) (t x : ℕ) → x ≤ suc case.n → (x ≤ case.n → x % case.T ≡ t)
    → not (was_run case x) || eqb (x % case.T) t ≡ true
unfolding was_run
three_of_mine case t x upto mine = go (eq_view x (suc case.n))
  where
    go : EqView x (suc case.n) → not (was_run case x) || eqb (x % case.T) t ≡ true
    go (same p q) = rw q refl
    go (diff p q) = rw q (eq-eqb (x % case.T) t (mine (omega (arith, upto, p))))

-- Constraint 8 of a line with block number x, after one with block number y.
stays_of_eight : (case : Case) (x y : ℕ) → not (was_run case x) || eqb x y ≡ true → was_run case x ≡ true → x ≡ y
stays_of_eight case x y h was_run_lem = eqb-true x y (rw was_run_lem at h)

eight_of_stays : (case : Case) (x y : ℕ) → (was_run case x ≡ true → x ≡ y) → not (was_run case x) || eqb x y ≡ true
eight_of_stays case x y stays = go (was_run case x) stays
  where
    go : (q : Bool) → (q ≡ true → x ≡ y) → not q || eqb x y ≡ true
    go true e = eq-eqb x y (e refl)
    go false e = refl

-- Without its 8 a line has its 3, and its 1 or 2.
stay_without : (earlier : List Line) (l : Line) → without_eights (stay_rows earlier l) ≡ []
unfolding without_eights
stay_without earlier l = stay_rows_by (λ ws. without_eights ws ≡ []) earlier l refl (λ before. refl)

follow_without : (case : Case) (l : Line) (ls : List Line) → without_eights (follow_row case l ls ∷ []) ≡ follow_row case l ls ∷ []
unfolding follow_row without_eights
follow_without case l [] = refl
follow_without case l (next ∷ ls) = refl

line_without : (case : Case) (t : ℕ) (earlier : List Line) (l : Line) (ls : List Line)
    → without_eights (line_order_rows case t earlier l ls) ≡ row 3 l.number case.T t 0 0 ∷ (follow_row case l ls ∷ [])
unfolding line_order_rows without_eights
line_without case t earlier l ls =
    ap (λ (ws : List Row). row 3 l.number case.T t 0 0 ∷ ws)
    (without_append (stay_rows earlier l) (follow_row case l ls ∷ []) ∙ rw (stay_without earlier l) (follow_without case l ls))

order_without : (case : Case) (t : ℕ) (earlier : List Line) (l : Line) (ls : List Line)
    → without_eights (order_rows case t earlier (l ∷ ls))
    ≡ row 3 l.number case.T t 0 0 ∷ (follow_row case l ls ∷ without_eights (order_rows case t (l ∷ earlier) ls))
unfolding order_rows
order_without case t earlier l ls =
    without_append (line_order_rows case t earlier l ls) (order_rows case t (l ∷ earlier) ls)
    ∙ ap (λ (ws : List Row). ws ++ without_eights (order_rows case t (l ∷ earlier) ls)) (line_without case t earlier l ls)

module _ (case : Case) (α : Assignment) where
  -- ---- The 1s, 2s and 3s: the order.
  ordered_from : (t low : ℕ) (earlier : List Line) (l : Line) (ls : List Line) → low ≤ α.block l.number
      → AllHold case α (without_eights (order_rows case t earlier (l ∷ ls))) → Ordered case α.block t low (l ∷ ls)
  unfolding follow_row holds
  ordered_from t low earlier l [] from h =
      let rows = rw (order_without case t earlier l []) at h in
      (record { from = from; upto = leb-true (α.block l.number) (suc case.n) rows.1.0; mine = mine_of_three case t (α.block l.number) rows.0 }, tt)
  ordered_from t low earlier l (l' ∷ ls) from h =
      let rows = rw (order_without case t earlier l (l' ∷ ls)) at h in
      let next = leb-true (α.block l.number) (α.block l'.number) rows.1.0 in
      let rest = ordered_from t (α.block l.number) (l ∷ earlier) l' ls next rows.1.1 in
      (record { from = from; upto = le_trans next rest.0.upto; mine = mine_of_three case t (α.block l.number) rows.0 }, rest)

  ordered_of_rows : (t : ℕ) (earlier ls : List Line) → AllHold case α (without_eights (order_rows case t earlier ls)) → Ordered case α.block t 0 ls
  ordered_of_rows t earlier [] h = tt
  ordered_of_rows t earlier (l ∷ ls) h = ordered_from t 0 earlier l ls (omega arith) h

  -- ---- The 8s.
  stay_of_rows : (earlier : List Line) (l : Line) → AllHold case α (stay_rows earlier l) → StaysAfter case α.block earlier l
  unfolding stay_rows holds
  stay_of_rows [] l h = tt
  stay_of_rows (before ∷ earlier) l h =
      λ unseen was_run_lem. stays_of_eight case (α.block l.number) (α.block before.number) (rw unseen at h).0 was_run_lem

  rows_of_stay : (earlier : List Line) (l : Line) → StaysAfter case α.block earlier l → AllHold case α (stay_rows earlier l)
  unfolding stay_rows holds
  rows_of_stay [] l stays = tt
  rows_of_stay (before ∷ earlier) l stays = go (visible l.kind) stays
    where
      go : (q : Bool) → (q ≡ false → was_run case (α.block l.number) ≡ true → α.block l.number ≡ α.block before.number)
          → AllHold case α (cond q [] (row 8 l.number before.number 0 0 0 ∷ []))
      go true e = tt
      go false e = (eight_of_stays case (α.block l.number) (α.block before.number) (e refl), tt)

  stays_of_rows : (t : ℕ) (earlier ls : List Line) → AllHold case α (order_rows case t earlier ls) → Stays case α.block earlier ls
  unfolding order_rows line_order_rows
  stays_of_rows t earlier [] h = tt
  stays_of_rows t earlier (l ∷ ls) h =
      let parts = all_hold_split case α (line_order_rows case t earlier l ls) (order_rows case t (l ∷ earlier) ls) h in
      let own = all_hold_split case α (stay_rows earlier l) (follow_row case l ls ∷ []) parts.front.1 in
      (stay_of_rows earlier l own.front, stays_of_rows t (l ∷ earlier) ls parts.back)

  -- ---- All of them, the other way round.
  pub record ThreadHolds (t : ℕ) (ls : List Line) : Type 0 where
    pub ordered : Ordered case α.block t 0 ls
    pub stays : Stays case α.block [] ls

  line_rows : (t : ℕ) (earlier : List Line) (l : Line) (ls : List Line) → not (was_run case (α.block l.number)) || eqb (α.block l.number % case.T) t ≡ true
      → StaysAfter case α.block earlier l → holds case α (follow_row case l ls) ≡ true → AllHold case α (order_rows case t (l ∷ earlier) ls)
      → AllHold case α (order_rows case t earlier (l ∷ ls))
  unfolding order_rows line_order_rows holds
  line_rows t earlier l ls three stays follows rest =
      all_hold_append case α (line_order_rows case t earlier l ls) (order_rows case t (l ∷ earlier) ls)
      (three, all_hold_append case α (stay_rows earlier l) (follow_row case l ls ∷ []) (rows_of_stay earlier l stays) (follows, tt)) rest

  rows_of_order : (t low : ℕ) (earlier ls : List Line) → Ordered case α.block t low ls → Stays case α.block earlier ls
      → AllHold case α (order_rows case t earlier ls)
  unfolding order_rows follow_row holds
  rows_of_order t low earlier [] o stays = tt
  rows_of_order t low earlier (l ∷ []) o stays =
      line_rows t earlier l [] (three_of_mine case t (α.block l.number) o.0.upto o.0.mine) stays.0
      (le-leb (α.block l.number) (suc case.n) o.0.upto) tt
  rows_of_order t low earlier (l ∷ (l' ∷ ls)) o stays =
      line_rows t earlier l (l' ∷ ls) (three_of_mine case t (α.block l.number) o.0.upto o.0.mine) stays.0
      (le-leb (α.block l.number) (α.block l'.number) o.1.0.from)
      (rows_of_order t (α.block l.number) (l ∷ earlier) (l' ∷ ls) o.1 stays.1)

  -- ---- The threads.
  pub order_of_all_rows : (first : ℕ) (threads : List (List Line)) → AllHold case α (without_eights (all_order_rows case first threads))
      → (t : ℕ) → t < length threads → Ordered case α.block (first + t) 0 (get_or threads t [])
  unfolding all_order_rows
  order_of_all_rows first [] h t few = absurd (omega arith)
  order_of_all_rows first (ls ∷ threads) h zero few =
      rw (add-zero first) (ordered_of_rows first [] ls (all_hold_split case α (without_eights (order_rows case first [] ls)) (without_eights (all_order_rows case (suc first) threads)) (rw (without_append (order_rows case first [] ls) (all_order_rows case (suc first) threads)) at h)).front)
  order_of_all_rows first (ls ∷ threads) h (suc t) few =
      let rest = (all_hold_split case α (without_eights (order_rows case first [] ls)) (without_eights (all_order_rows case (suc first) threads)) (rw (without_append (order_rows case first [] ls) (all_order_rows case (suc first) threads)) at h)).back in
      rw shift (order_of_all_rows (suc first) threads rest t (omega arith))
    where
      shift : first + suc t ≡ suc first + t
      shift = omega arith

  pub stays_of_all_rows : (first : ℕ) (threads : List (List Line)) → AllHold case α (all_order_rows case first threads)
      → (t : ℕ) → Stays case α.block [] (get_or threads t [])
  unfolding all_order_rows
  stays_of_all_rows first [] h t = tt
  stays_of_all_rows first (ls ∷ threads) h zero =
      stays_of_rows first [] ls (all_hold_split case α (order_rows case first [] ls) (all_order_rows case (suc first) threads) h).front
  stays_of_all_rows first (ls ∷ threads) h (suc t) =
      stays_of_all_rows (suc first) threads (all_hold_split case α (order_rows case first [] ls) (all_order_rows case (suc first) threads) h).back t

  pub all_rows_of_order : (first : ℕ) (threads : List (List Line)) → ((t : ℕ) → t < length threads → ThreadHolds (first + t) (get_or threads t []))
      → AllHold case α (all_order_rows case first threads)
  unfolding all_order_rows
  all_rows_of_order first [] o = tt
  all_rows_of_order first (ls ∷ threads) o =
      let here : ThreadHolds first ls = rw (add-zero first) at (o 0 (omega arith)) in
      all_hold_append case α (order_rows case first [] ls) (all_order_rows case (suc first) threads)
      (rows_of_order first 0 [] ls here.ordered here.stays)
      (all_rows_of_order (suc first) threads (λ t few. rw (shift t) (o (suc t) (omega arith))))
    where
      shift : (t : ℕ) → suc first + t ≡ first + suc t
      shift t = omega arith
