-- The locals' values along a thread's lines are those of their latest copies, so a line's guard is what the model says it is.
-- Assumes nothing. Met again in Walks.
use mathlib.Core.Path.{◌≡◌, refl, sym, ap, ◌∙◌}
use Prim.Native.Nat.{ℕ, ◌-◌, ◌≤◌, ◌<◌}
use mathlib.Core.Bool.{Bool, true, false, cond}
use mathlib.Core.List.{List, [], ◌∷◌}
use native.Mathlib.Omega.{arith}
use lib.Dec.{eqb, ltb}
use lib.ListN.{get_or, set, length, length-set, replicate, get_or-replicate}
use lib.Seq.{get_or-set_same, get_or-set_other}
use borrow.Author.Tests.{ne_eqb}
use Rattle.model.specs.Word.{nonzero}
use Rattle.model.specs.Limits.{local_count, most_items}
use Rattle.model.specs.CaseFile.{Line, Case, item_count}
use Rattle.model.specs.Line.{no_name, local_name, guard_name, target_name, guard_true}
use Rattle.model.specs.Machine.{look, put_local}
use Rattle.model.specs.Assignment.{Assignment, assignment_of}
use Rattle.model.specs.Copies.{latest, read_local, read_name, read_after, reads_after}
use Rattle.laws.proofs.Views.{EqView, same, diff, eq_view, LtView, below, above, lt_view}
use Rattle.laws.proofs.Copies.{latest_target, latest_other, read_name_no_name}
use Rattle.line.specs.LineReads.{memory, reads_from}
use Rattle.line.proofs.Memories.{local_name_lem, no_local_name, look_local, look_no_local}
use Rattle.assignment.specs.Numbers.{record_value}

module _ (case : Case) (xs : List ℕ) where
  abbrev α : Assignment
  α = assignment_of case xs

  -- The locals have the values of their latest copies among the earlier lines.
  pub record LocalsAre (locals : List ℕ) (earlier : List Line) : Type 0 where
    pub size : length locals ≡ local_count
    pub copied : (name : ℕ) → name < local_count → get_or locals name 0 ≡ read_local α (latest case.G name earlier)

  pub locals_start : LocalsAre (replicate local_count 0) []
  unfolding latest read_local
  locals_start = record { size = refl; copied = λ name h. get_or-replicate {A = ℕ} local_count name 0 0 h }

  module _ (few : item_count case ≤ most_items) (locals : List ℕ) (earlier : List Line) (are : LocalsAre locals earlier) where
    copied_read : (i x : ℕ) → ltb x local_count ≡ true → read_name case α i x (latest case.G x earlier) ≡ read_local α (latest case.G x earlier)
    unfolding read_name
    copied_read i x q = rw q

    local_read : (i x : ℕ) → look (memory locals [] 0) (local_name x) ≡ read_after case α i earlier (local_name x)
    unfolding read_after
    local_read i x = go (lt_view x local_count)
      where
        go : LtView x local_count → look (memory locals [] 0) (local_name x) ≡ read_name case α i (local_name x) (latest case.G (local_name x) earlier)
        go (below h q) = sym (look_local locals [] 0 x h) ∙ are.copied x h ∙ rw (local_name_lem x h) (sym (copied_read i x q))
        go (above h q) = sym (look_no_local locals [] 0 (omega arith) x h) ∙ rw (no_local_name x h) (sym (read_name_no_name case α i no_name _ (omega arith)))

    -- Whether a line's guard is true, by the locals and by the copies.
    pub guard_same : (l : Line) → guard_true l (reads_from 0 0 0 locals [] l) ≡ guard_true l (reads_after case α earlier l)
    unfolding guard_true guard_name
    guard_same l = go (eqb l.guard 0) (ltb l.guard 17)
      where
        name : Bool → Bool → ℕ
        name p q = cond p no_name (cond q (local_name (l.guard - 1)) (local_name (l.guard - 17)))

        judged : Bool → Bool → ℕ → Bool
        judged p q x = cond p true (cond q (nonzero x) (eqb x 0))

        go : (p q : Bool) → judged p q (look (memory locals [] 0) (name p q)) ≡ judged p q (read_after case α (α.block l.number) earlier (name p q))
        go true q = refl
        go false true = ap nonzero (local_read _ (l.guard - 1))
        go false false = ap (λ (x : ℕ). eqb x 0) (local_read _ (l.guard - 17))

  own_value : (k : ℕ) → 0 < k → read_local α k ≡ record_value xs k
  unfolding read_local assignment_of
  own_value k low = rw (ne_eqb k 0 (λ e. omega arith))

  -- One more line: its target, if it is a local, has its value.
  pub locals_step : (locals : List ℕ) (earlier : List Line) → LocalsAre locals earlier → (l : Line) → 0 < l.number
      → LocalsAre (put_local true (target_name case.G l) (record_value xs l.number) locals) (l ∷ earlier)
  unfolding put_local
  locals_step locals earlier are l low = go (lt_view target local_count)
    where
      target : ℕ
      target = target_name case.G l

      v : ℕ
      v = record_value xs l.number

      go : LtView target local_count → LocalsAre (cond (ltb target local_count) (set locals target v) locals) (l ∷ earlier)
      go (below h q) = rw q (record { size = length-set locals target v ∙ are.size; copied = λ name small. at name small (eq_view target name) })
        where
          at : (name : ℕ) → name < local_count → EqView target name → get_or (set locals target v) name 0 ≡ read_local α (latest case.G name (l ∷ earlier))
          at name small (same e s) = rw (latest_target case.G name l earlier e, own_value l.number low, ← e) (get_or-set_same locals target v 0 (omega (arith, are.size)))
          at name small (diff n s) = rw (latest_other case.G name l earlier n, get_or-set_other locals target name v 0 (λ z. n (sym z))) (are.copied name small)
      go (above h q) =
          rw q (record { size = are.size; copied = λ name small. rw (latest_other case.G name l earlier (λ e. omega (arith, e))) (are.copied name small) })
