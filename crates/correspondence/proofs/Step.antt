-- One line: what the machine holds for each name is what an assignment reads for it, and a step keeps this.
-- Assumes nothing. Met again in Block, for the lines of a block.
use mathlib.Core.Path.{◌≡◌, refl, sym, ap, ◌∙◌}
use Prim.Native.Nat.{ℕ, ◌+◌, ◌-◌, ◌<◌}
use mathlib.Core.Bool.{Bool, true, false, cond, not, ◌&&◌}
use mathlib.Core.List.{List, ◌∷◌}
use native.Mathlib.Omega.{arith}
use lib.Dec.{ltb}
use lib.ListN.{set, length, length-set}
use Rattle.laws.proofs.Views.{EqView, same, diff, eq_view, LtView, below, above, lt_view}
use Rattle.model.specs.Limits.{local_count}
use Rattle.model.specs.CaseFile.{Line, Case, item_count}
use Rattle.model.specs.declared.Kind.{Kind}
use Rattle.model.specs.declared.Kind.TheVariants.{Compute, Store, Load, Input, Assert, Assume, Lock, Unlock}
use Rattle.model.specs.Line.{no_name, Reads, name_of_target, target_name, guard_true, guarded_out_value, value_by, value_of}
use Rattle.model.specs.Machine.{Memory, look, put_local, put_item, reads_in, stepped}
use Rattle.model.specs.Assignment.{Assignment}
use Rattle.model.specs.Copies.{read_after}
use Rattle.correspondence.specs.Meaning.{WellFormed}
use Rattle.laws.proofs.Memory.{put, look_put_same, look_put_other, look_beyond}
use Rattle.laws.proofs.Copies.{read_name_no_name, read_name_own_block, read_after_target, read_after_other}

-- A memory of 16 locals and all items.
pub record MemoryFits (case : Case) (m : Memory) : Type 0 where
  pub all_locals : length m.locals ≡ local_count
  pub all_items : length m.items ≡ item_count case

length_set_where : (on : Bool) (xs : List ℕ) (j x : ℕ) → length (cond on (set xs j x) xs) ≡ length xs
length_set_where true xs j x = length-set xs j x
length_set_where false xs j x = refl

length_put_local : (on : Bool) (name value : ℕ) (xs : List ℕ) → length (put_local on name value xs) ≡ length xs
unfolding put_local
length_put_local on name value xs = length_set_where (on && ltb name local_count) xs name value

pub length_put_item : (on : Bool) (name value : ℕ) (xs : List ℕ) → length (put_item on name value xs) ≡ length xs
unfolding put_item
length_put_item on name value xs = length_set_where (on && not (ltb name local_count)) xs (name - local_count) value

-- A guarded-out line that has a target keeps the target's value.
guarded_out_value_is_old : (G : ℕ) (kind : Kind) (target : ℕ) (reads : Reads) → name_of_target G kind target < no_name
    → guarded_out_value kind reads ≡ reads.target
unfolding name_of_target guarded_out_value
guarded_out_value_is_old G Compute target reads h = refl
guarded_out_value_is_old G Store target reads h = refl
guarded_out_value_is_old G Load target reads h = refl
guarded_out_value_is_old G Input target reads h = refl
guarded_out_value_is_old G Assert target reads h = absurd (omega arith)
guarded_out_value_is_old G Assume target reads h = absurd (omega arith)
guarded_out_value_is_old G Lock target reads h = refl
guarded_out_value_is_old G Unlock target reads h = refl

module _ (case : Case) (given : ℕ → ℕ) (l : Line) (m : Memory) where
  pub step_fits : MemoryFits case m → MemoryFits case (stepped case given l m)
  step_fits fits = record {
    all_locals = length_put_local _ _ _ m.locals ∙ fits.all_locals;
    all_items = length_put_item _ _ _ m.items ∙ fits.all_items;
  }

  -- After a line its target has the line's value, whether the guard is true or not.
  pub look_target_after_step : WellFormed case → MemoryFits case m → target_name case.G l < local_count + item_count case
      → look (stepped case given l m) (target_name case.G l) ≡ value_of l (reads_in case given l m)
  unfolding value_by look put_local put_item
  look_target_after_step wf fits h = go (guard_true l reads) refl
    where
      reads : Reads
      reads = reads_in case given l m

      go : (on : Bool) → guard_true l reads ≡ on
          → look (put on (target_name case.G l) (value_of l reads) m) (target_name case.G l) ≡ value_of l reads
      go true e = look_put_same (target_name case.G l) (value_of l reads) m fits.all_locals (omega (arith, fits.all_items))
      go false e = rw e (sym (guarded_out_value_is_old case.G l.kind l.target reads (omega (arith, wf.few_items))))

module _ (case : Case) (α : Assignment) where
  -- At a point of block i, after these lines of its thread (latest first): for every name, what the machine holds is what the
  -- assignment reads.
  abbrev pub Corresponds : ℕ → List Line → Memory → Type 0
  Corresponds i earlier m = (name : ℕ) → look m name ≡ read_after case α i earlier name

  pub step_keeps_correspondence : WellFormed case → (given : ℕ → ℕ) (i : ℕ) (l : Line) (earlier : List Line) (m : Memory)
      → MemoryFits case m → 0 < l.number → α.block l.number ≡ i → α.value l.number ≡ value_of l (reads_in case given l m)
      → Corresponds i earlier m → Corresponds i (l ∷ earlier) (stepped case given l m)
  step_keeps_correspondence wf given i l earlier m fits positive in_block has_value corresponds name =
      go (eq_view (target_name case.G l) name) (lt_view name (local_count + item_count case))
    where
      go : EqView (target_name case.G l) name → LtView name (local_count + item_count case)
          → look (stepped case given l m) name ≡ read_after case α i (l ∷ earlier) name
      go (same e _) (below h _) =
          ap (look (stepped case given l m)) (sym e)
          ∙ look_target_after_step case given l m wf fits (omega arith)
          ∙ sym has_value
          ∙ sym (read_name_own_block case α i name l.number h positive in_block)
          ∙ sym (read_after_target case α i name l earlier e)
      go (same e _) (above h _) =
          look_beyond name (stepped case given l m) (omega (arith, (step_fits case given l m fits).all_items))
          ∙ sym (read_name_no_name case α i name l.number h)
          ∙ sym (read_after_target case α i name l earlier e)
      go (diff differs _) _ =
          look_put_other (guard_true l (reads_in case given l m)) name (target_name case.G l) (value_of l (reads_in case given l m)) m differs
          ∙ corresponds name
          ∙ sym (read_after_other case α i name l earlier differs)
