-- What a thread's lines read, kept along its chain: the values of its locals, and of the items in the block that it is in.
-- Assumes nothing.
use mathlib.Core.Path.{◌≡◌, refl, sym, ap, ◌∙◌, fun_ext}
use Prim.Native.Nat.{ℕ, suc, ◌+◌, ◌-◌, ◌≤◌, ◌<◌}
use mathlib.Core.Bool.{Bool, true, false, cond, not}
use mathlib.Core.List.{List, [], ◌∷◌}
use native.Mathlib.Omega.{arith}
use lib.Dec.{ltb}
use lib.ListN.{get_or, set, take, length, length-set, length-take, replicate, get_or-replicate}
use lib.Seq.{get_or-take}
use borrow.Author.Tests.{lt-ltb, le-ltb}
use Rattle.model.specs.Limits.{local_count, most_items}
use Rattle.model.specs.CaseFile.{Line, Case, item_count}
use Rattle.model.specs.Line.{item_name, target_name, reads_of}
use Rattle.model.specs.Machine.{Memory, look, put_local, put_item}
use Rattle.model.specs.Assignment.{Assignment}
use Rattle.model.specs.Copies.{latest, value_before, read_local, read_item, read_name, read_after, reads_after}
use Rattle.laws.specs.Order.{AllLines, Positive}
use Rattle.laws.proofs.Views.{EqView, same, diff, eq_view, LtView, below, above, lt_view}
use Rattle.laws.proofs.Memory.{put, look_put_same, look_put_other, look_beyond}
use Rattle.laws.proofs.Walk.{RunBefore, run_before_weakened, read_item_at_start}
use Rattle.laws.proofs.Copies.{read_name_no_name, read_name_own_block, read_after_target, read_after_other}
use Rattle.assignment.specs.Numbers.{Filled}
use Rattle.line.specs.LineReads.{memory}
use Rattle.line.proofs.Memories.{look_name}

length_set_where : (on : Bool) (xs : List ℕ) (j x : ℕ) → length (cond on (set xs j x) xs) ≡ length xs
length_set_where true xs j x = length-set xs j x
length_set_where false xs j x = refl

module _ (case : Case) (α : Assignment) where
  -- After these earlier lines, latest first, in this block: each name has in memory what a line reads for it.
  pub record Reading (earlier : List Line) (block : ℕ) (m : Memory) : Type 0 where
    pub positive : AllLines Positive earlier
    pub before : RunBefore α.block (suc block) earlier
    pub all_locals : length m.locals ≡ local_count
    pub all_items : length m.items ≡ item_count case
    pub sees : (name : ℕ) → look m name ≡ read_after case α block earlier name

  no_name_lem : (i : ℕ) (earlier : List Line) (name : ℕ) → local_count + item_count case ≤ name → 0 ≡ read_after case α i earlier name
  unfolding read_after
  no_name_lem i earlier name h = sym (read_name_no_name case α i name _ h)

  -- Where a block starts, items have the values that it starts from; a local reads the same in every block.
  module _ (i : ℕ) (earlier : List Line) (positive : AllLines Positive earlier) (before : RunBefore α.block i earlier)
      (locals items : List ℕ) (sixteen : length locals ≡ local_count) (fresh : Filled (value_before case α i) (item_count case) items)
      (few : item_count case ≤ most_items) (j : ℕ)
      (local : (name : ℕ) → name < local_count → get_or locals name 0 ≡ read_after case α j earlier name) where
    abbrev m : Memory
    m = memory locals items (item_count case)

    item_sees : (name : ℕ) → local_count ≤ name → name - local_count < item_count case → look m name ≡ read_after case α i earlier name
    unfolding look read_after read_name
    item_sees name h h' =
        let e : item_name (name - local_count) ≡ name = omega arith in
        rw (le-ltb name local_count h, lt-ltb (name - local_count) (item_count case) h')
        (get_or-take (item_count case) items (name - local_count) 0 h' ∙ fresh.filled (name - local_count) h'
        ∙ sym (read_item_at_start case α i (name - local_count) earlier positive before)
        ∙ ap (λ (x : ℕ). read_item case α i (name - local_count) (latest case.G x earlier)) e)

    local_sees : (name : ℕ) → name < local_count → look m name ≡ read_after case α i earlier name
    unfolding look read_after read_name
    local_sees name h = rw (lt-ltb name local_count h) (local name h ∙ rw (lt-ltb name local_count h))

    all_items_there : length (take (item_count case) items) ≡ item_count case
    all_items_there = omega (arith, length-take (item_count case) items, fresh.wide)

    pub reading_fresh : Reading earlier i m
    reading_fresh = record {
      positive = positive;
      before = run_before_weakened α.block i (suc i) earlier (omega arith) before;
      all_locals = sixteen;
      all_items = all_items_there;
      sees = λ name. go name (lt_view name local_count) (lt_view (name - local_count) (item_count case));
    }
      where
        go : (name : ℕ) → LtView name local_count → LtView (name - local_count) (item_count case) → look m name ≡ read_after case α i earlier name
        go name (below h _) _ = local_sees name h
        go name (above h _) (below h' _) = item_sees name h h'
        go name (above h _) (above h' _) = look_beyond name m (omega (arith, all_items_there)) ∙ no_name_lem i earlier name (omega arith)

  -- Where a thread starts.
  pub reading_start : (items : List ℕ) → Filled (value_before case α 0) (item_count case) items → item_count case ≤ most_items
      → Reading [] 0 (memory (replicate local_count 0) items (item_count case))
  unfolding read_after read_name read_local latest
  reading_start items fresh few = reading_fresh 0 [] tt tt (replicate local_count 0) items refl fresh few 0 local
    where
      local : (name : ℕ) → name < local_count → get_or (replicate local_count 0) name 0 ≡ read_after case α 0 [] name
      local name h = rw (lt-ltb name local_count h) (get_or-replicate local_count name 0 0 h)

  module _ {earlier : List Line} {block : ℕ} {locals : List ℕ} (items : List ℕ) (v : Reading earlier block (memory locals items (item_count case))) where
    -- A later block.
    pub reading_later : (i : ℕ) (items' : List ℕ) → block < i → Filled (value_before case α i) (item_count case) items' → item_count case ≤ most_items
        → Reading earlier i (memory locals items' (item_count case))
    reading_later i items' later fresh few =
        reading_fresh i earlier v.positive (run_before_weakened α.block (suc block) i earlier (omega arith) v.before)
        locals items' v.all_locals fresh few block local
      where
        local : (name : ℕ) → name < local_count → get_or locals name 0 ≡ read_after case α block earlier name
        local name h = look_name locals items (item_count case) name h ∙ v.sees name

  module _ {earlier : List Line} {block : ℕ} {m : Memory} (v : Reading earlier block m) (l : Line) (in_block : α.block l.number ≡ block) (value : ℕ) (ev : value ≡ α.value l.number) where
    pub reading_reads : reads_of case.G (look m) l value ≡ reads_after case α earlier l
    reading_reads = rw (in_block, ev) (ap (λ (f : ℕ → ℕ). reads_of case.G f l (α.value l.number)) (fun_ext v.sees))

    -- One line more: its target has its value.
    pub reading_more : 0 < l.number → Reading (l ∷ earlier) block (put true (target_name case.G l) value m)
    unfolding put_local put_item
    reading_more low = record {
      positive = (low, v.positive);
      before = (omega (arith, in_block), rw in_block v.before);
      all_locals = length_set_where (ltb target local_count) m.locals target value ∙ v.all_locals;
      all_items = all_items';
      sees = λ name. go name (eq_view target name) (lt_view name (local_count + item_count case));
    }
      where
        target : ℕ
        target = target_name case.G l

        all_items' : length (put true (target_name case.G l) value m).items ≡ item_count case
        all_items' = length_set_where (not (ltb target local_count)) m.items (target - local_count) value ∙ v.all_items

        go : (name : ℕ) → EqView target name → LtView name (local_count + item_count case)
            → look (put true (target_name case.G l) value m) name ≡ read_after case α block (l ∷ earlier) name
        go name (diff n _) _ = look_put_other true name target value m n ∙ v.sees name ∙ sym (read_after_other case α block name l earlier n)
        go name (same e _) (below h _) =
            ap (look (put true target value m)) (sym e)
            ∙ look_put_same target value m v.all_locals (omega (arith, v.all_items)) ∙ ev
            ∙ sym (read_after_target case α block name l earlier e ∙ read_name_own_block case α block name l.number h low in_block)
        go name (same e _) (above h _) = look_beyond name (put true target value m) (omega (arith, all_items')) ∙ no_name_lem block (l ∷ earlier) name h
