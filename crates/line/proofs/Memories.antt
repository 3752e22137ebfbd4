-- Looking up names, and giving them values, where the items of the case are the first of the code's array.
-- Assumes nothing.
use Rattle.std.proofs.Common.{◌≡◌, ℕ, ◌-◌, ◌%◌, ◌<◌, ◌≤◌, true, false, ltb, List, get_or, take, set, sym, ap, ◌∙◌, mod-eq_of_lt, arith, length-take, get_or-take, le-ltb, lt-ltb, ne_eqb}
use lib.ListN.{get_or-eq_default}
use lib.Seq.{take-set-lt, set_out}
use Rattle.model.specs.Limits.{local_count, most_items}
use Rattle.model.specs.Line.{no_name, item_name, local_name, operand_value}
use Rattle.model.specs.Machine.{look, put_item}
use Rattle.line.specs.LineReads.{memory}

pub local_name_lem : (x : ℕ) → x < local_count → local_name x ≡ x
unfolding local_name
local_name_lem x h = rw (lt-ltb x local_count h)

pub no_local_name : (x : ℕ) → local_count ≤ x → local_name x ≡ no_name
unfolding local_name
no_local_name x h = rw (le-ltb x local_count h)

pub no_local : (g : ℕ) → ltb (item_name g) local_count ≡ false
no_local g = le-ltb (item_name g) local_count (omega arith)

pub less : (g : ℕ) → item_name g - local_count ≡ g
less g = omega arith

module _ (locals items : List ℕ) (count : ℕ) where
  pub look_local : (x : ℕ) → x < local_count → get_or locals x 0 ≡ look (memory locals items count) (local_name x)
  unfolding look
  look_local x h = rw (local_name_lem x h, lt-ltb x local_count h)

  pub operand_local : (x c : ℕ) → x < local_count → get_or locals (x % local_count) 0 ≡ operand_value x c (look (memory locals items count) (local_name x))
  operand_local x c h = rw (ne_eqb x local_count (omega arith)) (ap (λ (j : ℕ). get_or locals j 0) (mod-eq_of_lt h) ∙ look_local x h)

  pub look_item : (g : ℕ) → g < count → get_or items g 0 ≡ look (memory locals items count) (item_name g)
  unfolding look
  look_item g h = rw (no_local g, less g) (sym (get_or-take count items g 0 h))

  pub look_no_item : (g : ℕ) → count ≤ g → 0 ≡ look (memory locals items count) (item_name g)
  unfolding look
  look_no_item g h =
      rw (no_local g, less g) (sym (get_or-eq_default (take count items) 0 {n = g} (omega (arith, length-take count items))))

  pub look_no_local : count ≤ most_items → (x : ℕ) → local_count ≤ x → 0 ≡ look (memory locals items count) (local_name x)
  look_no_local few x h = look_no_item most_items few ∙ ap (look (memory locals items count)) (sym (no_local_name x h))

  -- by name
  pub look_name : (name : ℕ) → name < local_count → get_or locals name 0 ≡ look (memory locals items count) name
  look_name name h = look_local name h ∙ ap (look (memory locals items count)) (local_name_lem name h)

-- What put_item does of a name: a local's, one of the case's items, or one beyond these.
module _ (items : List ℕ) (count value name : ℕ) where
  pub put_of_local : name < local_count → take count items ≡ put_item true name value (take count items)
  unfolding put_item
  put_of_local h = rw (lt-ltb name local_count h)

  pub put_of_item : local_count ≤ name → name - local_count < count → take count (set items (name - local_count) value) ≡ put_item true name value (take count items)
  unfolding put_item
  put_of_item h h' = rw (le-ltb name local_count h) (take-set-lt count items (name - local_count) value h')

  pub put_beyond : local_count ≤ name → count ≤ name - local_count → take count items ≡ put_item true name value (take count items)
  unfolding put_item
  put_beyond h h' = rw (le-ltb name local_count h) (sym (set_out (take count items) (name - local_count) value (omega (arith, length-take count items))))
