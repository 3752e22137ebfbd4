-- Reading an item and a name, as text. Assumes nothing. Met again in `put_item` and `put_name`.
use mathlib.Core.Path.{◌≡◌, sym}
use mathlib.Core.Logic.{◌≢◌}
use Prim.Native.Nat.{ℕ, ◌+◌, ◌-◌, ◌*◌, ◌<◌, ◌≤◌}
use mathlib.Core.List.{List}
use native.Mathlib.Omega.{arith}
use borrow.Author.Tests.{eq-eqb, ne_eqb, lt-ltb, le-ltb}
use Rattle.model.specs.Limits.{local_count}
use Rattle.model.specs.CaseFile.{Case, Line, item_count}
use Rattle.smt.specs.Term.{Term, variable, constant}
use Rattle.smt.specs.Spelling.{ascii, formula_text}
use Rattle.script.specs.Assertions.{equal, local_with, same, own_blocks, read_before, read_item, read_name}
use Rattle.spell.specs.declared.Writer.{Writer}
use Rattle.spell.specs.Spelt.{Puts}
use Rattle.spell.proofs.Spelling.{puts_then, puts_as}
use Rattle.linked.specs.Shape.{HasShape}
use Rattle.linked.specs.declared.Shape.{Shape}

module _ (case : Case) (sources : List ℕ) (x : Term) (l : Line) (g p : ℕ) where
  pub item_none : p ≡ 0 → {d a : Writer} → Puts (formula_text (read_before case sources x l.number g (own_blocks case l.thread))) d a
      → Puts (formula_text (read_item case sources x l g p)) d a
  unfolding read_item
  item_none e put = rw (eq-eqb p 0 e) put

  pub item_some : p ≢ 0 → {b k v : ℕ} {d a e f h m n o : Writer} → b ≡ 2 * (p - 1) → k ≡ 2 * (l.number - 1) → v ≡ 2 * (p - 1) + 1
      → Puts (ascii "(ite ") d a → Puts (formula_text (equal (variable b) (variable k))) a e → Puts (ascii " ") e f
      → Puts (formula_text (same sources x (variable v))) f h → Puts (ascii " ") h m
      → Puts (formula_text (read_before case sources x l.number g (own_blocks case l.thread))) m n → Puts (ascii ")") n o
      → Puts (formula_text (read_item case sources x l g p)) d o
  unfolding read_item formula_text
  item_some n y w u word asked blank here behind before close =
      puts_as (rw (ne_eqb p 0 n, y, w, u))
      (puts_then word (puts_then asked (puts_then blank (puts_then here (puts_then behind (puts_then before close))))))

module _ (case : Case) (sources : List ℕ) (x : Term) (l : Line) (name p : ℕ) {d a : Writer} where
  pub name_local : name < local_count → {y : Term} → y ≡ local_with p → Puts (formula_text (same sources x y)) d a → Puts (formula_text (read_name case sources x l name p)) d a
  unfolding read_name
  name_local h e put = rw (lt-ltb name local_count h, sym e) put

  module _ {shape : Shape} (s : HasShape case shape) (h : local_count ≤ name) where
    pub name_item : name - local_count < shape.items → Puts (formula_text (read_item case sources x l (name - local_count) p)) d a
        → Puts (formula_text (read_name case sources x l name p)) d a
    unfolding read_name
    name_item i put = rw (le-ltb name local_count h, lt-ltb (name - local_count) (item_count case) (omega (arith, i, s.items))) put

    pub name_none : shape.items ≤ name - local_count → Puts (formula_text (equal x (constant 0))) d a → Puts (formula_text (read_name case sources x l name p)) d a
    unfolding read_name
    name_none i put = rw (le-ltb name local_count h, le-ltb (name - local_count) (item_count case) (omega (arith, i, s.items))) put
