-- Reading an item by the blocks of a thread, as text. Assumes nothing. Met again in `put_block`, `put_blocks` and `put_before`.
use mathlib.Core.Path.{◌≡◌, refl, sym, ap, ◌∙◌}
use mathlib.Core.Logic.{◌≢◌}
use Prim.Native.Nat.{ℕ, zero, suc, ◌+◌, ◌-◌, ◌*◌, ◌<◌, ◌≤◌}
use mathlib.Core.List.{List, [], ◌∷◌, ◌++◌}
use native.Mathlib.Omega.{arith}
use lib.ListN.{length}
use borrow.Author.Tests.{le-leb, lt-leb}
use Rattle.model.specs.CaseFile.{Case}
use Rattle.smt.specs.Term.{Term, variable, constant}
use Rattle.smt.specs.Spelling.{ascii, formula_text}
use Rattle.script.specs.Assertions.{sources_of, equal, block_of, same, value_before, blocks_from, own_blocks, read_before}
use Rattle.spell.specs.Spelt.{top, Puts}
use Rattle.spell.specs.declared.Writer.{Writer}
use Rattle.spell.specs.Atoms.{atom_term, closing}
use Rattle.spell.specs.declared.Atom.{Atom}
use Rattle.spell.proofs.Spelling.{Remains, left_start, left_more, left_end, puts_then, puts_as}
use Rattle.linked.specs.Shape.{HasFrame}
use Rattle.linked.specs.declared.Frame.{Frame}
use Rattle.linked.proofs.Nesting.{closing_none, nested, head_of_three}
use Rattle.reads_text.specs.Blocks.{block_head, block_heads, Headed}

module _ (case : Case) (sources : List ℕ) (x : Term) (k g : ℕ) where
  -- One block.
  pub block_spelt : (i : ℕ) (before : Atom) {b : ℕ} {d a e f h m : Writer} → b ≡ 2 * (k - 1) → atom_term before ≡ value_before case i g
      → Puts (ascii "(ite ") d a → Puts (formula_text (equal (variable b) (constant i))) a e → Puts (ascii " ") e f
      → Puts (formula_text (same sources x (atom_term before))) f h → Puts (ascii " ") h m → Puts (block_head case sources x k g i) d m
  unfolding block_head
  block_spelt i before y z word asked blank here behind =
      puts_as (rw (y, z)) (puts_then word (puts_then asked (puts_then blank (puts_then here behind))))

  -- All of them, and `true` innermost.
  blocks_text : (blocks : List ℕ) → formula_text (read_before case sources x k g blocks) ≡ block_heads case sources x k g blocks ++ (ascii "true" ++ closing (length blocks))
  unfolding formula_text read_before block_heads block_head
  blocks_text [] = rw closing_none
  blocks_text (i ∷ blocks) =
      head_of_three (ascii "(ite ") (formula_text (equal (block_of k) (constant i))) (formula_text (same sources x (value_before case i g))) (formula_text (read_before case sources x k g blocks))
      ∙ nested (block_head case sources x k g i) (block_heads case sources x k g blocks) (ascii "true") (length blocks) (blocks_text blocks)

  pub before_spelt : (blocks : List ℕ) {before after : Writer} {many : ℕ} {e f : Writer} → Headed case sources x k g blocks before after many
      → Puts (ascii "true") after e → Puts (closing many) e f
      → Puts (formula_text (read_before case sources x k g blocks)) before f
  before_spelt blocks heads word close =
      puts_as (rw heads.counted (sym (blocks_text blocks))) (puts_then heads.spelt (puts_then word close))

-- The blocks from block i on: there is one more, or none.
blocks_go_on : (T n left i : ℕ) → left ≢ 0 → i ≤ n → blocks_from T n left i ≡ i ∷ blocks_from T n (left - 1) (i + T)
unfolding blocks_from
blocks_go_on T n left i h k =
    go (left - 1) (omega arith)
  where
    go : (less : ℕ) → left ≡ suc less → blocks_from T n left i ≡ i ∷ blocks_from T n less (i + T)
    go less e = rw e (rw (le-leb i n k))

blocks_end : (T n left i : ℕ) → n < i → blocks_from T n left i ≡ []
unfolding blocks_from
blocks_end T n zero i h = refl
blocks_end T n (suc left) i h = rw (lt-leb i n h)

-- The loop over the blocks of thread t, after so many, where block i is next.
pub record Blocks (frame : Frame) (x : Term) (k g t : ℕ) (before after : Writer) (i many : ℕ) : Type 0 where
  pub near : i ≤ 131070
  pub few : many ≤ frame.shape.switches + 1
  pub spelt : (case : Case) → HasFrame case frame
      → Remains (block_heads case (sources_of case) x k g (own_blocks case t)) before after (block_heads case (sources_of case) x k g (blocks_from case.T case.n (suc case.n - many) i))
      × (many + length (blocks_from case.T case.n (suc case.n - many) i) ≡ length (own_blocks case t))

module _ {frame : Frame} {x : Term} {k g t : ℕ} {before : Writer} where
  pub blocks_start : before.at ≤ top → t < 65536 → Blocks frame x k g t before before t 0
  blocks_start h few = record {
    near = omega arith;
    few = omega arith;
    spelt = λ case f. let all : suc case.n - 0 ≡ suc case.n = omega arith in (rw all (left_start h refl), rw all (omega arith));
  }

  module _ {after : Writer} {i many : ℕ} (v : Blocks frame x k g t before after i many) where
    pub blocks_more : many < frame.shape.switches + 1 → i ≤ frame.shape.switches → frame.shape.switches < 65536 → frame.shape.threads < 65536 → {then : Writer}
        → ((case : Case) → HasFrame case frame → Puts (block_head case (sources_of case) x k g i) after then)
        → Blocks frame x k g t before then (i + frame.shape.threads) (many + 1)
    unfolding block_heads
    blocks_more h upto n T put = record {
      near = omega arith;
      few = omega (arith, h);
      spelt = λ case f.
          let z = v.spelt case f in
          let less : suc case.n - many - 1 ≡ suc case.n - (many + 1) = omega arith in
          let e = rw less at (blocks_go_on case.T case.n (suc case.n - many) i (λ e. omega (arith, h, f.shape.switches, e)) (omega (arith, upto, f.shape.switches))) in
          (rw f.shape.threads (left_more z.0 (ap (block_heads case (sources_of case) x k g) e) (put case f)), rw f.shape.threads (omega (arith, z.1, ap length e)));
    }

    module _ (case : Case) (f : HasFrame case frame) where
      -- Where no block is left, all are put.
      all_blocks : blocks_from case.T case.n (suc case.n - many) i ≡ [] → Headed case (sources_of case) x k g (own_blocks case t) before after many
      unfolding block_heads
      all_blocks e =
          let z = v.spelt case f in
          record { spelt = left_end z.0 (ap (block_heads case (sources_of case) x k g) e); counted = omega (arith, z.1, ap length e) }

      pub blocks_ended : frame.shape.switches < i → Headed case (sources_of case) x k g (own_blocks case t) before after many
      blocks_ended h = all_blocks (blocks_end case.T case.n (suc case.n - many) i (omega (arith, h, f.shape.switches)))

      pub blocks_spent : frame.shape.switches + 1 ≤ many → Headed case (sources_of case) x k g (own_blocks case t) before after (frame.shape.switches + 1)
      unfolding blocks_from
      blocks_spent h =
          let e : many ≡ frame.shape.switches + 1 = omega (arith, h, v.few) in
          let none : suc case.n - many ≡ 0 = omega (arith, h, f.shape.switches) in
          rw e at (all_blocks (rw none))
