-- The 6s of a block, item by item, and those of all blocks.
-- Assumes nothing.
use mathlib.Core.Path.{◌≡◌, ap, ◌∙◌}
use mathlib.Core.Logic.{◌≢◌}
use Prim.Native.Nat.{ℕ, suc, ◌+◌, ◌-◌, ◌%◌, ◌≤◌, ◌<◌}
use mathlib.Core.List.{List, [], ◌∷◌, ◌++◌, reverse}
use native.Mathlib.Omega.{arith}
use native.Mathlib.Nat.{mod-lt}
use native.Mathlib.Numerals.{add-one}
use borrow.Author.Tests.{eq-eqb, ne_eqb}
use lib.Dec.{eqb}
use lib.ListN.{get_or}
use Rattle.std.specs.Prelude.{Ok, Err}
use Rattle.model.specs.Limits.{most_threads, most_lines}
use Rattle.model.specs.CaseFile.{thread_count, switch_count, case_of, lines_of, item_count}
use Rattle.model.specs.Line.{item_name}
use Rattle.model.specs.Assignment.{assignment_of}
use Rattle.model.specs.Copies.{latest, held_copy}
use Rattle.model.specs.Table.{Row, row, item_rows, block_rows}
use Rattle.model.specs.Holds.{holds}
use Rattle.laws.specs.Accepted.{Accepted}
use Rattle.laws.proofs.Sizes.{item_numbers_lem}
use Rattle.copies.proofs.Held.{held_last}
use Rattle.assignment.specs.Numbers.{StartOf}
use Rattle.search.specs.declared.Failed.{Failed}
use Rattle.search.specs.Search.{searched, Room}
use Rattle.search.proofs.Search.{Searching, searching_start, searching_end, searching_fits, searching_found, searching_more, one_holds, one_fails}
use Rattle.walk_back.specs.declared.Span.{Span}
use Rattle.walk_back.specs.Deciding.{deciding, decided_value}
use Rattle.walk_back.specs.Blocks.{sixes_of, all_sixes, SixesReady, SpanReady}
use Rattle.walk_back.proofs.WalkBack.{six_holds}

-- ---- A block, before item g

abbrev rows_from : List ℕ → ℕ → ℕ → ℕ → List Row
rows_from bytes i g many = item_rows (case_of bytes) (reverse (lines_of (case_of bytes) (i % thread_count bytes))) i g many

pub record BlockWalk (bytes xs : List ℕ) (span : Span) (count at g : ℕ) : Type 0 where
  pub upto : g ≤ count
  pub seeks : Searching bytes xs span.start (sixes_of bytes span.block) at (rows_from bytes span.block g (count - g))

module _ {bytes xs previous : List ℕ} {copies : List (List ℕ)} {span : Span} (ok : Accepted bytes) (r : SpanReady bytes xs previous copies span) where
  abbrev i : ℕ
  i = span.block

  pub block_thread : {T : ℕ} → T ≡ thread_count bytes → i % T < most_threads
  block_thread {T} e_t =
      omega (arith, mod-lt i {m = T} (omega (arith, e_t, ok.some_threads)), e_t, ok.few_threads)

  module _ {count : ℕ} (ec : count ≡ item_count (case_of bytes)) where
    pub block_start : BlockWalk bytes xs span count span.start 0
    block_start =
        let z : count - 0 ≡ item_count (case_of bytes) = omega arith in
        record { upto = omega arith; seeks = searching_start bytes xs _ _ _ r.ready.numbers.counted (rw z) }

    module _ {at g : ℕ} (v : BlockWalk bytes xs span count at g) where
      pub block_end : count ≤ g → Ok at ≡ searched bytes xs span.start (sixes_of bytes i)
      unfolding item_rows
      block_end h = let z : count - g ≡ 0 = omega arith in searching_end v.seeks (rw z)

      module _ (h : g < count) where
        abbrev six : Row
        six = row 6 g i (latest (case_of bytes).G (item_name g) (reverse (lines_of (case_of bytes) (i % thread_count bytes)))) 0 0

        item_split : rows_from bytes i g (count - g) ≡ (six ∷ []) ++ rows_from bytes i (g + 1) (count - (g + 1))
        unfolding item_rows
        item_split = let z : count - g ≡ suc (count - (g + 1)) = omega arith in rw (z, add-one g)

        pub block_room : Room at (six ∷ [])
        block_room = searching_fits v.seeks r.ready.numbers (six ∷ []) _ item_split

        module _ {T : ℕ} (e_t : T ≡ thread_count bytes) {p : ℕ} (ep : p ≡ held_copy (get_or copies (i % T) []) (item_name g))
            {value : ℕ} (ev : value ≡ decided_value xs (get_or span.before g 0) (deciding previous xs i most_lines p)) where
          here : eqb (get_or span.after g 0) value ≡ holds (case_of bytes) (assignment_of (case_of bytes) xs) six
          here =
              let below = mod-lt i {m = thread_count bytes} (omega (arith, ok.some_threads)) in
              let item : g < item_count (case_of bytes) = omega arith in
              six_holds ok xs r.ready.chains i g item _ _ _ p
              (r.before.filled g item) (rw add-one at (r.after.filled g item))
              (ep ∙ ap (λ (x : ℕ). held_copy (get_or copies (i % x) []) (item_name g)) e_t
              ∙ held_last (case_of bytes) copies (thread_count bytes) r.ready.chains.latest (i % thread_count bytes) (item_name g) below
              (omega (arith, below, ok.few_threads)) (omega (arith, item, item_numbers_lem bytes ok)))
              ev

          pub block_found : get_or span.after g 0 ≢ value → Err (record { constraint = at }) ≡ searched bytes xs span.start (sixes_of bytes i)
          block_found n = searching_found v.seeks _ _ item_split (one_fails bytes xs at six _ here (ne_eqb _ value n))

          pub block_more : get_or span.after g 0 ≡ value → BlockWalk bytes xs span count (at + 1) (g + 1)
          block_more e = record {
            upto = omega arith;
            seeks = searching_more v.seeks _ _ item_split (one_holds bytes xs at six _ here (eq-eqb _ value e));
          }

-- ---- The blocks from i on

pub record BlocksWalk (bytes xs : List ℕ) (start last : ℕ) (before : List ℕ) (at i : ℕ) : Type 0 where
  pub upto : i ≤ last
  pub seeks : Searching bytes xs start (all_sixes bytes) at (block_rows (case_of bytes) i (last - i))
  pub starts : StartOf bytes xs i before

module _ {bytes previous : List ℕ} {copies : List (List ℕ)} {start : ℕ} (r : SixesReady bytes previous copies start (all_sixes bytes)) (xs : List ℕ)
    {last : ℕ} (en : last ≡ switch_count bytes) where
  pub blocks_start : {before : List ℕ} → StartOf bytes xs 0 before → BlocksWalk bytes xs start last before start 0
  blocks_start starts =
      let z : last - 0 ≡ switch_count bytes = omega arith in
      record { upto = omega arith; seeks = searching_start bytes xs start _ _ r.numbers.counted (rw z); starts = starts }

  module _ {before : List ℕ} {at i : ℕ} (v : BlocksWalk bytes xs start last before at i) where
    pub blocks_end : last ≤ i → Ok at ≡ searched bytes xs start (all_sixes bytes)
    unfolding block_rows
    blocks_end h = let z : last - i ≡ 0 = omega arith in searching_end v.seeks (rw z)

    module _ (h : i < last) where
      block_split : block_rows (case_of bytes) i (last - i) ≡ sixes_of bytes i ++ block_rows (case_of bytes) (i + 1) (last - (i + 1))
      unfolding block_rows
      block_split = let z : last - i ≡ suc (last - (i + 1)) = omega arith in rw (z, add-one i)

      module _ {after : List ℕ} (starts : StartOf bytes xs (i + 1) after) where
        pub blocks_ready : SpanReady bytes xs previous copies (record { block = i; start = at; before = before; after = after })
        blocks_ready = record {
          ready = record { chains = r.chains; numbers = searching_fits v.seeks r.numbers (sixes_of bytes i) _ block_split };
          before = v.starts;
          after = starts;
        }

        pub blocks_more : {next : ℕ} → Ok next ≡ searched bytes xs at (sixes_of bytes i) → BlocksWalk bytes xs start last after next (i + 1)
        blocks_more found = record { upto = omega arith; seeks = searching_more v.seeks _ _ block_split found; starts = starts }

      pub blocks_found : {f : Failed} → Err f ≡ searched bytes xs at (sixes_of bytes i) → Err f ≡ searched bytes xs start (all_sixes bytes)
      blocks_found found = searching_found v.seeks _ _ block_split found
