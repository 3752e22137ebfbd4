-- The items where a block ends, put in the trace one after the other.
-- Assumes nothing.
use mathlib.Core.Path.{◌≡◌, refl, sym, ap, ap₂, ◌∙◌}
use Prim.Native.Nat.{ℕ, suc, ◌+◌, ◌*◌, ◌≤◌, ◌<◌}
use mathlib.Core.List.{List, [], ◌∷◌}
use native.Mathlib.Omega.{arith}
use native.Mathlib.Nat.{mul-le-mul}
use lib.ListN.{get_or, set, length, take, drop, length-set, drop_of_length-le}
use lib.Seq.{drop-cons, get_or-take, length-take-le, set_out, sets}
use borrow.Author.Tests.{lt-ltb, le-ltb}
use Rattle.model.specs.Limits.{most_switches, most_items}
use Rattle.model.specs.CaseFile.{records, switch_count, case_of, item_count}
use Rattle.model.specs.Fill.{put_items}
use Rattle.turn.specs.TurnState.{items_of}

-- The first g are put, and those that are left decide.
pub record Putting (trace₀ values : List ℕ) (count start : ℕ) (trace : List ℕ) (g : ℕ) : Type 0 where
  pub puts : sets trace (start + g) (drop g (take count values)) ≡ sets trace₀ start (take count values)
  pub size : length trace ≡ length trace₀

module _ {trace₀ values : List ℕ} {count start : ℕ} where
  pub putting_start : Putting trace₀ values count start trace₀ 0
  putting_start = record { puts = ap (λ (x : ℕ). sets trace₀ x (take count values)) (omega arith); size = refl }

  module _ (all : length values ≡ most_items) (few : count ≤ most_items) {trace : List ℕ} {g : ℕ} (p : Putting trace₀ values count start trace g) where
    wide : length (take count values) ≡ count
    wide = length-take-le count values (omega arith)

    pub putting_on : (trace' : List ℕ) → g < count → trace' ≡ set trace (start + g) (get_or values g 0) → Putting trace₀ values count start trace' (g + 1)
    putting_on trace' more put =
        let x = get_or values g 0 in
        let rest : drop g (take count values) ≡ x ∷ drop (suc g) (take count values) =
        drop-cons (take count values) g 0 (omega (arith, wide)) ∙ ap (λ (y : ℕ). y ∷ drop (suc g) (take count values)) (get_or-take count values g 0 more) in
        let next : g + 1 ≡ suc g = omega arith in
        let place : start + (g + 1) ≡ suc (start + g) = omega arith in
        record {
          puts = ap₂ (λ (xs : List ℕ) (y : ℕ). sets xs y (drop (g + 1) (take count values))) put place
              ∙ ap (λ (y : ℕ). sets (set trace (start + g) x) (suc (start + g)) (drop y (take count values))) next
              ∙ ap (sets trace (start + g)) (sym rest) ∙ p.puts;
          size = ap length put ∙ length-set trace (start + g) x ∙ p.size;
        }

    pub putting_end : count ≤ g → trace ≡ sets trace₀ start (take count values)
    putting_end over = ap (sets trace (start + g)) (sym (drop_of_length-le (take count values) {i = g} (omega (arith, wide)))) ∙ p.puts

-- beyond the end nothing is put
sets_out : (xs vs : List ℕ) (start : ℕ) → length xs ≤ start → sets xs start vs ≡ xs
sets_out xs [] start over = refl
sets_out xs (v ∷ vs) start over = ap (λ (ys : List ℕ). sets ys (suc start) vs) (set_out xs start v over) ∙ sets_out xs vs (suc start) (omega arith)

pub few_before : (i n count : ℕ) → i < n → n ≤ most_switches → count ≤ most_items → i * count ≤ most_switches * most_items
few_before i n count h few few' = let low : i ≤ most_switches = omega arith in mul-le-mul low few'

-- The items of block i, by how many blocks have places and whether the trace has its.
module _ (bytes : List ℕ) (i : ℕ) (values trace : List ℕ) where
  pub no_places : switch_count bytes ≤ i → trace ≡ put_items (case_of bytes) i (items_of bytes values) trace
  no_places over = rw (le-ltb i (switch_count bytes) over)

  module _ (low : i < switch_count bytes) (R count start : ℕ) (is_r : R ≡ records bytes) (is_count : count ≡ item_count (case_of bytes))
      (is_start : start ≡ 2 * R + i * count)
    where
      pub puts_items : (trace' : List ℕ) → trace' ≡ sets trace start (take count values) → trace' ≡ put_items (case_of bytes) i (items_of bytes values) trace
      puts_items trace' put = rw (lt-ltb i (switch_count bytes) low, ← is_count, ← is_r, ← is_start) put

      pub trace_ends : length trace ≤ start → trace ≡ put_items (case_of bytes) i (items_of bytes values) trace
      trace_ends over = puts_items trace (sym (sets_out trace (take count values) start over))
