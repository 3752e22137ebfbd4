-- Check 5: the fields of absent threads and globals are at most 0, and so they are 0.
-- Assumes nothing.
use mathlib.Core.Path.{◌≡◌, refl, ap₂, ◌∙◌}
use Prim.Native.Nat.{ℕ, zero, suc, ◌-◌}
use mathlib.Core.Bool.{Bool, ◌&&◌}
use mathlib.Core.List.{List}
use native.Mathlib.Omega.{arith}
use borrow.Author.Tests.{ne_eqb, lt-leb}
use lib.Dec.{leb, eqb}
use Rattle.model.specs.Limits.{most_threads, most_globals}
use Rattle.model.specs.Lists.{all_from}
use Rattle.model.specs.CaseFile.{thread_count, global_count, first_record, initial_value}
use Rattle.model.specs.Accept.{absent_ok}

all_of_same : (test other : ℕ → Bool) (i many : ℕ) → ((j : ℕ) → test j ≡ other j) → all_from test i many ≡ all_from other i many
unfolding all_from
all_of_same test other i zero h = refl
all_of_same test other i (suc many) h = ap₂ (λ (x y : Bool). x && y) (h i) (all_of_same test other (suc i) many h)

leb_of_0 : (x : ℕ) → leb x 0 ≡ eqb x 0
leb_of_0 zero = refl
leb_of_0 (suc x) = rw (lt-leb (suc x) 0 (omega arith), ne_eqb (suc x) 0 (λ e. omega arith))

-- Fields of the header from number i on are 0.
zeros : (at : ℕ → ℕ) (from i to : ℕ) (r : Bool) → from ≡ i → r ≡ all_from (λ j. leb (at j) 0) from (to - from) → r ≡ all_from (λ j. eqb (at j) 0) i (to - i)
zeros at from i to r e er = rw (← e) (er ∙ all_of_same _ _ from (to - from) (λ j. leb_of_0 (at j)))

pub absent_is_ok :
    (bytes : List ℕ) (T G : ℕ) (firsts initials : Bool) → T ≡ thread_count bytes → G ≡ global_count bytes → firsts ≡ all_from (λ t. leb (first_record bytes t) 0) T (most_threads - T) →
    initials ≡ all_from (λ g. leb (initial_value bytes g) 0) G (most_globals - G) → (firsts && initials) ≡ absent_ok bytes
absent_is_ok bytes T G firsts initials e_t eG ef ei =
    ap₂ (λ (x y : Bool). x && y) (zeros (first_record bytes) T (thread_count bytes) most_threads firsts e_t ef) (zeros (initial_value bytes) G (global_count bytes) most_globals initials eG ei)
