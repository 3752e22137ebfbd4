-- A number that was written is read: in base ten, where no digit follows, and in four hexadecimal digits.
-- Assumes nothing. Met where variables and constants are read.
use mathlib.Core.Path.{◌≡◌, refl, ap, ◌∙◌}
use Prim.Native.Nat.{ℕ, zero, suc, ◌+◌, ◌*◌, ◌/◌, ◌%◌, ◌^◌, ◌≤◌, ◌<◌}
use mathlib.Core.Bool.{Bool, true, false, ◌&&◌}
use mathlib.Core.List.{List, [], ◌∷◌, ◌++◌, append_assoc}
use native.Mathlib.Nat.{div-div-eq-div-mul}
use native.Mathlib.Omega.{arith}
use borrow.Author.Tests.{ltb-true, lt-ltb, le-ltb, le-leb}
use lib.Dec.{ltb, leb}
use Rattle.model.specs.Listing.{digit, digits_of, decimal}
use Rattle.smt.specs.Spelling.{hex_digit, four_hex}
use Rattle.smt.specs.Reader.{got, digits_read, read_number, number_below, hex_read, four_read, read_four}
use Rattle.reading.proofs.Words.{after_itself}

-- No digit is the first of these bytes.
abbrev pub NoDigit : List ℕ → Type 0
NoDigit [] = Unit
NoDigit (b ∷ bytes) = (leb 48 b && ltb b 58) ≡ false

no_digit_read : (x : ℕ) (rest : List ℕ) → NoDigit rest → digits_read x rest ≡ x
unfolding digits_read
no_digit_read x [] none = refl
no_digit_read x (b ∷ bytes) none = rw none

digit_read : (x d : ℕ) (rest : List ℕ) → d < 10 → digits_read x (digit d ∷ rest) ≡ digits_read (10 * x + d) rest
unfolding digits_read
digit_read x d rest h =
    rw (le-leb 48 (48 + d) (omega arith), lt-ltb (48 + d) 58 (omega arith))
    (ap (λ (y : ℕ). digits_read y rest) (omega arith))

-- Its digits make the number, whatever follows.
digits_read_lem : (most x : ℕ) (rest : List ℕ) → x < 10 ^ most → digits_read 0 (digits_of most x ++ rest) ≡ digits_read x rest
unfolding digits_of
digits_read_lem zero x rest h = ap (λ (y : ℕ). digits_read y rest) (omega arith)
digits_read_lem (suc most) x rest h = go (ltb x 10) refl (digits_read_lem most (x / 10) (digit (x % 10) ∷ rest) (omega arith))
  where
    go : (q : Bool) → ltb x 10 ≡ q → digits_read 0 (digits_of most (x / 10) ++ (digit (x % 10) ∷ rest)) ≡ digits_read (x / 10) (digit (x % 10) ∷ rest)
        → digits_read 0 (digits_of (suc most) x ++ rest) ≡ digits_read x rest
    go true e before = rw e (digit_read 0 x rest (ltb-true x 10 e) ∙ ap (λ (y : ℕ). digits_read y rest) (omega arith))
    go false e before =
        rw (e, append_assoc (digits_of most (x / 10)) (digit (x % 10) ∷ []) rest)
        (before ∙ digit_read (x / 10) (x % 10) rest (omega arith) ∙ ap (λ (y : ℕ). digits_read y rest) (omega arith))

decimal_read : (k : ℕ) (rest : List ℕ) → k < 65536 → NoDigit rest → digits_read 0 (decimal k ++ rest) ≡ k
unfolding decimal
decimal_read k rest h none = digits_read_lem 5 k rest (omega arith) ∙ no_digit_read k rest none

pub number_read : (declared k : ℕ) (rest : List ℕ) → k < declared → declared ≤ 65536 → NoDigit rest → read_number declared (decimal k ++ rest) ≡ got k rest
unfolding read_number
number_read declared k rest h small none =
    ap (λ (j : ℕ). number_below declared j (decimal k ++ rest)) (decimal_read k rest (omega arith) none)
    ∙ rw (lt-ltb k declared h, after_itself (decimal k) rest)

hex_read_lem : (d : ℕ) → d < 16 → hex_read (hex_digit d) ≡ d
hex_read_lem d h = go (ltb d 10) refl
  where
    go : (q : Bool) → ltb d 10 ≡ q → hex_read (hex_digit d) ≡ d
    go true e = rw (e, lt-ltb (48 + d) 58 (omega (arith, ltb-true d 10 e))) (omega arith)
    go false e = rw (e, le-ltb (87 + d) 58 (omega arith)) (omega arith)

-- Each digit but the first is what is left of a quotient by 16.
sixteenths : (n : ℕ) → n < 65536 → 4096 * (n / 4096 % 16) + (256 * (n / 256 % 16) + (16 * (n / 16 % 16) + n % 16)) ≡ n
sixteenths n h =
    let e2 : n / 16 / 16 ≡ n / 256 = div-div-eq-div-mul n 16 16 in
    let e3 : n / 256 / 16 ≡ n / 4096 = div-div-eq-div-mul n 256 16 in
    let first : n / 4096 % 16 ≡ n / 4096 = omega arith in
    let second : 16 * (n / 4096) + n / 256 % 16 ≡ n / 256 = omega arith in
    let third : 16 * (n / 256) + n / 16 % 16 ≡ n / 16 = omega arith in
    let fourth : 16 * (n / 16) + n % 16 ≡ n = omega arith in
    omega arith

hex_four : (n : ℕ) (rest : List ℕ) → n < 65536 → four_read (four_hex n ++ rest) ≡ n
unfolding four_hex
hex_four n rest h =
    rw (hex_read_lem (n / 4096 % 16) (omega arith), hex_read_lem (n / 256 % 16) (omega arith), hex_read_lem (n / 16 % 16) (omega arith), hex_read_lem (n % 16) (omega arith))
    (sixteenths n h)

pub four_read_lem : (n : ℕ) (rest : List ℕ) → n < 65536 → read_four (four_hex n ++ rest) ≡ got n rest
unfolding read_four
four_read_lem n rest h = rw (hex_four n rest h, after_itself (four_hex n) rest)
