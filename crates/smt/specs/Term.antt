-- Terms and formulas of SMT-LIB's logic QF_BV over bit-vectors of 16 bits, and what they mean. A bit-vector is the unsigned number
-- that it stands for; a variable is known by its number.
-- Assumes nothing.
use Rattle.std.specs.Prelude.{ℕ, ◌+◌, ◌-◌, ◌/◌, ◌%◌, Bool, cond, not, ◌&&◌, ◌||◌, eqb, ltb, leb}
use Rattle.std.specs.Int.Bits.{bit_and, bit_or}

-- The functions of two bit-vectors, the tests of two bit-vectors, and the connectives of two formulas.
pub data Operation : Type 0 where
  bvadd bvsub bvand bvor bvudiv bvurem : Operation

pub data Test : Type 0 where
  equals bvult bvule : Test

pub data Connective : Type 0 where
  conjunction disjunction exclusion implication : Connective

mutual
  pub data Term : Type 0 where
    variable : ℕ → Term
    constant : ℕ → Term
    choice : Formula → Term → Term → Term
    apply : Operation → Term → Term → Term

  pub data Formula : Type 0 where
    truth : Bool → Formula
    test : Test → Term → Term → Formula
    negation : Formula → Formula
    join : Connective → Formula → Formula → Formula
    select : Formula → Formula → Formula → Formula

-- How many numbers 16 bits have, and the one with all bits set.
abbrev pub bit_vectors : ℕ
bit_vectors = 65536

abbrev pub all_ones : ℕ
all_ones = 65535

-- `bvadd`, `bvsub` (x + 2^16 − y) modulo 2^16; `bvand` and `bvor` bit by bit; `bvudiv` and `bvurem` unsigned, where division by zero
-- gives all ones, and its remainder the dividend.
unfoldable pub result_of : Operation → ℕ → ℕ → ℕ
result_of bvadd x y = (x + y) % bit_vectors
result_of bvsub x y = (x + (bit_vectors - y)) % bit_vectors
result_of bvand x y = bit_and x y
result_of bvor x y = bit_or x y
result_of bvudiv x y = cond (eqb y 0) all_ones (x / y)
result_of bvurem x y = cond (eqb y 0) x (x % y)

-- `=`, and `bvult` and `bvule`, unsigned.
unfoldable pub tested : Test → ℕ → ℕ → Bool
tested equals x y = eqb x y
tested bvult x y = ltb x y
tested bvule x y = leb x y

-- `and`, `or`, `xor`, `=>`
unfoldable pub joined : Connective → Bool → Bool → Bool
joined conjunction p q = p && q
joined disjunction p q = p || q
joined exclusion p q = cond p (not q) q
joined implication p q = not p || q

-- The value of a term and the truth of a formula, where each variable has the value that the environment gives it.
unfoldable mutual
  pub value : Term → (ℕ → ℕ) → ℕ
  value (variable k) env = env k
  value (constant n) env = n
  value (choice f x y) env = cond (meets f env) (value x env) (value y env)
  value (apply o x y) env = result_of o (value x env) (value y env)

  pub meets : Formula → (ℕ → ℕ) → Bool
  meets (truth p) env = p
  meets (test t x y) env = tested t (value x env) (value y env)
  meets (negation f) env = not (meets f env)
  meets (join c f g) env = joined c (meets f env) (meets g env)
  meets (select f g h) env = cond (meets f env) (meets g env) (meets h env)
