-- A word that the bytes begin with is taken from them; parts with a blank between them and a closing parenthesis behind are read part
-- by part.
-- Assumes nothing. Met where terms, formulas and lines are read.
use mathlib.Core.Path.{◌≡◌, refl}
use Prim.Native.Nat.{ℕ}
use mathlib.Core.List.{List, [], ◌∷◌, ◌++◌, append_assoc}
use mathlib.Core.Option.{some}
use borrow.Author.Tests.{eq-eqb}
use Rattle.smt.specs.Spelling.{ascii, two, three}
use Rattle.smt.specs.Reader.{Got, got, and_then, after, expect, read_two, read_three}

pub after_itself : (word rest : List ℕ) → after word (word ++ rest) ≡ some rest
unfolding after
after_itself [] rest = refl
after_itself (c ∷ word) rest = rw (eq-eqb c c refl) (after_itself word rest)

-- The codes of a blank and of a closing parenthesis stand for themselves, as they compute from the texts of the two.
pub two_then : (word a b rest : List ℕ) → two word a b ++ rest ≡ word ++ (a ++ (32 ∷ (b ++ (41 ∷ rest))))
two_then word a b rest = simp append_assoc

pub three_then : (word a b c rest : List ℕ) → three word a b c ++ rest ≡ word ++ (a ++ (32 ∷ (b ++ (32 ∷ (c ++ (41 ∷ rest))))))
three_then word a b c rest = simp append_assoc

pub one_read :
    {A B : Type 0} (make : A → B) (first : List ℕ → Got A) {bytes rest : List ℕ} {x : A}
    → first bytes ≡ got x (41 ∷ rest) → and_then (first bytes) (λ x rest. expect (ascii ")") rest (got (make x))) ≡ got (make x) rest
unfolding after
one_read make first ex = rw ex

pub two_read :
    {A B C : Type 0} (make : A → B → C) (first : List ℕ → Got A) (second : List ℕ → Got B) {bytes behind rest : List ℕ} {x : A} {y : B}
    → first bytes ≡ got x (32 ∷ behind) → second behind ≡ got y (41 ∷ rest) → read_two make first second bytes ≡ got (make x y) rest
unfolding after
two_read make first second ex ey = rw (ex, ey)

pub three_read :
    {A B C D : Type 0} (make : A → B → C → D) (first : List ℕ → Got A) (second : List ℕ → Got B) (third : List ℕ → Got C)
    {bytes behind last rest : List ℕ} {x : A} {y : B} {z : C}
    → first bytes ≡ got x (32 ∷ behind) → second behind ≡ got y (32 ∷ last) → third last ≡ got z (41 ∷ rest)
    → read_three make first second third bytes ≡ got (make x y z) rest
unfolding after
three_read make first second third ex ey ez = rw (ex, ey, ez)
