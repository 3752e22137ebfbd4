-- What holds of every line of a thread, and of every line of every thread.
-- Assumes nothing. Met again in Blocks, Values, Endings and LineFound.
use Prim.Native.Nat.{ℕ, zero, suc, ◌<◌}
use mathlib.Core.List.{List, [], ◌∷◌, reverse_aux}
use native.Mathlib.Omega.{arith}
use lib.ListN.{get_or, set, length, drop}
use Rattle.model.specs.CaseFile.{Line}
use Rattle.laws.specs.Order.{AllLines, AllThreads}

pub all_lines_map : (P Q : Line → Type 0) (ls : List Line) → ((l : Line) → P l → Q l) → AllLines P ls → AllLines Q ls
all_lines_map P Q [] f h = tt
all_lines_map P Q (l ∷ ls) f h = (f l h.0, all_lines_map P Q ls f h.1)

pub all_threads_lem : (P : Line → Type 0) (threads : List (List Line)) → ((t : ℕ) → t < length threads → AllLines P (get_or threads t []))
    → AllThreads P threads
all_threads_lem P [] each = tt
all_threads_lem P (ls ∷ threads) each = (each 0 (omega arith), all_threads_lem P threads (λ t h. each (suc t) (omega arith)))

pub each_thread : (P : Line → Type 0) (threads : List (List Line)) → AllThreads P threads → (t : ℕ) → AllLines P (get_or threads t [])
each_thread P [] all t = tt
each_thread P (ls ∷ threads) all zero = all.0
each_thread P (ls ∷ threads) all (suc t) = each_thread P threads all.1 t

pub all_dropped : (P : Line → Type 0) (steps : ℕ) (ls : List Line) → AllLines P ls → AllLines P (drop steps ls)
all_dropped P zero ls all = all
all_dropped P (suc steps) [] all = all
all_dropped P (suc steps) (l ∷ ls) all = all_dropped P steps ls all.1

pub all_earlier_and_rest : (P : Line → Type 0) (earlier ls : List Line) → AllLines P (reverse_aux earlier ls)
    → AllLines P earlier × AllLines P ls
all_earlier_and_rest P [] ls all = (tt, all)
all_earlier_and_rest P (l ∷ earlier) ls all = let ih = all_earlier_and_rest P earlier (l ∷ ls) all in ((ih.1.0, ih.0), ih.1.1)

-- What each of a list has, by its place, each has after a change of one to another that has it.
pub each_after_set : {A : Type 0} (P : ℕ → A → Type 0) (default : A) (xs : List A) (t : ℕ) (x : A) → ((j : ℕ) → P j (get_or xs j default)) → P t x
    → (j : ℕ) → P j (get_or (set xs t x) j default)
each_after_set P default [] t x h p j = h j
each_after_set P default (y ∷ xs) zero x h p zero = p
each_after_set P default (y ∷ xs) zero x h p (suc j) = h (suc j)
each_after_set P default (y ∷ xs) (suc t) x h p zero = h 0
each_after_set P default (y ∷ xs) (suc t) x h p (suc j) = each_after_set (λ i. P (suc i)) default xs t x (λ i. h (suc i)) p j
