-- The forward walk holds the latest copies: after one more line, by name, and as the latest of the lines front to back.
-- Assumes nothing. Met again where the encoder writes copies, where the checker goes along a thread, and where a builder hands on lines.
use mathlib.Core.Path.{◌≡◌, refl, sym, ap, subst, ◌∙◌}
use mathlib.Core.Logic.{◌≢◌}
use Prim.Native.Nat.{ℕ, ◌<◌}
use mathlib.Core.Bool.{Bool, true, false, cond}
use mathlib.Core.List.{List, [], ◌∷◌, ◌++◌, append_assoc, reverse, reverse-cons, reverse-reverse}
use native.Mathlib.Omega.{arith}
use borrow.Author.Tests.{lt-ltb}
use lib.ListN.{length, get_or, set, length-set, length-replicate, get_or-replicate}
use lib.Seq.{get_or-set_same, get_or-set_other}
use Rattle.model.specs.CaseFile.{Line}
use Rattle.model.specs.Line.{no_name, target_name}
use Rattle.model.specs.Copies.{latest, copy_of, nothing_held, held_copy, take_copy, take_line, walk_lines, held_after}
use Rattle.laws.specs.Order.{AllLines}
use Rattle.laws.specs.ForwardWalk.{LatestOf, none, latest_is, HoldsLatest, ForAnyLines}
use Rattle.laws.proofs.Views.{EqView, same, diff, eq_view, LtView, below, above, lt_view}
use Rattle.laws.proofs.Copies.{latest_target, latest_other}

module _ (G : ℕ) where
  -- ---- Steps

  walk_joined : (held : List ℕ) (front ls : List Line) → walk_lines G held (front ++ ls) ≡ walk_lines G (walk_lines G held front) ls
  unfolding walk_lines
  walk_joined held [] ls = refl
  walk_joined held (l ∷ front) ls = walk_joined (take_line G held l) front ls

  pub one_more_line : (front : List Line) (l : Line) → held_after G (front ++ (l ∷ [])) ≡ take_line G (held_after G front) l
  unfolding walk_lines
  one_more_line front l = walk_joined nothing_held front (l ∷ [])

  -- the same of lines that are given latest first
  pub held_more : (earlier : List Line) (l : Line) → held_after G (reverse (l ∷ earlier)) ≡ take_line G (held_after G (reverse earlier)) l
  held_more earlier l = ap (held_after G) (reverse-cons l earlier) ∙ one_more_line (reverse earlier) l

  same_size : (test : Bool) (held : List ℕ) (name k : ℕ) → length (cond test (set held name k) held) ≡ length held
  same_size true held name k = length-set held name k
  same_size false held name k = refl

  line_size : (held : List ℕ) (l : Line) → length (take_line G held l) ≡ length held
  unfolding take_copy
  line_size held l = search same_size

  walk_size : (held : List ℕ) (front : List Line) → length (walk_lines G held front) ≡ length held
  unfolding walk_lines
  walk_size held [] = refl
  walk_size held (l ∷ front) = walk_size (take_line G held l) front ∙ line_size held l

  pub held_size : (front : List Line) → length (held_after G front) ≡ no_name
  held_size front = walk_size nothing_held front ∙ length-replicate {A = ℕ} no_name 0

  -- ---- By name

  held_taken : (held : List ℕ) (name k : ℕ) → length held ≡ no_name → name < no_name → get_or (take_copy held name k) name 0 ≡ k
  unfolding take_copy
  held_taken held name k size h = rw (lt-ltb name no_name h) (get_or-set_same held name k 0 (omega (arith, size)))

  held_else : (held : List ℕ) (other k name : ℕ) → other ≢ name → get_or (take_copy held other k) name 0 ≡ get_or held name 0
  unfolding take_copy
  held_else held other k name n = go (lt_view other no_name)
    where
      go : LtView other no_name → get_or (take_copy held other k) name 0 ≡ get_or held name 0
      go (below h q) = rw q (get_or-set_other held other name k 0 (λ e. n (sym e)))
      go (above h q) = rw q

  held_latest : (name : ℕ) (earlier : List Line) → name < no_name → get_or (held_after G (reverse earlier)) name 0 ≡ latest G name earlier
  unfolding walk_lines latest
  held_latest name [] h = get_or-replicate no_name name 0 0 h
  held_latest name (l ∷ earlier) h =
      ap (λ (xs : List ℕ). get_or xs name 0) (held_more earlier l) ∙ go (eq_view (target_name G l) name) (held_latest name earlier h)
    where
      before : List ℕ
      before = held_after G (reverse earlier)

      go : EqView (target_name G l) name → get_or before name 0 ≡ latest G name earlier
          → get_or (take_line G before l) name 0 ≡ latest G name (l ∷ earlier)
      go (same e _) ih =
          ap (λ (other : ℕ). get_or (take_copy before other l.number) name 0) e ∙ held_taken before name l.number (held_size (reverse earlier)) h
          ∙ sym (latest_target G name l earlier e)
      go (diff n _) ih = held_else before (target_name G l) l.number name n ∙ ih ∙ sym (latest_other G name l earlier n)

  pub held_copy_lem : (name : ℕ) (earlier : List Line) → held_copy (held_after G (reverse earlier)) name ≡ copy_of G name earlier
  unfolding held_copy copy_of
  held_copy_lem name earlier = go (lt_view name no_name)
    where
      go : LtView name no_name → held_copy (held_after G (reverse earlier)) name ≡ copy_of G name earlier
      go (below h q) = rw q (held_latest name earlier h)
      go (above h q) = rw q

  -- ---- The latest of the lines, front to back

  all_and_one : (P : Line → Type 0) (ls : List Line) (l : Line) → AllLines P ls → P l → AllLines P (ls ++ (l ∷ []))
  all_and_one P [] l all h = (h, tt)
  all_and_one P (m ∷ ls) l all h = (all.0, all_and_one P ls l all.1 h)

  latest_of : (name : ℕ) (earlier : List Line) → LatestOf G name (reverse earlier) (latest G name earlier)
  unfolding latest
  latest_of name [] = none tt refl
  latest_of name (l ∷ earlier) = go (eq_view (target_name G l) name) (latest_of name earlier)
    where
      longer : List Line → Type 0
      longer front = LatestOf G name front (latest G name (l ∷ earlier))

      shorter : Type 0
      shorter = LatestOf G name (reverse earlier) (latest G name earlier)

      goes_on : target_name G l ≢ name → shorter → longer (reverse earlier ++ (l ∷ []))
      goes_on n (none all e) = none (all_and_one _ (reverse earlier) l all n) (latest_other G name l earlier n ∙ e)
      goes_on n (latest_is before m after e t all p) =
          latest_is before m (after ++ (l ∷ [])) (ap (λ (ls : List Line). ls ++ (l ∷ [])) e ∙ append_assoc before (m ∷ after) (l ∷ [])) t
          (all_and_one _ after l all n) (latest_other G name l earlier n ∙ p)

      go : EqView (target_name G l) name → shorter → longer (reverse (l ∷ earlier))
      go (same e _) ih = latest_is (reverse earlier) l [] (reverse-cons l earlier) e tt (latest_target G name l earlier e)
      go (diff n _) ih = subst longer (sym (reverse-cons l earlier)) (goes_on n ih)

  pub holds_latest : (front : List Line) → HoldsLatest G front
  holds_latest front = record {
    size = held_size front;
    latest = λ name h.
        subst (λ (ls : List Line). LatestOf G name ls (get_or (held_after G ls) name 0)) (reverse-reverse front)
        (subst (LatestOf G name (reverse (reverse front))) (sym (held_latest name (reverse front) h)) (latest_of name (reverse front)));
    copy = λ name. ap (λ (ls : List Line). held_copy (held_after G ls) name) (sym (reverse-reverse front)) ∙ held_copy_lem name (reverse front);
    one_more = one_more_line front;
  }

pub for_any_lines_lem : ForAnyLines
for_any_lines_lem = holds_latest
