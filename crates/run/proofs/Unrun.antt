-- The lines that a run leaves get the numbers of lines that were not run: what is left decides.
-- Assumes nothing.
use mathlib.Core.Path.{◌≡◌, refl, sym, ap, ◌∙◌}
use mathlib.Core.Logic.{◌≢◌}
use Prim.Native.Nat.{ℕ, suc, ◌+◌, ◌-◌, ◌≤◌, ◌<◌}
use mathlib.Core.List.{List, [], ◌∷◌}
use native.Mathlib.Omega.{arith}
use lib.ListN.{set, length, length-set}
use Rattle.model.specs.CaseFile.{Line, Case, records, thread_count, switch_count, next_record, record_field, kind_of, case_of}
use Rattle.model.specs.declared.Kind.{Kind}
use Rattle.model.specs.Line.{unrun_value}
use Rattle.model.specs.Assignment.{block_place, value_place}
use Rattle.model.specs.Fill.{put_record, put_unrun, put_all_unrun}
use Rattle.laws.specs.Accepted.{Accepted, lines_from}
use Rattle.laws.proofs.Following.{lines_end, lines_more, next_low}
use Rattle.run.specs.declared.Thread.{Thread}
use Rattle.run.specs.RunState.{thread_at, list_from, rest_at, rests_of}

pub length_put_record : (k block value : ℕ) (xs : List ℕ) → length (put_record k block value xs) ≡ length xs
length_put_record k block value xs = length-set (set xs (block_place k) block) (value_place k) value ∙ length-set xs (block_place k) block

-- Within a chain, at record `at`.
pub record Leaving (bytes : List ℕ) (k : ℕ) (xs₀ : List ℕ) (at : ℕ) (xs : List ℕ) : Type 0 where
  pub low : at ≤ records bytes
  pub size : length xs ≡ length xs₀
  pub does : (t : ℕ) → put_unrun (case_of bytes) (lines_from bytes t at) xs ≡ put_unrun (case_of bytes) (lines_from bytes t k) xs₀

module _ {bytes : List ℕ} (ok : Accepted bytes) {k : ℕ} (xs₀ : List ℕ) where
  pub leaving_start : k ≤ records bytes → Leaving bytes k xs₀ k xs₀
  leaving_start within = record { low = within; size = refl; does = λ t. refl }

  module _ {at : ℕ} {xs : List ℕ} (v : Leaving bytes k xs₀ at xs) where
    pub leaving_end : at ≡ 0 → (t : ℕ) → xs ≡ put_unrun (case_of bytes) (lines_from bytes t k) xs₀
    leaving_end e t = sym (ap (λ (ls : List Line). put_unrun (case_of bytes) ls xs) (lines_end bytes t at e)) ∙ v.does t

    pub leaving_more : at ≢ 0 → {kind : Kind} {switches next : ℕ} {xs' : List ℕ} → switches ≡ switch_count bytes → kind ≡ kind_of (record_field bytes at 1)
        → next ≡ next_record bytes at → {value : ℕ} → value ≡ unrun_value kind → xs' ≡ put_record at (switches + 1) value xs
        → Leaving bytes k xs₀ next xs'
    leaving_more some {kind} {switches} {next} {xs'} is_switches is_kind is_next {value} is-value is-put =
        let block : switches + 1 ≡ suc (switch_count bytes) = omega arith in
        let put : xs' ≡ put_record at (suc (switch_count bytes)) (unrun_value (kind_of (record_field bytes at 1))) xs =
        is-put ∙ ap (λ (b : ℕ). put_record at b value xs) block
        ∙ ap (λ (v : ℕ). put_record at (suc (switch_count bytes)) v xs) (is-value ∙ ap unrun_value is_kind) in
        rw is_next (record {
          low = next_low bytes ok 0 at some v.low;
          size = ap length is-put ∙ length_put_record at (switches + 1) value xs ∙ v.size;
          does = λ t. ap (put_unrun (case_of bytes) (lines_from bytes t (next_record bytes at))) put
              ∙ sym (ap (λ (ls : List Line). put_unrun (case_of bytes) ls xs) (lines_more bytes ok t at some v.low)) ∙ v.does t;
        })

-- At thread t.
pub record LeavingAll (bytes : List ℕ) (threads : List Thread) (xs₀ : List ℕ) (t : ℕ) (xs : List ℕ) : Type 0 where
  pub size : length xs ≡ length xs₀
  pub does : put_all_unrun (case_of bytes) (list_from (rest_at bytes threads) t (thread_count bytes - t)) xs ≡ put_all_unrun (case_of bytes) (rests_of bytes threads) xs₀

module _ {bytes : List ℕ} {threads : List Thread} (xs₀ : List ℕ) where
  pub all_start : LeavingAll bytes threads xs₀ 0 xs₀
  all_start =
      let all : thread_count bytes - 0 ≡ thread_count bytes = omega arith in
      record { size = refl; does = ap (λ (x : ℕ). put_all_unrun (case_of bytes) (list_from (rest_at bytes threads) 0 x) xs₀) all }

  module _ {t : ℕ} {xs : List ℕ} (v : LeavingAll bytes threads xs₀ t xs) where
    pub all_end : thread_count bytes ≤ t → xs ≡ put_all_unrun (case_of bytes) (rests_of bytes threads) xs₀
    unfolding list_from
    all_end over =
        let none : thread_count bytes - t ≡ 0 = omega arith in
        sym (ap (λ (x : ℕ). put_all_unrun (case_of bytes) (list_from (rest_at bytes threads) t x) xs) none) ∙ v.does

    pub all_more : t < thread_count bytes → {xs' : List ℕ} → length xs' ≡ length xs
        → {thread : Thread} → thread ≡ thread_at threads t → ((u : ℕ) → xs' ≡ put_unrun (case_of bytes) (lines_from bytes u thread.next) xs)
        → LeavingAll bytes threads xs₀ (t + 1) xs'
    unfolding list_from
    all_more more {xs'} same_size is_thread put =
        let put' = put t ∙ ap (λ (x : Thread). put_unrun (case_of bytes) (lines_from bytes t x.next) xs) is_thread in
        let less : thread_count bytes - t ≡ suc (thread_count bytes - suc t) = omega arith in
        let next : t + 1 ≡ suc t = omega arith in
        record {
          size = same_size ∙ v.size;
          does = rw next (ap (put_all_unrun (case_of bytes) (list_from (rest_at bytes threads) (suc t) (thread_count bytes - suc t))) put'
              ∙ sym (ap (λ (x : ℕ). put_all_unrun (case_of bytes) (list_from (rest_at bytes threads) t x) xs) less) ∙ v.does);
        }

-- A trace of no numbers stays one.
none_put : (case : Case) (ls : List Line) → put_unrun case ls [] ≡ []
none_put case [] = refl
none_put case (l ∷ ls) = none_put case ls

pub nothing_put : (bytes : List ℕ) (k : ℕ) (xs : List ℕ) → length xs ≡ 0 → (t : ℕ) → xs ≡ put_unrun (case_of bytes) (lines_from bytes t k) xs
nothing_put bytes k [] none t = sym (none_put (case_of bytes) (lines_from bytes t k))
nothing_put bytes k (x ∷ xs) none t = absurd (omega (arith, none))
