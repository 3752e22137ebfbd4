-- The sources of a case, record by record. Assumes nothing. Met again in `one_more` and `sources_of`.
use mathlib.Core.Path.{◌≡◌, refl, sym, ap, ◌∙◌}
use mathlib.Core.Bool.{Bool, true, false}
use Prim.Native.Nat.{ℕ, zero, suc, ◌+◌, ◌-◌, ◌≤◌, ◌<◌}
use mathlib.Core.List.{List, [], ◌∷◌, ◌++◌, append_assoc, append-nil}
use native.Mathlib.Omega.{arith}
use native.Mathlib.Numerals.{add-one}
use borrow.Author.Tests.{lt-ltb, le-ltb}
use lib.ListN.{length, set, replicate, length-append, length-set}
use lib.Seq.{length-take-le, take-suc-set}
use Rattle.model.specs.CaseFile.{kind_of, Line, Case, records, record_field, thread_count, first_record, next_record, line_of, chain, chains, case_of, sum_of_lines, sum_of_threads, has_number, find_line, find_thread, line_at}
use Rattle.model.specs.declared.Kind.{Kind}
use Rattle.model.specs.declared.Kind.TheVariants.{Input}
use Rattle.model.specs.Line.{is_input}
use Rattle.laws.specs.Accepted.{Accepted, lines_from}
use Rattle.laws.proofs.Views.{EqView, same, diff, eq_view, LtView, below, above, lt_view}
use Rattle.laws.proofs.Lines.{find_nothing}
use Rattle.script.specs.Assertions.{most_sources, source, sources_from, sources_of}
use Rattle.linked.specs.declared.Sources.{Sources}
use Rattle.linked.specs.Shape.{HasSources}
use Rattle.smt_parts.specs.Sources.{Found, with_source}

-- The line with a record's number is of the record's kind: in a chain, among threads, and in an accepted case.
module _ (bytes : List ℕ) (k : ℕ) where
  kind_in_chain : (t most j : ℕ) (other : Line) → 0 < sum_of_lines (has_number k) (chain bytes t most j)
      → (find_line k (chain bytes t most j) other).kind ≡ kind_of (record_field bytes k 1)
  unfolding chain find_line
  kind_in_chain t zero j other h = absurd (omega arith)
  kind_in_chain t (suc most) zero other h = absurd (omega arith)
  kind_in_chain t (suc most) (suc j) other h = go (eq_view (suc j) k) (kind_in_chain t most (next_record bytes (suc j)) other)
    where
      rest : List Line
      rest = chain bytes t most (next_record bytes (suc j))

      go : EqView (suc j) k → (0 < sum_of_lines (has_number k) rest → (find_line k rest other).kind ≡ kind_of (record_field bytes k 1))
          → (find_line k (line_of bytes t (suc j) ∷ rest) other).kind ≡ kind_of (record_field bytes k 1)
      go (same p q) later = rw q (ap (λ (x : ℕ). kind_of (record_field bytes x 1)) p)
      go (diff p q) later = rw q (later (omega (arith, rw q at h)))

  kind_among : (t many : ℕ) → 0 < sum_of_threads (has_number k) (chains bytes t many) → (find_thread k (chains bytes t many)).kind ≡ kind_of (record_field bytes k 1)
  unfolding chains find_thread
  kind_among t zero h = absurd (omega arith)
  kind_among t (suc many) h = go (sum_of_lines (has_number k) first) refl (kind_among (suc t) many)
    where
      first : List Line
      first = lines_from bytes t (first_record bytes t)

      others : List (List Line)
      others = chains bytes (suc t) many

      go : (x : ℕ) → sum_of_lines (has_number k) first ≡ x → (0 < sum_of_threads (has_number k) others → (find_thread k others).kind ≡ kind_of (record_field bytes k 1))
          → (find_line k first (find_thread k others)).kind ≡ kind_of (record_field bytes k 1)
      go zero e later = ap (λ (l : Line). l.kind) (find_nothing k first (find_thread k others) e) ∙ later (omega (arith, h, e))
      go (suc x) e later = kind_in_chain t (suc (records bytes)) (first_record bytes t) (find_thread k others) (omega (arith, e))

  pub kind_of_line : Accepted bytes → 0 < k → k ≤ records bytes → (line_at (case_of bytes) k).kind ≡ kind_of (record_field bytes k 1)
  kind_of_line ok some low = kind_among 0 (thread_count bytes) (omega (arith, ok.reached_once k some low))

-- One more record.
no_room : (case : Case) (many k : ℕ) → sources_from case many k 0 ≡ []
unfolding sources_from
no_room case zero k = refl
no_room case (suc many) k = go (is_input (line_at case k).kind) (no_room case many (suc k))
  where
    go : (q : Bool) → sources_from case many (suc k) 0 ≡ [] → source q k (sources_from case many (suc k)) 0 ≡ []
    go true later = refl
    go false later = later

source_step : (case : Case) (xs : List ℕ) (many k : ℕ) (κ : Kind) → (line_at case k).kind ≡ κ
    → with_source xs κ k ++ sources_from case many (suc k) (most_sources - length (with_source xs κ k)) ≡ xs ++ sources_from case (suc many) k (most_sources - length xs)
unfolding with_source sources_from
source_step case xs many k κ e = rw e (go (is_input κ) refl (lt_view (length xs) most_sources))
  where
    go : (q : Bool) → is_input κ ≡ q → LtView (length xs) most_sources
        → with_source xs κ k ++ sources_from case many (suc k) (most_sources - length (with_source xs κ k))
        ≡ xs ++ source (is_input κ) k (sources_from case many (suc k)) (most_sources - length xs)
    go false p v = rw p
    go true p (below h q) =
        let more : most_sources - length xs ≡ suc (most_sources - length (xs ++ (k ∷ []))) = omega (arith, length-append xs (k ∷ [])) in
        rw (p, q, more) (append_assoc xs (k ∷ []) (sources_from case many (suc k) (most_sources - length (xs ++ (k ∷ [])))))
    go true p (above h q) =
        let full : most_sources - length xs ≡ 0 = omega arith in
        rw (p, q, full) (ap (λ (ys : List ℕ). xs ++ ys) (no_room case many (suc k)))

-- The array with one more, or full.
module _ {xs : List ℕ} {sources : Sources} (v : Found xs sources) where
  so_many : length xs ≡ sources.count
  so_many = ap length (sym v.are) ∙ length-take-le sources.count sources.records (omega (arith, v.few, v.room))

  pub found_full : (k : ℕ) → most_sources ≤ sources.count → Found (with_source xs Input k) sources
  unfolding with_source
  found_full k h = rw (le-ltb (length xs) most_sources (omega (arith, so_many))) v

  pub found_more : (k : ℕ) → sources.count < most_sources
      → Found (with_source xs Input k) (record { count = sources.count + 1; records = set sources.records sources.count k })
  unfolding with_source
  found_more k h = rw (lt-ltb (length xs) most_sources (omega (arith, so_many))) (record {
    few = omega arith;
    room = length-set sources.records sources.count k ∙ v.room;
    are = rw add-one (take-suc-set sources.records sources.count k (omega (arith, v.room)) ∙ ap (λ (ys : List ℕ). ys ++ (k ∷ [])) v.are);
  })

-- The loop over the records, at record k.
pub record Sourcing (bytes : List ℕ) (k : ℕ) (sources : Sources) : Type 0 where
  pub some : 0 < k
  pub upto : k ≤ records bytes + 1
  pub so_far : List ℕ
  pub found : Found so_far sources
  pub left : so_far ++ sources_from (case_of bytes) (records bytes + 1 - k) k (most_sources - length so_far) ≡ sources_of (case_of bytes)

pub sourcing_start : (bytes : List ℕ) → Sourcing bytes 1 (record { count = 0; records = replicate most_sources 0 })
unfolding sources_of
sourcing_start bytes =
    let all : records bytes + 1 - 1 ≡ records bytes = omega arith in
    record { some = omega arith; upto = omega arith; so_far = []; found = record { few = omega arith; room = refl; are = refl }; left = rw all }

module _ {bytes : List ℕ} {k : ℕ} {sources : Sources} (v : Sourcing bytes k sources) where
  pub sourcing_more : Accepted bytes → k ≤ records bytes → {kind : Kind} {r : Sources} → kind ≡ kind_of (record_field bytes k 1)
      → ((xs : List ℕ) → Found xs sources → Found (with_source xs kind k) r) → Sourcing bytes (k + 1) r
  sourcing_more ok h {kind} is with-this =
      let more : records bytes + 1 - k ≡ suc (records bytes + 1 - suc k) = omega arith in
      record {
        some = omega arith;
        upto = omega arith;
        so_far = with_source v.so_far kind k;
        found = with-this v.so_far v.found;
        left = rw (add-one k) (source_step (case_of bytes) v.so_far (records bytes + 1 - suc k) k kind (kind_of_line bytes k ok v.some h ∙ sym is) ∙ (rw more at v.left));
      }

  pub sourcing_end : records bytes < k → HasSources (case_of bytes) sources
  unfolding sources_from
  sourcing_end h = record {
    few = v.found.few;
    many = ap length (sym all) ∙ so_many v.found;
    list = v.found.are ∙ all;
  }
    where
      none : records bytes + 1 - k ≡ 0
      none = omega arith

      all : v.so_far ≡ sources_of (case_of bytes)
      all = sym (append-nil v.so_far) ∙ (rw none at v.left)
