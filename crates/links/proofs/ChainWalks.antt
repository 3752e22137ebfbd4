-- The walk that marks what it reaches, as its loops meet it: along a chain, and over the threads.
-- Assumes nothing.
use Rattle.std.specs.Prelude.{Result, Ok, Err, ⊤}
use mathlib.Core.Path.{◌≡◌, refl, sym, ap, ◌∙◌}
use mathlib.Core.Logic.{◌≢◌}
use Prim.Native.Nat.{ℕ, suc, ◌+◌, ◌-◌, ◌≤◌, ◌<◌}
use mathlib.Core.Bool.{Bool, true, false, ◌&&◌, and-true}
use mathlib.Core.List.{List, []}
use native.Mathlib.Omega.{arith}
use native.Mathlib.Nat.{zero-add}
use lib.Dec.{leb}
use lib.ListN.{length, get_or, set, length-set, length-replicate}
use lib.Seq.{get_or-set_same, get_or-set_other}
use Rattle.model.specs.Limits.{most_lines, most_records, record_places}
use Rattle.model.specs.Lists.{all_from, unless}
use Rattle.model.specs.CaseFile.{records, thread_count, first_record, next_record, chain, chains}
use Rattle.model.specs.Accept.{lengths_ok}
use Rattle.model.specs.declared.Refusal.{Refusal}
use Rattle.model.specs.declared.Refusal.TheVariants.{Links, Unreached, Lines}
use Rattle.laws.specs.Accepted.{thread_lines}
use Rattle.laws.proofs.Views.{EqView, same, diff, eq_view}
use Rattle.links.specs.Links.{LinksWithin, chains_checked}
use Rattle.links.specs.ReachCounts.{one_more_at, count_lines, count_threads, reached_of, sum_to, Marks, FollowReady, Unmarked, Twice, Walked, Followed}
use Rattle.case_file.proofs.LoopTests.{all_at_end, all_next}
use Rattle.laws.proofs.Chains.{threads_are}
use Rattle.laws.proofs.Following.{chains_more, chains_end}
use Rattle.links.proofs.ReachCounts.{count_at_end, count_goes_on, lines_told, lines_left, count_grows, length_of_count, zeros_are_0, sum_of_zeros, sum_of_one_more, sum_at_most, twice_goes_on, twice_reached, once_reached, all_reached, not_all_reached}

-- Along the chain of thread t: at record k after n lines.
pub record Walking (bytes start : List ℕ) (t : ℕ) (marked : List ℕ) (k n : ℕ) : Type 0 where
  pub links : LinksWithin bytes
  pub within : k ≤ records bytes
  pub marks : Marks marked
  pub counts : count_lines marked (chain bytes t (suc (records bytes) - n) k) ≡ count_lines start (thread_lines bytes t)
  pub lines : n + length (chain bytes t (suc (records bytes) - n) k) ≡ length (thread_lines bytes t)
  pub sum : sum_to marked (records bytes) ≡ sum_to start (records bytes) + n

pub walking_starts : {bytes start : List ℕ} {t first : ℕ} → FollowReady bytes t start → first ≡ first_record bytes t → Walking bytes start t start first 0
walking_starts {bytes} {start} {t} ready ef = record { links = ready.links; within = rw ef (ready.links.firsts t ready.thread); marks = ready.marks; counts = rw (ef, e); lines = rw (ef, e) (zero-add _); sum = omega arith }
  where
    e : suc (records bytes) - 0 ≡ suc (records bytes)
    e = omega arith

module _ {bytes start : List ℕ} {t : ℕ} {marked : List ℕ} {k n : ℕ} (w : Walking bytes start t marked k n) where
  -- Each line was marked anew, so there are no more than records.
  pub few_passed : n ≤ records bytes
  few_passed = omega (arith, w.sum, sum_at_most marked (records bytes) w.marks.single)

  pub walk_ends : k ≡ 0 → Followed bytes t start marked (Ok n)
  walk_ends h = record {
    counts = sym (count_at_end bytes t (suc (records bytes) - n) k marked h) ∙ w.counts;
    lines = lines_told bytes t (suc (records bytes) - n) k n _ w.lines h;
    marks = w.marks;
    sum = w.sum;
  }

  long : records bytes < length marked
  long = omega (arith, w.marks.size, w.links.threads.sized.few_records)

  -- one more line is passed
  goes_on : k ≢ 0 → count_lines marked (chain bytes t (suc (records bytes) - n) k) ≡ count_lines (one_more_at marked k) (chain bytes t (suc (records bytes) - n - 1) (next_record bytes k))
  goes_on z = count_goes_on bytes t (suc (records bytes) - n) k marked (omega (arith, few_passed)) z

  pub came_twice : k ≢ 0 → get_or marked k 0 ≢ 0 → Followed bytes t start marked (Err Links)
  came_twice z m = (
    refl,
    record {
      place = k;
      low = omega arith;
      high = w.within;
      count = rw (← w.counts, goes_on z)
          (omega (
            arith,
            count_grows (one_more_at marked k) (chain bytes t (suc (records bytes) - n - 1) (next_record bytes k)) k (omega (arith, long, w.within, length-set marked k (get_or marked k 0 + 1))),
            get_or-set_same marked k (get_or marked k 0 + 1) 0 (omega (arith, long, w.within)),
          ));
    },
  )

  module _ (z : k ≢ 0) (new : get_or marked k 0 ≡ 0) where
    mark : set marked k 1 ≡ one_more_at marked k
    mark = rw new

    fewer : suc (records bytes) - n - 1 ≡ suc (records bytes) - (n + 1)
    fewer = omega arith

    single : (j : ℕ) → EqView j k → get_or (set marked k 1) j 0 ≤ 1
    single j (same e q) = rw (e, get_or-set_same marked k 1 0 (omega (arith, long, w.within))) (omega arith)
    single j (diff d q) = rw (get_or-set_other marked k j 1 0 d) (w.marks.single j)

    pub walk_on : Walking bytes start t (set marked k 1) (next_record bytes k) (n + 1)
    walk_on = record {
      links = w.links;
      within = w.links.nexts k (omega arith) w.within;
      marks = record { size = length-set marked k 1 ∙ w.marks.size; single = λ j. single j (eq_view j k) };
      counts = rw (← fewer, mark) (sym (goes_on z) ∙ w.counts);
      lines = rw (← fewer) (lines_left bytes t (suc (records bytes) - n) k n _ w.lines (omega (arith, few_passed)) z);
      sum = rw mark (omega (arith, w.sum, sum_of_one_more marked k (records bytes) (omega arith) w.within long));
    }

-- Thread t has few lines.
abbrev few_lines : List ℕ → ℕ → Bool
few_lines bytes t = leb (length (get_or (chains bytes 0 (thread_count bytes)) t [])) most_lines

-- Over the threads: before thread t, with so many lines passed.
pub record Following (bytes marked : List ℕ) (lines : ℕ) (few : Bool) (t : ℕ) : Type 0 where
  pub small : records bytes ≤ most_records
  pub within : t ≤ thread_count bytes
  pub marks : Marks marked
  pub counts : count_threads marked (chains bytes t (thread_count bytes - t)) ≡ reached_of bytes
  pub sum : sum_to marked (records bytes) ≡ lines
  pub lengths : (few && all_from (few_lines bytes) t (thread_count bytes - t)) ≡ lengths_ok bytes

pub following_starts : (bytes marked : List ℕ) → Unmarked bytes marked → Following bytes marked 0 true 0
following_starts bytes marked start = record {
  small = start.links.threads.sized.few_records;
  within = omega arith;
  marks = rw start.none (record { size = length-replicate {A = ℕ} record_places 0; single = λ j. omega (arith, zeros_are_0 record_places j) });
  counts = rw (start.none, all);
  sum = rw start.none (sum_of_zeros record_places (records bytes));
  lengths = rw all;
}
  where
    all : thread_count bytes - 0 ≡ thread_count bytes
    all = omega arith

module _ {bytes marked : List ℕ} {lines : ℕ} {few : Bool} {t : ℕ} (f : Following bytes marked lines few t) where
  pub few_walked : {n : ℕ} {after : List ℕ} → Walked marked (thread_lines bytes t) (records bytes) after n → lines + n ≤ records bytes
  few_walked {n} {after} walked = omega (arith, walked.sum, f.sum, sum_at_most after (records bytes) walked.marks.single)

  -- One thread more.
  module _ (h : t < thread_count bytes) where
    rest_of : count_threads (count_lines marked (thread_lines bytes t)) (chains bytes (t + 1) (thread_count bytes - (t + 1))) ≡ reached_of bytes
    unfolding count_threads
    rest_of = sym (ap (count_threads marked) (chains_more bytes t (thread_count bytes) h)) ∙ f.counts

    pub follow_on : {n : ℕ} {after : List ℕ} → Walked marked (thread_lines bytes t) (records bytes) after n → Following bytes after (lines + n) (few && leb n most_lines) (t + 1)
    follow_on walked = record {
      small = f.small;
      within = omega arith;
      marks = walked.marks;
      counts = rw walked.counts rest_of;
      sum = omega (arith, walked.sum, f.sum);
      lengths = rw (walked.lines ∙ sym (ap length (threads_are bytes t h))) (and_next few (few_lines bytes) t (thread_count bytes) h ∙ f.lengths);
    }
      where
        and_next : (q : Bool) (test : ℕ → Bool) (i to : ℕ) → i < to → (q && test i && all_from test (i + 1) (to - (i + 1))) ≡ (q && all_from test i (to - i))
        and_next true test i to h = sym (all_next test i to h)
        and_next false test i to h = refl

    pub fails_6 : {e : Refusal} → (e ≡ Links) × Twice (count_lines marked (thread_lines bytes t)) (records bytes) → Err e ≡ chains_checked bytes
    fails_6 (is, more) =
        rw (is, twice_reached bytes f.small two)
      where
        two : Twice (reached_of bytes) (records bytes)
        two = rw (← rest_of) (twice_goes_on _ _ (records bytes) (omega (arith, f.small, f.marks.size, length_of_count marked (thread_lines bytes t))) more)

  module _ (end : thread_count bytes ≤ t) where
    all_counts_lem : marked ≡ reached_of bytes
    unfolding count_threads
    all_counts_lem = sym (ap (count_threads marked) (chains_end bytes t (thread_count bytes) end)) ∙ f.counts

    pub fails_7 : lines < records bytes → Err Unreached ≡ chains_checked bytes
    fails_7 less = rw (once_reached bytes f.small marked all_counts_lem f.marks, not_all_reached bytes f.small marked all_counts_lem f.marks (omega (arith, f.sum)))

    pub passes_7 : records bytes ≤ lines → {r : Result ⊤ Refusal} → r ≡ unless few (Err Lines) (Ok tt) → r ≡ chains_checked bytes
    passes_7 full e =
        let last : lengths_ok bytes ≡ few = sym f.lengths ∙ ap (λ (q : Bool). few && q) (all_at_end (few_lines bytes) t (thread_count bytes) end) ∙ and-true few in
        rw (once_reached bytes f.small marked all_counts_lem f.marks, all_reached bytes f.small marked all_counts_lem f.marks (omega (arith, f.sum)), last) e
