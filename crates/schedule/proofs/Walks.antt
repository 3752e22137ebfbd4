-- The two loops that write input values: over a thread's lines, and over the threads. What holds as each starts, goes on and ends.
-- Assumes nothing. Met again in write_values and write_all_values.
use mathlib.Core.Path.{◌≡◌, refl, sym, ap, ap₂, ◌∙◌}
use mathlib.Core.Logic.{◌≢◌}
use Prim.Native.Nat.{ℕ, ◌+◌, ◌-◌, ◌≤◌, ◌<◌}
use mathlib.Core.Bool.{Bool, true, false, cond, ◌&&◌}
use mathlib.Core.List.{List, [], ◌∷◌, ◌++◌}
use native.Mathlib.Omega.{arith}
use lib.ListN.{get_or, set, length, replicate, get_or-replicate}
use Rattle.model.specs.Limits.{most_threads, most_blocks, local_count}
use Rattle.model.specs.CaseFile.{Line, records, thread_count, global_count, first_record, next_record, line_of, chains, case_of}
use Rattle.model.specs.Line.{guard_name, target_name, guard_true, is_input}
use Rattle.model.specs.Machine.{put_local}
use Rattle.model.specs.Assignment.{assignment_of, was_run}
use Rattle.model.specs.Copies.{reads_after}
use Rattle.model.specs.Schedule.{decoded_values, all_decoded_values}
use Rattle.laws.specs.Accepted.{Accepted, lines_from, thread_lines}
use Rattle.laws.specs.Written.{Put}
use Rattle.laws.proofs.Following.{lines_end, lines_more, next_low, lines_less, chains_more, chains_end}
use Rattle.laws.proofs.Lines.{few_lines_from}
use Rattle.laws.proofs.Views.{EqView, same, diff, eq_view}
use Rattle.laws.proofs.Writing.{put_single, Writing, writing_start, writing_room, writing_more, writing_end}
use Rattle.case_file.specs.declared.Record.{Record}
use Rattle.case_file.specs.Records.{record_of, as_line}
use Rattle.assignment.specs.Numbers.{record_block, record_value}
use Rattle.schedule.specs.Schedules.{values_of, thread_inputs, CountsOf, ThreadToWrite, ThreadWritten, AllWritten, FewCounted, with_line, run_value, input_number, own_numbers}
use Rattle.schedule.proofs.Locals.{LocalsAre, locals_start, locals_step, guard_same}
use Rattle.schedule.proofs.Counts.{CountingLines, counting_lines_start, counting_lines_few, counting_lines_more, counting_lines_end}

-- The values of the lines from record k of thread t on, after these earlier lines, and of the threads from thread t on.
abbrev values_from : List ℕ → List ℕ → ℕ → List Line → ℕ → List ℕ
values_from bytes xs t earlier k = decoded_values (case_of bytes) (assignment_of (case_of bytes) xs) earlier (lines_from bytes t k)

abbrev threads_from : List ℕ → List ℕ → ℕ → List ℕ
threads_from bytes xs t = all_decoded_values (case_of bytes) (assignment_of (case_of bytes) xs) (chains bytes t (thread_count bytes - t))

-- Before record k of thread t: the slice and the place so far, the locals and the counts; the slice, the place and the counts at the
-- start.
pub record Walk (bytes xs : List ℕ) (t : ℕ) (before : List ℕ) (start : ℕ) (counts₀ : List (List ℕ)) (out : List ℕ) (at : ℕ) (locals : List ℕ) (counts : List (List ℕ)) (k : ℕ) : Type 0 where
  pub thread : t < thread_count bytes
  pub within : k ≤ records bytes
  pub earlier : List Line
  pub held : LocalsAre (case_of bytes) xs locals earlier
  pub writing : Writing (thread_inputs bytes xs t) before start out at (values_from bytes xs t earlier k)
  pub counting : CountingLines counts₀ counts t (record_block xs) (lines_from bytes t k) (thread_lines bytes t)

pub walk_start : {bytes xs : List ℕ} {t : ℕ} {before : List ℕ} {start : ℕ} {counts : List (List ℕ)} {k : ℕ} → Accepted bytes
    → ThreadToWrite bytes xs t start before counts → k ≡ first_record bytes t → Walk bytes xs t before start counts before start (replicate local_count 0) counts k
walk_start {bytes} {xs} {t} ok ready e = record {
  thread = ready.thread;
  within = rw e (ok.firsts t ready.thread);
  earlier = [];
  held = locals_start (case_of bytes) xs;
  writing = writing_start (ap (values_from bytes xs t []) e);
  counting = rw e (counting_lines_start ready.rows ready.fresh (record_block xs) (thread_lines bytes t));
}

-- One number, as the code writes it.
pub put_one : (v : ℕ) (out : List ℕ) (at r : ℕ) → r ≡ v → Put (v ∷ []) out at (set out at r) (at + 1)
put_one v out at r e = rw (← e) put_single

-- A line's value where it was run and its guard is true, whichever is asked first.
guarded_value : (run on : Bool) (value : ℕ) → cond (run && on) value 0 ≡ cond on (cond run value 0) 0
guarded_value true on value = refl
guarded_value false true value = refl
guarded_value false false value = refl

-- The numbers of record k, and then those of the records after it.
own_and_rest : (bytes xs : List ℕ) → Accepted bytes → (t k : ℕ) → k ≢ 0 → k ≤ records bytes → (locals : List ℕ) (earlier : List Line)
    → LocalsAre (case_of bytes) xs locals earlier → (l : Record) → l ≡ record_of bytes t k → (given : ℕ) → given ≡ run_value bytes (record_block xs k) (record_value xs k)
    → values_from bytes xs t earlier k ≡ own_numbers l locals given ++ values_from bytes xs t (line_of bytes t k ∷ earlier) (next_record bytes k)
unfolding decoded_values own_numbers input_number assignment_of guard_true guard_name
own_and_rest bytes xs ok t k low high locals earlier are l el given eg =
    rw (lines_more bytes ok t k low high, el, eg) (go (is_input (line_of bytes t k).kind))
  where
    rest : List ℕ
    rest = values_from bytes xs t (line_of bytes t k ∷ earlier) (next_record bytes k)

    run : Bool
    run = was_run (case_of bytes) (record_block xs k)

    value : ℕ
    value = run_value bytes (record_block xs k) (record_value xs k)

    go : (q : Bool)
        → cond q (cond (run && guard_true (line_of bytes t k) (reads_after (case_of bytes) (assignment_of (case_of bytes) xs) earlier (line_of bytes t k))) (record_value xs k) 0 ∷ rest) rest
        ≡ cond q (input_number (record_of bytes t k) locals value ∷ []) [] ++ rest
    go true =
        ap (λ (x : ℕ). x ∷ rest)
        (guarded_value run _ (record_value xs k)
        ∙ ap (λ (on : Bool). cond on value 0) (sym (guard_same (case_of bytes) xs (omega (arith, ok.few_globals, ok.few_mutexes)) locals earlier are (line_of bytes t k))))
    go false = refl

module _ {bytes xs : List ℕ} (ok : Accepted bytes) {t : ℕ} {before : List ℕ} {start : ℕ} {counts₀ : List (List ℕ)} {out : List ℕ} {at : ℕ} {locals : List ℕ} {counts : List (List ℕ)} {k : ℕ}
    (v : Walk bytes xs t before start counts₀ out at locals counts k) where
  few : t < most_threads
  few = omega (arith, v.thread, ok.few_threads)

  pub walk_few : (block : ℕ) → FewCounted counts t block
  walk_few block = record {
    thread = few;
    few = omega (arith, counting_lines_few v.counting block, few_lines_from bytes ok t (first_record bytes t) (ok.firsts t v.thread));
  }

  pub walk_end : k ≡ 0 → ThreadWritten bytes xs t start before out counts₀ counts at
  unfolding decoded_values
  walk_end e = record {
    values = writing_end v.writing (rw (lines_end bytes t k e));
    rows = v.counting.rows;
    own = counting_lines_end (rw (lines_end bytes t k e) at v.counting);
    others = v.counting.others;
  }

  module _ (low : k ≢ 0) where
    pub walk_less : {next : ℕ} → next ≡ next_record bytes k → length (lines_from bytes t next) < length (lines_from bytes t k)
    walk_less {next} e = lines_less bytes ok t k low v.within next e

    module _ {l : Record} {block value given : ℕ} (el : l ≡ record_of bytes t k) (eb : block ≡ record_block xs k) (ev : value ≡ record_value xs k) (er : given ≡ run_value bytes block value) where
      go_on : values_from bytes xs t v.earlier k ≡ own_numbers l locals given ++ values_from bytes xs t (line_of bytes t k ∷ v.earlier) (next_record bytes k)
      go_on = own_and_rest bytes xs ok t k low v.within locals v.earlier v.held l el given (er ∙ ap₂ (run_value bytes) eb ev)

      pub walk_room : start + length (thread_inputs bytes xs t) ≤ length before → at + length (own_numbers l locals given) ≤ length out
      walk_room room = writing_room v.writing (own_numbers l locals given) (values_from bytes xs t (line_of bytes t k ∷ v.earlier) (next_record bytes k)) go_on room

      pub walk_more : {out' : List ℕ} {at' : ℕ} {locals' : List ℕ} {counts' : List (List ℕ)} {globals name next : ℕ} → Put (own_numbers l locals given) out at out' at'
          → globals ≡ global_count bytes → ((j : ℕ) → name ≡ target_name globals (as_line l j)) → locals' ≡ put_local true name value locals
          → counts' ≡ with_line counts t block → next ≡ next_record bytes k → Walk bytes xs t before start counts₀ out' at' locals' counts' next
      walk_more put eg en elocals ecounts ek = record {
        thread = v.thread;
        within = rw ek (next_low bytes ok t k low v.within);
        earlier = line_of bytes t k ∷ v.earlier;
        held = rw (elocals, en k, eg, el, ev) (locals_step (case_of bytes) xs locals v.earlier v.held (line_of bytes t k) (omega arith));
        writing = rw ek (writing_more v.writing go_on put);
        counting = rw (ecounts, eb, ek) (counting_lines_more few (rw (lines_more bytes ok t k low v.within) at v.counting));
      }

-- Before thread t: the slice and the place so far, and the counts of the threads before it; the slice and the place at the start.
pub record Threads (bytes xs before : List ℕ) (start : ℕ) (out : List ℕ) (at : ℕ) (counts : List (List ℕ)) (t : ℕ) : Type 0 where
  pub writing : Writing (values_of bytes xs) before start out at (threads_from bytes xs t)
  pub rows : length counts ≡ most_threads
  pub counted : (u : ℕ) → u < t → CountsOf bytes xs u (get_or counts u [])
  pub fresh : (u : ℕ) → t ≤ u → u < most_threads → get_or counts u [] ≡ replicate most_blocks 0

pub threads_start : {bytes xs before : List ℕ} {start : ℕ} → Threads bytes xs before start before start (replicate most_threads (replicate most_blocks 0)) 0
threads_start {bytes} =
    let all : thread_count bytes - 0 ≡ thread_count bytes = omega arith in
    record {
      writing = writing_start (rw all);
      rows = refl;
      counted = λ u under. absurd (omega arith);
      fresh = λ u from under. get_or-replicate most_threads u (replicate most_blocks 0) [] under;
    }

module _ {bytes xs before : List ℕ} {start : ℕ} {out : List ℕ} {at : ℕ} {counts : List (List ℕ)} {t : ℕ} (v : Threads bytes xs before start out at counts t) where
  module _ (h : t < thread_count bytes) where
    threads_go_on : threads_from bytes xs t ≡ thread_inputs bytes xs t ++ threads_from bytes xs (t + 1)
    unfolding all_decoded_values
    threads_go_on = rw (chains_more bytes t (thread_count bytes) h)

    pub threads_next : Accepted bytes → start + length (values_of bytes xs) ≤ length before → ThreadToWrite bytes xs t at out counts
    threads_next ok room = record {
      thread = h;
      room = writing_room v.writing (thread_inputs bytes xs t) (threads_from bytes xs (t + 1)) threads_go_on room;
      rows = v.rows;
      fresh = v.fresh t (omega arith) (omega (arith, ok.few_threads));
    }

    pub threads_more : {out' : List ℕ} {counts' : List (List ℕ)} {r : ℕ} → ThreadWritten bytes xs t at out out' counts counts' r
        → Threads bytes xs before start out' r counts' (t + 1)
    threads_more {counts' = counts'} written = record {
      writing = writing_more v.writing threads_go_on written.values;
      rows = written.rows;
      counted = λ u under. row u under (eq_view t u);
      fresh = λ u from under. written.others u (λ z. omega arith) ∙ v.fresh u (omega arith) under;
    }
      where
        row : (u : ℕ) → u < t + 1 → EqView t u → CountsOf bytes xs u (get_or counts' u [])
        row u under (same e s) = rw (← e) written.own
        row u under (diff n s) = rw (written.others u (λ z. n (sym z))) (v.counted u (omega arith))

  pub threads_end : thread_count bytes ≤ t → AllWritten bytes xs before start out counts
  unfolding all_decoded_values
  threads_end h = record { values = (writing_end v.writing (rw (chains_end bytes t (thread_count bytes) h))).slice; counts = λ u under. v.counted u (omega arith) }
