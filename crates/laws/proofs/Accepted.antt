-- A case that none of checks 1 to 9 refuses has everything that the record Accepted lists.
-- Assumes nothing. Met again in every call that goes on after check 9, and in correspondence's Demand3.
use Rattle.std.specs.Prelude.{Ok, Err}
use mathlib.Core.Path.{◌≡◌}
use Prim.Native.Nat.{ℕ, ◌-◌, ◌%◌, ◌≤◌, ◌<◌}
use mathlib.Core.Bool.{Bool, true}
use mathlib.Core.List.{List, []}
use native.Mathlib.Omega.{arith}
use borrow.Author.Tests.{leb-true, eqb-true}
use lib.Dec.{leb, eqb}
use lib.ListN.{get_or, length}
use Rattle.model.specs.Limits.{least_threads, most_threads, most_switches, most_globals, most_mutexes, most_lines, most_records, header_bytes, record_bytes}
use Rattle.model.specs.Lists.{all_from, unless}
use Rattle.model.specs.CaseFile.{records, thread_count, switch_count, global_count, mutex_count, first_record, next_record, chains}
use Rattle.model.specs.Accept.{size_ok, threads_ok, switches_ok, items_ok, absent_ok, links_ok, reached_ok, lengths_ok, times_reached, rule_ok, broken_record, verdict}
use Rattle.model.specs.declared.Refusal.{Refusal}
use Rattle.model.specs.Refusals.{Verdict}
use Rattle.laws.specs.Sized.{Sized}
use Rattle.laws.specs.Accepted.{Accepted}
use Rattle.laws.proofs.Views.{and-true}
use Rattle.laws.proofs.OnCase.{Passed, past_unless}
use Rattle.laws.proofs.Ranges.{all_from_gives, none_failing_gives}
use Rattle.laws.proofs.Reached.{chains_go_on}

-- The test and what follows it, where the answer is no refusal.
passes : (test : Bool) (next : Verdict) (e : Refusal) → unless test (Err e) next ≡ Ok tt → Passed (test ≡ true) (next ≡ Ok tt)
passes test next e = past_unless (λ v. v ≡ Ok tt) test _ next (λ e'. let z : ◌≡◌ {A = ℕ} 0 1 = cc in omega arith)

module _ (bytes : List ℕ) where
  abbrev first_ok : ℕ → Bool
  first_ok t = leb (first_record bytes t) (records bytes)

  abbrev next_ok : ℕ → Bool
  next_ok k = leb (next_record bytes k) (records bytes)

  abbrev once_ok : ℕ → Bool
  once_ok k = leb (times_reached bytes k) 1

-- What the checks say, with the refusals taken apart, and 6 in its parts.
record Checked (bytes : List ℕ) : Type 0 where
  size : size_ok bytes ≡ true
  threads : threads_ok bytes ≡ true
  switches : switches_ok bytes ≡ true
  items : items_ok bytes ≡ true
  firsts : all_from (first_ok bytes) 0 (thread_count bytes) ≡ true
  nexts : all_from (next_ok bytes) 1 (records bytes) ≡ true
  once : all_from (once_ok bytes) 1 (records bytes) ≡ true
  reached : reached_ok bytes ≡ true
  lengths : lengths_ok bytes ≡ true
  rules : broken_record bytes ≡ 0

checked_of : (bytes : List ℕ) → verdict bytes ≡ Ok tt → Checked bytes
unfolding verdict
checked_of bytes e =
    let one = passes (size_ok bytes) _ _ e in
    let two = passes (threads_ok bytes) _ _ one.later in
    let three = passes (switches_ok bytes) _ _ two.later in
    let four = passes (items_ok bytes) _ _ three.later in
    let five = passes (absent_ok bytes) _ _ four.later in
    let six = passes (links_ok bytes) _ _ five.later in
    let links = and-true (all_from (first_ok bytes) 0 (thread_count bytes)) _ six.here in
    let later = and-true (all_from (next_ok bytes) 1 (records bytes)) _ links.rest in
    let seven = passes (reached_ok bytes) _ _ six.later in
    let eight = passes (lengths_ok bytes) _ _ seven.later in
    let nine = passes (eqb (broken_record bytes) 0) _ _ eight.later in
    record {
      size = one.here;
      threads = two.here;
      switches = three.here;
      items = four.here;
      firsts = links.first;
      nexts = later.first;
      once = later.rest;
      reached = seven.here;
      lengths = eight.here;
      rules = eqb-true (broken_record bytes) 0 nine.here;
    }

-- What 1 says, and half of 2.
pub sized_of : (bytes : List ℕ) → size_ok bytes ≡ true → Sized bytes
sized_of bytes e =
    let whole = and-true (leb header_bytes (length bytes)) _ e in
    let tests = and-true (eqb ((length bytes - header_bytes) % record_bytes) 0) _ whole.rest in
    record {
      size = omega (arith, leb-true header_bytes (length bytes) whole.first, eqb-true ((length bytes - header_bytes) % record_bytes) 0 tests.first);
      few_records = leb-true (records bytes) most_records tests.rest;
    }

pub few_threads_of : (bytes : List ℕ) → threads_ok bytes ≡ true → thread_count bytes ≤ most_threads
few_threads_of bytes e = leb-true (thread_count bytes) most_threads (and-true (leb least_threads (thread_count bytes)) _ e).rest

module _ (bytes : List ℕ) (checks : Checked bytes) where
  each_record : (test : ℕ → Bool) → all_from test 1 (records bytes) ≡ true → (k : ℕ) → 0 < k → k ≤ records bytes → test k ≡ true
  each_record test e k low high = all_from_gives test 1 (records bytes) e k low (omega (arith, high))

  each_thread : (test : ℕ → Bool) → all_from test 0 (thread_count bytes) ≡ true → (t : ℕ) → t < thread_count bytes → test t ≡ true
  each_thread test e t h = all_from_gives test 0 (thread_count bytes) e t (omega arith) (omega (arith, h))

  first_links : (t : ℕ) → t < thread_count bytes → first_record bytes t ≤ records bytes
  first_links t h = leb-true (first_record bytes t) (records bytes) (each_thread (first_ok bytes) checks.firsts t h)

  next_links : (k : ℕ) → 0 < k → k ≤ records bytes → next_record bytes k ≤ records bytes
  next_links k low high = leb-true (next_record bytes k) (records bytes) (each_record (next_ok bytes) checks.nexts k low high)

  reached_just_once : (k : ℕ) → 0 < k → k ≤ records bytes → times_reached bytes k ≡ 1
  reached_just_once k low high =
      omega (
        arith,
        leb-true (times_reached bytes k) 1 (each_record (once_ok bytes) checks.once k low high),
        leb-true 1 (times_reached bytes k) (each_record (λ j. leb 1 (times_reached bytes j)) checks.reached k low high),
      )

  accepted : Accepted bytes
  accepted = record {
    size = (sized_of bytes checks.size).size;
    few_records = (sized_of bytes checks.size).few_records;
    some_threads = leb-true least_threads (thread_count bytes) (and-true _ _ checks.threads).first;
    few_threads = few_threads_of bytes checks.threads;
    few_switches = leb-true (switch_count bytes) most_switches checks.switches;
    few_globals = leb-true (global_count bytes) most_globals (and-true _ _ checks.items).first;
    few_mutexes = leb-true (mutex_count bytes) most_mutexes (and-true (leb (global_count bytes) most_globals) _ checks.items).rest;
    firsts = first_links;
    nexts = next_links;
    reached_once = reached_just_once;
    few_lines_lem = λ t h. leb-true _ most_lines
        (each_thread (λ u. leb (length (get_or (chains bytes 0 (thread_count bytes)) u [])) most_lines) checks.lengths t h);
    rules = λ k low high. none_failing_gives (rule_ok bytes) 1 (records bytes) (omega arith) checks.rules k low (omega (arith, high));
    lines_go_on = chains_go_on bytes first_links next_links reached_just_once;
  }

pub accepted_of : (bytes : List ℕ) → verdict bytes ≡ Ok tt → Accepted bytes
accepted_of bytes e = accepted bytes (checked_of bytes e)
