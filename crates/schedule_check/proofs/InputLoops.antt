-- The loops that put a schedule's values in their places: what is left decides.
-- Assumes nothing.
use mathlib.Core.Path.{◌≡◌, refl, sym, ap, ◌∙◌}
use Prim.Native.Nat.{ℕ, suc, ◌+◌, ◌-◌, ◌*◌, ◌≤◌, ◌<◌}
use mathlib.Core.Bool.{Bool, true, false}
use mathlib.Core.List.{List, [], ◌∷◌}
use native.Mathlib.Omega.{arith}
use lib.ListN.{length, get_or, set, replicate, length-set}
use lib.Seq.{get_or-set_same, get_or-set_other}
use Rattle.model.specs.Limits.{most_threads, most_lines}
use Rattle.model.specs.CaseFile.{Line, records, thread_count, first_record, next_record, record_field, line_of, kind_of, chains, case_of, lines_of}
use Rattle.model.specs.declared.Kind.{Kind}
use Rattle.model.specs.declared.Kind.TheVariants.{Compute, Store, Load, Input, Assert, Assume, Lock, Unlock}
use Rattle.model.specs.Line.{is_input}
use Rattle.laws.specs.Accepted.{Accepted, thread_lines, lines_from}
use Rattle.laws.proofs.Chains.{threads_are, lines_from_end}
use Rattle.laws.proofs.Views.{EqView, same, diff, eq_view}
use Rattle.laws.proofs.Lines.{few_lines_from}
use Rattle.schedule_check.specs.InputValues.{Inputs, put_next, put_lines, put_threads, ThreadPut, AllPut}
use Rattle.schedule_check.specs.Ready.{InputsReady}

not_input : (kind : Kind) → (kind ≡ Input → ⊥) → is_input kind ≡ false
not_input Compute other = refl
not_input Store other = refl
not_input Load other = refl
not_input Input other = absurd (other refl)
not_input Assert other = refl
not_input Assume other = refl
not_input Lock other = refl
not_input Unlock other = refl

module _ (schedule : List ℕ) (kind : Kind) (k : ℕ) (f f' : Inputs) where
  pub next_is_input : (v : ℕ) → kind ≡ Input → v ≡ get_or schedule f.used 0 → f'.given ≡ set f.given k v → f'.used ≡ f.used + 1
      → f' ≡ put_next schedule (is_input kind) k f
  unfolding put_next
  next_is_input v e is is-given is-used =
      let put : f' ≡ record { given = set f.given k v; used = f.used + 1 } = λ i. record { given = is-given i; used = is-used i } in
      put ∙ rw (e, is)

  pub next_is_other : (kind ≡ Input → ⊥) → f'.given ≡ f.given → f'.used ≡ f.used → f' ≡ put_next schedule (is_input kind) k f
  unfolding put_next
  next_is_other other is-given is-used =
      let stays : f' ≡ f = λ i. record { given = is-given i; used = is-used i } in stays ∙ rw (not_input kind other)

next_used : (schedule : List ℕ) (is : Bool) (k : ℕ) (f : Inputs) → (put_next schedule is k f).used ≤ f.used + 1
unfolding put_next
next_used schedule true k f = omega arith
next_used schedule false k f = omega arith

lines_used : (schedule : List ℕ) (ls : List Line) (f : Inputs) → (put_lines schedule ls f).used ≤ f.used + length ls
unfolding put_lines
lines_used schedule [] f = omega arith
lines_used schedule (l ∷ ls) f =
    omega (arith, lines_used schedule ls (put_next schedule (is_input l.kind) l.number f), next_used schedule (is_input l.kind) l.number f)

-- Within thread t, at record k.
pub record Putting (bytes schedule : List ℕ) (t : ℕ) (f₀ : Inputs) (k : ℕ) (f : Inputs) (lines : ℕ) : Type 0 where
  pub inside : k ≤ records bytes
  pub does : put_lines schedule (lines_from bytes t k) f ≡ put_lines schedule (thread_lines bytes t) f₀
  pub fits : f.used + length (lines_from bytes t k) ≤ f₀.used + most_lines
  pub counted : lines + length (lines_from bytes t k) ≡ length (thread_lines bytes t)

module _ {bytes : List ℕ} {t start : ℕ} (ok : Accepted bytes) (ready : InputsReady bytes t start) (schedule : List ℕ) (f₀ : Inputs) where
  few : length (thread_lines bytes t) ≤ most_lines
  few = few_lines_from bytes ok t (first_record bytes t) (ok.firsts t ready.thread)

  pub putting_start : {first : ℕ} → first ≡ first_record bytes t → Putting bytes schedule t f₀ first f₀ 0
  putting_start e = rw e (record { inside = ok.firsts t ready.thread; does = refl; fits = omega (arith, few); counted = omega arith })

  module _ {k : ℕ} {f : Inputs} {lines : ℕ} (p : Putting bytes schedule t f₀ k f lines) where
    pub putting_few : lines ≤ most_lines
    putting_few = omega (arith, few)

    pub putting_end : k ≡ 0 → ThreadPut bytes schedule t f₀ f lines
    unfolding put_lines
    putting_end e =
        let none : lines_from bytes t k ≡ [] = ap (lines_from bytes t) e ∙ lines_from_end bytes t in
        record { values = sym (ap (λ (ls : List Line). put_lines schedule ls f) none) ∙ p.does; counted = omega (arith, p.counted, ap length none) }

    module _ (some : k ≡ 0 → ⊥) {next : ℕ} (is_next : next ≡ next_record bytes k) where
      lines_are : lines_from bytes t k ≡ line_of bytes t k ∷ lines_from bytes t (next_record bytes k)
      lines_are = ok.lines_go_on t k (omega arith) p.inside

      pub fewer_lines : length (lines_from bytes t next) < length (lines_from bytes t k)
      fewer_lines = rw is_next (omega (arith, ap length lines_are))

      pub putting_more : {kind : Kind} {f' : Inputs} → kind ≡ kind_of (record_field bytes k 1) → f' ≡ put_next schedule (is_input kind) k f
          → Putting bytes schedule t f₀ next f' (lines + 1)
      unfolding put_lines
      putting_more {kind} {f'} is_kind is-f' =
          let is : f' ≡ put_next schedule (is_input (line_of bytes t k).kind) k f = rw is_kind at is-f' in
          rw is_next (record {
            inside = ok.nexts k (omega arith) p.inside;
            does = ap (put_lines schedule (lines_from bytes t (next_record bytes k))) is
                ∙ sym (ap (λ (ls : List Line). put_lines schedule ls f) lines_are) ∙ p.does;
            fits = omega (arith, p.fits, ap length lines_are, ap (λ (x : Inputs). x.used) is, next_used schedule (is_input (line_of bytes t k).kind) k f);
            counted = omega (arith, p.counted, ap length lines_are);
          })

-- At thread t, with so many threads left.
pub record Spreading (bytes schedule : List ℕ) (f₀ : Inputs) (t : ℕ) (f : Inputs) (lines : List ℕ) : Type 0 where
  pub does : put_threads schedule (chains bytes t (thread_count bytes - t)) f ≡ put_threads schedule (case_of bytes).threads f₀
  pub fits : f.used ≤ f₀.used + most_lines * t
  pub has_all : length lines ≡ most_threads
  pub counted : (u : ℕ) → u < t → get_or lines u 0 ≡ length (lines_of (case_of bytes) u)

module _ (bytes schedule : List ℕ) (f₀ : Inputs) (ok : Accepted bytes) where
  pub spreading_start : Spreading bytes schedule f₀ 0 f₀ (replicate most_threads 0)
  spreading_start =
      let all : thread_count bytes - 0 ≡ thread_count bytes = omega arith in
      record {
        does = ap (λ (x : ℕ). put_threads schedule (chains bytes 0 x) f₀) all;
        fits = omega arith;
        has_all = refl;
        counted = λ u h. absurd (omega arith);
      }

  module _ (t : ℕ) (f : Inputs) (lines : List ℕ) (s : Spreading bytes schedule f₀ t f lines) where
    pub spreading_end : thread_count bytes ≤ t → AllPut bytes schedule f₀ f lines
    unfolding put_threads chains
    spreading_end over =
        let none : thread_count bytes - t ≡ 0 = omega arith in
        record { values = sym (ap (λ (x : ℕ). put_threads schedule (chains bytes t x) f) none) ∙ s.does; counted = λ u h. s.counted u (omega arith) }

    pub spreading_more : (f' : Inputs) (many : ℕ) → t < thread_count bytes → ThreadPut bytes schedule t f f' many
        → Spreading bytes schedule f₀ (t + 1) f' (set lines t many)
    unfolding put_threads chains
    spreading_more f' many more put =
        let less : thread_count bytes - t ≡ suc (thread_count bytes - suc t) = omega arith in
        let next : t + 1 ≡ suc t = omega arith in
        record {
          does = rw next (ap (put_threads schedule (chains bytes (suc t) (thread_count bytes - suc t))) put.values
              ∙ sym (ap (λ (x : ℕ). put_threads schedule (chains bytes t x) f) less) ∙ s.does);
          fits = omega (
            arith,
            s.fits,
            ap (λ (x : Inputs). x.used) put.values,
            lines_used schedule (thread_lines bytes t) f,
            few_lines_from bytes ok t (first_record bytes t) (ok.firsts t more),
          );
          has_all = length-set lines t many ∙ s.has_all;
          counted = λ u h. count u h (eq_view u t);
        }
      where
        count : (u : ℕ) → u < t + 1 → EqView u t → get_or (set lines t many) u 0 ≡ length (lines_of (case_of bytes) u)
        count u h (same e q) =
            ap (λ (x : ℕ). get_or (set lines t many) x 0) e ∙ get_or-set_same lines t many 0 (omega (arith, s.has_all, ok.few_threads))
            ∙ put.counted ∙ sym (ap length (threads_are bytes t more)) ∙ ap (λ (x : ℕ). length (lines_of (case_of bytes) x)) (sym e)
        count u h (diff e q) = get_or-set_other lines t u many 0 e ∙ s.counted u (omega arith)
