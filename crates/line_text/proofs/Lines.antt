-- The assertions of a line, by its kind and its guard, as text. Assumes nothing. Met again in the proofs of this crate's functions.
use mathlib.Core.Path.{◌≡◌, refl}
use mathlib.Core.Logic.{◌≢◌, ◌⊎◌, inl, inr}
use Prim.Native.Nat.{ℕ, ◌+◌, ◌-◌, ◌*◌}
use mathlib.Core.List.{List}
use borrow.Author.Tests.{eq-eqb, ne_eqb}
use Rattle.model.specs.CaseFile.{Line, Case, line_at}
use Rattle.model.specs.declared.Kind.{Kind}
use Rattle.model.specs.declared.Kind.TheVariants.{Compute, Store, Load, Input, Assert, Assume, Lock, Unlock}
use Rattle.model.specs.Line.{operand_a, target_name, holder, unrun_value}
use Rattle.smt.specs.Term.{Term, variable, constant}
use Rattle.smt.specs.Spelling.{ascii, formula_text}
use Rattle.script.specs.Assertions.{equal, operand, is_expression, is_truth, read_name, guard_true, guarded_in, guarded_out, not_run, line_assertion, value_assertion, mutex_reads, demand_assertion}
use Rattle.spell.specs.declared.Writer.{Writer}
use Rattle.spell.specs.Spelt.{Puts}
use Rattle.spell.proofs.Spelling.{puts_then, puts_as}

-- A guard that is true.
module _ (case : Case) (sources : List ℕ) (l : Line) (a b : ℕ) {kind : Kind} {v : ℕ} (z : v ≡ 2 * (l.number - 1) + 1) {d e : Writer} where
  module _ {x y : Term} (p : x ≡ operand l.a l.c a) (q : y ≡ operand l.b l.c b) where
    pub in_expression : (kind ≡ Compute) ⊎ (kind ≡ Store) → Puts (formula_text (is_expression sources (variable v) l.op x y)) d e
        → Puts (formula_text (guarded_in kind case sources l a b)) d e
    unfolding guarded_in
    in_expression (inl i) put = puts_as (rw (i, z, p, q)) put
    in_expression (inr i) put = puts_as (rw (i, z, p, q)) put

    pub in_truth : (kind ≡ Assert) ⊎ (kind ≡ Assume) → Puts (formula_text (is_truth sources (variable v) l.op x y)) d e
        → Puts (formula_text (guarded_in kind case sources l a b)) d e
    unfolding guarded_in
    in_truth (inl i) put = puts_as (rw (i, z, p, q)) put
    in_truth (inr i) put = puts_as (rw (i, z, p, q)) put

  pub in_load : kind ≡ Load → {name : ℕ} → name ≡ operand_a l → Puts (formula_text (read_name case sources (variable v) l name a)) d e → Puts (formula_text (guarded_in kind case sources l a b)) d e
  unfolding guarded_in
  in_load i n put = puts_as (rw (i, z, n)) put

  pub in_input : kind ≡ Input → Puts (ascii "true") d e → Puts (formula_text (guarded_in kind case sources l a b)) d e
  unfolding guarded_in formula_text
  in_input i put = puts_as (rw i) put

  pub in_lock : kind ≡ Lock → {x : ℕ} → x ≡ holder l → Puts (formula_text (equal (variable v) (constant x))) d e → Puts (formula_text (guarded_in kind case sources l a b)) d e
  unfolding guarded_in
  in_lock i h put = puts_as (rw (i, z, h)) put

  pub in_unlock : kind ≡ Unlock → Puts (formula_text (equal (variable v) (constant 0))) d e → Puts (formula_text (guarded_in kind case sources l a b)) d e
  unfolding guarded_in
  in_unlock i put = puts_as (rw (i, z)) put

-- A guard that is false.
module _ (case : Case) (sources : List ℕ) (l : Line) (target : ℕ) {v : ℕ} (z : v ≡ 2 * (l.number - 1) + 1) {d e : Writer} where
  pub out_truth : {kind : Kind} → (kind ≡ Assert) ⊎ (kind ≡ Assume) → Puts (formula_text (equal (variable v) (constant 1))) d e
      → Puts (formula_text (guarded_out kind case sources l target)) d e
  unfolding guarded_out
  out_truth (inl i) put = puts_as (rw (i, z)) put
  out_truth (inr i) put = puts_as (rw (i, z)) put

  pub out_other : (kind : Kind) → kind ≢ Assert → kind ≢ Assume → {G name : ℕ} → G ≡ case.G → name ≡ target_name G l
      → Puts (formula_text (read_name case sources (variable v) l name target)) d e → Puts (formula_text (guarded_out kind case sources l target)) d e
  unfolding guarded_out
  out_other Compute x y g i put = puts_as (rw (i, g, z)) put
  out_other Store x y g i put = puts_as (rw (i, g, z)) put
  out_other Load x y g i put = puts_as (rw (i, g, z)) put
  out_other Input x y g i put = puts_as (rw (i, g, z)) put
  out_other Assert x y g i put = absurd (x refl)
  out_other Assume x y g i put = absurd (y refl)
  out_other Lock x y g i put = puts_as (rw (i, g, z)) put
  out_other Unlock x y g i put = puts_as (rw (i, g, z)) put

-- The whole line.
module _ (case : Case) (sources : List ℕ) (l : Line) (guard a b target : ℕ) where
  pub line_plain : l.guard ≡ 0 → {d e : Writer} → Puts (formula_text (guarded_in l.kind case sources l a b)) d e
      → Puts (formula_text (line_assertion case sources l guard a b target)) d e
  unfolding line_assertion
  line_plain i put = rw (eq-eqb l.guard 0 i) put

  pub line_guarded : l.guard ≢ 0 → {d e f h m n o x : Writer} → Puts (ascii "(ite ") d e → Puts (formula_text (guard_true l guard)) e f
      → Puts (ascii " ") f h → Puts (formula_text (guarded_in l.kind case sources l a b)) h m → Puts (ascii " ") m n
      → Puts (formula_text (guarded_out l.kind case sources l target)) n o → Puts (ascii ")") o x
      → Puts (formula_text (line_assertion case sources l guard a b target)) d x
  unfolding line_assertion formula_text
  line_guarded k word asked blank here behind there close =
      rw (ne_eqb l.guard 0 k)
      (puts_then word (puts_then asked (puts_then blank (puts_then here (puts_then behind (puts_then there close))))))

-- A 4, and the demand of a 5, of the line that its number finds.
module _ (case : Case) (sources : List ℕ) {l : Line} (k : ℕ) (found : l ≡ line_at case k) where
  pub four_spelt : (guard a b target : ℕ) {v unrun : ℕ} → v ≡ 2 * (k - 1) + 1 → unrun ≡ unrun_value l.kind → {d e f h m n o x : Writer}
      → Puts (ascii "(ite ") d e → Puts (formula_text (not_run case k)) e f → Puts (ascii " ") f h
      → Puts (formula_text (equal (variable v) (constant unrun))) h m → Puts (ascii " ") m n
      → Puts (formula_text (line_assertion case sources l guard a b target)) n o → Puts (ascii ")") o x
      → Puts (formula_text (value_assertion case sources k guard a b target)) d x
  unfolding value_assertion formula_text
  four_spelt guard a b target z u word asked blank fixed behind own close =
      rw (← found)
      (puts_then word (puts_then asked (puts_then blank (puts_then (rw (z, u) at fixed) (puts_then behind (puts_then own close))))))

  pub demand_found : (guard target : ℕ) {d e : Writer} → Puts (formula_text (demand_assertion l.kind case sources l guard target)) d e
      → Puts (formula_text (demand_assertion (line_at case k).kind case sources (line_at case k) guard target)) d e
  demand_found guard target put = rw (← found) put

-- What a line reads of its mutex.
module _ (case : Case) (sources : List ℕ) (x : Term) (l : Line) (guard target : ℕ) {G name : ℕ} (g : G ≡ case.G) (y : name ≡ target_name G l) where
  pub reads_plain : l.guard ≡ 0 → {d e : Writer} → Puts (formula_text (read_name case sources x l name target)) d e
      → Puts (formula_text (mutex_reads case sources x l guard target)) d e
  unfolding mutex_reads
  reads_plain i put = puts_as (rw (eq-eqb l.guard 0 i, y, g)) put

  pub reads_guarded : l.guard ≢ 0 → {d e f h m n : Writer} → Puts (ascii "(=> ") d e → Puts (formula_text (guard_true l guard)) e f
      → Puts (ascii " ") f h → Puts (formula_text (read_name case sources x l name target)) h m → Puts (ascii ")") m n
      → Puts (formula_text (mutex_reads case sources x l guard target)) d n
  unfolding mutex_reads formula_text
  reads_guarded k word asked blank here close =
      puts_as (rw (ne_eqb l.guard 0 k, y, g)) (puts_then word (puts_then asked (puts_then blank (puts_then here close))))
