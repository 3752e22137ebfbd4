-- What a line of each kind does, by its guard.
-- Assumes nothing.
use mathlib.Core.Path.{◌≡◌, refl, sym, ap, ◌∙◌}
use Prim.Native.Nat.{ℕ}
use mathlib.Core.Bool.{Bool, true, false, cond}
use lib.Dec.{eqb}
use Rattle.model.specs.Word.{nonzero}
use Rattle.model.specs.CaseFile.{Line}
use Rattle.model.specs.declared.Kind.{Kind}
use Rattle.model.specs.declared.Kind.TheVariants.{Compute, Store, Load, Input, Assert, Assume, Lock, Unlock}
use Rattle.model.specs.Line.{Reads, no_name, name_of_target, guard_true, expression, guarded_in_value, guarded_out_value, value_by, value_of, stops, breaks, is_input, stray_input, unrun_stray}
use Rattle.laws.proofs.Views.{and_false}
use Rattle.laws.proofs.Breaking.{out_breaks_nothing}
use Rattle.turn.specs.declared.Effect.TheVariants.{Strays, Stops, Writes}
use Rattle.turn.specs.Promises.{effect_of}

module _ (G : ℕ) (l : Line) (reads : Reads) where
  -- its guard is true, and its kind is κ
  module _ (on : guard_true l reads ≡ true) (κ : Kind) (kind : l.kind ≡ κ) (name value : ℕ) where
    stays_in : stray_input l.kind l reads ≡ false
    unfolding stray_input
    stays_in = rw on (and_false (is_input l.kind))

    pub in_writes : (broken : Bool) → stops κ l reads ≡ false → name ≡ name_of_target G κ l.target → value ≡ guarded_in_value κ l reads
        → broken ≡ breaks true κ l reads value → Writes name value broken ≡ effect_of G l reads
    unfolding value_by
    in_writes broken goes' name' value' breaks' =
        let stays = stays_in in
        let goes : stops l.kind l reads ≡ false = ap (λ (x : Kind). stops x l reads) kind ∙ goes' in
        let value'' : value ≡ guarded_in_value l.kind l reads = value' ∙ ap (λ (x : Kind). guarded_in_value x l reads) (sym kind) in
        let name'' : name ≡ name_of_target G l.kind l.target = name' ∙ ap (λ (x : Kind). name_of_target G x l.target) (sym kind) in
        let breaks'' : broken ≡ breaks true l.kind l reads (guarded_in_value l.kind l reads) = breaks' ∙ (λ i. breaks true (sym kind i) l reads (value'' i)) in
        rw (stays, goes, on) (λ i. Writes (name'' i) (value'' i) (breaks'' i))

    pub in_ends : (stop : Bool) → stop ≡ stops κ l reads → name ≡ name_of_target G κ l.target → (stop ≡ false → value ≡ guarded_in_value κ l reads)
        → false ≡ breaks true κ l reads value → cond stop Stops (Writes name value false) ≡ effect_of G l reads
    in_ends true stops' name' value' breaks' =
        let stays = stays_in in
        let ends : stops l.kind l reads ≡ true = ap (λ (x : Kind). stops x l reads) kind ∙ sym stops' in
        rw (stays, ends)
    in_ends false stops' name' value' breaks' = in_writes false (sym stops') name' (value' refl) breaks'

  -- its guard is false
  module _ (off : guard_true l reads ≡ false) where
    out_goes : (κ : Kind) → stops κ l reads ≡ false
    unfolding stops
    out_goes Compute = refl
    out_goes Store = refl
    out_goes Load = refl
    out_goes Input = refl
    out_goes Assert = refl
    out_goes Assume = rw off
    out_goes Lock = rw off
    out_goes Unlock = refl

    out_sound : (κ : Kind) → breaks true κ l reads (value_by κ l reads) ≡ false
    unfolding value_by
    out_sound κ = rw off (out_breaks_nothing true κ l reads off)

    pub out_does : (stray : Bool) → stray ≡ unrun_stray l.kind reads.given → cond stray Strays (Writes no_name 0 false) ≡ effect_of G l reads
    unfolding stray_input unrun_stray
    out_does stray is = by stray (is ∙ sym unrun)
      where
        unrun : stray_input l.kind l reads ≡ unrun_stray l.kind reads.given
        unrun = rw off

        goes : stops l.kind l reads ≡ false
        goes = out_goes l.kind

        sound : breaks true l.kind l reads (value_of l reads) ≡ false
        sound = out_sound l.kind

        by : (stray : Bool) → stray ≡ stray_input l.kind l reads → cond stray Strays (Writes no_name 0 false) ≡ effect_of G l reads
        by true e = rw (← e)
        by false e = rw (← e, goes, sound, off)

-- With a true guard, an assume ends the run by its expression and else has value 1, and a lock ends it by its mutex.
module _ (l : Line) (reads : Reads) (on : guard_true l reads ≡ true) (value : ℕ) where
  pub stops_assume : value ≡ expression l reads → eqb value 0 ≡ stops Assume l reads
  unfolding stops
  stops_assume is = rw (on, ← is)

  pub passed_assume : value ≡ expression l reads → eqb value 0 ≡ false → 1 ≡ guarded_in_value Assume l reads
  unfolding guarded_in_value
  passed_assume is some = rw (← is, some)

  pub stops_lock : value ≡ reads.target → nonzero value ≡ stops Lock l reads
  unfolding stops
  stops_lock is = rw (on, ← is)

-- With a false guard, this is the line's value.
pub old_is_value : (l : Line) (reads : Reads) (value : ℕ) → value ≡ guarded_out_value l.kind reads → guard_true l reads ≡ false → value ≡ value_of l reads
unfolding value_by
old_is_value l reads value is off = rw off is
