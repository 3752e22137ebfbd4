-- `turn::effect_in` meets its contract: an arm for each kind. Assumes nothing.
use mathlib.Core.Path.{refl, sym, ap, ◌∙◌}
use Prim.Native.Nat.{ℕ}
use mathlib.Core.Bool.{false}
use Rattle.model.specs.Word.{bit, nonzero}
use Rattle.model.specs.declared.Kind.{Kind}
use Rattle.model.specs.declared.Kind.TheVariants.{Compute, Store, Load, Input, Assert, Assume, Lock, Unlock}
use Rattle.model.specs.Line.{name_of_a, has_expression, name_of_target, guarded_in_value, stops, breaks}
use Rattle.model.specs.Machine.{look}
use Rattle.line.proofs.Breaking.{breaks_kind}
use Rattle.line.specs.SeenReads.{memory_in}
use Rattle.turn.proofs.LineKinds.{in_writes, in_ends, stops_assume, passed_assume, stops_lock}
use Rattle.turn.proofs.effect_in.Goals as goal

pub returns-in-Compute : goal.returns-in-Compute
unfolding stops breaks guarded_in_value name_of_target
returns-in-Compute c = λ k on. c.put.ensures
    ∙ in_writes _ _ _ on Compute c.in-Compute.is _ _ false refl c.local_name.ensures (c.expression_of.ensures _ _ _ _ _ c.args.seen.now.counts.few_items (ap has_expression c.in-Compute.is)) refl

pub returns-in-Store : goal.returns-in-Store
unfolding stops breaks guarded_in_value name_of_target
returns-in-Store c = λ k on. c.put-in-Store.ensures
    ∙ in_writes _ _ _ on Store c.in-Store.is _ _ false refl refl (c.expression_of-in-Store.ensures _ _ _ _ _ c.args.seen.now.counts.few_items (ap has_expression c.in-Store.is)) refl

pub returns-in-Load : goal.returns-in-Load
unfolding stops breaks guarded_in_value name_of_target name_of_a
returns-in-Load c = λ k on. c.put-in-Load.ensures
    ∙ in_writes _ _ _ on Load c.in-Load.is _ _ false refl c.local_name-in-Load.ensures (c.item.ensures _ ∙ ap (λ (x : Kind). look (memory_in c.args.seen.now) (name_of_a x c.args.l.a)) (sym c.in-Load.is)) refl

pub returns-in-Input : goal.returns-in-Input
unfolding stops breaks guarded_in_value name_of_target
returns-in-Input c = λ k on. c.put-in-Input.ensures ∙ in_writes _ _ _ on Input c.in-Input.is _ _ false refl c.local_name-in-Input.ensures refl refl

pub returns-in-Assert : goal.returns-in-Assert
unfolding stops guarded_in_value name_of_target
returns-in-Assert c = λ k on.
    in_writes _ _ _ on Assert c.in-Assert.is _ _ _ refl refl
    (c.bit_of-value.ensures ∙ ap (λ (x : ℕ). bit (nonzero x)) (c.expression_of-in-Assert.ensures _ _ _ _ _ c.args.seen.now.counts.few_items (ap has_expression c.in-Assert.is)))
    (breaks_kind _ _ Assert c.in-Assert.is _ _ (c.breaks.ensures c.args.given k c.args.seen.now.locals.now on))

pub returns-in-Assume : goal.returns-in-Assume
unfolding breaks name_of_target
returns-in-Assume c = λ k on.
    let value = c.expression_of-in-Assume.ensures c.args.seen.now.counts.globals c.args.seen.now.counts.items c.args.given c.args.seen.now.items.now k c.args.seen.now.counts.few_items (ap has_expression c.in-Assume.is) in
    c.put_unless.ensures ∙ in_ends _ _ _ on Assume c.in-Assume.is _ _ _ (stops_assume _ _ on _ value) refl (passed_assume _ _ on _ value) refl

pub returns-in-Lock : goal.returns-in-Lock
unfolding breaks guarded_in_value name_of_target
returns-in-Lock c = λ k on. c.put_unless-in-Lock.ensures
    ∙ in_ends _ _ _ on Lock c.in-Lock.is _ _ _
    (stops_lock _ _ on _ (c.item-taken.ensures _ ∙ ap (λ (x : Kind). look (memory_in c.args.seen.now) (name_of_target c.args.seen.now.counts.globals x c.args.l.target)) (sym c.in-Lock.is)))
    refl (λ _. c.holder.ensures k) refl

pub returns-in-Unlock : goal.returns-in-Unlock
unfolding stops guarded_in_value name_of_target
returns-in-Unlock c = λ k on.
    in_writes _ _ _ on Unlock c.in-Unlock.is _ _ _ refl refl refl (breaks_kind _ _ Unlock c.in-Unlock.is _ _ (c.breaks-in-Unlock.ensures c.args.given k c.args.seen.now.locals.now on))
