-- `value_check::asked_in` meets its contract: an arm for each kind. Assumes nothing.
use mathlib.Core.Path.{refl, ◌∙◌, ap}
use Prim.Native.Nat.{ℕ}
use Rattle.model.specs.Word.{bit, nonzero}
use Rattle.model.specs.declared.Kind.TheVariants.{Compute, Store, Load, Input, Assert, Assume, Lock, Unlock}
use Rattle.model.specs.Line.{name_of_a, has_expression, name_of_target, guarded_in_value, breaks}
use Rattle.model.specs.Holds.{demand_met}
use Rattle.line.proofs.Breaking.{breaks_kind}
use Rattle.value_check.proofs.Asking.{asks_in, lock_in}
use Rattle.value_check.proofs.asked_in.Goals as goal

pub returns-in-Compute : goal.returns-in-Compute
unfolding demand_met breaks guarded_in_value name_of_target
returns-in-Compute c =
    let kind = c.in-Compute.is in
    λ k guard. rw c.four.ensures (asks_in _ _ _ _ _ Compute kind guard (c.expression_of.ensures _ _ _ _ _ c.args.seen.now.counts.few_items (ap has_expression kind)) refl refl c.local_name.ensures)

pub returns-in-Store : goal.returns-in-Store
unfolding demand_met breaks guarded_in_value name_of_target
returns-in-Store c =
    let kind = c.in-Store.is in
    λ k guard. rw c.four-in-Store.ensures (asks_in _ _ _ _ _ Store kind guard (c.expression_of-in-Store.ensures _ _ _ _ _ c.args.seen.now.counts.few_items (ap has_expression kind)) refl refl refl)

pub returns-in-Load : goal.returns-in-Load
unfolding demand_met breaks guarded_in_value name_of_target name_of_a
returns-in-Load c =
    let kind = c.in-Load.is in
    λ k guard. rw c.four-in-Load.ensures (asks_in _ _ _ _ _ Load kind guard (rw kind (c.item.ensures c.args.seen.now.locals.now)) refl refl c.local_name-in-Load.ensures)

pub returns-in-Input : goal.returns-in-Input
unfolding demand_met breaks guarded_in_value name_of_target
returns-in-Input c = λ k guard. rw c.four-in-Input.ensures (asks_in _ _ _ _ _ Input c.in-Input.is guard refl refl refl c.local_name-in-Input.ensures)

pub returns-in-Assert : goal.returns-in-Assert
unfolding demand_met guarded_in_value name_of_target
returns-in-Assert c =
    let kind = c.in-Assert.is in
    λ k guard. asks_in _ _ _ _ _ Assert kind guard (c.bit_of.ensures ∙ ap (λ (x : ℕ). bit (nonzero x)) (c.expression_of-in-Assert.ensures _ _ _ _ _ c.args.seen.now.counts.few_items (ap has_expression kind))) refl (breaks_kind _ _ Assert kind _ _ (c.breaks.ensures c.args.value k c.args.seen.now.locals.now guard)) refl

pub returns-in-Assume : goal.returns-in-Assume
unfolding demand_met breaks guarded_in_value name_of_target
returns-in-Assume c =
    let kind = c.in-Assume.is in
    λ k guard. asks_in _ _ _ _ _ Assume kind guard (c.bit_of-in-Assume.ensures ∙ ap (λ (x : ℕ). bit (nonzero x)) (c.expression_of-in-Assume.ensures _ _ _ _ _ c.args.seen.now.counts.few_items (ap has_expression kind))) refl refl refl

pub returns-in-Lock : goal.returns-in-Lock
unfolding breaks guarded_in_value name_of_target
returns-in-Lock c =
    let kind = c.in-Lock.is in
    λ k guard. asks_in _ _ _ _ _ Lock kind guard (c.holder.ensures k) (lock_in _ _ _ guard _ (rw kind (c.item-in-Lock.ensures c.args.seen.now.locals.now))) refl refl

pub returns-in-Unlock : goal.returns-in-Unlock
unfolding demand_met guarded_in_value name_of_target
returns-in-Unlock c =
    let kind = c.in-Unlock.is in
    λ k guard. asks_in _ _ _ _ _ Unlock kind guard refl refl (breaks_kind _ _ Unlock kind _ _ (c.breaks-stranger.ensures c.args.value k c.args.seen.now.locals.now guard)) refl
