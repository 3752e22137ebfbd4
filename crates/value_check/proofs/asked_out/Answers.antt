-- `value_check::asked_out` meets its contract, by kind. Assumes nothing.
use mathlib.Core.Path.{refl}
use mathlib.Core.Logic.{inl, inr}
use Rattle.model.specs.declared.Kind.TheVariants.{Compute, Store, Load, Input, Assert, Assume, Lock, Unlock}
use Rattle.model.specs.Line.{name_of_target, guarded_out_value}
use Rattle.model.specs.Holds.{demand_met}
use Rattle.value_check.proofs.Asking.{asks_out, lock_out}
use Rattle.value_check.proofs.asked_out.Goals as goal

pub returns-in-Compute : goal.returns-in-Compute
unfolding demand_met guarded_out_value name_of_target
returns-in-Compute c =
    let kept = c.local_at.ensures c.args.seen.now.items.now c.args.seen.now.counts.items c.args.seen.now.counts.few_items in
    λ k guard. rw c.four.ensures
    (elim c.in-Compute.is [
      | inl kind ↦ asks_out _ _ _ _ _ Compute kind guard (rw kind kept) refl refl c.local_name.ensures
      | inr others ↦ elim others [
        | inl kind ↦ asks_out _ _ _ _ _ Load kind guard (rw kind kept) refl refl c.local_name.ensures
        | inr kind ↦ asks_out _ _ _ _ _ Input kind guard (rw kind kept) refl refl c.local_name.ensures
      ]
    ])

pub returns-in-Store : goal.returns-in-Store
unfolding demand_met guarded_out_value name_of_target
returns-in-Store c =
    let kind = c.in-Store.is in
    λ k guard. rw c.four-in-Store.ensures (asks_out _ _ _ _ _ Store kind guard (rw kind (c.item.ensures c.args.seen.now.locals.now)) refl refl refl)

pub returns-in-Assert : goal.returns-in-Assert
unfolding demand_met guarded_out_value name_of_target
returns-in-Assert c = λ k guard. rw c.four-in-Assert.ensures (asks_out _ _ _ _ _ Assert c.in-Assert.is guard refl refl refl refl)

pub returns-in-Assume : goal.returns-in-Assume
unfolding demand_met guarded_out_value name_of_target
returns-in-Assume c = λ k guard. asks_out _ _ _ _ _ Assume c.in-Assume.is guard refl refl refl refl

pub returns-in-Lock : goal.returns-in-Lock
unfolding demand_met guarded_out_value name_of_target
returns-in-Lock c =
    let kept = c.item-in-Lock.ensures c.args.seen.now.locals.now in
    λ k guard. rw c.four-in-Lock.ensures
    (elim c.in-Lock.is [
      | inl kind ↦ asks_out _ _ _ _ _ Lock kind guard (rw kind kept) (lock_out _ _ c.args.value guard) refl refl
      | inr kind ↦ asks_out _ _ _ _ _ Unlock kind guard (rw kind kept) refl refl refl
    ])
