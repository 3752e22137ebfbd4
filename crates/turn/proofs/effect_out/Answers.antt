-- `turn::effect_out` meets its contract. Assumes nothing.
use mathlib.Core.Path.{sym, ap, ◌∙◌}
use mathlib.Core.Bool.{Bool, false, cond}
use Rattle.model.specs.Line.{no_name}
use Rattle.turn.specs.declared.Effect.TheVariants.{Strays, Writes}
use Rattle.turn.proofs.LineKinds.{out_does}
use Rattle.turn.proofs.effect_out.Goals as goal

pub returns-then-strays : goal.returns-then-strays
returns-then-strays c =
    λ seen k off. ap (λ (x : Bool). cond x Strays (Writes no_name 0 false)) (sym c.if-strays.true) ∙ out_does _ _ _ off _ c.strays.ensures

pub returns-else-strays : goal.returns-else-strays
returns-else-strays c =
    λ seen k off. c.put.ensures ∙ ap (λ (x : Bool). cond x Strays (Writes no_name 0 false)) (sym c.if-strays.false) ∙ out_does _ _ _ off _ c.strays.ensures
