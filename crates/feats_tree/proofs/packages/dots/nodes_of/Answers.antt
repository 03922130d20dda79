use Rattle.std.proofs.Common.{ap, inl, inr, map}
use Rattle.std.proofs.lemmas.List.{nil_from_length}
use Rattle.std.specs.String.{string_bytes}
use Rattle.cargo_plans.specs.plan_units.UnitViews.{unit_text}
use Rattle.feats_tree.specs.packages.Dots.{node_of}
use Rattle.feats_tree.proofs.Zips.{first_ended, second_ended}
use Rattle.feats_tree.proofs.packages.dots.nodes_of.Goals as goal

pub returns : goal.returns
returns c =
    elim c.in-None.ensures.steps [
      | inl e ↦ first_ended (node_of c.args.count) _ _ _ _ c.loop-unit.invariant (ap (map unit_text) (nil_from_length _ e.1.0))
      | inr e ↦ second_ended (node_of c.args.count) _ _ _ _ c.loop-unit.invariant (ap (map string_bytes) (nil_from_length _ e.1.0))
    ]
