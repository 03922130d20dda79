use Rattle.std.proofs.Common.{◌≡◌, ◌++◌, drop, map}
use Rattle.cargo_plans.specs.built_parts.BuiltViews.{is_built_in}
use Rattle.plan_names.specs.Views.{named_text}
use Rattle.feats_why_not.specs.PartView.{part_text}
use Rattle.feats_answers.specs.WhyNotTexts as spec
use Rattle.feats_answers.proofs.off_parts.unbuilt_parts.Given as goal

abbrev pub invariant-loop-one : goal.invariant-loop-one
invariant-loop-one l =
    let off = spec.parts_off (is_built_in l.built) in
    off (map named_text l.named) ≡ map part_text l.parts.items ++ off (map named_text (drop l.one-index l.named))
