use Rattle.std.proofs.Common.{◌≡◌, ◌++◌, drop, flat_map, map}
use Rattle.plan_names.specs.Views.{named_text}
use Rattle.plan_whys.specs.StepViews.{spot_text}
use Rattle.feats_answers.specs.WhyTexts.{spots_of_part}
use Rattle.feats_answers.proofs.why_texts.spots_of.Given as goal

abbrev pub invariant-loop-one : goal.invariant-loop-one
invariant-loop-one l =
    flat_map spots_of_part (map named_text l.named) ≡ map spot_text l.spots.items ++ flat_map spots_of_part (map named_text (drop l.one-index l.named))
