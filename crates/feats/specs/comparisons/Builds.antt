-- The build of a plan.
use Rattle.feats_answers.specs.PlanTexts.{target_names}
use Rattle.feats.specs.comparisons.differences.Builds.{BuildText}
use Rattle.feats_plans.specs.Planned.{PlannedText}

abbrev pub build_of : PlannedText → BuildText
build_of p = record { targets = target_names p.inputs.targets; workspace = p.workspace; words = p.words; plan = p.plan }
