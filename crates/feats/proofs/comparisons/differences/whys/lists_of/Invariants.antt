use Rattle.std.proofs.Common.{◌≡◌, ◌++◌, map, drop}
use Rattle.feats.specs.comparisons.differences.LastSteps.{list_of}
use Rattle.plan_whys.specs.StepViews.{last_text}
use Rattle.feats_why.specs.Views.{steps_text}
use Rattle.feats.proofs.comparisons.differences.whys.lists_of.Given as goal

abbrev pub invariant-loop-last : goal.invariant-loop-last
invariant-loop-last l = map list_of (map last_text l.lasts) ≡ map steps_text l.lists.items ++ map list_of (map last_text (drop l.last-index l.lasts))
