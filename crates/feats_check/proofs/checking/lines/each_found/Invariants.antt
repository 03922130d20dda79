use Rattle.std.proofs.Common.{◌≡◌, ◌++◌, drop, map}
use Rattle.plan_whys.specs.StepViews.{found_text}
use Rattle.feats_why.specs.Views.{steps_text}
use Rattle.feats_check.specs.checking.inner.RuleTexts.{steps_or_none}
use Rattle.feats_check.proofs.checking.lines.each_found.Given as goal

abbrev pub invariant-loop-found : goal.invariant-loop-found
invariant-loop-found l =
    map steps_or_none (map found_text l.founds) ≡ map steps_text l.lists.items ++ map steps_or_none (map found_text (drop l.found-index l.founds))
