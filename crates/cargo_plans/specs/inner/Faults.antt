-- The fault of a plan by that of its words.
use Rattle.plan_words.specs.declared.fault.WordFault.{WordFault}
use Rattle.plan_words.specs.declared.fault.WordFault.TheVariants as word
use Rattle.cargo_plans.specs.declared.plan_steps.fault.StepFault.TheVariants as step
use Rattle.cargo_plans.specs.declared.fault.PlanFault.{PlanFault}
use Rattle.cargo_plans.specs.declared.fault.PlanFault.TheVariants as fault

abbrev pub of_words : WordFault → PlanFault
of_words (word.UnknownPackage text) = fault.Words (word.UnknownPackage text)
of_words (word.AmbiguousPackage text candidates) = fault.Words (word.AmbiguousPackage text candidates)
of_words word.NoPackages = fault.Words word.NoPackages
of_words word.NoMember = fault.Words word.NoMember
of_words (word.UnknownFeature text) = fault.Words (word.UnknownFeature text)
of_words (word.NoFeature owner feature) = fault.Words (word.NoFeature owner feature)
of_words (word.NoDependency owner dependency) = fault.Words (word.NoDependency owner dependency)
of_words word.Memory = fault.Steps step.Memory
