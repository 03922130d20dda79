-- The value that words contain.
use Rattle.std.specs.Prelude.{Bool, map}
use Rattle.cargo_workspaces.specs.Workspaces.{Text}
use Rattle.plan_words.specs.Selections.{selection_text}
use Rattle.plan_words.specs.TargetChoices.{target_choice_text}
use Rattle.cargo_plans.specs.Plans.{WordsText}
use Rattle.cargo_plans.specs.declared.words.PlanWords.{PlanWords}

-- `holds` is what a platform's value means.
abbrev pub words_text : {P : Type 0} → (P → Text → Bool) → PlanWords P → WordsText
words_text holds s = record { selection = selection_text s.selection; choice = target_choice_text s.choice; host = holds s.host.now; targets = map holds s.targets.now }
