-- The texts of broken rules, from what explains their spots.
use Rattle.std.specs.Prelude.{List, [], ◌∷◌, ◌++◌, Option, Some, None, drop, flat_map, length, take}
use Rattle.cargo_workspaces.specs.Workspaces.{Text}
use Rattle.plan_whys.specs.Steps.{WhyText}
use Rattle.feats_policies.specs.Rules.{RuleText}
use Rattle.feats_policies.specs.checks.Checks.{VerdictText}

-- The joined texts of broken rules: `text` is that of one, from the items for its spots. `items` are those for the spots of all.
abbrev pub texts_by : {X : Type 0} → (RuleText → List X → Text) → List VerdictText → List X → Text
texts_by text [] items = []
texts_by text (v ∷ vs) items = text v.rule (take (length v.spots) items) ++ texts_by text vs (drop (length v.spots) items)

-- The texts, with an empty line between two of them.
abbrev pub gapped : List Text → Text
gapped [] = []
gapped (first ∷ others) = first ++ flat_map (λ t. 10 ∷ t) others

abbrev pub steps_or_none : Option (List WhyText) → List WhyText
steps_or_none None = []
steps_or_none (Some steps) = steps
