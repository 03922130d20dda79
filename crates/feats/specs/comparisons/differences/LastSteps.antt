-- The line of one step.
use Rattle.std.specs.Prelude.{List, [], ◌∷◌, Option}
use Rattle.std.specs.Option.{option_map_or}
use Rattle.cargo_workspaces.specs.Workspaces.{Text}
use Rattle.plan_whys.specs.Steps.{WhyText}
use Rattle.feats_why.specs.Lines.{why_lines}
use Rattle.feats_why.specs.Settings.{settings_of}
use Rattle.feats.specs.comparisons.differences.Builds.{BuildText}
use Rattle.feats.specs.comparisons.differences.Whys.{without_feed}

-- A step as a list; an empty list if there is none.
abbrev pub list_of : Option WhyText → List WhyText
list_of last = option_map_or (λ step. step ∷ []) last []

-- The line of a step, as `why` shows it; the empty text if there is none.
abbrev pub line_of : BuildText → Option WhyText → Text
line_of b last = without_feed (why_lines b.workspace.packages (settings_of b.words) (list_of last))
