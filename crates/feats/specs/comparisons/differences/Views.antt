-- The values that Rust's types contain.
use Rattle.std.specs.Prelude.{map, string_bytes}
use Rattle.cargo_plans.specs.WordsView.{words_text}
use Rattle.cargo_workspaces.specs.Views.{texts}
use Rattle.cargo_workspaces.specs.WorkspaceView.{workspace_text}
use Rattle.plan_rows.specs.platforms.HeldSpecs.{holds_on}
use Rattle.cargo_plans.specs.plan_steps.PlanViews.{plan_text}
use Rattle.feats.specs.comparisons.differences.Builds.{BuildText}
use Rattle.feats.specs.comparisons.differences.Whys.{WhysText}
use Rattle.feats.specs.declared.comparisons.differences.builds.Build.{Build}
use Rattle.feats.specs.declared.comparisons.differences.whys.Whys.{Whys}

abbrev pub build_text : Build → BuildText
build_text b = record { targets = texts b.targets.now; workspace = workspace_text b.workspace.now; words = words_text holds_on b.words.now; plan = plan_text b.plan.now }

abbrev pub whys_text : Whys → WhysText
whys_text w = record { parts = map string_bytes w.parts.items; moved = map string_bytes w.moved.items; kept = map string_bytes w.kept.items }
