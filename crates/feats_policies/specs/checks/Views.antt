-- The values that Rust's types contain.
use Rattle.std.specs.Prelude.{map}
use Rattle.cargo_workspaces.specs.Views.{texts}
use Rattle.cargo_workspaces.specs.WorkspaceView.{workspace_text}
use Rattle.plan_names.specs.Views.{named_text}
use Rattle.cargo_plans.specs.plan_steps.PlanViews.{plan_text}
use Rattle.plan_whys.specs.StepViews.{spot_text}
use Rattle.feats_policies.specs.Views.{rule_text}
use Rattle.feats_policies.specs.checks.Builds.{BuildText}
use Rattle.feats_policies.specs.checks.Checks.{RefusalText, VerdictText, no_platform_in, out_of_memory, several_in}
use Rattle.feats_policies.specs.declared.checks.build.Build.{Build}
use Rattle.feats_policies.specs.declared.checks.fault.CheckFault.{CheckFault}
use Rattle.feats_policies.specs.declared.checks.fault.CheckFault.TheVariants as fault
use Rattle.feats_policies.specs.declared.checks.verdict.Verdict.{Verdict}

abbrev pub build_text : Build → BuildText
build_text b = record {
  packages = (workspace_text b.workspace.now).packages;
  selected = b.selected.now;
  plan = plan_text b.plan.now;
  split = b.split;
  host = b.host.now;
  targets = texts b.targets.now;
  judged = b.judged;
}

abbrev pub verdict_text : Verdict → VerdictText
verdict_text v = record { rule = rule_text v.rule; spots = map spot_text v.spots.items }

abbrev pub refusal_text : CheckFault → RefusalText
refusal_text (fault.Several line word candidates) = several_in line word.now (map named_text candidates.items)
refusal_text (fault.NoPlatform line triple) = no_platform_in line triple.now
refusal_text fault.Memory = out_of_memory
