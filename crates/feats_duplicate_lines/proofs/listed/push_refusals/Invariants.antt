use Rattle.std.proofs.Common.{◌≡◌, ◌++◌, flat_map, map, drop}
use Rattle.cargo_workspaces.specs.Views.{package_text}
use Rattle.feats_duplicates.specs.Views.{member_plan_text}
use Rattle.feats_duplicate_lines.specs.Shown.{refusal_of}
use Rattle.feats_duplicate_lines.specs.Views.{shown_text}
use Rattle.feats_duplicate_lines.proofs.listed.push_refusals.Given as goal

abbrev pub invariant-loop-plan : goal.invariant-loop-plan
invariant-loop-plan l =
    let f = refusal_of (map package_text l.packages) in
    map shown_text l.initial.shown.items ++ flat_map f (map member_plan_text l.plans) ≡ map shown_text l.shown.items ++ flat_map f (map member_plan_text (drop l.plan-index l.plans))
