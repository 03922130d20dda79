use Rattle.std.proofs.Common.{◌≡◌, map, drop}
use Rattle.feats_duplicates.specs.Views.{member_plan_text, member_unit_text}
use Rattle.feats_duplicates.specs.Disagreements.{has_plan}
use Rattle.feats_duplicates.proofs.disagreements.has_plan.Given as goal

abbrev pub invariant-loop-plan : goal.invariant-loop-plan
invariant-loop-plan l = has_plan (map member_plan_text l.plans) (member_unit_text l.row) ≡ has_plan (map member_plan_text (drop l.plan-index l.plans)) (member_unit_text l.row)
