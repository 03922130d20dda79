use Rattle.std.proofs.Common.{◌≡◌, map, drop}
use Rattle.std.specs.List.{list_all}
use Rattle.feats_duplicates.specs.Views.{member_plan_text, member_unit_text}
use Rattle.feats_duplicates.specs.Disagreements.{has_plan}
use Rattle.feats_duplicates.proofs.disagreements.have_plans.Given as goal

abbrev pub invariant-loop-row : goal.invariant-loop-row
invariant-loop-row l =
    let test = has_plan (map member_plan_text l.plans) in
    list_all test (map member_unit_text l.rows) ≡ list_all test (map member_unit_text (drop l.row-index l.rows))
