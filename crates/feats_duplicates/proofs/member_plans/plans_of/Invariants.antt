use Rattle.std.proofs.Common.{◌≡◌, ◌++◌, ℕ, map, filter, drop, nat_eq}
use Rattle.std.specs.List.{AllByRecursion, list_any}
use Rattle.cargo_plans.specs.WordsView.{words_text}
use Rattle.cargo_workspaces.specs.WorkspaceView.{workspace_text}
use Rattle.feats_duplicates.specs.MemberPlans.{IsMemberPlan, MemberPlanText, selected_members}
use Rattle.feats_duplicates.specs.Views.{member_plan_text}
use Rattle.feats_duplicates.proofs.member_plans.plans_of.Given as goal

abbrev pub invariant-loop-member : goal.invariant-loop-member
invariant-loop-member g l = record {
  members : selected_members (workspace_text l.workspace) l.selected
      ≡ map (λ (p : MemberPlanText). p.member) (map member_plan_text l.plans.items) ++ filter (λ (m : ℕ). list_any (nat_eq m) l.selected) (drop l.member-index (workspace_text l.workspace).members);
  plans : AllByRecursion (IsMemberPlan (workspace_text l.workspace) (words_text g.P.Platform.holds l.words)) (map member_plan_text l.plans.items);
}
