use Rattle.std.proofs.Common.{ap, map, inl, inr}
use Rattle.std.proofs.lemmas.List.{nil_from_length}
use Rattle.workspace_documents.specs.Views.{package_view, entries_view}
use Rattle.workspace_documents.specs.LeadViews.{leads_view}
use Rattle.feats_plans.proofs.Zips.{first_ended, second_ended}
use Rattle.feats_plans.proofs.numbered_workspaces.numbers.numbered_packages.Goals as goal

pub returns : goal.returns
returns c =
    elim c.in-None.ensures.steps [
      | inl e ↦ first_ended _ _ _ _ _ c.loop-package.invariant (ap (entries_view package_view) e.1.0)
      | inr e ↦ second_ended _ _ _ _ _ c.loop-package.invariant (ap (map leads_view) (nil_from_length _ e.1.0))
    ]
