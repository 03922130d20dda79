use Rattle.std.proofs.Common.{◌∙◌, sym, ap, map, inl, inr}
use Rattle.std.proofs.lemmas.List.{nil_from_length}
use Rattle.workspace_documents.specs.Views.{declaration_view}
use Rattle.workspace_documents.specs.LeadViews.{lead_view}
use Rattle.feats_plans.proofs.Zips.{first_ended, second_ended}
use Rattle.feats_plans.proofs.numbered_workspaces.numbers.numbered_declarations.Goals as goal

pub returns : goal.returns
returns c =
    elim c.in-None.ensures.steps [
      | inl e ↦ first_ended _ _ _ _ _ c.loop-declaration.invariant.so (ap (map declaration_view) (nil_from_length _ (sym c.loop-declaration.invariant.long ∙ e.1.0)))
      | inr e ↦ second_ended _ _ _ _ _ c.loop-declaration.invariant.so (ap (map lead_view) (nil_from_length _ e.1.0))
    ]
