use Rattle.std.proofs.Common.{◌≡◌, ◌++◌, map, drop}
use Rattle.std.specs.List.{AllByRecursion}
use Rattle.cargo_plans.specs.WordsView.{words_text}
use Rattle.cargo_workspaces.specs.WorkspaceView.{workspace_text}
use Rattle.cargo_plans.specs.plan_units.UnitViews.{unit_text}
use Rattle.cargo_manifests.specs.inherited.InheritanceView.{inheritance_text}
use Rattle.cargo_manifests.specs.EditViews.{edit_text}
use Rattle.feats_slim.specs.edits.Orders.{SlimText}
use Rattle.feats_slim.specs.edits.Slims.{IsTried}
use Rattle.feats_slim.specs.edits.SlimViews.{slim_text}
use Rattle.feats_slim.proofs.edits.trials.all_tried.Given as goal

abbrev pub invariant-loop-edit : goal.invariant-loop-edit
invariant-loop-edit g l =
    let w = workspace_text l.workspace in
    record {
      edits : map edit_text l.edits ≡ map (λ (s : SlimText). s.edit) (map slim_text l.all.items) ++ map edit_text (drop l.edit-index l.edits);
      tried : AllByRecursion (IsTried w (inheritance_text l.inheritance) (words_text g.P.Platform.holds l.words) (map unit_text l.before)) (map slim_text l.all.items);
    }
