use Rattle.std.proofs.Common.{◌≡◌, drop, map}
use Rattle.std.specs.List.{list_any}
use Rattle.cargo_plans.specs.plan_units.UnitViews.{unit_text}
use Rattle.cargo_workspaces.specs.Views.{declaration_text}
use Rattle.feats_routes.specs.Kinds.{counts}
use Rattle.feats_routes.specs.Shown.{shown_text}
use Rattle.feats_routes.proofs.kinds.any_counts.Given as goal

abbrev pub invariant-loop-declaration : goal.invariant-loop-declaration
invariant-loop-declaration g l =
    let test = counts (shown_text g.P.Platform.holds l.shown) l.build (unit_text l.from) (unit_text l.to) l.script in
    list_any test (map declaration_text l.declarations) ≡ list_any test (map declaration_text (drop l.declaration-index l.declarations))
