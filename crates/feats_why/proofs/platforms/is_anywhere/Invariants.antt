use Rattle.std.proofs.Common.{◌≡◌, map, drop}
use Rattle.std.specs.List.{list_any}
use Rattle.cargo_workspaces.specs.Views.{declaration_text}
use Rattle.feats_why.specs.Platforms as spec
use Rattle.feats_why.specs.Settings.{settings_text}
use Rattle.plan_whys.specs.StepViews.{spot_text}
use Rattle.feats_why.proofs.platforms.is_anywhere.Given as goal

abbrev pub invariant-loop-declaration : goal.invariant-loop-declaration
invariant-loop-declaration g l =
    let test = spec.is_anywhere (spec.leads_to_spot (settings_text g.P.Platform.holds l.settings) l.between.is_macro (spot_text l.between.start) (spot_text l.between.at)) in
    list_any test (map declaration_text l.declarations) ≡ list_any test (map declaration_text (drop l.declaration-index l.declarations))
