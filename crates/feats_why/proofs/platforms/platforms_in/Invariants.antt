use Rattle.std.proofs.Common.{◌≡◌, [], map, drop, fold}
use Rattle.cargo_workspaces.specs.Views.{declaration_text, texts}
use Rattle.feats_why.specs.Platforms as spec
use Rattle.feats_why.specs.Settings.{settings_text}
use Rattle.plan_whys.specs.StepViews.{spot_text}
use Rattle.feats_why.proofs.platforms.platforms_in.Given as goal

abbrev pub invariant-loop-declaration : goal.invariant-loop-declaration
invariant-loop-declaration g l =
    let platform = spec.platform_if (spec.leads_to_spot (settings_text g.P.Platform.holds l.settings) l.between.is_macro (spot_text l.between.start) (spot_text l.between.at)) in
    fold spec.with_text [] (map platform (map declaration_text l.declarations)) ≡ fold spec.with_text (texts l.platforms.items) (map platform (map declaration_text (drop l.declaration-index l.declarations)))
