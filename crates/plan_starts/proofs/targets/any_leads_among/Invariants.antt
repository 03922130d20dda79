use Rattle.std.proofs.Common.{◌≡◌, ◌&&◌, false, map, drop}
use Rattle.std.specs.BTreeSet.{contains}
use Rattle.std.specs.List.{list_any}
use Rattle.std.specs.Option.{option_map_or}
use Rattle.std.specs.Ordering.{nat_cmp}
use Rattle.cargo_workspaces.specs.Views.{declaration_text}
use Rattle.cargo_workspaces.specs.Workspaces.{DeclarationText}
use Rattle.plan_starts.specs.Targets.{is_of, leads_on}
use Rattle.plan_starts.specs.TargetViews.{rules_text}
use Rattle.plan_starts.proofs.targets.any_leads_among.Given as goal

abbrev pub invariant-loop-declaration : goal.invariant-loop-declaration
invariant-loop-declaration g l =
    let r = rules_text g.P.Platform.holds l.rules in
    let test = λ (d : DeclarationText). is_of r l.ix l.name d && leads_on r l.feature d && option_map_or (contains nat_cmp l.packages) d.leads_to false in
    list_any test (map declaration_text l.declarations) ≡ list_any test (map declaration_text (drop l.declaration-index l.declarations))
