use Rattle.std.proofs.Common.{◌∙◌, map}
use Rattle.std.specs.BTreeSet.{contains}
use Rattle.std.specs.Ordering.{nat_cmp}
use Rattle.cargo_workspaces.specs.Views.{declaration_text}
use Rattle.plan_starts.specs.TargetViews.{rules_text}
use Rattle.plan_starts.proofs.Counted.{among_counts}
use Rattle.plan_starts.proofs.targets.any_leads_on.Goals as goal

pub returns : goal.returns
returns g c =
    c.any_leads_among.ensures
    ∙ among_counts (rules_text g.P.Platform.holds c.args.rules.now) c.args.ix c.args.name.now (map declaration_text c.args.declarations.now) c.args.feature.now (contains nat_cmp c.in_ok-packages.packages) c.in_ok-packages.ensures
