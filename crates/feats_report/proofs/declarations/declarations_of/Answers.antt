use Rattle.std.proofs.Common.{map}
use Rattle.cargo_plans.specs.built_parts.BuiltViews.{builds_in}
use Rattle.cargo_workspaces.specs.Views.{package_text}
use Rattle.feats_report.specs.Declarations.{package_lines}
use Rattle.feats_report.proofs.Lists.{joined_more}
use Rattle.feats_report.proofs.declarations.declarations_of.Goals as goal

pub loop-ix-preserved : goal.loop-ix-preserved
loop-ix-preserved c =
    let packages = c.args.packages.now in
    joined_more package_text (package_lines (builds_in c.args.parts.now) (map package_text packages)) packages c.loop-ix.ix c.index-packages-ix.result _ _ _
    c.loop-ix-test.true c.index-packages-ix.is c.loop-ix.invariant c.in_ok-text.ensures
