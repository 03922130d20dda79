use Rattle.std.proofs.Common.{◌≡◌, ℕ, Option, Some, None, if◌then◌else◌}
use Rattle.cargo_workspaces.specs.Views.{package_text}
use Rattle.cargo_workspaces.specs.Workspaces.{PackageText}
use Rattle.cargo_plans.specs.built_parts.BuiltViews.{is_built_in, slot_at}
use Rattle.cargo_plans.specs.built_parts.Scripts as spec
use Rattle.cargo_plans.proofs.ScriptLemmas.{first_more}
use Rattle.cargo_plans.proofs.built_parts.scripts.LackingScripts.of_parts.Goals as goal

pub loop-ix-preserved : goal.loop-ix-preserved
loop-ix-preserved g c = λ q.
    first_more (λ (p : ℕ) (x : PackageText). if spec.lacks_script (is_built_in c.args.parts.now) (g.P.Platform.holds c.args.host.now) q p x then Some p else None) package_text
    c.packages-package-items.result.now c.loop-ix.ix c.package-item.result (slot_at c.loop-ix.first.items q) _ c.loop-ix-test.true c.package-item.is
    (c.in_ok-note_package.ensures q) (c.loop-ix.invariant q)
