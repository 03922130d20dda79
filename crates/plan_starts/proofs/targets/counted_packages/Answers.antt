use Rattle.cargo_workspaces.specs.Views.{declaration_text}
use Rattle.plan_starts.specs.TargetViews.{rules_text}
use Rattle.plan_starts.proofs.Counted.{counts_more}
use Rattle.plan_starts.proofs.targets.counted_packages.Goals as goal

pub loop-declaration-preserved : goal.loop-declaration-preserved
loop-declaration-preserved g c = λ q.
    counts_more (rules_text g.P.Platform.holds c.args.rules.now) c.args.ix c.args.name.now declaration_text c.args.declarations.now c.loop-declaration.declaration-index c.declaration-item.result c.counted_lead.result q _ _
    c.loop-declaration-test.true c.declaration-item.is c.counted_lead.ensures (c.in_ok-note.ensures q) (c.loop-declaration.invariant q)
