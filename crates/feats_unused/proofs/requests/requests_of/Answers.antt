use Rattle.cargo_workspaces.specs.Views.{package_text}
use Rattle.feats_unused.proofs.Lists.{requests_more}
use Rattle.feats_unused.proofs.requests.requests_of.Goals as goal

pub loop-ix-preserved : goal.loop-ix-preserved
loop-ix-preserved c =
    requests_more package_text c.args.packages.now c.loop-ix.ix c.index-packages-ix.result _ _ _ c.loop-ix-test.true c.index-packages-ix.is c.loop-ix.invariant c.in_ok-push_package.ensures
