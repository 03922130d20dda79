use Rattle.std.proofs.Common.{◌≡◌, length, subst, arith}
use Rattle.feature_edges.specs.inner.Collects.{AreWarningsBelow}
use Rattle.feature_edges.specs.inner.Made.{AreMadeBelow}
use Rattle.feature_edges.proofs.table.MadeEdges.add_packages.Goals as goal

pub loop-ix-init : goal.loop-ix-init
loop-ix-init c = (c.requires.made, c.requires.warnings)

pub loop-ix-preserved : goal.loop-ix-preserved
loop-ix-preserved c = (c.in_ok-add_package.ensures.made, c.in_ok-add_package.ensures.warnings)

pub returns-clause-made : goal.returns-clause-made
returns-clause-made c =
    let end : c.loop-ix.ix ≡ length c.args.material.numbers.graph.now.packages = omega arith in
    subst (λ z. AreMadeBelow c.args.material.numbers.graph.now z c.loop-ix.self) end c.loop-ix.invariant.0

pub returns-clause-warnings : goal.returns-clause-warnings
returns-clause-warnings c =
    let end : c.loop-ix.ix ≡ length c.args.material.numbers.graph.now.packages = omega arith in
    subst (λ z. AreWarningsBelow c.args.material.numbers.graph.now z c.loop-ix.room.collected) end c.loop-ix.invariant.1
