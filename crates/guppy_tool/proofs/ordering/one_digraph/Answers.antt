use Rattle.guppy_packages.specs.declared.direction.DependencyDirection.TheVariants.{Forward}
use Rattle.guppy_tool.proofs.OneDigraph.{one_digraph}
use Rattle.guppy_tool.proofs.ordering.one_digraph.Goals as goal

pub returns : goal.returns
returns c = λ a b built other.
    one_digraph c.args.graph.now a b
    (λ k x at. c.edges_say.ensures.says a k x built at)
    (λ k x e at is. c.edges_say.ensures.same b k x e other at is)
    (c.one_content.ensures a b Forward built other)
