use Rattle.std.proofs.Common.{◌<◌, sym, subst}
use Rattle.feature_labels.specs.Names.{label_of}
use Rattle.plan_starts.proofs.Places.{node_within}
use Rattle.plan_starts.proofs.step_visits.visited.Visited.reaches.Goals as goal

pub contains-requires : goal.contains-requires
contains-requires c =
    subst (λ z. c.in-Some.node < z) (sym c.self.invariant.1)
    (node_within c.self.inside.packages c.self.inside.built.packages c.args.ix c.in-Some.node (label_of c.args.label) c.self.invariant.0.packages c.in-Some.ensures)
