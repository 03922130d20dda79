use Rattle.std.proofs.lemmas.Bool.Decides.{same_from_decides}
use Rattle.feature_graph.specs.SetValues.{set_eq}
use Rattle.feature_graph.proofs.SameFeatures.{set_eq-Decides}
use Rattle.feature_graph.proofs.set.algebra.FeatureSetPartialEq.eq.Goals as goal

pub returns-clause-value : goal.returns-clause-value
returns-clause-value c =
    let a = c.args.self.now in
    let b = c.args.other.now in
    same_from_decides c.is_equal.result (set_eq a b) c.is_equal.ensures (set_eq-Decides a b)
