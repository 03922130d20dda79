use Rattle.std.proofs.Common.{◌≡◌, ◌++◌, drop, map}
use Rattle.feats_tree.specs.dots.Dots.{cluster_text, joined_from}
use Rattle.feats_tree.specs.dots.Views.{node_text}
use Rattle.feats_tree.proofs.dots.dots.push_clusters.Given as goal

abbrev pub invariant-loop-cluster : goal.invariant-loop-cluster
invariant-loop-cluster l =
    let f = cluster_text (map node_text l.nodes) in
    l.initial.text.items ++ joined_from f 0 (map (λ t. t.now) l.clusters) ≡ l.text.items ++ joined_from f l.cluster (map (λ t. t.now) (drop l.cluster l.clusters))
