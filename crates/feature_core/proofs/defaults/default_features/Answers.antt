use Rattle.std.proofs.Common.{◌∙◌, ◌<◌, ◌≤◌, ◌+◌, ◌↔◌, Bool, List, true, false, arith, length, refl, sym, ap, subst}
use Rattle.std.specs.Prelude.{IsTrue}
use Rattle.std.proofs.lemmas.List.{length-replicate, length-set}
use Rattle.digraphs.specs.Bits.{has}
use Rattle.feature_edges.specs.Nodes.{node_packages}
use Rattle.feature_core.proofs.DefaultLemmas.{Starts, start_below, none_start, next_start, all_starts}
use Rattle.feature_core.proofs.defaults.default_features.Goals as goal

pub loop-ix-init : goal.loop-ix-init
loop-ix-init c =
    let t = c.args.numbers.graph.now in
    record {
      size = ap length c.in_ok-set.ensures ∙ length-replicate c.args.count false;
      starts = λ n. subst (λ z. IsTrue (has z n) ↔ Starts t 0 n) (sym c.in_ok-set.ensures) (none_start t c.args.count n);
    }

pub insert-requires : goal.insert-requires
insert-requires c =
    let node = c.default_feature-node.result in
    let below : node < length (node_packages c.args.numbers.graph.now) = start_below c.args.numbers.graph.now c.package.result.package_ix node ((c.default_feature-node.ensures node).0 refl) in
    omega (arith, below, c.loop-ix.invariant.size, c.requires.count)

pub loop-ix-preserved : goal.loop-ix-preserved
loop-ix-preserved c =
    let t = c.args.numbers.graph.now in
    let node = c.default_feature-node.result in
    let set : List Bool = c.loop-ix.set in
    let below : node < length (node_packages t) = start_below t c.package.result.package_ix node ((c.default_feature-node.ensures node).0 refl) in
    let within : node < length set = omega (arith, below, c.loop-ix.invariant.size, c.requires.count) in
    record {
      size = ap length c.insert.ensures ∙ length-set set node true ∙ c.loop-ix.invariant.size;
      starts = λ n. subst (λ z. IsTrue (has z n) ↔ Starts t (c.loop-ix.ix + 1) n) (sym c.insert.ensures) (next_start t c.loop-ix.ix c.package.result.package_ix node set c.package.ensures.number within c.default_feature-node.ensures c.loop-ix.invariant.starts n);
    }

pub returns-clause-members : goal.returns-clause-members
returns-clause-members c =
    let t = c.args.numbers.graph.now in
    let end : length t.packages ≤ c.loop-ix.ix = omega (arith, c.package_count-ix-end.ensures) in
    all_starts t c.loop-ix.ix c.loop-ix.set end c.loop-ix.invariant.starts
