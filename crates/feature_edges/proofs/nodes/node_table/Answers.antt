use Rattle.std.proofs.Common.{◌≡◌, ◌∙◌, ap, arith, length, map}
use Rattle.std.specs.List.{range_with_len}
use Rattle.guppy_packages.specs.Metadata.{package_table_of}
use Rattle.feature_edges.specs.Nodes.{first_node}
use Rattle.feature_edges.proofs.NodeLemmas.{packages_pushed, packages_all, count_before, firsts_next}
use Rattle.feature_edges.proofs.nodes.node_table.Goals as goal

pub loop-ix-preserved : goal.loop-ix-preserved
loop-ix-preserved c =
    let t = c.args.graph.now in
    let before : length c.loop-ix.packages.items ≡ first_node t c.loop-ix.ix = count_before t c.loop-ix.ix c.loop-ix.packages.items c.loop-ix.invariant.packages in
    let count : c.in_ok-narrow.field-0 ≡ first_node t c.loop-ix.ix = omega (arith, before, c.len.ensures, c.in_ok-narrow.ensures) in
    record {
      firsts = firsts_next t c.loop-ix.ix c.in_ok-narrow.field-0 c.loop-ix.firsts.items c.push.new.self.items c.loop-ix.invariant.firsts c.in_ok-push.ensures.items count;
      packages = packages_pushed t c.loop-ix.ix c.package.result.package_ix (package_table_of c.package.result) c.loop-ix.packages.items c.push_nodes.new.packages.items c.loop-ix.invariant.packages c.in_ok-push_nodes.ensures c.package.ensures.number c.package.ensures.package;
    }

pub returns : goal.returns
returns c =
    let end : c.loop-ix.ix ≡ length c.args.graph.now.packages = omega arith in
    record {
      firsts = c.loop-ix.invariant.firsts ∙ ap (λ n. map (first_node c.args.graph.now) (range_with_len 0 n)) end;
      packages = c.loop-ix.invariant.packages ∙ packages_all c.args.graph.now c.loop-ix.ix end;
    }
