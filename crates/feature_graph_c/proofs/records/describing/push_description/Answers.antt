use Rattle.std.proofs.Common.{◌++◌, ap}
use Rattle.feature_graph_c.specs.binary.Records.{flag, list, number}
use Rattle.feature_graph_c.specs.records.Descriptions.{Describes}
use Rattle.feature_graph_c.specs.records.Edges.{edge_record, warning_record, weak_record}
use Rattle.feature_graph_c.specs.records.Packages.{link_record, package_record}
use Rattle.feature_graph_c.proofs.Pushed.{pushed_five}
use Rattle.feature_graph_c.proofs.records.describing.push_description.Goals as goal

pub returns : goal.returns
returns c =
    let t = c.args.graph.now in
    let b = c.args.built.now in
    let packages = list package_record t.packages ++ list link_record t.links in
    let edges = list edge_record b.edges ++ list weak_record b.weak ++ list warning_record b.warnings in
    pushed_five (Describes t b) c.push_list.result c.args.bytes.now.items c.push_packages.new.bytes.items c.push_first_nodes.new.bytes.items c.push_edges.new.bytes.items c.push_defaults.new.bytes.items c.push_list.new.bytes.items
    packages (list number b.firsts) edges (list flag b.defaults) (list number c.list.result.now)
    c.in_ok-push_packages.ensures c.in_ok-push_first_nodes.ensures c.in_ok-push_edges.ensures c.in_ok-push_defaults.ensures c.push_list.ensures
    (record { order = c.order.result.now; is_order = c.order.ensures; bytes_are = ap (λ z. packages ++ list number b.firsts ++ edges ++ list flag b.defaults ++ list number z) c.list.ensures })
