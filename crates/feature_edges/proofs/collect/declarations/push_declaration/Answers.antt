use Rattle.std.proofs.lemmas.Result.{on_ok_weaker}
use Rattle.guppy_packages.specs.Metadata.{link_number_of, link_table_of}
use Rattle.guppy_packages.specs.Stored.{declared}
use Rattle.feature_edges.proofs.AddsLemmas.{element_at_place}
use Rattle.feature_edges.proofs.RequestLemmas.{by_start}
use Rattle.feature_edges.proofs.collect.declarations.push_declaration.Goals as goal

pub start-from-requires : goal.start-from-requires
start-from-requires c = record {
  graph = c.requires.graph;
  gates = c.args.input.gate_nodes;
  declaration = element_at_place (link_table_of c.args.link).declarations c.args.place (declared c.args.declaration.now) c.requires.declaration;
}

pub returns : goal.returns
returns c =
    let before = c.args.collected.now.keys.items in
    let after = c.push_requests.new.collected.keys.items in
    on_ok_weaker c.push_requests.result
    (λ h. record {
      keys = by_start c.args.input.numbers.graph.now (link_number_of c.args.link) c.args.place (link_table_of c.args.link) (declared c.args.declaration.now) c.start-from.result before after c.requires.declaration c.start-from.ensures h.keys;
      of_items = h.of_items;
      of_names = h.of_names;
    })
    c.push_requests.ensures
