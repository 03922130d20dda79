use Rattle.std.proofs.Common.{◌∙◌}
use Rattle.guppy_packages.specs.Metadata.{package_table_of}
use Rattle.feature_edges.specs.Warnings.{warnings_in}
use Rattle.feature_edges.proofs.NodeLemmas.{append-none}
use Rattle.feature_edges.proofs.PushLemmas.{around}
use Rattle.feature_edges.proofs.collect.features.push_around.Goals as goal

pub returns-clause-keys : goal.returns-clause-keys
returns-clause-keys c =
    around c.args.input.numbers.graph.now c.args.input.metadata.package_ix (package_table_of c.args.input.metadata) c.clear.new.self.items c.push_links.new.collected.keys.items c.push_optional.new.keys.items c.sort_keys.new.keys.items c.clear.ensures.items c.in_ok-push_links.ensures.keys c.in_ok-push_optional.ensures c.sort_keys.ensures.permutation

pub returns-clause-items : goal.returns-clause-items
returns-clause-items c = c.in_ok-push_links.ensures.of_items ∙ append-none (warnings_in c.args.collected.now.item_warnings)

pub returns-clause-names : goal.returns-clause-names
returns-clause-names c = c.in_ok-push_links.ensures.of_names
