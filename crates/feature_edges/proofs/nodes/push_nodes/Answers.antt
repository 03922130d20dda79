use Rattle.std.proofs.Common.{◌∙◌, ap, sym, length}
use Rattle.std.proofs.lemmas.List.{length-map}
use Rattle.std.specs.String.{string_bytes}
use Rattle.guppy_packages.specs.NamedFeature.{feature_table}
use Rattle.guppy_packages.specs.Metadata.{package_table_of}
use Rattle.std.proofs.lemmas.Result.{on_ok_weaker}
use Rattle.feature_edges.proofs.NodeLemmas.{labels_pushed}
use Rattle.feature_edges.proofs.nodes.push_nodes.Goals as goal

pub returns : goal.returns
returns c = on_ok_weaker c.push_times-3.result (λ last. labels_pushed (package_table_of c.args.metadata) c.args.metadata.package_ix c.in_ok-ix.ix (length c.named_features.result.now) (length c.optional_deps.result.now) c.args.packages.now.items c.push_times.new.numbers.items c.push_times-2.new.numbers.items c.push_times-3.new.numbers.items
    (sym (length-map c.named_features.result.now feature_table) ∙ ap length c.named_features.ensures)
    (sym (length-map c.optional_deps.result.now string_bytes) ∙ ap length c.optional_deps.ensures)
    (c.in_ok-ix.ensures ∙ c.package_ix.ensures.number) c.in_ok-push_times.ensures c.in_ok-push_times-2.ensures last) c.push_times-3.ensures
