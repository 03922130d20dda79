use Rattle.std.proofs.Common.{◌∙◌, ap, take}
use Rattle.std.specs.Prelude.{flat_map}
use Rattle.std.specs.Str.{bytes_eq}
use Rattle.guppy_packages.specs.Graph.{firsts}
use Rattle.guppy_packages.specs.Metadata.{link_table_of}
use Rattle.guppy_features.specs.graph_platforms.DeclaredSpecs.{link_specs}
use Rattle.guppy_features.proofs.TextSets.{lists_more}
use Rattle.guppy_features.proofs.graph_platforms.spec_texts.declared_specs.Goals as goal

pub loop-ix-preserved : goal.loop-ix-preserved
loop-ix-preserved c =
    let links = c.args.graph.now.links in
    let ix = c.loop-ix.ix in
    c.in_ok-insert_link.ensures (flat_map link_specs (take ix links)) c.loop-ix.invariant
    ∙ ap (firsts bytes_eq) (lists_more link_specs links ix (link_table_of c.link.result) (rw (← c.link_count-ix-end.ensures) c.loop-ix-test.true) c.link.ensures.link)
