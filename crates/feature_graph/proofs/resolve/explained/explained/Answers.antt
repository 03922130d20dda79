use Rattle.std.proofs.Common.{sym, subst}
use Rattle.walk_engine.specs.Walks.{was_accepted}
use Rattle.digraphs.specs.Bits.{has}
use Rattle.feature_graph.specs.Explained.{IsBacked, ListMembers}
use Rattle.feature_graph.specs.Views.{graph_of}
use Rattle.feature_graph.specs.inner.Listings.{AreOffered}
use Rattle.feature_graph.proofs.ToldLemmas.{refused_told}
use Rattle.feature_graph.proofs.resolve.explained.explained.Goals as goal

pub new-requires-2-clause-backed : goal.new-requires-2-clause-backed
new-requires-2-clause-backed c =
    let run = c.requires.run in
    subst (λ z. IsBacked z c.args.direction c.args.walked.1.items) (sym c.new.ensures.graph) (run.0, was_accepted run.2.walk.run, run.1, run.2.explanation)

pub new-requires-2-clause-listed : goal.new-requires-2-clause-listed
new-requires-2-clause-listed c = subst (λ m. ListMembers m c.args.walked.1.items) (sym c.new.ensures.members) c.requires.run.2.listed

pub new-requires-2-clause-offers : goal.new-requires-2-clause-offers
new-requires-2-clause-offers c =
    let g = c.args.graph in
    let b = g.built.now in
    let run = c.requires.run in
    let told = refused_told (graph_of g) g.is_built c.offers_are_links.ensures (c.content_of_graph.ensures.count b g.is_built) (λ d. c.content_of_graph.ensures.ends b d g.is_built) c.args.direction (has run.0) run.2.walk.run run.2.walk.legal in
    subst (λ z. AreOffered z c.args.walked.2.items) (sym c.new.ensures.graph) (subst (AreOffered (graph_of g)) (sym run.2.refused_in_order) told)
