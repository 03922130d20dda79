use Rattle.std.proofs.Common.{◌≡◌, ◌∙◌, ap, subst, map, ℕ, List}
use Rattle.std.specs.Prelude.{◌↔◌, IsTrue}
use Rattle.digraphs.specs.Bits.{has}
use Rattle.walk_engine.specs.Walks.{Agrees, Least}
use Rattle.walk_engine.specs.Laws.{every}
use Rattle.guppy_packages.specs.Rows.{Text}
use Rattle.guppy_packages.specs.Tables.{Tables}
use Rattle.feature_labels.specs.Names.{LabelName}
use Rattle.feature_core.specs.Built.{Built, IsBuilt}
use Rattle.feature_core.specs.Nodes.{nodes}
use Rattle.feature_core.specs.Offers.{content_of}
use Rattle.feature_graph.specs.Names.{AreKnown, HoldsExactly, at_places}
use Rattle.feature_graph.specs.Views.{tables_of_graph}
use Rattle.guppy_tool.specs.Answers.{listing}
use Rattle.guppy_tool.specs.Words.{given_of}
use Rattle.guppy_tool.proofs.AnswerLemmas.{agrees_all}
use Rattle.guppy_tool.proofs.resolving.visited.Goals as goal

pub returns : goal.returns
returns c =
    let t : Tables = c.args.graph.now in
    let ids : List (Text × LabelName) = map given_of c.args.given.now in
    let built : Built = c.args.built.now in
    let query = c.in_ok-query.query in
    let asked = c.in_ok-query.ensures in
    let set = c.in-Ok.set in
    let walk = c.in-Ok.ensures.walk in
    let tables : tables_of_graph c.feature_graph.result ≡ t = ap (λ g. g.tables) c.feature_graph.ensures in
    let own : query.graph.tables ≡ t = ap (λ g. g.tables) asked.graph ∙ tables in
    let own_built : query.graph.built ≡ built = ap (λ g. g.built) asked.graph ∙ ap (λ g. g.built) c.feature_graph.ensures in
    let own_set : set.graph.tables ≡ t = ap (λ g. g.tables) c.in-Ok.ensures.graph ∙ own in
    let agrees : Agrees every walk.run = agrees_all _ (λ s e h b u gives. gives) _ _ walk.run walk.calls in
    let least : (b : Built) → IsBuilt t b → (n : ℕ) → IsTrue (has set.members n) ↔ Least (content_of c.args.direction b) (has query.initials) every n = λ b x n.
    subst (λ z. IsTrue (has set.members n) ↔ Least z (has query.initials) every n)
    (ap (λ d. content_of d query.graph.built) asked.direction ∙ ap (λ g. content_of c.args.direction g) own_built ∙ c.one_content.ensures built b c.args.direction c.requires x)
    (walk.least every agrees n) in
    record {
      known = subst (λ z. AreKnown z ids) tables asked.known;
      initials = query.initials;
      given = subst (λ z. HoldsExactly z query.initials ids) tables asked.initials;
      built = built;
      is_built = c.requires;
      members = set.members;
      least = least;
      lines = subst (λ z. c.in_ok-list.field-0.items ≡ listing (at_places (has set.members) (nodes z))) own_set c.in_ok-list.ensures;
    }
